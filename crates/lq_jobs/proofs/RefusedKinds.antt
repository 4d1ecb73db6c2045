-- What a command answers is of the database, and no damage.
use Rattle.std.proofs.Common.{inl, inr, refl, subst, sym}
use Rattle.std.specs.Prelude.{Err, List, None, Ok, Option, Result, Some, false, true, ℕ, ◌≡◌}
use Rattle.lq_base.specs.declared.dialect.Dialect.{Dialect}
use Rattle.lq_commands.proofs.PlainRefusals.{IsPlain}
use Rattle.lq_commands.specs.Jobs.{is_diskless, is_of_database}
use Rattle.lq_commands.specs.Refusals.{Answers, IsFault, ends}
use Rattle.lq_tell.specs.declared.done.Done.{Done}
use Rattle.lq_tell.specs.declared.status.Status.{Status}
use Rattle.lq_tell.specs.declared.status.Status.TheVariants as status
use Rattle.lq_jobs.specs.Bytes.{TellsDamage}
use Rattle.lq_jobs.specs.Kinds.{IsOfDatabase}

not_true : false ≡ true → ⊥
not_true h = Prim.cc

soak_is : (s : Status) → is_diskless s ≡ true → is_of_database s ≡ true
soak_is status.Done is = is
soak_is status.Usage is = is
soak_is status.ReadFault is = is
soak_is (status.Changelog fault) is = is
soak_is (status.Invalid faults) is = is
soak_is (status.Locked lock) is = is
soak_is (status.Halted identity why) is = is
soak_is (status.Refused identity statement kept reason) is = is
soak_is status.NoTarget is = is
soak_is (status.NotReversible of) is = is
soak_is status.NothingToUndo is = is
soak_is (status.NotWritable at) is = is
soak_is status.DiskFault is = refl
soak_is (status.Damaged place) is = refl
soak_is (status.Full used next) is = is
soak_is status.WriteFault is = is
soak_is status.OutOfMemory is = is
soak_is (status.Busy session) is = is

-- a status that passes as a soak's is no damage
no_damage : (d : Dialect) (told : Option (List ℕ)) (s : Status) → is_diskless s ≡ true → TellsDamage d told (Err s)
no_damage d told status.Done is = tt
no_damage d told status.Usage is = tt
no_damage d told status.ReadFault is = tt
no_damage d told (status.Changelog fault) is = tt
no_damage d told (status.Invalid faults) is = tt
no_damage d told (status.Locked lock) is = tt
no_damage d told (status.Halted identity why) is = tt
no_damage d told (status.Refused identity statement kept reason) is = tt
no_damage d told status.NoTarget is = tt
no_damage d told (status.NotReversible of) is = tt
no_damage d told status.NothingToUndo is = tt
no_damage d told (status.NotWritable at) is = tt
no_damage d told status.DiskFault is = tt
no_damage d told (status.Damaged place) is = absurd (not_true is)
no_damage d told (status.Full used next) is = tt
no_damage d told status.WriteFault is = tt
no_damage d told status.OutOfMemory is = tt
no_damage d told (status.Busy session) is = tt

fault_is : (s : Status) → IsFault s → is_of_database s ≡ true
fault_is s (inl disk) = subst (λ s. is_of_database s ≡ true) (sym disk) refl
fault_is s (inr memory) = subst (λ s. is_of_database s ≡ true) (sym memory) refl

fault_tells : (d : Dialect) (told : Option (List ℕ)) (s : Status) → IsFault s → TellsDamage d told (Err s)
fault_tells d told s (inl disk) = subst (λ s. TellsDamage d told (Err s)) (sym disk) tt
fault_tells d told s (inr memory) = subst (λ s. TellsDamage d told (Err s)) (sym memory) tt

pub answers_kind : (o : Option Status) (r : Result Done Status) → IsPlain o → Answers o r → IsOfDatabase r
answers_kind None (Ok done) plain answers = answers
answers_kind None (Err s) plain answers = fault_is s answers
answers_kind (Some refused) (Ok done) plain answers = absurd answers
answers_kind (Some refused) (Err s) plain (inl is) = subst (λ s. is_of_database s ≡ true) (sym is) (soak_is refused plain)
answers_kind (Some refused) (Err s) plain (inr fault) = fault_is s fault

pub answers_whole : (d : Dialect) (told : Option (List ℕ)) (o : Option Status) (r : Result Done Status) → IsPlain o → Answers o r → TellsDamage d told r
answers_whole d told None (Ok done) plain answers = tt
answers_whole d told None (Err s) plain answers = fault_tells d told s answers
answers_whole d told (Some refused) (Ok done) plain answers = tt
answers_whole d told (Some refused) (Err s) plain (inl is) = subst (λ s. TellsDamage d told (Err s)) (sym is) (no_damage d told refused plain)
answers_whole d told (Some refused) (Err s) plain (inr fault) = fault_tells d told s fault

-- want of memory is always an answer
pub answers_memory : (o : Option Status) → Answers o (Err status.OutOfMemory)
answers_memory None = inr refl
answers_memory (Some refused) = inr (inr refl)

pub answers_disk : (o : Option Status) → Answers o (Err status.DiskFault)
answers_disk None = inl refl
answers_disk (Some refused) = inr (inl refl)

-- what came to an end ended in its run
pub answers_ends : (o : Option Status) (done : Done) → Answers o (Ok done) → ends done.status ≡ true
answers_ends None done answers = answers
answers_ends (Some refused) done answers = absurd answers

pub ends_soak : (s : Status) → ends s ≡ true → is_diskless s ≡ true
ends_soak status.Done is = refl
ends_soak status.Usage is = absurd (not_true is)
ends_soak status.ReadFault is = absurd (not_true is)
ends_soak (status.Changelog fault) is = absurd (not_true is)
ends_soak (status.Invalid faults) is = refl
ends_soak (status.Locked lock) is = refl
ends_soak (status.Halted identity why) is = refl
ends_soak (status.Refused identity statement kept reason) is = refl
ends_soak status.NoTarget is = refl
ends_soak (status.NotReversible of) is = refl
ends_soak status.NothingToUndo is = refl
ends_soak (status.NotWritable at) is = refl
ends_soak status.DiskFault is = absurd (not_true is)
ends_soak (status.Damaged place) is = absurd (not_true is)
ends_soak (status.Full used next) is = refl
ends_soak status.WriteFault is = absurd (not_true is)
ends_soak status.OutOfMemory is = refl
ends_soak (status.Busy session) is = refl
