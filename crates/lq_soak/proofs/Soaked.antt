-- A soak ends by a status that passes: a fault of its disk in memory is want of memory.
use Rattle.std.proofs.Common.{inl, inr, refl, subst, sym}
use Rattle.std.specs.Prelude.{Err, IfErr, List, None, Ok, OnOk, Option, Result, Some, true, ◌≡◌}
use Rattle.lq_base.specs.declared.dialect.Dialect.{Dialect}
use Rattle.lq_commands.proofs.PlainRefusals.{IsPlain}
use Rattle.lq_commands.specs.Jobs.{is_diskless}
use Rattle.lq_commands.specs.Refusals.{Answers, IsFault, ends}
use Rattle.lq_commands.specs.Works.{Works, is_finished}
use Rattle.lq_store.specs.Journal.{State}
use Rattle.lq_tell.specs.declared.done.Done.{Done}
use Rattle.lq_tell.specs.declared.status.Status.{Status}
use Rattle.lq_tell.specs.declared.status.Status.TheVariants as status
use Rattle.lq_track.specs.Database.{Database}
use Rattle.lq_turns.specs.declared.call.Call.{Call}
use Rattle.lq_jobs.proofs.RefusedKinds.{ends_soak}
use Rattle.lq_jobs.specs.Bytes.{copy_status}

plain_passes : (s : Status) → is_diskless s ≡ true → is_diskless (copy_status s) ≡ true
plain_passes status.Done is = is
plain_passes status.Usage is = is
plain_passes status.ReadFault is = is
plain_passes (status.Changelog fault) is = is
plain_passes (status.Invalid faults) is = is
plain_passes (status.Locked lock) is = is
plain_passes (status.Halted identity why) is = is
plain_passes (status.Refused identity statement kept reason) is = is
plain_passes status.NoTarget is = is
plain_passes (status.NotReversible of) is = is
plain_passes status.NothingToUndo is = is
plain_passes (status.NotWritable at) is = is
plain_passes status.DiskFault is = refl
plain_passes (status.Damaged place) is = is
plain_passes (status.Full used next) is = is
plain_passes status.WriteFault is = is
plain_passes status.OutOfMemory is = is
plain_passes (status.Busy session) is = is

fault_passes : (s : Status) → IsFault s → is_diskless (copy_status s) ≡ true
fault_passes s (inl disk) = subst (λ s. is_diskless (copy_status s) ≡ true) (sym disk) refl
fault_passes s (inr memory) = subst (λ s. is_diskless (copy_status s) ≡ true) (sym memory) refl

refused_passes : (o : Option Status) (s : Status) → IsPlain o → Answers o (Err s) → is_diskless (copy_status s) ≡ true
refused_passes None s plain answers = fault_passes s answers
refused_passes (Some refused) s plain (inl is) = subst (λ s. is_diskless (copy_status s) ≡ true) (sym is) (plain_passes refused plain)
refused_passes (Some refused) s plain (inr fault) = fault_passes s fault

-- it refused, or met a fault
pub refusal_passes : (o : Option Status) (s now : Status) → IsPlain o → Answers o (Err s) → now ≡ copy_status s → is_diskless now ≡ true
refusal_passes o s now plain answers is = subst (λ s. is_diskless s ≡ true) (sym is) (refused_passes o s plain answers)

-- it ended in its run
pub end_passes : (r : Result (Unit {0}) Status) (s : Status) → ends s ≡ true → IfErr r (λ e. e ≡ s) → IfErr r (λ e. is_diskless e ≡ true)
end_passes (Ok u) s ended is = tt
end_passes (Err e) s ended is = subst (λ s. is_diskless s ≡ true) (sym is) (ends_soak s ended)

-- a store on which a command was done is live
pub done_lives : (d : Dialect) (calls : List Call) (database : Database) (x y : State) (done : Done) (r : Result (Unit {0}) Status) → Works d calls database x (Ok done) y → OnOk r (done.status ≡ status.Done) → OnOk r (y.live ≡ true)
done_lives d calls database x y done (Ok u) works is = (works.0 (subst (λ s. is_finished s ≡ true) (sym is) refl)).database_is.live
done_lives d calls database x y done (Err s) works is = tt
