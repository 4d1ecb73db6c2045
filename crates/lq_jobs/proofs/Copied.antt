-- Of a copy of a file in memory.
use Rattle.std.proofs.Common.{ap, refl, subst, sym, ◌∙◌}
use Rattle.std.specs.Prelude.{Err, IfSome, List, None, Ok, Option, Result, Some, length, true, ℕ, ◌<◌, ◌≡◌}
use Rattle.lq_base.specs.declared.dialect.Dialect.{Dialect}
use Rattle.lq_commands.specs.Jobs.{is_of_database}
use Rattle.lq_commands.specs.Refusals.{Answers}
use Rattle.lq_entries.specs.Load.{catalogue_of, read_entries}
use Rattle.lq_frames.proofs.Appended.{reads_too_long}
use Rattle.lq_frames.specs.Body.{read_frames}
use Rattle.lq_model.specs.Catalogue.{Catalogue}
use Rattle.lq_tell.specs.declared.done.Done.{Done}
use Rattle.lq_tell.specs.declared.status.Status.{Status}
use Rattle.lq_tell.specs.declared.status.Status.TheVariants as status
use Rattle.lq_track.specs.Database.{Database}
use Rattle.lq_jobs.proofs.RefusedKinds.{answers_disk, answers_memory}
use Rattle.lq_jobs.specs.Bytes.{Opens, TellsDamage, most_bytes, IsNoCopy, copy_status}
use Rattle.lq_jobs.specs.Kinds.{IsOfDatabase}

ok_no_err : (r : Result Catalogue ℕ) (c : Catalogue) (n : ℕ) → r ≡ Ok c → r ≡ Err n → ⊥
ok_no_err r c n ok err = Prim.cc

err_same : (n m : ℕ) → (let r : Result Catalogue ℕ = Err n in r) ≡ Err m → n ≡ m
err_same n m h = Prim.cc

-- a disk in memory of the bytes that were read
pub copied_as : (told copied : Option (List ℕ)) (read : List ℕ) → copied ≡ Some read → IfSome told (λ bytes. bytes ≡ read) → IfSome told (λ bytes. copied ≡ Some bytes)
copied_as None copied read is same = tt
copied_as (Some bytes) copied read is same = is ∙ ap Some (sym same)

-- a file that is too long is damaged at the limit
pub too_long : (d : Dialect) (limit : ℕ) (bytes : List ℕ) → limit < length bytes → catalogue_of d limit bytes ≡ Err limit
too_long d limit bytes long = ap (λ frames. read_entries d (read_frames frames)) (reads_too_long d limit bytes long)

pub long_told : (d : Dialect) (told : Option (List ℕ)) (place : ℕ) → place ≡ most_bytes → IfSome told (λ bytes. most_bytes < length bytes) → IfSome told (λ bytes. catalogue_of d most_bytes bytes ≡ Err place)
long_told d None place is long = tt
long_told d (Some bytes) place is long = too_long d most_bytes bytes long ∙ ap Err (sym is)

not_opened : (d : Dialect) (told : Option (List ℕ)) (database : Database) (n : ℕ) → Opens d told database → IfSome told (λ bytes. catalogue_of d most_bytes bytes ≡ Err n) → ⊥
not_opened d told database n opens damaged =
    ok_no_err (catalogue_of d most_bytes opens.bytes) opens.catalogue n opens.read (subst (λ o. IfSome o (λ bytes. catalogue_of d most_bytes bytes ≡ Err n)) opens.told_is damaged)

-- where there is no copy
module _ (d : Dialect) (told : Option (List ℕ)) where
  pub no_copy_answers : (s : Status) (o : Option Status) (database : Database) → IsNoCopy told s → Opens d told database → Answers o (Err s)
  no_copy_answers (status.Damaged place) o database is opens = absurd (not_opened d told database place opens (long_told d told place is.0 is.1))
  no_copy_answers status.DiskFault o database is opens = answers_disk o
  no_copy_answers status.OutOfMemory o database is opens = answers_memory o
  no_copy_answers status.Done o database is opens = absurd is
  no_copy_answers status.Usage o database is opens = absurd is
  no_copy_answers status.ReadFault o database is opens = absurd is
  no_copy_answers (status.Changelog fault) o database is opens = absurd is
  no_copy_answers (status.Invalid faults) o database is opens = absurd is
  no_copy_answers (status.Locked lock) o database is opens = absurd is
  no_copy_answers (status.Halted identity why) o database is opens = absurd is
  no_copy_answers (status.Refused identity statement kept reason) o database is opens = absurd is
  no_copy_answers status.NoTarget o database is opens = absurd is
  no_copy_answers (status.NotReversible of) o database is opens = absurd is
  no_copy_answers status.NothingToUndo o database is opens = absurd is
  no_copy_answers (status.NotWritable at) o database is opens = absurd is
  no_copy_answers (status.Full used next) o database is opens = absurd is
  no_copy_answers status.WriteFault o database is opens = absurd is
  no_copy_answers (status.Busy session) o database is opens = absurd is

  pub no_copy_tells : (s : Status) → IsNoCopy told s → TellsDamage d told (Err s)
  no_copy_tells (status.Damaged place) is = long_told d told place is.0 is.1
  no_copy_tells status.DiskFault is = tt
  no_copy_tells status.OutOfMemory is = tt
  no_copy_tells status.Done is = tt
  no_copy_tells status.Usage is = tt
  no_copy_tells status.ReadFault is = tt
  no_copy_tells (status.Changelog fault) is = tt
  no_copy_tells (status.Invalid faults) is = tt
  no_copy_tells (status.Locked lock) is = tt
  no_copy_tells (status.Halted identity why) is = tt
  no_copy_tells (status.Refused identity statement kept reason) is = tt
  no_copy_tells status.NoTarget is = tt
  no_copy_tells (status.NotReversible of) is = tt
  no_copy_tells status.NothingToUndo is = tt
  no_copy_tells (status.NotWritable at) is = tt
  no_copy_tells (status.Full used next) is = tt
  no_copy_tells status.WriteFault is = tt
  no_copy_tells (status.Busy session) is = tt

pub no_copy_kind : (told : Option (List ℕ)) (s : Status) → IsNoCopy told s → IsOfDatabase (Err s)
no_copy_kind told (status.Damaged place) is = refl
no_copy_kind told status.DiskFault is = refl
no_copy_kind told status.OutOfMemory is = refl
no_copy_kind told status.Done is = absurd is
no_copy_kind told status.Usage is = absurd is
no_copy_kind told status.ReadFault is = absurd is
no_copy_kind told (status.Changelog fault) is = absurd is
no_copy_kind told (status.Invalid faults) is = absurd is
no_copy_kind told (status.Locked lock) is = absurd is
no_copy_kind told (status.Halted identity why) is = absurd is
no_copy_kind told (status.Refused identity statement kept reason) is = absurd is
no_copy_kind told status.NoTarget is = absurd is
no_copy_kind told (status.NotReversible of) is = absurd is
no_copy_kind told status.NothingToUndo is = absurd is
no_copy_kind told (status.NotWritable at) is = absurd is
no_copy_kind told (status.Full used next) is = absurd is
no_copy_kind told status.WriteFault is = absurd is
no_copy_kind told (status.Busy session) is = absurd is

-- what opens in the file opens in its copy
pub copy_opens : (d : Dialect) (told copied : Option (List ℕ)) (database : Database) → IfSome told (λ bytes. copied ≡ Some bytes) → Opens d told database → Opens d copied database
copy_opens d told copied database copy opens = record {
  bytes = opens.bytes;
  told_is = subst (λ o. IfSome o (λ bytes. copied ≡ Some bytes)) opens.told_is copy;
  catalogue = opens.catalogue;
  read = opens.read;
  stands = opens.stands;
}

-- what is told of the copy is told of the file
copy_place : (d : Dialect) (told copied : Option (List ℕ)) (place : ℕ) → IfSome told (λ bytes. copied ≡ Some bytes) → IfSome copied (λ bytes. catalogue_of d most_bytes bytes ≡ Err place)
    → IfSome told (λ bytes. catalogue_of d most_bytes bytes ≡ Err place)
copy_place d None copied place copy damaged = tt
copy_place d (Some bytes) copied place copy damaged = subst (λ o. IfSome o (λ bytes. catalogue_of d most_bytes bytes ≡ Err place)) copy damaged

module _ (d : Dialect) (told copied : Option (List ℕ)) (copy : IfSome told (λ bytes. copied ≡ Some bytes)) where
  err_tells : (s : Status) → TellsDamage d copied (Err s) → TellsDamage d told (Err s)
  err_tells (status.Damaged place) tells = copy_place d told copied place copy tells
  err_tells status.DiskFault tells = tt
  err_tells status.OutOfMemory tells = tt
  err_tells status.Done tells = tt
  err_tells status.Usage tells = tt
  err_tells status.ReadFault tells = tt
  err_tells (status.Changelog fault) tells = tt
  err_tells (status.Invalid faults) tells = tt
  err_tells (status.Locked lock) tells = tt
  err_tells (status.Halted identity why) tells = tt
  err_tells (status.Refused identity statement kept reason) tells = tt
  err_tells status.NoTarget tells = tt
  err_tells (status.NotReversible of) tells = tt
  err_tells status.NothingToUndo tells = tt
  err_tells (status.NotWritable at) tells = tt
  err_tells (status.Full used next) tells = tt
  err_tells status.WriteFault tells = tt
  err_tells (status.Busy session) tells = tt

  pub copy_tells : (r : Result Done Status) → TellsDamage d copied r → TellsDamage d told r
  copy_tells (Ok done) tells = tt
  copy_tells (Err s) tells = err_tells s tells

pub memory_answers : (o : Option Status) (s : Status) → s ≡ status.OutOfMemory → Answers o (Err s)
memory_answers o s memory = subst (λ s. Answers o (Err s)) (sym memory) (answers_memory o)

-- a fault of the disk in memory
pub copy_fault_answers : (o : Option Status) (s : Status) → Answers o (Err s) → Answers o (Err (copy_status s))
copy_fault_answers o (status.Damaged place) answers = answers
copy_fault_answers o status.DiskFault answers = answers_memory o
copy_fault_answers o status.OutOfMemory answers = answers
copy_fault_answers o status.Done answers = answers
copy_fault_answers o status.Usage answers = answers
copy_fault_answers o status.ReadFault answers = answers
copy_fault_answers o (status.Changelog fault) answers = answers
copy_fault_answers o (status.Invalid faults) answers = answers
copy_fault_answers o (status.Locked lock) answers = answers
copy_fault_answers o (status.Halted identity why) answers = answers
copy_fault_answers o (status.Refused identity statement kept reason) answers = answers
copy_fault_answers o status.NoTarget answers = answers
copy_fault_answers o (status.NotReversible of) answers = answers
copy_fault_answers o status.NothingToUndo answers = answers
copy_fault_answers o (status.NotWritable at) answers = answers
copy_fault_answers o (status.Full used next) answers = answers
copy_fault_answers o status.WriteFault answers = answers
copy_fault_answers o (status.Busy session) answers = answers

pub copy_fault_tells : (d : Dialect) (told : Option (List ℕ)) (s : Status) → TellsDamage d told (Err s) → TellsDamage d told (Err (copy_status s))
copy_fault_tells d told (status.Damaged place) tells = tells
copy_fault_tells d told status.DiskFault tells = tt
copy_fault_tells d told status.OutOfMemory tells = tt
copy_fault_tells d told status.Done tells = tt
copy_fault_tells d told status.Usage tells = tt
copy_fault_tells d told status.ReadFault tells = tt
copy_fault_tells d told (status.Changelog fault) tells = tt
copy_fault_tells d told (status.Invalid faults) tells = tt
copy_fault_tells d told (status.Locked lock) tells = tt
copy_fault_tells d told (status.Halted identity why) tells = tt
copy_fault_tells d told (status.Refused identity statement kept reason) tells = tt
copy_fault_tells d told status.NoTarget tells = tt
copy_fault_tells d told (status.NotReversible of) tells = tt
copy_fault_tells d told status.NothingToUndo tells = tt
copy_fault_tells d told (status.NotWritable at) tells = tt
copy_fault_tells d told (status.Full used next) tells = tt
copy_fault_tells d told status.WriteFault tells = tt
copy_fault_tells d told (status.Busy session) tells = tt

pub copy_fault_kind : (s : Status) → is_of_database s ≡ true → is_of_database (copy_status s) ≡ true
copy_fault_kind (status.Damaged place) is = is
copy_fault_kind status.DiskFault is = refl
copy_fault_kind status.OutOfMemory is = is
copy_fault_kind status.Done is = is
copy_fault_kind status.Usage is = is
copy_fault_kind status.ReadFault is = is
copy_fault_kind (status.Changelog fault) is = is
copy_fault_kind (status.Invalid faults) is = is
copy_fault_kind (status.Locked lock) is = is
copy_fault_kind (status.Halted identity why) is = is
copy_fault_kind (status.Refused identity statement kept reason) is = is
copy_fault_kind status.NoTarget is = is
copy_fault_kind (status.NotReversible of) is = is
copy_fault_kind status.NothingToUndo is = is
copy_fault_kind (status.NotWritable at) is = is
copy_fault_kind (status.Full used next) is = is
copy_fault_kind status.WriteFault is = is
copy_fault_kind (status.Busy session) is = is

pub copy_no_disk : (s : Status) → copy_status s ≡ status.DiskFault → ⊥
copy_no_disk (status.Damaged place) is = Prim.cc
copy_no_disk status.DiskFault is = Prim.cc
copy_no_disk status.OutOfMemory is = Prim.cc
copy_no_disk status.Done is = Prim.cc
copy_no_disk status.Usage is = Prim.cc
copy_no_disk status.ReadFault is = Prim.cc
copy_no_disk (status.Changelog fault) is = Prim.cc
copy_no_disk (status.Invalid faults) is = Prim.cc
copy_no_disk (status.Locked lock) is = Prim.cc
copy_no_disk (status.Halted identity why) is = Prim.cc
copy_no_disk (status.Refused identity statement kept reason) is = Prim.cc
copy_no_disk status.NoTarget is = Prim.cc
copy_no_disk (status.NotReversible of) is = Prim.cc
copy_no_disk status.NothingToUndo is = Prim.cc
copy_no_disk (status.NotWritable at) is = Prim.cc
copy_no_disk (status.Full used next) is = Prim.cc
copy_no_disk status.WriteFault is = Prim.cc
copy_no_disk (status.Busy session) is = Prim.cc
