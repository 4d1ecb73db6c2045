-- A journal as a store sees it: its entries without their places, and what a crash may leave of them.
use Rattle.std.specs.List.{sum_by}
use Rattle.std.specs.Option.{option_and_then, option_map}
use Rattle.std.specs.Prelude.{Bool, Err, IfSome, List, None, Ok, Option, Result, Some, [], false, is_some, map, true, ℕ, ◌++◌, ◌+◌, ◌∷◌, ◌≡◌}
use Rattle.lq_base.specs.declared.dialect.Dialect.{Dialect}
use Rattle.lq_frames.specs.Body.{journal_of}
use Rattle.lq_frames.specs.declared.entry.Body.{Body}
use Rattle.lq_frames.specs.declared.entry.Body.TheVariants as body
use Rattle.lq_frames.specs.declared.entry.Entry.{Entry as Placed}
use Rattle.lq_journal.specs.State.{IsLoaded, dialect_of, limit_of, used_of}
use Rattle.lq_journal.specs.declared.fault.AppendFault.{AppendFault}
use Rattle.lq_journal.specs.declared.fault.AppendFault.TheVariants.{Disk, Full}
use Rattle.lq_journal.specs.declared.journal.Journal.{Journal}
use Rattle.lq_model.specs.declared.caller.Room.{Room}
use Rattle.lq_model.specs.declared.fault.StoreFault.{StoreFault}
use Rattle.lq_model.specs.declared.fault.StoreFault.TheVariants as fault
use Rattle.lq_outside.specs.Crash.{Crashes as DiskCrashes, Settled}
use Rattle.lq_store.specs.Journal.{Crashes, Entry, IsFrontOf, end_of, is_full, size_of_all}
use Rattle.lq_store.specs.Journal.Entry.{Stated, Texts}

pub record Log : Type 0 where
  pub dialect : Dialect
  pub limit : ℕ
  pub used : ℕ
  -- where they are told
  pub entries : Option (List Entry)

abbrev pub as_entry : Body → Entry
as_entry (body.Texts texts) = Texts texts
as_entry (body.State bytes) = Stated bytes

abbrev pub unplaced : Placed → Entry
unplaced entry = as_entry entry.body

-- the entries, where there is no damage
abbrev pub if_undamaged : Result (List Placed) ℕ → Option (List Entry)
if_undamaged (Ok entries) = Some (map unplaced entries)
if_undamaged (Err at) = None

abbrev pub entries_in : Dialect → ℕ → Option (List ℕ) → Option (List Entry)
entries_in d limit told = option_and_then if_undamaged (option_map (journal_of d limit) told)

abbrev pub log_of : {D : Type 0} → Option (List ℕ) → Journal D → Log
log_of told journal = record { dialect = dialect_of journal; limit = limit_of journal; used = used_of journal; entries = entries_in (dialect_of journal) (limit_of journal) told }

-- the journals that a crash of the disk may leave
abbrev pub crashes_in : Dialect → ℕ → DiskCrashes → Crashes
crashes_in d limit crashes = record {
  is_honest = crashes.is_honest;
  moment = crashes.moment;
  left_since = λ t left. (bytes : List ℕ) × crashes.left_since t bytes × (if_undamaged (journal_of d limit bytes) ≡ left);
}

abbrev pub IsUndamaged : Dialect → ℕ → Option (List ℕ) → Type 0
IsUndamaged d limit told = IfSome told (λ bytes. is_some (if_undamaged (journal_of d limit bytes)) ≡ true)

-- a journal that no call has failed on: all is on the disk, and is no damage
pub record IsWhole {D : Type 0} (told : Option (List ℕ)) (crashes : DiskCrashes) (journal : Journal D) : Type 0 where
  pub loaded : IsLoaded told journal
  pub settled : Settled told crashes
  pub undamaged : IsUndamaged (dialect_of journal) (limit_of journal) told

-- with entries behind the others
abbrev pub gained : List Entry → Log → Log
gained more x = record x { entries = option_map (λ entries. entries ++ more) x.entries; used = x.used + size_of_all more }

-- a front of the entries was written
pub record IsCut (written : List Entry) (x y : Log) : Type 0 where
  pub dialect_is : y.dialect ≡ x.dialect
  pub limit_is : y.limit ≡ x.limit
  pub front : List Entry
  pub is_front : IsFrontOf written front
  pub entries_are : y.entries ≡ option_map (λ entries. entries ++ front) x.entries

-- what adding entries may answer
abbrev pub MayAppend : {T : Type 0} → Room → List Entry → Log → Result T AppendFault → Log → Type 0
MayAppend room written x (Ok _) y = (is_full (end_of room x.limit) x.used written ≡ false) × (y ≡ gained written x)
MayAppend room written x (Err Disk) y = IsCut written x y
MayAppend room written x (Err (Full used next)) y = (is_full (end_of room x.limit) x.used written ≡ true) × ((used ≡ x.used) × ((next ≡ size_of_all written) × (y ≡ x)))

-- unless the disk failed
abbrev pub UnlessDisk : {T : Type 0} → Result T AppendFault → Type 0 → Type 0
UnlessDisk (Ok _) P = P
UnlessDisk (Err Disk) P = Unit {0}
UnlessDisk (Err (Full used next)) P = P

-- what writing entries may answer, where want of memory is possible
abbrev pub MayWrite : {T : Type 0} → Room → List Entry → Log → Result T StoreFault → Log → Type 0
MayWrite room written x (Ok _) y = (is_full (end_of room x.limit) x.used written ≡ false) × (y ≡ gained written x)
MayWrite room written x (Err fault.Disk) y = IsCut written x y
MayWrite room written x (Err (fault.Full used next)) y = (is_full (end_of room x.limit) x.used written ≡ true) × ((used ≡ x.used) × ((next ≡ size_of_all written) × (y ≡ x)))
MayWrite room written x (Err fault.OutOfMemory) y = y ≡ x
MayWrite room written x (Err _) y = ⊥

abbrev pub UnlessFailed : {T : Type 0} → Result T StoreFault → Type 0 → Type 0
UnlessFailed (Err fault.Disk) P = Unit {0}
UnlessFailed _ P = P

-- the entries that a commit writes
abbrev pub entries_of : Option (List (List ℕ)) → List Entry
entries_of None = []
entries_of (Some texts) = Texts texts ∷ []
