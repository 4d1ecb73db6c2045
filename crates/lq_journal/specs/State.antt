-- When an entry is not appended.
use Rattle.std.specs.Prelude.{Bool, IfSome, List, Option, true, ℕ, ◌-◌, ◌≡◌, ◌≤◌}
use Rattle.lq_base.specs.declared.dialect.Dialect.{Dialect}
use Rattle.lq_frames.specs.Body.{Stands}
use Rattle.lq_journal.specs.declared.fault.AppendFault.{AppendFault}
use Rattle.lq_journal.specs.declared.fault.AppendFault.TheVariants.{Disk, Full}
use Rattle.lq_journal.specs.declared.journal.Journal.{Journal}
use Rattle.lq_model.specs.declared.caller.Room.{Room}
use Rattle.lq_model.specs.declared.caller.Room.TheVariants.{Ordinary, Release}
use Rattle.lq_outside.specs.Forms.{Rose}

-- How far a call may fill the journal: what frees the lock may use the last 4,096 bytes too.
abbrev pub end_of : Room → ℕ → ℕ
end_of Ordinary limit = limit - 4096
end_of Release limit = limit

-- the disk's count of faults rose, or the two numbers are those of the journal and of the entry
abbrev pub IsAppendFault : ℕ → ℕ → ℕ → ℕ → AppendFault → Type 0
IsAppendFault used next before now Disk = Rose before now
IsAppendFault used next before now (Full in_use wanted) = (in_use ≡ used) × (wanted ≡ next)

abbrev pub IsFull : AppendFault → Type 0
IsFull Disk = ⊥
IsFull (Full used next) = Unit {0}

-- The state of an open journal.

abbrev pub disk_of : {D : Type 0} → Journal D → D
disk_of journal = journal.disk

abbrev pub dialect_of : {D : Type 0} → Journal D → Dialect
dialect_of journal = journal.dialect

abbrev pub limit_of : {D : Type 0} → Journal D → ℕ
limit_of journal = journal.limit

-- the place after the closed gate that ends the journal
abbrev pub used_of : {D : Type 0} → Journal D → ℕ
used_of journal = journal.used

-- there is a header and a gate in the file
abbrev pub is_prepared : {D : Type 0} → Journal D → Bool
is_prepared journal = journal.prepared

-- A journal that was loaded from a disk, no call of which has failed since. What the disk tells, if it does, is the journal.
pub record IsLoaded {D : Type 0} (told : Option (List ℕ)) (journal : Journal D) : Type 0 where
  pub limit_least : 8192 ≤ limit_of journal
  pub limit_most : limit_of journal ≤ 268435456
  pub used_least : 17 ≤ used_of journal
  pub used_most : used_of journal ≤ limit_of journal
  pub stands : IfSome told (Stands (is_prepared journal) (dialect_of journal) (limit_of journal) (used_of journal))

-- one that has its header and gate, so that entries may be appended
pub record IsReady {D : Type 0} (told : Option (List ℕ)) (journal : Journal D) : Type 0 where
  pub loaded : IsLoaded told journal
  pub prepared : is_prepared journal ≡ true

-- what no call changes
pub record SameOpening {D : Type 0} (before after : Journal D) : Type 0 where
  pub dialect_is : dialect_of after ≡ dialect_of before
  pub limit_is : limit_of after ≡ limit_of before
