-- When a journal is not loaded.
use Rattle.std.specs.Prelude.{Err, IfSome, IsTrue, List, Ok, Option, [], cond, drop, false, length, ℕ, ◌++◌, ◌+◌, ◌<◌, ◌∷◌, ◌≡◌, ◌≤◌}
use Rattle.lq_base.specs.declared.dialect.Dialect.{Dialect}
use Rattle.lq_frames.specs.Body.{IsEntry, Stands, body_in, entries_from, from_last_state, has_state, is_state, journal_of, used_by}
use Rattle.lq_frames.specs.declared.entry.Entry.{Entry}
use Rattle.lq_journal.specs.declared.fault.LoadFault.{LoadFault}
use Rattle.lq_journal.specs.declared.fault.LoadFault.TheVariants.{Damaged, Disk, OutOfMemory}
use Rattle.lq_journal.specs.declared.reading.Found.{Found}
use Rattle.lq_outside.specs.Crash.{Crashes}
use Rattle.lq_outside.specs.Forms.{Rose}

-- The disk's count of faults rose, or what the disk tells, if it does, is damaged at that very place, or want of memory.
abbrev pub IsLoadFault : Dialect → ℕ → Option (List ℕ) → ℕ → ℕ → LoadFault → Type 0
IsLoadFault dialect limit told before now Disk = Rose before now
IsLoadFault dialect limit told before now (Damaged at) = IfSome told (λ bytes. journal_of dialect limit bytes ≡ Err at)
IsLoadFault dialect limit told before now OutOfMemory = Unit {0}

-- the same where only the size was looked at
abbrev pub IsSizeFault : ℕ → Option (List ℕ) → ℕ → ℕ → LoadFault → Type 0
IsSizeFault limit told before now Disk = Rose before now
IsSizeFault limit told before now (Damaged at) = (at ≡ limit) × IfSome told (λ bytes. limit < length bytes)
IsSizeFault limit told before now OutOfMemory = Unit {0}

-- of a file that is longer than the limit: it is damaged there, unless the disk's count of faults rose
abbrev pub IsLengthFault : ℕ → ℕ → ℕ → LoadFault → Type 0
IsLengthFault limit before now Disk = Rose before now
IsLengthFault limit before now (Damaged at) = at ≡ limit
IsLengthFault limit before now OutOfMemory = ⊥

-- What reading the bytes of a journal gives.

-- behind an open gate stands an entry, and after it the next gate
pub record IsNext (at : ℕ) (bytes : List ℕ) (entry : Entry) (after : List ℕ) : Type 0 where
  pub raw : List ℕ
  pub is : bytes ≡ 1 ∷ (raw ++ after)
  pub whole : IsEntry raw
  pub entry_is : entry ≡ record { at = at + 1; body = body_in raw }
  pub some : 0 < length after

-- an entry of a wrong form stands behind an open gate, or want of memory
abbrev pub IsStepFault : ℕ → List ℕ → LoadFault → Type 0
IsStepFault at bytes (Damaged place) = (place ≡ at + 1) × ((from : ℕ) → entries_from from 0 bytes ≡ Err (from + 1))
IsStepFault at bytes OutOfMemory = Unit {0}
IsStepFault at bytes Disk = ⊥

-- damage where the definition has it, or want of memory
abbrev pub IsReadFault : Dialect → ℕ → List ℕ → LoadFault → Type 0
IsReadFault dialect limit bytes (Damaged at) = journal_of dialect limit bytes ≡ Err at
IsReadFault dialect limit bytes OutOfMemory = Unit {0}
IsReadFault dialect limit bytes Disk = ⊥

-- an entry more is read: before a state nothing counts
abbrev pub taken_up : Entry → List Entry → List Entry
taken_up entry entries = cond (is_state entry.body) (entry ∷ []) (entries ++ entry ∷ [])

-- The bytes are a journal. Of its entries these are those from the last state on; the place is behind the gate that ends all of them.
pub record IsRead (dialect : Dialect) (limit : ℕ) (bytes : List ℕ) (entries : List Entry) (used : ℕ) : Type 0 where
  pub all : List Entry
  pub journal_is : journal_of dialect limit bytes ≡ Ok all
  pub entries_are : entries ≡ from_last_state all
  pub used_is : used ≡ used_by all

-- what stands in a file that is not damaged
pub record IsFound (dialect : Dialect) (limit : ℕ) (bytes : List ℕ) (found : Found) : Type 0 where
  pub stands : Stands found.prepared dialect limit found.used bytes
  pub read : IsRead dialect limit bytes found.entries found.used
  pub texts_behind : has_state (drop 1 found.entries) ≡ false

-- what was found in the bytes of a disk, which are those that it tells, if it does
pub record FoundOn (dialect : Dialect) (limit : ℕ) (told : Option (List ℕ)) (found : Found) : Type 0 where
  pub bytes : List ℕ
  pub are : IfSome told (λ before. before ≡ bytes)
  pub within : length bytes ≤ limit
  pub is : IsFound dialect limit bytes found

-- When a disk has been synced.

-- a sync has succeeded since
abbrev pub HasSynced : Crashes → Crashes → Type 0
HasSynced before now = IsTrue before.is_honest → (t : ℕ) × (before.moment < t) × now.synced t

-- one has, before this fault was found, unless the fault is the disk's
abbrev pub HasSyncedBefore : LoadFault → Crashes → Crashes → Type 0
HasSyncedBefore Disk before now = Unit {0}
HasSyncedBefore (Damaged at) before now = HasSynced before now
HasSyncedBefore OutOfMemory before now = HasSynced before now
