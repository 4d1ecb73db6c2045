-- Why a database was not loaded.
use Rattle.std.specs.Prelude.{Err, IfSome, List, Option, ℕ, ◌≡◌}
use Rattle.lq_base.specs.declared.dialect.Dialect.{Dialect}
use Rattle.lq_entries.specs.Load.{catalogue_of}
use Rattle.lq_journal.specs.declared.fault.LoadFault.{LoadFault}
use Rattle.lq_journal.specs.declared.fault.LoadFault.TheVariants.{Damaged, Disk, OutOfMemory}
use Rattle.lq_outside.specs.Forms.{Rose}

-- the disk's count of faults rose, or what the disk tells, if it does, is damaged at that very place, or want of memory
abbrev pub IsDbFault : Dialect → ℕ → Option (List ℕ) → ℕ → ℕ → LoadFault → Type 0
IsDbFault d limit told before now Disk = Rose before now
IsDbFault d limit told before now (Damaged at) = IfSome told (λ bytes. catalogue_of d limit bytes ≡ Err at)
IsDbFault d limit told before now OutOfMemory = Unit {0}
