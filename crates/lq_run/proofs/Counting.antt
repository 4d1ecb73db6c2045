-- A disk fault is told only where the count of the disk's failed calls rose.
use Rattle.std.proofs.Common.{arith}
use Rattle.std.specs.Prelude.{false, refl, true, ℕ, ◌≡◌, ◌≤◌}
use Rattle.lq_model.specs.declared.fault.StoreFault.{StoreFault}
use Rattle.lq_model.specs.declared.fault.StoreFault.TheVariants as fault
use Rattle.lq_outside.specs.Forms.{Rose}
use Rattle.lq_run.specs.Beside.{is_disk_end}
use Rattle.lq_run.specs.Steps.{end_of, is_disk}

pub not_true : false ≡ true → ⊥
not_true h = Prim.cc

pub rose_later : (a b c : ℕ) → a ≤ b → Rose b c → Rose a c
rose_later a b c later rose = omega arith

pub is_the_disk : (why : StoreFault) → is_disk why ≡ true → why ≡ fault.Disk
is_the_disk fault.Disk h = refl
is_the_disk (fault.Full used next) h = absurd (not_true h)
is_the_disk fault.OutOfMemory h = absurd (not_true h)
is_the_disk (fault.Busy n) h = absurd (not_true h)
is_the_disk fault.NotSql h = absurd (not_true h)
is_the_disk (fault.Refused reason) h = absurd (not_true h)

pub end_disk : (why : StoreFault) → is_disk_end (end_of why) ≡ is_disk why
end_disk fault.Disk = refl
end_disk (fault.Full used next) = refl
end_disk fault.OutOfMemory = refl
end_disk (fault.Busy n) = refl
end_disk fault.NotSql = refl
end_disk (fault.Refused reason) = refl
