-- How many are to be taken back.
use Rattle.std.proofs.Common.{arith, refl}
use Rattle.std.specs.Prelude.{Bool, false, suc, true, zero, ℕ, ◌-◌, ◌≡◌}
use Rattle.laws_repair.specs.Repair.{standing}

pub all : (is : Bool) (n : ℕ) → n ≡ standing is is n
all true n = refl
all false n = refl

pub less : (is last : Bool) (n : ℕ) → (is ≡ last → ⊥) → n - 1 ≡ standing is last n
less true true n not = absurd (not refl)
less false false n not = absurd (not refl)
less true false zero not = refl
less true false (suc n) not = omega arith
less false true zero not = refl
less false true (suc n) not = omega arith
