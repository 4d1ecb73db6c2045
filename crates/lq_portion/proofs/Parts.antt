-- What holds of a changelog's first changesets.
use Rattle.std.proofs.Common.{Bool, List, [], false, refl, suc, take, true, zero, ℕ, ◌&&◌, ◌∷◌, ◌≡◌}
use Rattle.std.specs.List.{list_all}

both : (a b : Bool) → (a && b) ≡ true → (a ≡ true) × (b ≡ true)
both true b h = (refl, h)
both false b h = absurd (false_true h) where
  false_true : false ≡ true → ⊥
  false_true is = Prim.cc

and : (a b : Bool) → a ≡ true → b ≡ true → (a && b) ≡ true
and true b one two = two
and false b one two = one

pub all_first : {A : Type 0} (p : A → Bool) (n : ℕ) (xs : List A) → list_all p xs ≡ true → list_all p (take n xs) ≡ true
all_first p zero xs all = refl
all_first p (suc n) [] all = refl
all_first p (suc n) (x ∷ xs) all = let parts = both (p x) (list_all p xs) all in and (p x) (list_all p (take n xs)) parts.0 (all_first p n xs parts.1)
