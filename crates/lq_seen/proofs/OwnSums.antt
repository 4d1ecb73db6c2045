-- A sum of the new form is its own and none of the old form.
use Rattle.std.proofs.Common.{Bool, List, [], arith, codes, eqb, false, not, refl, take, tests, true, ℕ, ◌&&◌, ◌≡◌, ◌∷◌}
use Rattle.std.specs.Cmp.Lexicographic.{pointwise}
use Rattle.std.specs.List.{starts_with}
use Rattle.lq_base.specs.Name.{is_text}
use Rattle.lq_model.proofs.Lists.{and_true, named_itself}
use Rattle.lq_turns.specs.Set.{is_old_form, sum_by_form}

other_form : (sum : List ℕ) → starts_with eqb sum (codes "P2:") ≡ true → is_old_form sum ≡ false
other_form [] is = Prim.cc
other_form (a ∷ []) is = first (eqb 80 a) where
  first : (b : Bool) → (b && false) ≡ false
  first true = refl
  first false = refl
other_form (a ∷ b ∷ sum) is = second (eqb 80 a) b (pointwise eqb (codes ":") (take 1 sum)) is where
  second : (first : Bool) (b : ℕ) (rest : Bool) → (first && (eqb 50 b && rest)) ≡ true → (first && (eqb 49 b && rest)) ≡ false
  second false b rest is = refl
  second true b rest is = grind (arith, tests)

pub own_sum : (old sum : List ℕ) → starts_with eqb sum (codes "P2:") ≡ true → (is_text sum (sum_by_form old sum sum) && not (is_old_form sum)) ≡ true
own_sum old sum new = rw (other_form sum new) (and_true _ _ (named_itself sum) refl)
