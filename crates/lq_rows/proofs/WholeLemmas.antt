-- Lemmas on what is asked of all rows of a table.
use Rattle.std.proofs.Common.{Bool, List, [], ap, false, refl, not, sym, true, ◌∙◌, ◌&&◌, ◌||◌, ◌∷◌, ◌≡◌}
use Rattle.std.specs.BTreeSet.{BTreeSet, contains}
use Rattle.std.specs.List.{list_any}
use Rattle.lq_base.specs.declared.value.Value.{Value}
use Rattle.lq_model.specs.Catalogue.{has_equals, is_null, same_values}
use Rattle.lq_model.proofs.Lists.{and_no_right, any_same, whether}
use Rattle.lq_rows.specs.Stored.{values_cmp, is_among}
use Rattle.lq_rows.proofs.SeenLemmas.{null_differs, same_values_back}

any_or : {A : Type 0} (p q : A → Bool) (xs : List A) → list_any (λ x. p x || q x) xs ≡ (list_any p xs || list_any q xs)
any_or p q [] = refl
any_or p q (x ∷ xs) = ap (λ b. (p x || q x) || b) (any_or p q xs) ∙ turned (p x) (q x) (list_any p xs) (list_any q xs) where
  turned : (a b c e : Bool) → ((a || b) || (c || e)) ≡ ((a || c) || (b || e))
  turned true b c e = refl
  turned false true true e = refl
  turned false true false e = refl
  turned false false c e = refl

-- an empty set has none of them
pub none_among : (set : BTreeSet (List Value)) (xs : List (List Value)) → ((v : List Value) → contains values_cmp set v ≡ false) → list_any (is_among set) xs ≡ false
none_among set [] empty = refl
none_among set (x ∷ xs) empty = rw (and_no_right (not (list_any is_null x)) _ (empty x), none_among set xs empty) refl

-- what stands among one more is equal to that, or stood there
one_more : (old new : BTreeSet (List Value)) (p q : List Value) → ((v : List Value) → contains values_cmp new v ≡ (same_values v p || contains values_cmp old v)) → is_among new q ≡ (same_values p q || is_among old q)
one_more old new p q more = ap (λ b. not (list_any is_null q) && b) (more q) ∙ whether (list_any is_null q)
    (λ is. rw (is, null_differs p q is) refl)
    (λ no. rw (no) (ap (λ b. b || contains values_cmp old q) (same_values_back q p)))

pub twins_step : (old new : BTreeSet (List Value)) (p : List Value) (ps : List (List Value)) → ((v : List Value) → contains values_cmp new v ≡ (same_values v p || contains values_cmp old v)) → is_among old p ≡ false
    → (list_any (is_among old) (p ∷ ps) || has_equals (p ∷ ps)) ≡ (list_any (is_among new) ps || has_equals ps)
twins_step old new p ps more none =
    ap (λ b. (b || list_any (is_among old) ps) || (list_any (same_values p) ps || has_equals ps)) none
    ∙ turned (list_any (is_among old) ps) (list_any (same_values p) ps) (has_equals ps)
    ∙ ap (λ b. b || has_equals ps) (sym (any_same (is_among new) (λ q. same_values p q || is_among old q) ps (λ q. one_more old new p q more) ∙ any_or (same_values p) (is_among old) ps)) where
      turned : (a b c : Bool) → (a || (b || c)) ≡ ((b || a) || c)
      turned true true c = refl
      turned true false c = refl
      turned false true c = refl
      turned false false c = refl

pub twins_found : (set : BTreeSet (List Value)) (p : List Value) (ps : List (List Value)) (all : Bool) → (list_any (is_among set) (p ∷ ps) || has_equals (p ∷ ps)) ≡ all → is_among set p ≡ true → true ≡ all
twins_found set p ps all is found = ap (λ b. (b || list_any (is_among set) ps) || has_equals (p ∷ ps)) (sym found) ∙ is
