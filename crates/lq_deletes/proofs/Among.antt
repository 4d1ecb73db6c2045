-- What stands in a list, and rows that are alone with their values.
use Rattle.std.proofs.Common.{ap, sym, ◌∙◌}
use Rattle.std.specs.Cmp.{eq_by_cmp_equiv}
use Rattle.std.specs.List.{filter, list_any}
use Rattle.std.specs.Prelude.{Bool, List, [], cond, false, map, not, refl, true, ◌&&◌, ◌||◌, ◌∷◌, ◌≡◌}
use Rattle.lq_base.specs.declared.value.Value.{Value}
use Rattle.lq_model.specs.Catalogue.{has_equals, is_null, same_values}
use Rattle.lq_model.proofs.Lists.{any-map, or_false, or_left, or_right, true_false, whether}
use Rattle.lq_rows.specs.Stored.{values_total}
use Rattle.lq_rows.proofs.SeenLemmas.{null_differs, same_values_back}
use Rattle.lq_deletes.proofs.Keyed.{values_equal}

module _ {A : Type 0} where
  -- x stands in the list
  abbrev pub Among : A → List A → Type 0
  Among x xs = (test : A → Bool) → test x ≡ true → list_any test xs ≡ true

  pub among_first : (x : A) (xs : List A) → Among x (x ∷ xs)
  among_first x xs test h = ap (λ b. b || list_any test xs) h

  pub among_later : (x y : A) (xs : List A) → Among x xs → Among x (y ∷ xs)
  among_later x y xs h test t = at (test y) (h test t) where
    at : (b : Bool) → list_any test xs ≡ true → (b || list_any test xs) ≡ true
    at true k = refl
    at false k = k

  -- a test that fails for all that stand there
  pub all_false : (p : A → Bool) (xs : List A) → ((x : A) → Among x xs → p x ≡ false) → list_any p xs ≡ false
  all_false p [] h = refl
  all_false p (x ∷ xs) h = or_false _ _ (h x (among_first x xs)) (all_false p xs (λ y k. h y (among_later y x xs k)))

  pub at_among : (p : A → Bool) (x : A) (xs : List A) → Among x xs → list_any p xs ≡ false → p x ≡ false
  at_among p x xs h none = whether (p x) (λ is. true_false (h p is) none) (λ other. other)

  pub among_some : (p : A → Bool) (xs : List A) → list_any p xs ≡ true → (x : A) × (Among x xs) × (p x ≡ true)
  among_some p [] h = absurd (Prim.cc h)
  among_some p (x ∷ xs) h = whether (p x)
      (λ is. (x, among_first x xs, is))
      (λ other. let more = among_some p xs (sym (ap (λ b. b || list_any p xs) other) ∙ h) in (more.0, among_later more.0 x xs more.1, more.2))

  pub any_filter : (p q : A → Bool) (xs : List A) → list_any p (filter q xs) ≡ list_any (λ x. q x && p x) xs
  any_filter p q [] = refl
  any_filter p q (x ∷ xs) = elim (q x) as (λ b. list_any p (cond b (x ∷ filter q xs) (filter q xs)) ≡ ((b && p x) || list_any (λ y. q y && p y) xs)) [ true ↦ ap (λ b. p x || b) (any_filter p q xs) | false ↦ any_filter p q xs ]

  pub among_filter : (q : A → Bool) (x : A) (xs : List A) → q x ≡ true → Among x xs → Among x (filter q xs)
  among_filter q x xs is h test t = any_filter test q xs ∙ h (λ y. q y && test y) (ap (λ b. b && test x) is ∙ t)

  pub filter_filter : (p q : A → Bool) (xs : List A) → filter q (filter p xs) ≡ filter (λ x. p x && q x) xs
  filter_filter p q [] = refl
  filter_filter p q (x ∷ xs) = at (p x) (q x) refl (filter_filter p q xs) where
    at : (a b : Bool) → q x ≡ b → filter q (filter p xs) ≡ filter (λ y. p y && q y) xs → filter q (cond a (x ∷ filter p xs) (filter p xs)) ≡ cond (a && b) (x ∷ filter (λ y. p y && q y) xs) (filter (λ y. p y && q y) xs)
    at true true is more = rw (is) (ap (λ ys. x ∷ ys) more)
    at true false is more = rw (is) more
    at false b is more = more

-- what is equal to something has no null
pub no_nulls : (xs ys : List Value) → same_values xs ys ≡ true → list_any is_null xs ≡ false
no_nulls xs ys h = whether (list_any is_null xs) (λ null. true_false (same_values_back ys xs ∙ h) (null_differs ys xs null)) (λ none. none)

-- what is equal to the same is equal
pub alike : (own a b : List Value) → same_values own a ≡ true → same_values own b ≡ true → same_values a b ≡ true
alike own a b is twin =
    let none = no_nulls own a is in
    let back = no_nulls a own (same_values_back a own ∙ is) in
    sym (values_equal a b back) ∙ sym ((eq_by_cmp_equiv values_total).congr own a b (values_equal own a none ∙ is)) ∙ values_equal own b none ∙ twin

-- where no two rows are equal in some columns, one row is all that has a row's values
module _ (key : List Value → List Value) (own : List Value) where
  equal : (r x : List Value) → same_values own (key r) ≡ true → same_values own (key x) ≡ true → same_values (key r) (key x) ≡ true
  equal r x is twin = alike own (key r) (key x) is twin

  no_right : (a b : Bool) → b ≡ false → (a && b) ≡ false
  no_right true b h = h
  no_right false b h = refl

  after_it : (g : List Value → Bool) (r : List Value) (rows : List (List Value)) → list_any (same_values (key r)) (map key rows) ≡ false → same_values own (key r) ≡ true → list_any (λ x. g x && same_values own (key x)) rows ≡ false
  after_it g r rows none is = all_false _ rows (λ x here. no_right (g x) (same_values own (key x)) (whether (same_values own (key x)) (λ twin. true_false (equal r x is twin) (at_among (λ y. same_values (key r) (key y)) x rows here (sym (any-map (same_values (key r)) key rows) ∙ none))) (λ other. other)))

  or-false : (b : Bool) → (b || false) ≡ b
  or-false true = refl
  or-false false = refl

  negated : (a b : Bool) → b ≡ true → (not a && b) ≡ true → (a && b) ≡ false
  negated true b is h = absurd (Prim.cc h)
  negated false b is h = refl

  both_true : (a b : Bool) → a ≡ true → b ≡ true → (a && b) ≡ true
  both_true true b p q = q
  both_true false b p q = absurd (Prim.cc p)

  weaker_at : (a b k x : Bool) → ((a && b) || k) ≡ true → (k ≡ true → x ≡ true) → (a || x) ≡ true
  weaker_at true b k x h more = refl
  weaker_at false b k x h more = more h

  weaker : (test : List Value → Bool) (xs : List (List Value)) → list_any (λ x. test x && same_values own (key x)) xs ≡ true → list_any test xs ≡ true
  weaker test [] h = h
  weaker test (x ∷ xs) h = weaker_at (test x) (same_values own (key x)) _ _ h (weaker test xs)

  pub one_row : (g : List Value → Bool) (p : List Value) (rows : List (List Value)) → has_equals (map key rows) ≡ false → Among p rows → same_values own (key p) ≡ true → g p ≡ false → list_any (λ x. g x && same_values own (key x)) rows ≡ false
  one_row g p [] apart here is gone = refl
  one_row g p (r ∷ rows) apart here is gone = whether (same_values own (key r))
      (λ same. or_false _ _ (negated (g r) (same_values own (key r)) same (only same)) (after_it g r rows (or_left _ _ apart) same))
      (λ other. or_false _ _ (no_right (g r) _ other) (one_row g p rows (or_right (list_any (same_values (key r)) (map key rows)) _ apart) (later other) is gone)) where
        only : same_values own (key r) ≡ true → (not (g r) && same_values own (key r)) ≡ true
        only same =
            let found = here (λ x. not (g x) && same_values own (key x)) (both_true _ _ (ap not gone) is) in
            let rest = after_it (λ x. not (g x)) r rows (or_left _ _ apart) same in
            sym (or-false _) ∙ sym (ap (λ b. (not (g r) && same_values own (key r)) || b) rest) ∙ found

        later : same_values own (key r) ≡ false → Among p rows
        later other test t =
            let found = here (λ x. test x && same_values own (key x)) (both_true _ _ t is) in
            weaker test rows (sym (ap (λ b. b || list_any (λ x. test x && same_values own (key x)) rows) (no_right (test r) _ other)) ∙ found)
