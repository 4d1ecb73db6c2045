-- The fields of a record taken in turn, each of which passes a test.
use Rattle.std.proofs.Common.{Bool, List, None, Option, Some, [], ap, arith, drop, false, length, refl, suc, sym, take, true, zero, ℕ, ◌+◌, ◌++◌, ◌∙◌, ◌∷◌, ◌≡◌}
use Rattle.std.specs.List.{list_all}
use Rattle.std.specs.Prelude.{if◌then◌else◌, ◌&&◌, ◌==◌}
use Rattle.csv.specs.Records.{field_at}
use Rattle.lq_tree.specs.Given.{if_so}
use Rattle.lq_tree.specs.Items.{are_some}

some_same : {A : Type 0} {x y : A} → (let o : Option A = Some x in o) ≡ Some y → x ≡ y
some_same is = Prim.cc

-- the field at a place, with what stands before it and behind it
cut_at : (fs : List (List ℕ)) (i : ℕ) (f : List ℕ) → field_at fs i ≡ Some f → (take (suc i) fs ≡ take i fs ++ f ∷ []) × (drop i fs ≡ f ∷ drop (suc i) fs)
unfolding field_at
cut_at [] i f is = absurd Prim.cc
cut_at (g ∷ fs) zero f is = let same : g ≡ f = some_same is in (ap (λ x. x ∷ []) same, ap (λ x. x ∷ fs) same)
cut_at (g ∷ fs) (suc i) f is = let more = cut_at fs i f is in (ap (λ xs. g ∷ xs) more.0, more.1)

-- where there is no field more, all were taken
no_more : (fs : List (List ℕ)) (i : ℕ) → field_at fs i ≡ None → (take i fs ≡ fs) × (drop i fs ≡ [])
unfolding field_at
no_more [] zero is = (refl, refl)
no_more [] (suc i) is = (refl, refl)
no_more (g ∷ fs) zero is = absurd Prim.cc
no_more (g ∷ fs) (suc i) is = let more = no_more fs i is in (ap (λ xs. g ∷ xs) more.0, more.1)

-- what passes a test, and what does not
module _ {A : Type 0} (p : A → Bool) (a : A) where
  pub passed : (b : A) → if_so p a ≡ Some b → (p a ≡ true) × (a ≡ b)
  passed b is = by (p a) refl is where
    by : (so : Bool) → p a ≡ so → (if so then Some a else None) ≡ Some b → (p a ≡ true) × (a ≡ b)
    by true e q = (e, some_same q)
    by false e q = absurd Prim.cc

  pub failed : if_so p a ≡ None → p a ≡ false
  failed is = by (p a) refl is where
    by : (so : Bool) → p a ≡ so → (if so then Some a else None) ≡ None → p a ≡ false
    by true e q = absurd Prim.cc
    by false e q = e

  pub passes : p a ≡ true → Some a ≡ if_so p a
  passes is = ap (λ (so : Bool). if so then Some a else None) (sym is)

  pub fails : p a ≡ false → None ≡ if_so p a
  fails is = ap (λ (so : Bool). if so then Some a else None) (sym is)

module _ (p : List ℕ → Bool) (fs : List (List ℕ)) where
  -- the first fields are found, and each passes
  pub record Found (found : List (List ℕ)) (i : ℕ) : Type 0 where
    pub front : found ≡ take i fs
    pub tested : list_all p fs ≡ list_all p (drop i fs)

  pub none_found : Found [] 0
  none_found = record { front = refl; tested = refl }

  -- one field more, by what its test gave
  pub one_found : (found new : List (List ℕ)) (i n : ℕ) (f g : List ℕ) (test : Option (List ℕ)) → Some f ≡ field_at fs i → n ≡ i + 1 → test ≡ if_so p f → test ≡ Some g → new ≡ found ++ g ∷ []
      → Found found i → Found new n
  one_found found new i n f g test is next tested given added before =
      let cut = cut_at fs i f (sym is) in
      let pass = passed p f g (sym tested ∙ given) in
      let after : suc i ≡ n = omega (arith, next) in
      record {
        front = added ∙ (ap (λ h. found ++ h ∷ []) (sym pass.1) ∙ (ap (λ xs. xs ++ f ∷ []) before.front ∙ (sym cut.0 ∙ ap (λ k. take k fs) after)));
        tested = before.tested ∙ (ap (list_all p) cut.1 ∙ (ap (λ b. b && list_all p (drop (suc i) fs)) pass.0 ∙ ap (λ k. list_all p (drop k fs)) after));
      }

  pub one_failed : (found : List (List ℕ)) (i : ℕ) (f : List ℕ) (test : Option (List ℕ)) → Some f ≡ field_at fs i → test ≡ if_so p f → test ≡ None → Found found i → list_all p fs ≡ false
  one_failed found i f test is tested given before =
      let cut = cut_at fs i f (sym is) in
      before.tested ∙ (ap (list_all p) cut.1 ∙ ap (λ b. b && list_all p (drop (suc i) fs)) (failed p f (sym tested ∙ given)))

  pub all_tested : (found : List (List ℕ)) (i : ℕ) → None ≡ field_at fs i → Found found i → list_all p fs ≡ true
  all_tested found i is before = before.tested ∙ ap (list_all p) (no_more fs i (sym is)).1

  pub all_found : (found : List (List ℕ)) (i : ℕ) → None ≡ field_at fs i → Found found i → found ≡ fs
  all_found found i is before = before.front ∙ (no_more fs i (sym is)).0

-- where there is a field, one at least is
pub some_fields : (p : List ℕ → Bool) (fs : List (List ℕ)) → (length fs == 0) ≡ false → are_some p fs ≡ list_all p fs
some_fields p [] h = absurd Prim.cc
some_fields p (f ∷ fs) h = refl
