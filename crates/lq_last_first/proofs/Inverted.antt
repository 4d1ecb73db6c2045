-- Whether each of several things is taken back, from the last on.
use Rattle.std.proofs.Common.{Bool, List, None, Option, Some, [], ap, false, is_some, length, refl, sym, true, ◌&&◌, ◌++◌, ◌∙◌, ◌∷◌, ◌≡◌}
use Rattle.std.proofs.lemmas.List.{append-nil}
use Rattle.std.proofs.lemmas.List.Folds.{list_all-append}
use Rattle.std.specs.List.{list_all}
use Rattle.std.specs.Option.{unwrap_or}
use Rattle.std.specs.Prelude.{if◌then◌else◌}
use Rattle.lq_last_first.proofs.LastOf.{one_more}
use Rattle.lq_last_first.specs.LastFirst.{last_first}

first_of_both : (a b : Bool) → (a && (b && true)) ≡ true → a ≡ true
first_of_both true b both = refl
first_of_both false b both = both

second_of_both : (a b : Bool) → (a && (b && true)) ≡ true → b ≡ true
second_of_both true true both = refl
second_of_both true false both = both
second_of_both false b both = Prim.cc

with_true : (a : Bool) → (a && (true && true)) ≡ a
with_true true = refl
with_true false = refl

with_false : (a : Bool) → (a && (false && true)) ≡ false
with_false true = refl
with_false false = refl

-- a test of all, where one more stands behind
module _ {A : Type 0} (p : A → Bool) (rest front : List A) (x : A) (is : rest ≡ front ++ x ∷ []) where
  pub split : list_all p rest ≡ (list_all p front && (p x && true))
  split = ap (list_all p) is ∙ list_all-append p front (x ∷ [])

  pub of_front : list_all p rest ≡ true → list_all p front ≡ true
  of_front all = first_of_both (list_all p front) (p x) (sym split ∙ all)

  pub of_last : list_all p rest ≡ true → p x ≡ true
  of_last all = second_of_both (list_all p front) (p x) (sym split ∙ all)

  pub is_passed : {b : Bool} → p x ≡ true → list_all p rest ≡ b → list_all p front ≡ b
  is_passed holds so = sym (split ∙ (ap (λ t. list_all p front && (t && true)) holds ∙ with_true (list_all p front))) ∙ so

  pub is_lost : {b : Bool} → p x ≡ false → list_all p rest ≡ b → b ≡ false
  is_lost fails so = sym so ∙ (split ∙ (ap (λ t. list_all p front && (t && true)) fails ∙ with_false (list_all p front)))

module _ {A S : Type 0} (inverse : A → Option (List S)) where
  abbrev pub has : A → Bool
  has x = is_some (inverse x)

  abbrev pub own : A → List S
  own x = unwrap_or (inverse x) []

  abbrev pub answer : Bool → List A → Option (List S)
  answer all things = if all then Some (last_first own things) else None

  pub there : (x : A) (more : List S) → Some more ≡ inverse x → has x ≡ true
  there x more some = ap is_some (sym some)

  pub lost : (things rest front : List A) (x : A) → rest ≡ front ++ x ∷ [] → None ≡ inverse x → list_all has rest ≡ list_all has things → None ≡ answer (list_all has things) things
  lost things rest front x is none so =
      ap (λ b. answer b things) (sym (is_lost has rest front x is (ap is_some (sym none)) so))

  pub one_undone : (things rest front : List A) (x : A) (made new more : List S) → rest ≡ front ++ x ∷ [] → Some more ≡ inverse x → new ≡ made ++ more
      → made ++ last_first own rest ≡ last_first own things → new ++ last_first own front ≡ last_first own things
  one_undone things rest front x made new more is some grown so =
      one_more own made new (last_first own things) rest front x is (grown ∙ ap (λ o. made ++ unwrap_or o []) some) so

  pub all_undone : (things rest : List A) (made : List S) → length rest ≡ 0 → list_all has rest ≡ list_all has things → made ++ last_first own rest ≡ last_first own things
      → (let o : Option (List S) = Some made in o) ≡ answer (list_all has things) things
  all_undone things [] made none all so =
      ap (λ (ss : List S). let o : Option (List S) = Some ss in o) (sym (append-nil made) ∙ so) ∙ ap (λ b. answer b things) all
  all_undone things (x ∷ rest) made none all so = Prim.cc
