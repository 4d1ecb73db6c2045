-- The only row that a test takes, among the rows that begin with the text that the test asks for.
use Rattle.std.proofs.Common.{Bool, List, None, Option, Some, [], ap, arith, cond, false, length, map, nat_eq, refl, slice_get, subst, suc, sym, true, zero, ℕ, ◌<◌, ◌∙◌, ◌∷◌, ◌≡◌}
use Rattle.std.proofs.lemmas.Bool.Decides.{nat_tests}
use Rattle.std.proofs.lemmas.List.Elements.{All-contains, All-contains_itself, All-filter, filter_passes}
use Rattle.std.proofs.lemmas.Option.{none-some, same_Some}
use Rattle.std.specs.List.{All, Contains, filter}
use Rattle.std.specs.Option.{option_map, option_map_or}
use Rattle.std.specs.Borrow.{Bor}
use Rattle.std.specs.Prelude.{IfSome}
use Rattle.lq_base.specs.Name.{is_named}
use Rattle.lq_base.specs.declared.literal.Literal.TheVariants as literal
use Rattle.lq_base.specs.declared.name.Name.{Name}
use Rattle.lq_base.specs.declared.value.Value.{Value}
use Rattle.lq_base.specs.declared.value.Value.TheVariants as value
use Rattle.lq_model.proofs.Lists.{named_itself, same_name, true_false}
use Rattle.lq_model.specs.Catalogue.{Table, by_name}
use Rattle.lq_model.specs.Truth.{both_true, in_order, is_true, takes, truth, truth_of_and, value_order}
use Rattle.lq_model.specs.declared.column.Column.{Column}
use Rattle.lq_model.specs.declared.test.Op.TheVariants.{Eq}
use Rattle.lq_model.specs.declared.test.Operand.TheVariants as operand
use Rattle.lq_model.specs.declared.test.Test.{And, Compare, Test}
use Rattle.lq_parts.proofs.OneRow.{only_there}
use Rattle.lq_query.specs.Source.{TakesAlike}
use Rattle.lq_rows.specs.Stored.{ArePlaces, IsFront}
use Rattle.lq_one_row.specs.Only.{Begin, Gives, IsOnly, IsPlain, is_taken_at}

-- what is equal to a text that is no moment is that text
is_text : (v : Value) (t : List ℕ) → IsPlain t → is_true (option_map (in_order Eq) (value_order v (value.Text t))) ≡ true → v ≡ value.Text t
is_text value.Null t plain is = absurd (Prim.cc is)
is_text (value.Int n) t plain is = absurd (Prim.cc is)
is_text (value.Text u) t plain is = ap value.Text (same_name u t is)
is_text (value.Bool b) t plain is = absurd (Prim.cc is)
is_text (value.Moment m) t plain is = true_false is (ap (λ o. is_true (option_map (in_order Eq) o)) (plain m))
is_text (value.Fixed u s) t plain is = absurd (Prim.cc is)

-- that a column is equal to a text
abbrev pub equals : Name → List ℕ → Test
equals n t = Compare Eq (operand.Column n) (operand.Literal (literal.Text t))

pub equal_gives : (c n : Name) (t : List ℕ) → is_named c n ≡ true → IsPlain t → Gives (equals n t) c t
equal_gives c n t same plain cs row taken = ap (by_name cs row) (same_name c n same) ∙ is_text (by_name cs row n) t plain taken

first_true : (x y : Option Bool) → is_true (both_true x y) ≡ true → is_true x ≡ true
first_true (Some true) y is = refl
first_true (Some false) y is = is
first_true None (Some false) is = is
first_true None (Some true) is = is
first_true None None is = is

second_true : (x y : Option Bool) → is_true (both_true x y) ≡ true → is_true y ≡ true
second_true (Some true) y is = is
second_true (Some false) y is = absurd (Prim.cc is)
second_true None (Some false) is = is
second_true None (Some true) is = refl
second_true None None is = is

pub first_gives : (a b : Test) (c : Name) (t : List ℕ) → Gives a c t → Gives (And a b) c t
first_gives a b c t gives cs row taken = gives cs row (first_true (truth cs row a) (truth cs row b) (subst (λ o. is_true o ≡ true) (truth_of_and cs row a b) taken))

second_gives : (a b : Test) (c : Name) (t : List ℕ) → Gives b c t → Gives (And a b) c t
second_gives a b c t gives cs row taken = gives cs row (second_true (truth cs row a) (truth cs row b) (subst (λ o. is_true o ≡ true) (truth_of_and cs row a b) taken))

pub second_gives_some : (a b : Test) (c : Name) (text : Option (Bor (List ℕ))) → IfSome text (λ t. Gives b c t.now) → IfSome text (λ t. Gives (And a b) c t.now)
second_gives_some a b c None gives = tt
second_gives_some a b c (Some t) gives = second_gives a b c t.now gives

-- what is in the first column is the first value
first_begins : (test : Test) (c : Column) (cs : List Column) (t : List ℕ) → Gives test c.name t → Begin (Some test) (c ∷ cs) t
first_begins test c cs t gives [] taken = absurd (Prim.cc (gives (c ∷ cs) [] taken))
first_begins test c cs t gives (v ∷ vs) taken = ap Some (sym (ap (λ (b : Bool). cond b v (by_name cs vs c.name)) (named_itself c.name)) ∙ gives (c ∷ cs) (v ∷ vs) taken)

pub first_begins_some : (test : Option Test) (asked : Test) (cs : List Column) (c : Column) (rest : List Column) (text : Option (Bor (List ℕ)))
    → test ≡ Some asked → cs ≡ c ∷ rest → IfSome text (λ t. Gives asked c.name t.now) → IfSome text (λ t. Begin test cs t.now)
first_begins_some test asked cs c rest text is are gives = subst (λ o. IfSome text (λ t. Begin o cs t.now)) (sym is) (subst (λ ks. IfSome text (λ t. Begin (Some asked) ks t.now)) (sym are) (go text gives)) where
  go : (text : Option (Bor (List ℕ))) → IfSome text (λ t. Gives asked c.name t.now) → IfSome text (λ t. Begin (Some asked) (c ∷ rest) t.now)
  go None gives = tt
  go (Some t) gives = first_begins asked c rest t.now gives

same_nat : (a b : ℕ) → nat_eq a b ≡ true → a ≡ b
same_nat a b is = grind (arith, nat_tests, is)

nat_itself : (n : ℕ) → nat_eq n n ≡ true
nat_itself n = grind (arith, nat_tests)

module _ (q : ℕ → Bool) where
  head_in : (is : Bool) (x : ℕ) (xs : List ℕ) → is ≡ true → Contains (cond is (x ∷ xs) xs) x
  head_in true x xs e = (0, omega arith, refl)
  head_in false x xs e = absurd (Prim.cc e)

  tail_in : (is : Bool) (x i : ℕ) (xs : List ℕ) → Contains xs i → Contains (cond is (x ∷ xs) xs) i
  tail_in true x i xs (k, less, is) = (suc k, omega (arith, less), is)
  tail_in false x i xs has = has

  passed : (xs : List ℕ) (i : ℕ) → Contains xs i → q i ≡ true → Contains (filter q xs) i
  passed [] i (k, less, is) e = absurd (omega (arith, less))
  passed (x ∷ xs) i (zero, less, is) e = subst (λ y. Contains (filter q (x ∷ xs)) y) is (head_in (q x) x (filter q xs) (ap q is ∙ e))
  passed (x ∷ xs) i (suc k, less, is) e = tail_in (q x) x i (filter q xs) (passed xs i (k, omega (arith, less), is) e)

  is_one : (at i : ℕ) → Contains (at ∷ []) i → at ≡ i
  is_one at i (zero, less, is) = is
  is_one at i (suc k, less, is) = absurd (omega (arith, less))

  -- where one item passes, each is that one or does not pass
  module _ (xs : List ℕ) (at : ℕ) (one : filter q xs ≡ at ∷ []) where
    among : Contains (at ∷ []) at
    among = (0, omega arith, refl)

    one_in : Contains xs at
    one_in = All-contains (Contains xs) (at ∷ []) at (subst (All (Contains xs)) one (All-filter q (Contains xs) xs (All-contains_itself xs))) among

    one_passes : q at ≡ true
    one_passes = All-contains (λ x. q x ≡ true) (at ∷ []) at (subst (All (λ x. q x ≡ true)) one (filter_passes q xs)) among

    only_one : (i : ℕ) → Contains xs i → q i ≡ nat_eq i at
    only_one i has = by (q i) (nat_eq i at) refl refl where
      by : (a b : Bool) → q i ≡ a → nat_eq i at ≡ b → q i ≡ nat_eq i at
      by true b passes of = passes ∙ sym (ap (nat_eq i) (is_one at i (subst (λ ys. Contains ys i) one (passed xs i has passes))) ∙ nat_itself i)
      by false true passes of = ap q (same_nat i at of) ∙ one_passes ∙ sym of
      by false false passes of = passes ∙ sym of

taken_is : (test : Option Test) (it : Table) (i : ℕ) (row : List Value) → slice_get it.rows i ≡ Some row → is_taken_at test it i ≡ takes test it.columns row
taken_is test it i row e = ap (λ o. option_map_or (takes test it.columns) o false) e

only_is : (test : Option Test) (it : Table) (t : List ℕ) (places : List ℕ) (at : ℕ) → Begin test it.columns t → ArePlaces t it.rows places → filter (is_taken_at test it) places ≡ at ∷ [] → IsOnly test it at
only_is test it t places at begin are one = record {
  there = All-contains (λ i. i < length it.rows) places at are.within (one_in (is_taken_at test it) places at one);
  only = only_there t it.rows places are (takes test it.columns) (λ i. nat_eq i at)
      (λ i row e taken. begin row taken)
      (λ i same. subst (Contains places) (sym (same_nat i at same)) (one_in (is_taken_at test it) places at one))
      (λ i row has e. sym (taken_is test it i row e) ∙ only_one (is_taken_at test it) places at one i has);
}

pub only_some : (test : Option Test) (it : Table) (t : List ℕ) (places : List ℕ) (place : Option ℕ) → Begin test it.columns t → ArePlaces t it.rows places → IfSome place (λ at. filter (is_taken_at test it) places ≡ at ∷ []) → IfSome place (IsOnly test it)
only_some test it t places None begin are one = tt
only_some test it t places (Some at) begin are one = only_is test it t places at begin are one

-- of the front the test takes what it takes of all
pub front_taken : (test : Option Test) (cs : List Column) (t : List ℕ) (rows front : List (List Value)) → Begin test cs t → IsFront t rows front → TakesAlike test cs front rows
front_taken test cs t rows front begin is = is.same (takes test cs) begin

same_here : nat_eq 0 0 ≡ true
same_here = refl

behind_first : (i : ℕ) → nat_eq (suc i) 0 ≡ false
behind_first i = grind (arith, nat_tests)

before_next : (at : ℕ) → nat_eq 0 (suc at) ≡ false
before_next at = grind (arith, nat_tests)

one_less : (i at : ℕ) → nat_eq (suc i) (suc at) ≡ nat_eq i at
one_less i at = grind (arith, nat_tests)

module _ {X : Type 0} (p : X → Bool) where
  none_pass : (xs : List X) → ((i : ℕ) (x : X) → slice_get xs i ≡ Some x → p x ≡ false) → filter p xs ≡ []
  none_pass [] none = refl
  none_pass (x ∷ xs) none = ap (λ (b : Bool). cond b (x ∷ filter p xs) (filter p xs)) (none 0 x refl) ∙ none_pass xs (λ i y e. none (suc i) y e)

  alone : (xs : List X) (at : ℕ) (x : X) → slice_get xs at ≡ Some x → ((i : ℕ) (y : X) → slice_get xs i ≡ Some y → p y ≡ nat_eq i at) → filter p xs ≡ x ∷ []
  alone [] at x e only = absurd (none-some x e)
  alone (y ∷ ys) zero x e only =
      ap (λ (b : Bool). cond b (y ∷ filter p ys) (filter p ys)) (only 0 y refl ∙ same_here)
      ∙ ap (λ more. y ∷ more) (none_pass ys (λ i z there. only (suc i) z there ∙ behind_first i)) ∙ ap (λ z. z ∷ []) (same_Some y x e)
  alone (y ∷ ys) (suc at) x e only =
      ap (λ (b : Bool). cond b (y ∷ filter p ys) (filter p ys)) (only 0 y refl ∙ before_next at)
      ∙ alone ys at x e (λ i z there. only (suc i) z there ∙ one_less i at)

below : {X : Type 0} (xs : List X) (at : ℕ) → at < length xs → (x : X) × (slice_get xs at ≡ Some x)
below [] at less = absurd (omega (arith, less))
below (x ∷ xs) zero less = (x, refl)
below (x ∷ xs) (suc at) less = below xs at (omega (arith, less))

-- the only row that the test takes is all that it takes
pub all_taken : (test : Option Test) (it : Table) (at : ℕ) → IsOnly test it at → (row : List Value) × (slice_get it.rows at ≡ Some row) × (filter (takes test it.columns) it.rows ≡ row ∷ [])
all_taken test it at is = let there = below it.rows at is.there in (there.0, there.1, alone (takes test it.columns) it.rows at there.0 there.1 is.only)

-- an item of a mapped list
pub mapped : {X Y : Type 0} (f : X → Y) (xs : List X) (i : ℕ) (y : Y) → slice_get (map f xs) i ≡ Some y → (x : X) × (slice_get xs i ≡ Some x) × (f x ≡ y)
mapped f [] i y e = absurd (none-some y e)
mapped f (x ∷ xs) zero y e = (x, refl, same_Some (f x) y e)
mapped f (x ∷ xs) (suc i) y e = mapped f xs i y e
