-- Rows of which each stands behind the one before, and is the first of its identity.
use Rattle.std.proofs.Common.{ap, arith, eqb-true, refl, rules, subst, sym, tests, ◌∙◌}
use Rattle.std.proofs.lemmas.Bool.{eq-eqb, ltb-true}
use Rattle.std.proofs.lemmas.List.Folds.{find-append, list_all-append}
use Rattle.std.proofs.lemmas.List.{append-nil, append_assoc}
use Rattle.std.specs.List.{find, list_all, list_any}
use Rattle.std.specs.Option.{option_or}
use Rattle.std.specs.Prelude.{Bool, List, None, Option, Some, [], cond, false, length, nat_eq, nat_le, nat_lt, true, ℕ, ◌++◌, ◌<◌, ◌∷◌, ◌≡◌, ◌≤◌, ◌||◌}
use Rattle.lq_base.specs.declared.tracking.Tracked.{Tracked}
use Rattle.lq_players.specs.AnyCommand.{follows, has_order, is_first, stand_behind}
use Rattle.lq_model.proofs.Lists.{and_left, and_right, and_true, any-append, or_false, or_left, or_right, true_false}
use Rattle.lq_model.proofs.Maps.{some_same}
use Rattle.lq_track.specs.Database.{has_twin_rows, same_identity}
use Rattle.lq_track.specs.Log.{identity_of}
use Rattle.lq_turns.proofs.Undone.{one_itself}
use Rattle.lq_turns.specs.Deed.{is_of}
use Rattle.lq_turns.specs.Set.{row_at}

abbrev is_twin : Tracked → Tracked → Bool
is_twin r s = same_identity (identity_of r) (identity_of s) || nat_eq r.order s.order

-- it stands at the place, or before it
abbrev is_by : ℕ → Tracked → Bool
is_by last r = nat_le r.order last

none_some : {A : Type 0} {x : A} → (let o : Option A = Some x in o) ≡ None → ⊥
none_some h = Prim.cc

nothing_some : {A : Type 0} {x : A} → (let o : Option A = None in o) ≡ Some x → ⊥
nothing_some h = Prim.cc

-- nothing is found
unfound : {A : Type 0} (p : A → Bool) (xs : List A) → find p xs ≡ None → list_any p xs ≡ false
unfound p [] none = refl
unfound p (x ∷ xs) none = by (p x) (unfound p xs) none where
  by : (b : Bool) → (find p xs ≡ None → list_any p xs ≡ false) → cond b (Some x) (find p xs) ≡ None → (b || list_any p xs) ≡ false
  by true more h = absurd (none_some h)
  by false more h = more h

-- what is found is one of those that pass
found_passes : {A : Type 0} (p q : A → Bool) (xs : List A) (y : A) → list_all q xs ≡ true → find p xs ≡ Some y → q y ≡ true
found_passes p q [] y all is = absurd (nothing_some is)
found_passes p q (x ∷ xs) y all is = by (p x) (found_passes p q xs y (and_right (q x) _ all)) is where
  by : (b : Bool) → (find p xs ≡ Some y → q y ≡ true) → cond b (Some x) (find p xs) ≡ Some y → q y ≡ true
  by true more h = subst (λ z. q z ≡ true) (some_same h) (and_left (q x) _ all)
  by false more h = more h

within : (n last : ℕ) → nat_le n last ≡ true → n ≤ last
within n last h = search (rules, tests)

at_most : (n last : ℕ) → n ≤ last → nat_le n last ≡ true
at_most n last h = search (rules, tests)

-- a place behind another
other_place : (n m last : ℕ) → nat_le n last ≡ true → last < m → nat_eq n m ≡ false
other_place n m last by_last behind = by (nat_eq n m) refl where
  by : (b : Bool) → nat_eq n m ≡ b → b ≡ false
  by true same = absurd (omega (arith, within n last by_last, behind, eqb-true n m same))
  by false same = refl

-- rows at or before a place are before one behind it
before_it : (last next : ℕ) (rows : List Tracked) → last < next → list_all (is_by last) rows ≡ true → list_all (is_by next) rows ≡ true
before_it last next [] less all = refl
before_it last next (r ∷ rows) less all =
    and_true _ _ (at_most r.order next (omega (arith, within r.order last (and_left (is_by last r) _ all), less))) (before_it last next rows less (and_right (is_by last r) _ all))

-- a row without a twin behind others
row_behind : (front : List Tracked) (row : Tracked) → has_twin_rows front ≡ false → list_any (λ (r : Tracked). is_twin r row) front ≡ false → has_twin_rows (front ++ row ∷ []) ≡ false
row_behind [] row apart none = refl
row_behind (r ∷ front) row apart none =
    or_false _ _
    (any-append (is_twin r) front (row ∷ []) ∙ or_false _ _ (or_left (list_any (is_twin r) front) _ apart) (or_false (is_twin r row) false (or_left (is_twin r row) _ none) refl))
    (row_behind front row (or_right (list_any (is_twin r) front) _ apart) (or_right (is_twin r row) _ none))

-- one of another identity and of another place is no twin
no_twin : (row : Tracked) (last : ℕ) (front : List Tracked) → last < row.order → list_all (is_by last) front ≡ true → list_any (is_of (identity_of row)) front ≡ false → list_any (λ (r : Tracked). is_twin r row) front ≡ false
no_twin row last [] behind all others = refl
no_twin row last (r ∷ front) behind all others =
    or_false _ _
    (or_false _ _ (or_left (is_of (identity_of row) r) _ others) (other_place r.order row.order last (and_left (is_by last r) _ all) behind))
    (no_twin row last front behind (and_right (is_by last r) _ all) (or_right (is_of (identity_of row) r) _ others))

-- no row before the first of its identity has that
first_alone : (row : Tracked) (last : ℕ) (front more : List Tracked) → last < row.order → list_all (is_by last) front ≡ true → has_order row.order (row_at (identity_of row) (front ++ more)) ≡ true → list_any (is_of (identity_of row)) front ≡ false
first_alone row last front more behind all first = by (find (is_of (identity_of row)) front) refl where
  by : (o : Option Tracked) → find (is_of (identity_of row)) front ≡ o → list_any (is_of (identity_of row)) front ≡ false
  by None is = unfound (is_of (identity_of row)) front is
  by (Some r) is =
      let at : row_at (identity_of row) (front ++ more) ≡ Some r = find-append (is_of (identity_of row)) front more ∙ ap (λ (o : Option Tracked). option_or o (find (is_of (identity_of row)) more)) is in
      let same : nat_eq r.order row.order ≡ true = ap (has_order row.order) (sym at) ∙ first in
      true_false same (other_place r.order row.order last (found_passes (is_of (identity_of row)) (is_by last) front r all is) behind)

-- the rows in front of the rest are apart, and stand at this place or before it
pub record Passed (rows rest : List Tracked) (last : ℕ) : Type 0 where
  pub front : List Tracked
  pub are : rows ≡ front ++ rest
  pub apart : has_twin_rows front ≡ false
  pub before : list_all (is_by last) front ≡ true

pub none_passed : (rows : List Tracked) (last : ℕ) → Passed rows rows last
none_passed rows last = record { front = []; are = refl; apart = refl; before = refl }

pub one_passed : (rows rest after : List Tracked) (row : Tracked) (last : ℕ) → Passed rows rest last → rest ≡ row ∷ after → follows last row rows ≡ true → Passed rows after row.order
one_passed rows rest after row last passed rest_is so =
    let split : rows ≡ passed.front ++ row ∷ after = passed.are ∙ ap (λ (rs : List Tracked). passed.front ++ rs) rest_is in
    let behind : last < row.order = ltb-true last row.order (and_left (nat_lt last row.order) _ so) in
    let first : has_order row.order (row_at (identity_of row) (passed.front ++ row ∷ after)) ≡ true = ap (λ (rs : List Tracked). has_order row.order (row_at (identity_of row) rs)) (sym split) ∙ and_right (nat_lt last row.order) _ so in
    let alone = first_alone row last passed.front (row ∷ after) behind passed.before first in record {
      front = passed.front ++ row ∷ [];
      are = split ∙ sym (append_assoc passed.front (row ∷ []) after);
      apart = row_behind passed.front row passed.apart (no_twin row last passed.front behind passed.before alone);
      before = list_all-append (is_by row.order) passed.front (row ∷ [])
          ∙ and_true _ _ (before_it last row.order passed.front behind passed.before) (and_true _ _ (at_most row.order row.order (omega arith)) refl);
    }

-- where no two are twins, each is the first of its identity

found_first : (front after : List Tracked) (row : Tracked) → has_twin_rows (front ++ row ∷ after) ≡ false → is_first row (front ++ row ∷ after) ≡ true
found_first [] after row apart = ap (λ (b : Bool). has_order row.order (cond b (Some row) (find (is_of (identity_of row)) after))) (one_itself (identity_of row)) ∙ eq-eqb row.order row.order refl
found_first (r ∷ front) after row apart =
    let none : (list_any (is_twin r) front || list_any (is_twin r) (row ∷ after)) ≡ false = sym (any-append (is_twin r) front (row ∷ after)) ∙ or_left (list_any (is_twin r) (front ++ row ∷ after)) _ apart in
    let other : is_of (identity_of row) r ≡ false = or_left (is_of (identity_of row) r) _ (or_left (is_twin r row) _ (or_right (list_any (is_twin r) front) _ none)) in
    ap (λ (b : Bool). has_order row.order (cond b (Some r) (find (is_of (identity_of row)) (front ++ row ∷ after)))) other ∙ found_first front after row (or_right (list_any (is_twin r) (front ++ row ∷ after)) _ apart)

pub follows_so : (rows rest after : List Tracked) (row : Tracked) (last : ℕ) → Passed rows rest last → rest ≡ row ∷ after → has_twin_rows rows ≡ false → stand_behind last rest ≡ true → follows last row rows ≡ true
follows_so rows rest after row last passed rest_is apart behind =
    let split : rows ≡ passed.front ++ row ∷ after = passed.are ∙ ap (λ (rs : List Tracked). passed.front ++ rs) rest_is in
    and_true _ _ (and_left (nat_lt last row.order) _ (ap (stand_behind last) (sym rest_is) ∙ behind)) (ap (is_first row) split ∙ found_first passed.front after row (ap has_twin_rows (sym split) ∙ apart))

pub behind_so : (rest after : List Tracked) (row : Tracked) (last : ℕ) → rest ≡ row ∷ after → stand_behind last rest ≡ true → stand_behind row.order after ≡ true
behind_so rest after row last rest_is behind = and_right (nat_lt last row.order) _ (ap (stand_behind last) (sym rest_is) ∙ behind)

none_left : (rest : List Tracked) → length rest ≡ 0 → rest ≡ []
none_left [] none = refl
none_left (row ∷ rest) none = absurd (omega arith)

pub all_passed : (rows rest : List Tracked) (last : ℕ) → Passed rows rest last → length rest ≡ 0 → has_twin_rows rows ≡ false
all_passed rows rest last passed none =
    ap has_twin_rows (passed.are ∙ (ap (λ (rs : List Tracked). passed.front ++ rs) (none_left rest none) ∙ append-nil passed.front)) ∙ passed.apart
