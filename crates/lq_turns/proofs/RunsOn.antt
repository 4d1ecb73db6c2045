-- What ran since a point stays so after later updates, and after a tag.
use Rattle.std.proofs.Common.{ap, subst, sym, ◌∙◌}
use Rattle.std.proofs.lemmas.List.{append_assoc, map-append}
use Rattle.std.specs.List.{list_any}
use Rattle.std.specs.Prelude.{Bool, Err, List, None, Ok, Option, Result, Some, [], false, if◌then◌else◌, map, nat_eq, refl, true, ℕ, ◌++◌, ◌||◌, ◌∷◌, ◌≡◌}
use Rattle.lq_base.specs.declared.dialect.Dialect.{Dialect}
use Rattle.lq_base.specs.declared.identity.Identity.{Identity}
use Rattle.lq_base.specs.declared.reason.Reason.{Reason}
use Rattle.lq_base.specs.declared.tracking.Tracked.{Tracked}
use Rattle.lq_model.proofs.Lists.{any-append, or_left, or_right}
use Rattle.lq_model.specs.Catalogue.{Catalogue}
use Rattle.lq_track.specs.Database.{has_twin_rows, same_identity}
use Rattle.lq_track.specs.Log.{identity_of}
use Rattle.lq_turns.specs.Deed.{is_of, tagged}
use Rattle.lq_turns.specs.Within.{RunsOn, TagKeeps}
use Rattle.lq_turns.specs.Ran.{AreRowsOf, IsRowOf, Run, all_effects, effects_of}
use Rattle.lq_turns.specs.Script.{last_row}
use Rattle.lq_turns.specs.Set.{Meaning}

module _ {Key : Type 0} where
  rows_both : (xs ys : List (Run Key)) (first second : List Tracked) → AreRowsOf xs first → AreRowsOf ys second → AreRowsOf (xs ++ ys) (first ++ second)
  rows_both [] ys [] second a b = b
  rows_both [] ys (row ∷ first) second a b = absurd a
  rows_both (x ∷ xs) ys [] second a b = absurd a
  rows_both (x ∷ xs) ys (row ∷ first) second a b = (a.0, rows_both xs ys first second a.1 b)

module _ {Key : Type 0} (d : Dialect) (m : Meaning Key) where
  abbrev then_all : List (Run Key) → Result Catalogue Reason → Result Catalogue Reason
  then_all xs (Ok c) = all_effects d m xs c
  then_all xs (Err reason) = Err reason

  effects_both : (xs ys : List (Run Key)) (c : Catalogue) → all_effects d m (xs ++ ys) c ≡ then_all ys (all_effects d m xs c)
  effects_both [] ys c = refl
  effects_both (x ∷ xs) ys c = elim (effects_of d m x c) as (λ r. then_all (xs ++ ys) r ≡ then_all ys (then_all xs r)) [
    | Ok e ↦ effects_both xs ys e
    | Err reason ↦ refl
  ]

pub runs_on : {Key : Type 0} (m : Meaning Key) → RunsOn m
runs_on m d before now later xs ys first second = record {
  sound = first.sound;
  added = first.added ++ second.added;
  are_theirs = rows_both xs ys first.added second.added first.are_theirs second.are_theirs;
  rows = second.rows ∙ ap (λ rows. rows ++ second.added) first.rows ∙ append_assoc before.rows first.added second.added;
  differ = second.differ;
  users = effects_both d m xs ys before.users ∙ ap (then_all d m ys) first.users ∙ second.users;
}

-- a tag

abbrev is_twin_row : Tracked → Tracked → Bool
is_twin_row r s = same_identity (identity_of r) (identity_of s) || nat_eq r.order s.order

module _ (of : Identity) (tag : List ℕ) where
  abbrev with_tag : Tracked → Tracked
  with_tag = tagged of tag

  same_twin : (r s : Tracked) → is_twin_row (with_tag r) (with_tag s) ≡ is_twin_row r s
  same_twin r s = by (is_of of r) (is_of of s) where
    by : (a b : Bool) → is_twin_row (if a then record r { tag = Some tag } else r) (if b then record s { tag = Some tag } else s) ≡ is_twin_row r s
    by true true = refl
    by true false = refl
    by false true = refl
    by false false = refl

  same_any : (r : Tracked) (rows : List Tracked) → list_any (is_twin_row (with_tag r)) (map with_tag rows) ≡ list_any (is_twin_row r) rows
  same_any r [] = refl
  same_any r (s ∷ rows) = ap (λ b. b || list_any (is_twin_row (with_tag r)) (map with_tag rows)) (same_twin r s) ∙ ap (λ b. is_twin_row r s || b) (same_any r rows)

  same_twins : (rows : List Tracked) → has_twin_rows (map with_tag rows) ≡ has_twin_rows rows
  same_twins [] = refl
  same_twins (r ∷ rows) = ap (λ b. b || has_twin_rows (map with_tag rows)) (same_any r rows) ∙ ap (λ b. list_any (is_twin_row r) rows || b) (same_twins rows)

  module _ {Key : Type 0} where
    tagged_row : (x : Run Key) (row : Tracked) → IsRowOf x row → IsRowOf x (with_tag row)
    tagged_row x row is = by (is_of of row) where
      by : (b : Bool) → IsRowOf x (if b then record row { tag = Some tag } else row)
      by true = record { order = is.order; tag = Some tag; is = ap (λ (r : Tracked). record r { tag = Some tag }) is.is }
      by false = is

    tagged_rows : (xs : List (Run Key)) (rows : List Tracked) → AreRowsOf xs rows → AreRowsOf xs (map with_tag rows)
    tagged_rows [] [] are = tt
    tagged_rows [] (row ∷ rows) are = absurd are
    tagged_rows (x ∷ xs) [] are = absurd are
    tagged_rows (x ∷ xs) (row ∷ rows) are = (tagged_row x row are.0, tagged_rows xs rows are.1)

abbrev Fails : (Tracked → Bool) → Option Tracked → Type 0
Fails test (Some r) = test r ≡ false
Fails test None = Unit {0}

last_passes : (test : Tracked → Bool) (rows : List Tracked) (row : Tracked) → list_any test rows ≡ false → last_row rows ≡ Some row → test row ≡ false
last_passes test [] row none is = Prim.cc
last_passes test (r ∷ []) row none is = subst (Fails test) is (or_left (test r) false none)
last_passes test (r ∷ s ∷ rows) row none is = last_passes test (s ∷ rows) row (or_right (test r) _ none) is

-- the last row is not of those before
before_kept : (tag : List ℕ) (before added : List Tracked) (row : Tracked) → has_twin_rows (before ++ added) ≡ false → last_row added ≡ Some row → map (tagged (identity_of row) tag) before ≡ before
before_kept tag [] added row apart is = refl
before_kept tag (r ∷ before) added row apart is =
    let none = or_right (list_any (is_twin_row r) before) _ (sym (any-append (is_twin_row r) before added) ∙ or_left (list_any (is_twin_row r) (before ++ added)) _ apart) in
    let other = or_left (same_identity (identity_of r) (identity_of row)) _ (last_passes (is_twin_row r) added row none is) in
    ap (λ b. (if b then record r { tag = Some tag } else r) ∷ map (tagged (identity_of row) tag) before) other
    ∙ ap (λ rows. r ∷ rows) (before_kept tag before added row (or_right (list_any (is_twin_row r) (before ++ added)) _ apart) is)

last_added : (before : List Tracked) (a : Tracked) (added : List Tracked) → last_row (before ++ a ∷ added) ≡ last_row (a ∷ added)
last_added [] a added = refl
last_added (r ∷ []) a added = refl
last_added (r ∷ s ∷ before) a added = last_added (s ∷ before) a added

pub tag_keeps : {Key : Type 0} (m : Meaning Key) → TagKeeps m
tag_keeps {Key} m d tag before now x xs row ran last = record {
  sound = ran.sound;
  added = map (tagged (identity_of row) tag) ran.added;
  are_theirs = tagged_rows (identity_of row) tag (x ∷ xs) ran.added ran.are_theirs;
  rows = ap (map (tagged (identity_of row) tag)) ran.rows ∙ map-append (tagged (identity_of row) tag) before.rows ran.added ∙ ap (λ rows. rows ++ map (tagged (identity_of row) tag) ran.added) kept;
  differ = same_twins (identity_of row) tag now.rows ∙ ran.differ;
  users = ran.users;
} where
  among : (added : List Tracked) → AreRowsOf (x ∷ xs) added → last_row (before.rows ++ added) ≡ Some row → last_row added ≡ Some row
  among [] are is = absurd are
  among (a ∷ added) are is = sym (last_added before.rows a added) ∙ is

  kept : map (tagged (identity_of row) tag) before.rows ≡ before.rows
  kept = before_kept tag before.rows ran.added row (ap has_twin_rows (sym ran.rows) ∙ ran.differ) (among ran.added ran.are_theirs (ap last_row (sym ran.rows) ∙ last))
