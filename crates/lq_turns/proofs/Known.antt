-- Without validation faults a changeset is the first of its identity.
use Rattle.std.proofs.Common.{ap, sym, ◌∙◌}
use Rattle.std.specs.List.{list_all, list_any}
use Rattle.std.specs.Prelude.{Bool, List, Some, [], cond, false, if◌then◌else◌, refl, true, not, ◌&&◌, ◌++◌, ◌||◌, ◌∷◌, ◌≡◌}
use Rattle.lq_base.specs.declared.identity.Identity.{Identity}
use Rattle.lq_base.specs.declared.tracking.Tracked.{Tracked}
use Rattle.lq_model.proofs.Lists.{and_left, and_right, or_false, or_left, or_right}
use Rattle.lq_track.specs.Database.{same_identity}
use Rattle.lq_turns.specs.Stops.{are_twins, is_twin}
use Rattle.lq_turns.specs.Faults.{changed_at, faults_behind, FaultlessAreApart, FaultlessKnows}
use Rattle.lq_turns.specs.Script.{set_of}
use Rattle.lq_turns.specs.declared.fault.Fault.{Fault}
use Rattle.lq_turns.specs.declared.fault.Fault.TheVariants.{Twice}
use Rattle.lq_turns.specs.Set.{Set, row_at}
use Rattle.lq_turns.proofs.Undone.{one_itself}

last_empty : (xs ys : List Fault) → xs ++ ys ≡ [] → ys ≡ []
last_empty [] ys is = is
last_empty (x ∷ xs) ys is = Prim.cc

first_empty : (xs ys : List Fault) → xs ++ ys ≡ [] → xs ≡ []
first_empty [] ys is = refl
first_empty (x ∷ xs) ys is = Prim.cc

module _ {Key : Type 0} where
  own : (earlier : List Identity) (x : Set Key) (after : List (Set Key)) (rows : List Tracked) (twice : Bool)
      → (if twice then Twice x.identity ∷ [] else []) ++ changed_at x (row_at x.identity rows) ++ faults_behind (x.identity ∷ earlier) after rows ≡ [] → twice ≡ false
  own earlier x after rows false is = refl
  own earlier x after rows true is = Prim.cc

  -- none before it that is here has its identity
  Alone : (earlier : List Identity) (before after : List (Set Key)) (x : Set Key) (rows : List Tracked) → x.here ≡ true → faults_behind earlier (before ++ x ∷ after) rows ≡ [] → list_any (same_identity x.identity) earlier ≡ false
  Alone earlier [] after x rows here is = own earlier x after rows (list_any (same_identity x.identity) earlier) (sym (ap (λ b. if b then (if list_any (same_identity x.identity) earlier then Twice x.identity ∷ [] else []) ++ changed_at x (row_at x.identity rows) ++ faults_behind (x.identity ∷ earlier) after rows else faults_behind earlier after rows) here) ∙ is)
  Alone earlier (y ∷ before) after x rows here is =
      (elim y.here as (λ b. (if b then (if list_any (same_identity y.identity) earlier then Twice y.identity ∷ [] else []) ++ changed_at y (row_at y.identity rows) ++ faults_behind (y.identity ∷ earlier) (before ++ x ∷ after) rows else faults_behind earlier (before ++ x ∷ after) rows) ≡ []
      → list_any (same_identity x.identity) earlier ≡ false) [
        | true ↦ λ q. or_right (same_identity x.identity y.identity) _ (Alone (y.identity ∷ earlier) before after x rows here (last_empty ((if list_any (same_identity y.identity) earlier then Twice y.identity ∷ [] else []) ++ changed_at y (row_at y.identity rows)) _ q))
        | false ↦ λ q. Alone earlier before after x rows here q
      ]) is

  found : (earlier : List Identity) (before after : List (Set Key)) (x : Set Key) (rows : List Tracked) → x.here ≡ true → faults_behind earlier (before ++ x ∷ after) rows ≡ [] → set_of (before ++ x ∷ after) x.identity ≡ Some x
  found earlier [] after x rows here is = ap (λ b. cond (b && same_identity x.identity x.identity) (Some x) (set_of after x.identity)) here ∙ ap (λ b. cond b (Some x) (set_of after x.identity)) (one_itself x.identity)
  found earlier (y ∷ before) after x rows here is =
      (elim y.here as (λ b. (if b then (if list_any (same_identity y.identity) earlier then Twice y.identity ∷ [] else []) ++ changed_at y (row_at y.identity rows) ++ faults_behind (y.identity ∷ earlier) (before ++ x ∷ after) rows else faults_behind earlier (before ++ x ∷ after) rows) ≡ []
      → cond (b && same_identity x.identity y.identity) (Some y) (set_of (before ++ x ∷ after) x.identity) ≡ Some x) [
        | true ↦ λ q.
            let rest = last_empty ((if list_any (same_identity y.identity) earlier then Twice y.identity ∷ [] else []) ++ changed_at y (row_at y.identity rows)) (faults_behind (y.identity ∷ earlier) (before ++ x ∷ after) rows) q in
            ap (λ b. cond b (Some y) (set_of (before ++ x ∷ after) x.identity)) (or_left (same_identity x.identity y.identity) _ (Alone (y.identity ∷ earlier) before after x rows here rest)) ∙ found (y.identity ∷ earlier) before after x rows here rest
        | false ↦ λ q. found earlier before after x rows here q
      ]) is

pub faultless_knows : (Key : Type 0) → FaultlessKnows Key
faultless_knows Key before after x rows here is = found [] before after x rows here is

-- and has no twin

module _ {Key : Type 0} where
  abbrev behind_by : List Identity → Set Key → List (Set Key) → List Tracked → Bool → List Fault
  behind_by earlier y ys rows here = if here then (if list_any (same_identity y.identity) earlier then Twice y.identity ∷ [] else []) ++ changed_at y (row_at y.identity rows) ++ faults_behind (y.identity ∷ earlier) ys rows else faults_behind earlier ys rows

  no_twin : (x : Set Key) (earlier : List Identity) (ys : List (Set Key)) (rows : List Tracked) → ((of : Identity) → list_any (same_identity of) earlier ≡ false → same_identity of x.identity ≡ false)
      → list_all (λ (y : Set Key). not y.selected || y.here) ys ≡ true → faults_behind earlier ys rows ≡ [] → list_any (is_twin x) ys ≡ false
  no_twin x earlier [] rows among chosen is = refl
  no_twin x earlier (y ∷ ys) rows among chosen is =
      (elim y.here as (λ b. (not y.selected || b) ≡ true → behind_by earlier y ys rows b ≡ [] → (is_twin x y || list_any (is_twin x) ys) ≡ false) [
        | true ↦ λ may q. or_false _ _ (apart x.selected y.selected (among y.identity (own earlier y ys rows (list_any (same_identity y.identity) earlier) q)))
            (no_twin x (y.identity ∷ earlier) ys rows (λ of none. among of (or_right (same_identity of y.identity) _ none)) (and_right (not y.selected || y.here) _ chosen)
            (last_empty ((if list_any (same_identity y.identity) earlier then Twice y.identity ∷ [] else []) ++ changed_at y (row_at y.identity rows)) _ q))
        | false ↦ λ may q. or_false _ _ (unchosen x.selected y.selected (same_identity y.identity x.identity) may) (no_twin x earlier ys rows among (and_right (not y.selected || y.here) _ chosen) q)
      ]) (and_left (not y.selected || y.here) _ chosen) is where
        apart : (a b : Bool) → same_identity y.identity x.identity ≡ false → (a && (b && same_identity y.identity x.identity)) ≡ false
        apart true true q = q
        apart true false q = refl
        apart false b q = refl

        unchosen : (a b z : Bool) → (not b || false) ≡ true → (a && (b && z)) ≡ false
        unchosen true true z q = Prim.cc
        unchosen true false z q = refl
        unchosen false b z q = refl

  all_apart : (earlier : List Identity) (xs : List (Set Key)) (rows : List Tracked) → list_all (λ (x : Set Key). not x.selected || x.here) xs ≡ true → faults_behind earlier xs rows ≡ [] → are_twins xs ≡ false
  all_apart earlier [] rows chosen is = refl
  all_apart earlier (x ∷ xs) rows chosen is =
      (elim x.here as (λ b. (not x.selected || b) ≡ true → behind_by earlier x xs rows b ≡ [] → (list_any (is_twin x) xs || are_twins xs) ≡ false) [
        | true ↦ λ may q.
            let rest = last_empty ((if list_any (same_identity x.identity) earlier then Twice x.identity ∷ [] else []) ++ changed_at x (row_at x.identity rows)) _ q in
            let others = and_right (not x.selected || x.here) _ chosen in
            or_false _ _ (no_twin x (x.identity ∷ earlier) xs rows (λ of none. or_left (same_identity of x.identity) _ none) others rest) (all_apart (x.identity ∷ earlier) xs rows others rest)
        | false ↦ λ may q. or_false _ _ (unchosen x.selected xs may) (all_apart earlier xs rows (and_right (not x.selected || x.here) _ chosen) q)
      ]) (and_left (not x.selected || x.here) _ chosen) is where
        unchosen : (a : Bool) (ys : List (Set Key)) → (not a || false) ≡ true → list_any (λ y. a && (y.selected && same_identity y.identity x.identity)) ys ≡ false
        unchosen a [] q = refl
        unchosen false (y ∷ ys) q = unchosen false ys q
        unchosen true (y ∷ ys) q = Prim.cc

pub faultless_are_apart : (Key : Type 0) → FaultlessAreApart Key
faultless_are_apart Key xs rows chosen is = all_apart [] xs rows chosen is
