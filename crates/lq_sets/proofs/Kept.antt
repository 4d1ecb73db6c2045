-- What stays of a plan where the turn of a changeset is made.
use Rattle.std.proofs.Common.{ap, sym, subst, refl, ◌≡◌, ◌≤◌, ◌∙◌, ◌+◌, ◌&&◌, ◌∷◌, ◌++◌, Bool, cond, false, true, if◌then◌else◌, length, List, [], None, Option, Some, Ok, Err, Result, map, suc, ℕ}
use Rattle.std.proofs.lemmas.Bool.{leb-true}
use Rattle.std.specs.List.{list_any}
use Rattle.std.specs.Prelude.{nat_lt}
use Rattle.lq_base.specs.declared.dialect.Dialect.{Dialect}
use Rattle.lq_base.specs.declared.identity.Identity.{Identity}
use Rattle.lq_base.specs.declared.reason.Reason.{Reason}
use Rattle.lq_base.specs.declared.reason.Reason.TheVariants.{TooManyRows, TooWide}
use Rattle.lq_base.specs.declared.tracking.Tracked.{Tracked}
use Rattle.lq_model.proofs.Lists.{or_left, or_right, true_false}
use Rattle.lq_model.specs.Catalogue.{Catalogue}
use Rattle.lq_plan.specs.Told.{item_at, work_from}
use Rattle.lq_plan.specs.declared.turns.Item.{Item}
use Rattle.lq_sets.proofs.Placed.{filled_last, inserted_last, renewed_last}
use Rattle.lq_sets.specs.SetTurns.{last_after}
use Rattle.lq_track.specs.Database.{same_identity}
use Rattle.lq_track.specs.Log.{identity_of}
use Rattle.lq_turns.proofs.FirstRuns.{tested_by}
use Rattle.lq_turns.proofs.RowsFound.{filled_apart, inserted_apart, other_way, renewed_apart}
use Rattle.lq_turns.specs.Stops.{is_twin}
use Rattle.lq_turns.specs.Deed.{Contents, has_place, others, renewed, rows_after, theirs}
use Rattle.lq_turns.specs.Script.{turn_by}
use Rattle.lq_turns.specs.Set.{Meaning, Set, row_at}
use Rattle.lq_turns.specs.Settle.{choice_of, fill_turn, greatest, mark_turn, recorded, run_turn, what, what_by}
use Rattle.lq_turns.specs.Turn.{Course, Ending, Finished, Refused, Stuck, Through, course, ending, is_marked, kept, refused, row_ending}
use Rattle.lq_turns.specs.declared.choice.Choice.{Choice}
use Rattle.lq_turns.specs.declared.choice.Choice.TheVariants.{Fills, Halts, Marks, Passes, Runs, Skips}
use Rattle.lq_turns.specs.declared.choice.What.{What}
use Rattle.lq_turns.specs.declared.choice.What.TheVariants.{Again, Fill, New}
use Rattle.lq_turns.specs.declared.deed.OnRows.TheVariants.{Inserted, Renewed}
use Rattle.lq_turns.specs.declared.stamp.Stamp.{Stamp}
use Rattle.lq_turns.specs.declared.turn.Turn.{Turn}

-- a choice is one by what the changeset's row tells
abbrev pub IsBy : What → Choice → Type 0
IsBy w (Marks by) = by ≡ w
IsBy w (Runs by why) = by ≡ w
IsBy w Passes = Unit {0}
IsBy w Fills = Unit {0}
IsBy w Skips = Unit {0}
IsBy w (Halts why) = Unit {0}

pub choice_by : {Key : Type 0} (x : Set Key) (c : Contents) (w : What) → IsBy w (choice_of x c (Some w))
choice_by x c Fill = tt
choice_by x c New = tested_by New (IsBy New) (λ why. refl) (λ why. tt) tt refl x.condition (x.condition.told c)
choice_by x c Again = tested_by Again (IsBy Again) (λ why. refl) (λ why. tt) tt refl x.condition (x.condition.told c)

ok_rows : {x y : List Tracked} → (let r : Result (List Tracked) Reason = Ok x in r) ≡ Ok y → x ≡ y
ok_rows e = Prim.cc

no_rows : {A : Type 0} {why : Reason} {y : List Tracked} → (let r : Result (List Tracked) Reason = Err why in r) ≡ Ok y → A
no_rows e = Prim.cc

-- a row that went in has a place
inserted_case : (row : Tracked) (rows now : List Tracked) → rows_after (Inserted row) rows ≡ Ok now → (has_place row ≡ true) × (rows ++ row ∷ [] ≡ now)
inserted_case row rows now is = by (has_place row) (nat_lt (length rows) 100000) refl is where
  by : (place few : Bool) → has_place row ≡ place → (if place then (if few then Ok (rows ++ row ∷ []) else Err TooManyRows) else Err TooWide) ≡ Ok now → (has_place row ≡ true) × (rows ++ row ∷ [] ≡ now)
  by true true has q = (has, ok_rows q)
  by true false has q = no_rows q
  by false few has q = no_rows q

renewed_case : (row : Tracked) (all now : List Tracked) → (if has_place row then Ok all else Err TooWide) ≡ Ok now → (has_place row ≡ true) × (all ≡ now)
renewed_case row all now is = by (has_place row) refl is where
  by : (place : Bool) → has_place row ≡ place → (if place then Ok all else Err TooWide) ≡ Ok now → (has_place row ≡ true) × (all ≡ now)
  by true has q = (has, ok_rows q)
  by false has q = no_rows q

-- the rows after a turn of this changeset that finished
pub record IsKept {Key : Type 0} (x : Set Key) (rows now : List Tracked) (last : ℕ) : Type 0 where
  pub what_is : (y : Set Key) → is_twin x y ≡ false → what y now ≡ what y rows
  pub last_is : greatest now ≡ last
  pub small : last ≤ 2147483647

module _ {Key : Type 0} (x : Set Key) (rows : List Tracked) where
  unselected : (y : Set Key) (any : List Tracked) → y.selected ≡ false → what y any ≡ None
  unselected y any is = ap (λ b. cond b (what_by y (row_at y.identity any)) None) is

  none_some : {A B : Type 0} {b : B} → (let o : Option B = None in o) ≡ Some b → A
  none_some e = Prim.cc

  chosen : (w : What) → what x rows ≡ Some w → x.selected ≡ true
  chosen w has = (elim x.selected as (λ b. x.selected ≡ b → x.selected ≡ true) [ true ↦ λ is. is | false ↦ λ is. none_some (sym (unselected x rows is) ∙ has) ]) refl

  other_stays : (now : List Tracked) → x.selected ≡ true → ((of : Identity) → same_identity of x.identity ≡ false → row_at of now ≡ row_at of rows) → (y : Set Key) → is_twin x y ≡ false → what y now ≡ what y rows
  other_stays now selected apart y twin = by x.selected y.selected refl refl twin where
    by : (a b : Bool) → x.selected ≡ a → y.selected ≡ b → (a && (b && same_identity y.identity x.identity)) ≡ false → what y now ≡ what y rows
    by false b first second q = true_false selected first
    by true false first second q = unselected y now second ∙ sym (unselected y rows second)
    by true true first second q = ap (λ o. cond y.selected (what_by y o) None) (apart y.identity q)

  -- what runs again, or has its sum filled in, has a row
  abbrev is_new : What → Bool
  is_new New = true
  is_new Again = false
  is_new Fill = false

  has_row : (w : What) → is_new w ≡ false → what x rows ≡ Some w → (old : Tracked) × (row_at x.identity rows ≡ Some old)
  has_row w old has = by (row_at x.identity rows) refl (ap (λ b. cond b (what_by x (row_at x.identity rows)) None) (sym (chosen w has)) ∙ has) where
    by : (o : Option Tracked) → row_at x.identity rows ≡ o → what_by x o ≡ Some w → (old : Tracked) × (row_at x.identity rows ≡ Some old)
    by (Some row) at q = (row, at)
    by None at q = true_false (let same : New ≡ w = Prim.cc in ap is_new (sym same)) old

  module _ (row : Tracked) (its : identity_of row ≡ x.identity) (place : row.order ≡ greatest rows + 1) where
    small_place : has_place row ≡ true → greatest rows + 1 ≤ 2147483647
    small_place has = subst (λ n. n ≤ 2147483647) place (leb-true row.order 2147483647 has)

    inserted_kept : (now : List Tracked) → x.selected ≡ true → rows_after (Inserted row) rows ≡ Ok now → IsKept x rows now (greatest rows + 1)
    inserted_kept now selected went =
        let is = inserted_case row rows now went in
        record {
          what_is = other_stays now selected (λ of apart. ap (row_at of) (sym is.1) ∙ inserted_apart of x.identity apart rows row (ap (λ i. same_identity i of) its ∙ other_way of x.identity apart));
          last_is = ap greatest (sym is.1) ∙ inserted_last rows row place;
          small = small_place is.0;
        }

    renewed_kept : (now : List Tracked) → x.selected ≡ true → (old : Tracked) → row_at x.identity rows ≡ Some old → rows_after (Renewed row) rows ≡ Ok now → IsKept x rows now (greatest rows + 1)
    renewed_kept now selected old at went =
        let is = renewed_case row (others (identity_of row) rows ++ map (renewed row) (theirs (identity_of row) rows)) now went in
        let all = ap (λ i. others i rows ++ map (renewed row) (theirs i rows)) (sym its) ∙ is.1 in
        record {
          what_is = other_stays now selected (λ of apart. ap (row_at of) (sym all) ∙ renewed_apart of x.identity apart row rows);
          last_is = ap greatest (sym all) ∙ renewed_last x.identity row rows old at place;
          small = small_place is.0;
        }

    recorded_kept : (w : What) → what x rows ≡ Some w → (now : List Tracked) → rows_after (recorded w row) rows ≡ Ok now → IsKept x rows now (greatest rows + 1)
    recorded_kept New has now went = inserted_kept now (chosen New has) went
    recorded_kept Again has now went = let old = has_row Again refl has in renewed_kept now (chosen Again has) old.0 old.1 went
    recorded_kept Fill has now went = let old = has_row Fill refl has in renewed_kept now (chosen Fill has) old.0 old.1 went

  pub turn_kept : (d : Dialect) (m : Meaning Key) (stamp : Stamp) (w : What) → what x rows ≡ Some w → greatest rows ≤ 2147483647 → (q : Choice) → IsBy w q → (turn : Turn) → turn_by d m stamp x rows q ≡ Some turn
      → (now : List Tracked) → rows_after turn.row rows ≡ Ok now → IsKept x rows now (last_after q (greatest rows))
  turn_kept d m stamp w has small Passes by turn is now went = none_some is
  turn_kept d m stamp w has small Skips by turn is now went = none_some is
  turn_kept d m stamp w has small (Halts why) by turn is now went = none_some is
  turn_kept d m stamp w has small Fills by turn is now went =
      let same : fill_turn x ≡ turn = Prim.cc in
      let all = ok_rows (ap (λ (t : Turn). rows_after t.row rows) same ∙ went) in
      record {
        what_is = other_stays now (chosen w has) (λ of apart. ap (row_at of) (sym all) ∙ filled_apart of x.identity apart x.sum rows);
        last_is = ap greatest (sym all) ∙ filled_last x.identity x.sum rows;
        small = small;
      }
  turn_kept d m stamp w has small (Marks by) is_by turn is now went =
      let same : mark_turn stamp.reading by x rows ≡ turn = Prim.cc in
      recorded_kept _ refl refl by (has ∙ ap (λ z. Some z) (sym is_by)) now (ap (λ (t : Turn). rows_after t.row rows) same ∙ went)
  turn_kept d m stamp w has small (Runs by why) is_by turn is now went =
      let same : run_turn d m stamp.reading by x rows ≡ turn = Prim.cc in
      recorded_kept _ refl refl by (has ∙ ap (λ z. Some z) (sym is_by)) now (ap (λ (t : Turn). rows_after t.row rows) same ∙ went)

-- so the plan of those behind it stays
work_kept : {Key : Type 0} (x : Set Key) (rows now : List Tracked) (last : ℕ) → IsKept x rows now last → (xs : List (Set Key)) (n : ℕ) → list_any (is_twin x) xs ≡ false → work_from n xs now ≡ work_from n xs rows
work_kept x rows now last keeps [] n apart = refl
work_kept x rows now last keeps (y ∷ xs) n apart =
    ap (λ w. item_at n w ++ work_from (suc n) xs now) (keeps.what_is y (or_left (is_twin x y) _ apart))
    ∙ ap (λ more. item_at n (what y rows) ++ more) (work_kept x rows now last keeps xs (suc n) (or_right (is_twin x y) _ apart))

-- the rows after a turn

abbrev pub RowsAre : Turn → Contents → Ending → Type 0
RowsAre turn c (Finished e) = rows_after turn.row c.rows ≡ Ok e.rows
RowsAre turn c (Refused e refusal) = e.rows ≡ c.rows

module _ (d : Dialect) (turn : Turn) (c : Contents) where
  row_are : (users : Catalogue) (r : Result (List Tracked) Reason) → rows_after turn.row c.rows ≡ r → RowsAre turn c (elim r as (λ _. Ending) [ Ok rows ↦ Finished (record { users = users; rows = rows }) | Err reason ↦ refused d turn.statements (kept d turn turn.statements false) reason c ])
  row_are users (Ok rows) is = is
  row_are users (Err reason) is = refl

  course_are : (q : Course) → RowsAre turn c (elim q as (λ _. Ending) [ Through users ↦ row_ending d turn users c | Stuck before s reason ↦ refused d before (kept d turn before (is_marked d turn s)) reason c ])
  course_are (Through users) = row_are users (rows_after turn.row c.rows) refl
  course_are (Stuck before s reason) = refl

  pub rows_are : RowsAre turn c (ending d turn c)
  rows_are = course_are (course d turn.statements c.users)

-- the plan after a turn that finished
pub plan_kept : {Key : Type 0} (x : Set Key) (rows now : List Tracked) (last : ℕ) → IsKept x rows now last → (n : ℕ) (xs : List (Set Key)) (items : List Item) → list_any (is_twin x) xs ≡ false
    → work_from n xs rows ≡ items → work_from n xs now ≡ items
plan_kept x rows now last keeps n xs items twins plan = work_kept x rows now last keeps xs n twins ∙ plan
