-- The turns of an update that was stopped between two of them are the rest.
use Rattle.std.proofs.Common.{ap, subst, sym, ◌∙◌}
use Rattle.std.specs.List.{list_all, list_any}
use Rattle.std.specs.Prelude.{Bool, Err, List, None, Ok, Option, Result, Some, [], cond, false, if◌then◌else◌, length, map, nat_lt, not, refl, true, ℕ, ◌+◌, ◌&&◌, ◌++◌, ◌||◌, ◌∷◌, ◌≡◌}
use Rattle.lq_base.specs.declared.dialect.Dialect.{Dialect}
use Rattle.lq_base.specs.declared.identity.Identity.{Identity}
use Rattle.lq_base.specs.declared.reason.Reason.{Reason}
use Rattle.lq_base.specs.declared.reason.Reason.TheVariants.{TooManyRows, TooWide}
use Rattle.lq_base.specs.declared.run.Did.{Did}
use Rattle.lq_base.specs.declared.run.Why.{Why}
use Rattle.lq_base.specs.declared.tracking.Exec.TheVariants as exec
use Rattle.lq_base.specs.declared.tracking.Tracked.{Tracked}
use Rattle.lq_model.proofs.Lists.{and_left, and_right, any-append, or_false, or_left, or_right, true_false}
use Rattle.lq_model.specs.Catalogue.{Catalogue}
use Rattle.lq_model.specs.Sound.{IsSound}
use Rattle.lq_track.specs.Database.{same_identity}
use Rattle.lq_track.specs.Log.{identity_of}
use Rattle.lq_turns.specs.Stops.{GoesOn, are_twins, has_own_sum, is_twin, all_at, is_skip, is_to_run, runs_once}
use Rattle.lq_turns.specs.Deed.{Contents, has_place, others, renewed, rows_after, theirs}
use Rattle.lq_turns.specs.Set.{not_fresh, IsKept, Meaning, Set, is_excused, row_at}
use Rattle.lq_turns.specs.Script.{turn_by}
use Rattle.lq_turns.specs.Settle.{Settled, all_settled, choice, choice_of, did_of, exec_of, followed, greatest, has_changed, is_to_fill, mark_turn, nothing_done, recorded, row_for, run_turn, runs_again, settle, settled_as, settled_by, tested, what, what_by}
use Rattle.lq_turns.specs.declared.choice.Choice.{Choice}
use Rattle.lq_turns.specs.declared.choice.Choice.TheVariants.{Fills, Halts, Marks, Passes, Runs, Skips}
use Rattle.lq_turns.specs.declared.choice.What.{What}
use Rattle.lq_turns.specs.declared.choice.What.TheVariants.{Again, Fill, New}
use Rattle.lq_turns.specs.declared.deed.OnRows.TheVariants.{Inserted}
use Rattle.lq_turns.specs.declared.stamp.Stamp.{Stamp}
use Rattle.lq_turns.specs.declared.stop.Stop.{Stop}
use Rattle.lq_turns.specs.declared.turn.Turn.{Turn}
use Rattle.lq_turns.specs.Turn.{Course, Ending, Finished, Refused, Stuck, Through, contents_in, course, ending, is_marked, kept, refused, row_ending}
use Rattle.lq_turns.proofs.FirstRuns.{tested_by}
use Rattle.lq_turns.proofs.RowsFound.{HasSum, filled_apart, filled_own, inserted_apart, inserted_own, other_way, renewed_apart, renewed_own}
use Rattle.lq_turns.proofs.Undone.{one_itself}
use Rattle.lq_turns.proofs.Updates.{run_is, settled_is, sound_by, turn_left}

-- the rows after a turn

abbrev RowsAre : Turn → Contents → Ending → Type 0
RowsAre turn c (Finished e) = rows_after turn.row c.rows ≡ Ok e.rows
RowsAre turn c (Refused e refusal) = e.rows ≡ c.rows

module _ (d : Dialect) (turn : Turn) (c : Contents) where
  row_are : (users : Catalogue) (r : Result (List Tracked) Reason) → rows_after turn.row c.rows ≡ r → RowsAre turn c (elim r as (λ _. Ending) [ Ok rows ↦ Finished (record { users = users; rows = rows }) | Err reason ↦ refused d turn.statements (kept d turn turn.statements false) reason c ])
  row_are users (Ok rows) is = is
  row_are users (Err reason) is = refl

  course_are : (q : Course) → RowsAre turn c (elim q as (λ _. Ending) [ Through users ↦ row_ending d turn users c | Stuck before s reason ↦ refused d before (kept d turn before (is_marked d turn s)) reason c ])
  course_are (Through users) = row_are users (rows_after turn.row c.rows) refl
  course_are (Stuck before s reason) = refl

  rows_are : RowsAre turn c (ending d turn c)
  rows_are = course_are (course d turn.statements c.users)

ok_rows : {x y : List Tracked} → (let r : Result (List Tracked) Reason = Ok x in r) ≡ Ok y → x ≡ y
ok_rows e = Prim.cc

-- what goes in, where it has a place and there is room
inserted_case : (P : List Tracked → Type 0) (row : Tracked) (rows now : List Tracked) → rows_after (Inserted row) rows ≡ Ok now → P (rows ++ row ∷ []) → P now
inserted_case P row rows now is holds = by (has_place row) (nat_lt (length rows) 100000) is where
  by : (place few : Bool) → (if place then (if few then Ok (rows ++ row ∷ []) else Err TooManyRows) else Err TooWide) ≡ Ok now → P now
  by true true q = subst P (ok_rows q) holds
  by true false q = Prim.cc
  by false few q = Prim.cc

renewed_case : (P : List Tracked → Type 0) (row : Tracked) (rows all now : List Tracked) → (if has_place row then Ok all else Err TooWide) ≡ Ok now → P all → P now
renewed_case P row rows all now is holds = by (has_place row) is where
  by : (place : Bool) → (if place then Ok all else Err TooWide) ≡ Ok now → P now
  by true q = subst P (ok_rows q) holds
  by false q = Prim.cc

abbrev is_calm : {Key : Type 0} → Set Key → Bool
is_calm x = has_own_sum x && not x.run_always

pub both_true : {a b : Bool} → a ≡ true → b ≡ true → (a && b) ≡ true
both_true {a} {b} p q = ap (λ x. x && b) p ∙ q

-- a row is there where the turn is no new one
abbrev is_new : What → Bool
is_new New = true
is_new Again = false
is_new Fill = false

module _ {Key : Type 0} where
  -- a changeset whose row has its sum has no turn
  no_turn : (x : Set Key) (rows : List Tracked) → is_calm x ≡ true → HasSum (row_at x.identity rows) (Some x.sum) → what x rows ≡ None
  no_turn x rows calm found =
      let sums = and_left _ (not x.run_always) calm in
      ap (λ o. cond x.selected (what_by x o) None) found.1
      ∙ ap (λ s. cond x.selected (cond (x.run_always || (x.run_on_change && has_changed x s)) (Some Again) (cond (is_to_fill x s) (Some Fill) None)) None) found.2
      ∙ by x.selected x.run_always x.run_on_change (x.is_own_sum x.sum) (x.is_old_sum x.sum) (is_excused x x.sum) (and_left _ (not (x.is_old_sum x.sum)) sums) (and_right (x.is_own_sum x.sum) _ sums) (and_right (x.is_own_sum x.sum && not (x.is_old_sum x.sum)) _ calm) where
        by : (chosen always change own old excused : Bool) → own ≡ true → not old ≡ true → not always ≡ true
            → cond chosen (cond (always || (change && (not own && not excused))) (Some Again) (cond (old && own) (Some Fill) None)) None ≡ None
        by chosen true change own old excused is new calm = Prim.cc
        by chosen false change own true excused is new calm = Prim.cc
        by chosen false change false false excused is new calm = Prim.cc
        by false false change true false excused is new calm = refl
        by true false true true false excused is new calm = refl
        by true false false true false excused is new calm = refl

  -- one that is new has no row, another has one
  old_row : (x : Set Key) (rows : List Tracked) (o : Option Tracked) → row_at x.identity rows ≡ o → (w : What) → what x rows ≡ Some w → cond x.selected (what_by x o) None ≡ Some w
  old_row x rows o is w at = ap (λ z. cond x.selected (what_by x z) None) (sym is) ∙ at

  new_none : (x : Set Key) (rows : List Tracked) → what x rows ≡ Some New → row_at x.identity rows ≡ None
  new_none x rows is = by x.selected (row_at x.identity rows) refl is where
    by : (chosen : Bool) (o : Option Tracked) → row_at x.identity rows ≡ o → cond chosen (what_by x o) None ≡ Some New → row_at x.identity rows ≡ None
    by false o at q = Prim.cc
    by true None at q = at
    by true (Some row) at q = again (runs_again x row) (is_to_fill x row.md5sum) q where
      again : (a f : Bool) → (if a then Some Again else if f then Some Fill else None) ≡ Some New → row_at x.identity rows ≡ None
      again true f q = Prim.cc
      again false true q = Prim.cc
      again false false q = Prim.cc

  has_old : (x : Set Key) (rows : List Tracked) (w : What) → is_new w ≡ false → what x rows ≡ Some w → (old : Tracked) × (row_at x.identity rows ≡ Some old)
  has_old x rows w old is = by x.selected (row_at x.identity rows) refl is where
    by : (chosen : Bool) (o : Option Tracked) → row_at x.identity rows ≡ o → cond chosen (what_by x o) None ≡ Some w → (old : Tracked) × (row_at x.identity rows ≡ Some old)
    by false o at q = Prim.cc
    by true (Some row) at q = (row, at)
    by true None at q = true_false (let same : w ≡ New = Prim.cc in ap is_new same) old

  -- a changeset's own turn

  module _ (x : Set Key) (rows : List Tracked) (row : Tracked) (is : identity_of row ≡ x.identity) (sum : row.md5sum ≡ Some x.sum) where
    own_row : (w : What) → what x rows ≡ Some w → (now : List Tracked) → rows_after (recorded w row) rows ≡ Ok now → HasSum (row_at x.identity now) (Some x.sum)
    own_row New at now went = subst (HasSum (row_at x.identity now)) sum
        (inserted_case (λ r. HasSum (row_at x.identity r) row.md5sum) row rows now went (inserted_own x.identity rows row (new_none x rows at) (ap (λ o. same_identity o x.identity) is ∙ one_itself x.identity)))
    own_row Again at now went = again now went (has_old x rows Again refl at) where
      again : (now : List Tracked) → rows_after (recorded Again row) rows ≡ Ok now → (old : Tracked) × (row_at x.identity rows ≡ Some old) → HasSum (row_at x.identity now) (Some x.sum)
      again now went old = subst (HasSum (row_at x.identity now)) sum
          (renewed_case (λ r. HasSum (row_at x.identity r) row.md5sum) row rows _ now went (subst (λ o. HasSum (row_at x.identity (others o rows ++ map (renewed row) (theirs o rows))) row.md5sum) (sym is) (renewed_own x.identity row rows old.0 old.1)))
    own_row Fill at now went = again now went (has_old x rows Fill refl at) where
      again : (now : List Tracked) → rows_after (recorded Fill row) rows ≡ Ok now → (old : Tracked) × (row_at x.identity rows ≡ Some old) → HasSum (row_at x.identity now) (Some x.sum)
      again now went old = subst (HasSum (row_at x.identity now)) sum
          (renewed_case (λ r. HasSum (row_at x.identity r) row.md5sum) row rows _ now went (subst (λ o. HasSum (row_at x.identity (others o rows ++ map (renewed row) (theirs o rows))) row.md5sum) (sym is) (renewed_own x.identity row rows old.0 old.1)))

  module _ (x other : Set Key) (apart : same_identity other.identity x.identity ≡ false) (rows : List Tracked) (row : Tracked) (is : identity_of row ≡ x.identity) where
    -- another's row
    apart_row : (w : What) (now : List Tracked) → rows_after (recorded w row) rows ≡ Ok now → row_at other.identity now ≡ row_at other.identity rows
    apart_row New now went = inserted_case (λ r. row_at other.identity r ≡ row_at other.identity rows) row rows now went
        (inserted_apart other.identity x.identity apart rows row (ap (λ o. same_identity o other.identity) is ∙ other_way other.identity x.identity apart))
    apart_row Again now went = renewed_case (λ r. row_at other.identity r ≡ row_at other.identity rows) row rows _ now went (subst (λ o. row_at other.identity (others o rows ++ map (renewed row) (theirs o rows)) ≡ row_at other.identity rows) (sym is) (renewed_apart other.identity x.identity apart row rows))
    apart_row Fill now went = renewed_case (λ r. row_at other.identity r ≡ row_at other.identity rows) row rows _ now went (subst (λ o. row_at other.identity (others o rows ++ map (renewed row) (theirs o rows)) ≡ row_at other.identity rows) (sym is) (renewed_apart other.identity x.identity apart row rows))

abbrev pub skips : Settled → Bool
skips s = list_any (λ h. is_skip h.what) s.happened

module _ {Key : Type 0} (d : Dialect) (m : Meaning Key) (keeps : IsKept m) (stamp : Stamp) where
  -- whether it was finished, told by what it gave
  ended_own : (x : Set Key) (c : Contents) (turn : Turn) (did : Did) (why : Option Why) (n : ℕ) → is_calm x ≡ true
      → ((now : List Tracked) → rows_after turn.row c.rows ≡ Ok now → HasSum (row_at x.identity now) (Some x.sum)) → (e : Ending) → RowsAre turn c e
      → (settled_as x did why n e).stop ≡ None → skips (settled_as x did why n e) ≡ false → what x (settled_as x did why n e).contents.rows ≡ None
  ended_own x c turn did why n calm own (Finished e) are stop skip = no_turn x e.rows calm (own e.rows are)
  ended_own x c turn did why n calm own (Refused e refusal) are stop skip = by x.fail_on_error stop skip where
    by : (b : Bool) → (settled_as (record x { fail_on_error = b }) did why n (Refused e refusal)).stop ≡ None → skips (settled_as (record x { fail_on_error = b }) did why n (Refused e refusal)) ≡ false
        → what x (settled_as x did why n (Refused e refusal)).contents.rows ≡ None
    by true stop skip = Prim.cc
    by false stop skip = Prim.cc

  abbrev OwnTurn : Set Key → Contents → Choice → Type 0
  OwnTurn x c q = (settled_by d m stamp.reading x c q).stop ≡ None → skips (settled_by d m stamp.reading x c q) ≡ false → what x (settled_by d m stamp.reading x c q).contents.rows ≡ None

  tested_own : (x : Set Key) (c : Contents) → list_all (m.is_for d) x.changes ≡ true → IsSound d c.users → is_calm x ≡ true → (w : What) → what x c.rows ≡ Some w → OwnTurn x c (tested w x.condition (x.condition.told c))
  tested_own x c read sound calm w is = tested_by w (OwnTurn x c)
      (λ why. subst (λ e. (settled_as x (did_of w) why (not_fresh d m x.changes c.users) e).stop ≡ None → skips (settled_as x (did_of w) why (not_fresh d m x.changes c.users) e) ≡ false → what x (settled_as x (did_of w) why (not_fresh d m x.changes c.users) e).contents.rows ≡ None)
      (sym (run_is d m keeps stamp x (run_turn d m stamp.reading w x c.rows) c refl read sound))
      (ended_own x c (run_turn d m stamp.reading w x c.rows) (did_of w) why _ calm (own_row x c.rows (row_for stamp.reading (greatest c.rows + 1) (exec_of w) x) refl refl w is) (ending d (run_turn d m stamp.reading w x c.rows) c) (rows_are d (run_turn d m stamp.reading w x c.rows) c)))
      (λ why stop skip. Prim.cc)
      (λ stop skip. Prim.cc)
      (ended_own x c (mark_turn stamp.reading w x c.rows) _ None 0 calm (own_row x c.rows (row_for stamp.reading (greatest c.rows + 1) exec.MarkRan x) refl refl w is) (ending d (mark_turn stamp.reading w x c.rows) c) (rows_are d (mark_turn stamp.reading w x c.rows) c))
      x.condition (x.condition.told c)

  -- one that runs only once, where it runs
  once_calm : (x : Set Key) (rows : List Tracked) (w : What) → is_to_run (Some w) ≡ true → what x rows ≡ Some w → has_own_sum x ≡ true → runs_once x (what x rows) ≡ true → is_calm x ≡ true
  once_calm x rows w runs is own once = both_true own (ap (λ b. not b || not x.run_always) (sym (ap is_to_run is ∙ runs)) ∙ once)

  fill_calm : (x : Set Key) (rows : List Tracked) → what x rows ≡ Some Fill → x.run_always ≡ false
  fill_calm x rows is = by x.selected (row_at x.identity rows) is where
    again : (row : Tracked) (always fill : Bool) → (if always || (x.run_on_change && has_changed x row.md5sum) then Some Again else if fill then Some Fill else None) ≡ Some Fill → always ≡ false
    again row true fill q = Prim.cc
    again row false fill q = refl

    by : (chosen : Bool) (o : Option Tracked) → cond chosen (what_by x o) None ≡ Some Fill → x.run_always ≡ false
    by false o q = Prim.cc
    by true None q = Prim.cc
    by true (Some row) q = again row x.run_always (is_to_fill x row.md5sum) q

  own_turn : (x : Set Key) (c : Contents) → list_all (m.is_for d) x.changes ≡ true → IsSound d c.users → has_own_sum x ≡ true → runs_once x (what x c.rows) ≡ true → (w : Option What) → what x c.rows ≡ w → OwnTurn x c (choice_of x c w)
  own_turn x c read sound own once None is = λ stop skip. is
  own_turn x c read sound own once (Some New) is = tested_own x c read sound (once_calm x c.rows New refl is own once) New is
  own_turn x c read sound own once (Some Again) is = tested_own x c read sound (once_calm x c.rows Again refl is own once) Again is
  own_turn x c read sound own once (Some Fill) is = λ stop skip.
      let old = has_old x c.rows Fill refl is in
      no_turn x _ (both_true own (ap not (fill_calm x c.rows is))) (filled_own x.identity x.sum c.rows old.0 old.1)

  -- another's turn
  ended_apart : (other : Identity) (turn : Turn) (c : Contents) → ((now : List Tracked) → rows_after turn.row c.rows ≡ Ok now → row_at other now ≡ row_at other c.rows) → (e : Ending) → RowsAre turn c e → row_at other (contents_in e).rows ≡ row_at other c.rows
  ended_apart other turn c apart (Finished e) are = apart e.rows are
  ended_apart other turn c apart (Refused e refusal) are = ap (row_at other) are

  turn_apart : (x other : Set Key) (c : Contents) → same_identity other.identity x.identity ≡ false → (q : Choice) → row_at other.identity (turn_left d (turn_by d m stamp x c.rows q) c).rows ≡ row_at other.identity c.rows
  turn_apart x other c apart Passes = refl
  turn_apart x other c apart Skips = refl
  turn_apart x other c apart (Halts why) = refl
  turn_apart x other c apart Fills = filled_apart other.identity x.identity apart x.sum c.rows
  turn_apart x other c apart (Marks w) = ended_apart other.identity (mark_turn stamp.reading w x c.rows) c (apart_row x other apart c.rows (row_for stamp.reading (greatest c.rows + 1) exec.MarkRan x) refl w) (ending d (mark_turn stamp.reading w x c.rows) c) (rows_are d (mark_turn stamp.reading w x c.rows) c)
  turn_apart x other c apart (Runs w why) = ended_apart other.identity (run_turn d m stamp.reading w x c.rows) c (apart_row x other apart c.rows (row_for stamp.reading (greatest c.rows + 1) (exec_of w) x) refl w) (ending d (run_turn d m stamp.reading w x c.rows) c) (rows_are d (run_turn d m stamp.reading w x c.rows) c)

  -- all of them

  one_is : (x : Set Key) (c : Contents) → list_all (m.is_for d) x.changes ≡ true → IsSound d c.users → (settle d m stamp.reading x c).contents ≡ turn_left d (turn_by d m stamp x c.rows (choice x c)) c
  one_is x c read sound = settled_is d m keeps stamp x c (choice x c) read sound

  pub still : (x : Set Key) (c : Contents) → list_all (m.is_for d) x.changes ≡ true → IsSound d c.users → IsSound d (settle d m stamp.reading x c).contents.users
  still x c read sound = subst (λ (e : Contents). IsSound d e.users) (sym (one_is x c read sound)) (sound_by d m keeps stamp x c (choice x c) read sound)

  abbrev are_read : List (Set Key) → Bool
  are_read xs = list_all (λ (x : Set Key). list_all (m.is_for d) x.changes) xs

  unselected : (x : Set Key) (rows : List Tracked) → x.selected ≡ false → what x rows ≡ None
  unselected x rows is = ap (λ b. cond b (what_by x (row_at x.identity rows)) None) is

  passes : (x : Set Key) (c : Contents) → what x c.rows ≡ None → settle d m stamp.reading x c ≡ nothing_done c
  passes x c is = ap (λ o. settled_by d m stamp.reading x c (choice_of x c o)) is

  -- what becomes of another stays
  what_kept : (x other : Set Key) (c : Contents) → list_all (m.is_for d) x.changes ≡ true → IsSound d c.users → is_twin x other ≡ false → what other (settle d m stamp.reading x c).contents.rows ≡ what other c.rows
  what_kept x other c read sound apart = by x.selected other.selected refl refl apart where
    by : (a b : Bool) → x.selected ≡ a → other.selected ≡ b → (a && (b && same_identity other.identity x.identity)) ≡ false → what other (settle d m stamp.reading x c).contents.rows ≡ what other c.rows
    by false b first second q = ap (λ (s : Settled). what other s.contents.rows) (passes x c (unselected x c.rows first))
    by true false first second q = unselected other _ second ∙ sym (unselected other c.rows second)
    by true true first second q = ap (λ o. cond other.selected (what_by other o) None) (ap (λ (e : Contents). row_at other.identity e.rows) (one_is x c read sound) ∙ turn_apart x other c q (choice x c))

  pub tests_kept : (test : Set Key → Option What → Bool) (x : Set Key) (ys : List (Set Key)) (c : Contents) → list_all (m.is_for d) x.changes ≡ true → IsSound d c.users → list_any (is_twin x) ys ≡ false
      → all_at test ys (settle d m stamp.reading x c).contents.rows ≡ all_at test ys c.rows
  tests_kept test x [] c read sound apart = refl
  tests_kept test x (y ∷ ys) c read sound apart =
      ap (λ w. test y w && all_at test ys (settle d m stamp.reading x c).contents.rows) (what_kept x y c read sound (or_left (is_twin x y) _ apart))
      ∙ ap (λ b. test y (what y c.rows) && b) (tests_kept test x ys c read sound (or_right (is_twin x y) _ apart))

  -- and after several
  pub what_stays : (other : Set Key) (xs : List (Set Key)) (c : Contents) → are_read xs ≡ true → IsSound d c.users → list_any (λ x. is_twin x other) xs ≡ false
      → what other (all_settled d m stamp.reading xs c).contents.rows ≡ what other c.rows
  what_stays other [] c read sound apart = refl
  what_stays other (x ∷ xs) c read sound apart =
      let first = and_left _ (are_read xs) read in
      let one = what_kept x other c first sound (or_left (is_twin x other) _ apart) in
      let more = what_stays other xs (settle d m stamp.reading x c).contents (and_right (list_all (m.is_for d) x.changes) _ read) (still x c first sound) (or_right (is_twin x other) _ apart) in
      elim (settle d m stamp.reading x c).stop as (λ o. what other (followed o (settle d m stamp.reading x c) (all_settled d m stamp.reading xs)).contents.rows ≡ what other c.rows) [
        | None ↦ more ∙ one
        | Some stop ↦ one
      ]

  pub twin_back : (x y : Set Key) → is_twin x y ≡ false → is_twin y x ≡ false
  twin_back x y q = by x.selected y.selected q where
    by : (a b : Bool) → (a && (b && same_identity y.identity x.identity)) ≡ false → (b && (a && same_identity x.identity y.identity)) ≡ false
    by false false q = refl
    by false true q = refl
    by true false q = refl
    by true true q = other_way y.identity x.identity q

  pub twins_back : (x : Set Key) (xs : List (Set Key)) → list_any (is_twin x) xs ≡ false → list_any (λ y. is_twin y x) xs ≡ false
  twins_back x [] q = refl
  twins_back x (y ∷ ys) q = or_false _ _ (twin_back x y (or_left (is_twin x y) _ q)) (twins_back x ys (or_right (is_twin x y) _ q))

  -- each has no turn any more
  abbrev pub AllDone : List (Set Key) → List Tracked → Type 0
  AllDone [] rows = Unit {0}
  AllDone (x ∷ xs) rows = (what x rows ≡ None) × AllDone xs rows

  pub all_done : (xs : List (Set Key)) (c : Contents) → are_read xs ≡ true → IsSound d c.users → list_all has_own_sum xs ≡ true → are_twins xs ≡ false → all_at runs_once xs c.rows ≡ true → (all_settled d m stamp.reading xs c).stop ≡ None → skips (all_settled d m stamp.reading xs c) ≡ false
      → AllDone xs (all_settled d m stamp.reading xs c).contents.rows
  all_done [] c read sound own apart once stop skip = tt
  all_done (x ∷ xs) c read sound own apart once stop skip =
      let first = and_left _ (are_read xs) read in
      let rest = and_right (list_all (m.is_for d) x.changes) _ read in
      let others = or_left (list_any (is_twin x) xs) _ apart in
      (elim (settle d m stamp.reading x c).stop as (λ o. (settle d m stamp.reading x c).stop ≡ o → (followed o (settle d m stamp.reading x c) (all_settled d m stamp.reading xs)).stop ≡ None → skips (followed o (settle d m stamp.reading x c) (all_settled d m stamp.reading xs)) ≡ false
      → AllDone (x ∷ xs) (followed o (settle d m stamp.reading x c) (all_settled d m stamp.reading xs)).contents.rows) [
        | None ↦ λ at on none.
            let both = sym (any-append (λ h. is_skip h.what) (settle d m stamp.reading x c).happened (all_settled d m stamp.reading xs (settle d m stamp.reading x c).contents).happened) ∙ none in
            let turn = own_turn x c first sound (and_left _ (list_all has_own_sum xs) own) (and_left _ (all_at runs_once xs c.rows) once) (what x c.rows) refl at (or_left (skips (settle d m stamp.reading x c)) _ both) in (
              what_stays x xs (settle d m stamp.reading x c).contents rest (still x c first sound) (twins_back x xs others) ∙ turn,
              all_done xs (settle d m stamp.reading x c).contents rest (still x c first sound) (and_right (has_own_sum x) _ own) (or_right (list_any (is_twin x) xs) _ apart)
                  (tests_kept runs_once x xs c first sound others ∙ and_right (runs_once x (what x c.rows)) _ once) on (or_right (skips (settle d m stamp.reading x c)) _ both),
            )
        | Some halt ↦ λ at on none. absurd (some_none halt (sym at ∙ on))
      ]) refl stop skip where
        some_none : (halt : Stop) → (let o : Option Stop = Some halt in o) ≡ None → ⊥
        some_none halt is = Prim.cc

  abbrev pub Same : Settled → Settled → Type 0
  Same s t = (s.contents ≡ t.contents) × (s.stop ≡ t.stop)

  -- what has no turn any more is passed over
  passed : (xs ys : List (Set Key)) (c : Contents) → AllDone xs c.rows → Same (all_settled d m stamp.reading (xs ++ ys) c) (all_settled d m stamp.reading ys c)
  passed [] ys c are = (refl, refl)
  passed (x ∷ xs) ys c are = subst (λ (s : Settled). Same (followed s.stop s (all_settled d m stamp.reading (xs ++ ys))) (all_settled d m stamp.reading ys c)) (sym (passes x c are.0)) (passed xs ys c are.1)

  pub passed_happened : (xs ys : List (Set Key)) (c : Contents) → AllDone xs c.rows → (all_settled d m stamp.reading (xs ++ ys) c).happened ≡ (all_settled d m stamp.reading ys c).happened
  passed_happened [] ys c are = refl
  passed_happened (x ∷ xs) ys c are = subst (λ (s : Settled). (followed s.stop s (all_settled d m stamp.reading (xs ++ ys))).happened ≡ (all_settled d m stamp.reading ys c).happened) (sym (passes x c are.0)) (passed_happened xs ys c are.1)

  pub onwards : (xs ys : List (Set Key)) (c : Contents) → (all_settled d m stamp.reading xs c).stop ≡ None → Same (all_settled d m stamp.reading (xs ++ ys) c) (all_settled d m stamp.reading ys (all_settled d m stamp.reading xs c).contents)
  onwards [] ys c stop = (refl, refl)
  onwards (x ∷ xs) ys c stop =
      (elim (settle d m stamp.reading x c).stop as (λ o. (settle d m stamp.reading x c).stop ≡ o → (followed o (settle d m stamp.reading x c) (all_settled d m stamp.reading xs)).stop ≡ None
      → Same (followed o (settle d m stamp.reading x c) (all_settled d m stamp.reading (xs ++ ys))) (all_settled d m stamp.reading ys (followed o (settle d m stamp.reading x c) (all_settled d m stamp.reading xs)).contents)) [
        | None ↦ λ at on. onwards xs ys (settle d m stamp.reading x c).contents on
        | Some halt ↦ λ at on. absurd (some_none halt (sym at ∙ on))
      ]) refl stop where
        some_none : (halt : Stop) → (let o : Option Stop = Some halt in o) ≡ None → ⊥
        some_none halt is = Prim.cc

  pub twins_front : (xs ys : List (Set Key)) → are_twins (xs ++ ys) ≡ false → are_twins xs ≡ false
  twins_front [] ys apart = refl
  twins_front (x ∷ xs) ys apart = or_false _ _
      (or_left (list_any (is_twin x) xs) _ (sym (any-append (is_twin x) xs ys) ∙ or_left (list_any (is_twin x) (xs ++ ys)) _ apart))
      (twins_front xs ys (or_right (list_any (is_twin x) (xs ++ ys)) _ apart))

pub goes_on : {Key : Type 0} (m : Meaning Key) → IsKept m → GoesOn m
goes_on m keeps d stamp xs ys c sound read own apart once stop skip =
    let done = all_done d m keeps stamp xs c read sound own (twins_front d m keeps stamp xs ys apart) once stop skip in
    let past = passed d m keeps stamp xs ys (all_settled d m stamp.reading xs c).contents done in
    let on = onwards d m keeps stamp xs ys c stop in
    (past.0 ∙ sym on.0, past.1 ∙ sym on.1)
