-- The calls of an update fit, where its changesets' rows are short and no identity has two rows.
use Rattle.std.proofs.Common.{rules, subst, sym, tests}
use Rattle.std.specs.List.{All, list_all}
use Rattle.std.specs.Prelude.{Bool, Err, List, None, Ok, Option, Result, Some, [], false, if◌then◌else◌, length, nat_le, nat_lt, not, pos, refl, true, ℕ, ◌&&◌, ◌+◌, ◌∷◌, ◌≡◌, ◌≤◌}
use Rattle.lq_base.specs.declared.dialect.Dialect.{Dialect}
use Rattle.lq_base.specs.declared.reason.Reason.{Reason}
use Rattle.lq_base.specs.declared.tracking.Exec.{Exec}
use Rattle.lq_base.specs.declared.tracking.Exec.TheVariants as exec
use Rattle.lq_base.specs.declared.tracking.Tracked.{Tracked}
use Rattle.lq_model.proofs.Lists.{and_left, and_right, and_true}
use Rattle.lq_model.specs.Sound.{IsSound}
use Rattle.lq_turns.proofs.Effects.{all_spelled}
use Rattle.lq_turns.proofs.Made.{At}
use Rattle.lq_turns.proofs.TurnLeft.{twice}
use Rattle.lq_turns.proofs.Updates.{settled_is, sound_by, taken_by, turn_left}
use Rattle.lq_turns.specs.Deed.{Contents, contents_of, theirs}
use Rattle.lq_turns.specs.Laws.{AreRead}
use Rattle.lq_turns.specs.Schedule.{fits_rows, is_short, is_stamped, is_within}
use Rattle.lq_turns.specs.Script.{calls_of_turn, calls_unless, has_work, set_calls, sets_calls, turn_by, with_lock}
use Rattle.lq_turns.specs.Session.{Session, all_called, session_on}
use Rattle.lq_turns.specs.Set.{IsKept, Meaning, Set, row_at}
use Rattle.lq_base.specs.Number.{char_count}
use Rattle.lq_base.specs.Moment.{is_moment}
use Rattle.lq_base.specs.declared.run.Why.TheVariants.{Error, Failed}
use Rattle.lq_turns.specs.Settle.{choice, choice_of, exec_of, fill_turn, greatest, is_to_fill, mark_turn, run_turn, runs_again, is_halt, own_choice, reacted, record_in, row_for, settle, tested, what, what_by}
use Rattle.lq_turns.specs.declared.choice.Choice.{Choice}
use Rattle.lq_turns.specs.declared.choice.Choice.TheVariants.{Fills, Halts, Marks, Passes, Runs, Skips}
use Rattle.lq_base.specs.declared.run.OnFail.{OnFail}
use Rattle.lq_base.specs.declared.run.OnFail.TheVariants.{Continue, Halt, MarkRan, Warn}
use Rattle.lq_turns.specs.declared.choice.What.{What}
use Rattle.lq_turns.specs.declared.choice.What.TheVariants.{Again, Fill, New}
use Rattle.lq_turns.specs.declared.stamp.Stamp.{Stamp}
use Rattle.lq_turns.specs.declared.stop.Stop.{Stop}
use Rattle.lq_beside.specs.Replays.{HasTexts, IsTime, UpdateFits, calls_fit}
use Rattle.lq_beside.proofs.OneRow.{IsRight, Once, once_apart, once_ending}
use Rattle.lq_beside.proofs.Opened.{BothHave, calls_have, fits_both, locked_fits}
use Rattle.lq_beside.proofs.ShortRows.{first_has, others_have, row_is_short}
use Rattle.lq_beside.proofs.TurnFits.{IsReady, turn_fits}

none_some : {A B : Type 0} {x : A} → (let o : Option A = None in o) ≡ Some x → B
none_some e = absurd (clash e) where
  clash : {A : Type 0} {x : A} → (let o : Option A = None in o) ≡ Some x → ⊥
  clash e = Prim.cc

next_place : (n : ℕ) → nat_lt n (n + 1) ≡ true
next_place n = search (rules, tests)

at_most : (n : ℕ) → n ≤ 1 → nat_le n 1 ≡ true
at_most n h = search (rules, tests)

module _ {Key : Type 0} (d : Dialect) (m : Meaning Key) (stamp : Stamp) where
  -- its changes were read for the dialect, and what its row will hold goes into the columns
  abbrev is_fitting : Set Key → Bool
  is_fitting x = list_all (m.is_for d) x.changes && is_short (row_for stamp.reading 1 exec.Executed x)

  all_fitting : IsTime stamp.reading → (xs : List (Set Key)) → AreRead d m xs → All HasTexts xs → list_all is_fitting xs ≡ true
  all_fitting time [] read has = refl
  all_fitting time (x ∷ xs) read has =
      and_true _ _ (and_true _ _ (and_left _ (list_all (λ (y : Set Key). list_all (m.is_for d) y.changes) xs) read) (row_is_short stamp.reading 1 exec.Executed x time (first_has x xs has)))
      (all_fitting time xs (and_right (list_all (m.is_for d) x.changes) _ read) (others_have x xs has))

module _ {Key : Type 0} (d : Dialect) (m : Meaning Key) (keeps : IsKept m) (stamp : Stamp) where
  -- a changeset is new where it has no row
  abbrev IsNew : What → Set Key → List Tracked → Type 0
  IsNew New x rows = row_at x.identity rows ≡ None
  IsNew Again x rows = Unit {0}
  IsNew Fill x rows = Unit {0}

  abbrev Chosen : Choice → Set Key → List Tracked → Type 0
  Chosen (Marks by) x rows = IsNew by x rows
  Chosen (Runs by why) x rows = IsNew by x rows
  Chosen Passes x rows = Unit {0}
  Chosen Fills x rows = Unit {0}
  Chosen Skips x rows = Unit {0}
  Chosen (Halts why) x rows = Unit {0}

  chosen_by : (w : What) (x : Set Key) (rows : List Tracked) (t : Result Bool Reason) → IsNew w x rows → Chosen (tested w x.condition t) x rows
  chosen_by w x rows (Ok true) new = new
  chosen_by w x rows (Ok false) new = by x.condition.on_fail where
    by : (f : OnFail) → Chosen (reacted w f Failed) x rows
    by Halt = tt
    by Continue = tt
    by MarkRan = new
    by Warn = new
  chosen_by w x rows (Err reason) new = by x.condition.on_error where
    by : (f : OnFail) → Chosen (reacted w f (Error reason)) x rows
    by Halt = tt
    by Continue = tt
    by MarkRan = new
    by Warn = new

  chosen_of : (x : Set Key) (c : Contents) (w : Option What) → what x c.rows ≡ w → Chosen (choice_of x c w) x c.rows
  chosen_of x c None is = tt
  chosen_of x c (Some Fill) is = tt
  chosen_of x c (Some Again) is = chosen_by Again x c.rows (x.condition.told c) tt
  chosen_of x c (Some New) is = chosen_by New x c.rows (x.condition.told c) (by x.selected (row_at x.identity c.rows) is) where
    by : (b : Bool) (o : Option Tracked) → (if b then what_by x o else None) ≡ Some New → o ≡ None
    by false o e = none_some e
    by true None e = refl
    by true (Some row) e = again (runs_again x row) (is_to_fill x row.md5sum) e where
      again : (p q : Bool) → (if p then Some Again else if q then Some Fill else None) ≡ Some New → (let o : Option Tracked = Some row in o) ≡ None
      again true q e = Prim.cc
      again false true e = Prim.cc
      again false false e = Prim.cc

  module _ (x : Set Key) (fine : is_fitting d m stamp x ≡ true) where
    short : is_short (row_for stamp.reading 1 exec.Executed x) ≡ true
    short = and_right (list_all (m.is_for d) x.changes) _ fine

    row_fits : (w : What) (e : Exec) (rows : List Tracked) → Once rows → fits_rows (record_in stamp.reading w e x rows) rows ≡ true
    row_fits New e rows once = and_true _ _ short (next_place (greatest rows))
    row_fits Again e rows once = and_true _ _ (and_left (is_stamped (row_for stamp.reading 1 exec.Executed x)) _ short) (and_true _ _ (next_place (greatest rows)) (at_most (length (theirs x.identity rows)) (once x.identity)))
    row_fits Fill e rows once = and_true _ _ (and_left (is_stamped (row_for stamp.reading 1 exec.Executed x)) _ short) (and_true _ _ (next_place (greatest rows)) (at_most (length (theirs x.identity rows)) (once x.identity)))

    is_right : (w : What) (e : Exec) (rows : List Tracked) → IsNew w x rows → IsRight (record_in stamp.reading w e x rows) rows
    is_right New e rows new = new
    is_right Again e rows new = tt
    is_right Fill e rows new = tt

    sum_short : nat_le (char_count x.sum) 35 ≡ true
    sum_short = and_left (is_within 35 (Some x.sum)) _ (and_right (is_moment (pos stamp.reading)) _ (and_left (is_stamped (row_for stamp.reading 1 exec.Executed x)) _ short))

    -- the turn fits
    set_fits : (c : Contents) (q : Choice) (s : Session) → Once c.rows → IsReady c s.seen → calls_fit d (calls_of_turn d m stamp (turn_by d m stamp x c.rows q) c) s ≡ true
    set_fits c Fills s once ready = turn_fits d stamp.who (fill_turn x) c s refl sum_short ready
    set_fits c (Marks by) s once ready = turn_fits d stamp.who (mark_turn stamp.reading by x c.rows) c s refl (row_fits by exec.MarkRan c.rows once) ready
    set_fits c (Runs by why) s once ready = turn_fits d stamp.who (run_turn d m stamp.reading by x c.rows) c s (all_spelled m keeps d x.changes (and_left (list_all (m.is_for d) x.changes) _ fine)) (row_fits by (exec_of by) c.rows once) ready
    set_fits c Passes s once ready = refl
    set_fits c Skips s once ready = refl
    set_fits c (Halts why) s once ready = refl

    still_once : (c : Contents) (q : Choice) → Chosen q x c.rows → Once c.rows → Once (turn_left d (turn_by d m stamp x c.rows q) c).rows
    still_once c Fills chosen once = once_ending d (fill_turn x) c tt once
    still_once c (Marks by) chosen once = once_ending d (mark_turn stamp.reading by x c.rows) c (is_right by exec.MarkRan c.rows chosen) once
    still_once c (Runs by why) chosen once = once_ending d (run_turn d m stamp.reading by x c.rows) c (is_right by (exec_of by) c.rows chosen) once
    still_once c Passes chosen once = once
    still_once c Skips chosen once = once
    still_once c (Halts why) chosen once = once

  sets_fit : (xs : List (Set Key)) (c : Contents) (s : Session) → list_all (is_fitting d m stamp) xs ≡ true → IsSound d c.users → Once c.rows → At s (twice c) → BothHave d s → calls_fit d (sets_calls d m stamp xs c) s ≡ true
  sets_fit [] c s fine sound once at has = refl
  sets_fit (x ∷ xs) c s fine sound once at has =
      let this = and_left (is_fitting d m stamp x) (list_all (is_fitting d m stamp) xs) fine in
      let first = and_left (list_all (m.is_for d) x.changes) _ this in
      let is = settled_is d m keeps stamp x c (choice x c) first sound in
      let now = subst (λ (e : Contents). At (all_called d (set_calls d m stamp x c) s) (twice e)) (sym is) (taken_by d m keeps stamp (turn_by d m stamp x c.rows (choice x c)) c s at) in
      let still = subst (λ (e : Contents). IsSound d e.users) (sym is) (sound_by d m keeps stamp x c (choice x c) first sound) in
      let few = subst (λ (e : Contents). Once e.rows) (sym is) (still_once x this c (choice x c) (chosen_of x c (what x c.rows) refl) once) in
      let more = sets_fit xs (settle d m stamp.reading x c).contents (all_called d (set_calls d m stamp x c) s) (and_right (is_fitting d m stamp x) _ fine) still few now (calls_have d (set_calls d m stamp x c) s has) in
      fits_both d (set_calls d m stamp x c) (calls_unless (settle d m stamp.reading x c).stop (sets_calls d m stamp xs (settle d m stamp.reading x c).contents)) s
      (set_fits x this c (choice x c) s once (record { contents = at.seen; log = has.1.log; row = has.1.row }))
      (elim (settle d m stamp.reading x c).stop as (λ (q : Option Stop). calls_fit d (calls_unless q (sets_calls d m stamp xs (settle d m stamp.reading x c).contents)) (all_called d (set_calls d m stamp x c) s) ≡ true) [
        | None ↦ more
        | Some stop ↦ refl
      ])

pub update_fits : {Key : Type 0} (m : Meaning Key) → IsKept m → UpdateFits m
update_fits m keeps d stamp g database sound apart time read has = by (has_work g.sets database.rows && not (is_halt (own_choice g (contents_of database)))) where
  by : (b : Bool) → calls_fit d (if b then with_lock stamp database (sets_calls d m stamp g.sets (contents_of database)) else []) (session_on database) ≡ true
  by false = refl
  by true = locked_fits d stamp database (sets_calls d m stamp g.sets (contents_of database)) time
      (λ s at have. sets_fit d m keeps stamp g.sets (contents_of database) s (all_fitting d m stamp time g.sets read has) sound (once_apart database.rows apart) at have)
