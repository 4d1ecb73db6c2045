-- What an update of first turns ran.
use Rattle.std.proofs.Common.{ap, arith, subst, sym, ◌∙◌}
use Rattle.std.proofs.lemmas.Bool.Decides.{nat_tests}
use Rattle.std.proofs.lemmas.List.{append-nil, append_assoc}
use Rattle.std.specs.List.{find, list_all, list_any}
use Rattle.std.specs.Prelude.{Bool, Err, List, None, Ok, Option, Result, Some, [], cond, false, if◌then◌else◌, length, nat_eq, nat_lt, refl, true, ℕ, ◌+◌, ◌<◌, ◌==◌, ◌&&◌, ◌++◌, ◌||◌, ◌∷◌, ◌≡◌}
use Rattle.lq_base.specs.declared.dialect.Dialect.{Dialect}
use Rattle.lq_base.specs.declared.reason.Reason.{Reason}
use Rattle.lq_base.specs.declared.reason.Reason.TheVariants.{TooManyRows, TooWide}
use Rattle.lq_base.specs.declared.run.Why.{Why}
use Rattle.lq_base.specs.declared.run.Why.TheVariants.{Error, Failed}
use Rattle.lq_base.specs.declared.tracking.Tracked.{Tracked}
use Rattle.lq_model.proofs.Lists.{and_left, and_right, any-append, or_false, or_left, or_right}
use Rattle.lq_model.specs.Catalogue.{Catalogue}
use Rattle.lq_model.specs.Sound.{IsSound}
use Rattle.lq_model.specs.Step.{run, step}
use Rattle.lq_model.specs.declared.caller.By.TheVariants.{User}
use Rattle.lq_model.specs.declared.statement.Statement.{Statement}
use Rattle.lq_track.specs.Database.{has_twin_rows, same_identity}
use Rattle.lq_track.specs.Log.{identity_of}
use Rattle.lq_turns.specs.Deed.{Contents, has_place, is_of, rows_after}
use Rattle.lq_turns.specs.Set.{effects, Condition, IsKept, Meaning, Set, has_row, row_at}
use Rattle.lq_turns.specs.Within.{UpdateRuns, are_first, holds_unless, if_finished, is_first, keeps_nothing, keeps_nothing_by, run_by, runs_of, runs_unless}
use Rattle.lq_turns.specs.Ran.{AreRowsOf, Run, all_effects, effects_of, exec_in}
use Rattle.lq_turns.specs.Settle.{is_to_fill, runs_again, all_settled, choice, choice_of, followed, greatest, mark_turn, reacted, row_for, run_ending, run_turn, settle, settled_by, tested, what, what_by}
use Rattle.lq_turns.specs.declared.choice.Choice.{Choice}
use Rattle.lq_turns.specs.declared.choice.Choice.TheVariants.{Halts, Marks, Runs, Skips}
use Rattle.lq_base.specs.declared.run.OnFail.{OnFail}
use Rattle.lq_base.specs.declared.run.OnFail.TheVariants.{Continue, Halt, MarkRan, Warn}
use Rattle.lq_turns.specs.declared.choice.What.{What}
use Rattle.lq_turns.specs.declared.choice.What.TheVariants.{Again, Fill, New}
use Rattle.lq_turns.specs.declared.deed.OnRows.TheVariants.{Inserted}
use Rattle.lq_turns.specs.declared.stamp.Stamp.{Stamp}
use Rattle.lq_turns.specs.declared.turn.Turn.{Turn}
use Rattle.lq_turns.specs.Turn.{Course, Ending, Finished, Refused, Stuck, Through, contents_in, course, ending, is_marked, kept, led_by, refused, row_ending}
use Rattle.lq_turns.proofs.Effects.{next, run_effects}
use Rattle.lq_turns.proofs.Undone.{effects_kept}
use Rattle.lq_turns.proofs.Updates.{stopped_is}

-- rows

below : (a b : ℕ) → a < b → nat_eq a b ≡ false
below a b less = grind (arith, nat_tests, less)

twin_after : (rows : List Tracked) (row : Tracked) → has_twin_rows rows ≡ false → has_row rows (identity_of row) ≡ false → greatest rows < row.order → has_twin_rows (rows ++ row ∷ []) ≡ false
twin_after [] row differ none less = refl
twin_after (r ∷ rs) row differ none less =
    or_false _ _
    (any-append (λ (s : Tracked). same_identity (identity_of r) (identity_of s) || nat_eq r.order s.order) rs (row ∷ [])
    ∙ or_false _ _ (or_left (list_any (λ (s : Tracked). same_identity (identity_of r) (identity_of s) || nat_eq r.order s.order) rs) _ differ)
    (or_false _ _ (or_false _ _ (or_left (is_of (identity_of row) r) _ none) (below r.order row.order (omega (arith, less)))) refl))
    (twin_after rs row (or_right (list_any (λ (s : Tracked). same_identity (identity_of r) (identity_of s) || nat_eq r.order s.order) rs) _ differ) (or_right (is_of (identity_of row) r) _ none) (omega (arith, less)))

pub no_row : (p : Tracked → Bool) (rows : List Tracked) → find p rows ≡ None → list_any p rows ≡ false
no_row p [] is = refl
no_row p (r ∷ rs) is = (elim (p r) as (λ b. cond b (Some r) (find p rs) ≡ None → (b || list_any p rs) ≡ false) [
  | true ↦ λ q. Prim.cc
  | false ↦ λ q. no_row p rs q
]) is

too_long : (s : Statement) (ss : List Statement) → (length (s ∷ ss) == 0) ≡ true → ⊥
too_long s ss is = grind (arith, nat_tests, is)

-- whether a changeset has no row

pub new_at : {Key : Type 0} (x : Set Key) (rows : List Tracked) → what x rows ≡ Some New → has_row rows x.identity ≡ false
new_at x rows is = by x.selected (row_at x.identity rows) refl is where
  by : (chosen : Bool) (o : Option Tracked) → row_at x.identity rows ≡ o → cond chosen (what_by x o) None ≡ Some New → has_row rows x.identity ≡ false
  by false o at q = Prim.cc
  by true None at q = no_row (is_of x.identity) rows at
  by true (Some row) at q = again (runs_again x row) (is_to_fill x row.md5sum) q where
    again : (a f : Bool) → (if a then Some Again else if f then Some Fill else None) ≡ Some New → has_row rows x.identity ≡ false
    again true f q = Prim.cc
    again false true q = Prim.cc
    again false false q = Prim.cc

-- a tested changeset's choice
pub tested_by : (turn : What) (P : Choice → Type 0) → ((why : Option Why) → P (Runs turn why)) → ((why : Why) → P (Halts why)) → P Skips → P (Marks turn) → (condition : Condition) (t : Result Bool Reason) → P (tested turn condition t)
tested_by turn P runs halts skips marks condition (Ok true) = runs None
tested_by turn P runs halts skips marks condition (Ok false) = by condition.on_fail where
  by : (f : OnFail) → P (reacted turn f Failed)
  by Halt = halts Failed
  by Continue = skips
  by MarkRan = marks
  by Warn = runs (Some Failed)
tested_by turn P runs halts skips marks condition (Err reason) = by condition.on_error where
  by : (f : OnFail) → P (reacted turn f (Error reason))
  by Halt = halts (Error reason)
  by Continue = skips
  by MarkRan = marks
  by Warn = runs (Some (Error reason))

-- what is refused with nothing kept changes nothing

module _ (d : Dialect) (turn : Turn) (c : Contents) where
  abbrev pub Unmoved : Ending → Type 0
  Unmoved (Finished e) = Unit {0}
  Unmoved (Refused e refusal) = (refusal.kept == 0) ≡ true → e ≡ c

  pub refused_unmoved : (before stay : List Statement) (reason : Reason) → Unmoved (refused d before stay reason c)
  refused_unmoved before [] reason is = refl
  refused_unmoved before (s ∷ ss) reason is = absurd (too_long s ss is)

  pub row_unmoved : (users : Catalogue) (r : Result (List Tracked) Reason) → Unmoved (elim r as (λ _. Ending) [ Ok rows ↦ Finished (record { users = users; rows = rows }) | Err reason ↦ refused d turn.statements (kept d turn turn.statements false) reason c ])
  row_unmoved users (Ok rows) = tt
  row_unmoved users (Err reason) = refused_unmoved turn.statements (kept d turn turn.statements false) reason

  pub course_unmoved : (q : Course) → Unmoved (elim q as (λ _. Ending) [ Through users ↦ row_ending d turn users c | Stuck before s reason ↦ refused d before (kept d turn before (is_marked d turn s)) reason c ])
  course_unmoved (Through users) = row_unmoved users (rows_after turn.row c.rows)
  course_unmoved (Stuck before s reason) = refused_unmoved before (kept d turn before (is_marked d turn s)) reason

-- what is added

abbrev Added : {Key : Type 0} → Dialect → Meaning Key → List (Run Key) → Contents → Contents → Type 0
Added d m runs c e = (added : List Tracked) × AreRowsOf runs added × (e.rows ≡ c.rows ++ added) × (all_effects d m runs c.users ≡ Ok e.users) × (has_twin_rows e.rows ≡ false) × IsSound d e.users

module _ {Key : Type 0} (d : Dialect) (m : Meaning Key) where
  nothing_added : (c e : Contents) → e ≡ c → IsSound d c.users → has_twin_rows c.rows ≡ false → Added d m [] c e
  nothing_added c e is sound differ = subst (λ (x : Contents). Added d m [] c x) (sym is) ([], tt, sym (append-nil c.rows), refl, differ, sound)

  rows_both : (xs ys : List (Run Key)) (rows more : List Tracked) → AreRowsOf xs rows → AreRowsOf ys more → AreRowsOf (xs ++ ys) (rows ++ more)
  rows_both [] ys [] more are also = also
  rows_both [] ys (row ∷ rows) more are also = absurd are
  rows_both (x ∷ xs) ys [] more are also = absurd are
  rows_both (x ∷ xs) ys (row ∷ rows) more are also = (are.0, rows_both xs ys rows more are.1 also)

  abbrev effects_by : List (Run Key) → Result Catalogue Reason → Result Catalogue Reason
  effects_by xs (Ok e) = all_effects d m xs e
  effects_by xs (Err reason) = Err reason

  effects_both : (xs ys : List (Run Key)) (c : Catalogue) → all_effects d m (xs ++ ys) c ≡ effects_by ys (all_effects d m xs c)
  effects_both [] ys c = refl
  effects_both (x ∷ xs) ys c = elim (effects_of d m x c) as (λ q. effects_by (xs ++ ys) q ≡ effects_by ys (effects_by xs q)) [
    | Ok e ↦ effects_both xs ys e
    | Err reason ↦ refl
  ]

  added_both : (xs ys : List (Run Key)) (c e f : Contents) → Added d m xs c e → Added d m ys e f → Added d m (xs ++ ys) c f
  added_both xs ys c e f first second = (
    first.0 ++ second.0,
    rows_both xs ys first.0 second.0 first.1 second.1,
    second.2 ∙ ap (λ r. r ++ second.0) first.2 ∙ append_assoc c.rows first.0 second.0,
    effects_both xs ys c.users ∙ ap (effects_by ys) first.3 ∙ second.3,
    second.4,
    second.5,
  )

  module _ (keeps : IsKept m) (stamp : Stamp) (x : Set Key) (c : Contents) (read : list_all (m.is_for d) x.changes ≡ true) (sound : IsSound d c.users) (differ : has_twin_rows c.rows ≡ false) (none : has_row c.rows x.identity ≡ false) where
    abbrev one : Bool → Run Key
    one marked = record { set = x; reading = stamp.reading; is_marked = marked }

    abbrev its_row : Bool → Tracked
    its_row marked = row_for stamp.reading (greatest c.rows + 1) (exec_in marked) x

    one_effect : (marked : Bool) (users : Catalogue) → effects_of d m (one marked) c.users ≡ Ok users → all_effects d m (one marked ∷ []) c.users ≡ Ok users
    one_effect marked users is = ap (effects_by []) is

    -- the row went in
    row_added : (marked : Bool) (users : Catalogue) → effects_of d m (one marked) c.users ≡ Ok users → IsSound d users → Added d m (one marked ∷ []) c (record { users = users; rows = c.rows ++ its_row marked ∷ [] })
    row_added marked users is still = (
      its_row marked ∷ [],
      (record { order = greatest c.rows + 1; tag = x.tag; is = refl }, tt),
      refl,
      one_effect marked users is,
      twin_after c.rows (its_row marked) differ none (omega arith),
      still,
    )

    row_by : (marked : Bool) (turn : Turn) (users : Catalogue) → turn.row ≡ Inserted (its_row marked) → effects_of d m (one marked) c.users ≡ Ok users → IsSound d users
        → (e : Ending) → row_ending d turn users c ≡ e → keeps_nothing e ≡ true → Added d m (if_finished (one marked) e) c (contents_in e)
    row_by marked turn users row is still e at clean =
        placed (has_place (its_row marked)) (nat_lt (length c.rows) 100000) (sym (ap (λ w. row_ending d (record turn { row = w }) users c) row) ∙ at) where
          placed : (fits few : Bool) → elim (if fits then (if few then Ok (c.rows ++ its_row marked ∷ []) else Err TooManyRows) else Err TooWide) as (λ (_ : Result (List Tracked) Reason). Ending)
              [ Ok rows ↦ Finished (record { users = users; rows = rows }) | Err reason ↦ refused d turn.statements (kept d turn turn.statements false) reason c ] ≡ e → Added d m (if_finished (one marked) e) c (contents_in e)
          placed true true q = subst (λ z. Added d m (if_finished (one marked) z) c (contents_in z)) q (row_added marked users is still)
          placed true false q = subst (λ z. keeps_nothing z ≡ true → Added d m (if_finished (one marked) z) c (contents_in z)) q (λ kept. nothing_added c _ (refused_unmoved d turn c turn.statements _ TooManyRows kept) sound differ) clean
          placed false few q = subst (λ z. keeps_nothing z ≡ true → Added d m (if_finished (one marked) z) c (contents_in z)) q (λ kept. nothing_added c _ (refused_unmoved d turn c turn.statements _ TooWide kept) sound differ) clean

  module _ (keeps : IsKept m) (stamp : Stamp) where
    abbrev is_through : Course → Bool
    is_through (Through users) = true
    is_through (Stuck before s reason) = false

    led_stuck : (s : Statement) (q : Course) → is_through q ≡ false → is_through (led_by s q) ≡ false
    led_stuck s (Through users) is = is
    led_stuck s (Stuck before z reason) is = is

    abbrev course_by : Statement → List Statement → Result (Catalogue × ℕ) Reason → Course
    course_by s ss (Ok r) = led_by s (course d ss r.0)
    course_by s ss (Err reason) = Stuck [] s reason

    stuck : (ss : List Statement) (c : Catalogue) (reason : Reason) → run User d ss c ≡ Err reason → is_through (course d ss c) ≡ false
    stuck [] c reason is = Prim.cc
    stuck (s ∷ ss) c reason is = elim (step User d s c) as (λ q. next d ss q ≡ Err reason → is_through (course_by s ss q) ≡ false) [
      | Ok r ↦ λ go. led_stuck s (course d ss r.0) (stuck ss r.0 reason go)
      | Err other ↦ λ go. refl
    ] is

    stuck_adds : (x : Set Key) (c : Contents) (turn : Turn) (q : Course) → is_through q ≡ false → IsSound d c.users → has_twin_rows c.rows ≡ false
        → (e : Ending) → elim q as (λ _. Ending) [ Through users ↦ row_ending d turn users c | Stuck before s reason ↦ refused d before (kept d turn before (is_marked d turn s)) reason c ] ≡ e
        → keeps_nothing e ≡ true → Added d m (if_finished (record { set = x; reading = stamp.reading; is_marked = false }) e) c (contents_in e)
    stuck_adds x c turn (Through users) is sound differ e at clean = Prim.cc
    stuck_adds x c turn (Stuck before s reason) is sound differ e at clean =
        subst (λ z. keeps_nothing z ≡ true → Added d m (if_finished (record { set = x; reading = stamp.reading; is_marked = false }) z) c (contents_in z)) at (λ kept. nothing_added c _ (refused_unmoved d turn c before _ reason kept) sound differ) clean

    abbrev its_turn : Set Key → Contents → Turn
    its_turn x c = run_turn d m stamp.reading New x c.rows

    abbrev ended : Set Key → Contents → Result Catalogue Reason → Ending
    ended x c q = elim q as (λ _. Ending) [ Ok users ↦ row_ending d (its_turn x c) users c | Err reason ↦ ending d (its_turn x c) c ]

    run_adds : (x : Set Key) (c : Contents) → list_all (m.is_for d) x.changes ≡ true → IsSound d c.users → has_twin_rows c.rows ≡ false → has_row c.rows x.identity ≡ false
        → keeps_nothing (run_ending d m stamp.reading (run_turn d m stamp.reading New x c.rows) x c) ≡ true
        → Added d m (if_finished (record { set = x; reading = stamp.reading; is_marked = false }) (run_ending d m stamp.reading (run_turn d m stamp.reading New x c.rows) x c)) c (contents_in (run_ending d m stamp.reading (run_turn d m stamp.reading New x c.rows) x c))
    run_adds x c read sound differ none = (elim (effects d m x.changes c.users) as (λ q. effects d m x.changes c.users ≡ q
        → keeps_nothing (ended x c q) ≡ true → Added d m (if_finished (record { set = x; reading = stamp.reading; is_marked = false }) (ended x c q)) c (contents_in (ended x c q))) [
          | Ok users ↦ λ is. row_by keeps stamp x c read sound differ none false (its_turn x c) users refl is (effects_kept m keeps d (record { set = x; reading = stamp.reading; is_marked = false }) false c.users users read sound is) (row_ending d (its_turn x c) users c) refl
          | Err reason ↦ λ is. stuck_adds x c (its_turn x c) (course d (its_turn x c).statements c.users) (stuck (its_turn x c).statements c.users reason (run_effects m keeps d x.changes c.users read sound ∙ is)) sound differ (ending d (its_turn x c) c) refl
        ]) refl

    abbrev Adds : Set Key → Contents → Choice → Type 0
    Adds x c q = keeps_nothing_by d m stamp x c q ≡ true → Added d m (run_by d m stamp x c q) c (settled_by d m stamp.reading x c q).contents

    one_adds : (x : Set Key) (c : Contents) → list_all (m.is_for d) x.changes ≡ true → IsSound d c.users → has_twin_rows c.rows ≡ false
        → (w : Option What) → what x c.rows ≡ w → is_first w ≡ true → Adds x c (choice_of x c w)
    one_adds x c read sound differ None is first = λ clean. nothing_added c c refl sound differ
    one_adds x c read sound differ (Some Again) is first = Prim.cc
    one_adds x c read sound differ (Some Fill) is first = Prim.cc
    one_adds x c read sound differ (Some New) is first =
        let none = new_at x c.rows is in
        tested_by New (Adds x c)
        (λ why clean. subst (λ z. Added d m (run_by d m stamp x c (Runs New why)) c z) (sym (stopped_is d m keeps stamp x _ why _ (run_ending d m stamp.reading (run_turn d m stamp.reading New x c.rows) x c))) (run_adds x c read sound differ none clean))
        (λ why clean. nothing_added c c refl sound differ)
        (λ clean. nothing_added c c refl sound differ)
        (λ clean. subst (λ z. Added d m (run_by d m stamp x c (Marks New)) c z) (sym (stopped_is d m keeps stamp x _ None 0 (ending d (mark_turn stamp.reading New x c.rows) c)))
        (row_by keeps stamp x c read sound differ none true (mark_turn stamp.reading New x c.rows) c.users refl refl sound (ending d (mark_turn stamp.reading New x c.rows) c) refl clean))
        x.condition (x.condition.told c)

    all_add : (xs : List (Set Key)) (c : Contents) → list_all (λ (x : Set Key). list_all (m.is_for d) x.changes) xs ≡ true → IsSound d c.users → has_twin_rows c.rows ≡ false
        → are_first d m stamp xs c ≡ true → Added d m (runs_of d m stamp xs c) c (all_settled d m stamp.reading xs c).contents
    all_add [] c read sound differ first = nothing_added c c refl sound differ
    all_add (x ∷ xs) c read sound differ first =
        let both = and_left _ (holds_unless (settle d m stamp.reading x c).stop (are_first d m stamp xs (settle d m stamp.reading x c).contents)) first in
        let one = one_adds x c (and_left _ (list_all (λ (y : Set Key). list_all (m.is_for d) y.changes) xs) read) sound differ (what x c.rows) refl (and_left _ (keeps_nothing_by d m stamp x c (choice x c)) both) (and_right (is_first (what x c.rows)) _ both) in
        (elim (settle d m stamp.reading x c).stop as (λ o. holds_unless o (are_first d m stamp xs (settle d m stamp.reading x c).contents) ≡ true
        → Added d m (run_by d m stamp x c (choice x c) ++ runs_unless o (runs_of d m stamp xs (settle d m stamp.reading x c).contents)) c (followed o (settle d m stamp.reading x c) (all_settled d m stamp.reading xs)).contents) [
          | None ↦ λ more. added_both (run_by d m stamp x c (choice x c)) (runs_of d m stamp xs (settle d m stamp.reading x c).contents) c (settle d m stamp.reading x c).contents (all_settled d m stamp.reading xs (settle d m stamp.reading x c).contents).contents one
              (all_add xs (settle d m stamp.reading x c).contents (and_right (list_all (m.is_for d) x.changes) _ read) one.5 one.4 more)
          | Some stop ↦ λ more. subst (λ runs. Added d m runs c (settle d m stamp.reading x c).contents) (sym (append-nil (run_by d m stamp x c (choice x c)))) one
        ]) (and_right (is_first (what x c.rows) && keeps_nothing_by d m stamp x c (choice x c)) _ first)

pub update_runs : {Key : Type 0} (m : Meaning Key) → IsKept m → UpdateRuns m
update_runs m keeps d stamp xs c sound differ read first =
    let all = all_add d m keeps stamp xs c read sound differ first in
    record { sound = sound; added = all.0; are_theirs = all.1; rows = all.2; differ = all.4; users = all.3 }
