-- At a changeset's turn: which calls are to come.
use Rattle.std.proofs.Common.{ap, sym, ◌∙◌}
use Rattle.std.specs.List.{list_all, list_any}
use Rattle.std.specs.Prelude.{Bool, Err, List, None, Ok, Option, Result, [], false, if◌then◌else◌, not, refl, suc, true, ℕ, ◌++◌, ◌||◌, ◌∷◌, ◌≡◌}
use Rattle.lq_base.specs.declared.dialect.Dialect.{Dialect}
use Rattle.lq_base.specs.declared.reason.Reason.{Reason}
use Rattle.lq_base.specs.declared.run.Did.{Did}
use Rattle.lq_base.specs.declared.run.Why.{Why}
use Rattle.lq_base.specs.declared.tracking.Tracked.{Tracked}
use Rattle.lq_model.specs.Catalogue.{Catalogue}
use Rattle.lq_model.specs.Sound.{IsSound}
use Rattle.lq_model.specs.Step.{step, commits_itself}
use Rattle.lq_model.specs.declared.caller.By.TheVariants.{User}
use Rattle.lq_model.specs.declared.statement.Statement.{Statement}
use Rattle.lq_turns.specs.Deed.{Contents, if_accepted, rows_after}
use Rattle.lq_turns.specs.Session.{accepted_by, are_accepted, went}
use Rattle.lq_turns.specs.Rest.{Inside, OfRows, OfSets, Turns, at_turn, between, chosen, if_goes_on, rest, turns_after, turns_calls}
use Rattle.lq_turns.specs.Script.{calls_if_finished, turns_made, calls_of_turn, calls_unless, closing, sets_calls, turn_by}
use Rattle.lq_turns.specs.Set.{IsKept, Meaning, Set}
use Rattle.lq_turns.specs.Settle.{choice, fill_turn, mark_turn, run_ending, run_turn, settled_as, settled_by}
use Rattle.lq_turns.specs.declared.call.Call.{Call}
use Rattle.lq_turns.specs.declared.call.Call.TheVariants.{Begin, Commit, Execute}
use Rattle.lq_turns.specs.declared.choice.Choice.{Choice}
use Rattle.lq_turns.specs.declared.choice.Choice.TheVariants.{Fills, Halts, Marks, Passes, Runs, Skips}
use Rattle.lq_turns.specs.declared.deed.Deed.TheVariants.{Locks, Users}
use Rattle.lq_turns.specs.declared.deed.OnLock.TheVariants.{Marked}
use Rattle.lq_turns.specs.declared.stamp.Stamp.{Stamp}
use Rattle.lq_turns.specs.declared.turn.Turn.{Turn}
use Rattle.lq_turns.specs.Turn.{Course, Ending, Finished, Refused, Stuck, Through, apart, contents_in, course, ending, is_marked, kept, led_by, made, mark, refused, row_calls, row_ending, statement_calls, turn_calls, unmark}
use Rattle.lq_turns.proofs.TurnLeft.{turn_goes, twice}
use Rattle.lq_turns.proofs.Updates.{run_is}

abbrev pub is_finished : Ending → Bool
is_finished (Finished c) = true
is_finished (Refused c refusal) = false

-- the calls of a turn are accepted exactly where it finishes

module _ (d : Dialect) (who : List ℕ) (turn : Turn) (rows : List Tracked) where
  abbrev with_users : Catalogue → Contents
  with_users users = record { users = users; rows = rows }

  abbrev is_good : Result (List Tracked) Reason → Bool
  is_good (Ok now) = true
  is_good (Err reason) = false

  abbrev goes_through : Course → Bool
  goes_through (Through users) = is_good (rows_after turn.row rows)
  goes_through (Stuck before s reason) = false

  led_through : (s : Statement) (q : Course) → goes_through q ≡ goes_through (led_by s q)
  led_through s (Through users) = refl
  led_through s (Stuck before z reason) = refl

  ends_well : (flag : Bool) (c : Contents) → are_accepted d ((if flag then Execute (Locks (Marked who)) ∷ [] else []) ++ Commit ∷ []) c ≡ true
  ends_well true c = refl
  ends_well false c = refl

  row_well : (b : Catalogue) → are_accepted d (row_calls d who turn) (with_users b) ≡ is_good (rows_after turn.row rows)
  row_well b = elim (rows_after turn.row rows) as (λ r. accepted_by d (are_accepted d (unmark d who turn ++ Commit ∷ [])) (if_accepted (λ z. record { users = b; rows = z }) r) ≡ is_good r) [
    | Ok now ↦ ends_well (list_any (is_marked d turn) turn.statements) (record { users = b; rows = now })
    | Err reason ↦ refl
  ]

  abbrev by_course : Statement → List Statement → Result (Catalogue × ℕ) Reason → Course
  by_course s ss (Ok r) = led_by s (course d ss r.0)
  by_course s ss (Err reason) = Stuck [] s reason

  first_well : (k : ℕ) (s : Statement) (ss : List Statement) (more : List Call) (tail : List Call) (b : Catalogue) (whole own : Bool)
      → ((e : Catalogue) → are_accepted d (more ++ tail) (with_users e) ≡ goes_through (course d ss e))
      → are_accepted d (((if whole then (if own then mark who turn k ∷ Execute (Users s) ∷ [] else Execute (Users s) ∷ []) else apart who turn k s) ++ more) ++ tail) (with_users b) ≡ goes_through (course d (s ∷ ss) b)
  first_well k s ss more tail b true true rest = elim (step User d s b) as (λ q. accepted_by d (are_accepted d (more ++ tail)) (if_accepted (λ z. with_users z.0) q) ≡ goes_through (by_course s ss q)) [ Ok r ↦ rest r.0 ∙ led_through s (course d ss r.0) | Err reason ↦ refl ]
  first_well k s ss more tail b true false rest = elim (step User d s b) as (λ q. accepted_by d (are_accepted d (more ++ tail)) (if_accepted (λ z. with_users z.0) q) ≡ goes_through (by_course s ss q)) [ Ok r ↦ rest r.0 ∙ led_through s (course d ss r.0) | Err reason ↦ refl ]
  first_well k s ss more tail b false own rest = elim (step User d s b) as (λ q. accepted_by d (are_accepted d (Commit ∷ (more ++ tail))) (if_accepted (λ z. with_users z.0) q) ≡ goes_through (by_course s ss q)) [ Ok r ↦ rest r.0 ∙ led_through s (course d ss r.0) | Err reason ↦ refl ]

  all_well : (k : ℕ) (ss : List Statement) (tail : List Call) (b : Catalogue) → ((e : Catalogue) → are_accepted d tail (with_users e) ≡ is_good (rows_after turn.row rows))
      → are_accepted d (statement_calls d who turn k ss ++ tail) (with_users b) ≡ goes_through (course d ss b)
  all_well k [] tail b rest = rest b
  all_well k (s ∷ ss) tail b rest = first_well k s ss (statement_calls d who turn (suc k) ss) tail b turn.in_transaction (commits_itself d s) (λ e. all_well (suc k) ss tail e rest)

module _ (d : Dialect) (who : List ℕ) (turn : Turn) (c : Contents) where
  row_finishes : (users : Catalogue) (r : Result (List Tracked) Reason) → is_good d who turn c.rows r ≡ is_finished (elim r as (λ _. Ending) [ Ok rows ↦ Finished (record { users = users; rows = rows }) | Err reason ↦ refused d turn.statements (kept d turn turn.statements false) reason c ])
  row_finishes users (Ok rows) = refl
  row_finishes users (Err reason) = refl

  finishes : (q : Course) → goes_through d who turn c.rows q ≡ is_finished (elim q as (λ _. Ending) [ Through users ↦ row_ending d turn users c | Stuck before s reason ↦ refused d before (kept d turn before (is_marked d turn s)) reason c ])
  finishes (Through users) = row_finishes users (rows_after turn.row c.rows)
  finishes (Stuck before s reason) = refl

  whole_well : (whole : Bool) → are_accepted d (if whole then Begin ∷ statement_calls d who turn 1 turn.statements ++ row_calls d who turn else statement_calls d who turn 1 turn.statements ++ Begin ∷ row_calls d who turn) c ≡ goes_through d who turn c.rows (course d turn.statements c.users)
  whole_well true = all_well d who turn c.rows 1 turn.statements (row_calls d who turn) c.users (row_well d who turn c.rows)
  whole_well false = all_well d who turn c.rows 1 turn.statements (Begin ∷ row_calls d who turn) c.users (row_well d who turn c.rows)

  pub accepted_is : are_accepted d (turn_calls d who turn) c ≡ is_finished (ending d turn c)
  accepted_is = whole_well turn.in_transaction ∙ finishes (course d turn.statements c.users)

-- entering a turn makes no call

module _ {Key : Type 0} (d : Dialect) (m : Meaning Key) (keeps : IsKept m) (stamp : Stamp) where
  -- the calls from a turn on, told by its ending
  abbrev from_turn : Turn → Bool → Turns Key → Contents → Ending → List Call
  from_turn turn on turns c e = made d (turn_calls d stamp.who turn) c ++ turns_calls d m stamp (if_goes_on (is_finished e || on) turns) (contents_in e) ++ closing ∷ []

  pub inside_is : (turn : Turn) (on : Bool) (turns : Turns Key) (c : Contents) → rest d m stamp (Inside (turn_calls d stamp.who turn) on turns) (twice c) ≡ from_turn turn on turns c (ending d turn c)
  inside_is turn on turns c =
      ap (λ b. made d (turn_calls d stamp.who turn) c ++ turns_calls d m stamp (if_goes_on (b || on) turns) (went d (turn_calls d stamp.who turn) (c, c)).0 ++ closing ∷ []) (accepted_is d stamp.who turn c)
      ∙ ap (λ (x : Contents × Contents). made d (turn_calls d stamp.who turn) c ++ turns_calls d m stamp (if_goes_on (is_finished (ending d turn c) || on) turns) x.0 ++ closing ∷ []) (turn_goes d stamp.who turn c)

  module _ (x : Set Key) (xs : List (Set Key)) (c : Contents) where
    settled_next : (did : Did) (why : Option Why) (n : ℕ) (e : Ending) → calls_unless (settled_as x did why n e).stop (sets_calls d m stamp xs (settled_as x did why n e).contents)
        ≡ turns_calls d m stamp (if_goes_on (is_finished e || not x.fail_on_error) (OfSets xs)) (contents_in e)
    settled_next did why n (Finished e) = refl
    settled_next did why n (Refused e refusal) = by x.fail_on_error where
      by : (b : Bool) → calls_unless (settled_as (record x { fail_on_error = b }) did why n (Refused e refusal)).stop (sets_calls d m stamp xs (settled_as (record x { fail_on_error = b }) did why n (Refused e refusal)).contents)
          ≡ turns_calls d m stamp (if_goes_on (false || not b) (OfSets xs)) e
      by true = refl
      by false = refl

    enters_by : (q : Choice) → list_all (m.is_for d) x.changes ≡ true → IsSound d c.users
        → (calls_of_turn d m stamp (turn_by d m stamp x c.rows q) c ++ calls_unless (settled_by d m stamp.reading x c q).stop (sets_calls d m stamp xs (settled_by d m stamp.reading x c q).contents)) ++ closing ∷ []
        ≡ rest d m stamp (at_turn d stamp.who (not x.fail_on_error) (turns_after q xs) (turn_by d m stamp x c.rows q)) (twice c)
    enters_by Passes read sound = refl
    enters_by Skips read sound = refl
    enters_by (Halts why) read sound = refl
    enters_by Fills read sound = sym (inside_is (fill_turn x) (not x.fail_on_error) (OfSets xs) c)
    enters_by (Marks by) read sound =
        ap (λ calls. (made d (turn_calls d stamp.who (mark_turn stamp.reading by x c.rows)) c ++ calls) ++ closing ∷ []) (settled_next _ None 0 (ending d (mark_turn stamp.reading by x c.rows) c))
        ∙ sym (inside_is (mark_turn stamp.reading by x c.rows) (not x.fail_on_error) (OfSets xs) c)
    enters_by (Runs by why) read sound =
        ap (λ calls. (made d (turn_calls d stamp.who (run_turn d m stamp.reading by x c.rows)) c ++ calls) ++ closing ∷ []) (settled_next _ why _ (run_ending d m stamp.reading (run_turn d m stamp.reading by x c.rows) x c))
        ∙ ap (λ e. from_turn (run_turn d m stamp.reading by x c.rows) (not x.fail_on_error) (OfSets xs) c e) (run_is d m keeps stamp x (run_turn d m stamp.reading by x c.rows) c refl read sound)
        ∙ sym (inside_is (run_turn d m stamp.reading by x c.rows) (not x.fail_on_error) (OfSets xs) c)

    pub enters : list_all (m.is_for d) x.changes ≡ true → IsSound d c.users → rest d m stamp (between (OfSets (x ∷ xs))) (twice c) ≡ rest d m stamp (chosen d m stamp x xs c) (twice c)
    enters read sound = enters_by (choice x c) read sound

  -- and so for a row that is taken back
  row_next : (turns : List Turn) (e : Ending) → calls_if_finished (turns_made d stamp.who turns (contents_in e)) e ≡ turns_calls d m stamp (if_goes_on (is_finished e || false) (OfRows turns)) (contents_in e)
  row_next turns (Finished c) = refl
  row_next turns (Refused c refusal) = refl

  pub enters_row : (turn : Turn) (turns : List Turn) (c : Contents) → rest d m stamp (between (OfRows (turn ∷ turns))) (twice c) ≡ rest d m stamp (Inside (turn_calls d stamp.who turn) false (OfRows turns)) (twice c)
  enters_row turn turns c = ap (λ calls. (made d (turn_calls d stamp.who turn) c ++ calls) ++ closing ∷ []) (row_next turns (ending d turn c)) ∙ sym (inside_is turn false (OfRows turns) c)
