-- How the next item of a plan comes.
use Rattle.std.proofs.Common.{ap, arith, sym, subst, refl, ◌≡◌, ◌≤◌, ◌∙◌, ◌+◌, ◌-◌, ◌∷◌, ◌++◌, Bool, true, false, not, List, [], None, Ok, Some, Option, drop, map, option_map, reverse, ℕ}
use Rattle.std.specs.List.{list_all, list_any, slice_get}
use Rattle.lq_base.specs.declared.dialect.Dialect.{Dialect}
use Rattle.lq_base.specs.declared.run.Did.{Did}
use Rattle.lq_base.specs.declared.run.Did.TheVariants as did
use Rattle.lq_base.specs.declared.identity.Identity.{Identity}
use Rattle.lq_base.specs.declared.run.Printed.{Printed}
use Rattle.lq_base.specs.declared.run.Why.{Why}
use Rattle.lq_base.specs.declared.tracking.Tracked.{Tracked}
use Rattle.lq_expr.specs.declared.options.Options.{Options}
use Rattle.lq_hand.proofs.Expected.{HoldsAtEnd, turn_expected}
use Rattle.lq_hand.specs.Way.{no_progress, rest_at, Expects, refusal_at_end, refused_in, seen_along}
use Rattle.lq_hand.specs.Hand.{calls_left, hand_place, place_of}
use Rattle.lq_hand.specs.declared.hand.Hand.{Hand}
use Rattle.lq_any.specs.AnyChange.{is_for}
use Rattle.lq_kinds.specs.ReadFor.{is_block_for, is_read_for}
use Rattle.lq_any.specs.AnyChangeLaws.{does, restores, spelled}
use Rattle.lq_any.specs.declared.any_change.AnyChange.{AnyChange}
use Rattle.lq_kinds.specs.declared.change_set.ChangeSet.{ChangeSet}
use Rattle.lq_model.proofs.Lists.{and_left}
use Rattle.lq_model.specs.Catalogue.{Catalogue}
use Rattle.lq_model.specs.Step.{run as all_run}
use Rattle.lq_model.specs.declared.caller.By.TheVariants.{User}
use Rattle.lq_model.specs.declared.statement.Statement.{Statement}
use Rattle.lq_plan.specs.declared.turns.Item.{Item}
use Rattle.lq_sets.proofs.Kept.{IsBy, RowsAre, choice_by, plan_kept, rows_are, turn_kept}
use Rattle.lq_seen.proofs.Leading.{Adds, finished_leads, grown_by, leads_on, none_plus, not_grown, plus_none, refused_leads, refused_tells}
use Rattle.lq_seen.proofs.Shown.{all_shown, more_shown, none_shown}
use Rattle.lq_sets.proofs.Planned.{Comes, comes}
use Rattle.lq_sets.proofs.Stale.{all_alike, all_counted, before_is, finished_ran, no_places}
use Rattle.lq_sets.proofs.Texts.{none_kept, printed_by, ran_as, runs_kept, runs_ran, skipped_printed, stopped_printed}
use Rattle.lq_sets.specs.Counting.{AreAlike, begins_from, changes_before, changes_run, counts_to, runs, stale_in}
use Rattle.lq_seen.proofs.Read.{all_at}
use Rattle.lq_sets.specs.SetTurns.{ArePlanned, CameBy, CameTo, IsInHand, IsKeptBy, IsOf, KeepsTexts, YieldsAs, YieldsTo, goes_past, if_kept, last_after, set_way, sets_left, texts_by, to_print, to_settle, with_count}
use Rattle.lq_seen.proofs.Told.{IsToldBy}
use Rattle.lq_seen.proofs.Warned.{warns_first}
use Rattle.lq_seen.specs.Telling.{Account, shown, with_texts, Leads, Reports, bounded, happened_as, happens, warned_of}
use Rattle.lq_seen.specs.View.{any_meaning, view, views}
use Rattle.lq_sets.specs.declared.in_hand.InHand.{InHand}
use Rattle.lq_seen.specs.declared.outcome.Halt.{Halt}
use Rattle.lq_seen.specs.declared.outcome.Outcome.{Outcome}
use Rattle.lq_sets.specs.declared.set_turns.SetTurns.{SetTurns}
use Rattle.lq_sets.specs.declared.set_turns.Tried.{Tried}
use Rattle.lq_sets.specs.declared.set_turns.Tried.TheVariants.{Halted, Lack, Skipped, Turn as Entered}
use Rattle.lq_track.specs.Database.{Database}
use Rattle.lq_turns.proofs.Entered.{enters}
use Rattle.lq_turns.proofs.Updates.{run_is}
use Rattle.lq_turns.specs.Stops.{is_twin}
use Rattle.lq_turns.specs.Deed.{Contents, contents_of, filled, rows_after}
use Rattle.lq_turns.specs.Set.{not_fresh, statements_of, IsKept, Set}
use Rattle.lq_turns.specs.Schedule.{StandsFor}
use Rattle.lq_turns.specs.Printed.{printed}
use Rattle.lq_turns.specs.Rest.{Inside, OfSets, Turns, at_turn, between, rest, turns_after}
use Rattle.lq_turns.specs.Script.{closing, sets_calls, turn_by}
use Rattle.lq_turns.specs.Settle.{Settled, all_settled, choice_of, did_of, greatest, is_halt, run_ending, run_turn, settled_as, settled_by, unless_stopped, what}
use Rattle.lq_turns.specs.Turn.{Ending, Finished, Refused, ending, turn_calls}
use Rattle.lq_turns.specs.declared.call.Call.{Call}
use Rattle.lq_turns.specs.declared.choice.Choice.{Choice}
use Rattle.lq_turns.specs.declared.choice.Choice.TheVariants.{Fills, Halts, Marks, Passes, Runs, Skips}
use Rattle.lq_turns.specs.declared.choice.What.{What}
use Rattle.lq_turns.specs.declared.stamp.Stamp.{Stamp}
use Rattle.lq_turns.specs.declared.stop.Refusal.{Refusal}
use Rattle.lq_turns.specs.declared.stop.Stop.TheVariants.{Halted as Stopped_by}
use Rattle.lq_turns.specs.declared.turn.Turn.{Turn}

kept : IsKept any_meaning
kept = record { spelled = spelled; does = does; restores = restores }

module _ (d : Dialect) (stamp : Stamp) (seen : Catalogue) (options : Options) (sets : List ChangeSet) (n : ℕ) (item : Item) (items : List Item) (last : ℕ) (x : ChangeSet)
    (read : list_all (is_read_for d) sets ≡ true) (at : slice_get sets item.index ≡ Some x) (q : Choice)
    (chosen : (database : Database) → StandsFor d seen database → q ≡ choice_of (view options x) (contents_of database) (Some item.what)) where
  abbrev Planned : Database → Type 0
  Planned database = ArePlanned n (views options (drop n sets)) (item ∷ items) last database.rows

  abbrev behind : List (Set AnyChange)
  behind = views options (drop (item.index + 1) sets)

  abbrev Left : ℕ → List Tracked → Type 0
  Left place rows = ArePlanned (item.index + 1) behind items place rows

  abbrev here : Database → List Call
  here database = rest_at d any_meaning stamp (between (OfSets (views options (drop n sets)))) (contents_of database)

  its_changes : list_all (is_for d) x.changes ≡ true
  its_changes = and_left _ (is_block_for d x.rollback) (all_at (is_read_for d) sets item.index x read at)

  module _ (database : Database) (stands : StandsFor d seen database) (plan : Planned database) where
    next : Comes options sets n item items last database.rows
    next = comes options sets n item items last database.rows plan

    same_set : next.x ≡ x
    same_set = let is : (let o : Option ChangeSet = Some next.x in o) ≡ Some x = sym next.at ∙ at in Prim.cc

    has : what (view options x) database.rows ≡ Some item.what
    has = ap (λ (y : ChangeSet). what (view options y) database.rows) (sym same_set) ∙ next.has

    left : Left last database.rows
    left = next.planned

    enters_set : here database ≡ rest d any_meaning stamp (at_turn d stamp.who (not x.fail_on_error) (turns_after q behind) (turn_by d any_meaning stamp (view options x) database.rows q)) (contents_of database, contents_of database)
    enters_set =
        ap (λ (calls : List Call). calls ++ closing ∷ []) (next.calls d stamp (contents_of database) refl ∙ ap (λ (y : ChangeSet). sets_calls d any_meaning stamp (view options y ∷ behind) (contents_of database)) same_set)
        ∙ (enters d any_meaning kept stamp (view options x) behind (contents_of database) its_changes stands.sound
        ∙ ap (λ p. rest d any_meaning stamp (at_turn d stamp.who (not x.fail_on_error) (turns_after p behind) (turn_by d any_meaning stamp (view options x) database.rows p)) (contents_of database, contents_of database)) (ap (choice_of (view options x) (contents_of database)) has ∙ sym (chosen database stands)))

    at_choice : (p : Choice) → q ≡ p → here database ≡ rest d any_meaning stamp (at_turn d stamp.who (not x.fail_on_error) (turns_after p behind) (turn_by d any_meaning stamp (view options x) database.rows p)) (contents_of database, contents_of database)
    at_choice p is = enters_set ∙ ap (λ z. rest d any_meaning stamp (at_turn d stamp.who (not x.fail_on_error) (turns_after z behind) (turn_by d any_meaning stamp (view options x) database.rows z)) (contents_of database, contents_of database)) is

    goes_on : (p : Choice) (turn : Turn) → turn_by d any_meaning stamp (view options x) database.rows p ≡ Some turn → turns_after p behind ≡ OfSets behind
    goes_on Fills turn is = refl
    goes_on (Marks by) turn is = refl
    goes_on (Runs by why) turn is = refl
    goes_on Passes turn is = refl
    goes_on Skips turn is = refl
    goes_on (Halts why) turn is = absurd (clash is) where
      clash : (let o : Option Turn = None in o) ≡ Some turn → ⊥
      clash e = Prim.cc

    module _ (hand : Hand) (in_hand : IsInHand d stamp x last q hand) where
      made : (turn : Turn) × (turn_by d any_meaning stamp (view options x) database.rows q ≡ Some turn) × (calls_left hand ≡ turn_calls d stamp.who turn)
          × ((c : Contents) → refused_in d (calls_left hand) no_progress c ≡ refusal_at_end (ending d turn c))
      made = in_hand.made options database.rows plan.last_is

      place : place_of hand (OfSets behind) ≡ Inside (turn_calls d stamp.who made.0) (not x.fail_on_error) (OfSets behind)
      place = ap (λ p. hand_place p (calls_left hand) hand.goes_on (OfSets behind)) in_hand.is.inside ∙ (ap (λ calls. Inside calls hand.goes_on (OfSets behind)) made.2 ∙ ap (λ on. Inside (turn_calls d stamp.who made.0) on (OfSets behind)) in_hand.goes_on)

      at_hand : here database ≡ rest_at d any_meaning stamp (place_of hand (OfSets behind)) (contents_of database)
      at_hand =
          enters_set
          ∙ (ap (λ (t : Turns AnyChange). rest d any_meaning stamp (at_turn d stamp.who (not x.fail_on_error) t (turn_by d any_meaning stamp (view options x) database.rows q)) (contents_of database, contents_of database)) (goes_on q made.0 made.1)
          ∙ (ap (λ o. rest d any_meaning stamp (at_turn d stamp.who (not x.fail_on_error) (OfSets behind) o) (contents_of database, contents_of database)) made.1
          ∙ ap (λ p. rest d any_meaning stamp p (contents_of database, contents_of database)) (sym place)))

      finished : (now : List Tracked) → rows_after made.0.row database.rows ≡ Ok now → Left (last_after q last) now
      finished now went =
          let small = subst (λ n. n ≤ 2147483647) (sym plan.last_is) plan.small in
          let by = subst (IsBy item.what) (sym (chosen database stands)) (choice_by (view options x) (contents_of database) item.what) in
          let keeps = turn_kept (view options x) database.rows d any_meaning stamp item.what has small q by made.0 made.1 now went in
          let place = ap (last_after q) plan.last_is in
          let twins = ap (λ (y : ChangeSet). list_any (is_twin (view options y)) behind) (sym same_set) ∙ next.twins in
          record {
            work = plan_kept (view options x) database.rows now (last_after q (greatest database.rows)) keeps (item.index + 1) behind items twins left.work;
            apart = left.apart;
            last_is = keeps.last_is ∙ place;
            small = subst (λ n. n ≤ 2147483647) place keeps.small;
          }

  -- what its turn settles and prints, and what comes after that, is told

  abbrev set : Set AnyChange
  set = view options x

  abbrev more : Contents → Settled
  more c = all_settled d any_meaning stamp.reading behind c

  abbrev settles : Contents → Choice → Settled
  settles c p = settled_by d any_meaning stamp.reading set c p

  module _ (prints : Bool) (o now : Outcome) (tells : IsToldBy x.identity q o now) (database : Database) (stands : StandsFor d seen database) (plan : Planned database) (told : Account)
      (leads : Leads o (all_settled d any_meaning stamp.reading (views options (drop n sets)) (contents_of database)) told.settled)
      (shows : o.printed ++ shown prints d (printed d any_meaning stamp.reading (views options (drop n sets)) (contents_of database)) ≡ told.printed) where
    abbrev found : Contents
    found = contents_of database

    leads_here : Leads o (unless_stopped (settles found q) more) told.settled
    leads_here = subst (λ (s : Settled). Leads o s told.settled)
        ((next database stands plan).settled d stamp found refl ∙ ap (λ (y : ChangeSet). all_settled d any_meaning stamp.reading (view options y ∷ behind) found) (same_set database stands plan)
        ∙ ap (λ p. unless_stopped (settles found p) more) (ap (choice_of set found) (has database stands plan) ∙ sym (chosen database stands)))
        leads

    leads_at : (p : Choice) → q ≡ p → Leads o (unless_stopped (settles found p) more) told.settled
    leads_at p is = subst (λ p. Leads o (unless_stopped (settles found p) more) told.settled) is leads_here

    abbrev Shows : List (Identity × List Statement) → Type 0
    Shows ran = o.printed ++ shown prints d ran ≡ told.printed

    shows_here : Shows (printed_by d stamp.reading set behind (settles found q))
    shows_here = subst Shows
        ((next database stands plan).prints d stamp found refl ∙ ap (λ (y : ChangeSet). printed d any_meaning stamp.reading (view options y ∷ behind) found) (same_set database stands plan)
        ∙ ap (λ p. printed_by d stamp.reading set behind (settles found p)) (ap (choice_of set found) (has database stands plan) ∙ sym (chosen database stands)))
        shows

    shows_at : (p : Choice) → q ≡ p → Shows (printed_by d stamp.reading set behind (settles found p))
    shows_at p is = subst (λ p. Shows (printed_by d stamp.reading set behind (settles found p))) is shows_here

    tells_at : (p : Choice) → q ≡ p → IsToldBy x.identity p o now
    tells_at p is = subst (λ p. IsToldBy x.identity p o now) is tells

    leads_passed : q ≡ Passes → Leads now (more found) told.settled
    leads_passed is =
        let by = tells_at Passes is in
        leads_on o now [] [] found 0 (more found) told.settled (record { happened = by.happened; warned = by.warned; not_fresh = not_grown o.not_fresh now.not_fresh by.not_fresh; halted = by.halted; stopped_at = by.stopped_at }) (leads_at Passes is)

    leads_skipped : q ≡ Skips → Leads now (more found) told.settled
    leads_skipped is =
        let by = tells_at Skips is in
        leads_on o now (happened_as x.identity did.Skipped ∷ []) [] found 0 (more found) told.settled
        (record { happened = by.happened; warned = by.warned; not_fresh = not_grown o.not_fresh now.not_fresh by.not_fresh; halted = by.halted; stopped_at = by.stopped_at }) (leads_at Skips is)

    -- nothing more is kept
    shows_past : now.printed ≡ o.printed → (p : Choice) → q ≡ p → printed_by d stamp.reading set behind (settles found p) ≡ printed d any_meaning stamp.reading behind found
        → now.printed ++ shown prints d (printed d any_meaning stamp.reading behind found) ≡ told.printed
    shows_past same p is passes =
        ap (λ (ps : List Printed). ps ++ shown prints d (printed d any_meaning stamp.reading behind found)) same
        ∙ subst Shows passes (shows_at p is)

    tells_halted : now.printed ≡ o.printed → (why : Why) → q ≡ Halts why → Reports now told None
    tells_halted same why is =
        let by = tells_at (Halts why) is in
        let stopped = leads_at (Halts why) is in
        record {
          tells = record {
            happened = by.happened ∙ stopped.happened;
            warned = by.warned ∙ stopped.warned;
            not_fresh = by.not_fresh ∙ (stopped.counted ∙ ap bounded (plus_none stopped.so_far ∙ stopped.not_fresh));
            stop = sym stopped.stop ∙ sym (ap (λ (h : Option Halt). option_map (λ (z : Halt). Stopped_by z.identity z.why) h) by.halted);
          };
          prints = same ∙ all_shown prints d o.printed told.printed (shows_at (Halts why) is);
        }

  -- what came of it

  abbrev Told : Bool → Outcome → Database → (Account → Type 0) → Type 0
  Told prints o database holds = (told : Account) → StandsFor d seen database → Planned database → Leads o (all_settled d any_meaning stamp.reading (views options (drop n sets)) (contents_of database)) told.settled
      → o.printed ++ shown prints d (printed d any_meaning stamp.reading (views options (drop n sets)) (contents_of database)) ≡ told.printed → holds told

  module _ (prints : Bool) (o now : Outcome) (tells : IsToldBy x.identity q o now) (same : now.printed ≡ o.printed) (database : Database) where
    abbrev Past : Type 0
    Past = Told prints o database (λ told. (here database ≡ rest_at d any_meaning stamp (between (OfSets behind)) (contents_of database)) × Left last database.rows × Leads now (more (contents_of database)) told.settled
        × (now.printed ++ shown prints d (printed d any_meaning stamp.reading behind (contents_of database)) ≡ told.printed))

    pub came_past : goes_past q ≡ true → Past
    came_past past = (elim q as (λ p. q ≡ p → goes_past p ≡ true → Past) [
      | Passes ↦ λ is yes. λ told stands plan leads shows. (
        at_choice database stands plan Passes is,
        left database stands plan,
        leads_passed prints o now tells database stands plan told leads shows is,
        shows_past prints o now tells database stands plan told leads shows same Passes is refl,
      )
      | Skips ↦ λ is yes. λ told stands plan leads shows. (
        at_choice database stands plan Skips is,
        left database stands plan,
        leads_skipped prints o now tells database stands plan told leads shows is,
        shows_past prints o now tells database stands plan told leads shows same Skips is refl,
      )
      | Fills ↦ λ is yes. absurd Prim.cc
      | Marks what ↦ λ is yes. absurd Prim.cc
      | Runs what why ↦ λ is yes. absurd Prim.cc
      | Halts why ↦ λ is yes. absurd Prim.cc
    ]) refl past

    abbrev Halt_told : Type 0
    Halt_told = Told prints o database (λ told. (here database ≡ closing ∷ []) × Reports now told None)

    pub came_halt : is_halt q ≡ true → Halt_told
    came_halt halts = (elim q as (λ p. q ≡ p → is_halt p ≡ true → Halt_told) [
      | Passes ↦ λ is yes. absurd Prim.cc
      | Skips ↦ λ is yes. absurd Prim.cc
      | Fills ↦ λ is yes. absurd Prim.cc
      | Marks what ↦ λ is yes. absurd Prim.cc
      | Runs what why ↦ λ is yes. absurd Prim.cc
      | Halts why ↦ λ is yes. λ told stands plan leads shows. (at_choice database stands plan (Halts why) is, tells_halted prints o now tells database stands plan told leads shows same why is)
    ]) refl halts

-- its turn is in hand

not_not : (b : Bool) → b ≡ not (not b)
not_not true = refl
not_not false = refl

module _ (d : Dialect) (stamp : Stamp) (seen : Catalogue) (before : SetTurns) (item : Item) (x : ChangeSet) (read : list_all (is_read_for d) before.changelog.sets ≡ true) (at : slice_get before.changelog.sets item.index ≡ Some x) (q : Choice)
    (chosen : (database : Database) → StandsFor d seen database → q ≡ choice_of (view before.options x) (contents_of database) (Some item.what)) (kept_turn : Option InHand) (now : Outcome) (tells : IsToldBy x.identity q before.outcome now) where
  abbrev after : SetTurns
  after = record before { next = item.index + 1; last_after = last_after q before.last; turn = kept_turn; outcome = now }

  abbrev set_of : Set AnyChange
  set_of = view before.options x

  abbrev sets_behind : List (Set AnyChange)
  sets_behind = sets_left after

  -- the changes that are looked at are its own
  abbrev looked_at : List AnyChange
  looked_at = changes_before before.changelog.sets (item.index + 1)

  its_own : looked_at ≡ x.changes
  its_own = let place : item.index ≡ (item.index + 1) - 1 = omega arith in before_is before.changelog.sets (item.index + 1) item.index x place at

  -- its texts, where they are kept
  abbrev its_texts : Printed
  its_texts = with_texts d (x.identity, statements_of d any_meaning x.changes)

  module _ (hand : Hand) (in_hand : IsInHand d stamp x before.last q hand) (held : (t : InHand) × (kept_turn ≡ Some t) × IsOf d x q t) (keeps : now.printed ≡ before.outcome.printed ++ texts_by before.prints d x q) (database : Database) (stands : StandsFor d seen database)
      (plan : ArePlanned before.next (sets_left before) (item ∷ reverse before.items) before.last database.rows) (told : Account) (leads : Leads before.outcome (to_settle before d stamp told (contents_of database)) told.settled)
      (shows : before.outcome.printed ++ to_print before d stamp told (contents_of database) ≡ told.printed) where
    abbrev c : Contents
    c = contents_of database

    abbrev LeftAt : ℕ → List Tracked → Type 0
    LeftAt place rows = ArePlanned (item.index + 1) sets_behind (reverse before.items) place rows

    abbrev turn_made : (turn : Turn) × (turn_by d any_meaning stamp set_of database.rows q ≡ Some turn) × (calls_left hand ≡ turn_calls d stamp.who turn)
        × ((c : Contents) → refused_in d (calls_left hand) no_progress c ≡ refusal_at_end (ending d turn c))
    turn_made = made d stamp seen before.options before.changelog.sets before.next item (reverse before.items) before.last x read at q chosen database stands plan hand in_hand

    abbrev turn : Turn
    turn = turn_made.0

    stays : LeftAt before.last database.rows
    stays = left d stamp seen before.options before.changelog.sets before.next item (reverse before.items) before.last x read at q chosen database stands plan

    goes_to : (rows : List Tracked) → rows_after turn.row database.rows ≡ Ok rows → LeftAt (last_after q before.last) rows
    goes_to = finished d stamp seen before.options before.changelog.sets before.next item (reverse before.items) before.last x read at q chosen database stands plan hand in_hand

    leads_by : (p : Choice) → q ≡ p → Leads before.outcome (unless_stopped (settled_by d any_meaning stamp.reading set_of c p) (all_settled d any_meaning stamp.reading sets_behind)) told.settled
    leads_by = leads_at d stamp seen before.options before.changelog.sets before.next item (reverse before.items) before.last x read at q chosen before.prints before.outcome now tells database stands plan told leads shows

    abbrev Shown : List (Identity × List Statement) → Type 0
    Shown ran = before.outcome.printed ++ shown before.prints d ran ≡ told.printed

    -- what is printed by what its turn settles
    abbrev printed_so : Settled → List (Identity × List Statement)
    printed_so s = printed_by d stamp.reading set_of sets_behind s

    shows_by : (p : Choice) → q ≡ p → Shown (printed_so (settled_by d any_meaning stamp.reading set_of c p))
    shows_by = shows_at d stamp seen before.options before.changelog.sets before.next item (reverse before.items) before.last x read at q chosen before.prints before.outcome now tells database stands plan told leads shows

    abbrev sees : List Catalogue
    sees = seen_along d turn.statements c.users

    abbrev Held : Ending → Type 0
    Held e = HoldsAtEnd (set_way after d stamp told) hand.goes_on sees e

    -- what is counted of it, where it finishes

    abbrev counts : ℕ
    counts = counts_to d looked_at held.0 sees

    abbrev Counted : ℕ → Ending → Type 0
    Counted n (Finished e) = AreAlike d looked_at (reverse held.0.beginnings) × (counts ≡ bounded n)
    Counted n (Refused e refusal) = Unit {0}

    counted_so : (p : Choice) → q ≡ p → (n : ℕ) → stale_in d x.changes (begins_from d 0 (changes_run p x.changes)) sees ≡ n → counts ≡ bounded n
    counted_so p is n so =
        let bs = reverse held.0.beginnings in
        ap (λ (k : ℕ). bounded (k + stale_in d looked_at bs sees)) held.2.not_fresh
        ∙ ap bounded (none_plus (stale_in d looked_at bs sees)
        ∙ (ap (λ (zs : List (Option ℕ)). stale_in d looked_at zs sees) (held.2.begins ∙ ap (λ (r : Choice). begins_from d 0 (changes_run r x.changes)) is)
        ∙ (ap (λ (ys : List AnyChange). stale_in d ys (begins_from d 0 (changes_run p x.changes)) sees) its_own ∙ so)))

    alike_so : (p : Choice) → q ≡ p → AreAlike d looked_at (begins_from d 0 (changes_run p x.changes)) → AreAlike d looked_at (reverse held.0.beginnings)
    alike_so p is are = subst (λ (bs : List (Option ℕ)). AreAlike d looked_at bs) (sym (held.2.begins ∙ ap (λ (r : Choice). begins_from d 0 (changes_run r x.changes)) is)) are

    -- a turn that is refused
    yields : (done : Did) (why : Option Why) (n : ℕ) (e : Contents) (refusal : Refusal) → happens q ≡ true → Adds (happened_as x.identity done ∷ []) (warned_of x.identity why) 0 before.outcome now → e.rows ≡ c.rows
        → Leads before.outcome (unless_stopped (settled_as set_of done why n (Refused e refusal)) (all_settled d any_meaning stamp.reading sets_behind)) told.settled → Shown (printed_so (settled_as set_of done why n (Refused e refusal)))
        → YieldsTo after d stamp told hand.goes_on refusal e
    yields done why n e refusal by adds same leads_so shows_so = record {
      turn = held.0;
      is = held.1;
      stops = held.2.stops ∙ not_not x.fail_on_error ∙ ap not (sym in_hand.goes_on);
      happens_by = ap happens held.2.choice_is ∙ by;
      front = before.outcome.happened;
      last = happened_as x.identity done;
      told_last = adds.happened;
      texts = before.outcome.printed;
      its = its_texts;
      kept_last = keeps ∙ ap (λ (p : Choice). before.outcome.printed ++ if_kept before.prints p its_texts) (sym held.2.choice_is);
      then_told = subst (λ on. YieldsAs after d stamp told on held.0.identity before.outcome.happened before.outcome.printed refusal e) (sym in_hand.goes_on)
          (subst (λ of. YieldsAs after d stamp told (not x.fail_on_error) of before.outcome.happened before.outcome.printed refusal e) (sym held.2.identity) (by_stops x.fail_on_error refl));
    } where
      by_stops : (stops : Bool) → x.fail_on_error ≡ stops → YieldsAs after d stamp told (not stops) x.identity before.outcome.happened before.outcome.printed refusal e
      by_stops true is = (
        refused_tells set_of done why n before.outcome now (all_settled d any_meaning stamp.reading sets_behind) told.settled adds e refusal is leads_so,
        all_shown before.prints d before.outcome.printed told.printed (subst Shown (stopped_printed d stamp.reading set_of sets_behind done why n e refusal is) shows_so),
      )
      by_stops false is = (
        subst (LeftAt before.last) (sym same) stays,
        refused_leads set_of done why n before.outcome now (all_settled d any_meaning stamp.reading sets_behind) told.settled adds e refusal is leads_so,
        subst Shown (skipped_printed d stamp.reading set_of sets_behind done why n e refusal is) shows_so,
      )

    by_ending : (done : Did) (why : Option Why) (n : ℕ) (e : Ending) → happens q ≡ true → Adds (happened_as x.identity done ∷ []) (warned_of x.identity why) 0 before.outcome now
        → now.printed ≡ before.outcome.printed ++ shown before.prints d (ran_as d stamp.reading set_of done) → RowsAre turn c e → Counted n e
        → Leads before.outcome (unless_stopped (settled_as set_of done why n e) (all_settled d any_meaning stamp.reading sets_behind)) told.settled → Shown (printed_so (settled_as set_of done why n e)) → Held e
    by_ending done why n (Finished e) by adds ran are count leads_so shows_so = record {
      turn = held.0;
      is = held.1;
      alike = count.0;
      knows = record {
        planned = goes_to e.rows are;
        leads = finished_leads set_of done why n before.outcome now (all_settled d any_meaning stamp.reading sets_behind) told.settled adds e (with_count after counts).outcome
            (record {
              happened = adds.happened;
              warned = adds.warned;
              not_fresh = grown_by before.outcome.not_fresh n (bounded (now.not_fresh + counts)) (ap (λ (k : ℕ). bounded (now.not_fresh + k)) count.1 ∙ ap (λ (k : ℕ). bounded (k + bounded n)) tells.not_fresh);
              halted = adds.halted;
              stopped_at = adds.stopped_at;
            })
            leads_so;
        prints = more_shown before.prints d before.outcome.printed now.printed told.printed (ran_as d stamp.reading set_of done) (printed d any_meaning stamp.reading sets_behind e) ran shows_so;
      };
    }
    by_ending done why n (Refused e refusal) by adds ran are count leads_so shows_so = yields done why n e refusal by adds are leads_so shows_so

    told_at : (p : Choice) → q ≡ p → IsToldBy x.identity p before.outcome now
    told_at p is = subst (λ p. IsToldBy x.identity p before.outcome now) is tells

    texts_at : (p : Choice) → q ≡ p → now.printed ≡ before.outcome.printed ++ texts_by before.prints d x p
    texts_at p is = keeps ∙ ap (λ (r : Choice). before.outcome.printed ++ texts_by before.prints d x r) is

    -- where its changes do not run, nothing is kept
    no_texts : (p : Choice) → q ≡ p → runs p ≡ false → now.printed ≡ before.outcome.printed ++ shown before.prints d []
    no_texts p is idle = texts_at p is ∙ ap (λ (ps : List Printed). before.outcome.printed ++ ps) (none_kept before.prints p its_texts idle ∙ sym (none_shown before.prints d))

    read_changes : list_all (is_for d) x.changes ≡ true
    read_changes = its_changes d stamp seen before.options before.changelog.sets before.next item (reverse before.items) before.last x read at q chosen

    no_turn : {A : Type 0} → (let o : Option Turn = None in o) ≡ Some turn → A
    no_turn h = Prim.cc

    same_turn : {t : Turn} → (let o : Option Turn = Some t in o) ≡ Some turn → turn ≡ t
    same_turn h = Prim.cc

    -- nothing is counted of a turn in which only the row changes
    row_counted : (p : Choice) → q ≡ p → changes_run p x.changes ≡ [] → (e : Ending) → Counted 0 e
    row_counted p is none (Finished e) = (
      alike_so p is (subst (λ (ys : List AnyChange). AreAlike d looked_at (begins_from d 0 ys)) (sym none) tt),
      counted_so p is 0 (ap (λ (ys : List AnyChange). stale_in d x.changes (begins_from d 0 ys) sees) none ∙ no_places d x.changes sees),
    )
    row_counted p is none (Refused e refusal) = tt

    -- and of one that runs, its changes that are not fresh at their place
    run_counted : (what : What) (why : Option Why) → q ≡ Runs what why → turn.statements ≡ statements_of d any_meaning x.changes → (e : Ending) → ending d turn c ≡ e → Counted (not_fresh d any_meaning x.changes c.users) e
    run_counted what why is its (Finished e) ends =
        let went = finished_ran d turn c e ends in
        let ran : all_run User d (statements_of d any_meaning x.changes) c.users ≡ Ok went.0 = ap (λ (ss : List Statement). all_run User d ss c.users) (sym its) ∙ went.1 in (
          alike_so (Runs what why) is (subst (λ (ys : List AnyChange). AreAlike d ys (begins_from d 0 x.changes)) (sym its_own) (all_alike d x.changes c.users went.0 ran (begins_from d 0 x.changes))),
          counted_so (Runs what why) is (not_fresh d any_meaning x.changes c.users)
              (ap (λ (ss : List Statement). stale_in d x.changes (begins_from d 0 x.changes) (seen_along d ss c.users)) its
              ∙ all_counted d x.changes x.changes 0 c.users went.0 (λ k. ap (slice_get x.changes) (none_plus k)) read_changes stands.sound ran),
        )
    run_counted what why is its (Refused e refusal) ends = tt

    by_choice : (p : Choice) → q ≡ p → turn_by d any_meaning stamp set_of database.rows p ≡ Some turn → Held (ending d turn c)
    by_choice Passes is none = no_turn none
    by_choice Skips is none = no_turn none
    by_choice (Halts why) is none = no_turn none
    by_choice Fills is some =
        let by = told_at Fills is in
        let rows_are_so = rows_are d turn c in
        let filled_so : Contents = record c { rows = map (filled set_of.identity set_of.sum) c.rows } in
        let its : ending d turn c ≡ Finished filled_so = ap (λ t. ending d t c) (same_turn some) in
        let count = row_counted Fills is refl (Finished filled_so) in
        subst (λ e. Held e) (sym its) (record {
          turn = held.0;
          is = held.1;
          alike = count.0;
          knows = record {
            planned = goes_to filled_so.rows (subst (RowsAre turn c) its rows_are_so);
            leads = leads_on before.outcome (with_count after counts).outcome [] [] filled_so 0 (to_settle after d stamp told filled_so) told.settled
                (record {
                  happened = by.happened;
                  warned = by.warned;
                  not_fresh = grown_by before.outcome.not_fresh 0 (bounded (now.not_fresh + counts)) (ap (λ (k : ℕ). bounded (now.not_fresh + k)) count.1 ∙ ap (λ (k : ℕ). bounded (k + bounded 0)) by.not_fresh);
                  halted = by.halted;
                  stopped_at = by.stopped_at;
                })
                (leads_by Fills is);
            prints = more_shown before.prints d before.outcome.printed now.printed told.printed [] (printed d any_meaning stamp.reading sets_behind filled_so) (no_texts Fills is refl) (shows_by Fills is);
          };
        })
    by_choice (Marks what) is some =
        let by = told_at (Marks what) is in
        by_ending did.Marked None 0 (ending d turn c) (ap happens is) (record { happened = by.happened; warned = by.warned; not_fresh = not_grown before.outcome.not_fresh now.not_fresh by.not_fresh; halted = by.halted; stopped_at = by.stopped_at })
        (no_texts (Marks what) is refl) (rows_are d turn c) (row_counted (Marks what) is refl (ending d turn c))
        (subst (λ t. Leads before.outcome (unless_stopped (settled_as set_of did.Marked None 0 (ending d t c)) (all_settled d any_meaning stamp.reading sets_behind)) told.settled) (sym (same_turn some)) (leads_by (Marks what) is))
        (subst (λ t. Shown (printed_so (settled_as set_of did.Marked None 0 (ending d t c)))) (sym (same_turn some)) (shows_by (Marks what) is))
    by_choice (Runs what why) is some =
        let by = told_at (Runs what why) is in
        let n = not_fresh d any_meaning x.changes c.users in
        let run = run_turn d any_meaning stamp.reading what set_of c.rows in
        let ends : run_ending d any_meaning stamp.reading run set_of c ≡ ending d turn c
        = run_is d any_meaning kept stamp set_of run c refl read_changes stands.sound ∙ ap (λ t. ending d t c) (sym (same_turn some)) in
        let ran : now.printed ≡ before.outcome.printed ++ shown before.prints d (ran_as d stamp.reading set_of (did_of what))
        = texts_at (Runs what why) is ∙ ap (λ (ps : List Printed). before.outcome.printed ++ ps)
        (runs_kept before.prints d what why x.identity (statements_of d any_meaning x.changes) ∙ ap (λ (all : List (Identity × List Statement)). shown before.prints d all) (sym (runs_ran d stamp.reading set_of what))) in
        by_ending (did_of what) why n (ending d turn c) (ap happens is) (record { happened = by.happened; warned = by.warned; not_fresh = not_grown before.outcome.not_fresh now.not_fresh by.not_fresh; halted = by.halted; stopped_at = by.stopped_at })
        ran (rows_are d turn c) (run_counted what why is (ap (λ (t : Turn). t.statements) (same_turn some)) (ending d turn c) refl)
        (subst (λ e. Leads before.outcome (unless_stopped (settled_as set_of (did_of what) why n e) (all_settled d any_meaning stamp.reading sets_behind)) told.settled) ends (leads_by (Runs what why) is))
        (subst (λ e. Shown (printed_so (settled_as set_of (did_of what) why n e))) ends (shows_by (Runs what why) is))

    came_turned : (rest_at d any_meaning stamp (between (OfSets (sets_left before))) c ≡ rest_at d any_meaning stamp (place_of hand (OfSets sets_behind)) c) × Expects d (set_way after d stamp told) hand.goes_on (calls_left hand) no_progress (c, c)
    came_turned = (
      at_hand d stamp seen before.options before.changelog.sets before.next item (reverse before.items) before.last x read at q chosen database stands plan hand in_hand,
      turn_expected d stamp.who turn c (set_way after d stamp told) hand.goes_on (calls_left hand) turn_made.2 (turn_made.3 c) (by_choice q refl turn_made.1),
    )

  -- what came of the item
  pub came_to : (tried : Tried) → CameBy d stamp x before.last q tried → IsKeptBy d x q tried kept_turn → KeepsTexts before.prints d x q tried before.outcome.printed now.printed → CameTo d stamp seen before after item tried
  came_to (Entered hand) came held texts = (came.is, λ database told stands plan leads shows. came_turned hand came held texts database stands plan told leads shows)
  came_to Skipped came held texts = λ database told stands plan leads shows.
      let past = came_past d stamp seen before.options before.changelog.sets before.next item (reverse before.items) before.last x read at q chosen before.prints before.outcome now tells texts database came told stands plan leads shows in
      (past.0, record { planned = past.1; leads = past.2; prints = past.3 })
  came_to Halted came held texts = λ database told stands plan leads shows.
      came_halt d stamp seen before.options before.changelog.sets before.next item (reverse before.items) before.last x read at q chosen before.prints before.outcome now tells texts database came told stands plan leads shows
  came_to Lack came held texts = λ database told stands plan leads shows.
      warns_first set_of d any_meaning stamp.reading (contents_of database) q (all_settled d any_meaning stamp.reading sets_behind) before.outcome now told.settled
      (leads_here d stamp seen before.options before.changelog.sets before.next item (reverse before.items) before.last x read at q chosen before.prints before.outcome now tells database stands plan told leads shows) tells.warned
