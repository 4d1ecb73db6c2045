-- What a changelog-sync plans, and what becomes of its one turn.
use Rattle.std.proofs.Common.{ap, inl, inr, refl, rules, subst, sym, tests, ◌∙◌}
use Rattle.std.proofs.lemmas.List.{length_push}
use Rattle.std.specs.Prelude.{Bool, Err, List, None, Ok, Option, Result, Some, [], false, if◌then◌else◌, length, map, nat_lt, option_map, true, ℕ, ◌&&◌, ◌+◌, ◌++◌, ◌<◌, ◌∷◌, ◌≡◌, ◌≢◌, ◌≤◌}
use Rattle.lq_back.specs.Reversal.{insert_call, sync_calls}
use Rattle.lq_base.specs.declared.dialect.Dialect.{Dialect}
use Rattle.lq_base.specs.declared.identity.Identity.{Identity}
use Rattle.lq_base.specs.declared.run.Happened.{Happened}
use Rattle.lq_base.specs.declared.reason.Reason.TheVariants.{TooManyRows, TooWide}
use Rattle.lq_base.specs.declared.reason.Reason.{Reason}
use Rattle.lq_base.specs.declared.tracking.Tracked.{Tracked}
use Rattle.lq_beside.proofs.OtherFits.{sync_fits}
use Rattle.lq_beside.specs.Replays.{calls_fit}
use Rattle.lq_players.specs.Syncing.{HasRows, FitColumns, Inserts, Plans, PlansFor, PlansOn, PlansRows, SyncChecked, goes_in, planned, refusal_in, refused_at, stop_at, sync_ends, sync_job, sync_log, sync_way, verdict_of}
use Rattle.lq_players.specs.Reports.{of_account}
use Rattle.lq_players.specs.Tasks.{answer_by, if_some}
use Rattle.lq_players.specs.declared.syncing.Plan.TheVariants as plan
use Rattle.lq_players.specs.declared.syncing.Plan.{Plan}
use Rattle.lq_players.specs.declared.syncing.Syncing.{Syncing}
use Rattle.lq_hand.specs.Way.{coming_of, no_progress, with_accepted, Way, refused_by, refused_in}
use Rattle.lq_hand.specs.Hand.{calls_left, hand_place, place_of}
use Rattle.lq_hand.specs.declared.hand.Hand.{Hand}
use Rattle.lq_hand.specs.declared.progress.Progress.{Progress}
use Rattle.lq_any.specs.declared.any_change.AnyChange.{AnyChange}
use Rattle.lq_model.proofs.Lists.{and_right}
use Rattle.lq_model.specs.Catalogue.{Catalogue}
use Rattle.lq_playing.specs.Answers.{is_failure, came, nothing, only}
use Rattle.lq_playing.specs.Checked.{AnswersAtOnce, IsInHand, MakesTurns, Work}
use Rattle.lq_playing.specs.declared.came.Came.{Came}
use Rattle.lq_playing.specs.declared.checks.Verdict.{Verdict}
use Rattle.lq_run.proofs.Scripts.{script_inside, sync_holds}
use Rattle.lq_run.specs.Commands.{both_on, script}
use Rattle.lq_run.specs.Ends.{AllHoldOn}
use Rattle.lq_run.specs.Steps.{KnownIn}
use Rattle.lq_seen.specs.View.{any_meaning}
use Rattle.lq_track.specs.Database.{Database}
use Rattle.lq_track.specs.Log.{identity_of}
use Rattle.lq_turns.specs.Deed.{Contents, contents_of, contents_after, has_place, if_accepted, rows_after}
use Rattle.lq_turns.specs.Faults.{faults}
use Rattle.lq_turns.specs.Session.{accepted_by, are_accepted, session_on}
use Rattle.lq_turns.specs.Schedule.{StandsFor}
use Rattle.lq_turns.specs.Rest.{NoMore}
use Rattle.lq_turns.specs.Script.{rows_to_sync, sync_of, with_lock}
use Rattle.lq_turns.specs.Set.{Set}
use Rattle.lq_turns.specs.Settle.{Settled}
use Rattle.lq_turns.specs.Laws.{insert_stop, marked_by, stop_then, synced_by}
use Rattle.lq_turns.specs.Turn.{made}
use Rattle.lq_turns.specs.declared.answer.Answer.TheVariants.{Invalid}
use Rattle.lq_turns.specs.declared.answer.Answer.{Answer}
use Rattle.lq_turns.specs.declared.call.Call.TheVariants.{Abort, Alone, Begin, Commit, Execute}
use Rattle.lq_turns.specs.declared.call.Call.{Call}
use Rattle.lq_turns.specs.declared.deed.Deed.TheVariants.{Rows}
use Rattle.lq_turns.specs.declared.deed.OnRows.TheVariants.{Inserted}
use Rattle.lq_turns.specs.declared.fault.Fault.{Fault}
use Rattle.lq_turns.specs.declared.stamp.Stamp.{Stamp}
use Rattle.lq_turns.specs.declared.stop.Refusal.{Refusal}
use Rattle.lq_turns.specs.declared.stop.Stop.TheVariants.{Halted, Refused}
use Rattle.lq_turns.specs.declared.stop.Stop.{Stop}

not_true : false ≡ true → ⊥
not_true h = Prim.cc

true_not : true ≡ false → ⊥
true_not h = Prim.cc

none_some : {A : Type 0} {a : A} → (let o : Option A = None in o) ≡ Some a → ⊥
none_some h = Prim.cc

some_none : {A : Type 0} {a : A} → (let o : Option A = Some a in o) ≡ None → ⊥
some_none h = Prim.cc

some_same : {A : Type 0} {a b : A} → (let o : Option A = Some a in o) ≡ Some b → a ≡ b
some_same h = Prim.cc

answer_same : (a b : Answer) → plan.Answer a ≡ plan.Answer b → a ≡ b
answer_same a b h = Prim.cc

no_answer : (hand : Hand) (of : Option Identity) (marked : List Happened) (a : Answer) → plan.Turn hand of marked ≡ plan.Answer a → ⊥
no_answer hand of marked a h = Prim.cc

-- the refusal of the turn, and what stops it

module _ (d : Dialect) where
  inserts_refused : (rows : List Tracked) (c : Contents) → refused_in d (map insert_call rows ++ Commit ∷ []) no_progress c ≡ refusal_in (insert_stop rows c.rows)
  inserts_refused [] c = refl
  inserts_refused (row ∷ rows) c = elim (rows_after (Inserted row) c.rows) as (λ r. refused_by d (Rows (Inserted row)) (refused_in d (map insert_call rows ++ Commit ∷ [])) no_progress (if_accepted (λ rs. record c { rows = rs }) r) ≡ refusal_in (stop_then row (insert_stop rows) r)) [
    | Ok now ↦ inserts_refused rows (record c { rows = now })
    | Err reason ↦ refl
  ]

  rows_refused : (rows : List Tracked) (c : Contents) → refused_in d (sync_calls rows) no_progress c ≡ refusal_in (insert_stop rows c.rows)
  rows_refused rows c = inserts_refused rows c

  -- of calls that are all accepted none is refused
  none_refused : (calls : List Call) (p : Progress) (c : Contents) → are_accepted d calls c ≡ true → refused_in d calls p c ≡ None
  none_refused [] p c all = refl
  none_refused (Execute deed ∷ calls) p c all = by (contents_after d deed c) (λ q now. none_refused calls q now) all where
    by : (r : Result Contents Reason) → ((q : Progress) (now : Contents) → are_accepted d calls now ≡ true → refused_in d calls q now ≡ None) → accepted_by d (are_accepted d calls) r ≡ true
        → refused_by d deed (refused_in d calls) p r ≡ None
    by (Ok now) more all = more (with_accepted (coming_of d (Execute deed)) p) now all
    by (Err reason) more all = absurd (not_true all)
  none_refused (Begin ∷ calls) p c all = none_refused calls (with_accepted (coming_of d Begin) p) c all
  none_refused (Commit ∷ calls) p c all = none_refused calls (with_accepted (coming_of d Commit) p) c all
  none_refused (Abort ∷ calls) p c all = none_refused calls (with_accepted (coming_of d Abort) p) c all
  none_refused (Alone deeds room ∷ calls) p c all = none_refused calls (with_accepted (coming_of d (Alone deeds room)) p) c all

abbrev is_halted : Option Stop → Bool
is_halted None = false
is_halted (Some (Halted place why)) = true
is_halted (Some (Refused of refusal)) = false

no_halt : (rows before : List Tracked) → is_halted (insert_stop rows before) ≡ false
no_halt [] before = refl
no_halt (row ∷ rows) before = elim (rows_after (Inserted row) before) as (λ r. is_halted (stop_then row (insert_stop rows) r) ≡ false) [ Ok now ↦ no_halt rows now | Err reason ↦ refl ]

no_stop : (stop : Option Stop) → is_halted stop ≡ false → refusal_in stop ≡ None → stop ≡ None
no_stop None halted none = refl
no_stop (Some (Halted place why)) halted none = absurd (true_not halted)
no_stop (Some (Refused of refusal)) halted none = absurd (some_none none)

stops_so : (stop : Option Stop) (refusal : Refusal) → refusal_in stop ≡ Some refusal → stop ≡ stop_at (Some refusal) (refused_at stop)
stops_so None refusal is = absurd (none_some is)
stops_so (Some (Halted place why)) refusal is = absurd (none_some is)
stops_so (Some (Refused of other)) refusal is = ap (λ (q : Refusal). (let o : Option Stop = Some (Refused of q) in o)) (some_same is)

-- what is marked by rows that all go in, or not
all_marked : (stop : Option Stop) (rows : List Tracked) → stop ≡ None → marked_by None rows ≡ marked_by stop rows
all_marked stop rows none = ap (λ (o : Option Stop). marked_by o rows) (sym none)

none_marked : (stop : Option Stop) (rows : List Tracked) (refusal : Refusal) → refusal_in stop ≡ Some refusal → marked_by stop rows ≡ []
none_marked None rows refusal is = absurd (none_some is)
none_marked (Some stop) rows refusal is = refl

-- the first of these rows, behind so many, that does not go in
abbrev pub first_out : ℕ → List Tracked → Option Tracked
first_out count [] = None
first_out count (row ∷ rows) = if goes_in count row then first_out (count + 1) rows else Some row

-- it stops there
first_is : (rows before : List Tracked) → option_map identity_of (first_out (length before) rows) ≡ refused_at (insert_stop rows before)
first_is [] before = refl
first_is (row ∷ rows) before = by (has_place row) (nat_lt (length before) 100000) (ap (λ (n : ℕ). option_map identity_of (first_out n rows)) (sym (length_push before row)) ∙ first_is rows (before ++ row ∷ [])) where
  by : (a b : Bool) → option_map identity_of (first_out (length before + 1) rows) ≡ refused_at (insert_stop rows (before ++ row ∷ []))
      → option_map identity_of (if a && b then first_out (length before + 1) rows else Some row) ≡ refused_at (stop_then row (insert_stop rows) (if a then (if b then Ok (before ++ row ∷ []) else Err TooManyRows) else Err TooWide))
  by true true more = more
  by true false more = refl
  by false b more = refl

-- one row after another

less : (a b : ℕ) → nat_lt a b ≡ true → a < b
less a b h = search (rules, tests)

pub few_before : (count : ℕ) (row : Tracked) → goes_in count row ≡ true → count < 100000
few_before count row is = less count 100000 (and_right (has_place row) (nat_lt count 100000) is)

module _ (count : ℕ) (before rows rest after : List Tracked) (row : Tracked) (b : Bool) (first : rest ≡ row ∷ after) (so : b ≡ goes_in count row) (left : first_out count rest ≡ first_out (length before) rows) where
  here : (t : Bool) → b ≡ t → first_out count rest ≡ (if t then first_out (count + 1) after else Some row)
  here t is = ap (first_out count) first ∙ ap (λ (q : Bool). if q then first_out (count + 1) after else Some row) (sym so ∙ is)

  pub out_found : b ≡ false → (let o : Option Identity = Some (identity_of row) in o) ≡ refused_at (insert_stop rows before)
  out_found is = ap (option_map identity_of) (sym (here false is) ∙ left) ∙ first_is rows before

  pub out_later : b ≡ true → first_out (count + 1) after ≡ first_out (length before) rows
  out_later is = sym (here true is) ∙ left

pub none_out : (count : ℕ) (before rows rest : List Tracked) → length rest ≡ 0 → first_out count rest ≡ first_out (length before) rows → (let o : Option Identity = None in o) ≡ refused_at (insert_stop rows before)
none_out count before rows [] none left = ap (option_map identity_of) left ∙ first_is rows before
none_out count before rows (row ∷ rest) none left = Prim.cc

-- the plan

pub with_faults : (rows before : List Tracked) (all found : List Fault) → found ≡ all → (found ≡ [] → ⊥) → Plans all rows before (plan.Answer (Invalid found))
with_faults rows before all found is some = subst (λ fs. Plans fs rows before (plan.Answer (Invalid found))) is (by found some) where
  by : (fs : List Fault) → (fs ≡ [] → ⊥) → Plans fs rows before (plan.Answer (Invalid fs))
  by [] some = absurd (some refl)
  by (fault ∷ more) some = refl

pub without_faults : (rows made before : List Tracked) (all found : List Fault) (p : Plan) → found ≡ all → found ≡ [] → made ≡ rows → PlansRows made before p → Plans all rows before p
without_faults rows made before all found p is none are plans = subst (λ fs. Plans fs rows before p) (sym none ∙ is) (subst (λ rs. PlansRows rs before p) are plans)

-- the calls of a turn in hand, and what they ask

module _ (way : Way) (d : Dialect) (x : Database) where
  known_by : (goes_on : Bool) (calls : List Call) (rows : List Tracked) → goes_on ≡ false → calls ≡ sync_calls rows
      → (are_accepted d (sync_calls rows) (contents_of x) ≡ true → (c : Contents) (sees : List Catalogue) → way.awaits sees c)
      → ((refusal : Refusal) → refused_in d (sync_calls rows) no_progress (contents_of x) ≡ Some refusal → (c : Contents) → way.yields false refusal c) → KnownIn d way goes_on calls no_progress (both_on x)
  known_by goes_on calls rows stops are finished refused =
      subst (λ (b : Bool). KnownIn d way b calls no_progress (both_on x)) (sym stops)
      (subst (λ (cs : List Call). KnownIn d way false cs no_progress (both_on x)) (sym are)
      (record { finished = λ all. finished all _ _; refused = λ refusal is. refused refusal is _ }))

module _ (d : Dialect) (stamp : Stamp) (it : Syncing) where
  abbrev sets : List (Set AnyChange)
  sets = (sync_log it).sets

  abbrev to_sync : List Tracked → List Tracked
  to_sync rows = rows_to_sync stamp.reading sets rows

  abbrev job : Work
  job = sync_job it d stamp

  abbrev PlansAt : List Tracked → Plan → Type 0
  PlansAt rows p = PlansFor stamp.reading sets rows p

  -- an answer without a call

  module _ (a : Answer) where
    answered : (found : List Fault) (rows before : List Tracked) → Plans found rows before (plan.Answer a) → is_failure a ≡ false
    answered [] rows before plans = ap is_failure plans.1
    answered (fault ∷ more) rows before plans = ap is_failure (answer_same a (Invalid (fault ∷ more)) plans)

    answers_now : (database : Database) → PlansAt database.rows (plan.Answer a) → AnswersAtOnce job (came nothing a) database
    answers_now database plans = by (faults sets database.rows) refl plans where
      by : (found : List Fault) → faults sets database.rows ≡ found → Plans found (to_sync database.rows) database.rows (plan.Answer a) → AnswersAtOnce job (came nothing a) database
      by [] at plans = inr (record {
        passes = ap (λ (fs : List Fault). option_map only (if_some fs)) at;
        script_is = ap (λ rs. sync_of d stamp rs database) plans.0;
        answer_is = ap (λ rs. came (of_account (record { settled = synced_by rs (contents_of database); printed = [] })) (answer_by (insert_stop rs database.rows))) plans.0 ∙ ap (came nothing) (sym plans.1);
      })
      by (fault ∷ more) at plans = inl (ap (λ (fs : List Fault). option_map only (if_some fs)) at ∙ ap (λ (b : Answer). (let o : Option Came = Some (came nothing b) in o)) (sym (answer_same a (Invalid (fault ∷ more)) plans)))

  -- the turn

  module _ (hand : Hand) (of : Option Identity) (marked : List Happened) where
    inserts : (found : List Fault) (rows before : List Tracked) → Plans found rows before (plan.Turn hand of marked) → (found ≡ []) × Inserts rows before hand of marked
    inserts [] rows before plans = (refl, plans)
    inserts (fault ∷ more) rows before plans = absurd (no_answer hand of marked (Invalid (fault ∷ more)) plans)

    in_hand : (rows before : List Tracked) → Inserts rows before hand of marked → IsInHand d stamp hand
    in_hand rows before it = record { inside = it.inside; turn = it.turn d; holds = subst (AllHoldOn stamp.who) (sym it.calls) (sync_holds d stamp.who rows) }

    module _ (database : Database) (time : stamp.reading ≤ 253402300799999) (texts : FitColumns it) (plans : PlansAt database.rows (plan.Turn hand of marked)) where
      abbrev rows : List Tracked
      rows = to_sync database.rows

      abbrev stop : Option Stop
      stop = insert_stop rows database.rows

      turn : (faults sets database.rows ≡ []) × Inserts rows database.rows hand of marked
      turn = inserts (faults sets database.rows) rows database.rows plans

      some_calls : (rs : List Tracked) → rs ≢ [] → sync_of d stamp rs database ≡ with_lock stamp database (made d (sync_calls rs) (contents_of database))
      some_calls [] some = absurd (some refl)
      some_calls (row ∷ rs) some = refl

      calls_are : sync_of d stamp rows database ≡ script d any_meaning stamp (place_of hand NoMore) database
      calls_are =
          some_calls rows turn.1.some
          ∙ ap (λ (cs : List Call). with_lock stamp database (made d cs (contents_of database))) (sym turn.1.calls)
          ∙ sym (script_inside d any_meaning stamp database (calls_left hand) hand.goes_on)
          ∙ ap (λ q. script d any_meaning stamp (hand_place q (calls_left hand) hand.goes_on NoMore) database) (sym turn.1.inside)

      abbrev after : Syncing
      after = record it { stops_at = of; marked = marked }

      abbrev told : Settled
      told = synced_by rows (contents_of database)

      ends_well : are_accepted d (sync_calls rows) (contents_of database) ≡ true → stop ≡ None
      ends_well all = no_stop stop (no_halt rows database.rows) (sym (rows_refused d rows (contents_of database)) ∙ none_refused d (sync_calls rows) no_progress (contents_of database) all)

      finishes : are_accepted d (sync_calls rows) (contents_of database) ≡ true → (stop ≡ None) × (marked ≡ told.happened)
      finishes all = let none = ends_well all in (none, turn.1.marked_is ∙ all_marked stop rows none)

      yields : (refusal : Refusal) → refused_in d (sync_calls rows) no_progress (contents_of database) ≡ Some refusal → (stop ≡ stop_at (Some refusal) of) × (told.happened ≡ [])
      yields refusal is = let it_is = sym (rows_refused d rows (contents_of database)) ∙ is in (stops_so stop refusal it_is ∙ ap (stop_at (Some refusal)) (sym turn.1.of_is), none_marked stop rows refusal it_is)

      ends_so : (last : Syncing) (refused : Option Refusal) → (stop ≡ stop_at refused last.stops_at) × (last.marked ≡ told.happened) → sync_ends last refused ≡ job.answer database
      ends_so last refused tells = ap (λ list. came (record nothing { happened = list }) (answer_by (stop_at refused last.stops_at))) tells.1 ∙ ap (λ o. came (of_account (record { settled = told; printed = [] })) (answer_by o)) (sym tells.0)

      makes : MakesTurns d any_meaning stamp sync_way sync_ends job NoMore after hand database
      makes = record {
        told = told;
        passes = ap (λ (fs : List Fault). option_map only (if_some fs)) turn.0;
        script_is = calls_are;
        answers = ends_so;
        knows = known_by (sync_way after d stamp told) d database hand.goes_on (calls_left hand) rows turn.1.stops turn.1.calls (λ all c sees. finishes all) (λ refusal is c. yields refusal is);
        fits = ap (λ calls. calls_fit d calls (session_on database)) (sym calls_are) ∙ sync_fits AnyChange d stamp (sync_log it) database time texts;
      }

  -- what the checks come to

  module _ (seen : Catalogue) (time : stamp.reading ≤ 253402300799999) (texts : FitColumns it) where
    plans_there : (p : Plan) (rows : List Tracked) → HasRows d seen rows → PlansAt rows p → (database : Database) → StandsFor d seen database → PlansAt database.rows p
    plans_there p before has plans database stands = subst (λ rs. PlansAt rs p) (sym (has database stands)) plans

    by_plan : (p : Plan) → PlansOn d stamp.reading sets seen p → SyncChecked d stamp it (planned p it) seen (verdict_of p)
    by_plan (plan.Answer a) on = (
      answered a (faults sets on.rows) (to_sync on.rows) on.rows on.plans,
      λ database stands let_in. answers_now a database (plans_there (plan.Answer a) on.rows on.has on.plans database stands),
    )
    by_plan (plan.Turn hand of marked) on = (
      in_hand hand of marked (to_sync on.rows) on.rows (inserts hand of marked (faults sets on.rows) (to_sync on.rows) on.rows on.plans).1,
      λ database stands let_in. makes hand of marked database time texts (plans_there (plan.Turn hand of marked) on.rows on.has on.plans database stands),
    )

    pub sync_checked : (p : Plan) → PlansOn d stamp.reading sets seen p → (after : Syncing) → after ≡ planned p it → (v : Verdict) → v ≡ verdict_of p → SyncChecked d stamp it after seen v
    sync_checked p on now now_is v v_is =
        subst (λ w. SyncChecked d stamp it now seen w) (sym v_is) (subst (λ b. SyncChecked d stamp it b seen (verdict_of p)) (sym now_is) (by_plan p on))

    still_fits : (p : Plan) → FitColumns (planned p it)
    still_fits (plan.Answer a) = texts
    still_fits (plan.Turn hand of marked) = texts

    pub stays_read : (p : Plan) (after : Syncing) → after ≡ planned p it → FitColumns after
    stays_read p now is = subst FitColumns (sym is) (still_fits p)
