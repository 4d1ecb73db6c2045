-- The turns that an update takes, and what it comes to at their end.
use Rattle.std.proofs.Common.{ap, inl, inr, refl, subst, sym, ◌∙◌}
use Rattle.std.specs.Prelude.{Err, IfErr, IfOk, IfSome, List, None, Ok, Option, Result, Some, [], false, true, ◌≡◌, ◌≤◌}
use Rattle.lq_base.specs.declared.dialect.Dialect.{Dialect}
use Rattle.lq_base.specs.declared.memory.NoMemory.{NoMemory}
use Rattle.lq_base.specs.declared.tracking.Tracked.{Tracked}
use Rattle.lq_beside.proofs.UpdateFits.{update_fits}
use Rattle.lq_beside.specs.Replays.{calls_fit}
use Rattle.lq_players.proofs.Refused.{refused_so}
use Rattle.lq_players.proofs.Reported.{reports_so}
use Rattle.lq_players.proofs.Results.{ok_map}
use Rattle.lq_players.proofs.UpdateTurns.{calls_are, comes_to, idle_comes, kept, no_calls, passes_all}
use Rattle.lq_players.specs.Updating.{end_answer, HasTurns, HaveTurns, IsAskedFor, IsOwn, IsPlanFor, IsPlanned, Plans, account_of, log_of, task_of, warning, Follows, IsUpdateFor, TakesTurns, ends_in, job_by, left_in, report_in, update_ends, update_job, update_reports, update_way, way_in}
use Rattle.lq_players.specs.Reports.{of_account, own_warned}
use Rattle.lq_players.specs.RollingBack.{IsRefusal}
use Rattle.lq_players.specs.Tasks.{answer_by, work_of}
use Rattle.lq_players.specs.declared.update_checks.Asked.{Asked}
use Rattle.lq_players.specs.declared.update_checks.Planned.TheVariants as planned
use Rattle.lq_players.specs.declared.update_checks.Planned.{Planned}
use Rattle.lq_players.specs.declared.updating.Updating.{Updating}
use Rattle.lq_hand.specs.Way.{no_progress, Enters, GivesUp, Looks}
use Rattle.lq_hand.specs.Hand.{calls_left, place_of}
use Rattle.lq_hand.specs.declared.source.Entered.{Entered}
use Rattle.lq_hand.specs.declared.source.Entered.TheVariants.{Lack}
use Rattle.lq_any.specs.declared.any_change.AnyChange.{AnyChange}
use Rattle.lq_model.specs.Catalogue.{Catalogue}
use Rattle.lq_playing.specs.Answers.{came}
use Rattle.lq_playing.specs.Checked.{Checked, MakesNone, MakesTurns, Work}
use Rattle.lq_playing.specs.declared.came.Report.{Report}
use Rattle.lq_playing.specs.declared.checks.Verdict.TheVariants as verdict
use Rattle.lq_playing.specs.declared.checks.Verdict.{Verdict}
use Rattle.lq_run.specs.Commands.{both_on, script}
use Rattle.lq_run.specs.Steps.{KnownIn, no_turn}
use Rattle.lq_seen.proofs.Read.{views_are_read}
use Rattle.lq_seen.specs.Telling.{Account}
use Rattle.lq_seen.specs.View.{any_meaning}
use Rattle.lq_sets.specs.SetTurns.{IsReadFor, set_way, sets_left}
use Rattle.lq_sets.specs.declared.set_turns.SetTurns.{SetTurns}
use Rattle.lq_track.specs.Database.{Database, has_twin_rows}
use Rattle.lq_turns.specs.Deed.{Contents, contents_of}
use Rattle.lq_turns.specs.Faults.{faults}
use Rattle.lq_turns.specs.Schedule.{StandsFor}
use Rattle.lq_turns.specs.Rest.{OfSets}
use Rattle.lq_turns.specs.Script.{has_work, update_calls}
use Rattle.lq_turns.specs.Session.{session_on}
use Rattle.lq_turns.specs.Set.{Set}
use Rattle.lq_turns.specs.declared.answer.Answer.TheVariants.{Done}
use Rattle.lq_turns.specs.declared.answer.Answer.{Answer}
use Rattle.lq_turns.specs.declared.call.Call.{Call}
use Rattle.lq_turns.specs.declared.choice.Choice.{Choice}
use Rattle.lq_turns.specs.declared.stamp.Stamp.{Stamp}
use Rattle.lq_turns.specs.declared.stop.Refusal.{Refusal}

-- what its turns tell at their end is what it comes to
ends_by : (o : Option SetTurns) (report : Report) (d : Dialect) (stamp : Stamp) (told : Account) (refused : Option Refusal) → (way_in o d stamp told).tells refused → came (report_in o report) (ends_in o refused) ≡ came (of_account told) (answer_by told.settled.stop)
ends_by None report d stamp told refused tells = absurd tells
ends_by (Some s) report d stamp told refused tells =
    ap (λ r. came r (ends_in (Some s) refused)) (reports_so s.outcome told refused tells) ∙ ap (λ stop. came (of_account told) (answer_by stop)) (sym tells.tells.stop)

-- an update whose checks are passed, on a database that is seen
module _ (d : Dialect) (a : Asked) (stamp : Stamp) (seen : Catalogue) (rows : List Tracked) (own : Choice) (faultless : faults (log_of a).sets rows ≡ []) (on : (database : Database) → StandsFor d seen database → (database.rows ≡ rows) × IsOwn a database own) (new : Updating) where
  abbrev job : Work
  job = work_of a.prints d (task_of a stamp)

  module _ (database : Database) (stands : StandsFor d seen database) where
    same : database.rows ≡ rows
    same = (on database stands).0

    is_own : IsOwn a database own
    is_own = (on database stands).1

    none_faulty : faults (log_of a).sets database.rows ≡ []
    none_faulty = ap (faults (log_of a).sets) same ∙ faultless

    -- it has no turn
    idles : has_work (log_of a).sets rows ≡ false → update_reports new ≡ warning (own_warned own) → MakesNone job (came (update_reports new) Done) database
    idles none did =
        let none_here : has_work (log_of a).sets database.rows ≡ false = ap (has_work (log_of a).sets) same ∙ none in record {
          passes = passes_all d a database own is_own stamp none_faulty;
          script_is = no_calls d a database own is_own stamp none_here;
          answer_is = idle_comes d a database own is_own stamp none_here ∙ ap (λ (r : Report). came r Done) (sym did);
        }

  -- or it has taken the turns of its changelog
  module _ (asked : IsAskedFor a d) (moment : stamp.reading ≤ 253402300799999) (source : SetTurns) (have : HaveTurns (log_of a).sets rows) (has : HasTurns a rows own source) (now : new.turns ≡ Some source) where
    module _ (database : Database) (stands : StandsFor d seen database) where
      abbrev told : Account
      told = account_of a.prints (own_warned own) d stamp.reading (log_of a).sets (contents_of database)

      some : has_work (log_of a).sets database.rows ≡ true
      some = ap (has_work (log_of a).sets) (same database stands) ∙ have.some

      differ : has_twin_rows database.rows ≡ false
      differ = ap has_twin_rows (same database stands) ∙ have.placed.apart

      calls_so : update_calls d any_meaning stamp (log_of a) database ≡ script d any_meaning stamp (place_of no_turn (left_in new.turns)) database
      calls_so =
          calls_are d a database own (is_own database stands) stamp some
          ∙ (ap (λ (xs : List (Set AnyChange)). script d any_meaning stamp (place_of no_turn (OfSets xs)) database) (sym has.left)
          ∙ ap (λ (o : Option SetTurns). script d any_meaning stamp (place_of no_turn (left_in o)) database) (sym now))

      they_fit : calls_fit d (script d any_meaning stamp (place_of no_turn (left_in new.turns)) database) (session_on database) ≡ true
      they_fit =
          ap (λ (calls : List Call). calls_fit d calls (session_on database)) (sym calls_so)
          ∙ update_fits any_meaning kept d stamp (log_of a) database stands.sound differ moment (views_are_read d a.options a.changelog asked.read) asked.texts

      knows : KnownIn d (update_way new d stamp told) no_turn.goes_on (calls_left no_turn) no_progress (both_on database)
      knows = subst (λ (o : Option SetTurns). (way_in o d stamp told).knows (contents_of database)) (sym now) (has.knows d stamp (contents_of database) (same database stands) have.placed.small)

      makes : MakesTurns d any_meaning stamp update_way update_ends job (left_in new.turns) new no_turn database
      makes = record {
        told = told;
        passes = passes_all d a database own (is_own database stands) stamp (none_faulty database stands);
        script_is = calls_so;
        answers = λ last refused tells. ends_by last.turns last.report d stamp told refused tells ∙ comes_to d a database own (is_own database stands) stamp;
        knows = knows;
        fits = they_fit;
      }

-- what its checks come to is what it does
module _ (d : Dialect) (a : Asked) (asked : IsAskedFor a d) (stamp : Stamp) (moment : stamp.reading ≤ 253402300799999) (seen : Catalogue) (old between new : Updating) (is : old.asked ≡ Some a) where
  abbrev Checks : Work → Verdict → Type 0
  Checks job v = Checked d any_meaning stamp update_way update_ends job update_reports (left_in new.turns) new seen v

  as_asked : (v : Verdict) → Checks (work_of a.prints d (task_of a stamp)) v → Checks (update_job old d stamp) v
  as_asked v checked = subst (λ (o : Option Asked). Checks (job_by d stamp o) v) (sym is) checked

  follows : (p : Planned) → IsPlanned d a seen p → (v : Verdict) → Follows p between new v → Checks (update_job old d stamp) v
  follows (planned.Turns source) plans v took =
      subst (Checks (update_job old d stamp)) (sym took.1)
      (as_asked (verdict.Turns no_turn) (
        record { inside = refl; turn = refl; holds = tt },
        λ database stands let_in. makes d a stamp seen plans.rows plans.own plans.faultless plans.on new asked moment source plans.plans.0 plans.plans.1 (ap (λ (u : Updating). u.turns) took.0) database stands,
      ))
  follows (planned.Idle report) plans v took =
      let did : update_reports new ≡ report = ap update_reports took.0 in
      subst (Checks (update_job old d stamp)) (sym took.1)
      (as_asked (verdict.Answer Done) (refl, λ database stands let_in. inr (idles d a stamp seen plans.rows plans.own plans.faultless plans.on new database stands plans.plans.0 (did ∙ plans.plans.1))))

  -- it is refused
  at_once : (v : Verdict) → IsRefusal v → Plans d a seen (Err v) → Checks (update_job old d stamp) v
  at_once (verdict.Answer x) its_own plans = as_asked (verdict.Answer x) (its_own, λ database stands let_in. inl (refused_so a.prints d (task_of a stamp) database (update_reports new) x (plans database stands)))
  at_once verdict.Lack its_own plans = tt
  at_once (verdict.OneCall call) its_own plans = absurd its_own
  at_once (verdict.Turns hand) its_own plans = absurd its_own

  pub takes_turns : (r : Result Planned Verdict) → Plans d a seen r → IfErr r IsRefusal → (v : Verdict) → TakesTurns r between new v → Checks (update_job old d stamp) v
  takes_turns (Ok p) plans its_own v took = follows p plans v took
  takes_turns (Err e) plans its_own v took = subst (Checks (update_job old d stamp)) (sym took.1) (at_once e its_own plans)

-- and it stays for the dialect
still_for : (d : Dialect) (between new : Updating) → between.asked ≡ None → IfSome between.turns (λ (s : SetTurns). IsReadFor s d) → (p : Planned) → IsPlanFor d p → (v : Verdict) → Follows p between new v → IsUpdateFor new d
still_for d between new none turns (planned.Turns source) reads v took = subst (λ (u : Updating). IsUpdateFor u d) (sym took.0) (record { asked = subst (λ (o : Option Asked). IfSome o (λ (a : Asked). IsAskedFor a d)) (sym none) tt; turns = reads })
still_for d between new none turns (planned.Idle report) reads v took = subst (λ (u : Updating). IsUpdateFor u d) (sym took.0) (record { asked = subst (λ (o : Option Asked). IfSome o (λ (a : Asked). IsAskedFor a d)) (sym none) tt; turns = tt })

pub stays_for : (d : Dialect) (between new : Updating) → between.asked ≡ None → IfSome between.turns (λ (s : SetTurns). IsReadFor s d) → (r : Result Planned Verdict) → IfOk r (IsPlanFor d) → (v : Verdict) → TakesTurns r between new v → IsUpdateFor new d
stays_for d between new none turns (Ok p) reads v took = still_for d between new none turns p reads v took
stays_for d between new none turns (Err e) reads v took =
    subst (λ (u : Updating). IsUpdateFor u d) (sym took.0) (record { asked = subst (λ (o : Option Asked). IfSome o (λ (a : Asked). IsAskedFor a d)) (sym none) tt; turns = turns })

-- parts of it

pub asked_for : (d : Dialect) (u : Updating) (a : Asked) → u.asked ≡ Some a → IsUpdateFor u d → IsAskedFor a d
asked_for d u a is reads = subst (λ (o : Option Asked). IfSome o (λ (x : Asked). IsAskedFor x d)) is reads.asked

pub turns_for : (d : Dialect) (u : Updating) (s : SetTurns) → u.turns ≡ Some s → IsUpdateFor u d → IsReadFor s d
turns_for d u s is reads = subst (λ (o : Option SetTurns). IfSome o (λ (x : SetTurns). IsReadFor x d)) is reads.turns

pub needs_it : (d : Dialect) (stamp : Stamp) (o : Option Asked) → true ≡ (job_by d stamp o).needs_lock
needs_it d stamp None = refl
needs_it d stamp (Some a) = refl

-- its turns are those of the source that it has

module _ (d : Dialect) (stamp : Stamp) (o : Option SetTurns) (old new : SetTurns) (is : o ≡ Some old) where
  pub enters_so : (seen : Catalogue) (r : Entered) → Enters d any_meaning stamp (OfSets (sets_left old)) (set_way old d stamp) seen r (OfSets (sets_left new)) (set_way new d stamp)
      → Enters d any_meaning stamp (left_in o) (way_in o d stamp) seen r (left_in (Some new)) (way_in (Some new) d stamp)
  enters_so seen r enters = subst (λ (p : Option SetTurns). Enters d any_meaning stamp (left_in p) (way_in p d stamp) seen r (left_in (Some new)) (way_in (Some new) d stamp)) (sym is) enters

-- before its checks it knows of no contents
pub enters_none : (d : Dialect) (stamp : Stamp) (o : Option SetTurns) → o ≡ None → (seen : Catalogue) → Enters d any_meaning stamp (left_in o) (way_in o d stamp) seen Lack (left_in o) (way_in o d stamp)
enters_none d stamp o none seen = λ database stands told knows. absurd (subst (λ (p : Option SetTurns). (way_in p d stamp told).knows (contents_of database)) none knows)

module _ (d : Dialect) (stamp : Stamp) (told : Account) (o : Option SetTurns) where
  module _ (old new : SetTurns) (is : o ≡ Some old) where
    pub looks_so : (seen : Catalogue) → Looks d seen (set_way old d stamp told) (set_way new d stamp told) → Looks d seen (way_in o d stamp told) (way_in (Some new) d stamp told)
    looks_so seen looks = subst (λ (p : Option SetTurns). Looks d seen (way_in p d stamp told) (way_in (Some new) d stamp told)) (sym is) looks

    pub knows_so : (c : Contents) → ((set_way old d stamp told).awaits [] c → (set_way new d stamp told).knows c) → (way_in o d stamp told).awaits [] c → (way_in (Some new) d stamp told).knows c
    knows_so c knows = subst (λ (p : Option SetTurns). (way_in p d stamp told).awaits [] c → (way_in (Some new) d stamp told).knows c) (sym is) knows

    pub gives_up_so : GivesUp (set_way old d stamp told) (set_way new d stamp told) → GivesUp (way_in o d stamp told) (way_in (Some new) d stamp told)
    gives_up_so gives = subst (λ (p : Option SetTurns). GivesUp (way_in p d stamp told) (way_in (Some new) d stamp told)) (sym is) gives

  module _ (none : o ≡ None) where
    pub looks_past : (seen : Catalogue) → Looks d seen (way_in o d stamp told) (way_in o d stamp told)
    looks_past seen = subst (λ (p : Option SetTurns). Looks d seen (way_in p d stamp told) (way_in p d stamp told)) (sym none) (record { knows = λ c h. h; awaits = λ database stands more c h. h; yields = λ goes_on refusal c h. h })

    pub knows_none : (c : Contents) → (way_in o d stamp told).awaits [] c → (way_in o d stamp told).knows c
    knows_none c = subst (λ (p : Option SetTurns). (way_in p d stamp told).awaits [] c → (way_in p d stamp told).knows c) (sym none) (λ h. h)

    pub gives_none : GivesUp (way_in o d stamp told) (way_in o d stamp told)
    gives_none = subst (λ (p : Option SetTurns). GivesUp (way_in p d stamp told) (way_in p d stamp told)) (sym none) (record { goes_on = λ refusal c h. h; stops = λ refusal c h. h })

-- its answer at the end
pub ends_so : (r : Result Answer NoMemory) (o : Option SetTurns) (s : SetTurns) (report : Report) (refused : Option Refusal) → o ≡ Some s → IfOk r (λ (a : Answer). a ≡ end_answer s.outcome refused) → IfOk r (λ (a : Answer). came report a ≡ came report (ends_in o refused))
ends_so r o s report refused is ends = ok_map r _ _ ends (λ a same. ap (came report) (same ∙ ap (λ (p : Option SetTurns). ends_in p refused) (sym is)))
