-- A rollback that passed its checks makes the calls of its job, and answers as it.
use Rattle.std.proofs.Common.{ap, inl, inr, refl, subst, sym, ◌∙◌}
use Rattle.std.specs.List.{list_all}
use Rattle.std.specs.Option.{option_map}
use Rattle.std.specs.Prelude.{List, None, Option, Some, [], reverse, true, ℕ, ◌∷◌, ◌≡◌, ◌≢◌, ◌≤◌}
use Rattle.lq_back.specs.Reversal.{goes_back, is_deletion}
use Rattle.lq_back.specs.declared.row_turns.RowTurns.{RowTurns}
use Rattle.lq_base.proofs.ValueLemmas.{and_then_some}
use Rattle.lq_base.specs.declared.command.Command.TheVariants.{Rollback}
use Rattle.lq_base.specs.declared.dialect.Dialect.{Dialect}
use Rattle.lq_beside.proofs.OtherFits.{rollback_fits}
use Rattle.lq_beside.specs.Replays.{is_deleted, is_return, calls_fit}
use Rattle.lq_players.specs.RollingBack.{AreNew, ComesTo, HasTurns, IsPlanned, back_ends, back_job, back_refusal, back_reports, back_turns, back_way, turns_end, turns_left, turns_report, turns_way, IsRefusal, Refuses}
use Rattle.lq_players.proofs.Refused.{refused_so}
use Rattle.lq_players.proofs.Reported.{reports_so}
use Rattle.lq_players.proofs.UpdateTurns.{none_shown}
use Rattle.lq_players.specs.Reports.{of_account, report_of, rolled_by, rolled_to}
use Rattle.lq_players.specs.Tasks.{answer_by, task_for, stop_back, stop_of, stop_to}
use Rattle.lq_players.specs.declared.rolling_back.RollingBack.{RollingBack}
use Rattle.lq_hand.specs.Hand.{place_of}
use Rattle.lq_any.specs.declared.any_change.AnyChange.{AnyChange}
use Rattle.lq_model.proofs.Lists.{and_left, and_right, and_true}
use Rattle.lq_model.specs.Catalogue.{Catalogue}
use Rattle.lq_model.specs.Step.{is_statement}
use Rattle.lq_playing.specs.Answers.{came, nothing, only}
use Rattle.lq_playing.specs.Checked.{Checked, MakesNone, MakesTurns, Work}
use Rattle.lq_playing.specs.declared.checks.Verdict.TheVariants as verdict
use Rattle.lq_playing.specs.declared.checks.Verdict.{Verdict}
use Rattle.lq_run.specs.Commands.{script}
use Rattle.lq_run.specs.Steps.{no_turn}
use Rattle.lq_seen.specs.Telling.{Account, of_turns}
use Rattle.lq_seen.specs.View.{any_meaning, view_log, views}
use Rattle.lq_track.specs.Database.{Database}
use Rattle.lq_turns.specs.Deed.{contents_of}
use Rattle.lq_turns.specs.Schedule.{StandsFor}
use Rattle.lq_turns.specs.Laws.{rollback_calls}
use Rattle.lq_turns.specs.Rest.{OfRows, Place, Turns}
use Rattle.lq_turns.specs.Script.{all_rolled, rollback_of, rows_kept, rows_undone, undo_turns}
use Rattle.lq_turns.specs.Session.{session_on}
use Rattle.lq_turns.specs.Set.{Set}
use Rattle.lq_turns.specs.declared.answer.Answer.TheVariants.{Done}
use Rattle.lq_turns.specs.declared.call.Call.{Call}
use Rattle.lq_turns.specs.declared.deed.OnRows.TheVariants.{Cleared, Deleted, Filled, Inserted, Renewed, Tagged}
use Rattle.lq_turns.specs.declared.deed.OnRows.{OnRows}
use Rattle.lq_turns.specs.declared.stamp.Stamp.{Stamp}
use Rattle.lq_turns.specs.declared.stop.Refusal.{Refusal}
use Rattle.lq_turns.specs.declared.turn.Turn.{Turn}

-- a turn back is a return

deleted_too : (w : OnRows) → is_deletion w ≡ true → is_deleted w ≡ true
deleted_too (Deleted of) is = refl
deleted_too (Inserted row) is = is
deleted_too (Renewed row) is = is
deleted_too (Filled of sum) is = is
deleted_too (Tagged of tag) is = is
deleted_too Cleared is = is

return_too : (d : Dialect) (turns : List Turn) → list_all (goes_back d) turns ≡ true → list_all (is_return d) turns ≡ true
return_too d [] all = refl
return_too d (turn ∷ turns) all =
    let one = and_left (goes_back d turn) (list_all (goes_back d) turns) all in
    and_true (is_return d turn) _
    (and_true (list_all (is_statement d) turn.statements) _ (and_right (is_deletion turn.row) _ one) (deleted_too turn.row (and_left (is_deletion turn.row) _ one)))
    (return_too d turns (and_right (goes_back d turn) _ all))

-- what a rollback answers whose source has told all
told_end : (d : Dialect) (stamp : Stamp) (told : Account) (turns : Option RowTurns) (refused : Option Refusal) → (turns_way turns d stamp told).tells refused → came (turns_report turns) (turns_end turns refused) ≡ came (of_account told) (answer_by told.settled.stop)
told_end d stamp told None refused tells = absurd tells
told_end d stamp told (Some source) refused tells =
    ap (λ r. came r (turns_end (Some source) refused)) (reports_so source.outcome told refused tells) ∙ ap (λ stop. came (of_account told) (answer_by stop)) (sym tells.tells.stop)

-- the calls of its turns, where no turn is in hand
module _ (d : Dialect) (stamp : Stamp) (database : Database) where
  abbrev pub turns_place : List Turn → Place AnyChange
  turns_place turns = place_of no_turn (OfRows turns)

  rollback_is : (turns : List Turn) → turns ≢ [] → rollback_of d stamp turns database ≡ script d any_meaning stamp (turns_place turns) database
  rollback_is [] some = absurd (some refl)
  rollback_is (turn ∷ turns) some = refl

  rollback_may : (turns : List Turn) → stamp.reading ≤ 253402300799999 → list_all (goes_back d) turns ≡ true → turns ≢ [] → calls_fit d (script d any_meaning stamp (turns_place turns) database) (session_on database) ≡ true
  rollback_may turns time back some =
      ap (λ (calls : List Call). calls_fit d calls (session_on database)) (sym (rollback_is turns some)) ∙ rollback_fits d stamp turns database time (return_too d turns back)

module _ (s : RollingBack) (d : Dialect) (stamp : Stamp) where
  abbrev job : Work
  job = back_job s d stamp

  abbrev sets : List (Set AnyChange)
  sets = views s.options s.changelog.sets

  module _ (database : Database) where
    -- the job, where these turns take the rows back
    module _ (turns : List Turn) (are : back_turns s d database.rows ≡ Some turns) where
      stays : (stay : ℕ) × (rows_kept s.target database.rows ≡ Some stay) × (undo_turns d any_meaning sets (rows_undone stay database.rows) ≡ Some turns)
      stays = and_then_some (λ (stay : ℕ). undo_turns d any_meaning sets (rows_undone stay database.rows)) (rows_kept s.target database.rows) turns are

      abbrev calls_to : Option ℕ → List Call
      calls_to o = elim o [ Some stay ↦ rollback_calls d any_meaning stamp sets stay database | None ↦ [] ]

      abbrev calls_by : Option (List Turn) → List Call
      calls_by o = elim o [ Some these ↦ rollback_of d stamp these database | None ↦ [] ]

      script_is : job.script database ≡ rollback_of d stamp turns database
      script_is = ap calls_to stays.1 ∙ ap calls_by stays.2

      stop_is : stop_of d (task_for (Rollback s.target) s.options s.changelog stamp) database ≡ (all_rolled d turns (contents_of database)).stop
      stop_is =
          ap (λ (o : Option ℕ). stop_to d (view_log s.options s.changelog) o database.rows (contents_of database)) stays.1
          ∙ ap (λ (o : Option (List Turn)). stop_back d o (contents_of database)) stays.2

      account_is : rolled_to s.prints d (view_log s.options s.changelog) (rows_kept s.target database.rows) database.rows (contents_of database) ≡ of_turns s.prints d turns (contents_of database)
      account_is =
          ap (λ (o : Option ℕ). rolled_to s.prints d (view_log s.options s.changelog) o database.rows (contents_of database)) stays.1
          ∙ ap (λ (o : Option (List Turn)). rolled_by s.prints d o (contents_of database)) stays.2

      answer_is : job.answer database ≡ came (of_account (of_turns s.prints d turns (contents_of database))) (answer_by (all_rolled d turns (contents_of database)).stop)
      answer_is =
          ap (λ stop. came (report_of s.prints d (task_for (Rollback s.target) s.options s.changelog stamp) database) (answer_by stop)) stop_is
          ∙ ap (λ (told : Account). came (of_account told) (answer_by (all_rolled d turns (contents_of database)).stop)) account_is

    -- there is nothing to take back
    makes_none : IsPlanned s d database.rows None → MakesNone job (came nothing Done) database
    makes_none goes = record { passes = ap (option_map only) goes.passes; script_is = script_is [] goes.turns_are; answer_is = answer_is [] goes.turns_are ∙ ap (λ texts. came (record nothing { printed = texts }) Done) (none_shown s.prints d) }

    makes_turns : (source : RowTurns) → stamp.reading ≤ 253402300799999 → HasTurns s.prints d source → IsPlanned s d database.rows (Some source)
        → MakesTurns d any_meaning stamp back_way back_ends job (OfRows (reverse source.turns)) (record s { turns = Some source }) no_turn database
    makes_turns source time has goes =
        let turns = reverse source.turns in
        let told : Account = of_turns s.prints d turns (contents_of database) in record {
          told = told;
          passes = ap (option_map only) goes.passes;
          script_is = script_is turns goes.turns_are ∙ rollback_is d stamp database turns has.some;
          answers = λ last refused tells. told_end d stamp told last.turns refused tells ∙ sym (answer_is turns goes.turns_are);
          knows = has.knows (contents_of database);
          fits = rollback_may d stamp database turns time has.read has.some;
        }

  -- its verdict on what is seen

  pub checked_refused : (seen : Catalogue) (left : Turns AnyChange) (source : RollingBack) (v : Verdict) → IsRefusal v → ((database : Database) → StandsFor d seen database → Refuses (back_refusal s d database.rows) v)
      → Checked d any_meaning stamp back_way back_ends job back_reports left source seen v
  checked_refused seen left source (verdict.Answer a) own refuses = (own, λ database stands let_in. inl (refused_so s.prints d (task_for (Rollback s.target) s.options s.changelog stamp) database (back_reports source) a (refuses database stands)))
  checked_refused seen left source verdict.Lack own refuses = tt
  checked_refused seen left source (verdict.OneCall call) own refuses = absurd own
  checked_refused seen left source (verdict.Turns hand) own refuses = absurd own

  pub checked_turns : (seen : Catalogue) (turns : Option RowTurns) (v : Verdict) → stamp.reading ≤ 253402300799999 → ComesTo turns v → AreNew s.prints d turns → ((database : Database) → StandsFor d seen database → IsPlanned s d database.rows turns)
      → Checked d any_meaning stamp back_way back_ends job back_reports (turns_left turns) (record s { turns = turns }) seen v
  checked_turns seen None v time opens new goes =
      subst (Checked d any_meaning stamp back_way back_ends job back_reports (turns_left None) (record s { turns = None }) seen) (sym opens) (refl, λ database stands let_in. inr (makes_none database (goes database stands)))
  checked_turns seen (Some source) v time opens new goes =
      subst (Checked d any_meaning stamp back_way back_ends job back_reports (turns_left (Some source)) (record s { turns = Some source }) seen) (sym opens)
      (record { inside = refl; turn = refl; holds = tt }, λ database stands let_in. makes_turns database source time new (goes database stands))
