-- What a drill leaves, in the end and after a crash at any moment, opens again.
use Rattle.std.proofs.Common.{ap, subst, ◌∙◌}
use Rattle.std.specs.Option.{option_map}
use Rattle.std.specs.Prelude.{Bool, List, Option, [], ℕ, ◌++◌}
use Rattle.lq_base.specs.declared.dialect.Dialect.{Dialect}
use Rattle.lq_drill.specs.Faults.{entries_of}
use Rattle.lq_any.specs.declared.any_change.AnyChange.{AnyChange}
use Rattle.lq_playing.specs.Answers.{as_busy, as_failed, as_locked}
use Rattle.lq_playing.specs.declared.came.Came.{Came}
use Rattle.lq_players.specs.AnyCommand.{works}
use Rattle.lq_run.proofs.Replayed.{front_leads}
use Rattle.lq_stand.proofs.StaysClean.{stops_stay_clean}
use Rattle.lq_statement.specs.Laws.{StatementsReadBack}
use Rattle.lq_store.specs.Journal.{Entry}
use Rattle.lq_track.specs.Database.{Database}
use Rattle.lq_turns.proofs.Growing.{fronts_are_left}
use Rattle.lq_turns.specs.Jobs.{Task}
use Rattle.lq_turns.specs.Session.{Session}
use Rattle.lq_drills.proofs.DrillFits.{AreFit, came_by_calls}
use Rattle.lq_jobs.proofs.OpensAgain.{holds_opens, was_clean}
use Rattle.lq_jobs.proofs.Unchanged.{holds_it}
use Rattle.lq_jobs.specs.Bytes.{Opens}
use Rattle.lq_drills.specs.Drilled.{HasFaulted, IsLeftInDrill, OpensInDrill}

module _ (texts : StatementsReadBack) (d : Dialect) (tasks : ℕ → Task AnyChange) (steps : List ℕ) (database : Database) (faulted : List Bool) (before : Option (List ℕ)) (opens : Opens d before database)
    (fit : AreFit Came as_locked as_busy as_failed d (works d tasks) steps) where
  -- the machine's entries are those of calls that fit
  pub left_opens : (file : Option (List ℕ)) (left : IsLeftInDrill d tasks steps database faulted before file) → OpensInDrill d tasks steps database faulted before file left
  left_opens file left =
      let was = was_clean d before database opens in
      let came = came_by_calls Came as_locked as_busy as_failed d (works d tasks) database opens.catalogue opens.stands was (HasFaulted faulted) left.front left.rest left.now
      (subst (AreFit Came as_locked as_busy as_failed d (works d tasks)) left.is fit) left.came in
      let wrote = ap (λ (s : Session). s.entries) came.is ∙ left.brought in
      let leads = front_leads texts d came.calls database came.fit left.written left.more wrote in
      let there = holds_it d before database opens in
      let ran = leads.2 there.entries there.catalogue there.leads there.stands in
      let stops = fronts_are_left d came.calls database [] left.written left.more wrote in
      record {
        found = leads.0;
        led = leads.1;
        opens = holds_opens d file leads.0
            (record {
              entries = there.entries ++ entries_of d left.written;
              told_are = left.entries ∙ ap (option_map (λ (entries : List Entry). entries ++ entries_of d left.written)) there.told_are;
              catalogue = ran.0;
              leads = ran.1;
              stands = ran.2;
            })
            (stops_stay_clean d came.calls database leads.0 left.written ran.0 was came.first stops leads.1 ran.2);
      }
