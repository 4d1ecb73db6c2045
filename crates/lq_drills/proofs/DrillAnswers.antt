-- What the commands of a drill answered, by how it ended.
use Rattle.std.proofs.Common.{ap, subst, sym, ◌∙◌}
use Rattle.std.specs.Prelude.{Err, IfErr, List, Ok, Option, Result, Some, ◌≡◌}
use Rattle.lq_drill.specs.Drill.{Each, HasFailed, HasNotFailed}
use Rattle.lq_drill.specs.declared.fault.DrillFault.{DrillFault}
use Rattle.lq_drill.specs.declared.fault.DrillFault.TheVariants as fault
use Rattle.lq_playing.specs.Answers.{as_failed}
use Rattle.lq_playing.specs.declared.came.Came.{Came}
use Rattle.lq_players.specs.AnyCommand.{command_stands}
use Rattle.lq_players.specs.declared.any_command.AnyCommand.{AnyCommand}
use Rattle.lq_tell.specs.declared.done.Done.{Done}
use Rattle.lq_tell.specs.declared.status.Status.{Status}
use Rattle.lq_tell.specs.declared.status.Status.TheVariants as status
use Rattle.lq_drills.proofs.DrillCrashes.{mapped, placed}
use Rattle.lq_drills.specs.Drilled.{DiskFailed, NoneFailed}
use Rattle.lq_drills.specs.Players.{PlayAnswers, answers_in, drill_status}

module _ (last : List AnyCommand) where
  -- the steps were taken, and perhaps there was no memory for the text
  pub told_answers : (r : Result Done Status) → IfErr r (λ s. s ≡ status.OutOfMemory) → Each command_stands (HasNotFailed as_failed) last → PlayAnswers last r
  told_answers (Ok done) memory none = none
  told_answers (Err s) memory none = subst (λ s. PlayAnswers last (Err s)) (sym memory) tt

  -- a fault of the store ended them
  ended_by : (f : DrillFault) → HasFailed command_stands as_failed last f → PlayAnswers last (Err (drill_status f))
  ended_by fault.Disk failed = failed
  ended_by (fault.Full used next) failed = tt
  ended_by fault.OutOfMemory failed = tt

  pub fault_answers : (f : DrillFault) (s : Status) → s ≡ drill_status f → HasFailed command_stands as_failed last f → PlayAnswers last (Err s)
  fault_answers f s is failed = subst (λ s. PlayAnswers last (Err s)) (sym is) (ended_by f failed)

  -- so they stand in the list of answers

  pub none_failed : Each command_stands (HasNotFailed as_failed) last → NoneFailed (answers_in last)
  none_failed none = λ place why is.
      let it = mapped (λ (p : AnyCommand). (command_stands p).answer) last place (Some (as_failed why)) is in
      none place it.0 it.1 why (sym it.2)

  pub disk_failed : HasFailed command_stands as_failed last fault.Disk → DiskFailed (answers_in last)
  disk_failed failed = (failed.place, placed (λ (p : AnyCommand). (command_stands p).answer) last failed.place failed.player failed.there ∙ ap (λ (o : Option Came). Some o) failed.answer)
