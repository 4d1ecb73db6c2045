use Rattle.std.proofs.Common.{subst, ◌∙◌}
use Rattle.lq_players.proofs.Refused.{at_once_prints}
use Rattle.lq_run.specs.Stands.{IsHeld}
use Rattle.lq_players.proofs.any_command.at_once.Goals as goal

pub returns : goal.returns
returns c = λ prints. record {
  unstarted = record { new = c.new.ensures.new; ready = c.new.ensures.ready; dialect = c.new.ensures.dialect };
  job = c.new.ensures.job ∙ at_once_prints prints c.args.dialect c.args.command c.args.options c.args.changelog c.args.stamp;
  owns = λ lock held. subst (λ stamp. IsHeld stamp lock) c.new.ensures.stamp held;
}
