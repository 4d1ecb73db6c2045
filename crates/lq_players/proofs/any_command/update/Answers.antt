use Rattle.std.proofs.Common.{subst, ◌∙◌}
use Rattle.lq_players.specs.Updating.{IsUpdateFor}
use Rattle.lq_run.specs.Stands.{IsHeld}
use Rattle.lq_players.proofs.any_command.update.Goals as goal

pub new-requires-clause-reads : goal.new-requires-clause-reads
new-requires-clause-reads c = subst (IsUpdateFor c.new-updating.result) c.requires.options c.new-updating.ensures.reads

pub returns : goal.returns
returns c = record {
  unstarted = record { new = c.new.ensures.new; ready = c.new.ensures.ready; dialect = c.new.ensures.dialect };
  job = c.new.ensures.job ∙ c.new-updating.ensures.job c.args.dialect c.args.stamp;
  owns = λ lock held. subst (λ stamp. IsHeld stamp lock) c.new.ensures.stamp held;
}
