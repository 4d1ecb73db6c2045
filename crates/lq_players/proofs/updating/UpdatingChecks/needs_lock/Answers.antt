use Rattle.lq_players.proofs.UpdateMakes.{needs_it}
use Rattle.lq_players.proofs.updating.UpdatingChecks.needs_lock.Goals as goal

pub returns : goal.returns
returns c = λ d stamp. needs_it d stamp c.args.self.now.asked
