use Rattle.std.proofs.Common.{subst, sym}
use Rattle.lq_players.specs.AnyCommand.{IsUnstarted}
use Rattle.tests_players.proofs.players.player.Goals as goal

pub returns : goal.returns
returns g c = subst (λ d. IsUnstarted d c.new.result) (sym c.requires) c.new.ensures.unstarted
