use Rattle.lq_players.proofs.Apart.{names_are_apart}
use Rattle.lq_players.proofs.laws.names_are_apart.Goals as goal

pub returns : goal.returns
returns c = names_are_apart
