use Rattle.lq_players.proofs.at_once.AtOnceChecks.needs_lock.Goals as goal

pub returns : goal.returns
returns c = λ d stamp. c.asks_for_lock.ensures
