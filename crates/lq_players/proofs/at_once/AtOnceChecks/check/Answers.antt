use Rattle.lq_players.proofs.at_once.AtOnceChecks.check.Goals as goal

pub returns-in-Ok-clause-checked : goal.returns-in-Ok-clause-checked
returns-in-Ok-clause-checked g c = c.in-Ok.ensures c.args._stamp.now
