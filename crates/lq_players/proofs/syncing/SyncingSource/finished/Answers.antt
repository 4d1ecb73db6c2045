use Rattle.lq_players.proofs.syncing.SyncingSource.finished.Goals as goal

pub returns-clause-knows : goal.returns-clause-knows
returns-clause-knows c = λ d stamp told z knows. knows
