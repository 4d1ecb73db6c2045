use Rattle.std.proofs.Common.{sym, ◌∙◌}
use Rattle.lq_players.proofs.syncing.SyncingSource.refused.Goals as goal

pub returns-clause-gives_up : goal.returns-clause-gives_up
returns-clause-gives_up c = λ d stamp told. record { goes_on = λ refusal z h. absurd h; stops = λ refusal z h. (h.0, c.new.ensures ∙ sym h.1) }
