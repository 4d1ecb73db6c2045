use Rattle.std.proofs.Common.{ap, ◌∙◌}
use Rattle.lq_seen.proofs.turn.mark_turn.Goals as goal
use Rattle.lq_seen.specs.View.{view}
use Rattle.lq_turns.specs.Settle.{row_turn}

pub returns : goal.returns
returns c = λ options rows at. c.in_ok-turn.ensures options ∙ ap (row_turn (view options c.args.set.now)) (c.in_ok-row.ensures options rows at)
