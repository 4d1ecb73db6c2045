use Rattle.std.proofs.Common.{ap, sym, ◌+◌, ◌∙◌}
use Rattle.lq_seen.proofs.turn_row.recorded_row.Goals as goal
use Rattle.lq_seen.specs.View.{view}
use Rattle.lq_turns.specs.Settle.{recorded, row_for}

pub returns : goal.returns
returns c = λ options rows at. c.recorded.ensures ∙ (ap (recorded c.args.what) (c.in_ok-row.ensures options) ∙ ap (λ n. recorded c.args.what (row_for c.args.reading (n + 1) c.args.exec (view options c.args.set.now))) (sym at))
