use Rattle.std.proofs.Common.{ap, sym, ◌∙◌, ◌++◌}
use Rattle.lq_beside.proofs.RowsAnswered.{rows_answered}
use Rattle.lq_model.proofs.Maps.{some_same}
use Rattle.lq_sets.proofs.rows_asked.add_theirs.Goals as goal

pub returns : goal.returns
returns g c = λ d database stands. c.in_ok-append.ensures ∙ ap (λ found. c.args.rows.now ++ found) (some_same (sym c.in-Ok.ensures ∙ rows_answered _ d _ database stands))
