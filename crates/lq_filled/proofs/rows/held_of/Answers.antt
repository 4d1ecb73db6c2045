use Rattle.std.proofs.Common.{◌∙◌}
use Rattle.lq_filled.proofs.RowLemmas.{table_again}
use Rattle.lq_filled.proofs.rows.held_of.Goals as goal

pub returns : goal.returns
returns c =
    c.in_ok-held.ensures ∙ table_again c.args.table c.into_parts-parts.result c.in_ok-last_first.last_first c.into_parts-parts.ensures c.in_ok-last_first.ensures
