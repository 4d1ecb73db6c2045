use Rattle.lq_back.proofs.Synced.{missing}
use Rattle.lq_back.proofs.sync_rows.is_missing.Goals as goal

pub returns : goal.returns
returns c = λ rows has. missing c.args.of.now rows c.row_at.result c.is_none.result c.is_none.ensures (c.row_at.ensures rows has)
