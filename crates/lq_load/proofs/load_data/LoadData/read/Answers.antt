use Rattle.lq_load.proofs.Right.{read_right}
use Rattle.lq_load.proofs.load_data.LoadData.read.Goals as goal

pub returns-clause-right : goal.returns-clause-right
returns-clause-right c = read_right c.args.dialect c.in_ok-keys.keys.table_name _ c.rows_found.result c.in_ok-keys.ensures.named c.rows_found.ensures
