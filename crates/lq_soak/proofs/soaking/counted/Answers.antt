use Rattle.lq_soak.proofs.SoakTables.{rows_counted}
use Rattle.lq_soak.proofs.soaking.counted.Goals as goal

pub returns-clause-rows : goal.returns-clause-rows
returns-clause-rows g c = rows_counted _ c.in-Ok.rows c.len.result c.len.ensures c.in-Ok.ensures
