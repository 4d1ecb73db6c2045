use Rattle.lq_model.specs.SqlTable.{table_item}
use Rattle.lq_statement.proofs.table.create_table.Given as goal

abbrev pub ghost-enclosed : goal.ghost-enclosed
ghost-enclosed a = table_item a.item.now.0.now a.item.now.1.now
