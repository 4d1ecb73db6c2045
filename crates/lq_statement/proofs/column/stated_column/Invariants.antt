use Rattle.lq_model.specs.SqlTable.{column_clause}
use Rattle.lq_statement.proofs.column.stated_column.Given as goal

abbrev pub ghost-many : goal.ghost-many
ghost-many a = column_clause a.item.now.0.now
