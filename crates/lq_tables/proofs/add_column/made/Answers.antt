use Rattle.lq_tables.specs.AddColumn.{column_gives}
use Rattle.lq_tables.proofs.Pushed.{pushed}
use Rattle.lq_tables.proofs.add_column.made.Goals as goal

pub loop-column-preserved : goal.loop-column-preserved
loop-column-preserved c = pushed (column_gives c.args.dialect c.args.table.now) c.loop-column.made c.push_statements.new.to c.in-Some.column.now c.loop-column.rest.now c.in-Some.after.now c.args.columns.now c.in-Some.ensures.cases.0 c.loop-column.invariant c.in_ok-push_statements.ensures
