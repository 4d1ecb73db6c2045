use Rattle.lq_tables.specs.CreateTable.{foreign_of}
use Rattle.lq_tables.proofs.Pushed.{pushed}
use Rattle.lq_tables.proofs.create_table.foreign_keys.Goals as goal

pub loop-column-preserved : goal.loop-column-preserved
loop-column-preserved c = pushed (foreign_of c.args.table.now) c.loop-column.made c.push_foreign.new.to c.in-Some.column.now c.loop-column.rest.now c.in-Some.after.now c.args.columns.now c.in-Some.ensures.cases.0 c.loop-column.invariant c.in_ok-push_foreign.ensures
