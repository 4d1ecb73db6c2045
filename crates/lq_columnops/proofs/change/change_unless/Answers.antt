use Rattle.lq_arm.proofs.Arms.{good}
use Rattle.lq_arm.specs.Verdict.{verdict_of}
use Rattle.lq_model.specs.Catalogue.{the_table, with_table}
use Rattle.lq_model.specs.Tables.{with_changed}
use Rattle.lq_columnops.specs.OnColumn.{applied}
use Rattle.lq_columnops.proofs.Arms as arm
use Rattle.lq_columnops.proofs.change.change_unless.Goals as goal

pub returns-in-Err : goal.returns-in-Err
returns-in-Err c =
    let db = c.args.parts.now.now in
    arm.refuses c.args.tests.now (with_table db c.args.table.now (with_changed c.args.column.now (applied c.args.change.now) (the_table db c.args.table.now))) c.args.parts.now c.verdict.result c.in-Err.fault c.verdict.ensures c.in-Err.is

pub change_column-requires : goal.change_column-requires
change_column-requires c = arm.found c.args.parts.now.now c.args.table.now c.args.tests.now c.requires (good (verdict_of c.args.tests.now) c.verdict.result c.verdict.ensures c.in-Ok.is)

pub returns : goal.returns
returns c =
    let db = c.args.parts.now.now in
    rw (c.in_ok-change_column.ensures.ok) (arm.does c.args.tests.now (with_table db c.args.table.now (with_changed c.args.column.now (applied c.args.change.now) (the_table db c.args.table.now))) c.args.parts.now c.verdict.result c.verdict.ensures c.in-Ok.is)
