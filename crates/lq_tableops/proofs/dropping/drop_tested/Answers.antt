use Rattle.lq_model.specs.Tables as spec
use Rattle.lq_decide.specs.Faults.{no_faults}
use Rattle.lq_decide.proofs.Tables.{drop_table_judged}
use Rattle.lq_rows.proofs.Continued.{goes_on}
use Rattle.lq_arm.proofs.Arms as arm
use Rattle.lq_tableops.proofs.Arms.{found}
use Rattle.lq_tableops.proofs.dropping.drop_tested.Goals as goal

pub returns-in-Err : goal.returns-in-Err
returns-in-Err c =
    let db = c.args.parts.now.now in
    arm.arm_refused (spec.drop_table c.args.by c.args.dialect c.args.table.now db) no_faults c.args.parts.now c.drop_tests-tests.result c.verdict.result c.in-Err.fault
    (drop_table_judged c.args.by c.args.dialect c.args.table.now db c.requires) (c.drop_tests-tests.ensures c.args.dialect) c.verdict.ensures c.in-Err.is

pub take_table-requires : goal.take_table-requires
take_table-requires c =
    let db = c.args.parts.now.now in
    arm.is_there _ (found (spec.drop_table c.args.by c.args.dialect c.args.table.now db) no_faults c.drop_tests-tests.result c.verdict.result (c.drop_tests-tests.ensures c.args.dialect) c.verdict.ensures c.in-Ok.is)

pub returns : goal.returns
returns c =
    let db = c.args.parts.now.now in
    rw (c.in_ok-take_table.ensures.ok) (
      arm.arm_passes (spec.drop_table c.args.by c.args.dialect c.args.table.now db) no_faults c.drop_tests-tests.result c.verdict.result
          (drop_table_judged c.args.by c.args.dialect c.args.table.now db c.requires) (c.drop_tests-tests.ensures c.args.dialect) c.verdict.ensures c.in-Ok.is,
      goes_on c.args.parts.now _,
    )

pub drop_tests-tests-requires : goal.drop_tests-tests-requires
drop_tests-tests-requires c = c.requires.aimed
