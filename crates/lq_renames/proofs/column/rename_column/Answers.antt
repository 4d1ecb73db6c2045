use Rattle.std.proofs.Common.{Ok, ap, sym, ◌∙◌}
use Rattle.lq_model.specs.Tables as spec
use Rattle.lq_decide.specs.Faults.{no_faults}
use Rattle.lq_decide.proofs.RenamedColumn.{rename_column_judged}
use Rattle.lq_arm.proofs.Arms as arm
use Rattle.lq_renames.proofs.column.rename_column.Goals as goal

pub returns-in-Err : goal.returns-in-Err
returns-in-Err c =
    let db = c.args.parts.now.now in
    arm.arm_refused (spec.rename_column c.args.by c.args.dialect c.args.table.now c.args.column.now c.args.to.now db) no_faults c.args.parts.now c.rename_tests-tests.result c.verdict.result c.in-Err.fault
    (rename_column_judged c.args.by c.args.dialect c.args.table.now c.args.column.now c.args.to.now db c.requires) (c.rename_tests-tests.ensures c.args.dialect) c.verdict.ensures c.in-Err.is

pub returns : goal.returns
returns c =
    let db = c.args.parts.now.now in
    let passed =
    arm.arm_passes (spec.rename_column c.args.by c.args.dialect c.args.table.now c.args.column.now c.args.to.now db) no_faults c.rename_tests-tests.result c.verdict.result
    (rename_column_judged c.args.by c.args.dialect c.args.table.now c.args.column.now c.args.to.now db c.requires) (c.rename_tests-tests.ensures c.args.dialect) c.verdict.ensures c.in-Ok.is in
    (passed ∙ ap (λ x. Ok (x, 0)) (sym c.in_ok-rename_in_all.ensures.ok), c.in_ok-rename_in_all.ensures.goes)
