use Rattle.std.proofs.Common.{Ok, ap, sym, ◌∙◌}
use Rattle.lq_model.specs.Tables as spec
use Rattle.lq_model.specs.NameSpaces.{is_taken}
use Rattle.lq_model.proofs.Absent.{free_of}
use Rattle.lq_model.proofs.Lists.{or_left}
use Rattle.lq_decide.specs.Faults.{no_faults}
use Rattle.lq_decide.proofs.RenamedTable.{rename_table_judged}
use Rattle.lq_arm.specs.Verdict.{tests_of, verdict_of}
use Rattle.lq_arm.proofs.Arms as arm
use Rattle.lq_renames.proofs.Renamed.{may_make, view_free}
use Rattle.lq_renames.proofs.table.rename_table.Goals as goal

pub returns-in-Err : goal.returns-in-Err
returns-in-Err c =
    let db = c.args.parts.now.now in
    arm.arm_refused (spec.rename_table c.args.by c.args.dialect c.args.table.now c.args.to.now db) no_faults c.args.parts.now c.rename_tests-tests.result c.verdict.result c.in-Err.fault
    (rename_table_judged c.args.by c.args.dialect c.args.table.now c.args.to.now db c.requires) c.rename_tests-tests.ensures c.verdict.ensures c.in-Err.is

pub rename_there-requires-clause-there : goal.rename_there-requires-clause-there
rename_there-requires-clause-there c =
    let meant = tests_of (spec.rename_table c.args.by c.args.dialect c.args.table.now c.args.to.now c.args.parts.now.now) no_faults in
    arm.there meant (sym c.rename_tests-tests.ensures ∙ arm.good (verdict_of c.rename_tests-tests.result) c.verdict.result c.verdict.ensures c.in-Ok.is)

pub rename_there-requires-clause-absent : goal.rename_there-requires-clause-absent
rename_there-requires-clause-absent c =
    let db = c.args.parts.now.now in
    let meant = tests_of (spec.rename_table c.args.by c.args.dialect c.args.table.now c.args.to.now db) no_faults in
    free_of c.args.dialect c.args.to.now db (or_left (is_taken c.args.dialect c.args.to.now db) _ (may_make meant (sym c.rename_tests-tests.ensures ∙ arm.good (verdict_of c.rename_tests-tests.result) c.verdict.result c.verdict.ensures c.in-Ok.is)))

pub rename_there-requires-clause-free : goal.rename_there-requires-clause-free
rename_there-requires-clause-free c =
    let db = c.args.parts.now.now in
    let meant = tests_of (spec.rename_table c.args.by c.args.dialect c.args.table.now c.args.to.now db) no_faults in
    view_free c.args.dialect c.args.table.now c.args.to.now db c.requires.ordered_views (or_left (is_taken c.args.dialect c.args.to.now db) _ (may_make meant (sym c.rename_tests-tests.ensures ∙ arm.good (verdict_of c.rename_tests-tests.result) c.verdict.result c.verdict.ensures c.in-Ok.is)))

pub returns : goal.returns
returns c =
    let db = c.args.parts.now.now in
    let passed =
    arm.arm_passes (spec.rename_table c.args.by c.args.dialect c.args.table.now c.args.to.now db) no_faults c.rename_tests-tests.result c.verdict.result
    (rename_table_judged c.args.by c.args.dialect c.args.table.now c.args.to.now db c.requires) c.rename_tests-tests.ensures c.verdict.ensures c.in-Ok.is in
    (passed ∙ ap (λ x. Ok (x, 0)) (sym c.in_ok-rename_there.ensures.ok), c.in_ok-rename_there.ensures.goes)
