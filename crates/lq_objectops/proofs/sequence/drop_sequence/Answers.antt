use Rattle.std.proofs.Common.{sym, ◌∙◌}
use Rattle.lq_model.specs.Views as spec
use Rattle.lq_decide.specs.Faults.{no_faults}
use Rattle.lq_decide.proofs.Views.{drop_sequence_judged}
use Rattle.lq_rows.proofs.Continued.{goes_on}
use Rattle.lq_arm.specs.Verdict.{tests_of, verdict_of}
use Rattle.lq_arm.proofs.Arms as arm
use Rattle.lq_objectops.proofs.sequence.drop_sequence.Goals as goal

pub returns-in-Err : goal.returns-in-Err
returns-in-Err c =
    let db = c.args.parts.now.now in
    arm.arm_refused (spec.drop_sequence c.args.by c.args.dialect c.args.name.now db) no_faults c.args.parts.now c.drop_tests-tests.result c.verdict.result c.in-Err.fault
    (drop_sequence_judged c.args.by c.args.dialect c.args.name.now db c.requires) c.drop_tests-tests.ensures c.verdict.ensures c.in-Err.is

pub take_sequence-requires : goal.take_sequence-requires
take_sequence-requires c =
    let meant = tests_of (spec.drop_sequence c.args.by c.args.dialect c.args.name.now c.args.parts.now.now) no_faults in
    arm.is_there _ (arm.there meant (sym c.drop_tests-tests.ensures ∙ arm.good (verdict_of c.drop_tests-tests.result) c.verdict.result c.verdict.ensures c.in-Ok.is))

pub returns : goal.returns
returns c =
    let db = c.args.parts.now.now in
    rw (c.in_ok-take_sequence.ensures.ok) (
      arm.arm_passes (spec.drop_sequence c.args.by c.args.dialect c.args.name.now db) no_faults c.drop_tests-tests.result c.verdict.result
          (drop_sequence_judged c.args.by c.args.dialect c.args.name.now db c.requires) c.drop_tests-tests.ensures c.verdict.ensures c.in-Ok.is,
      goes_on c.args.parts.now _,
    )
