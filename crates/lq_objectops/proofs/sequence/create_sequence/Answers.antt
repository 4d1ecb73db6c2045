use Rattle.std.proofs.Common.{sym, ◌∙◌}
use Rattle.std.proofs.lemmas.Int.{to_z-of_z}
use mir.Syntax.{w128}
use mir.Val.{SFits}
use Rattle.lq_model.specs.NameSpaces.{is_taken}
use Rattle.lq_model.specs.Views as spec
use Rattle.lq_model.proofs.Lists.{or_left}
use Rattle.lq_model.proofs.Sequences.{free_sequence}
use Rattle.lq_decide.specs.Faults.{no_faults}
use Rattle.lq_decide.proofs.Views.{create_sequence_judged}
use Rattle.lq_rows.proofs.Continued.{goes_on}
use Rattle.lq_arm.specs.Verdict.{tests_of, verdict_of}
use Rattle.lq_arm.proofs.Arms as arm
use Rattle.lq_objectops.proofs.Objects.{may_make}
use Rattle.lq_objectops.proofs.sequence.create_sequence.Goals as goal

pub returns-in-Err : goal.returns-in-Err
returns-in-Err c =
    let db = c.args.parts.now.now in
    arm.arm_refused (spec.create_sequence c.args.by c.args.dialect c.args.name.now c.args.start c.args.step db) no_faults c.args.parts.now c.create_tests-tests.result c.verdict.result c.in-Err.fault
    (create_sequence_judged c.args.by c.args.dialect c.args.name.now db c.requires c.args.start c.args.step) (c.create_tests-tests.ensures c.args.start c.args.step) c.verdict.ensures c.in-Err.is

pub put_sequence-requires : goal.put_sequence-requires
put_sequence-requires c =
    let db = c.args.parts.now.now in
    let n = c.args.name.now in
    let meant = tests_of (spec.create_sequence c.args.by c.args.dialect n c.args.start c.args.step db) no_faults in
    rw (c.in_ok-name.ensures) (free_sequence c.args.dialect n db (or_left (is_taken c.args.dialect n db) _ (may_make meant (sym (c.create_tests-tests.ensures c.args.start c.args.step) ∙ arm.good (verdict_of c.create_tests-tests.result) c.verdict.result c.verdict.ensures c.in-Ok.is))))

pub returns : goal.returns
returns c =
    let db = c.args.parts.now.now in
    let first : SFits w128 c.args.start = c.ranges.start in
    let each : SFits w128 c.args.step = c.ranges.step in
    rw (c.in_ok-put_sequence.ensures.ok, c.in_ok-name.ensures, c.new.ensures) (simp to_z-of_z (
      arm.arm_passes (spec.create_sequence c.args.by c.args.dialect c.args.name.now c.args.start c.args.step db) no_faults c.create_tests-tests.result c.verdict.result
          (create_sequence_judged c.args.by c.args.dialect c.args.name.now db c.requires c.args.start c.args.step) (c.create_tests-tests.ensures c.args.start c.args.step) c.verdict.ensures c.in-Ok.is,
      goes_on c.args.parts.now _,
    ))
