use Rattle.std.proofs.Common.{Ok, ap, sym, ◌∙◌}
use Rattle.lq_chain.specs.History.{changed}
use Rattle.lq_model.specs.Catalogue.{with_sequence, without_sequence}
use Rattle.lq_model.specs.NameSpaces.{is_taken}
use Rattle.lq_model.specs.Views as spec
use Rattle.lq_model.proofs.Lists.{or_left}
use Rattle.lq_decide.specs.Faults.{no_faults}
use Rattle.lq_decide.proofs.Views.{rename_sequence_judged}
use Rattle.lq_rows.proofs.Continued.{goes_on, goes_one_further}
use Rattle.lq_arm.specs.Verdict.{tests_of, verdict_of}
use Rattle.lq_arm.proofs.Arms as arm
use Rattle.lq_objectops.proofs.Objects.{may_make, sequence_free, sequence_moves}
use Rattle.lq_objectops.proofs.sequence.rename_sequence.Goals as goal

pub returns-in-Err : goal.returns-in-Err
returns-in-Err c =
    let db = c.args.parts.now.now in
    arm.arm_refused (spec.rename_sequence c.args.by c.args.dialect c.args.name.now c.args.to.now db) no_faults c.args.parts.now c.rename_tests-tests.result c.verdict.result c.in-Err.fault
    (rename_sequence_judged c.args.by c.args.dialect c.args.name.now db c.requires c.args.to.now) c.rename_tests-tests.ensures c.verdict.ensures c.in-Err.is

pub again-sequence-requires : goal.again-sequence-requires
again-sequence-requires c =
    let meant = tests_of (spec.rename_sequence c.args.by c.args.dialect c.args.name.now c.args.to.now c.args.parts.now.now) no_faults in
    arm.is_there _ (arm.there meant (sym c.rename_tests-tests.ensures ∙ arm.good (verdict_of c.rename_tests-tests.result) c.verdict.result c.verdict.ensures c.in-Ok.is))

pub take_sequence-requires : goal.take_sequence-requires
take_sequence-requires c =
    let meant = tests_of (spec.rename_sequence c.args.by c.args.dialect c.args.name.now c.args.to.now c.args.parts.now.now) no_faults in
    arm.is_there _ (arm.there meant (sym c.rename_tests-tests.ensures ∙ arm.good (verdict_of c.rename_tests-tests.result) c.verdict.result c.verdict.ensures c.in-Ok.is))

pub put_sequence-requires : goal.put_sequence-requires
put_sequence-requires c =
    let db = c.args.parts.now.now in
    let to = c.args.to.now in
    let meant = tests_of (spec.rename_sequence c.args.by c.args.dialect c.args.name.now to db) no_faults in
    rw (c.in_ok-take_sequence.ensures.ok, c.in_ok-to.ensures)
    (sequence_free c.args.dialect c.args.name.now to db c.requires.ordered_sequences (or_left (is_taken c.args.dialect to db) _ (may_make meant (sym c.rename_tests-tests.ensures ∙ arm.good (verdict_of c.rename_tests-tests.result) c.verdict.result c.verdict.ensures c.in-Ok.is))))

pub returns : goal.returns
returns c =
    let old = c.args.parts.now in
    let n = c.args.name.now in
    let to = c.args.to.now in
    let less = without_sequence old.now n in
    let passed =
    arm.arm_passes (spec.rename_sequence c.args.by c.args.dialect n to old.now) no_faults c.rename_tests-tests.result c.verdict.result
    (rename_sequence_judged c.args.by c.args.dialect n old.now c.requires to) c.rename_tests-tests.ensures c.verdict.ensures c.in-Ok.is in
    rw (c.in_ok-put_sequence.ensures.ok, c.in_ok-take_sequence.ensures.ok, c.in_ok-to.ensures)
    (passed ∙ ap (λ e. Ok (e, 0)) (sequence_moves n to old.now c.again-sequence.result c.again-sequence.ensures), goes_one_further old (changed old less) (with_sequence less to c.again-sequence.result) (goes_on old less))
