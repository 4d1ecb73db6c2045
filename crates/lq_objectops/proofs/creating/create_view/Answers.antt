use Rattle.std.proofs.Common.{Ok, ap, sym, ◌∙◌}
use Rattle.lq_model.specs.Catalogue.{with_view}
use Rattle.lq_model.proofs.Lists.{or_left}
use Rattle.lq_model.specs.Views as spec
use Rattle.lq_decide.specs.Faults.{no_faults}
use Rattle.lq_decide.proofs.Views.{create_view_judged}
use Rattle.lq_arm.specs.Verdict.{tests_of, verdict_of}
use Rattle.lq_arm.proofs.Arms as arm
use Rattle.lq_objectops.proofs.creating.create_view.Goals as goal

pub returns-in-Err : goal.returns-in-Err
returns-in-Err c =
    let db = c.args.parts.now.now in
    arm.arm_refused (spec.create_view c.args.by c.args.dialect c.args.view.now c.args.query.now c.args.replace db) no_faults c.args.parts.now c.in_ok-tests.tests c.verdict.result c.in-Err.fault
    (create_view_judged c.args.by c.args.dialect c.args.view.now db c.requires c.args.query.now c.args.replace) c.in_ok-tests.ensures c.verdict.ensures c.in-Err.is

pub new_view-requires : goal.new_view-requires
new_view-requires c =
    let meant = tests_of (spec.create_view c.args.by c.args.dialect c.args.view.now c.args.query.now c.args.replace c.args.parts.now.now) no_faults in
    arm.is_there _ (or_left _ _ (arm.there meant (sym c.in_ok-tests.ensures ∙ arm.good (verdict_of c.in_ok-tests.tests) c.verdict.result c.verdict.ensures c.in-Ok.is)))

pub returns : goal.returns
returns c =
    let db = c.args.parts.now.now in
    let passed =
    arm.arm_passes (spec.create_view c.args.by c.args.dialect c.args.view.now c.args.query.now c.args.replace db) no_faults c.in_ok-tests.tests c.verdict.result
    (create_view_judged c.args.by c.args.dialect c.args.view.now db c.requires c.args.query.now c.args.replace) c.in_ok-tests.ensures c.verdict.ensures c.in-Ok.is in
    let v = c.args.view.now in
    let now = c.in_ok-set_view.ensures.now ∙ ap (λ n. with_view db n c.in_ok-made.made) c.in_ok-name.ensures ∙ ap (with_view db v) c.in_ok-made.ensures in
    (passed ∙ ap (λ e. Ok (e, 0)) (sym now), c.in_ok-set_view.ensures.goes)
