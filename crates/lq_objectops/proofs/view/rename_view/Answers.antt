use Rattle.std.proofs.Common.{Err, Ok, ap, rules, sym, ◌∙◌, ◌≡◌}
use Rattle.lq_chain.specs.History.{changed}
use Rattle.lq_model.specs.Catalogue.{with_view, without_view}
use Rattle.lq_model.specs.NameSpaces.{is_taken}
use Rattle.lq_model.specs.Tables as spec
use Rattle.lq_model.proofs.Lists.{or_left}
use Rattle.lq_decide.specs.Faults.{no_faults}
use Rattle.lq_decide.proofs.Views.{rename_view_judged}
use Rattle.lq_rows.proofs.Continued.{goes_on, goes_one_further, stays}
use Rattle.lq_rows.specs.declared.fault.RunFault.TheVariants.{OutOfMemory}
use Rattle.lq_arm.specs.Verdict.{tests_of, verdict_of}
use Rattle.lq_arm.proofs.Arms as arm
use Rattle.lq_objectops.proofs.Objects.{may_make, view_free, view_moves}
use Rattle.lq_objectops.proofs.view.rename_view.Goals as goal

pub returns-in-Err : goal.returns-in-Err
returns-in-Err c =
    let db = c.args.parts.now.now in
    arm.arm_refused (spec.rename_view c.args.by c.args.dialect c.args.view.now c.args.to.now db) no_faults c.args.parts.now c.rename_tests-tests.result c.verdict.result c.in-Err.fault
    (rename_view_judged c.args.by c.args.dialect c.args.view.now db c.requires c.args.to.now) c.rename_tests-tests.ensures c.verdict.ensures c.in-Err.is

pub again-requires : goal.again-requires
again-requires c =
    let meant = tests_of (spec.rename_view c.args.by c.args.dialect c.args.view.now c.args.to.now c.args.parts.now.now) no_faults in
    arm.is_there _ (arm.there meant (sym c.rename_tests-tests.ensures ∙ arm.good (verdict_of c.rename_tests-tests.result) c.verdict.result c.verdict.ensures c.in-Ok.is))

pub take_view-requires : goal.take_view-requires
take_view-requires c =
    let meant = tests_of (spec.rename_view c.args.by c.args.dialect c.args.view.now c.args.to.now c.args.parts.now.now) no_faults in
    arm.is_there _ (arm.there meant (sym c.rename_tests-tests.ensures ∙ arm.good (verdict_of c.rename_tests-tests.result) c.verdict.result c.verdict.ensures c.in-Ok.is))

pub put_view-requires : goal.put_view-requires
put_view-requires c =
    let db = c.args.parts.now.now in
    let to = c.args.to.now in
    let meant = tests_of (spec.rename_view c.args.by c.args.dialect c.args.view.now to db) no_faults in
    rw (c.in_ok-take_view.ensures.ok, c.in_ok-to.ensures)
    (view_free c.args.dialect c.args.view.now to db c.requires.ordered_views (or_left (is_taken c.args.dialect to db) _ (may_make meant (sym c.rename_tests-tests.ensures ∙ arm.good (verdict_of c.rename_tests-tests.result) c.verdict.result c.verdict.ensures c.in-Ok.is))))

pub returns : goal.returns
returns c =
    let old = c.args.parts.now in
    let n = c.args.view.now in
    let to = c.args.to.now in
    let less = without_view old.now n in
    let passed =
    arm.arm_passes (spec.rename_view c.args.by c.args.dialect n to old.now) no_faults c.rename_tests-tests.result c.verdict.result
    (rename_view_judged c.args.by c.args.dialect n old.now c.requires to) c.rename_tests-tests.ensures c.verdict.ensures c.in-Ok.is in
    rw (c.in_ok-put_view.ensures.ok, c.in_ok-take_view.ensures.ok, c.in_ok-to.ensures)
    (passed ∙ ap (λ e. Ok (e, 0)) (view_moves n to old.now c.in_ok-copy.copy c.in_ok-copy.ensures), goes_one_further old (changed old less) (with_view less to c.in_ok-copy.copy) (goes_on old less))

pub returns-in_err-take_view : goal.returns-in_err-take_view
returns-in_err-take_view c =
    let gone : c.from_residual-in_err-take_view.result ≡ Err OutOfMemory = search rules in
    rw (gone, c.in_err-take_view.ensures.err) (stays c.args.parts.now)
