use Rattle.std.proofs.Common.{None, Ok, ap, sym, ◌∙◌}
use Rattle.lq_decide.specs.Faults.{no_faults}
use Rattle.lq_decide.proofs.Tables.{drop_any_index_judged}
use Rattle.lq_arm.proofs.Arms as arm
use Rattle.lq_model.specs.Constraints as spec
use Rattle.lq_keyops.proofs.anywhere.drop_index_anywhere.Goals as goal

pub returns-in-Err : goal.returns-in-Err
returns-in-Err c =
    let db = c.args.parts.now.now in
    arm.arm_refused (spec.drop_index c.args.by c.args.dialect c.args.name.now None db) no_faults c.args.parts.now c.anywhere_tests-tests.result c.verdict.result c.in-Err.fault
    (drop_any_index_judged c.args.by c.args.dialect c.args.name.now db c.requires) c.anywhere_tests-tests.ensures c.verdict.ensures c.in-Err.is

pub drop_everywhere-requires : goal.drop_everywhere-requires
drop_everywhere-requires c = c.requires.ordered

pub returns : goal.returns
returns c =
    let db = c.args.parts.now.now in (
      arm.arm_passes (spec.drop_index c.args.by c.args.dialect c.args.name.now None db) no_faults c.anywhere_tests-tests.result c.verdict.result
          (drop_any_index_judged c.args.by c.args.dialect c.args.name.now db c.requires) c.anywhere_tests-tests.ensures c.verdict.ensures c.in-Ok.is
          ∙ ap (λ e. Ok (e, 0)) (sym c.in_ok-drop_everywhere.ensures.now),
      c.in_ok-drop_everywhere.ensures.goes,
    )
