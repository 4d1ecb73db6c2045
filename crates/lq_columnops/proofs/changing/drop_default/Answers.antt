use Rattle.std.proofs.Common.{ap, refl}
use Rattle.lq_arm.specs.Verdict.{verdict_of}
use Rattle.lq_arm.specs.declared.tests.Tests.{Tests}
use Rattle.lq_model.specs.Tables as spec
use Rattle.lq_decide.specs.Faults.{no_faults}
use Rattle.lq_columnops.proofs.Arms as arm
use Rattle.lq_decide.proofs.Changed.{drop_default_judged}
use Rattle.lq_columnops.proofs.changing.drop_default.Goals as goal

pub change_unless-requires : goal.change_unless-requires
change_unless-requires c = λ none. arm.column_there c.args.by c.args.table.now c.args.column.now c.args.parts.now.now c.column_tests-tests.result (ap (λ (x : Tests). x.missing) c.column_tests-tests.ensures) none

pub returns : goal.returns
returns c =
    let db = c.args.parts.now.now in
    arm.answers (spec.drop_default c.args.by c.args.dialect c.args.table.now c.args.column.now db) no_faults _ _ c.args.parts.now c.change_unless.new.parts c.change_unless.result
    (drop_default_judged c.args.by c.args.dialect c.args.table.now c.args.column.now db c.requires)
    (ap verdict_of c.column_tests-tests.ensures)
    refl refl c.change_unless.ensures
