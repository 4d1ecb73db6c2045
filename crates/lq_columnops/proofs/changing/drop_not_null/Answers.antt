use Rattle.std.proofs.Common.{ap, refl}
use Rattle.lq_arm.specs.declared.tests.Tests.{Tests}
use Rattle.lq_model.specs.Tables as spec
use Rattle.lq_decide.specs.Faults.{no_faults}
use Rattle.lq_columnops.specs.OnColumn.{on_column}
use Rattle.lq_columnops.proofs.Arms as arm
use Rattle.lq_decide.proofs.Changed.{drop_not_null_judged}
use Rattle.lq_columnops.proofs.changing.drop_not_null.Goals as goal

pub change_unless-requires : goal.change_unless-requires
change_unless-requires c = λ none. arm.column_there c.args.by c.args.table.now c.args.column.now c.args.parts.now.now c.column_tests.result (ap (λ (x : Tests). x.missing) c.column_tests.ensures) none

pub returns : goal.returns
returns c =
    let db = c.args.parts.now.now in
    arm.answers (spec.drop_not_null c.args.by c.args.dialect c.args.table.now c.args.column.now db) no_faults _ _ c.args.parts.now c.change_unless.new.parts c.change_unless.result
    (drop_not_null_judged c.args.by c.args.dialect c.args.table.now c.args.column.now db c.requires)
    (arm.with_depends c.column_tests.result (on_column c.args.by c.args.table.now c.args.column.now db) c.is_in_key.result _ c.column_tests.ensures c.is_in_key.ensures)
    refl refl c.change_unless.ensures
