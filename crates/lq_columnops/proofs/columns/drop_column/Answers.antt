use Rattle.std.proofs.Common.{ap, refl, ◌||◌}
use Rattle.lq_model.specs.Catalogue.{the_table}
use Rattle.lq_model.specs.Tables as spec
use Rattle.lq_model.specs.Tables.{is_aimed, is_bound, is_shown}
use Rattle.lq_decide.specs.Faults.{no_faults}
use Rattle.lq_decide.proofs.Columns.{drop_column_judged}
use Rattle.lq_arm.specs.declared.tests.Tests.{Tests}
use Rattle.lq_columnops.specs.OnColumn.{on_column}
use Rattle.lq_columnops.proofs.Arms as arm
use Rattle.lq_columnops.proofs.columns.drop_column.Goals as goal

pub drop_unless-requires : goal.drop_unless-requires
drop_unless-requires c = λ none. arm.column_there c.args.by c.args.table.now c.args.column.now c.args.parts.now.now c.column_tests.result (ap (λ (x : Tests). x.missing) c.column_tests.ensures) none

pub returns : goal.returns
returns c =
    let db = c.args.parts.now.now in
    let t = c.args.table.now in
    let n = c.args.column.now in
    arm.answers (spec.drop_column c.args.by c.args.dialect t n db) no_faults _ _ c.args.parts.now c.drop_unless.new.parts c.drop_unless.result
    (drop_column_judged c.args.by c.args.dialect t db c.requires n)
    (arm.with_depends c.column_tests.result (on_column c.args.by t n db) _ (is_shown db t n || (is_bound (the_table db t) n || (is_aimed db t n || spec.is_only (the_table db t).columns))) c.column_tests.ensures
    (rw (c.is_shown.ensures, c.is_bound.ensures, c.is_aimed.ensures, c.is_only.ensures) refl))
    refl refl c.drop_unless.ensures
