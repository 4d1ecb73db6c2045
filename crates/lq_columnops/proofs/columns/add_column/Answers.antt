use Rattle.std.proofs.Common.{ap, not, refl, sym, ◌&&◌}
use Rattle.lq_model.specs.Catalogue.{the_table, with_table, is_empty, is_null}
use Rattle.lq_model.specs.Tables as spec
use Rattle.lq_model.specs.Kinds.{column_of, default_value}
use Rattle.lq_model.specs.declared.column.Column.{Column}
use Rattle.lq_decide.specs.Faults.{add_column_faults}
use Rattle.lq_decide.proofs.Columns.{add_column_judged}
use Rattle.lq_arm.specs.declared.tests.Tests.{Tests}
use Rattle.lq_columnops.specs.OnColumn.{on_table}
use Rattle.lq_columnops.proofs.Arms as arm
use Rattle.lq_columnops.proofs.columns.add_column.Goals as goal

pub add_unless-requires : goal.add_unless-requires
add_unless-requires c = λ none. arm.table_there c.args.by c.args.table.now c.args.parts.now.now c.table_tests.result (ap (λ (x : Tests). x.missing) c.table_tests.ensures) none

pub returns : goal.returns
returns c =
    let db = c.args.parts.now.now in
    let t = c.args.table.now in
    let def = c.args.def.now in
    let it = the_table db t in
    let new = c.in_ok-new.ensures in
    let lacks = λ (x : Column). not x.nullable && is_null (default_value x) in
    arm.answers (spec.add_column c.args.by c.args.dialect t def db) (add_column_faults t def db) _ _ c.args.parts.now c.add_unless.new.parts c.add_unless.result
    (add_column_judged c.args.by c.args.dialect t db c.requires def)
    (arm.with_five c.table_tests.result (on_table c.args.by t db) _ _ _ def.numbered _ _ _ _ _ (lacks (column_of def) && not (is_empty it.rows)) c.table_tests.ensures c.has.ensures refl new.wrong new.wide
    (rw (c.lacks_default.ensures, c.has_row.ensures) (ap (λ x. lacks x && not (is_empty it.rows)) new.column)))
    (ap (λ x. with_table db t (spec.with_column x it)) (sym new.column))
    refl c.add_unless.ensures
