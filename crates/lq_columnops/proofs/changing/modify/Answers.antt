use Rattle.std.proofs.Common.{ap, false, refl, ◌∙◌, ◌&&◌, ◌||◌}
use Rattle.std.specs.List.{list_any}
use Rattle.std.specs.Prelude.{is_none, not}
use Rattle.lq_base.specs.Value.{is_value_of}
use Rattle.lq_arm.specs.declared.tests.Tests.{Tests}
use Rattle.lq_model.specs.Catalogue.{table_of, the_table, has_null_in, by_name}
use Rattle.lq_model.specs.Tables as spec
use Rattle.lq_model.specs.Tables.{is_in_key}
use Rattle.lq_decide.specs.Faults.{modify_faults}
use Rattle.lq_columnops.specs.OnColumn.{on_column}
use Rattle.lq_columnops.proofs.Arms as arm
use Rattle.lq_decide.proofs.Changed.{modify_judged}
use Rattle.lq_columnops.proofs.changing.modify.Goals as goal

pub change_unless-requires : goal.change_unless-requires
change_unless-requires c = λ none. arm.column_there c.args.by c.args.table.now c.args.column.now c.args.parts.now.now c.column_tests.result (ap (λ (x : Tests). x.missing) c.column_tests.ensures) none

pub returns : goal.returns
returns c =
    let db = c.args.parts.now.now in
    let t = c.args.table.now in
    let n = c.args.column.now in
    let k = c.args.kind in
    let b = c.args.nullable in
    let it = the_table db t in
    let asked = on_column c.args.by t n db in
    let depends = (b && is_in_key it n) || spec.kind_needed db t n k in
    let wrong = list_any (λ r. not (spec.is_variant k (by_name it.columns r n))) it.rows in
    let wide = list_any (λ r. not (is_value_of k (by_name it.columns r n))) it.rows in
    arm.answers (spec.modify c.args.by c.args.dialect t n k b db) (modify_faults t n b db) _ _ c.args.parts.now c.change_unless.new.parts c.change_unless.result
    (modify_judged c.args.by c.args.dialect t n db c.requires k b)
    (arm.with_four c.column_tests.result asked _ depends _ wrong _ wide _ (not b && has_null_in n it) c.column_tests.ensures (rw (c.is_in_key.ensures, c.is_kind_needed.ensures) refl) c.are_wrong.ensures c.are_wide.ensures (rw (c.has_null.ensures) refl)
    ∙ arm.with_nulls (record asked { depends = depends || false; wrong = wrong; wide = wide }) it n (is_none (table_of db t)) (not b) refl)
    refl refl c.change_unless.ensures
