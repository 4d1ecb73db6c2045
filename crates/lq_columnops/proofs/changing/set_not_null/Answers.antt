use Rattle.std.proofs.Common.{ap, refl, true, ◌∙◌}
use Rattle.std.specs.Prelude.{is_none}
use Rattle.lq_arm.specs.Verdict.{verdict_of}
use Rattle.lq_arm.specs.declared.tests.Tests.{Tests}
use Rattle.lq_model.specs.Catalogue.{table_of, the_table}
use Rattle.lq_model.specs.Tables as spec
use Rattle.lq_decide.specs.Faults.{set_not_null_faults}
use Rattle.lq_columnops.specs.OnColumn.{on_column}
use Rattle.lq_columnops.proofs.Arms as arm
use Rattle.lq_decide.proofs.Changed.{set_not_null_judged}
use Rattle.lq_columnops.proofs.changing.set_not_null.Goals as goal

pub change_unless-requires : goal.change_unless-requires
change_unless-requires c = λ none. arm.column_there c.args.by c.args.table.now c.args.column.now c.args.parts.now.now c.column_tests.result (ap (λ (x : Tests). x.missing) c.column_tests.ensures) none

pub returns : goal.returns
returns c =
    let db = c.args.parts.now.now in
    let t = c.args.table.now in
    let n = c.args.column.now in
    let asked = on_column c.args.by t n db in
    arm.answers (spec.set_not_null c.args.by c.args.dialect t n db) (set_not_null_faults t n db) _ _ c.args.parts.now c.change_unless.new.parts c.change_unless.result
    (set_not_null_judged c.args.by c.args.dialect t n db c.requires)
    (ap (λ (x : Tests). verdict_of (record x { nulls = c.has_null.result })) c.column_tests.ensures ∙ ap (λ k. verdict_of (record asked { nulls = k })) c.has_null.ensures
    ∙ arm.with_nulls asked (the_table db t) n (is_none (table_of db t)) true refl)
    refl refl c.change_unless.ensures
