use Rattle.std.proofs.Common.{Some, ap, refl, sym, ◌∙◌}
use Rattle.lq_base.specs.Value.{into_kind}
use Rattle.lq_arm.specs.declared.tests.Tests.{Tests}
use Rattle.lq_model.specs.Catalogue.{the_table, with_table}
use Rattle.lq_model.specs.Kinds.{is_wide, is_wrong, value_in}
use Rattle.lq_model.specs.Tables as spec
use Rattle.lq_decide.specs.Faults.{no_faults}
use Rattle.lq_columnops.specs.OnColumn.{on_column}
use Rattle.lq_columnops.proofs.Arms as arm
use Rattle.lq_decide.proofs.Changed.{set_default_judged}
use Rattle.lq_columnops.proofs.changing.set_default.Goals as goal

pub change_unless-requires : goal.change_unless-requires
change_unless-requires c = λ none. arm.column_there c.args.by c.args.table.now c.args.column.now c.args.parts.now.now c.column_tests.result (ap (λ (x : Tests). x.missing) c.column_tests.ensures) none

pub returns : goal.returns
returns c =
    let db = c.args.parts.now.now in
    let t = c.args.table.now in
    let n = c.args.column.now in
    let l = c.args.value.now in
    let stated = c.in_ok-stated.ensures in
    arm.answers (spec.set_default c.args.by c.args.dialect t n l db) no_faults _ _ c.args.parts.now c.change_unless.new.parts c.change_unless.result
    (set_default_judged c.args.by c.args.dialect t n db c.requires l)
    (arm.with_four c.column_tests.result (on_column c.args.by t n db) _ _ _ _ _ _ _ _ c.column_tests.ensures c.is_numbered.ensures
    (stated.wrong ∙ ap (λ k. is_wrong (into_kind l k)) c.the_kind.ensures) (stated.wide ∙ ap (λ k. is_wide (into_kind l k)) c.the_kind.ensures) (ap (λ (x : Tests). x.nulls) c.column_tests.ensures))
    (ap (λ v. with_table db t (spec.with_changed n (spec.with_default (Some v)) (the_table db t))) (sym (stated.value ∙ ap (λ k. value_in (into_kind l k)) c.the_kind.ensures)))
    refl c.change_unless.ensures
