use Rattle.std.proofs.Common.{None, Some, ap, refl, rules, sym, ◌||◌, ◌∙◌, ◌≡◌}
use Rattle.lq_arm.specs.Verdict.{verdict_of}
use Rattle.lq_arm.proofs.Arms.{agree, early}
use Rattle.lq_model.specs.Catalogue.{table_of, repeats, column_missing}
use Rattle.lq_model.specs.Comparison.{compares_wrongly}
use Rattle.lq_model.specs.Views.{lacks_column, listed, is_count}
use Rattle.lq_model.specs.Truth.{names_in}
use Rattle.lq_objectops.proofs.Objects as lemma
use Rattle.lq_objectops.proofs.creating.create_tests.Goals as goal

pub returns-in_default : goal.returns-in_default
returns-in_default c =
    let none : table_of c.args.parts.now.now c.args.query.now.table ≡ None = search rules in
    rw (c.no_tests.ensures) (early _ _ c.are_reserved-reserved.ensures refl (lemma.absent c.args.parts.now.now c.args.query.now.table _ none))

pub returns : goal.returns
returns c =
    let db = c.args.parts.now.now in
    let q = c.args.query.now in
    let it = c.in-Some.held.now.now in
    let here : table_of db q.table ≡ Some it = search rules in
    let is = sym (lemma.the_is db q.table it here) in
    let lacks : c.in_ok-lacks.lacks ≡ column_missing it (listed q.wanted it.columns) = c.in_ok-lacks.ensures ∙ ap (λ cs. lacks_column cs (listed q.wanted cs)) c.columns-columns.ensures in
    let tested : c.lacks_tested.result ≡ column_missing it (names_in q.test) = c.lacks_tested.ensures ∙ ap (λ cs. lacks_column cs (names_in q.test)) c.columns-columns.ensures in
    let twice : c.in_ok-twice.twice ≡ repeats (listed q.wanted it.columns) = c.in_ok-twice.ensures ∙ ap (λ cs. repeats (listed q.wanted cs)) c.columns-columns.ensures in
    let wrong : c.is_wrong.result ≡ (is_count q.wanted || compares_wrongly it.columns q.test) = c.is_wrong.ensures ∙ ap (λ cs. is_count q.wanted || compares_wrongly cs q.test) c.columns-columns.ensures in
    rw (c.no_tests-2.ensures) (ap verdict_of (agree c.are_reserved-reserved.ensures
    (lemma.two lacks tested ∙ sym (lemma.asked db q.table it (λ y. column_missing y (listed q.wanted y.columns) || column_missing y (names_in q.test)) here))
    (lemma.two c.is_taken_view.ensures (twice ∙ ap (λ y. repeats (listed q.wanted y.columns)) is))
    refl
    (wrong ∙ ap (λ y. is_count q.wanted || compares_wrongly y.columns q.test) is)
    refl refl refl refl refl refl))

pub repeats_listed-requires : goal.repeats_listed-requires
repeats_listed-requires c =
    let here : table_of c.args.parts.now.now c.args.query.now.table ≡ Some c.in-Some.held.now.now = search rules in
    rw (c.columns-columns.ensures) ((c.requires.tables _ _ here).differ)
