use Rattle.std.proofs.Common.{ap, is_none, refl, rules, ◌||◌, ◌≡◌, ◌∙◌}
use Rattle.lq_arm.proofs.Arms.{agree}
use Rattle.lq_model.specs.Catalogue.{table_of, the_table, column_missing}
use Rattle.lq_model.specs.Comparison.{compares_wrongly}
use Rattle.lq_model.specs.Truth.{names_in}
use Rattle.lq_deletes.proofs.deleting.stated.Goals as goal

pub returns : goal.returns
returns c =
    let db = c.args.parts.now.now in
    let t = c.args.table.now in
    let it = the_table db t in
    let columns : c.columns_of-columns.result.now ≡ it.columns = c.columns_of-columns.ensures in
    let none : c.is_none.result ≡ is_none (table_of db t) = search rules in
    let tested : c.lacks_tested.result ≡ column_missing it (names_in c.args.test.now) = rw (← columns) c.lacks_tested.ensures in
    let compares : c.compares_wrongly.result ≡ compares_wrongly it.columns c.args.test.now = rw (← columns) c.compares_wrongly.ensures in
    agree c.is_reserved.ensures (ap (λ b. b || c.lacks_tested.result) none ∙ ap (λ b. is_none (table_of db t) || b) tested) refl refl compares refl refl refl refl refl refl
