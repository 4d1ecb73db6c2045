use Rattle.std.proofs.Common.{ap, is_none, refl, rules, subst, ◌||◌, ◌≡◌, ◌∙◌}
use Rattle.std.specs.List.{list_any}
use Rattle.lq_model.specs.Kinds.{is_wrong}
use Rattle.lq_model.specs.Rows.{set_value_of}
use Rattle.lq_arm.proofs.Arms.{agree}
use Rattle.lq_model.specs.Catalogue.{table_of, the_table, column_missing}
use Rattle.lq_model.specs.Comparison.{compares_wrongly}
use Rattle.lq_decide.specs.Faults.{names_set}
use Rattle.lq_model.specs.Truth.{names_in}
use Rattle.lq_rowops.specs.InsertTests.{AreSet}
use Rattle.lq_rowops.proofs.updating.stated_by.Goals as goal

pub returns : goal.returns
returns c =
    let db = c.args.parts.now.now in
    let t = c.args.table.now in
    let it = the_table db t in
    let columns : c.columns_of-columns.result.now ≡ it.columns = c.columns_of-columns.ensures in
    let set = subst (λ cs. AreSet cs c.args.sets.now c.in_ok-set.set) columns c.in_ok-set.ensures in
    let none : c.is_none.result ≡ is_none (table_of db t) = search rules in
    let lacks : c.lacks_set.result ≡ column_missing it (names_set c.args.sets.now) = rw (← columns) c.lacks_set.ensures in
    let tested : c.lacks_tested.result ≡ column_missing it (names_in c.args.test.now) = rw (← columns) c.lacks_tested.ensures in
    let compares : c.compares_wrongly.result ≡ compares_wrongly it.columns c.args.test.now = rw (← columns) c.compares_wrongly.ensures in
    record {
      tests = agree c.is_reserved.ensures (ap (λ b. b || (c.lacks_set.result || c.lacks_tested.result)) none ∙ ap (λ b. is_none (table_of db t) || (b || c.lacks_tested.result)) lacks ∙ ap (λ b. is_none (table_of db t) || (column_missing it (names_set c.args.sets.now) || b)) tested)
          c.repeats_set.ensures refl (ap (λ b. b || c.compares_wrongly.result) set.wrong ∙ ap (λ b. list_any (λ s. is_wrong (set_value_of it.columns s)) c.args.sets.now || b) compares) set.wide refl refl refl refl refl;
      values = set.values;
    }
