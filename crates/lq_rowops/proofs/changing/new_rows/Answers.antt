use Rattle.std.proofs.Common.{Some, ap, is_some, length, map, rules, unwrap_or, ◌≡◌, ◌∙◌}
use Rattle.std.specs.List.{filter, list_any}
use Rattle.lq_model.specs.Catalogue.{no_table, table_of, the_table, has_bad_null}
use Rattle.lq_rowops.proofs.UpdateLemmas.{any_edits, count_edits}
use Rattle.lq_rowops.specs.InsertTests.{edit, is_some_such}
use Rattle.lq_rowops.proofs.changing.new_rows.Goals as goal

pub returns : goal.returns
returns c =
    let db = c.args.parts.now.now in
    let t = c.args.table.now in
    let sets = c.args.sets.now in
    let test = c.args.test.now in
    let it = c.in-Some.held.now.now in
    let here : table_of db t ≡ Some it = search rules in
    let same : the_table db t ≡ it = ap (λ o. unwrap_or o no_table) here in
    let columns : c.columns-columns.result.now ≡ it.columns = search rules in
    let rows : c.in_ok-rows.rows.items ≡ map (edit sets test it.columns) it.rows = search rules in
    let by : c.deref.result.now ≡ map (edit sets test it.columns) it.rows = c.deref.ensures.value ∙ rows in
    let by_too : c.deref-2.result.now ≡ map (edit sets test it.columns) it.rows = c.deref-2.ensures.value ∙ rows in
    rw (same) (record {
      rows = rows;
      count = c.count-count.ensures ∙ ap (λ bs. length (filter is_some bs)) by ∙ count_edits sets test it.columns it.rows;
      nulls = c.has_null-has_null.ensures ∙ ap (λ cs. list_any (is_some_such (has_bad_null cs)) c.deref-2.result.now) columns ∙ ap (list_any (is_some_such (has_bad_null it.columns))) by_too ∙ any_edits sets test it.columns (has_bad_null it.columns) it.rows;
    })
