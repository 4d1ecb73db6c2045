use Rattle.std.proofs.Common.{None, Some, ap, is_some, rules, sym, true≢false, unwrap_or, ◌∙◌, ◌≡◌}
use Rattle.lq_engine.proofs.Sources.{shown_is}
use Rattle.lq_engine.proofs.source.source_at.Goals as goal
use Rattle.lq_model.specs.Catalogue.{no_table, table_of, the_table, view_of}

pub unreachable-requires : goal.unreachable-requires
unreachable-requires c =
    let db = c.args.parts.now.now in
    let v = c.in_ok-view.view.now in
    let some : view_of db c.args.name.now ≡ Some v = search rules in
    let none : table_of db c.query-query.result.now.table ≡ None = search rules in
    absurd (true≢false (sym (c.requires c.args.name.now v some) ∙ ap is_some (sym (ap (λ q. table_of db q.table) c.query-query.ensures) ∙ none)))

pub returns : goal.returns
returns c =
    let db = c.args.parts.now.now in
    let v = c.in_ok-view.view.now in
    let it = c.in-Some-table.held.now.now in
    let none : table_of db c.args.name.now ≡ None = search rules in
    let some : view_of db c.args.name.now ≡ Some v = search rules in
    let here : table_of db c.query-query.result.now.table ≡ Some it = search rules in
    let there : the_table db v.query.table ≡ it = ap (λ o. unwrap_or o no_table) (sym (ap (λ q. table_of db q.table) c.query-query.ensures) ∙ here) in
    rw (none, some) (shown_is db v it c.columns-2.result.now c.iter-2.result c.columns-3.result.now c.query-query.result.now.test there (search rules) (search rules) (search rules) (ap (λ q. q.test) c.query-query.ensures))
