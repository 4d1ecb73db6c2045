use Rattle.std.proofs.Common.{List, ap, ◌-◌, ◌∙◌, ◌≡◌}
use Rattle.lq_base.specs.declared.value.Value.{Value}
use Rattle.lq_chain.specs.History.{History, marked, undone_to}
use Rattle.lq_chain.proofs.HistoryLemmas.{ago_is_back}
use Rattle.lq_rows.specs.Stored.{rows_of, stored, table_as, with_rows}
use Rattle.lq_rows.proofs.held.Held.go_back.Goals as goal

pub returns : goal.returns
returns c =
    let mark = c.args.mark in
    let next = c.args.next in
    let b = c.deref_mut-body.result.now in
    let new = c.go_back.new.self in
    let rows : new.rows ≡ undone_to b.numbered.rows mark = c.go_back.ensures.rows ∙ ago_is_back (marked b.numbered.rows - mark) b.numbered.rows in
    ap (λ (r : History (List (List Value))). stored (table_as b.shape new.next r.now) r.past) rows
    ∙ ap (λ n. stored (table_as b.shape n (undone_to b.numbered.rows mark).now) (undone_to b.numbered.rows mark).past) c.go_back.ensures.next
    ∙ ap (λ x. stored (table_as x.shape next (undone_to x.numbered.rows mark).now) (undone_to x.numbered.rows mark).past) c.deref_mut-body.ensures.value
    ∙ ap (λ it. with_rows (undone_to (rows_of it) mark) next it) c.self.view_is
