use Rattle.std.proofs.Common.{ap, reverse, ◌++◌, ◌∙◌}
use Rattle.lq_chain.specs.History.{undone_to}
use Rattle.lq_rows.specs.Stored.{Stored, rows_of, shape_of, table_as, with_rows}
use Rattle.lq_filled.proofs.rows.filled.Goals as goal

pub returns : goal.returns
returns c =
    let rows = reverse c.args.rows in
    ap (λ (s : Stored). s.now) c.forget.ensures
    ∙ c.in_ok-append_rows.ensures
    ∙ ap (λ (s : Stored). table_as (shape_of s.now) s.now.next (s.now.rows ++ rows)) c.go_back.ensures
    ∙ ap (λ (s : Stored). table_as (shape_of s.now) c.args.next ((undone_to (rows_of s) 0).now ++ rows)) c.in_ok-held.ensures
