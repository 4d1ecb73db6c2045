use Rattle.std.proofs.Common.{ap, reverse, rules, sym, ℕ, ◌++◌}
use Rattle.lq_rows.specs.Stored.{shape_of, table_as}
use Rattle.lq_filled.proofs.RowLemmas.{row_moved, row_next, rows_moved}
use Rattle.lq_filled.proofs.rows.append_rows.Goals as goal

pub loop-row-init : goal.loop-row-init
loop-row-init c =
    let it = c.args.held.now.now in
    record { next = sym c.next-next.ensures; all = ap (λ (n : ℕ). table_as (shape_of it) n (it.rows ++ reverse c.args.rows)) c.next-next.ensures }

pub loop-row-preserved : goal.loop-row-preserved
loop-row-preserved c =
    let next = c.next-next.result in
    record {
      next = row_next c.loop-row.held c.append.new.self c.in-Some.row next c.in_ok-append.ensures.ok;
      all = row_moved c.loop-row.held c.append.new.self c.pop.new.self c.loop-row.left c.in-Some.row next _ c.in-Some.ensures c.in_ok-append.ensures.ok c.loop-row.invariant.all;
    }

pub returns : goal.returns
returns c =
    rows_moved c.loop-row.held.now _ c.loop-row.left c.next-next.result (search rules) c.loop-row.invariant.next c.loop-row.invariant.all
