use Rattle.std.proofs.Common.{refl, ◌++◌, ◌∙◌}
use Rattle.lq_model.proofs.WentOn.{after, on_err, over, stays}
use Rattle.lq_model.specs.Changes.{canonical_values}
use Rattle.lq_load.specs.LoadData.{lists}
use Rattle.lq_load.proofs.RowsWritten.{all_written, one_written}
use Rattle.lq_load.proofs.written.write_rows.Goals as goal

pub loop-row-init : goal.loop-row-init
loop-row-init c = (refl, refl, stays _ _ refl)

pub loop-row-preserved : goal.loop-row-preserved
loop-row-preserved c =
    let inv = c.loop-row.invariant in
    let new = c.in_ok-write_row.ensures in (
      one_written (c.args.to.now.written ++ canonical_values (lists c.args.rows.now)) c.loop-row.to.written c.args.rows.now c.loop-row.row-index c.write_row.new.to.written c.as_slice.result.now c.row-item.result
          c.loop-row-test.true (c.as_slice.ensures ∙ c.row-item.is) new.written inv.0,
      new.begun ∙ inv.1,
      after c.args.to.now c.loop-row.to c.write_row.new.to inv.2.more inv.2.opened inv.2.written inv.2.begun (over c.loop-row.to c.write_row.new.to c.write_row.new.to _ new.written new.begun (stays _ _ refl)),
    )

pub returns-in_err-write_row-clause-front : goal.returns-in_err-write_row-clause-front
returns-in_err-write_row-clause-front c =
    let on = c.loop-row.invariant.2 in
    on_err _ _ (after c.args.to.now c.loop-row.to c.write_row.new.to on.more on.opened on.written on.begun c.in_err-write_row.ensures.front)

pub returns-clause-written : goal.returns-clause-written
returns-clause-written c = all_written (c.args.to.now.written ++ canonical_values (lists c.args.rows.now)) c.loop-row.to.written c.args.rows.now c.loop-row.row-index c.loop-row-test.false c.loop-row.invariant.0
