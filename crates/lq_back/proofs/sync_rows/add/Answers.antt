use Rattle.lq_back.proofs.Synced.{row_made, seen_before}
use Rattle.lq_back.proofs.sync_rows.add.Goals as goal

pub returns-in_ok-push_row : goal.returns-in_ok-push_row
returns-in_ok-push_row c = λ options rows none at.
    row_made options c.args.reading rows c.args.set.now c.args.made.now c.keep.new.seen c.in_ok-is_new.is_new (c.in_ok-is_new.ensures c.args.made.now.rows at.seen) at
    c.push_row.new.made c.if-is_new.true none (c.in_ok-push_row.ensures.rows options) c.in_ok-push_row.ensures.last c.in_ok-push_row.ensures.seen

pub returns-else-is_new : goal.returns-else-is_new
returns-else-is_new c = λ options rows none at.
    seen_before options c.args.reading rows c.args.set.now c.args.made.now c.keep.new.seen c.in_ok-is_new.is_new (c.in_ok-is_new.ensures c.args.made.now.rows at.seen) at c.if-is_new.false
