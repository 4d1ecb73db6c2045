use Rattle.std.proofs.Common.{sym}
use Rattle.lq_loading.proofs.TwinRows.{twins_left}
use Rattle.lq_loading.proofs.twins.has_twin_rows.Goals as goal

pub returns-then-branch : goal.returns-then-branch
returns-then-branch c =
    let twin = rw c.if-branch.true at (c.in_ok-see.ensures c.loop-row.invariant.behind c.loop-row.invariant.are_seen) in
    sym (twins_left c.args.rows.now c.loop-row.left.now c.in-Some.before.now c.in-Some.row.now c.loop-row.seen c.loop-row.invariant c.in-Some.ensures.cases.0 twin)
