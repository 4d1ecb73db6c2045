use Rattle.std.proofs.Common.{rules}
use Rattle.std.proofs.lemmas.Int.{to_z-of_z}
use Rattle.lq_cond.proofs.holds.tells.Goals as goal
use mir.Syntax.{w128}
use mir.Val.{SFits}

pub returns-in-SqlCheck : goal.returns-in-SqlCheck
returns-in-SqlCheck g c = rw (c.in-SqlCheck.is) c.is_answered.ensures

pub returns-in-RowCount : goal.returns-in-RowCount
returns-in-RowCount g c =
    let fits : SFits w128 c.in-RowCount.expected_rows = search rules in
    let found = simp to_z-of_z at c.has_count.ensures in
    rw (c.in-RowCount.is) found
