use Rattle.std.proofs.Common.{rules}
use Rattle.std.proofs.lemmas.Int.{to_z-of_z}
use Rattle.lq_cond.proofs.holds.has_count.Goals as goal
use mir.Syntax.{w128}
use mir.Val.{SFits}

pub returns : goal.returns
returns g c =
    let fits : SFits w128 c.args.expected = search rules in
    let found = simp to_z-of_z at c.is_count.ensures in
    rw (← c.count_of.ensures) found
