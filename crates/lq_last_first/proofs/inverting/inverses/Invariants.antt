use Rattle.std.proofs.Common.{length, true, ◌++◌, ◌≡◌}
use Rattle.std.specs.List.{list_all}
use Rattle.lq_last_first.proofs.Inverted.{has, own}
use Rattle.lq_last_first.proofs.inverting.inverses.Given as goal
use Rattle.lq_last_first.specs.LastFirst.{last_first}

abbrev pub invariant-loop-thing : goal.invariant-loop-thing
invariant-loop-thing g l =
    (l.steps ++ last_first (own (g.B.Inverts.inverse l.by)) l.rest ≡ last_first (own (g.B.Inverts.inverse l.by)) l.things)
    × (list_all (has (g.B.Inverts.inverse l.by)) l.rest ≡ list_all (has (g.B.Inverts.inverse l.by)) l.things)
    × (list_all (g.B.Inverts.knows l.by) l.rest ≡ true)

abbrev pub decreases-loop-thing : goal.decreases-loop-thing
decreases-loop-thing g l = length l.rest
