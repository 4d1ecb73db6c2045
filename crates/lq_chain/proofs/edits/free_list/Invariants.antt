use Rattle.std.proofs.Common.{◌≡◌, List, Option, None}
use Rattle.lq_links.specs.declared.node.Spot.{Spot}
use Rattle.lq_links.specs.State.{Linked, first_or, Apart, state_of, Ties}
use Rattle.lq_chain.proofs.edits.free_list.Given as goal

abbrev pub invariant-loop : goal.invariant-loop
invariant-loop g l =
    (p : Option Spot) × (rest : List (Spot × g.row.T.Denot))
    × Linked (state_of l.links).slots p rest None
    × (l.cur ≡ first_or rest None)
    × Apart rest
    × Ties l.links
