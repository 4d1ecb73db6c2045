use Rattle.std.proofs.Common.{None, Some, sym, subst}
use Rattle.lq_links.specs.State.{node, first_or, Linked, Apart, State}
use Rattle.lq_chain.proofs.ChainLemmas.{linked_freed}
use Rattle.lq_chain.proofs.IterLemmas.{stepped}
use Rattle.lq_chain.proofs.edits.free_list.Goals as goal

pub next-cur-requires : goal.next-cur-requires
next-cur-requires g c =
    let i = c.loop.invariant in let step = stepped c.loop.links.arena.slots i.0 c.loop.cur c.loop.counter c.in-Some.spot i.1 i.2 i.3 c.in-Some.is in
    (node i.0 (first_or step.rest None) step.row, step.has)

pub free-requires-clause-there : goal.free-requires-clause-there
free-requires-clause-there g c =
    let i = c.loop.invariant in let step = stepped c.loop.links.arena.slots i.0 c.loop.cur c.loop.counter c.in-Some.spot i.1 i.2 i.3 c.in-Some.is in
    (node i.0 (first_or step.rest None) step.row, step.has)

pub loop-preserved : goal.loop-preserved
loop-preserved g c =
    let i = c.loop.invariant in let slots = c.loop.links.arena.slots in let s = c.in-Some.spot in let step = stepped slots i.0 c.loop.cur c.loop.counter s i.1 i.2 i.3 c.in-Some.is in
    let apart = subst Apart step.is i.4 in
    let linked = subst (λ (t : State g.row.T.Denot). Linked t.slots (Some s) step.rest None) (sym c.free.ensures.state) (linked_freed slots s step.rest (Some s) None apart.0 step.linked) in
    (Some s, step.rest, linked, c.next-cur.ensures (node i.0 (first_or step.rest None) step.row) step.has, apart.1, c.free.ensures.ties)
