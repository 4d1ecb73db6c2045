use Rattle.std.proofs.Common.{sym, subst}
use Rattle.lq_links.specs.State.{IsThereIf, node, State, state_of}
use Rattle.lq_links.specs.declared.node.Node.{Node}
use Rattle.lq_chain.proofs.StepLemmas.{there_if_grown}
use Rattle.lq_chain.proofs.moves.replace.Goals as goal

pub join-requires-clause-prev : goal.join-requires-clause-prev
join-requires-clause-prev g c =
    let there = c.requires.there in let is = c.at-node.ensures there.0 there.1 in let now = c.at-node.result.now in
    subst (λ (st : State g.row.T.Denot). IsThereIf st.slots now.prev) (sym c.in_ok-by.ensures.state)
    (there_if_grown (state_of c.args.links.now) c.in_ok-by.by (node now.prev now.next c.args.row) now.prev (subst (λ (n : Node g.row.T.Denot). IsThereIf c.args.links.now.arena.slots n.prev) (sym is) there.2))

pub join-requires-clause-next : goal.join-requires-clause-next
join-requires-clause-next g c =
    let there = c.requires.there in let is = c.at-node.ensures there.0 there.1 in let now = c.at-node.result.now in
    subst (λ (st : State g.row.T.Denot). IsThereIf st.slots now.next) (sym c.in_ok-by.ensures.state)
    (there_if_grown (state_of c.args.links.now) c.in_ok-by.by (node now.prev now.next c.args.row) now.next (subst (λ (n : Node g.row.T.Denot). IsThereIf c.args.links.now.arena.slots n.next) (sym is) there.3))
