use Rattle.std.proofs.Common.{None, sym, subst}
use Rattle.lq_links.specs.State.{IsThereIf, node, State, state_of}
use Rattle.lq_chain.proofs.StepLemmas.{there_if_grown}
use Rattle.lq_chain.proofs.moves.push_back.Goals as goal

pub join-requires-clause-prev : goal.join-requires-clause-prev
join-requires-clause-prev g c =
    let tail = c.args.links.now.tail in
    subst (λ (st : State g.row.T.Denot). IsThereIf st.slots tail) (sym c.in_ok-spot.ensures.state) (there_if_grown (state_of c.args.links.now) c.in_ok-spot.spot (node tail None c.args.row) tail c.requires.tail)
