use Rattle.std.proofs.Common.{sym, subst}
use Rattle.lq_links.specs.State.{IsThereIf, State, state_of}
use Rattle.lq_links.proofs.GapLemmas.{there_if_on}
use Rattle.lq_links.proofs.node.Links.join.Goals as goal

pub lead_back-requires-clause-there : goal.lead_back-requires-clause-there
lead_back-requires-clause-there g c =
    subst (λ (st : State g.row.T.Denot). IsThereIf st.slots c.args.next) (sym c.lead_on.ensures.state) (there_if_on (state_of c.args.self.now) c.args.prev c.args.on c.args.next c.requires.prev c.requires.next)
