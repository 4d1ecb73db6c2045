use Rattle.std.proofs.Common.{sym, subst}
use Rattle.lq_links.specs.State.{IsThereIf, State, state_of}
use Rattle.lq_links.proofs.GapLemmas.{there_if_back}
use Rattle.lq_links.proofs.node.Links.rejoin.Goals as goal

pub lead_on-requires-clause-there : goal.lead_on-requires-clause-there
lead_on-requires-clause-there g c =
    subst (λ (st : State g.row.T.Denot). IsThereIf st.slots c.args.prev) (sym c.lead_back.ensures.state) (there_if_back (state_of c.args.self.now) c.args.next c.args.back c.args.prev c.requires.next c.requires.prev)
