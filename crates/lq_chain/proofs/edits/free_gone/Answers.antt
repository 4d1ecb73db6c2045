use Rattle.std.proofs.Common.{sym, subst}
use Rattle.std.specs.Prelude.{reverse}
use Rattle.lq_links.specs.State.{State, state_of, spots, gone, Spare, IsList}
use Rattle.lq_chain.proofs.ChainLemmas.{gone_newest, list_freed, spare_freed}
use Rattle.lq_chain.proofs.edits.free_gone.Goals as goal

pub free-requires-clause-there : goal.free-requires-clause-there
free-requires-clause-there g c =
    let st = state_of c.loop-step.links in let ss = spots (state_of c.args.links.now) in
    let gs = gone_newest c.loop-step.done.items c.pop.new.self.items c.in-Some.step c.in-Unlinked.spot c.in-Some.ensures.items c.in-Unlinked.is in
    (subst (Spare st.slots ss) gs c.loop-step.invariant.2).2

pub loop-step-preserved : goal.loop-step-preserved
loop-step-preserved g c =
    let st = state_of c.loop-step.links in let ss = spots (state_of c.args.links.now) in let s = c.in-Unlinked.spot in let rest = gone (reverse c.pop.new.self.items) in
    let gs = gone_newest c.loop-step.done.items c.pop.new.self.items c.in-Some.step s c.in-Some.ensures.items c.in-Unlinked.is in
    let spare = subst (Spare st.slots ss) gs c.loop-step.invariant.2 in
    let list = subst (λ (t : State g.row.T.Denot). IsList t ss) (sym c.free.ensures.state) (list_freed st s ss spare.0 c.loop-step.invariant.1) in
    let left = subst (λ (t : State g.row.T.Denot). Spare t.slots ss rest) (sym c.free.ensures.state) (spare_freed st.slots s ss rest spare.1 spare.3) in
    (c.free.ensures.ties, list, left)
