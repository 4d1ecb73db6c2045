use Rattle.std.proofs.Common.{Some, sym, ap, ◌∙◌}
use Rattle.std.specs.Prelude.{slice_get}
use Rattle.lq_links.specs.State.{state_of, spots}
use Rattle.lq_chain.proofs.FindLemmas.{node_at, no_row}
use Rattle.lq_chain.proofs.chain.Chain.get.Goals as goal

pub at-node-requires : goal.at-node-requires
at-node-requires g c =
    let st = state_of c.self.inside.links in
    let n = node_at st (spots st) c.args.at c.in-Some.spot c.self.invariant.1.0 (sym c.find.ensures ∙ c.in-Some.is) in (n.node, n.has)

pub returns-in-None : goal.returns-in-None
returns-in-None g c =
    sym (no_row (spots (state_of c.self.inside.links)) c.args.at (sym c.find.ensures ∙ c.in-None.is))
    ∙ ap (λ h. slice_get h.now c.args.at) c.self.view_is

pub returns-in-Some : goal.returns-in-Some
returns-in-Some g c =
    let st = state_of c.self.inside.links in let there = sym c.find.ensures ∙ c.in-Some.is in
    let n = node_at st (spots st) c.args.at c.in-Some.spot c.self.invariant.1.0 there in
    ap (λ n. Some n.row) (c.at-node.ensures n.node n.has)
    ∙ sym n.row
    ∙ ap (λ h. slice_get h.now c.args.at) c.self.view_is
