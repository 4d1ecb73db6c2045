use Rattle.std.proofs.Common.{◌<◌, length, sym, ◌∙◌, arith}
use Rattle.lq_links.specs.State.{state_of, spots}
use Rattle.lq_chain.proofs.FindLemmas.{spot_within, node_at}
use Rattle.lq_chain.proofs.find.walk_on.Goals as goal

pub returns-in-None : goal.returns-in-None
returns-in-None g c =
    let ss = spots (state_of c.args.links.now) in let less : c.loop.counter < length ss = omega (arith, c.loop-test.true, c.requires.within) in
    absurd (spot_within ss c.loop.counter less (c.loop.invariant.1 ∙ c.in-None.is))

pub next-cur-requires : goal.next-cur-requires
next-cur-requires g c =
    let st = state_of c.args.links.now in let n = node_at st (spots st) c.loop.counter c.in-Some.spot c.requires.list (c.loop.invariant.1 ∙ c.in-Some.is) in (n.node, n.has)

pub loop-preserved : goal.loop-preserved
loop-preserved g c =
    let st = state_of c.args.links.now in let n = node_at st (spots st) c.loop.counter c.in-Some.spot c.requires.list (c.loop.invariant.1 ∙ c.in-Some.is) in
    (omega (arith, c.loop-test.true), sym (c.next-cur.ensures n.node n.has ∙ n.next))
