use Rattle.std.proofs.Common.{◌≡◌, ◌+◌, ◌-◌, ◌<◌, length, sym, ap, ◌∙◌, arith}
use Rattle.lq_links.specs.State.{spot_at, state_of, spots}
use Rattle.lq_chain.proofs.FindLemmas.{spot_within, spot_below, node_at}
use Rattle.lq_chain.proofs.find.walk_back.Goals as goal

pub returns-in-None : goal.returns-in-None
returns-in-None g c =
    let ss = spots (state_of c.args.links.now) in let from = c.args.from in let at = from.at + c.args.to - c.loop.counter in
    let less : at < length ss = omega (arith, c.loop.invariant.0, c.loop.invariant.1, spot_below ss from.at from.spot c.requires.on) in
    absurd (spot_within ss at less (c.loop.invariant.2 ∙ c.in-None.is))

pub prev-cur-requires : goal.prev-cur-requires
prev-cur-requires g c =
    let st = state_of c.args.links.now in let at = c.args.from.at + c.args.to - c.loop.counter in
    let n = node_at st (spots st) at c.in-Some.spot c.requires.list (c.loop.invariant.2 ∙ c.in-Some.is) in (n.node, n.has)

pub loop-preserved : goal.loop-preserved
loop-preserved g c =
    let st = state_of c.args.links.now in let ss = spots st in let from = c.args.from in let at = from.at + c.args.to - c.loop.counter in
    let n = node_at st ss at c.in-Some.spot c.requires.list (c.loop.invariant.2 ∙ c.in-Some.is) in
    let some : 0 < at = omega (arith, c.loop-test.true, c.loop.invariant.0, c.loop.invariant.1) in
    let less : from.at + c.args.to - (c.loop.counter + 1) ≡ at - 1 = omega arith in
    (omega (arith, c.loop.invariant.0), omega (arith, c.loop-test.true), ap (spot_at ss) less ∙ sym (c.prev-cur.ensures n.node n.has ∙ n.prev some))
