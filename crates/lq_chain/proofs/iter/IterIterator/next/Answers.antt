use Rattle.std.proofs.Common.{rules, ◌≡◌, ◌-◌, length, ◌∷◌, Some, None, sym, ap, ◌∙◌, subst, arith}
use Rattle.lq_links.specs.State.{Linked, first_or, node, rows, spots_from}
use Rattle.lq_chain.proofs.IterLemmas.{stepped}
use Rattle.lq_chain.proofs.iter.IterIterator.next.Goals as goal

pub at-node-requires : goal.at-node-requires
at-node-requires g c =
    let it = c.self.inside in let slots = it.arena.now.slots in let ss = spots_from it.left slots it.cur in
    let st = stepped slots it.prev it.cur it.left c.in-Some.spot ss c.self.invariant.0 c.self.invariant.1 c.in-Some.is in
    (node it.prev (first_or st.rest None) st.row, st.has)

pub invariant_of-self : goal.invariant_of-self
invariant_of-self g c =
    let it = c.self.inside in let slots = it.arena.now.slots in let ss = spots_from it.left slots it.cur in
    let st = stepped slots it.prev it.cur it.left c.in-Some.spot ss c.self.invariant.0 c.self.invariant.1 c.in-Some.is in
    let is = c.at-node.ensures (node it.prev (first_or st.rest None) st.row) st.has in
    let less : it.left - 1 ≡ length st.rest = omega (arith, c.self.invariant.2, ap length st.is) in
    let rest : spots_from (it.left - 1) slots c.at-node.result.now.next ≡ st.rest = ap (λ k. spots_from k slots c.at-node.result.now.next) less ∙ ap (λ n. spots_from (length st.rest) slots n.next) is ∙ st.again in
    subst (λ us. Linked slots (Some c.in-Some.spot) us None × (c.at-node.result.now.next ≡ first_or us None) × (it.left - 1 ≡ length us)) (sym rest) (st.linked, ap (λ n. n.next) is, less)

pub returns-else-self-eq0-clause-steps : goal.returns-else-self-eq0-clause-steps
returns-else-self-eq0-clause-steps g c =
    let it = c.self.inside in let slots = it.arena.now.slots in let ss = spots_from it.left slots it.cur in
    let st = stepped slots it.prev it.cur it.left c.in-Some.spot ss c.self.invariant.0 c.self.invariant.1 c.in-Some.is in
    let is = c.at-node.ensures (node it.prev (first_or st.rest None) st.row) st.has in
    let less : it.left - 1 ≡ length st.rest = omega (arith, c.self.invariant.2, ap length st.is) in
    let rest : spots_from (it.left - 1) slots c.at-node.result.now.next ≡ st.rest = ap (λ k. spots_from k slots c.at-node.result.now.next) less ∙ ap (λ n. spots_from (length st.rest) slots n.next) is ∙ st.again in
    sym c.self.view_is ∙ ap rows st.is ∙ (λ i. sym (ap (λ n. n.row) is) i ∷ rows (sym rest i))

pub returns-else-self-eq0-clause-goes : goal.returns-else-self-eq0-clause-goes
returns-else-self-eq0-clause-goes g c = let steps = returns-else-self-eq0-clause-steps g c in search rules
