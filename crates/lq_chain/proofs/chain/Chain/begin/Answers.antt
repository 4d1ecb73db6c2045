use Rattle.std.proofs.Common.{[], ◌∷◌, ◌++◌, ◌≡◌, ◌+◌, rules, ap, ◌∙◌}
use Rattle.lq_links.specs.declared.done.Done.TheVariants.{Begun}
use Rattle.lq_chain.specs.History.{changed}
use Rattle.lq_chain.proofs.ChainLemmas.{begun_whole, begun_seen}
use Rattle.lq_chain.proofs.chain.Chain.begin.Goals as goal

pub invariant_of-self-2 : goal.invariant_of-self-2
invariant_of-self-2 g c =
    let items = c.push_reserved.ensures.items ∙ ap (λ xs. xs ++ Begun ∷ []) c.reserve.ensures.items in
    let more : c.in-Some.calls ≡ c.self.inside.calls + 1 = search rules in
    begun_whole c.self.inside.links c.self.inside.done.items c.push_reserved.new.self.items c.self.inside.calls c.in-Some.calls c.self.inside.finger items more c.self.invariant

pub returns-clause-ok : goal.returns-clause-ok
returns-clause-ok g c =
    let items = c.push_reserved.ensures.items ∙ ap (λ xs. xs ++ Begun ∷ []) c.reserve.ensures.items in
    begun_seen c.self.inside.links c.self.inside.done.items c.push_reserved.new.self.items items ∙ ap (λ h. changed h h.now) c.self.view_is
