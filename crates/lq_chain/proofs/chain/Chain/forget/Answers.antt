use Rattle.std.proofs.Common.{[], ap, ◌∙◌}
use Rattle.lq_chain.specs.History.{history}
use Rattle.lq_chain.proofs.ChainLemmas.{forgot_whole, forgot_seen}
use Rattle.lq_chain.proofs.chain.Chain.forget.Goals as goal

pub invariant_of-self : goal.invariant_of-self
invariant_of-self g c =
    let old = c.self.inside in let e = c.free_gone.ensures in forgot_whole old.links c.free_gone.new.links old.done.items c.free_gone.new.done.items old.calls old.finger c.self.invariant e.ties e.list e.done

pub returns : goal.returns
returns g c =
    let old = c.self.inside in let e = c.free_gone.ensures in forgot_seen old.links c.free_gone.new.links old.done.items c.free_gone.new.done.items e.list e.done ∙ ap (λ h. history h.now []) c.self.view_is
