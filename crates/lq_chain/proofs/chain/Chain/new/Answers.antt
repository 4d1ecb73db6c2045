use Rattle.lq_chain.proofs.ChainLemmas.{new_whole, new_seen}
use Rattle.lq_chain.proofs.chain.Chain.new.Goals as goal

pub invariant_of-result : goal.invariant_of-result
invariant_of-result g c = new_whole c.new.result c.new-2.result.items c.new.ensures.ties c.new.ensures.state c.new-2.ensures.items

pub returns : goal.returns
returns g c = new_seen c.new.result c.new-2.result.items c.new.ensures.state c.new-2.ensures.items
