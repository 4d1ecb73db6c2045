use Rattle.lq_links.specs.State.{state_of, spots}
use Rattle.lq_chain.proofs.ChainLemmas.{list_again}
use Rattle.lq_chain.proofs.chain.Chain.drop.Goals as goal

pub free_list-requires-clause-list : goal.free_list-requires-clause-list
free_list-requires-clause-list g c = list_again (state_of c.free_gone.new.links) (spots (state_of c.self.inside.links)) c.free_gone.ensures.list
