use Rattle.std.proofs.Common.{arith}
use Rattle.lq_links.specs.State.{state_of, spots}
use Rattle.lq_chain.proofs.FindLemmas.{head_none}
use Rattle.lq_chain.proofs.find.find.Goals as goal

pub returns-in-None : goal.returns-in-None
returns-in-None g c = let st = state_of c.args.links.now in absurd (omega (arith, c.requires.within, head_none st (spots st) c.requires.list c.in-None.is))
