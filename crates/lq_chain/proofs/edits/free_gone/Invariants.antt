use Rattle.std.proofs.Common.{vec_len}
use Rattle.std.specs.Prelude.{reverse}
use Rattle.lq_links.specs.State.{state_of, Ties, IsList, Spare, gone, spots}
use Rattle.lq_chain.proofs.edits.free_gone.Given as goal

abbrev pub invariant-loop-step : goal.invariant-loop-step
invariant-loop-step g l =
    Ties l.links
    × IsList (state_of l.links) (spots (state_of l.fn.links))
    × Spare (state_of l.links).slots (spots (state_of l.fn.links)) (gone (reverse l.done.items))

abbrev pub decreases-loop-step : goal.decreases-loop-step
decreases-loop-step g l = vec_len l.done
