use Rattle.std.proofs.Common.{◌≡◌, vec_len}
use Rattle.std.specs.Prelude.{reverse}
use Rattle.lq_links.specs.State.{state_of, Ties, IsSound, AllUndo, pasts}
use Rattle.lq_chain.proofs.edits.undo_call.Given as goal

abbrev pub invariant-loop-step : goal.invariant-loop-step
invariant-loop-step g l =
    Ties l.links
    × IsSound (state_of l.links) (reverse l.done.items)
    × AllUndo (state_of l.links) (reverse l.done.items)
    × (pasts (state_of l.links) (reverse l.done.items) ≡ pasts (state_of l.fn.links) (reverse l.fn.done.items))

abbrev pub decreases-loop-step : goal.decreases-loop-step
decreases-loop-step g l = vec_len l.done
