use Rattle.std.proofs.Common.{◌≡◌, ◌++◌, length}
use Rattle.lq_codec.specs.Codec.{both, write_each}
use Rattle.lq_codec.specs.Tables.{view_codec}
use Rattle.lq_codec.specs.State.{free, if_both}
use Rattle.lq_codec.specs.Words.{name}
use Rattle.lq_coded.proofs.Each.{AreFit}
use Rattle.lq_state.specs.Shaped.{is_shaped_view}
use Rattle.lq_snap.proofs.objects.append_views.Given as goal

abbrev pub invariant-loop-entry : goal.invariant-loop-entry
invariant-loop-entry l =
    (l.to.items ++ write_each (both name view_codec) l.rest ≡ l.fn.to.items ++ write_each (both name view_codec) l.entries)
    × (AreFit (if_both free is_shaped_view) (both name view_codec).ok l.rest → AreFit (if_both free is_shaped_view) (both name view_codec).ok l.entries)

abbrev pub decreases-loop-entry : goal.decreases-loop-entry
decreases-loop-entry l = length l.rest
