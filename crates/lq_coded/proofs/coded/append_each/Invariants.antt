use Rattle.std.proofs.Common.{◌≡◌, ◌++◌, length}
use Rattle.lq_codec.specs.Codec.{write_each}
use Rattle.lq_coded.proofs.Each.{AreFit}
use Rattle.lq_coded.proofs.coded.append_each.Given as goal

abbrev pub invariant-loop-item : goal.invariant-loop-item
invariant-loop-item g l =
    (l.to.items ++ write_each g.T.Coded.codec l.rest ≡ l.fn.to.items ++ write_each g.T.Coded.codec l.items)
    × (AreFit g.T.Coded.within g.T.Coded.codec.ok l.rest → AreFit g.T.Coded.within g.T.Coded.codec.ok l.items)

abbrev pub decreases-loop-item : goal.decreases-loop-item
decreases-loop-item g l = length l.rest
