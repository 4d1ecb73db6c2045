use Rattle.std.proofs.Common.{vec_len, ◌≡◌}
use Rattle.lq_deletes.specs.Places.{AreBare}
use Rattle.lq_deletes.proofs.edges.bare.Given as goal

abbrev pub invariant-loop-node : goal.invariant-loop-node
invariant-loop-node l = (vec_len l.edges ≡ l._node) × AreBare l.edges.items
