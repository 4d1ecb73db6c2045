use Rattle.std.proofs.Common.{◌≡◌, ◌++◌, length, map}
use Rattle.lq_model.specs.Changes.{canonical_each}
use Rattle.lq_any.specs.AnyChange.{canonical_of}
use Rattle.lq_kinds.proofs.sum.write_each.Given as goal

abbrev pub invariant-loop-rest : goal.invariant-loop-rest
invariant-loop-rest l = (l.canon.written ++ canonical_each (map canonical_of l.rest) ≡ l.fn.canon.written ++ canonical_each (map canonical_of l.changes)) × (l.canon.begun ≡ l.fn.canon.begun)

abbrev pub decreases-loop-rest : goal.decreases-loop-rest
decreases-loop-rest l = length l.rest
