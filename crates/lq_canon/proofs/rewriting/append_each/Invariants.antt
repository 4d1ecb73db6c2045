use Rattle.std.proofs.Common.{List, length, map, ℕ, ◌++◌, ◌∷◌, ◌≡◌}
use Rattle.lq_model.specs.Changes.{CanonicalChange, canonical_each}
use Rattle.lq_canon.proofs.PairsLeft.{EachWritten}
use Rattle.lq_canon.specs.Sums.{uniformed}
use Rattle.lq_canon.proofs.rewriting.append_each.Given as goal

abbrev pub invariant-loop-change : goal.invariant-loop-change
invariant-loop-change l = (cs : List CanonicalChange) (x : List ℕ) → l.each ≡ canonical_each cs ++ 93 ∷ x → EachWritten l.to.items (l.fn.to.items ++ canonical_each (map uniformed cs)) l.rest x

abbrev pub decreases-loop-change : goal.decreases-loop-change
decreases-loop-change l = length l.rest
