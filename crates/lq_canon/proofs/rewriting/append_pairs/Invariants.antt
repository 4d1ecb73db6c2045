use Rattle.std.proofs.Common.{List, length, ℕ, ◌++◌, ◌∷◌, ◌≡◌, ◌≤◌}
use Rattle.lq_model.specs.Changes.{CanonicalPairs, canonical_pairs}
use Rattle.lq_canon.proofs.PairsLeft.{StillWritten}
use Rattle.lq_canon.specs.Sums.{uniform_pairs}
use Rattle.lq_canon.proofs.rewriting.append_pairs.Given as goal

abbrev pub invariant-loop-pair : goal.invariant-loop-pair
invariant-loop-pair l =
    (length l.rest ≤ length l.pairs)
    × ((ps : CanonicalPairs) (x : List ℕ) → l.pairs ≡ canonical_pairs ps ++ 125 ∷ x → StillWritten l.wide l.name l.to.items (l.fn.to.items ++ canonical_pairs (uniform_pairs l.wide l.name ps)) l.rest x)

abbrev pub decreases-loop-pair : goal.decreases-loop-pair
decreases-loop-pair l = length l.rest
