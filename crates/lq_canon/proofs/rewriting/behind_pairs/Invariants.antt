use Rattle.std.proofs.Common.{List, length, ℕ, ◌++◌, ◌∷◌, ◌≡◌, ◌≤◌}
use Rattle.lq_model.specs.Changes.{CanonicalPairs, canonical_pairs}
use Rattle.lq_canon.proofs.PairsLeft.{PairsStill}
use Rattle.lq_canon.proofs.rewriting.behind_pairs.Given as goal

abbrev pub invariant-loop-pair : goal.invariant-loop-pair
invariant-loop-pair l = (length l.rest ≤ length l.pairs) × ((ps : CanonicalPairs) (x : List ℕ) → l.pairs ≡ canonical_pairs ps ++ 125 ∷ x → PairsStill l.rest x)

abbrev pub decreases-loop-pair : goal.decreases-loop-pair
decreases-loop-pair l = length l.rest
