use Rattle.std.proofs.Common.{List, length, ℕ, ◌++◌, ◌∷◌, ◌≡◌}
use Rattle.lq_model.specs.Changes.{CanonicalPairs, canonical_pairs}
use Rattle.lq_canon.proofs.PairsLeft.{StillTold}
use Rattle.lq_canon.specs.Sums.{has_wide}
use Rattle.lq_canon.proofs.rewriting.has_wide.Given as goal

abbrev pub invariant-loop-pair : goal.invariant-loop-pair
invariant-loop-pair l = (ps : CanonicalPairs) (x : List ℕ) → l.pairs ≡ canonical_pairs ps ++ 125 ∷ x → StillTold l.rest x (has_wide ps)

abbrev pub decreases-loop-pair : goal.decreases-loop-pair
decreases-loop-pair l = length l.rest
