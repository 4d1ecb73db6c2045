use Rattle.std.proofs.Common.{List, length, ℕ, ◌++◌, ◌∷◌, ◌≡◌}
use Rattle.lq_model.specs.Changes.{CanonicalChange, canonical_each}
use Rattle.lq_canon.proofs.PairsLeft.{StillUniform}
use Rattle.lq_canon.proofs.rewriting.one_has_sql.Given as goal

abbrev pub invariant-loop-change : goal.invariant-loop-change
invariant-loop-change l = (cs : List CanonicalChange) (x : List ℕ) → l.each ≡ canonical_each cs ++ 93 ∷ x → StillUniform l.rest x cs

abbrev pub decreases-loop-change : goal.decreases-loop-change
decreases-loop-change l = length l.rest
