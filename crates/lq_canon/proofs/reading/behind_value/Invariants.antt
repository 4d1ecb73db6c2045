use Rattle.std.proofs.Common.{length, List, ℕ, ◌++◌, ◌+◌, ◌≡◌, ◌≤◌}
use Rattle.lq_model.specs.Changes.{CanonicalValue, canonical}
use Rattle.lq_canon.proofs.Walks.{Leads}
use Rattle.lq_canon.proofs.reading.behind_value.Given as goal

abbrev pub invariant-loop-place : goal.invariant-loop-place
invariant-loop-place l =
    (l.depth + length l.rest ≤ length l.bytes)
    × ((v : CanonicalValue) (x : List ℕ) → l.bytes ≡ canonical v ++ x → Leads l.depth l.rest x)

abbrev pub decreases-loop-place : goal.decreases-loop-place
decreases-loop-place l = length l.rest
