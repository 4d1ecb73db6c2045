-- The pairs of keys that stand one after the other.
use Rattle.std.proofs.Common.{ap, sym, ◌∙◌}
use Rattle.std.proofs.lemmas.List.{append_assoc}
use Rattle.std.specs.Prelude.{List, None, Option, Some, [], refl, ℕ, ◌++◌, ◌∷◌, ◌≡◌}
use Rattle.lq_model.specs.Changes.{CanonicalValue, atom, canonical, canonical_pairs}
use Rattle.lq_model.specs.TakesBack.{Row, pair_if, pairs_of}

pub pairs_apart : (first more : List Row) → canonical_pairs (pairs_of (first ++ more)) ≡ canonical_pairs (pairs_of first) ++ canonical_pairs (pairs_of more)
pairs_apart [] more = refl
pairs_apart (row ∷ first) more = by row.1 (pairs_apart first more) where
  by : (v : Option CanonicalValue) → canonical_pairs (pairs_of (first ++ more)) ≡ canonical_pairs (pairs_of first) ++ canonical_pairs (pairs_of more) → canonical_pairs (pair_if row.0 v (pairs_of (first ++ more))) ≡ canonical_pairs (pair_if row.0 v (pairs_of first)) ++ canonical_pairs (pairs_of more)
  by None h = h
  by (Some v) h = ap (λ t. atom row.0 ++ canonical v ++ t) h ∙ sym (append_assoc (atom row.0 ++ canonical v) (canonical_pairs (pairs_of first)) (canonical_pairs (pairs_of more)))

-- a writer that writes the first keys, and then more
pub both_written : (old mid new : List ℕ) (first more : List Row) → mid ≡ old ++ canonical_pairs (pairs_of first) → new ≡ mid ++ canonical_pairs (pairs_of more) → new ≡ old ++ canonical_pairs (pairs_of (first ++ more))
both_written old mid new first more a b =
    b
    ∙ ap (λ t. t ++ canonical_pairs (pairs_of more)) a
    ∙ append_assoc old (canonical_pairs (pairs_of first)) (canonical_pairs (pairs_of more))
    ∙ ap (λ t. old ++ t) (sym (pairs_apart first more))
