-- What stands after a start.
use Rattle.std.proofs.Common.{◌≡◌, ◌≢◌, ◌==◌, ℕ, true, false, cond, List, [], ◌∷◌, ◌++◌, None, Some, refl, rules}
use Rattle.lq_cli.specs.Options.{after, file_after, not_empty}

same : (p b : ℕ) → (p == b) ≡ true → b ≡ p
same p b e = search rules

after-front : (n rest : List ℕ) → after n (n ++ rest) ≡ Some rest
after-front [] rest = refl
after-front (p ∷ ps) rest = let e : (p == p) ≡ true = search rules in rw e (after-front ps rest)

after-none : (n s : List ℕ) → ((rest : List ℕ) → s ≢ n ++ rest) → after n s ≡ None
after-none [] s h = absurd (h s refl)
after-none (p ∷ ps) [] h = refl
after-none (p ∷ ps) (b ∷ bs) h =
    elim (p == b) as (λ t. (p == b) ≡ t → cond t (after ps bs) None ≡ None) [
      | true ↦ λ e. after-none ps bs (λ rest q. h rest (rw (q, same p b e) refl))
      | false ↦ λ e. refl
    ] refl

pub file_none : (n s : List ℕ) → ((rest : List ℕ) → s ≢ n ++ rest) → file_after n s ≡ None
unfolding file_after
file_none n s h = rw (after-none n s h) refl

pub file_some : (n s rest : List ℕ) → s ≡ n ++ rest → file_after n s ≡ not_empty rest
unfolding file_after
file_some n s rest is = rw (is, after-front n rest) refl
