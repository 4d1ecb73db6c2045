-- Lemmas on undoing one change after another.
use Rattle.std.proofs.Common.{◌≡◌, ◌+◌, ◌-◌, ◌<◌, ℕ, ap, arith, suc, sym}
use Rattle.lq_undo.specs.Ago.{ago}

-- what is given by going back to a mark is given after a step back, too
pub step_ago : {A : Type 0} (before : A → A) (changes : A → ℕ) (it : A) (mark : ℕ) → mark < changes it → changes (before it) + 1 ≡ changes it
    → ago before (changes (before it) - mark) (before it) ≡ ago before (changes it - mark) it
step_ago before changes it mark less one =
    let steps : suc (changes (before it) - mark) ≡ changes it - mark = omega (arith, less, one) in
    ap (λ n. ago before n it) steps
