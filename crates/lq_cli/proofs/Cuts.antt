-- Where a text is cut.
use Rattle.std.proofs.Common.{◌≡◌, ◌≢◌, ◌<◌, ℕ, suc, List, [], ◌∷◌, ◌++◌, length, get_or, Option, Some, None, option_map, Bor, arith, refl, sym, ap, inl, inr}
use Rattle.std.specs.Option.{MatchOption}
use Rattle.std.proofs.lemmas.Bool.{eq-eqb}
use Rattle.std.proofs.lemmas.Bool.Decides.{eqb_tells}
use Rattle.lq_cli.specs.Options.{before, cut_at}

pub cut_parts : (mark : ℕ) (front behind : List ℕ) → ((i : ℕ) → i < length front → get_or front i 0 ≢ mark) → cut_at mark (front ++ mark ∷ behind) ≡ Some (front, behind)
unfolding cut_at
cut_parts mark [] behind none = rw (eq-eqb mark mark refl) refl
cut_parts mark (b ∷ front) behind none =
    elim (eqb_tells b mark) [
      | inl same ↦ absurd (none 0 (omega arith) same.1)
      | inr other ↦ rw other.0 (ap (before b) (cut_parts mark front behind (λ i lt. none (suc i) (omega arith))))
    ]

pub cut_none : (mark : ℕ) (text : List ℕ) → ((i : ℕ) → i < length text → get_or text i 0 ≢ mark) → cut_at mark text ≡ None
unfolding cut_at
cut_none mark [] none = refl
cut_none mark (b ∷ bs) none =
    elim (eqb_tells b mark) [
      | inl same ↦ absurd (none 0 (omega arith) same.1)
      | inr other ↦ rw other.0 (ap (before b) (cut_none mark bs (λ i lt. none (suc i) (omega arith))))
    ]

-- what `split_once` tells of its answer
pub cut_is : (mark : ℕ) (text : List ℕ) (r : Option (Bor (List ℕ) × Bor (List ℕ)))
    → MatchOption r ((i : ℕ) → i < length text → get_or text i 0 ≢ mark) (λ x. (text ≡ x.0.now ++ (mark ∷ x.1.now)) × ((i : ℕ) → i < length x.0.now → get_or x.0.now i 0 ≢ mark))
    → option_map (λ x. (x.0.now, x.1.now)) r ≡ cut_at mark text
cut_is mark text None none = sym (cut_none mark text none)
cut_is mark text (Some x) split = sym (rw split.0 (cut_parts mark x.0.now x.1.now split.1))
