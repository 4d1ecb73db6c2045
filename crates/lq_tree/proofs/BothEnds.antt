-- Steps of dropping blanks from both ends of a text.
use Rattle.std.proofs.Common.{ap, arith}
use Rattle.std.specs.Prelude.{List, [], false, refl, true, ℕ, ◌++◌, ◌∷◌, ◌≡◌, ◌≢◌}
use Rattle.lq_base.specs.Kind.{is_blank}
use Rattle.lq_tree.specs.Given.{unless_blank, without_end_blanks, without_front_blanks}

-- a byte that is neither a space nor a tab
dark : (b : ℕ) → (b ≡ 32 → ⊥) → (b ≡ 9 → ⊥) → is_blank b ≡ false
dark b space tab = search (arith)

-- ---- at the front

pub front_kept : (text : List ℕ) → ((rest : List ℕ) → text ≢ 32 ∷ rest) → ((rest : List ℕ) → text ≢ 9 ∷ rest) → without_front_blanks text ≡ text
front_kept [] space tab = refl
front_kept (b ∷ bs) space tab = rw (dark b (λ e. space bs (ap (λ x. x ∷ bs) e)) (λ e. tab bs (ap (λ x. x ∷ bs) e))) refl

-- ---- at the end

pub end_dropped : (text : List ℕ) (c : ℕ) → is_blank c ≡ true → without_end_blanks (text ++ c ∷ []) ≡ without_end_blanks text
end_dropped [] c is = rw is refl
end_dropped (b ∷ bs) c is = ap (unless_blank b) (end_dropped bs c is)

pub end_kept : (text : List ℕ) → ((front : List ℕ) → text ≢ front ++ 32 ∷ []) → ((front : List ℕ) → text ≢ front ++ 9 ∷ []) → without_end_blanks text ≡ text
end_kept [] space tab = refl
end_kept (b ∷ []) space tab = rw (dark b (λ e. space [] (ap (λ x. x ∷ []) e)) (λ e. tab [] (ap (λ x. x ∷ []) e))) refl
end_kept (b ∷ c ∷ cs) space tab = ap (unless_blank b) (end_kept (c ∷ cs) (λ front e. space (b ∷ front) (ap (λ xs. b ∷ xs) e)) (λ front e. tab (b ∷ front) (ap (λ xs. b ∷ xs) e)))
