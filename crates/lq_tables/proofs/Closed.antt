-- A text that ends with a byte.
use Rattle.std.proofs.Common.{ap, ◌∙◌}
use Rattle.std.specs.Option.{option_map}
use Rattle.std.specs.Prelude.{Bool, List, None, Some, [], cond, false, refl, true, ℕ, ◌++◌, ◌==◌, ◌∷◌, ◌≡◌}
use Rattle.lq_tables.specs.Constraints.{closed}

one_more : (b : ℕ) (front : List ℕ) (x : Bool) → option_map (λ bytes. b ∷ bytes) (cond x (Some front) None) ≡ cond x (Some (b ∷ front)) None
one_more b front true = refl
one_more b front false = refl

pub closed_last : (front : List ℕ) (last : ℕ) → closed (front ++ last ∷ []) ≡ cond (last == 41) (Some front) None
closed_last [] last = refl
closed_last (b ∷ []) last = ap (option_map (λ bytes. b ∷ bytes)) (closed_last [] last) ∙ one_more b [] (last == 41)
closed_last (b ∷ c ∷ front) last = ap (option_map (λ bytes. b ∷ bytes)) (closed_last (c ∷ front) last) ∙ one_more b (c ∷ front) (last == 41)
