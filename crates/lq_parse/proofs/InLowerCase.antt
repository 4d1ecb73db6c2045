-- Bytes that are in lower case.
use Rattle.std.proofs.Common.{List, [], ap, map, refl, true, ℕ, ◌==◌, ◌≡◌, ◌∙◌, ◌∷◌}
use Rattle.std.proofs.lemmas.Bool.{and_parts, eqb-true}
use Rattle.std.specs.Char.{to_ascii_lowercase}
use Rattle.std.specs.List.{list_all}

pub lower_is : (bytes : List ℕ) → list_all (λ byte. to_ascii_lowercase byte == byte) bytes ≡ true → map to_ascii_lowercase bytes ≡ bytes
lower_is [] all = refl
lower_is (b ∷ rest) all =
    let both = and_parts (to_ascii_lowercase b == b) (list_all (λ byte. to_ascii_lowercase byte == byte) rest) all in
    ap (λ (it : ℕ). it ∷ map to_ascii_lowercase rest) (eqb-true (to_ascii_lowercase b) b both.0) ∙ ap (λ (more : List ℕ). b ∷ more) (lower_is rest both.1)
