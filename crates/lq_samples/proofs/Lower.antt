-- Names of tracking tables in any case.
use Rattle.std.proofs.Common.{ap, sym, ◌∙◌, arith, tests}
use Rattle.std.proofs.lemmas.Slice.Eq.{bytes_eq-Decides}
use Rattle.std.specs.Char.{to_ascii_lowercase}
use Rattle.std.specs.Prelude.{List, [], bytes_eq, codes, map, refl, ℕ, ◌||◌, ◌∷◌, ◌≡◌}
use Rattle.std.specs.Str.{str_eq_ignore_ascii_case, str_to_ascii_lowercase}
use Rattle.lq_base.specs.Name.{is_named}
use Rattle.lq_model.specs.NameSpaces.{is_tracking, lower}
use Rattle.lq_model.proofs.Lists.{named_itself, same_name, true_false, whether}

lower_same : (b : ℕ) → to_ascii_lowercase b ≡ lower b
lower_same b = grind (arith, tests)

all_lower : (bytes : List ℕ) → str_to_ascii_lowercase bytes ≡ map lower bytes
all_lower [] = refl
all_lower (b ∷ bytes) = ap (λ x. x ∷ str_to_ascii_lowercase bytes) (lower_same b) ∙ ap (λ xs. lower b ∷ xs) (all_lower bytes)

-- equality of bytes is that of names
named_bytes : (a b : List ℕ) → bytes_eq a b ≡ is_named a b
named_bytes a b = whether (is_named a b)
    (λ p. (bytes_eq-Decides a b).1 (same_name a b p) ∙ sym p)
    (λ p. whether (bytes_eq a b) (λ q. true_false (ap (is_named a) (sym ((bytes_eq-Decides a b).0 q)) ∙ named_itself a) p) (λ q. q ∙ sym p))

lowered : (name word : List ℕ) → bytes_eq (str_to_ascii_lowercase name) word ≡ is_named (map lower name) word
lowered name word = named_bytes (str_to_ascii_lowercase name) word ∙ ap (λ n. is_named n word) (all_lower name)

pub log_or_lock : (name : List ℕ) → (str_eq_ignore_ascii_case name (codes "DATABASECHANGELOG") || str_eq_ignore_ascii_case name (codes "DATABASECHANGELOGLOCK")) ≡ is_tracking name
log_or_lock name = ap (λ b. b || str_eq_ignore_ascii_case name (codes "DATABASECHANGELOGLOCK")) (lowered name (codes "databasechangelog")) ∙ ap (λ b. is_named (map lower name) (codes "databasechangelog") || b) (lowered name (codes "databasechangeloglock"))
