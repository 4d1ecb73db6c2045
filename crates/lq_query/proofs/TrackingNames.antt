-- A tracking table's name in any case, as names and as texts are compared.
use Rattle.std.proofs.Common.{◌≡◌, ◌∙◌, ◌||◌, ◌∷◌, List, [], ap, arith, codes, map, refl, sym, tests, ℕ}
use Rattle.std.proofs.lemmas.Slice.Eq.{bytes_eq-Decides}
use Rattle.std.specs.Char.{to_ascii_lowercase}
use Rattle.std.specs.Str.{bytes_eq, str_to_ascii_lowercase}
use Rattle.lq_base.specs.Name.{is_named}
use Rattle.lq_base.specs.declared.name.Name.{Name}
use Rattle.lq_model.specs.NameSpaces.{is_tracking, lower}
use Rattle.lq_query.specs.Given.{is_tracking_key}
use Rattle.lq_model.proofs.Lists.{named_itself, same_name, true_false, whether}

lower_same : (b : ℕ) → to_ascii_lowercase b ≡ lower b
lower_same b = grind (arith, tests)

all_lower : (bytes : List ℕ) → str_to_ascii_lowercase bytes ≡ map lower bytes
all_lower [] = refl
all_lower (b ∷ bytes) = ap (λ x. x ∷ str_to_ascii_lowercase bytes) (lower_same b) ∙ ap (λ xs. lower b ∷ xs) (all_lower bytes)

-- names are equal where their bytes are
same_test : (a b : List ℕ) → bytes_eq a b ≡ is_named a b
same_test a b =
    whether (bytes_eq a b) (λ is. is ∙ sym (ap (is_named a) (sym ((bytes_eq-Decides a b).0 is)) ∙ named_itself a)) (λ none. none ∙ sym (whether (is_named a b) (λ is. true_false ((bytes_eq-Decides a b).1 (same_name a b is)) none) (λ other. other)))

pub tracking_in_any_case : (n : Name) → is_tracking_key n ≡ is_tracking n
tracking_in_any_case n =
    ap (λ b. b || bytes_eq (str_to_ascii_lowercase n) (codes "databasechangeloglock")) (same_test (str_to_ascii_lowercase n) (codes "databasechangelog") ∙ ap (λ m. is_named m (codes "databasechangelog")) (all_lower n))
    ∙ ap (λ b. is_named (map lower n) (codes "databasechangelog") || b) (same_test (str_to_ascii_lowercase n) (codes "databasechangeloglock") ∙ ap (λ m. is_named m (codes "databasechangeloglock")) (all_lower n))
