-- Tables whose names rise.
use Rattle.std.proofs.Common.{[], ap, refl, ◌&&◌, ◌∙◌, ◌∷◌, ◌≡◌}
use Rattle.std.specs.FinMap.Entries.{below_all, is_sorted}
use Rattle.std.specs.Ordering.{is_lt}
use Rattle.lq_base.specs.Name.{name_cmp}
use Rattle.lq_base.specs.declared.name.Name.{Name}
use Rattle.lq_parts.specs.Steps.{Entries, tables_of}

-- by names alone
below_values : (n : Name) (es : Entries) → below_all name_cmp n (tables_of es) ≡ below_all name_cmp n es
below_values n [] = refl
below_values n (e ∷ es) = ap (λ b. is_lt (name_cmp n e.0) && b) (below_values n es)

pub sorted_values : (es : Entries) → is_sorted name_cmp (tables_of es) ≡ is_sorted name_cmp es
sorted_values [] = refl
sorted_values (e ∷ es) = ap (λ b. b && is_sorted name_cmp (tables_of es)) (below_values e.0 es) ∙ ap (λ b. below_all name_cmp e.0 es && b) (sorted_values es)
