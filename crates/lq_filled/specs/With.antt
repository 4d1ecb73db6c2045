-- A catalogue with other objects of one sort, which rise by name.
use Rattle.std.specs.Ordering.{is_lt}
use Rattle.std.specs.Prelude.{Bool, List, [], true, ◌∷◌}
use Rattle.lq_base.specs.Name.{name_cmp}
use Rattle.lq_base.specs.declared.name.Name.{Name}
use Rattle.lq_model.specs.Catalogue.{Catalogue, Sequence, Table, View}

abbrev pub with_tables : List (Name × Table) → Catalogue → Catalogue
with_tables es c = record c { tables = es }

abbrev pub with_views : List (Name × View) → Catalogue → Catalogue
with_views es c = record c { views = es }

abbrev pub with_sequences : List (Name × Sequence) → Catalogue → Catalogue
with_sequences es c = record c { sequences = es }

-- the first entry, if there is one, stands above the name
abbrev pub begins_above : {X : Type 0} → Name → List (Name × X) → Bool
begins_above n [] = true
begins_above n (e ∷ es) = is_lt (name_cmp n e.0)
