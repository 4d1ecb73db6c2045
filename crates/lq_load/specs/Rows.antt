-- The records of a file as the rows of a table.
use Rattle.std.specs.List.{list_all}
use Rattle.std.specs.Prelude.{Bool, List, length, nat_eq, ℕ, ◌&&◌}
use Rattle.std.specs.Str.{is_utf8}
use Rattle.lq_base.specs.Name.{is_name}

-- records by their fields, of which each is some bytes
abbrev pub Records : Type 0
Records = List (List (List ℕ))

-- a field that is the name of a column
abbrev pub is_column : List ℕ → Bool
is_column field = is_utf8 field && is_name field

-- a record of so many texts
abbrev pub is_row : ℕ → List (List ℕ) → Bool
is_row width fields = nat_eq (length fields) width && list_all is_utf8 fields
