-- The pieces of the test of a table, each over what the code has in hand.
use Rattle.std.specs.List.{filter, list_all}
use Rattle.std.specs.Prelude.{Bool, List, Option, is_none, map, not, ◌&&◌, ◌||◌}
use Rattle.lq_base.specs.declared.name.Name.{Name}
use Rattle.lq_model.specs.Catalogue.{is_empty, is_in, repeats}
use Rattle.lq_model.specs.Kinds.{is_number}
use Rattle.lq_model.specs.Sound.{is_key_of}
use Rattle.lq_model.specs.declared.column.Column.{Column}
use Rattle.lq_model.specs.declared.constraint.Key.{Key}

-- the names of the columns
abbrev pub names_of : List Column → List Name
names_of cs = map (λ c. c.name) cs

-- at least one of these columns, none twice
abbrev pub are_some_of : List Column → List Name → Bool
are_some_of cs ns =
    not (is_empty ns) && (not (repeats ns) && list_all (λ n. is_in n (names_of cs)) ns)

-- the names of the columns that may be null
abbrev pub null_names : List Column → List Name
null_names cs = names_of (filter (λ c. c.nullable) cs)

-- a numbered column of a table with this key is as it has to be
abbrev pub numbers_well : Option Key → Column → Bool
numbers_well key c =
    not c.numbered || (is_number c.kind && (is_none c.default && is_key_of key c.name))
