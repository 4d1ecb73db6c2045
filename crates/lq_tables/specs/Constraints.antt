-- What createTable and addColumn can state of a column besides its kind and values.
use Rattle.std.specs.Option.{option_and_then, option_map, unwrap_or}
use Rattle.std.specs.Prelude.{Bool, List, None, Option, Some, [], drop, false, if◌then◌else◌, length, nat_le, take, ℕ, ◌&&◌, ◌+◌, ◌==◌, ◌∷◌}
use Rattle.std.specs.Str.{is_utf8}
use Rattle.lq_base.specs.Name.{beside, is_name, is_named, text_of}
use Rattle.lq_base.specs.declared.name.Name.{Name}
use Rattle.lq_model.specs.Sound.{unique_name}
use Rattle.lq_model.specs.declared.constraint.ForeignKey.{ForeignKey}
use Rattle.lq_model.specs.declared.constraint.Unique.{Unique}
use Rattle.lq_model.specs.declared.table_item.Target.{Target}
use Rattle.lq_tables.specs.declared.constraints.Reference.{Reference}
use Rattle.lq_tree.specs.Given.{a_text, if_so}
use Rattle.lq_tree.specs.Look.{Taken, and_then, or_bad}

-- a text that is a name
abbrev pub name_in : List ℕ → Option Name
name_in bytes = if is_utf8 bytes then if_so is_name bytes else None

-- the place of the last `(` of a text
abbrev pub last_open : List ℕ → Option ℕ
last_open [] = None
last_open (b ∷ bytes) = elim (last_open bytes) [ Some place ↦ Some (place + 1) | None ↦ if b == 40 then Some 0 else None ]

-- what stands before a `)` at the end
abbrev pub closed : List ℕ → Option (List ℕ)
closed [] = None
closed (b ∷ []) = if b == 41 then Some [] else None
closed (b ∷ c ∷ bytes) = option_map (λ front. b ∷ front) (closed (c ∷ bytes))

-- `TABLE(COLUMN)` with the `(` at that place
abbrev pub target_at : List ℕ → ℕ → Option Target
target_at bytes place =
    option_and_then (λ t. option_map (λ n. record { table = t; column = n }) (option_and_then name_in (closed (drop (place + 1) bytes))))
    (name_in (take place bytes))

-- `TABLE(COLUMN)`, split at the last `(`; since a name has at most 63 bytes, no longer text is one
abbrev pub target_of : List ℕ → Option Target
target_of bytes = if nat_le (length bytes) 128 then option_and_then (target_at bytes) (last_open bytes) else None

unfoldable pub a_reference : Taken Reference
a_reference n = and_then (a_text n) (λ bytes. or_bad (option_map (λ found. record { text = bytes; target = found }) (target_of bytes)))

abbrev pub is_target : Target → Bool
is_target to = is_name to.table && is_name to.column

abbrev pub is_same_target : Target → Option Target → Bool
is_same_target to None = false
is_same_target to (Some other) = is_named other.table to.table && is_named other.column to.column

-- the text states the target, and its names are names
abbrev pub is_reference : Reference → Bool
is_reference r = is_same_target r.target (target_of r.text) && is_target r.target

-- the unique constraint of a column, where there is one: by its default name where it has none
abbrev pub unique_stated : Name → Name → Option Bool → Option Name → Option Unique
unique_stated t n unique name =
    if unwrap_or unique false then Some (record { name = unwrap_or name (unique_name t (n ∷ [])); columns = n ∷ [] }) else None

-- the foreign key of a column of a table, where there is one; it targets a table of the same schema
abbrev pub foreign_stated : Name → Name → Option Reference → Option Name → Option ForeignKey
foreign_stated t n None name = None
foreign_stated t n (Some r) None = None
foreign_stated t n (Some r) (Some name) = Some (record { name = name; columns = n ∷ []; table = beside t (text_of r.target.table); targets = r.target.column ∷ []; cascade = false })
