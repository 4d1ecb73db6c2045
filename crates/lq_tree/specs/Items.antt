-- Lists of nodes.
use Rattle.std.specs.Fmt.{decimal}
use Rattle.std.specs.List.{list_all}
use Rattle.std.specs.Prelude.{Bool, Err, List, None, Ok, Option, Some, [], codes, false, if◌then◌else◌, length, not, true, ℕ, ◌&&◌, ◌++◌, ◌+◌, ◌==◌, ◌∷◌}
use Rattle.lq_base.specs.declared.fault.KindFault.TheVariants.{Bad, Missing}
use Rattle.lq_tree.specs.Keys.{Keys}
use Rattle.lq_tree.specs.Look.{Found, Taken, and_then, list_of, map_found, map_of, value_at, within}
use Rattle.lq_tree.specs.declared.node.Node.{Node}

-- the path of an item of the list that stands at a key, counted from 0
abbrev pub item_path : List ℕ → ℕ → List ℕ
item_path key place = key ++ codes "[" ++ decimal place ++ codes "]"

-- each item of the list at a key in order, from a place on
abbrev pub items_from : {A : Type 0} → List ℕ → ℕ → Taken A → List Node → Found (List A)
items_from key place takes [] = Ok []
items_from key place takes (n ∷ ns) = and_then (within (item_path key place) (takes n)) (λ a. map_found (λ more. a ∷ more) (items_from key (place + 1) takes ns))

-- a list
abbrev pub items_in : {A : Type 0} → List ℕ → Taken A → Option (List Node) → Found (List A)
items_in key takes None = Err (Bad key)
items_in key takes (Some ns) = items_from key 0 takes ns

-- a list of one item at least
abbrev pub some_items_in : {A : Type 0} → List ℕ → Taken A → Option (List Node) → Found (List A)
some_items_in key takes None = Err (Bad key)
some_items_in key takes (Some []) = Err (Bad key)
some_items_in key takes (Some (n ∷ ns)) = items_from key 0 takes (n ∷ ns)

-- the list at a key that has to be there, of one item at least
abbrev pub at_required_items : {A : Type 0} → List ℕ → Taken A → Option Node → Found (List A)
at_required_items key takes None = Err (Missing key)
at_required_items key takes (Some value) = some_items_in key takes (list_of value)

-- the list at a key that may be there
abbrev pub at_optional_items : {A : Type 0} → List ℕ → Taken A → Option Node → Found (Option (List A))
at_optional_items key takes None = Ok None
at_optional_items key takes (Some value) = map_found (λ items. Some items) (items_in key takes (list_of value))

abbrev pub required_items : {A : Type 0} → List ℕ → Taken A → Keys (List A)
required_items key takes = record { names = key ∷ []; says = λ n. at_required_items key takes (value_at key n) }

abbrev pub optional_items : {A : Type 0} → List ℕ → Taken A → Keys (Option (List A))
optional_items key takes = record { names = key ∷ []; says = λ n. at_optional_items key takes (value_at key n) }

abbrev pub is_empty : {A : Type 0} → List A → Bool
is_empty [] = true
is_empty (x ∷ xs) = false

-- one item at least, and each one fits
abbrev pub are_some : {A : Type 0} → (A → Bool) → List A → Bool
are_some fits xs = not (is_empty xs) && list_all fits xs

-- ---- columns

abbrev pub size_of : Option (List (List ℕ × Node)) → ℕ
size_of None = 0
size_of (Some es) = length es

-- what a map has at its one key
abbrev pub only : List ℕ → Node → Option Node
only key n = if size_of (map_of n) == 1 then value_at key n else None

-- `{"column": {..}}`, or the inner map itself
abbrev pub column_in : {A : Type 0} → Taken A → Node → Option Node → Found A
column_in takes n None = takes n
column_in takes n (Some inner) = within (codes "column") (takes inner)

abbrev pub a_column : {A : Type 0} → Taken A → Taken A
a_column takes n = column_in takes n (only (codes "column") n)
