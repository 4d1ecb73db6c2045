-- What is read of a node of a tree, or why it is not what is to be read there.
use Rattle.std.specs.Cmp.Lexicographic.{slice_cmp}
use Rattle.std.specs.List.{list_all, list_any}
use Rattle.std.specs.Map.{keys_of, lookup, lookup_key}
use Rattle.std.specs.Ordering.{is_lt, nat_cmp}
use Rattle.std.specs.Prelude.{Bool, Err, IfSome, List, None, Ok, Option, Result, Some, [], codes, cond, false, not, option_and_then, true, ℕ, ℤ, ◌++◌, ◌||◌, ◌∷◌, ◌≡◌}
use Rattle.std.specs.Str.{bytes_eq}
use Rattle.std.specs.Str.Parse.{false_text, true_text}
use Rattle.lq_base.specs.Number.{whole_text}
use Rattle.lq_base.specs.declared.fault.KindFault.{KindFault}
use Rattle.lq_base.specs.declared.fault.KindFault.TheVariants.{Bad, Missing, NotFor, OutOfMemory, Unknown}
use Rattle.lq_tree.specs.declared.node.Node.{Node, out-Node}
use Rattle.lq_tree.specs.declared.node.Node.TheOpen.{Node-F}

-- what is read of a node, or the first fault, whose path begins at the node
abbrev pub Found : Type 0 → Type 0
Found A = Result A KindFault

-- what each node is read as
abbrev pub Taken : Type 0 → Type 0
Taken A = Node → Found A

-- how what reads answers: as it is meant, unless memory ran out
abbrev pub Reads : {A : Type 0} → Found A → Found A → Type 0
Reads meant (Ok a) = meant ≡ Ok a
Reads meant (Err (Missing path)) = meant ≡ Err (Missing path)
Reads meant (Err (Unknown path)) = meant ≡ Err (Unknown path)
Reads meant (Err (Bad path)) = meant ≡ Err (Bad path)
Reads meant (Err (NotFor path d)) = meant ≡ Err (NotFor path d)
Reads meant (Err OutOfMemory) = Unit {0}

-- a fault is told as it is meant, unless memory ran out
abbrev pub Tells : KindFault → KindFault → Type 0
Tells meant (Missing path) = meant ≡ Missing path
Tells meant (Unknown path) = meant ≡ Unknown path
Tells meant (Bad path) = meant ≡ Bad path
Tells meant (NotFor path d) = meant ≡ NotFor path d
Tells meant OutOfMemory = Unit {0}

-- the first fault stops a reading
abbrev pub and_then : {A B : Type 0} → Found A → (A → Found B) → Found B
and_then (Ok a) f = f a
and_then (Err fault) f = Err fault

abbrev pub map_found : {A B : Type 0} → (A → B) → Found A → Found B
map_found f (Ok a) = Ok (f a)
map_found f (Err fault) = Err fault

-- a value, or the fault of a node that has none
abbrev pub or_bad : {A : Type 0} → Option A → Found A
or_bad (Some a) = Ok a
or_bad None = Err (Bad [])

-- the path of what is at `path` below `key`
abbrev pub below : List ℕ → List ℕ → List ℕ
below key [] = key
below key (b ∷ path) = key ++ codes "." ++ b ∷ path

-- the fault of a node as that of the map in which it stands at `key`
abbrev pub placed : List ℕ → KindFault → KindFault
placed key (Missing path) = Missing (below key path)
placed key (Unknown path) = Unknown (below key path)
placed key (Bad path) = Bad (below key path)
placed key (NotFor path d) = NotFor (below key path) d
placed key OutOfMemory = OutOfMemory

-- what is read of a node, as read of the map in which it stands at `key`
abbrev pub within : {A : Type 0} → List ℕ → Found A → Found A
within key (Ok a) = Ok a
within key (Err fault) = Err (placed key fault)

-- the fault of a list as that of the map in which it stands at `key`: its path is empty or begins with the place of an item
abbrev pub placed_list : List ℕ → KindFault → KindFault
placed_list key (Missing path) = Missing (key ++ path)
placed_list key (Unknown path) = Unknown (key ++ path)
placed_list key (Bad path) = Bad (key ++ path)
placed_list key (NotFor path d) = NotFor (key ++ path) d
placed_list key OutOfMemory = OutOfMemory

-- what is read of a list, as read of the map in which it stands at `key`
abbrev pub within_list : {A : Type 0} → List ℕ → Found A → Found A
within_list key (Ok a) = Ok a
within_list key (Err fault) = Err (placed_list key fault)

-- What a reader of keys finds in a tree.

abbrev map_in : Node-F Node → Option (List (List ℕ × Node))
map_in (Node-F.Map es) = Some es
map_in _ = None

abbrev list_in : Node-F Node → Option (List Node)
list_in (Node-F.List ns) = Some ns
list_in _ = None

abbrev text_in : Node-F Node → Option (List ℕ)
text_in (Node-F.Text t) = Some t
text_in _ = None

abbrev whole_in : Node-F Node → Option ℤ
whole_in (Node-F.Whole z) = Some z
whole_in _ = None

-- the truth value that a text spells
abbrev pub spelled_truth : List ℕ → Option Bool
spelled_truth t = cond (bytes_eq t true_text) (Some true) (cond (bytes_eq t false_text) (Some false) None)

abbrev truth_in : Node-F Node → Option Bool
truth_in (Node-F.Truth b) = Some b
truth_in (Node-F.Text t) = spelled_truth t
truth_in _ = None

abbrev null_in : Node-F Node → Bool
null_in Node-F.Null = true
null_in _ = false

abbrev printed_in : Node-F Node → Option (List ℕ)
printed_in (Node-F.Text t) = Some t
printed_in (Node-F.Whole z) = Some (whole_text z)
printed_in (Node-F.Truth b) = Some (cond b true_text false_text)
printed_in _ = None

-- the keys of a map with their values
abbrev pub map_of : Node → Option (List (List ℕ × Node))
map_of n = map_in (out-Node n)

-- the items of a list
abbrev pub list_of : Node → Option (List Node)
list_of n = list_in (out-Node n)

-- a text
abbrev pub text_of : Node → Option (List ℕ)
text_of n = text_in (out-Node n)

-- a whole number
abbrev pub whole_of : Node → Option ℤ
whole_of n = whole_in (out-Node n)

-- a truth value, which may be written as the text `true` or `false`
abbrev pub truth_of : Node → Option Bool
truth_of n = truth_in (out-Node n)

-- whether it is null
abbrev pub is_null : Node → Bool
is_null n = null_in (out-Node n)

-- a scalar as it is printed: a text, a whole number in decimal digits, a truth value as `true` or `false`
abbrev pub printed_of : Node → Option (List ℕ)
printed_of n = printed_in (out-Node n)

-- the value that a map has at a key
abbrev pub value_at : List ℕ → Node → Option Node
value_at key n = option_and_then (lookup (bytes_eq key)) (map_of n)

-- the key is one of these
abbrev pub is_among : List (List ℕ) → List ℕ → Bool
is_among known key = list_any (bytes_eq key) known

-- the first key of a map that is none of the known ones
abbrev pub unknown_key : List (List ℕ) → Node → Option (List ℕ)
unknown_key known n = option_and_then (lookup_key (λ key. not (is_among known key))) (map_of n)

-- each key of the map that is below this one, by its bytes, is known
abbrev pub IsLeastUnknown : List (List ℕ) → Node → List ℕ → Type 0
IsLeastUnknown known n key =
    IfSome (map_of n) (λ es. list_all (λ k. is_among known k || not (is_lt (slice_cmp nat_cmp k key))) (keys_of es) ≡ true)
