-- How the readings of a changeset follow each other, and how they answer.
use Rattle.std.specs.List.{position}
use Rattle.std.specs.Option.{option_map, unwrap_or}
use Rattle.std.specs.Prelude.{Bool, Err, List, None, Ok, Option, Result, Some, [], codes, cond, drop, false, if◌then◌else◌, option_and_then, suc, true, ℕ, ◌++◌, ◌+◌, ◌∷◌, ◌≡◌}
use Rattle.std.specs.Str.{bytes_eq}
use Rattle.lq_base.specs.declared.dialect.Dialect.{Dialect}
use Rattle.lq_base.specs.declared.fault.KindFault.TheVariants.{Bad, Missing, NotFor, OutOfMemory, Unknown}
use Rattle.lq_cond.specs.Kinds.{is_meant, names_in}
use Rattle.lq_any.specs.AnyChange.{any_change}
use Rattle.lq_any.specs.declared.any_change.AnyChange.{AnyChange}
use Rattle.lq_any.specs.declared.any_change.AnyChange.TheVariants.{LoadData, TagDatabase}
use Rattle.lq_kinds.specs.declared.fault.SetFault.{SetFault}
use Rattle.lq_kinds.specs.declared.fault.SetFault.TheVariants.{BadPath, InKeys, Wants}
use Rattle.lq_load.specs.LoadData.{load_data}
use Rattle.lq_load.specs.LoadKeys.{load_keys}
use Rattle.lq_tree.specs.Given.{a_text}
use Rattle.lq_tree.specs.Items.{item_path, items_from}
use Rattle.lq_tree.specs.Keys.{Keys, at_optional}
use Rattle.lq_tree.specs.Look.{Found, Taken, is_null, list_of, map_found, map_of, printed_of, value_at, within}
use Rattle.lq_tree.specs.declared.node.Node.{Map as MapNode, Node, Text as TextNode}

-- a fault of the keys stops the reading
abbrev pub by_keys : {A B : Type 0} → Found A → (A → Result B SetFault) → Result B SetFault
by_keys (Ok a) f = f a
by_keys (Err fault) f = Err (InKeys fault)

-- so does any other
abbrev pub by_set : {A B : Type 0} → Result A SetFault → (A → Result B SetFault) → Result B SetFault
by_set (Ok a) f = f a
by_set (Err fault) f = Err fault

abbrev pub map_set : {A B : Type 0} → (A → B) → Result A SetFault → Result B SetFault
map_set f (Ok a) = Ok (f a)
map_set f (Err fault) = Err fault

-- how a reading of a changeset answers: as it is meant, unless memory ran out
abbrev pub ReadsSet : {A : Type 0} → Result A SetFault → Result A SetFault → Type 0
ReadsSet meant (Ok a) = meant ≡ Ok a
ReadsSet meant (Err BadPath) = meant ≡ Err BadPath
ReadsSet meant (Err (Wants file relative)) = meant ≡ Err (Wants file relative)
ReadsSet meant (Err (InKeys (Missing path))) = meant ≡ Err (InKeys (Missing path))
ReadsSet meant (Err (InKeys (Unknown path))) = meant ≡ Err (InKeys (Unknown path))
ReadsSet meant (Err (InKeys (Bad path))) = meant ≡ Err (InKeys (Bad path))
ReadsSet meant (Err (InKeys (NotFor path dialect))) = meant ≡ Err (InKeys (NotFor path dialect))
ReadsSet meant (Err (InKeys OutOfMemory)) = Unit {0}

-- The changes of a changeset, of which some load files.

-- the bytes of files
abbrev pub Files : Type 0
Files = List (List ℕ)

abbrev pub load_entry : List (List ℕ × Node) → Option Node
load_entry (e ∷ []) = if bytes_eq e.0 (codes "loadData") then Some e.1 else None
load_entry _ = None

abbrev pub load_in : Option (List (List ℕ × Node)) → Option Node
load_in None = None
load_in (Some es) = load_entry es

-- what a node says of a load, if it is one: a map of the one key `loadData`
abbrev pub load_of : Node → Option Node
load_of n = load_in (map_of n)

-- a load takes the next file's bytes; where no more are given it wants its file
abbrev pub a_load : List ℕ → Files → Node → Result AnyChange SetFault
a_load path [] n = by_keys (within path (within (codes "loadData") (load_keys n))) (λ keys. Err (Wants keys.file keys.is_relative))
a_load path (bytes ∷ more) n = by_keys (within path (within (codes "loadData") (load_data bytes n))) (λ x. Ok (LoadData x))

-- any other change needs no file
abbrev pub change_of : Dialect → List ℕ → Files → Node → Option Node → Result AnyChange SetFault
change_of d path given n None = by_keys (within path (any_change d n)) (λ x. Ok x)
change_of d path given n (Some load) = a_load path given load

abbrev pub change_at : Dialect → List ℕ → Files → Node → Result AnyChange SetFault
change_at d path given n = change_of d path given n (load_of n)

-- what is left for the changes behind one
abbrev pub left_after : Files → Option Node → Files
left_after given None = given
left_after given (Some load) = drop 1 given

abbrev pub left_by : Files → Node → Files
left_by given n = left_after given (load_of n)

-- each change of a list in order, from a place on, with the files' bytes that are given
abbrev pub changes_from : Dialect → ℕ → Files → List Node → Result (List AnyChange) SetFault
changes_from d place given [] = Ok []
changes_from d place given (n ∷ ns) =
    by_set (change_at d (item_path (codes "changes") place) given n) (λ x. map_set (λ more. x ∷ more) (changes_from d (place + 1) (left_by given n) ns))

-- The changes of a changeset, and what takes it back.

-- whether it is for the dialect

abbrev pub a_dbms : Dialect → Taken Bool
a_dbms d n = map_found (λ text. is_meant d (names_in text)) (a_text n)

-- what `dbms` says, and true without it
unfoldable pub here_at : Dialect → Taken Bool
here_at d n = map_found (λ here. unwrap_or here true) (at_optional (codes "dbms") (a_dbms d) (value_at (codes "dbms") n))

abbrev pub here_keys : Dialect → Keys Bool
here_keys d = record { names = codes "dbms" ∷ []; says = here_at d }

abbrev pub is_so : Found Bool → Bool
is_so (Ok b) = b
is_so (Err fault) = false

-- whether the changes and the rollback are read: not where the changeset is not here, nor where its `dbms` is bad
abbrev pub is_read : Dialect → Node → Bool
is_read d n = is_so (here_at d n)

-- its changes

abbrev pub is_tagging : AnyChange → Bool
is_tagging (TagDatabase x) = true
is_tagging _ = false

-- the place of the second tag of a changeset, counted from 0
abbrev pub second_tag : List AnyChange → Option ℕ
second_tag changes = option_and_then (λ i. option_map (λ j. suc (i + j)) (position is_tagging (drop (suc i) changes))) (position is_tagging changes)

abbrev pub tag_path : ℕ → List ℕ
tag_path i = item_path (codes "changes") i ++ codes ".tagDatabase"

-- a second tag is bad
abbrev pub if_tagged : List AnyChange → Option ℕ → Found (List AnyChange)
if_tagged changes None = Ok changes
if_tagged changes (Some i) = Err (Bad (tag_path i))

abbrev pub once_tagged : List AnyChange → Found (List AnyChange)
once_tagged changes = if_tagged changes (second_tag changes)

-- each change in order, and then whether there is a second tag
abbrev pub changes_of : Dialect → Files → Option (List Node) → Result (List AnyChange) SetFault
changes_of d given None = Err (InKeys (Bad (codes "changes")))
changes_of d given (Some ns) = by_set (changes_from d 0 given ns) (λ changes. by_keys (once_tagged changes) (λ kept. Ok kept))

abbrev pub changes_in : Dialect → Files → Option Node → Result (List AnyChange) SetFault
changes_in d given None = Ok []
changes_in d given (Some value) = changes_of d given (list_of value)

-- with the bytes of the files that its loads take, as far as they are given
unfoldable pub changes_at : Dialect → Files → Node → Result (List AnyChange) SetFault
changes_at d given n = cond (is_read d n) (changes_in d given (value_at (codes "changes") n)) (Ok [])

-- what takes it back

-- any fault is that of a bad value
abbrev pub as_bad : {A : Type 0} → Found A → Found A
as_bad (Ok a) = Ok a
as_bad (Err fault) = Err (Bad [])

-- the `sql` change of a text
abbrev pub sql_node : List ℕ → Node
sql_node text = MapNode ((codes "sql", MapNode ((codes "sql", TextNode text) ∷ [])) ∷ [])

abbrev pub sql_change : Dialect → List ℕ → Found AnyChange
sql_change d text = as_bad (any_change d (sql_node text))

abbrev pub undoing_by : Dialect → Node → Option (List ℕ) → Found AnyChange
undoing_by d n None = any_change d n
undoing_by d n (Some text) = sql_change d text

-- an item of a rollback block: a change, or the text of an `sql` change
abbrev pub undoing : Dialect → Taken AnyChange
undoing d n = undoing_by d n (printed_of n)

-- the one change of a text, or none of an empty text
abbrev pub undoing_text : Dialect → List ℕ → Found (List AnyChange)
undoing_text d [] = Ok []
undoing_text d (b ∷ bs) = map_found (λ change. change ∷ []) (within (codes "rollback") (sql_change d (b ∷ bs)))

abbrev pub undoing_list : Dialect → Option (List Node) → Found (List AnyChange)
undoing_list d None = Err (Bad (codes "rollback"))
undoing_list d (Some ns) = items_from (codes "rollback") 0 (undoing d) ns

abbrev pub undoing_scalar : Dialect → Node → Option (List ℕ) → Found (List AnyChange)
undoing_scalar d n None = undoing_list d (list_of n)
undoing_scalar d n (Some text) = undoing_text d text

-- a rollback block: null, a text or a list
abbrev pub block : Dialect → Taken (List AnyChange)
block d n = cond (is_null n) (Ok []) (undoing_scalar d n (printed_of n))

abbrev pub block_in : Dialect → Option Node → Found (Option (List AnyChange))
block_in d None = Ok None
block_in d (Some value) = map_found (λ changes. Some changes) (block d value)

unfoldable pub rollback_at : Dialect → Taken (Option (List AnyChange))
rollback_at d n = cond (is_read d n) (block_in d (value_at (codes "rollback") n)) (Ok None)

abbrev pub rollback_keys : Dialect → Keys (Option (List AnyChange))
rollback_keys d = record { names = codes "rollback" ∷ []; says = rollback_at d }
