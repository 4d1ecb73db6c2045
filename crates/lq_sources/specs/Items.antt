-- The items of a changelog's list.
use Rattle.std.specs.Option.{unwrap_or}
use Rattle.std.specs.Prelude.{Bool, Err, List, None, Ok, Option, Result, Some, [], codes, cond, false, if◌then◌else◌, true, ℕ, ◌+◌, ◌∷◌}
use Rattle.std.specs.Str.{bytes_eq}
use Rattle.lq_base.specs.declared.fault.KindFault.TheVariants.{Bad}
use Rattle.lq_paths.specs.declared.path.Format.{Format}
use Rattle.lq_props.specs.Props.{defines, or_else, own}
use Rattle.lq_props.specs.Replaced.{replaced}
use Rattle.lq_props.specs.declared.scope.Scope.{Scope}
use Rattle.lq_props.specs.declared.scope.Scope.TheVariants.{Command, File, Global}
use Rattle.lq_sources.specs.declared.fault.Lack.{Lack}
use Rattle.lq_sources.specs.declared.fault.What.{What}
use Rattle.lq_sources.specs.declared.item.Included.{Included}
use Rattle.lq_sources.specs.declared.item.Item.{Item}
use Rattle.lq_sources.specs.declared.item.Item.TheVariants.{Include, IncludeAll, Other, Property as PropertyItem}
use Rattle.lq_sources.specs.declared.item.Property.{Property}
use Rattle.lq_sources.specs.declared.reading.Reading.{Reading}
use Rattle.lq_tree.specs.Given.{a_text, a_truth}
use Rattle.lq_tree.specs.Items.{item_path}
use Rattle.lq_tree.specs.Keys.{at_optional, at_required, known}
use Rattle.lq_tree.specs.Look.{Found, Taken, and_then, list_of, map_of, value_at, within}
use Rattle.lq_tree.specs.declared.node.Node.{List as ListNode, Map as MapNode, Node, Null, Text, Truth, Whole, fold-Node}
use Rattle.lq_tree.specs.declared.node.Node.TheOpen.{Node-F}

abbrev pub listed : Option (List Node) → Found (List Node)
listed None = Err (Bad [])
listed (Some ns) = Ok ns

-- the items of a whole file's tree
unfoldable pub items_of : Taken (List Node)
items_of tree = and_then (known (codes "databaseChangeLog" ∷ []) tree) (λ _. at_required (codes "databaseChangeLog") (λ n. listed (list_of n)) (value_at (codes "databaseChangeLog") tree))

-- the place of an item
abbrev pub place : ℕ → List ℕ
place i = item_path (codes "databaseChangeLog") i

-- the one key of an item with its value
abbrev one_entry : List (List ℕ × Node) → Option (List ℕ × Node)
one_entry (e ∷ []) = Some e
one_entry _ = None

abbrev pub entry_in : Option (List (List ℕ × Node)) → Option (List ℕ × Node)
entry_in None = None
entry_in (Some es) = one_entry es

abbrev pub entry_of : Node → Option (List ℕ × Node)
entry_of item = entry_in (map_of item)

-- the path at this key that is included, and whether it is from the including file's folder
unfoldable pub included : List ℕ → Taken Included
included key n =
    and_then (known (key ∷ codes "relativeToChangelogFile" ∷ []) n) (λ _.
    and_then (at_required key a_text (value_at key n)) (λ path.
    and_then (at_optional (codes "relativeToChangelogFile") a_truth (value_at (codes "relativeToChangelogFile") n)) (λ relative.
    Ok (record { path = path; relative = unwrap_or relative false }))))

-- a property, which is global where it does not say otherwise
unfoldable pub property : Taken Bool → Taken Property
property here n =
    and_then (known (codes "name" ∷ codes "value" ∷ codes "global" ∷ codes "dbms" ∷ []) n) (λ _.
    and_then (at_required (codes "name") a_text (value_at (codes "name") n)) (λ name.
    and_then (at_required (codes "value") a_text (value_at (codes "value") n)) (λ value.
    and_then (at_optional (codes "global") a_truth (value_at (codes "global") n)) (λ global.
    and_then (here n) (λ is_here.
    Ok (record { name = name; value = value; global = unwrap_or global true; here = is_here }))))))

-- an item by its key
unfoldable pub item_at : Taken Bool → List ℕ → Taken Item
item_at here key n =
    if bytes_eq key (codes "include") then within key (and_then (included (codes "file") n) (λ it. Ok (Include it)))
    else if bytes_eq key (codes "includeAll") then within key (and_then (included (codes "path") n) (λ it. Ok (IncludeAll it)))
    else if bytes_eq key (codes "property") then within key (and_then (property here n) (λ it. Ok (PropertyItem it)))
    else Ok Other

-- What a loading makes of files, but for their includes and properties.

pub record Meaning (G : Type 0) : Type 0 where
  -- the tree of a file's bytes
  pub tree : Format → List ℕ → Result Node What
  -- whether a property is for the dialect, by its map
  pub here : Taken Bool
  -- what has been gathered with one more item of the file at a path, which may be the root: its key, with the value. The bytes are those of the files that it wanted so far
  pub gathers : List (List ℕ) → Bool → List ℕ → List ℕ → Node → G → Result G Lack

-- Properties put into a tree.

-- the values that names have been given, by scope
abbrev pub Values : Type 0
Values = Scope → List ℕ → Option (List ℕ)

-- the value of a name in a file: the command line's, else the file's own, else the global one
abbrev pub value_in : Values → List ℕ → List ℕ → Option (List ℕ)
value_in values file name = or_else (values Command name) (or_else (values (File file) name) (values Global name))

-- one level, with the values put into each tree inside
abbrev filled_in : (List ℕ → Option (List ℕ)) → Node-F Node → Node
filled_in value (Node-F.Text t) = Text (replaced value t)
filled_in value (Node-F.Whole n) = Whole n
filled_in value (Node-F.Truth b) = Truth b
filled_in value Node-F.Null = Null
filled_in value (Node-F.List ns) = ListNode ns
filled_in value (Node-F.Map es) = MapNode es

-- a tree with the values put into each of its texts; its keys stay
abbrev pub filled : (List ℕ → Option (List ℕ)) → Node → Node
filled value n = fold-Node Node (filled_in value) n

-- What was read so far.

pub record SoFar : Type 0 where
  -- how many files, and how many bytes they have
  pub files : ℕ
  pub bytes : ℕ
  -- the properties that were defined
  pub values : Values
  -- how many changesets there are
  pub sets : ℕ

abbrev pub so_far : Reading → SoFar
so_far r = record { files = r.files; bytes = r.bytes; values = own r.props; sets = r.sets }

-- the first value of a name on the command line stays
abbrev pub given_values : List (List ℕ × List ℕ) → Values → Values
given_values [] values = values
given_values (e ∷ es) values = given_values es (defines values Command e.0 e.1)

-- before the root is read
abbrev pub nothing_yet : List (List ℕ × List ℕ) → SoFar
nothing_yet given = record { files = 0; bytes = 0; values = given_values given (λ scope name. None); sets = 0 }

-- one more file, of so many bytes
abbrev pub with_file : ℕ → SoFar → SoFar
with_file length s = record s { files = s.files + 1; bytes = s.bytes + length }

abbrev pub with_set : SoFar → SoFar
with_set s = record s { sets = s.sets + 1 }

-- the first value of a name in its scope stays; a property that is not here is passed over
abbrev pub with_property : List ℕ → Property → SoFar → SoFar
with_property path it s = cond it.here (record s { values = defines s.values (cond it.global Global (File path)) it.name it.value }) s
