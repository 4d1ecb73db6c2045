-- The changelog that makes a catalogue without its rows, as a tree and as a text.
use Rattle.std.specs.List.{flat_map, list_any}
use Rattle.std.specs.Prelude.{Bool, List, None, Option, Some, [], codes, cond, filter, if◌then◌else◌, map, not, ℕ, ◌++◌, ◌||◌, ◌∷◌}
use Rattle.lq_base.specs.Name.{is_named}
use Rattle.lq_base.specs.declared.dialect.Dialect.{Dialect}
use Rattle.lq_base.specs.declared.name.Name.{Name}
use Rattle.lq_generate.specs.Created.{created_tree, foreign_tree, index_tree, key_tree, sequence_tree, unique_tree, view_tree}
use Rattle.lq_generate.specs.Types.{Row, map_node, under}
use Rattle.lq_jsontext.specs.JsonText.{json_line}
use Rattle.lq_model.specs.Catalogue.{Catalogue, Sequence, Table, View}
use Rattle.lq_model.specs.declared.column.Column.{Column}
use Rattle.lq_model.specs.declared.constraint.ForeignKey.{ForeignKey}
use Rattle.lq_model.specs.declared.constraint.Key.{Key}
use Rattle.lq_model.specs.declared.constraint.Unique.{Unique}
use Rattle.lq_model.specs.declared.index.Index.{Index}
use Rattle.lq_track.specs.Lock.{lock_table}
use Rattle.lq_track.specs.Log.{log_table}
use Rattle.lq_tree.specs.Items.{is_empty}
use Rattle.lq_tree.specs.declared.node.Node.{List as ListNode, Node, Text as TextNode}

-- a change as an item of a changeset's list

abbrev pub sequence_item : Name × Sequence → Node
sequence_item s = under (codes "createSequence") (sequence_tree s.0 s.1)

abbrev pub table_item : Dialect → Name × Table → Node
table_item d e = under (codes "createTable") (created_tree d e.0 e.1)

abbrev pub key_items : Dialect → Name → Option Key → List Node
key_items d t None = []
key_items d t (Some k) = under (codes "addPrimaryKey") (key_tree d t k) ∷ []

-- the key of a numbered column stands in the createTable
abbrev pub is_numbered : Table → Bool
is_numbered it = list_any (λ (c : Column). c.numbered) it.columns

abbrev pub own_key_items : Dialect → Name × Table → List Node
own_key_items d e = cond (is_numbered e.1) [] (key_items d e.0 e.1.key)

abbrev pub unique_item : Name → Unique → Node
unique_item t u = under (codes "addUniqueConstraint") (unique_tree t u)

abbrev pub index_item : Name → Index → Node
index_item t x = under (codes "createIndex") (index_tree t x)

-- what is added to a table before any foreign key
abbrev pub added_items : Dialect → Name × Table → List Node
added_items d e = own_key_items d e ++ (map (unique_item e.0) e.1.uniques ++ map (index_item e.0) e.1.indexes)

abbrev pub foreign_item : Name → ForeignKey → Node
foreign_item t f = under (codes "addForeignKeyConstraint") (foreign_tree t f)

abbrev pub foreign_items : Name × Table → List Node
foreign_items e = map (foreign_item e.0) e.1.foreign

abbrev pub view_item : Dialect → Name × View → Node
view_item d v = under (codes "createView") (view_tree d v.0 v.1)

-- a changeset

abbrev pub set_rows : List ℕ → List ℕ → List Node → List Row
set_rows id author changes =
    (codes "author", Some (TextNode author))
    ∷ (codes "changes", Some (ListNode changes))
    ∷ (codes "id", Some (TextNode id))
    ∷ []

abbrev pub set_tree : List ℕ → List ℕ → List Node → Node
set_tree id author changes = under (codes "changeSet") (map_node (set_rows id author changes))

-- the changesets that have changes
abbrev pub set_trees : List ℕ → List (List ℕ × List Node) → List Node
set_trees author [] = []
set_trees author (s ∷ ss) = if is_empty s.1 then set_trees author ss else set_tree s.0 author s.1 ∷ set_trees author ss

-- each changeset's id and its changes

abbrev pub first_sets : Dialect → Catalogue → List (List ℕ × List Node)
first_sets d c =
    (codes "1", map sequence_item c.sequences)
    ∷ (codes "2", map (table_item d) c.tables)
    ∷ (codes "3", flat_map (added_items d) c.tables)
    ∷ []

-- foreign keys when all tables have their keys, views when all tables stand
abbrev pub last_sets : Dialect → Catalogue → List (List ℕ × List Node)
last_sets d c =
    (codes "4", flat_map foreign_items c.tables)
    ∷ (codes "5", map (view_item d) c.views)
    ∷ []

abbrev pub five_sets : Dialect → Catalogue → List (List ℕ × List Node)
five_sets d c = first_sets d c ++ last_sets d c

abbrev pub generated_tree : Dialect → List ℕ → Catalogue → Node
generated_tree d author c = under (codes "databaseChangeLog") (ListNode (set_trees author (five_sets d c)))

-- what is printed
abbrev pub generated_text : Dialect → List ℕ → Catalogue → List ℕ
generated_text d author c = json_line (generated_tree d author c)

-- The tables other than the tracking tables.

abbrev pub is_tracking_table : Name → Bool
is_tracking_table t = is_named log_table t || is_named lock_table t

abbrev pub untracked : List (Name × Table) → List (Name × Table)
untracked ts = filter (λ (e : Name × Table). not (is_tracking_table e.0)) ts
