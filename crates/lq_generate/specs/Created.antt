-- The tree of the createTable of a table.
use Rattle.std.specs.List.{flat_map}
use Rattle.std.specs.Option.{option_map}
use Rattle.std.specs.Prelude.{Bool, List, None, Option, Some, [], codes, false, if◌then◌else◌, map, not, true, ℕ, ℤ, ◌&&◌, ◌++◌, ◌∷◌}
use Rattle.lq_base.specs.Moment.{is_moment, moment_text}
use Rattle.lq_base.specs.Name.{text_of}
use Rattle.lq_base.specs.Number.{fixed_text}
use Rattle.lq_base.specs.declared.dialect.Dialect.{Dialect}
use Rattle.lq_base.specs.declared.dialect.Dialect.TheVariants.{Mysql, Postgresql}
use Rattle.lq_base.specs.declared.name.Name.{Name}
use Rattle.lq_base.specs.declared.value.Value.{Value}
use Rattle.lq_base.specs.declared.value.Value.TheVariants as value
use Rattle.lq_generate.specs.Types.{Row, map_node, schema_at, type_text, under}
use Rattle.lq_model.specs.Catalogue.{Sequence, Table, View}
use Rattle.lq_model.specs.TestText.{query_text}
use Rattle.lq_model.specs.declared.column.Column.{Column}
use Rattle.lq_model.specs.declared.constraint.ForeignKey.{ForeignKey}
use Rattle.lq_model.specs.declared.constraint.Key.{Key}
use Rattle.lq_model.specs.declared.constraint.Unique.{Unique}
use Rattle.lq_model.specs.declared.index.Index.{Index}
use Rattle.lq_tree.specs.declared.node.Node.{List as ListNode, Node, Text as TextNode, Truth as TruthNode, Whole as WholeNode}

-- a default by the key of its sort

abbrev pub text_at : Option Value → Option Node
text_at (Some (value.Text t)) = Some (TextNode t)
text_at _ = None

-- a whole number, or the text of a decimal
abbrev pub number_at : Option Value → Option Node
number_at (Some (value.Int n)) = Some (WholeNode n)
number_at (Some (value.Fixed units scale)) = Some (TextNode (fixed_text units scale))
number_at _ = None

abbrev pub truth_at : Option Value → Option Node
truth_at (Some (value.Bool b)) = Some (TruthNode b)
truth_at _ = None

-- the 23 bytes of a moment; no column of a sound catalogue has another number there
unfoldable pub date_text : ℤ → List ℕ
date_text ms = if is_moment ms then moment_text ms else []

abbrev pub date_at : Option Value → Option Node
date_at (Some (value.Moment ms)) = Some (TextNode (date_text ms))
date_at _ = None

-- true, and nothing for false
abbrev pub if_true : Bool → Option Node
if_true b = if b then Some (TruthNode true) else None

-- the name of a numbered column's key
abbrev pub named_in : Dialect → Option Key → Option Name
named_in Postgresql key = option_map (λ (k : Key). k.name) key
named_in Mysql key = None

abbrev pub key_name_of : Dialect → Option Key → Column → Option Name
key_name_of d key c = if c.numbered then named_in d key else None

abbrev pub constraints_rows : Dialect → Option Key → Column → List Row
constraints_rows d key c =
    (codes "nullable", if c.nullable then None else Some (TruthNode false))
    ∷ (codes "primaryKey", if_true c.numbered)
    ∷ (codes "primaryKeyName", option_map (λ (n : Name). TextNode n) (key_name_of d key c))
    ∷ []

-- nothing of a column that is nullable and not numbered
abbrev pub constraints_at : Dialect → Option Key → Column → Option Node
constraints_at d key c = if c.nullable && not c.numbered then None else Some (map_node (constraints_rows d key c))

abbrev pub default_rows : Option Value → List Row
default_rows default =
    (codes "defaultValue", text_at default)
    ∷ (codes "defaultValueBoolean", truth_at default)
    ∷ (codes "defaultValueDate", date_at default)
    ∷ (codes "defaultValueNumeric", number_at default)
    ∷ []

abbrev pub column_rows : Dialect → Option Key → Column → List Row
column_rows d key c =
    (codes "autoIncrement", if_true c.numbered)
    ∷ (codes "constraints", constraints_at d key c)
    ∷ (default_rows c.default
    ++ (codes "name", Some (TextNode c.name))
    ∷ (codes "type", Some (TextNode (type_text c.kind)))
    ∷ [])

abbrev pub column_tree : Dialect → Option Key → Column → Node
column_tree d key c = under (codes "column") (map_node (column_rows d key c))

abbrev pub created_rows : Dialect → Name → Table → List Row
created_rows d t it =
    (codes "columns", Some (ListNode (map (column_tree d it.key) it.columns)))
    ∷ (codes "schemaName", schema_at t)
    ∷ (codes "tableName", Some (TextNode (text_of t)))
    ∷ []

-- what createTable takes
abbrev pub created_tree : Dialect → Name → Table → Node
created_tree d t it = map_node (created_rows d t it)

-- The trees of the other changes of a generated changelog.

abbrev pub after_comma : Name → List ℕ
after_comma n = 44 ∷ n

-- names with a comma between
abbrev pub listed : List Name → List ℕ
listed [] = []
listed (n ∷ ns) = n ++ flat_map after_comma ns

-- createSequence

abbrev pub sequence_rows : Name → Sequence → List Row
sequence_rows s x =
    (codes "incrementBy", Some (WholeNode x.step))
    ∷ (codes "sequenceName", Some (TextNode s))
    ∷ (codes "startValue", Some (WholeNode x.start))
    ∷ []

abbrev pub sequence_tree : Name → Sequence → Node
sequence_tree s x = map_node (sequence_rows s x)

-- addPrimaryKey

abbrev pub key_rows : Dialect → Name → Key → List Row
key_rows d t k =
    (codes "columnNames", Some (TextNode (listed k.columns)))
    ∷ (codes "constraintName", option_map (λ (n : Name). TextNode n) (named_in d (Some k)))
    ∷ (codes "schemaName", schema_at t)
    ∷ (codes "tableName", Some (TextNode (text_of t)))
    ∷ []

abbrev pub key_tree : Dialect → Name → Key → Node
key_tree d t k = map_node (key_rows d t k)

-- addUniqueConstraint

abbrev pub unique_rows : Name → Unique → List Row
unique_rows t u =
    (codes "columnNames", Some (TextNode (listed u.columns)))
    ∷ (codes "constraintName", Some (TextNode u.name))
    ∷ (codes "schemaName", schema_at t)
    ∷ (codes "tableName", Some (TextNode (text_of t)))
    ∷ []

abbrev pub unique_tree : Name → Unique → Node
unique_tree t u = map_node (unique_rows t u)

-- createIndex

abbrev pub index_column_rows : Name → List Row
index_column_rows n = (codes "name", Some (TextNode n)) ∷ []

abbrev pub index_column_tree : Name → Node
index_column_tree n = under (codes "column") (map_node (index_column_rows n))

abbrev pub index_rows : Name → Index → List Row
index_rows t x =
    (codes "columns", Some (ListNode (map index_column_tree x.columns)))
    ∷ (codes "indexName", Some (TextNode x.name))
    ∷ (codes "schemaName", schema_at t)
    ∷ (codes "tableName", Some (TextNode (text_of t)))
    ∷ (codes "unique", if_true x.unique)
    ∷ []

abbrev pub index_tree : Name → Index → Node
index_tree t x = map_node (index_rows t x)

-- addForeignKeyConstraint

abbrev pub if_cascade : Bool → Option Node
if_cascade b = if b then Some (TextNode (codes "CASCADE")) else None

-- the rows before the referenced side
abbrev pub foreign_front : Name → ForeignKey → List Row
foreign_front t f =
    (codes "baseColumnNames", Some (TextNode (listed f.columns)))
    ∷ (codes "baseTableName", Some (TextNode (text_of t)))
    ∷ (codes "baseTableSchemaName", schema_at t)
    ∷ (codes "constraintName", Some (TextNode f.name))
    ∷ (codes "onDelete", if_cascade f.cascade)
    ∷ []

abbrev pub foreign_rows : Name → ForeignKey → List Row
foreign_rows t f =
    foreign_front t f
    ++ (codes "referencedColumnNames", Some (TextNode (listed f.targets)))
    ∷ (codes "referencedTableName", Some (TextNode (text_of f.table)))
    ∷ (codes "referencedTableSchemaName", schema_at f.table)
    ∷ []

abbrev pub foreign_tree : Name → ForeignKey → Node
foreign_tree t f = map_node (foreign_rows t f)

-- createView

abbrev pub view_rows : Dialect → Name → View → List Row
view_rows d v it =
    (codes "selectQuery", Some (TextNode (query_text d it.query)))
    ∷ (codes "viewName", Some (TextNode v))
    ∷ []

abbrev pub view_tree : Dialect → Name → View → Node
view_tree d v it = map_node (view_rows d v it)
