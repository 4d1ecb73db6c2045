-- What is written of sequences, keys, constraints, indexes and views is read as their changes.
use Rattle.std.proofs.Common.{ap, sym, ◌∙◌, rules}
use Rattle.std.specs.List.{AllByRecursion, list_all}
use Rattle.std.specs.Option.{option_map}
use Rattle.std.specs.Ordering.{int_eq}
use Rattle.std.specs.Prelude.{Bool, List, None, Ok, Option, Some, [], codes, false, if◌then◌else◌, is_some, map, not, pos, refl, true, ℕ, ℤ, ◌&&◌, ◌∷◌, ◌≡◌}
use Rattle.std.specs.Str.{bytes_eq}
use Rattle.lq_base.specs.Name.{is_name, is_object, schema_of, text_of, within as in_schema}
use Rattle.lq_base.specs.declared.dialect.Dialect.{Dialect}
use Rattle.lq_base.specs.declared.dialect.Dialect.TheVariants.{Mysql, Postgresql}
use Rattle.lq_base.specs.declared.name.Name.{Name}
use Rattle.lq_model.specs.Catalogue.{Sequence, View}
use Rattle.lq_model.specs.SqlText.{query_in}
use Rattle.lq_model.specs.TestText.{query_text}
use Rattle.lq_model.specs.declared.constraint.ForeignKey.{ForeignKey}
use Rattle.lq_model.specs.declared.constraint.Key.{Key}
use Rattle.lq_model.specs.declared.constraint.Unique.{Unique}
use Rattle.lq_model.specs.declared.index.Index.{Index}
use Rattle.lq_keys.specs.AddForeignKey.{add_foreign_key}
use Rattle.lq_primary_keys.specs.AddPrimaryKey.{add_primary_key}
use Rattle.lq_uniques.specs.AddUnique.{add_unique}
use Rattle.lq_keys.specs.CreateIndex.{create_index}
use Rattle.lq_keys.specs.OnDelete.{index_column, an_on_delete}
use Rattle.lq_tree.specs.Given.{a_whole, some_names}
use Rattle.lq_tree.specs.Items.{a_column, column_in, is_empty, only, some_items_in}
use Rattle.lq_tree.specs.Keys.{at_optional}
use Rattle.lq_tree.specs.Look.{whole_of}
use Rattle.lq_tree.specs.declared.node.Node.{Node, Text as TextNode, Whole as WholeNode, the_lemmas}
use Rattle.lq_views.specs.CreateSequence.{an_increment, create_sequence, is_not_zero}
use Rattle.lq_views.specs.CreateView.{create_view}
use Rattle.lq_views.specs.QueryText.{a_query}
use Rattle.lq_generate.specs.Created.{foreign_rows, foreign_tree, if_cascade, index_column_rows, index_column_tree, index_rows, index_tree, key_rows, key_tree, listed, sequence_rows, sequence_tree, unique_rows, unique_tree, view_rows, view_tree, named_in}
use Rattle.lq_keys.specs.declared.add_foreign_key.AddForeignKeyConstraint.{AddForeignKeyConstraint}
use Rattle.lq_keys.specs.declared.create_index.CreateIndex.{CreateIndex}
use Rattle.lq_keys.specs.declared.index_column.IndexColumn.{IndexColumn}
use Rattle.lq_primary_keys.specs.declared.add_primary_key.AddPrimaryKey.{AddPrimaryKey}
use Rattle.lq_uniques.specs.declared.add_unique.AddUniqueConstraint.{AddUniqueConstraint}
use Rattle.laws_made.specs.CreatedAs.{so_if, cascade_if, foreign_change, index_change, index_column_of, key_change, sequence_change, unique_change, view_change}
use Rattle.lq_generate.specs.Types.{Row, map_node, under}
use Rattle.laws_generate.proofs.CreatedRead.{Fits, items_are, name_read, name_there, no_catalogue, nowhere, schema_read, so_read, text_named, whole}
use Rattle.laws_generate.proofs.NamesListed.{AreListed, names_read}
use Rattle.laws_generate.proofs.NodesRead.{list_is, map_is, printed_text, text_is}
use Rattle.laws_generate.proofs.RowsRead.{all_known, row_found}

pub whole_is : (z : ℤ) → whole_of (WholeNode z) ≡ Some z
whole_is z = search (rules, the_lemmas)

list_read : (ns : List Name) → AreListed ns → some_names (TextNode (listed ns)) ≡ Ok ns
list_read [] h = (let e = h.some in absurd Prim.cc)
list_read (n ∷ ns) h = names_read n ns h.listed h.names

-- createSequence

increment_read : (z : ℤ) → is_not_zero z ≡ true → an_increment (WholeNode z) ≡ Ok z
increment_read z h = rw (whole_is z, h) refl

whole_read : (z : ℤ) → a_whole (WholeNode z) ≡ Ok z
whole_read z = rw (whole_is z) refl

pub sequence_read : (s : Name) (x : Sequence) → is_name s ≡ true → is_not_zero x.step ≡ true → create_sequence Postgresql (sequence_tree s x) ≡ Ok (sequence_change s x)
unfolding create_sequence
sequence_read s x name moves =
    let rs = sequence_rows s x in
    rw (
      all_known (codes "sequenceName" ∷ codes "startValue" ∷ codes "incrementBy" ∷ codes "schemaName" ∷ codes "catalogName" ∷ codes "remarks" ∷ []) rs refl,
      row_found (codes "sequenceName") rs refl,
      row_found (codes "startValue") rs refl,
      row_found (codes "incrementBy") rs refl,
      nowhere rs refl refl refl,
      name_read s name,
      whole_read x.start,
      increment_read x.step moves,
    ) refl

-- addPrimaryKey

abbrev key_at : List Name → Option Name → Name → AddPrimaryKey
key_at columns name t = record { table_name = t; column_names = columns; constraint_name = name }

pub key_read : (d : Dialect) (t : Name) (k : Key) → is_object d t ≡ true → AreListed k.columns → Fits is_name (named_in d (Some k)) → add_primary_key d (key_tree d t k) ≡ Ok (key_change d t k)
unfolding add_primary_key
key_read d t k name columns named =
    let rs = key_rows d t k in
    rw (
      all_known (codes "tableName" ∷ codes "columnNames" ∷ codes "constraintName" ∷ codes "schemaName" ∷ codes "catalogName" ∷ codes "remarks" ∷ []) rs refl,
      row_found (codes "tableName") rs refl,
      row_found (codes "columnNames") rs refl,
      row_found (codes "constraintName") rs refl,
      schema_read d (codes "schemaName") t rs name refl refl,
      no_catalogue rs refl refl,
      name_read (text_of t) (text_named d t name),
      list_read k.columns columns,
      name_there (codes "constraintName") (named_in d (Some k)) named,
    ) (ap (λ n. Ok (key_at k.columns (named_in d (Some k)) n)) (whole d t name))

-- addUniqueConstraint

abbrev unique_at : List Name → Name → Name → AddUniqueConstraint
unique_at columns name t = record { table_name = t; column_names = columns; constraint_name = Some name }

pub unique_read : (d : Dialect) (t : Name) (u : Unique) → is_object d t ≡ true → AreListed u.columns → is_name u.name ≡ true → add_unique d (unique_tree t u) ≡ Ok (unique_change t u)
unfolding add_unique
unique_read d t u name columns named =
    let rs = unique_rows t u in
    rw (
      all_known (codes "tableName" ∷ codes "columnNames" ∷ codes "constraintName" ∷ codes "schemaName" ∷ codes "catalogName" ∷ codes "remarks" ∷ []) rs refl,
      row_found (codes "tableName") rs refl,
      row_found (codes "columnNames") rs refl,
      row_found (codes "constraintName") rs refl,
      schema_read d (codes "schemaName") t rs name refl refl,
      no_catalogue rs refl refl,
      name_read (text_of t) (text_named d t name),
      list_read u.columns columns,
      name_read u.name named,
    ) (ap (λ n. Ok (unique_at u.columns u.name n)) (whole d t name))

-- createIndex

index_column_read : (n : Name) → is_name n ≡ true → index_column (map_node (index_column_rows n)) ≡ Ok (index_column_of n)
unfolding index_column
index_column_read n h =
    let rs = index_column_rows n in
    rw (all_known (codes "name" ∷ codes "remarks" ∷ []) rs refl, row_found (codes "name") rs refl, name_read n h) refl

index_item : (n : Name) → is_name n ≡ true → a_column index_column (index_column_tree n) ≡ Ok (index_column_of n)
index_item n h = ap (column_in index_column (index_column_tree n)) (one (codes "column") (map_node (index_column_rows n)) refl) ∙ rw (index_column_read n h) refl where
  one : (k : List ℕ) (n : Node) → bytes_eq k k ≡ true → only k (under k n) ≡ Some n
  one k n same = rw (map_is ((k, n) ∷ []), same) refl

index_columns_read : (ns : List Name) → is_empty ns ≡ false → AllByRecursion (λ n. is_name n ≡ true) ns → some_items_in (codes "columns") (a_column index_column) (Some (map index_column_tree ns)) ≡ Ok (map index_column_of ns)
index_columns_read [] some h = absurd Prim.cc
index_columns_read (n ∷ ns) some h = items_are (a_column index_column) index_column_tree index_column_of (λ n. is_name n ≡ true) index_item (codes "columns") 0 (n ∷ ns) h

abbrev index_at : Name → List IndexColumn → Option Bool → Name → CreateIndex
index_at name columns unique t = record { index_name = Some name; table_name = t; columns = columns; unique = unique }

pub index_read : (d : Dialect) (t : Name) (x : Index) → is_object d t ≡ true → is_empty x.columns ≡ false → AllByRecursion (λ n. is_name n ≡ true) x.columns → is_name x.name ≡ true → create_index d (index_tree t x) ≡ Ok (index_change t x)
unfolding create_index
index_read d t x name some columns named =
    let rs = index_rows t x in
    rw (
      all_known (codes "indexName" ∷ codes "tableName" ∷ codes "columns" ∷ codes "unique" ∷ codes "schemaName" ∷ codes "catalogName" ∷ codes "remarks" ∷ []) rs refl,
      row_found (codes "indexName") rs refl,
      row_found (codes "tableName") rs refl,
      row_found (codes "columns") rs refl,
      row_found (codes "unique") rs refl,
      schema_read d (codes "schemaName") t rs name refl refl,
      no_catalogue rs refl refl,
      name_read x.name named,
      name_read (text_of t) (text_named d t name),
      list_is (map index_column_tree x.columns),
      index_columns_read x.columns some columns,
      so_read (codes "unique") x.unique,
    ) (ap (λ n. Ok (index_at x.name (map index_column_of x.columns) (so_if x.unique) n)) (whole d t name))

-- addForeignKeyConstraint

cascade_read : (key : List ℕ) (b : Bool) → at_optional key an_on_delete (if_cascade b) ≡ Ok (cascade_if b)
cascade_read key true = rw (text_is (codes "CASCADE")) refl
cascade_read key false = refl

abbrev foreign_at : ForeignKey → Name → Name → AddForeignKeyConstraint
foreign_at f t table = foreign_change t (record f { table = table })

pub foreign_read : (d : Dialect) (t : Name) (f : ForeignKey) → is_object d t ≡ true → is_name f.name ≡ true → is_object d f.table ≡ true → AreListed f.columns → AreListed f.targets → add_foreign_key d (foreign_tree t f) ≡ Ok (foreign_change t f)
unfolding add_foreign_key
foreign_read d t f name named table columns targets =
    let rs = foreign_rows t f in
    rw (
      row_found (codes "deferrable") rs refl,
      row_found (codes "initiallyDeferred") rs refl,
      row_found (codes "validate") rs refl,
      row_found (codes "onUpdate") rs refl,
      all_known (codes "constraintName" ∷ codes "baseTableName" ∷ codes "baseColumnNames" ∷ codes "referencedTableName" ∷ codes "referencedColumnNames" ∷ codes "onDelete" ∷ codes "baseTableSchemaName" ∷ codes "referencedTableSchemaName" ∷ codes "catalogName" ∷ codes "remarks" ∷ codes "deferrable" ∷ codes "initiallyDeferred" ∷ codes "validate" ∷ codes "onUpdate" ∷ []) rs refl,
      row_found (codes "constraintName") rs refl,
      row_found (codes "baseTableName") rs refl,
      row_found (codes "baseColumnNames") rs refl,
      row_found (codes "referencedTableName") rs refl,
      row_found (codes "referencedColumnNames") rs refl,
      row_found (codes "onDelete") rs refl,
      schema_read d (codes "baseTableSchemaName") t rs name refl refl,
      schema_read d (codes "referencedTableSchemaName") f.table rs table refl refl,
      no_catalogue rs refl refl,
      name_read f.name named,
      name_read (text_of t) (text_named d t name),
      list_read f.columns columns,
      name_read (text_of f.table) (text_named d f.table table),
      list_read f.targets targets,
      cascade_read (codes "onDelete") f.cascade,
    ) (ap (λ n. Ok (foreign_at f n (in_schema (schema_of f.table) (text_of f.table)))) (whole d t name) ∙ ap (λ n. Ok (foreign_at f t n)) (whole d f.table table))

-- createView

query_read : (d : Dialect) (it : View) → query_in d (query_text d it.query) ≡ Some it.query → a_query d (TextNode (query_text d it.query)) ≡ Ok (record { dialect = d; text = query_text d it.query })
query_read d it h = rw (printed_text (query_text d it.query), h) refl

pub view_read : (d : Dialect) (v : Name) (it : View) → is_name v ≡ true → query_in d (query_text d it.query) ≡ Some it.query → create_view d (view_tree d v it) ≡ Ok (view_change d v it)
unfolding create_view
view_read d v it name spelled =
    let rs = view_rows d v it in
    rw (
      all_known (codes "viewName" ∷ codes "selectQuery" ∷ codes "replaceIfExists" ∷ codes "schemaName" ∷ codes "catalogName" ∷ codes "remarks" ∷ []) rs refl,
      row_found (codes "viewName") rs refl,
      row_found (codes "selectQuery") rs refl,
      row_found (codes "replaceIfExists") rs refl,
      nowhere rs refl refl refl,
      name_read v name,
      query_read d it spelled,
    ) refl
