-- What a sound catalogue is.
use Rattle.std.specs.List.{flat_map, list_all, list_any}
use Rattle.std.specs.List.Sorted.{IsStrictlySortedBy}
use Rattle.std.specs.Map.{keys_of}
use Rattle.std.specs.Option.{unwrap_or}
use Rattle.std.specs.Ordering.{int_eq}
use Rattle.std.specs.Prelude.{Bool, List, Option, Some, [], codes, false, if◌then◌else◌, is_none, is_some, length, nat_le, not, pos, suc, take, true, zero, ℕ, ◌&&◌, ◌++◌, ◌==◌, ◌||◌, ◌∷◌, ◌≡◌}
use Rattle.std.specs.Str.{is_utf8}
use Rattle.lq_base.specs.Kind.{is_kind}
use Rattle.lq_base.specs.Name.{is_elsewhere, is_name, is_name_key, is_named, name_cmp, text_of}
use Rattle.lq_base.specs.Value.{is_value_of}
use Rattle.lq_base.specs.declared.dialect.Dialect.{Dialect}
use Rattle.lq_base.specs.declared.dialect.Dialect.TheVariants.{Mysql, Postgresql}
use Rattle.lq_base.specs.declared.name.Name.{Name}
use Rattle.lq_base.specs.declared.value.Value.TheVariants as value
use Rattle.lq_model.specs.Catalogue.{Catalogue, Sequence, Table, View, column_lists, column_names, is_empty, is_in, key_list, own_names, repeats, row_fits, same_names, table_of, the_table}
use Rattle.lq_model.specs.Comparison.{compares_wrongly, is_spelled}
use Rattle.lq_model.specs.Kinds.{is_number, kinds_differ}
use Rattle.lq_model.specs.NameSpaces.{AreApart, AreApartWithin, object_names}
use Rattle.lq_model.specs.Plan.{has_null, has_orphans, has_twins, is_loose, is_overfull}
use Rattle.lq_model.specs.Truth.{names_in}
use Rattle.lq_model.specs.declared.column.Column.{Column}
use Rattle.lq_model.specs.declared.constraint.Key.{Key}
use Rattle.lq_model.specs.declared.query.Wanted.{Wanted}
use Rattle.lq_model.specs.declared.query.Wanted.TheVariants as wanted

abbrev pub default_fits : Column → Bool
default_fits c = is_value_of c.kind (unwrap_or c.default value.Null)

-- at least one of a table's columns, none twice
abbrev pub are_columns : Table → List Name → Bool
are_columns it ns = not (is_empty ns) && (not (repeats ns) && list_all (λ n. is_in n (column_names it)) ns)

abbrev pub is_not_null : Table → Name → Bool
is_not_null it n = list_all (λ c. not (is_named n c.name) || not c.nullable) it.columns

-- the key is of that column alone
abbrev pub is_key_of : Option Key → Name → Bool
is_key_of key n = list_any (λ k. same_names k.columns (n ∷ [])) (key_list key)

-- a numbered column is of a number's kind, has no default and is the only column of the key: so a table has at most one
abbrev pub is_numbered_well : Table → Column → Bool
is_numbered_well it c = not c.numbered || (is_number c.kind && (is_none c.default && is_key_of it.key c.name))

abbrev pub primary : Name
primary = codes "PRIMARY"

-- under MySQL each key is named PRIMARY
abbrev pub is_key_name : Dialect → Name → Bool
is_key_name Postgresql n = true
is_key_name Mysql n = is_named n primary

pub record IsSoundTable (d : Dialect) (it : Table) : Type 0 where
  -- at least one column
  pub some : is_empty it.columns ≡ false
  -- the columns' names differ
  pub differ : repeats (column_names it) ≡ false
  pub kinds : list_all (λ c. is_kind c.kind) it.columns ≡ true
  -- each row has for each column null or a value of its kind
  pub rows : list_all (row_fits it.columns) it.rows ≡ true
  pub defaults : list_all default_fits it.columns ≡ true
  -- the key, unique constraints, indexes and foreign keys name at least one column of it, none twice
  pub lists : list_all (are_columns it) (column_lists it) ≡ true
  pub foreign : list_all (λ f. are_columns it f.columns) it.foreign ≡ true
  -- the columns of the key are NOT NULL
  pub key : list_all (λ k. list_all (is_not_null it) k.columns) (key_list it.key) ≡ true
  pub key_named : list_all (λ k. is_key_name d k.name) (key_list it.key) ≡ true
  pub numbered : list_all (is_numbered_well it) it.columns ≡ true
  -- the names of its constraints differ in their spaces
  pub within : AreApartWithin d it
  -- what stands in it has names in `public`
  pub public : list_any is_elsewhere (own_names it) ≡ false

abbrev pub wanted_names : Wanted → List Name
wanted_names (wanted.Columns ns) = ns
wanted_names _ = []

-- a view lists, as its own columns, columns of a table that is there; its test can be written, names columns of the table and compares what may be compared
abbrev pub is_view : Catalogue → View → Bool
is_view c v =
    let it = the_table c v.query.table in
    is_some (table_of c v.query.table)
    && (are_columns it v.columns
    && (list_all (λ n. is_in n (column_names it)) (names_in v.query.test)
    && (same_names (wanted_names v.query.wanted) v.columns
    && (is_spelled v.query.test && not (compares_wrongly it.columns v.query.test)))))

-- whether a foreign key and its targets differ in number or kinds
abbrev pub is_unlike : Catalogue → Bool
is_unlike c = list_any (λ e. list_any (kinds_differ c e.1) e.1.foreign) c.tables

-- MySQL has no sequences
abbrev pub may_have : Dialect → List (Name × Sequence) → Bool
may_have Postgresql ss = true
may_have Mysql ss = is_empty ss

-- MySQL has no schema but `public`
abbrev pub may_name : Dialect → List Name → Bool
may_name Postgresql ns = true
may_name Mysql ns = not (list_any is_elsewhere ns)

pub record IsSound (d : Dialect) (c : Catalogue) : Type 0 where
  -- the maps are in the order of their names
  pub ordered : IsStrictlySortedBy name_cmp (keys_of c.tables)
  pub ordered_views : IsStrictlySortedBy name_cmp (keys_of c.views)
  pub ordered_sequences : IsStrictlySortedBy name_cmp (keys_of c.sequences)
  pub tables : (t : Name) (it : Table) → table_of c t ≡ Some it → IsSoundTable d it
  pub views : list_all (λ e. is_view c e.1) c.views ≡ true
  -- names differ in their spaces
  pub apart : AreApart d c
  pub schemas : may_name d (object_names c) ≡ true
  -- no sequence has the step 0
  pub steps : list_any (λ e. int_eq e.1.step (pos 0)) c.sequences ≡ false
  pub sequences : may_have d c.sequences ≡ true
  pub no_null : has_null c ≡ false
  pub no_twins : has_twins c ≡ false
  -- each foreign key's targets are the key or a unique constraint, with equal kinds, and each row has its parent
  pub aimed : is_loose c ≡ false
  pub alike : is_unlike c ≡ false
  pub parents : has_orphans c ≡ false
  -- at most 100,000 rows in a table
  pub small : is_overfull c ≡ false

-- The names of constraints and indexes that are not named.

-- the longest text of whole characters at the front, of at most so many bytes
unfoldable pub cut : ℕ → List ℕ → List ℕ
cut zero bytes = []
cut (suc most) bytes = if is_utf8 (take (suc most) bytes) then take (suc most) bytes else cut most bytes

-- two small letters and `_`
abbrev pub is_prefix : List ℕ → Bool
is_prefix bytes = length bytes == 3 && list_all (λ byte. nat_le 95 byte && nat_le byte 122) bytes

-- `PREFIX_TABLE`, with one `_COLUMN` for each column
abbrev pub default_name : List ℕ → Name → List Name → Name
default_name prefix table columns = cut 63 (prefix ++ text_of table ++ flat_map (λ column. codes "_" ++ text_of column) columns)

-- a primary key's
unfoldable pub key_name : Dialect → Name → Name
key_name Postgresql table = default_name (codes "pk_") table []
key_name Mysql table = primary

-- a unique constraint's
unfoldable pub unique_name : Name → List Name → Name
unique_name table columns = default_name (codes "uq_") table columns

-- a foreign key's
unfoldable pub foreign_name : Name → List Name → Name
foreign_name table columns = default_name (codes "fk_") table columns

-- an index's
unfoldable pub index_name : Name → List Name → Name
index_name table columns = default_name (codes "ix_") table columns

-- each of them is a name in `public` where the table's and the columns' are
abbrev pub DefaultNamesAreNames : Type 0
DefaultNamesAreNames = (d : Dialect) (table : Name) (columns : List Name) → is_name_key table ≡ true → list_all is_name columns ≡ true
    → (is_name (key_name d table) ≡ true)
    × (is_name (unique_name table columns) ≡ true)
    × (is_name (foreign_name table columns) ≡ true)
    × (is_name (index_name table columns) ≡ true)
