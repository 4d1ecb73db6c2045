-- The bytes of tables: the fields stand in this order.
use Rattle.std.specs.Prelude.{Bool, List, Option, Some, [], false, length, true, ℕ, ℤ, ◌∷◌}
use Rattle.lq_base.specs.declared.kind.Kind.{Kind}
use Rattle.lq_base.specs.declared.name.Name.{Name}
use Rattle.lq_base.specs.declared.value.Value.{Value}
use Rattle.lq_codec.specs.Codec.{Codec, after, both, counted, each, mapped, only_if, optional, read_all}
use Rattle.lq_codec.specs.Queries.{names, query_codec}
use Rattle.lq_codec.specs.Values.{kind_codec, value_codec}
use Rattle.lq_codec.specs.Words.{below, count, name, number, truth}
use Rattle.lq_model.specs.Catalogue.{Catalogue, Sequence, Table, View}
use Rattle.lq_model.specs.declared.column.Column.{Column}
use Rattle.lq_model.specs.declared.constraint.ForeignKey.{ForeignKey}
use Rattle.lq_model.specs.declared.constraint.Key.{Key}
use Rattle.lq_model.specs.declared.constraint.Unique.{Unique}
use Rattle.lq_model.specs.declared.index.Index.{Index}
use Rattle.lq_model.specs.declared.query.Query.{Query}

abbrev pub as_column : Name × (Kind × (Bool × (Option Value × Bool))) → Column
as_column p = record { name = p.0; kind = p.1.0; nullable = p.1.1.0; default = p.1.1.1.0; numbered = p.1.1.1.1 }

abbrev pub of_column : Column → Option (Name × (Kind × (Bool × (Option Value × Bool))))
of_column c = Some (c.name, (c.kind, (c.nullable, (c.default, c.numbered))))

unfoldable pub column_codec : Codec Column
column_codec =
    mapped as_column of_column
    (both name (both kind_codec (both truth (both (optional value_codec) truth))))

abbrev pub as_key : Name × List Name → Key
as_key p = record { name = p.0; columns = p.1 }

abbrev pub of_key : Key → Option (Name × List Name)
of_key k = Some (k.name, k.columns)

unfoldable pub key_codec : Codec Key
key_codec = mapped as_key of_key (both name names)

abbrev pub as_unique : Name × List Name → Unique
as_unique p = record { name = p.0; columns = p.1 }

abbrev pub of_unique : Unique → Option (Name × List Name)
of_unique u = Some (u.name, u.columns)

unfoldable pub unique_codec : Codec Unique
unique_codec = mapped as_unique of_unique (both name names)

abbrev pub as_foreign : Name × (List Name × (Name × (List Name × Bool))) → ForeignKey
as_foreign p = record { name = p.0; columns = p.1.0; table = p.1.1.0; targets = p.1.1.1.0; cascade = p.1.1.1.1 }

abbrev pub of_foreign : ForeignKey → Option (Name × (List Name × (Name × (List Name × Bool))))
of_foreign f = Some (f.name, (f.columns, (f.table, (f.targets, f.cascade))))

unfoldable pub foreign_codec : Codec ForeignKey
foreign_codec = mapped as_foreign of_foreign (both name (both names (both name (both names truth))))

abbrev pub as_index : Name × (List Name × Bool) → Index
as_index p = record { name = p.0; columns = p.1.0; unique = p.1.1 }

abbrev pub of_index : Index → Option (Name × (List Name × Bool))
of_index i = Some (i.name, (i.columns, i.unique))

unfoldable pub index_codec : Codec Index
index_codec = mapped as_index of_index (both name (both names truth))

abbrev pub has_some : {A : Type 0} → List A → Bool
has_some [] = false
has_some (x ∷ xs) = true

-- at least one column
abbrev pub columns_codec : Codec (List Column)
columns_codec = only_if has_some (counted count column_codec)

-- a table but for its rows
abbrev pub Head : Type 0
Head = List Column × (Option Key × (List Unique × (List ForeignKey × (List Index × ℕ))))

abbrev pub head_codec : Codec Head
head_codec =
    both columns_codec (both (optional key_codec) (both (counted count unique_codec)
    (both (counted count foreign_codec) (both (counted count index_codec) count))))

-- a row is its values, one for each column, without a count
abbrev pub row_codec : List Column → Codec (List Value)
row_codec cs = each (length cs) value_codec

-- at most 100,000 rows of so many values each
abbrev pub rows_of_width : ℕ → Codec (List (List Value))
rows_of_width n = counted (below 100_001) (each n value_codec)

abbrev pub rows_codec : Head → Codec (List (List Value))
rows_codec h = rows_of_width (length h.0)

abbrev pub as_table : Head × List (List Value) → Table
as_table p = record {
  columns = p.0.0;
  key = p.0.1.0;
  uniques = p.0.1.1.0;
  foreign = p.0.1.1.1.0;
  indexes = p.0.1.1.1.1.0;
  next = p.0.1.1.1.1.1;
  rows = p.1;
}

abbrev pub of_table : Table → Option (Head × List (List Value))
of_table t = Some ((t.columns, (t.key, (t.uniques, (t.foreign, (t.indexes, t.next))))), t.rows)

unfoldable pub table_codec : Codec Table
table_codec = mapped as_table of_table (after head_codec rows_codec)

-- The bytes of a database.

-- views
abbrev pub as_view : Query × List Name → View
as_view p = record { query = p.0; columns = p.1 }

abbrev pub of_view : View → Option (Query × List Name)
of_view v = Some (v.query, v.columns)

unfoldable pub view_codec : Codec View
view_codec = mapped as_view of_view (both query_codec names)

-- sequences
abbrev pub as_sequence : ℤ × ℤ → Sequence
as_sequence p = record { start = p.0; step = p.1 }

abbrev pub of_sequence : Sequence → Option (ℤ × ℤ)
of_sequence s = Some (s.start, s.step)

unfoldable pub sequence_codec : Codec Sequence
sequence_codec = mapped as_sequence of_sequence (both number number)

-- the whole
abbrev pub as_catalogue : List (Name × Table) × (List (Name × View) × List (Name × Sequence)) → Catalogue
as_catalogue p = record { tables = p.0; views = p.1.0; sequences = p.1.1 }

abbrev pub of_catalogue : Catalogue
    → Option (List (Name × Table) × (List (Name × View) × List (Name × Sequence)))
of_catalogue c = Some (c.tables, (c.views, c.sequences))

abbrev pub catalogue_codec : Codec Catalogue
catalogue_codec =
    mapped as_catalogue of_catalogue
    (both (counted count (both name table_codec))
    (both (counted count (both name view_codec)) (counted count (both name sequence_codec))))

-- Whether a catalogue keeps to what can be written: its texts are UTF-8, its names are names, its
-- numbers are within their types; a table has columns, at most 100,000 rows, and in each row as many
-- values as columns; a test has at most 64 levels.
unfoldable pub can_be_written : Catalogue → Bool
can_be_written c = catalogue_codec.ok c

-- the bytes of a catalogue, and the one whose bytes these are
unfoldable pub bytes_of : Catalogue → List ℕ
bytes_of c = catalogue_codec.write c

unfoldable pub catalogue_of : List ℕ → Option Catalogue
catalogue_of bytes = read_all catalogue_codec bytes
