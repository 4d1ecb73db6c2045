-- The createTable that makes a table.
use Rattle.std.specs.List.{flat_map, list_any}
use Rattle.std.specs.Prelude.{Bool, List, None, Option, Some, [], cond, false, if◌then◌else◌, map, not, suc, true, unsigned_abs, zero, ℕ, ℤ, ◌&&◌, ◌++◌, ◌<◌, ◌^◌, ◌∷◌}
use Rattle.lq_base.specs.Moment.{IsMoment, moment_text}
use Rattle.lq_base.specs.declared.dialect.Dialect.{Dialect}
use Rattle.lq_base.specs.declared.name.Name.{Name}
use Rattle.lq_base.specs.declared.value.Value.{Value}
use Rattle.lq_base.specs.declared.value.Value.TheVariants as value
use Rattle.lq_generate.specs.Created.{key_name_of, named_in}
use Rattle.lq_keys.specs.declared.add_foreign_key.AddForeignKeyConstraint.{AddForeignKeyConstraint}
use Rattle.lq_keys.specs.declared.create_index.CreateIndex.{CreateIndex}
use Rattle.lq_keys.specs.declared.index_column.IndexColumn.{IndexColumn}
use Rattle.lq_keys.specs.declared.on_delete.OnDelete.{OnDelete}
use Rattle.lq_keys.specs.declared.on_delete.OnDelete.TheVariants as deletion
use Rattle.lq_any.specs.declared.any_change.AnyChange.{AnyChange}
use Rattle.lq_any.specs.declared.any_change.AnyChange.TheVariants as any
use Rattle.lq_model.specs.Catalogue.{Catalogue, Sequence, Table, View}
use Rattle.lq_model.specs.TestText.{query_text}
use Rattle.lq_model.specs.declared.column.Column.{Column}
use Rattle.lq_model.specs.declared.constraint.ForeignKey.{ForeignKey}
use Rattle.lq_model.specs.declared.constraint.Key.{Key}
use Rattle.lq_model.specs.declared.constraint.Unique.{Unique}
use Rattle.lq_model.specs.declared.index.Index.{Index}
use Rattle.lq_primary_keys.specs.declared.add_primary_key.AddPrimaryKey.{AddPrimaryKey}
use Rattle.lq_tables.specs.declared.create_table.CreateTable.{CreateTable}
use Rattle.lq_tables.specs.declared.create_table.CreatedColumn.{CreatedColumn}
use Rattle.lq_tables.specs.declared.create_table.CreatedConstraints.{CreatedConstraints}
use Rattle.lq_tree.specs.declared.values.GivenValue.{GivenValue}
use Rattle.lq_tree.specs.declared.values.GivenValue.TheVariants as given
use Rattle.lq_uniques.specs.declared.add_unique.AddUniqueConstraint.{AddUniqueConstraint}
use Rattle.lq_views.specs.QueryText.{DialectText}
use Rattle.lq_views.specs.declared.create_sequence.CreateSequence.{CreateSequence}
use Rattle.lq_views.specs.declared.create_view.CreateView.{CreateView}

-- its default, as a changelog gives it

abbrev pub fixed_given : ℤ → ℕ → GivenValue
fixed_given units zero = given.Whole units
fixed_given units (suc more) = given.Decimal units (suc more)

abbrev pub given_of : Option Value → Option GivenValue
given_of (Some (value.Text t)) = Some (given.Text t)
given_of (Some (value.Int n)) = Some (given.Whole n)
given_of (Some (value.Fixed units scale)) = Some (fixed_given units scale)
given_of (Some (value.Bool b)) = Some (given.Truth b)
given_of (Some (value.Moment ms)) = Some (given.Date (moment_text ms))
given_of _ = None

-- its columns

abbrev pub so_if : Bool → Option Bool
so_if b = if b then Some true else None

abbrev pub constraints_of : Dialect → Option Key → Column → CreatedConstraints
constraints_of d key c = record {
  primary_key = so_if c.numbered;
  primary_key_name = key_name_of d key c;
  nullable = if c.nullable then None else Some false;
  unique = None;
  unique_constraint_name = None;
  references = None;
  foreign_key_name = None;
}

abbrev pub constraints_in : Dialect → Option Key → Column → Option CreatedConstraints
constraints_in d key c = if c.nullable && not c.numbered then None else Some (constraints_of d key c)

abbrev pub column_of : Dialect → Option Key → Column → CreatedColumn
column_of d key c = record {
  name = c.name;
  kind = c.kind;
  auto_increment = so_if c.numbered;
  default_value = given_of c.default;
  constraints = constraints_in d key c;
}

abbrev pub created : Dialect → Name → Table → CreateTable
created d t it = record { table_name = t; columns = map (column_of d it.key) it.columns }

-- The changes that make sequences, what tables get, and views.

abbrev pub sequence_change : Name → Sequence → CreateSequence
sequence_change s x = record { sequence_name = s; start_value = x.start; increment_by = x.step }

abbrev pub key_change : Dialect → Name → Key → AddPrimaryKey
key_change d t k = record { table_name = t; column_names = k.columns; constraint_name = named_in d (Some k) }

abbrev pub unique_change : Name → Unique → AddUniqueConstraint
unique_change t u = record { table_name = t; column_names = u.columns; constraint_name = Some u.name }

abbrev pub index_column_of : Name → IndexColumn
index_column_of n = record { name = n }

abbrev pub index_change : Name → Index → CreateIndex
index_change t x = record { index_name = Some x.name; table_name = t; columns = map index_column_of x.columns; unique = so_if x.unique }

abbrev pub cascade_if : Bool → Option OnDelete
cascade_if b = if b then Some deletion.Cascade else None

abbrev pub foreign_change : Name → ForeignKey → AddForeignKeyConstraint
foreign_change t f = record {
  constraint_name = f.name;
  base_table_name = t;
  base_column_names = f.columns;
  referenced_table_name = f.table;
  referenced_column_names = f.targets;
  on_delete = cascade_if f.cascade;
}

abbrev pub view_change : Dialect → Name → View → CreateView
view_change d v it = record { view_name = v; select_query = record { dialect = d; text = query_text d it.query }; replace_if_exists = None }

-- The changes of the five changesets.

abbrev pub of_sequence : Name × Sequence → AnyChange
of_sequence s = any.CreateSequence (sequence_change s.0 s.1)

abbrev pub of_table : Dialect → Name × Table → AnyChange
of_table d e = any.CreateTable (created d e.0 e.1)

-- unless createTable made it
abbrev pub of_key : Dialect → Name → Option Key → List AnyChange
of_key d t None = []
of_key d t (Some k) = any.AddPrimaryKey (key_change d t k) ∷ []

abbrev pub of_own_key : Dialect → Name × Table → List AnyChange
of_own_key d e = cond (list_any (λ (c : Column). c.numbered) e.1.columns) [] (of_key d e.0 e.1.key)

abbrev pub of_unique : Name → Unique → AnyChange
of_unique t u = any.AddUniqueConstraint (unique_change t u)

abbrev pub of_index : Name → Index → AnyChange
of_index t x = any.CreateIndex (index_change t x)

abbrev pub of_filling : Dialect → Name × Table → List AnyChange
of_filling d e = of_own_key d e ++ (map (of_unique e.0) e.1.uniques ++ map (of_index e.0) e.1.indexes)

abbrev pub of_foreign : Name → ForeignKey → AnyChange
of_foreign t f = any.AddForeignKeyConstraint (foreign_change t f)

abbrev pub of_aims : Name × Table → List AnyChange
of_aims e = map (of_foreign e.0) e.1.foreign

abbrev pub of_view : Dialect → Name × View → AnyChange
of_view d v = any.CreateView (view_change d v.0 v.1)

abbrev pub all_changes : Dialect → Catalogue → List AnyChange
all_changes d c = map of_sequence c.sequences ++ (map (of_table d) c.tables ++ (flat_map (of_filling d) c.tables ++ (flat_map of_aims c.tables ++ map (of_view d) c.views)))

-- Defaults that a changelog can give.

-- a default that can be written
abbrev pub IsWritten : Option Value → Type 0
IsWritten None = Unit {0}
IsWritten (Some (value.Text t)) = Unit {0}
IsWritten (Some (value.Int n)) = unsigned_abs n < 10 ^ 38
IsWritten (Some (value.Fixed units scale)) = (unsigned_abs units < 10 ^ 38) × (scale < 38)
IsWritten (Some (value.Bool b)) = Unit {0}
IsWritten (Some (value.Moment ms)) = IsMoment ms
IsWritten (Some value.Null) = ⊥
