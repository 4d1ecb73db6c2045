-- What is made by CREATE TABLE, and what is asked of it.
use Rattle.std.specs.BTreeMap.{BTreeMap, get_by}
use Rattle.std.specs.BTreeSet.{BTreeSet, contains_by}
use Rattle.std.specs.List.{list_any}
use Rattle.std.specs.Prelude.{Bool, List, None, Option, Result, Some, [], cond, map, ◌||◌, ◌≡◌}
use denote.Ref.{Bor}
use Rattle.lq_base.specs.Name.{is_named, name_cmp}
use Rattle.lq_base.specs.Value.{into_kind}
use Rattle.lq_base.specs.declared.kind.Kind.{Kind}
use Rattle.lq_base.specs.declared.name.Name.{Name}
use Rattle.lq_base.specs.declared.reason.Reason.{Reason}
use Rattle.lq_base.specs.declared.value.Value.{Value}
use Rattle.lq_model.specs.Catalogue.{Table, is_in}
use Rattle.lq_model.specs.Kinds.{column_of, is_wide, is_wrong, kind_of, literal_of, value_in}
use Rattle.lq_model.specs.Tables.{key_column}
use Rattle.lq_model.specs.declared.column.Column.{Column}
use Rattle.lq_model.specs.declared.column.ColumnDef.{ColumnDef}
use Rattle.lq_model.specs.declared.constraint.ForeignKey.{ForeignKey}
use Rattle.lq_model.specs.declared.constraint.Key.{Key}
use Rattle.lq_model.specs.declared.constraint.Unique.{Unique}
use Rattle.lq_rows.specs.Stored.{table_as}
use Rattle.lq_rows.specs.declared.shape.Shape.{Shape}
use Rattle.lq_shapes.specs.declared.new_table.Defined.{Defined}
use Rattle.lq_shapes.specs.declared.stated.NewColumn.{NewColumn}
use Rattle.lq_shapes.specs.declared.stated.Stated.{Stated}

-- the columns of a key
abbrev pub key_columns : Option Key → List Name
key_columns None = []
key_columns (Some k) = k.columns

-- the column that is made, NOT NULL in the key, and what is against its default
pub record IsKeyed (key : Option Key) (d : ColumnDef) (new : NewColumn) : Type 0 where
  pub column : new.column ≡ key_column key (column_of d)
  pub wrong : new.is_wrong ≡ is_wrong (into_kind (literal_of d) d.kind)
  pub wide : new.is_wide ≡ is_wide (into_kind (literal_of d) d.kind)

-- the columns that are made, and what is against their defaults
pub record IsDefined (key : Option Key) (defs : List ColumnDef) (it : Defined) : Type 0 where
  pub columns : it.columns ≡ map (λ d. key_column key (column_of d)) defs
  pub wrong : it.is_wrong ≡ list_any (λ d. is_wrong (into_kind (literal_of d) d.kind)) defs
  pub wide : it.is_wide ≡ list_any (λ d. is_wide (into_kind (literal_of d) d.kind)) defs

-- a table of these columns and constraints, without indexes
abbrev pub shape_with : List Column → Option Key → List Unique → List ForeignKey → Shape
shape_with columns key uniques foreign = record { columns = columns; key = key; uniques = uniques; foreign = foreign; indexes = [] }

-- a new table of these columns and constraints
abbrev pub made : List Column → Option Key → List Unique → List ForeignKey → Table
made columns key uniques foreign = table_as (shape_with columns key uniques foreign) 1 []

-- Sets of names and maps of kinds, for looking up.

-- the set has the name
abbrev pub has_name : BTreeSet (Bor Name) → Name → Bool
has_name seen n = contains_by (λ k. name_cmp n k.now) seen

-- the set has just these names
pub record ShowsNames (names : List Name) (seen : BTreeSet (Bor Name)) : Type 0 where
  pub members : (n : Name) → has_name seen n ≡ is_in n names

-- new has the name beside what old has
pub record Grows (old new : BTreeSet (Bor Name)) (name : Name) : Type 0 where
  pub members : (n : Name) → has_name new n ≡ (is_named n name || has_name old n)

-- the kind at the name
abbrev pub kind_at : BTreeMap (Bor Name) Kind → Name → Option Kind
kind_at kinds n = get_by (λ k. name_cmp n k.now) kinds

-- the map has the kind of each column at its name
pub record ShowsKinds (columns : List Column) (kinds : BTreeMap (Bor Name) Kind) : Type 0 where
  pub same : (n : Name) → kind_at kinds n ≡ kind_of n columns

-- the first, where there is one
abbrev pub first_of : Option Kind → Option Kind → Option Kind
first_of (Some k) o = Some k
first_of None o = o

-- new has what old has, and the column's kind where old has none at its name
pub record KeepsFirst (old new : BTreeMap (Bor Name) Kind) (column : Column) : Type 0 where
  pub same : (n : Name) → kind_at new n ≡ first_of (kind_at old n) (cond (is_named n column.name) (Some column.kind) None)

-- What a stated literal becomes.

-- the value, null where there is a reason against it, and which reason
pub record IsStated (meant : Result Value Reason) (it : Stated) : Type 0 where
  pub value : it.value ≡ value_in meant
  pub wrong : it.is_wrong ≡ is_wrong meant
  pub wide : it.is_wide ≡ is_wide meant

-- the column that is made, and what is against its default
pub record IsColumn (def : ColumnDef) (new : NewColumn) : Type 0 where
  pub column : new.column ≡ column_of def
  pub wrong : new.is_wrong ≡ is_wrong (into_kind (literal_of def) def.kind)
  pub wide : new.is_wide ≡ is_wide (into_kind (literal_of def) def.kind)
