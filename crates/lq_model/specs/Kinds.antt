-- The kinds of columns.
use Rattle.std.specs.Option.{option_map, unwrap_or}
use Rattle.std.specs.Prelude.{Bool, Err, List, None, Ok, Option, Result, Some, [], cond, false, map, nat_eq, not, true, ◌&&◌, ◌∷◌}
use Rattle.lq_base.specs.Name.{is_named}
use Rattle.lq_base.specs.Value.{into_kind}
use Rattle.lq_base.specs.declared.kind.Kind.{Kind}
use Rattle.lq_base.specs.declared.kind.Kind.TheVariants as kind
use Rattle.lq_base.specs.declared.literal.Literal.{Literal}
use Rattle.lq_base.specs.declared.literal.Literal.TheVariants as literal
use Rattle.lq_base.specs.declared.name.Name.{Name}
use Rattle.lq_base.specs.declared.reason.Reason.{Reason}
use Rattle.lq_base.specs.declared.reason.Reason.TheVariants as reason
use Rattle.lq_base.specs.declared.value.Value.{Value}
use Rattle.lq_base.specs.declared.value.Value.TheVariants as value
use Rattle.lq_model.specs.Catalogue.{Catalogue, Table, the_table}
use Rattle.lq_model.specs.declared.column.Column.{Column}
use Rattle.lq_model.specs.declared.column.ColumnDef.{ColumnDef}
use Rattle.lq_model.specs.declared.constraint.ForeignKey.{ForeignKey}

abbrev pub is_number : Kind → Bool
is_number kind.Int = true
is_number kind.BigInt = true
is_number _ = false

abbrev pub equal_kinds : Kind → Kind → Bool
equal_kinds kind.Int kind.Int = true
equal_kinds kind.BigInt kind.BigInt = true
equal_kinds kind.Boolean kind.Boolean = true
equal_kinds kind.Text kind.Text = true
equal_kinds kind.Moment kind.Moment = true
equal_kinds (kind.Varchar a) (kind.Varchar b) = nat_eq a b
equal_kinds (kind.Decimal p s) (kind.Decimal q t) = nat_eq p q && nat_eq s t
equal_kinds _ _ = false

-- the kind of the column of that name
abbrev pub kind_of : Name → List Column → Option Kind
kind_of n [] = None
kind_of n (c ∷ cs) = cond (is_named n c.name) (Some c.kind) (kind_of n cs)

-- the same, where it is known that there is one
abbrev pub kind_in : Name → List Column → Kind
kind_in n [] = kind.Text
kind_in n (c ∷ cs) = cond (is_named n c.name) c.kind (kind_in n cs)

abbrev pub same_kind : Option Kind → Option Kind → Bool
same_kind (Some a) (Some b) = equal_kinds a b
same_kind None _ = false
same_kind (Some a) None = false

-- whether two lists have as many kinds, and the same ones in order
abbrev pub same_kinds : List (Option Kind) → List (Option Kind) → Bool
same_kinds [] [] = true
same_kinds (a ∷ more) (b ∷ bs) = same_kind a b && same_kinds more bs
same_kinds [] (b ∷ bs) = false
same_kinds (a ∷ more) [] = false

-- the kinds of a table's columns of these names
abbrev pub kinds_at : Table → List Name → List (Option Kind)
kinds_at it ns = map (λ n. kind_of n it.columns) ns

-- whether a foreign key of a table and its targets differ in number or kinds
abbrev pub kinds_differ : Catalogue → Table → ForeignKey → Bool
kinds_differ c it f = not (same_kinds (kinds_at it f.columns) (kinds_at (the_table c f.table) f.targets))

-- A literal that goes into a column.

abbrev pub default_value : Column → Value
default_value c = unwrap_or c.default value.Null

abbrev pub is_wrong : Result Value Reason → Bool
is_wrong (Err reason.WrongKind) = true
is_wrong _ = false

abbrev pub is_wide : Result Value Reason → Bool
is_wide (Err reason.TooWide) = true
is_wide _ = false

abbrev pub value_in : Result Value Reason → Value
value_in (Ok v) = v
value_in (Err _) = value.Null

-- the default that a column states, and null where it states none
abbrev pub literal_of : ColumnDef → Literal
literal_of d = unwrap_or d.default literal.Null

-- the column that is made of what a statement says: its default becomes a value of its kind
abbrev pub column_of : ColumnDef → Column
column_of d = record {
  name = d.name;
  kind = d.kind;
  nullable = d.nullable;
  default = option_map (λ l. value_in (into_kind l d.kind)) d.default;
  numbered = d.numbered;
}
