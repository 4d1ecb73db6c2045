-- What takes a statement back.
use Rattle.std.specs.List.{list_all}
use Rattle.std.specs.Prelude.{Bool, List, None, Ok, Option, Some, [], false, if◌then◌else◌, is_none, not, suc, true, zero, ℕ, ℤ, ◌&&◌, ◌||◌, ◌∷◌, ◌≡◌}
use Rattle.lq_base.specs.Name.{beside, is_beside, is_elsewhere, is_named, schema_of}
use Rattle.lq_base.specs.declared.dialect.Dialect.{Dialect}
use Rattle.lq_base.specs.declared.dialect.Dialect.TheVariants.{Mysql, Postgresql}
use Rattle.lq_base.specs.declared.kind.Kind.{Kind}
use Rattle.lq_base.specs.declared.literal.Literal.{Literal}
use Rattle.lq_base.specs.declared.name.Name.{Name}
use Rattle.lq_model.specs.Catalogue.{Catalogue, IsWidened, is_in, the_table, view_of}
use Rattle.lq_model.specs.Changes.{CanonicalChange, CanonicalPairs, CanonicalValue, CanonicalValues, decimal_value, kind_value, list, map_of, no_pairs, no_values, number, pair, text, truth, value}
use Rattle.lq_model.specs.Kinds.{equal_kinds}
use Rattle.lq_model.specs.NameSpaces.{is_reserved}
use Rattle.lq_model.specs.Sound.{IsSound}
use Rattle.lq_model.specs.Step.{step}
use Rattle.lq_model.specs.declared.caller.By.{By}
use Rattle.lq_model.specs.declared.column.Column.{Column}
use Rattle.lq_model.specs.declared.column.ColumnDef.{ColumnDef}
use Rattle.lq_model.specs.declared.constraint.ForeignKey.{ForeignKey}
use Rattle.lq_model.specs.declared.constraint.Key.{Key}
use Rattle.lq_model.specs.declared.constraint.Unique.{Unique}
use Rattle.lq_model.specs.declared.field.Field.{Field}
use Rattle.lq_model.specs.declared.field.Field.TheVariants as field
use Rattle.lq_model.specs.declared.index.Index.{Index}
use Rattle.lq_model.specs.declared.query.Query.{Query}
use Rattle.lq_model.specs.declared.statement.Statement.{Statement}
use Rattle.lq_model.specs.declared.statement.Statement.TheVariants.{AddColumn, AddForeignKey, AddPrimaryKey, AddUnique, CreateIndex, CreateSequence, CreateTable, CreateView, DropColumn, DropConstraint, DropDefault, DropForeignKey, DropIndex, DropNotNull, DropPrimaryKey, DropSequence, DropTable, DropUnique, DropView, Modify, RenameColumn, RenameSequence, RenameTable, RenameView, SetDefault, SetNotNull, Update}
use Rattle.lq_model.specs.declared.test.Test.{Test}

-- where s is accepted on a sound catalogue, u is accepted after it, by the same caller, and gives the catalogue back whole
abbrev pub TakesBack : Dialect → Statement → Statement → Type 0
TakesBack d s u = (by : By) (c e : Catalogue) (n : ℕ) → IsSound d c → step by d s c ≡ Ok (e, n) → step by d u e ≡ Ok (c, 0)

-- the same where the catalogue before meets a condition
abbrev pub TakesBackWhere : Dialect → (Catalogue → Bool) → Statement → Statement → Type 0
TakesBackWhere d fresh s u = (by : By) (c e : Catalogue) (n : ℕ) → IsSound d c → fresh c ≡ true → step by d s c ≡ Ok (e, n) → step by d u e ≡ Ok (c, 0)

-- tables

abbrev pub DropTableTakesBack : Type 0
DropTableTakesBack = (d : Dialect) (t : Name) (defs : List ColumnDef) (key : Option Key) (uniques : List Unique) (foreign : List ForeignKey) → TakesBack d (CreateTable t defs key uniques foreign) (DropTable t)

-- columns

abbrev pub DropColumnTakesBack : Type 0
DropColumnTakesBack = (d : Dialect) (t : Name) (def : ColumnDef) → TakesBack d (AddColumn t def) (DropColumn t def.name)

-- where e is c with one more column n of t at the end, DROP COLUMN gives c back, whatever was set in the column and however it was changed since
abbrev pub DropWidened : Type 0
DropWidened = (d : Dialect) (t n : Name) (by : By) (c e : Catalogue) → IsSound d c → IsWidened t n c e → is_reserved by (t ∷ []) ≡ false → step by d (DropColumn t n) e ≡ Ok (c, 0)

-- such a catalogue comes from ADD COLUMN, and stays one after an UPDATE of the column, SET NOT NULL and MODIFY
abbrev pub StaysWidened : Type 0
StaysWidened =
    ((by : By) (d : Dialect) (t : Name) (def : ColumnDef) (c e : Catalogue) (k : ℕ) → step by d (AddColumn t def) c ≡ Ok (e, k) → IsWidened t def.name c e)
    × ((by : By) (d : Dialect) (t n : Name) (l : Literal) (test : Option Test) (c e f : Catalogue) (k : ℕ) → IsSound d c → IsWidened t n c e → step by d (Update t ((n, l) ∷ []) test) e ≡ Ok (f, k) → IsWidened t n c f)
    × ((by : By) (d : Dialect) (t n : Name) (c e f : Catalogue) (k : ℕ) → IsWidened t n c e → step by d (SetNotNull t n) e ≡ Ok (f, k) → IsWidened t n c f)
    × ((by : By) (d : Dialect) (t n : Name) (kind : Kind) (nullable : Bool) (c e f : Catalogue) (k : ℕ) → IsWidened t n c e → step by d (Modify t n kind nullable) e ≡ Ok (f, k) → IsWidened t n c f)

-- what each column of that name is like; true where there is none
abbrev pub is_each : Name → Name → (Column → Bool) → Catalogue → Bool
is_each t n p c = list_all (λ x. not (is_named n x.name) || p x) (the_table c t).columns

abbrev pub DropNotNullTakesBack : Type 0
DropNotNullTakesBack = (d : Dialect) (t n : Name) → TakesBackWhere d (is_each t n (λ x. x.nullable)) (SetNotNull t n) (DropNotNull t n)

abbrev pub SetNotNullTakesBack : Type 0
SetNotNullTakesBack = (d : Dialect) (t n : Name) → TakesBackWhere d (is_each t n (λ x. not x.nullable)) (DropNotNull t n) (SetNotNull t n)

-- of that kind, without a default, not numbered
abbrev pub is_plain_of : Kind → Column → Bool
is_plain_of k x = equal_kinds x.kind k && (is_none x.default && not x.numbered)

-- MODIFY to NOT NULL, and from it, of a plain column of the stated kind
abbrev pub ModifyTakesBack : Type 0
ModifyTakesBack = (d : Dialect) (t n : Name) (k : Kind)
    → TakesBackWhere d (is_each t n (λ x. is_plain_of k x && x.nullable)) (Modify t n k false) (Modify t n k true)
    × TakesBackWhere d (is_each t n (λ x. is_plain_of k x && not x.nullable)) (Modify t n k true) (Modify t n k false)

abbrev pub DropDefaultTakesBack : Type 0
DropDefaultTakesBack = (d : Dialect) (t n : Name) (l : Literal) → TakesBackWhere d (is_each t n (λ x. is_none x.default)) (SetDefault t n l) (DropDefault t n)

-- constraints and indexes

abbrev pub DropConstraintTakesBackUnique : Type 0
DropConstraintTakesBackUnique = (t : Name) (u : Unique) → TakesBack Postgresql (AddUnique t u) (DropConstraint t u.name)

abbrev pub DropConstraintTakesBackForeignKey : Type 0
DropConstraintTakesBackForeignKey = (t : Name) (f : ForeignKey) → TakesBack Postgresql (AddForeignKey t f) (DropConstraint t f.name)

-- none of the columns is nullable
abbrev pub is_firm : Name → List Name → Catalogue → Bool
is_firm t ns c = list_all (λ x. not (is_in x.name ns) || not x.nullable) (the_table c t).columns

abbrev pub DropConstraintTakesBackKey : Type 0
DropConstraintTakesBackKey = (t : Name) (k : Key) → TakesBackWhere Postgresql (is_firm t k.columns) (AddPrimaryKey t k) (DropConstraint t k.name)

abbrev pub DropUniqueTakesBack : Type 0
DropUniqueTakesBack = (t : Name) (u : Unique) → TakesBack Mysql (AddUnique t u) (DropUnique t u.name)

abbrev pub DropForeignKeyTakesBack : Type 0
DropForeignKeyTakesBack = (t : Name) (f : ForeignKey) → TakesBack Mysql (AddForeignKey t f) (DropForeignKey t f.name)

abbrev pub DropPrimaryKeyTakesBack : Type 0
DropPrimaryKeyTakesBack = (t : Name) (k : Key) → TakesBackWhere Mysql (is_firm t k.columns) (AddPrimaryKey t k) (DropPrimaryKey t)

-- without a table under PostgreSQL, with it under MySQL
abbrev pub DropIndexTakesBack : Type 0
DropIndexTakesBack = (t : Name) (i : Index) → TakesBack Postgresql (CreateIndex t i) (DropIndex (beside t i.name) None) × TakesBack Mysql (CreateIndex t i) (DropIndex i.name (Some t))

-- views and sequences

abbrev pub no_view_yet : Name → Catalogue → Bool
no_view_yet v c = is_none (view_of c v)

abbrev pub DropViewTakesBack : Type 0
DropViewTakesBack = (d : Dialect) (v : Name) (q : Query) (replace : Bool) → TakesBackWhere d (λ c. not replace || no_view_yet v c) (CreateView v q replace) (DropView v)

abbrev pub DropSequenceTakesBack : Type 0
DropSequenceTakesBack = (d : Dialect) (s : Name) (start size : ℤ) → TakesBack d (CreateSequence s start size) (DropSequence s)

-- renamings

abbrev pub RenameColumnTakesBack : Type 0
RenameColumnTakesBack = (d : Dialect) (t a b : Name) → TakesBack d (RenameColumn t a b) (RenameColumn t b a)

-- of a table, or of a view where the name is one's; in the schema that it is in
abbrev pub RenameTableTakesBack : Type 0
RenameTableTakesBack = (d : Dialect) (a b : Name) → is_beside a b ≡ true → TakesBack d (RenameTable a b) (RenameTable b a)

abbrev pub RenameViewTakesBack : Type 0
RenameViewTakesBack = (d : Dialect) (a b : Name) → TakesBack d (RenameView a b) (RenameView b a)

abbrev pub RenameSequenceTakesBack : Type 0
RenameSequenceTakesBack = (d : Dialect) (a b : Name) → TakesBack d (RenameSequence a b) (RenameSequence b a)

-- A change's keys in canonical text: those that were given, in the order of its type's table.

-- a key, and its value where it was given
abbrev pub Row : Type 0
Row = List ℕ × Option CanonicalValue

abbrev pub pair_if : List ℕ → Option CanonicalValue → CanonicalPairs → CanonicalPairs
pair_if key None pairs = pairs
pair_if key (Some v) pairs = pair key v pairs

abbrev pub pairs_of : List Row → CanonicalPairs
pairs_of [] = no_pairs
pairs_of (row ∷ rows) = pair_if row.0 row.1 (pairs_of rows)

-- the change of a type with these keys
abbrev pub change_of : List ℕ → List Row → CanonicalChange
change_of name rows = record { name = name; pairs = pairs_of rows }

-- a map with these keys
abbrev pub map_with : List Row → CanonicalValue
map_with rows = map_of (pairs_of rows)

-- each item as a map of its keys
abbrev pub maps : {A : Type 0} → (A → List Row) → List A → CanonicalValues
maps rows_of [] = no_values
maps rows_of (a ∷ more) = value (map_with (rows_of a)) (maps rows_of more)

abbrev pub texts : List (List ℕ) → CanonicalValues
texts [] = no_values
texts (t ∷ ts) = value (text t) (texts ts)

abbrev pub field_value : Field → CanonicalValue
field_value (field.Text t) = text t.now
field_value (field.Name n) = text n.now
field_value (field.Number n) = number n
field_value (field.Decimal units scale) = decimal_value units scale
field_value (field.Truth b) = truth b
field_value (field.Kind k) = kind_value k
field_value (field.Names ns) = list (texts ns.now)
field_value (field.NamesOf ns) = list (texts ns.now)

-- the schema of a name, which is stated where it is not `public`
abbrev pub schema_row : Name → Option CanonicalValue
schema_row n = if is_elsewhere n then Some (text (schema_of n)) else None

-- the value of the key at a place of the table
abbrev pub nth_value : ℕ → List Row → Option CanonicalValue
nth_value n [] = None
nth_value zero (row ∷ rows) = row.1
nth_value (suc n) (row ∷ rows) = nth_value n rows
