-- A small catalogue for the worked examples: parents with a key and a unique code, children that are numbered and may have a parent, a view and a sequence.
use Rattle.std.specs.Prelude.{Bool, Err, List, None, Ok, Option, Result, Some, [], codes, false, map, pos, true, ℕ, ℤ, ◌∷◌}
use Rattle.lq_base.specs.declared.dialect.Dialect.{Dialect}
use Rattle.lq_base.specs.declared.kind.Kind.{Kind}
use Rattle.lq_base.specs.declared.kind.Kind.TheVariants as kind
use Rattle.lq_base.specs.declared.literal.Literal.{Literal}
use Rattle.lq_base.specs.declared.literal.Literal.TheVariants as literal
use Rattle.lq_base.specs.declared.name.Name.{Name}
use Rattle.lq_base.specs.declared.reason.Reason.{Reason}
use Rattle.lq_base.specs.declared.value.Value.{Value}
use Rattle.lq_base.specs.declared.value.Value.TheVariants as value
use Rattle.lq_model.specs.Catalogue.{Catalogue, Table}
use Rattle.lq_model.specs.Step.{step}
use Rattle.lq_model.specs.declared.caller.By.{By}
use Rattle.lq_model.specs.declared.column.Column.{Column}
use Rattle.lq_model.specs.declared.column.ColumnDef.{ColumnDef}
use Rattle.lq_model.specs.declared.constraint.ForeignKey.{ForeignKey}
use Rattle.lq_model.specs.declared.constraint.Key.{Key}
use Rattle.lq_model.specs.declared.constraint.Unique.{Unique}
use Rattle.lq_model.specs.declared.index.Index.{Index}
use Rattle.lq_model.specs.declared.query.Query.{Query}
use Rattle.lq_model.specs.declared.query.Wanted.TheVariants as wanted
use Rattle.lq_model.specs.declared.statement.Statement.{Statement}
use Rattle.lq_model.specs.declared.test.Op.TheVariants.{Eq}
use Rattle.lq_model.specs.declared.test.Operand.TheVariants as operand
use Rattle.lq_model.specs.declared.test.Test.{Compare, Test}

abbrev pub id : Name
id = codes "id"

abbrev pub code : Name
code = codes "code"

abbrev pub at : Name
at = codes "at"

abbrev pub up : Name
up = codes "up"

abbrev pub parent : Name
parent = codes "parent"

abbrev pub child : Name
child = codes "child"

abbrev pub view : Name
view = codes "view"

abbrev pub seq : Name
seq = codes "seq"

abbrev pub another : Name
another = codes "new"

abbrev pub none : Name
none = codes "none"

abbrev pub number : ℤ → Literal
number n = literal.Int n

abbrev pub text : Name → Literal
text t = literal.Text t

abbrev pub column : Name → Kind → Bool → Option Value → Bool → Column
column n k nullable default numbered = record { name = n; kind = k; nullable = nullable; default = default; numbered = numbered }

abbrev pub def : Name → Kind → Option Literal → ColumnDef
def n k default = record { name = n; kind = k; nullable = true; default = default; numbered = false }

abbrev pub numbered_def : Name → Kind → Option Literal → ColumnDef
numbered_def n k default = record { name = n; kind = k; nullable = true; default = default; numbered = true }

abbrev pub key_on : Name → List Name → Key
key_on n ns = record { name = n; columns = ns }

abbrev pub unique_on : Name → List Name → Unique
unique_on n ns = record { name = n; columns = ns }

abbrev pub index_on : Name → List Name → Bool → Index
index_on n ns unique = record { name = n; columns = ns; unique = unique }

abbrev pub foreign_to : Name → List Name → Name → List Name → Bool → ForeignKey
foreign_to n ns t targets cascade = record { name = n; columns = ns; table = t; targets = targets; cascade = cascade }

-- id = n
abbrev pub where_id : ℤ → Option Test
where_id n = Some (Compare Eq (operand.Column id) (operand.Literal (number n)))

abbrev pub parents : List (List Value) → Table
parents rows = record {
  columns = column id kind.Int false None false ∷ column code kind.Text false (Some (value.Text (codes "a"))) false ∷ column at kind.Moment true None false ∷ [];
  key = Some (key_on (codes "pk_parent") (id ∷ []));
  uniques = unique_on (codes "uq_code") (code ∷ []) ∷ [];
  foreign = [];
  indexes = index_on (codes "ix_at") (at ∷ []) false ∷ [];
  next = 1;
  rows = rows;
}

-- children with their rows, and whether they go with their parent
abbrev pub children : List (List Value) → ℕ → Bool → Name → Table
children rows next cascade key_name = record {
  columns = column id kind.Int false None true ∷ column up kind.Int true None false ∷ [];
  key = Some (key_on key_name (id ∷ []));
  uniques = [];
  foreign = foreign_to (codes "fk_up") (up ∷ []) parent (id ∷ []) cascade ∷ [];
  indexes = [];
  next = next;
  rows = rows;
}

abbrev pub parent_row : ℤ → Name → List Value
parent_row n c = value.Int n ∷ value.Text c ∷ value.Null ∷ []

abbrev pub child_row : ℤ → ℤ → List Value
child_row n p = value.Int n ∷ value.Int p ∷ []

-- SELECT code FROM parent WHERE id = 1
abbrev pub codes_of_one : Query
codes_of_one = record { wanted = wanted.Columns (code ∷ []); table = parent; test = where_id (pos 1) }

abbrev pub two_parents : List (List Value)
two_parents = parent_row (pos 1) (codes "a") ∷ parent_row (pos 2) (codes "b") ∷ []

abbrev pub one_child : List (List Value)
one_child = child_row (pos 1) (pos 1) ∷ []

abbrev pub world_of : Table → Table → Catalogue
world_of c p = record {
  tables = (child, c) ∷ (parent, p) ∷ [];
  views = (view, record { query = codes_of_one; columns = code ∷ [] }) ∷ [];
  sequences = (seq, record { start = pos 1; step = pos 1 }) ∷ [];
}

abbrev pub world : Catalogue
world = world_of (children one_child 2 false (codes "pk_child")) (parents two_parents)

-- the same, children going with their parents
abbrev pub cascading : Catalogue
cascading = world_of (children one_child 2 true (codes "pk_child")) (parents two_parents)

-- the reason that a statement is refused for, None where it is accepted
abbrev pub refusal : Result (Catalogue × ℕ) Reason → Option Reason
refusal (Ok r) = None
refusal (Err r) = Some r

abbrev pub refusals : By → Dialect → Catalogue → List Statement → List (Option Reason)
refusals by d c ss = map (λ s. refusal (step by d s c)) ss
