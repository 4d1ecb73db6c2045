-- The tables of the worked examples by reason, and the lists of statements that differ in one name.
use Rattle.std.specs.Prelude.{List, None, Ok, Option, [], codes, false, map, true, ℕ, ◌∷◌, ◌≡◌}
use Rattle.lq_base.specs.declared.dialect.Dialect.{Dialect}
use Rattle.lq_base.specs.declared.dialect.Dialect.TheVariants.{Mysql, Postgresql}
use Rattle.lq_base.specs.declared.kind.Kind.{Kind}
use Rattle.lq_base.specs.declared.kind.Kind.TheVariants as kind
use Rattle.lq_base.specs.declared.name.Name.{Name}
use Rattle.lq_base.specs.declared.reason.Reason.{Reason}
use Rattle.lq_base.specs.declared.value.Value.{Value}
use Rattle.lq_model.specs.Catalogue.{Catalogue, Table}
use Rattle.lq_model.specs.Step.{step}
use Rattle.lq_model.specs.declared.caller.By.{By}
use Rattle.lq_model.specs.declared.caller.By.TheVariants.{User}
use Rattle.lq_model.specs.declared.column.Column.{Column}
use Rattle.lq_model.specs.declared.constraint.ForeignKey.{ForeignKey}
use Rattle.lq_model.specs.declared.constraint.Key.{Key}
use Rattle.lq_model.specs.declared.constraint.Unique.{Unique}
use Rattle.lq_model.specs.declared.index.Index.{Index}
use Rattle.lq_model.specs.declared.query.Query.{Query}
use Rattle.lq_model.specs.declared.query.Wanted.{Wanted}
use Rattle.lq_model.specs.declared.statement.Statement.{Statement}
use Rattle.lq_model.specs.declared.test.Test.{Test}
use Rattle.lq_model.proofs.ExampleWorld.{another, at, code, column, foreign_to, id, index_on, parent, parents, refusals, unique_on, world}

-- each of the statements is refused for this reason, or, with None, accepted
abbrev pub Are : Option Reason → By → Dialect → Catalogue → List Statement → Type 0
Are reason by d c ss = refusals by d c ss ≡ map (λ s. reason) ss

-- the statement is accepted, leaves the catalogue e and changes n rows
abbrev pub Gives : Dialect → Catalogue → Statement → Catalogue → ℕ → Type 0
Gives d c s e n = step User d s c ≡ Ok (e, n)

-- the same under both dialects, of a statement that changes no row
abbrev pub Leaves : Catalogue → Statement → Catalogue → Type 0
Leaves c s e = Gives Postgresql c s e 0 × Gives Mysql c s e 0

-- a name that nothing has
abbrev pub fresh : Name
fresh = codes "fresh"

abbrev pub query_of : Wanted → Name → Option Test → Query
query_of w t test = record { wanted = w; table = t; test = test }

-- a column that may be null, without a default
abbrev pub plain : Name → Kind → Column
plain n k = column n k true None false

-- a table whose next number is 1
abbrev pub table : List Column → Option Key → List Unique → List ForeignKey → List Index → List (List Value) → Table
table columns key uniques foreign indexes rows = record { columns = columns; key = key; uniques = uniques; foreign = foreign; indexes = indexes; next = 1; rows = rows }

-- a catalogue of tables alone
abbrev pub of_tables : List (Name × Table) → Catalogue
of_tables ts = record { tables = ts; views = []; sequences = [] }

-- nothing needs this table or its column `code`
abbrev pub free : Option Key → Table
free key = table (plain id kind.Int ∷ plain code kind.Text ∷ plain at kind.Int ∷ []) key (unique_on (codes "uq") (id ∷ []) ∷ []) (foreign_to (codes "fk") (at ∷ []) parent (id ∷ []) false ∷ []) (index_on (codes "ix") (at ∷ []) false ∷ []) []

-- the free table beside the parents without rows, their view and a sequence
abbrev pub roomy : Option Key → Catalogue
roomy key = record world { tables = (another, free key) ∷ (parent, parents []) ∷ [] }
