-- Worked examples: the whole catalogue after a table, a view or a sequence is made, dropped or renamed.
use Rattle.std.specs.Prelude.{List, None, Ok, Option, Some, [], codes, false, neg_ℤ, pos, refl, true, ℤ, ◌∷◌, ◌≡◌}
use Rattle.lq_base.specs.Number.{number_of}
use Rattle.lq_base.specs.Value.{into_kind}
use Rattle.lq_base.specs.declared.dialect.Dialect.TheVariants.{Postgresql}
use Rattle.lq_base.specs.declared.kind.Kind.TheVariants as kind
use Rattle.lq_base.specs.declared.literal.Literal.TheVariants as literal
use Rattle.lq_base.specs.declared.name.Name.{Name}
use Rattle.lq_base.specs.declared.value.Value.{Value}
use Rattle.lq_base.specs.declared.value.Value.TheVariants as value
use Rattle.lq_model.specs.Catalogue.{Catalogue, Table, View}
use Rattle.lq_model.specs.Plan.{decide}
use Rattle.lq_model.specs.Step.{run}
use Rattle.lq_model.specs.declared.caller.By.TheVariants.{User}
use Rattle.lq_model.specs.declared.constraint.ForeignKey.{ForeignKey}
use Rattle.lq_model.specs.declared.statement.Statement.{Statement}
use Rattle.lq_model.specs.declared.statement.Statement.TheVariants.{AddColumn, CreateSequence, CreateTable, CreateView, DropSequence, DropTable, DropView, RenameSequence, RenameTable, RenameView}
use Rattle.lq_model.specs.declared.query.Wanted.TheVariants as wanted
use Rattle.lq_model.specs.declared.test.Test.{Test}
use Rattle.lq_model.proofs.ExampleWorld.{another, at, child, children, code, codes_of_one, column, def, foreign_to, id, key_on, number, numbered_def, one_child, parent, parents, seq, text, two_parents, unique_on, up, view, where_id, world}
use Rattle.lq_model.proofs.Matrix.Tables.{Gives, Leaves, of_tables, plain, query_of, table}

-- the columns of a key are NOT NULL, a default becomes a value of its kind, the next number is 1, and there are no rows and no indexes; the table stands in the order of the names
abbrev f : ForeignKey
f = foreign_to (codes "f") (at ∷ []) parent (id ∷ []) true

abbrev g : ForeignKey
g = foreign_to (codes "g") (up ∷ at ∷ []) another (id ∷ at ∷ []) false

abbrev made : Statement
made = CreateTable another
    (def id kind.Int None ∷ record (def code kind.Text (Some (text (codes "x")))) { nullable = false } ∷ def at kind.Int (Some (text (codes "7"))) ∷ def up kind.Int (Some literal.Null) ∷ [])
    (Some (key_on (codes "k") (id ∷ at ∷ []))) (unique_on (codes "u") (code ∷ []) ∷ unique_on (codes "t") (up ∷ id ∷ []) ∷ []) (f ∷ g ∷ [])

abbrev made_table : Table
made_table = record {
  columns = column id kind.Int false None false ∷ column code kind.Text false (Some (value.Text (codes "x"))) false ∷ column at kind.Int false (Some (value.Int (pos 7))) false ∷ column up kind.Int true (Some value.Null) false ∷ [];
  key = Some (key_on (codes "k") (id ∷ at ∷ []));
  uniques = unique_on (codes "u") (code ∷ []) ∷ unique_on (codes "t") (up ∷ id ∷ []) ∷ [];
  foreign = f ∷ g ∷ [];
  indexes = [];
  next = 1;
  rows = [];
}

pub table_made :
    Leaves world made (record world { tables = (child, children one_child 2 false (codes "pk_child")) ∷ (another, made_table) ∷ (parent, parents two_parents) ∷ [] })
    × Leaves (of_tables []) (CreateTable another (numbered_def id kind.BigInt None ∷ []) (Some (key_on (codes "PRIMARY") (id ∷ []))) [] []) (of_tables ((another, table (column id kind.BigInt false None true ∷ []) (Some (key_on (codes "PRIMARY") (id ∷ []))) [] [] [] []) ∷ []))
unfolding decide into_kind number_of
table_made = ((refl, refl), (refl, refl))

-- the table goes with its rows, and all else stays
pub table_dropped : Leaves world (DropTable child) (record world { tables = (parent, parents two_parents) ∷ [] })
unfolding decide
table_dropped = (refl, refl)

-- a renamed table keeps what it has; the targets of foreign keys have its new name, its own among them
abbrev unseen : Catalogue
unseen = record world { views = [] }

abbrev own : Name → Table
own target = table (plain id kind.Int ∷ plain up kind.Int ∷ []) None (unique_on (codes "u") (id ∷ []) ∷ []) (foreign_to (codes "f") (up ∷ []) target (id ∷ []) false ∷ foreign_to (codes "g") (up ∷ []) parent (id ∷ []) false ∷ []) [] []

pub table_renamed :
    Leaves unseen (RenameTable parent (codes "a")) (record unseen { tables = (codes "a", parents two_parents) ∷ (child, record (children one_child 2 false (codes "pk_child")) { foreign = foreign_to (codes "fk_up") (up ∷ []) (codes "a") (id ∷ []) false ∷ [] }) ∷ [] })
    × Leaves world (RenameTable child (codes "z")) (record world { tables = (parent, parents two_parents) ∷ (codes "z", children one_child 2 false (codes "pk_child")) ∷ [] })
    × Leaves (of_tables ((another, own another) ∷ (parent, parents []) ∷ [])) (RenameTable another (codes "z")) (of_tables ((parent, parents []) ∷ (codes "z", own (codes "z")) ∷ []))
unfolding decide
table_renamed = ((refl, refl), (refl, refl), (refl, refl))

-- a view keeps its columns; `*` is all columns of its table at that moment
abbrev view_on : List Name → Option Test → View
view_on ns test = record { query = query_of (wanted.Columns ns) parent test; columns = ns }

abbrev first_view : View
first_view = record { query = codes_of_one; columns = code ∷ [] }

-- a row of the parents with one more value
abbrev longer : ℤ → Name → List Value
longer n c = value.Int n ∷ value.Text c ∷ value.Null ∷ value.Int (pos 3) ∷ []

pub view_made :
    Leaves world (CreateView (codes "v") (query_of wanted.All parent (where_id (pos 2))) false) (record world { views = (codes "v", view_on (id ∷ code ∷ at ∷ []) (where_id (pos 2))) ∷ (view, first_view) ∷ [] })
    × Leaves world (CreateView (codes "w") (query_of (wanted.Columns (at ∷ id ∷ [])) parent None) true) (record world { views = (view, first_view) ∷ (codes "w", view_on (at ∷ id ∷ []) None) ∷ [] })
    × Leaves world (CreateView view (query_of wanted.All parent None) true) (record world { views = (view, view_on (id ∷ code ∷ at ∷ []) None) ∷ [] })
    × (run User Postgresql (CreateView view (query_of wanted.All parent None) true ∷ AddColumn parent (def up kind.Int (Some (number (pos 3)))) ∷ []) unseen
    ≡ Ok (record unseen {
      tables = (child, children one_child 2 false (codes "pk_child")) ∷ (parent, record (parents (longer (pos 1) (codes "a") ∷ longer (pos 2) (codes "b") ∷ [])) { columns = column id kind.Int false None false ∷ column code kind.Text false (Some (value.Text (codes "a"))) false ∷ column at kind.Moment true None false ∷ column up kind.Int true (Some (value.Int (pos 3))) false ∷ [] }) ∷ [];
      views = (view, view_on (id ∷ code ∷ at ∷ []) None) ∷ [];
    }))
unfolding decide into_kind
view_made = ((refl, refl), (refl, refl), (refl, refl), refl)

pub view_dropped_and_renamed :
    Leaves world (DropView view) unseen
    × Leaves world (RenameView view (codes "a")) (record world { views = (codes "a", first_view) ∷ [] })
    × Leaves world (RenameTable view (codes "a")) (record world { views = (codes "a", first_view) ∷ [] })
unfolding decide
view_dropped_and_renamed = ((refl, refl), (refl, refl), (refl, refl))

pub sequences_changed :
    Gives Postgresql world (CreateSequence (codes "a") (pos 5) (neg_ℤ (pos 2))) (record world { sequences = (codes "a", record { start = pos 5; step = neg_ℤ (pos 2) }) ∷ (seq, record { start = pos 1; step = pos 1 }) ∷ [] }) 0
    × Gives Postgresql world (DropSequence seq) (record world { sequences = [] }) 0
    × Gives Postgresql world (RenameSequence seq (codes "z")) (record world { sequences = (codes "z", record { start = pos 1; step = pos 1 }) ∷ [] }) 0
unfolding decide
sequences_changed = (refl, refl, refl)
