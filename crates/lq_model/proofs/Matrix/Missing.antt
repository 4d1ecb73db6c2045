-- Worked examples: something that a statement or a query names as there is not there, or is of another sort. The same statement with a name that is there is accepted.
use Rattle.std.specs.List.{flat_map}
use Rattle.std.specs.Prelude.{Err, List, None, Option, Some, [], codes, false, map, refl, true, ◌∷◌, ◌≡◌}
use Rattle.lq_base.specs.Value.{into_kind, is_value_of}
use Rattle.lq_base.specs.declared.dialect.Dialect.TheVariants.{Mysql, Postgresql}
use Rattle.lq_base.specs.declared.kind.Kind.TheVariants as kind
use Rattle.lq_base.specs.declared.literal.Literal.TheVariants as literal
use Rattle.lq_base.specs.declared.name.Name.{Name}
use Rattle.lq_base.specs.declared.reason.Reason.TheVariants.{Missing}
use Rattle.lq_model.specs.Catalogue.{Catalogue}
use Rattle.lq_model.specs.Plan.{decide}
use Rattle.lq_model.specs.Views.{answer}
use Rattle.lq_model.specs.declared.caller.By.TheVariants.{User}
use Rattle.lq_model.specs.declared.constraint.ForeignKey.{ForeignKey}
use Rattle.lq_model.specs.declared.constraint.Key.{Key}
use Rattle.lq_model.specs.declared.constraint.Unique.{Unique}
use Rattle.lq_model.specs.declared.query.Wanted.TheVariants as wanted
use Rattle.lq_model.specs.declared.statement.Statement.{Statement}
use Rattle.lq_model.specs.declared.statement.Statement.TheVariants.{AddColumn, AddForeignKey, AddPrimaryKey, AddUnique, CreateIndex, CreateTable, CreateView, Delete, DropColumn, DropConstraint, DropDefault, DropForeignKey, DropIndex, DropNotNull, DropPrimaryKey, DropSequence, DropTable, DropUnique, DropView, Insert, Modify, RenameColumn, RenameSequence, RenameTable, RenameView, SetDefault, SetNotNull, Update}
use Rattle.lq_model.specs.declared.test.Operand.TheVariants as operand
use Rattle.lq_model.specs.declared.test.Test.{IsNull}
use Rattle.lq_model.proofs.ExampleWorld.{another, code, def, foreign_to, id, index_on, key_on, none, parent, seq, text, unique_on, up, view, world}
use Rattle.lq_model.proofs.Matrix.Tables.{Are, fresh, query_of, roomy}

-- what names a table: to be changed, to be targeted, to be looked at
abbrev on_table : Name → List Statement
on_table n =
    DropTable n
    ∷ AddColumn n (def up kind.Int None)
    ∷ DropColumn n code
    ∷ RenameColumn n code up
    ∷ SetDefault n code literal.Null
    ∷ DropDefault n code
    ∷ AddPrimaryKey n (key_on fresh (code ∷ []))
    ∷ AddUnique n (unique_on fresh (code ∷ []))
    ∷ AddForeignKey n (foreign_to fresh (code ∷ []) parent (code ∷ []) false)
    ∷ AddForeignKey parent (foreign_to fresh (id ∷ []) n (id ∷ []) false)
    ∷ CreateTable fresh (def id kind.Int None ∷ []) None [] (foreign_to (codes "f") (id ∷ []) n (id ∷ []) false ∷ [])
    ∷ CreateIndex n (index_on fresh (code ∷ []) false)
    ∷ CreateView fresh (query_of wanted.All n None) false
    ∷ Insert n (code ∷ []) (text (codes "x") ∷ [])
    ∷ Update n ((code, text (codes "x")) ∷ []) None
    ∷ Delete n None
    ∷ []

abbrev on_table_postgresql : Name → List Statement
on_table_postgresql n = SetNotNull n code ∷ DropNotNull n code ∷ DropConstraint n (codes "uq") ∷ []

-- on a table with a key
abbrev on_table_mysql : Name → List Statement
on_table_mysql n = Modify n code kind.Text true ∷ DropPrimaryKey n ∷ DropUnique n (codes "uq") ∷ DropForeignKey n (codes "fk") ∷ DropIndex (codes "ix") (Some n) ∷ []

-- no table of that name, a view's name, a sequence's name
abbrev no_tables : List Name
no_tables = none ∷ view ∷ seq ∷ []

pub tables_missing :
    Are None User Postgresql (roomy None) (on_table another)
    × Are (Some Missing) User Postgresql (roomy None) (flat_map on_table no_tables)
    × Are None User Mysql (roomy None) (on_table another)
    × Are (Some Missing) User Mysql (roomy None) (flat_map on_table (none ∷ view ∷ []))
    × Are None User Postgresql (roomy None) (on_table_postgresql another)
    × Are (Some Missing) User Postgresql (roomy None) (flat_map on_table_postgresql no_tables)
    × Are None User Mysql (roomy (Some (key_on (codes "PRIMARY") (id ∷ [])))) (on_table_mysql another)
    × Are (Some Missing) User Mysql (roomy (Some (key_on (codes "PRIMARY") (id ∷ [])))) (flat_map on_table_mysql (none ∷ view ∷ []))
unfolding decide into_kind is_value_of
tables_missing = (refl, refl, refl, refl, refl, refl, refl, refl)

-- what names a column of the free table or of the parents: alone, second in a list, as a target, in a test
abbrev on_column : Name → List Statement
on_column n =
    DropColumn another n
    ∷ RenameColumn another n up
    ∷ SetDefault another n literal.Null
    ∷ DropDefault another n
    ∷ AddPrimaryKey another (key_on fresh (id ∷ n ∷ []))
    ∷ AddUnique another (unique_on fresh (id ∷ n ∷ []))
    ∷ CreateIndex another (index_on fresh (id ∷ n ∷ []) true)
    ∷ AddForeignKey another (foreign_to fresh (n ∷ []) parent (code ∷ []) false)
    ∷ AddForeignKey another (foreign_to fresh (code ∷ []) parent (n ∷ []) false)
    ∷ CreateView fresh (query_of (wanted.Columns (id ∷ n ∷ [])) another None) false
    ∷ CreateView fresh (query_of wanted.All another (Some (IsNull (operand.Column n)))) false
    ∷ CreateView view (query_of wanted.All another (Some (IsNull (operand.Column n)))) true
    ∷ Insert another (id ∷ n ∷ []) (literal.Null ∷ literal.Null ∷ [])
    ∷ Update another ((id, literal.Null) ∷ (n, literal.Null) ∷ []) None
    ∷ Update another ((id, literal.Null) ∷ []) (Some (IsNull (operand.Column n)))
    ∷ Delete another (Some (IsNull (operand.Column n)))
    ∷ []

-- a new table with this key, these unique constraints and foreign keys
abbrev made_with : Option Key → List Unique → List ForeignKey → Statement
made_with key uniques foreign = CreateTable fresh (def id kind.Int None ∷ def code kind.Text None ∷ []) key uniques foreign

-- what a new table names of its own, and as a target
abbrev in_new_table : Name → List Statement
in_new_table n =
    made_with (Some (key_on (codes "k") (id ∷ n ∷ []))) [] []
    ∷ made_with None (unique_on (codes "u") (id ∷ n ∷ []) ∷ []) []
    ∷ made_with None [] (foreign_to (codes "f") (n ∷ []) parent (code ∷ []) false ∷ [])
    ∷ made_with None [] (foreign_to (codes "f") (code ∷ []) parent (n ∷ []) false ∷ [])
    ∷ made_with None (unique_on (codes "u") (code ∷ []) ∷ []) (foreign_to (codes "f") (code ∷ []) fresh (n ∷ []) false ∷ [])
    ∷ []

abbrev on_column_postgresql : Name → List Statement
on_column_postgresql n = SetNotNull another n ∷ DropNotNull another n ∷ []

pub columns_missing :
    Are None User Postgresql (roomy None) (on_column code)
    × Are (Some Missing) User Postgresql (roomy None) (on_column none)
    × Are None User Mysql (roomy None) (on_column code)
    × Are (Some Missing) User Mysql (roomy None) (on_column none)
    × Are None User Postgresql (roomy None) (in_new_table code)
    × Are (Some Missing) User Postgresql (roomy None) (in_new_table none)
    × Are None User Mysql (roomy None) (in_new_table code)
    × Are (Some Missing) User Mysql (roomy None) (in_new_table none)
    × Are None User Postgresql (roomy None) (on_column_postgresql code)
    × Are (Some Missing) User Postgresql (roomy None) (on_column_postgresql none)
    × Are None User Mysql (roomy None) (Modify another code kind.Text true ∷ [])
    × Are (Some Missing) User Mysql (roomy None) (Modify another none kind.Text true ∷ [])
unfolding decide into_kind is_value_of
columns_missing = (refl, refl, refl, refl, refl, refl, refl, refl, refl, refl, refl, refl)

-- a column of another table is none of the new table's own
pub new_table_has_its_own : Are (Some Missing) User Postgresql world (CreateTable parent (def id kind.Int None ∷ []) None [] (foreign_to (codes "f") (id ∷ []) parent (code ∷ []) false ∷ []) ∷ [])
unfolding decide into_kind
new_table_has_its_own = refl

-- the free table with a key of this name
abbrev keyed : Name → Catalogue
keyed n = roomy (Some (key_on n (id ∷ [])))

-- a constraint or an index of that name: not that of another table, not of another sort, and not the table's own name
pub constraints_missing :
    Are None User Postgresql (keyed (codes "pk")) (map (DropConstraint another) (codes "pk" ∷ codes "uq" ∷ codes "fk" ∷ []))
    × Are (Some Missing) User Postgresql (keyed (codes "pk")) (map (DropConstraint another) (none ∷ another ∷ codes "ix" ∷ codes "pk_parent" ∷ codes "uq_code" ∷ []))
    × Are None User Postgresql (keyed (codes "pk")) (DropIndex (codes "ix") None ∷ DropIndex (codes "ix_at") None ∷ [])
    × Are (Some Missing) User Postgresql (keyed (codes "pk")) (map (λ n. DropIndex n None) (none ∷ another ∷ codes "pk" ∷ codes "uq" ∷ codes "fk" ∷ []))
    × Are None User Mysql (keyed (codes "PRIMARY")) (DropUnique another (codes "uq") ∷ DropForeignKey another (codes "fk") ∷ DropIndex (codes "ix") (Some another) ∷ DropPrimaryKey another ∷ [])
    × Are (Some Missing) User Mysql (keyed (codes "PRIMARY")) (map (DropUnique another) (none ∷ codes "PRIMARY" ∷ codes "fk" ∷ codes "ix" ∷ codes "uq_code" ∷ []))
    × Are (Some Missing) User Mysql (keyed (codes "PRIMARY")) (map (DropForeignKey another) (none ∷ codes "PRIMARY" ∷ codes "uq" ∷ codes "ix" ∷ []))
    × Are (Some Missing) User Mysql world (DropForeignKey parent (codes "fk_up") ∷ [])
    × Are (Some Missing) User Mysql (keyed (codes "PRIMARY")) (map (λ n. DropIndex n (Some another)) (none ∷ codes "PRIMARY" ∷ codes "uq" ∷ codes "fk" ∷ codes "ix_at" ∷ []))
    × Are (Some Missing) User Mysql (roomy None) (DropPrimaryKey another ∷ [])
unfolding decide
constraints_missing = (refl, refl, refl, refl, refl, refl, refl, refl, refl, refl)

-- a renamed table may be a view under both dialects
pub objects_missing :
    Are None User Postgresql (roomy None) (DropView view ∷ RenameView view fresh ∷ DropSequence seq ∷ RenameSequence seq fresh ∷ RenameTable another fresh ∷ RenameTable view fresh ∷ [])
    × Are None User Mysql (roomy None) (DropView view ∷ RenameTable another fresh ∷ RenameTable view fresh ∷ [])
    × Are (Some Missing) User Postgresql (roomy None) (map DropView (none ∷ another ∷ seq ∷ codes "ix" ∷ []))
    × Are (Some Missing) User Postgresql (roomy None) (map (λ n. RenameView n fresh) (none ∷ another ∷ seq ∷ codes "ix" ∷ []))
    × Are (Some Missing) User Postgresql (roomy None) (map DropSequence (none ∷ another ∷ view ∷ codes "ix" ∷ []))
    × Are (Some Missing) User Postgresql (roomy None) (map (λ n. RenameSequence n fresh) (none ∷ another ∷ view ∷ codes "ix" ∷ []))
    × Are (Some Missing) User Postgresql (roomy None) (map (λ n. RenameTable n fresh) (none ∷ seq ∷ codes "ix" ∷ codes "uq" ∷ []))
    × Are (Some Missing) User Mysql (roomy None) (map (λ n. RenameTable n fresh) (none ∷ codes "ix" ∷ codes "uq" ∷ []))
unfolding decide
objects_missing = (refl, refl, refl, refl, refl, refl, refl, refl)

-- a view shows its own columns alone
pub queries_missing :
    (answer User (query_of wanted.All none None) world ≡ Err Missing)
    × (answer User (query_of wanted.Count none None) world ≡ Err Missing)
    × (answer User (query_of wanted.All seq None) world ≡ Err Missing)
    × (answer User (query_of (wanted.Columns (id ∷ none ∷ [])) parent None) world ≡ Err Missing)
    × (answer User (query_of wanted.Count parent (Some (IsNull (operand.Column none)))) world ≡ Err Missing)
    × (answer User (query_of (wanted.Columns (id ∷ [])) view None) world ≡ Err Missing)
    × (answer User (query_of wanted.All view (Some (IsNull (operand.Column id)))) world ≡ Err Missing)
queries_missing = (refl, refl, refl, refl, refl, refl, refl)
