-- Worked examples: a name that a statement makes is taken in its space. The same statement with a name that is free in the space is accepted.
use Rattle.std.specs.List.{flat_map}
use Rattle.std.specs.Prelude.{List, None, Option, Some, [], codes, false, map, pos, refl, true, ◌++◌, ◌∷◌}
use Rattle.lq_base.specs.Value.{into_kind}
use Rattle.lq_base.specs.declared.dialect.Dialect.TheVariants.{Mysql, Postgresql}
use Rattle.lq_base.specs.declared.kind.Kind.TheVariants as kind
use Rattle.lq_base.specs.declared.name.Name.{Name}
use Rattle.lq_base.specs.declared.reason.Reason.TheVariants.{Exists, Missing}
use Rattle.lq_model.specs.Catalogue.{Catalogue}
use Rattle.lq_model.specs.Plan.{decide}
use Rattle.lq_model.specs.NameSpaces.{lock_key}
use Rattle.lq_model.specs.declared.caller.By.TheVariants.{Program, User}
use Rattle.lq_model.specs.declared.constraint.ForeignKey.{ForeignKey}
use Rattle.lq_model.specs.declared.constraint.Key.{Key}
use Rattle.lq_model.specs.declared.constraint.Unique.{Unique}
use Rattle.lq_model.specs.declared.query.Wanted.TheVariants as wanted
use Rattle.lq_model.specs.declared.statement.Statement.{Statement}
use Rattle.lq_model.specs.declared.statement.Statement.TheVariants.{AddForeignKey, AddPrimaryKey, AddUnique, CreateIndex, CreateSequence, CreateTable, CreateView, RenameSequence, RenameTable, RenameView}
use Rattle.lq_model.proofs.ExampleWorld.{another, at, child, children, code, def, foreign_to, id, index_on, key_on, none, parent, parents, seq, unique_on, up, view, world_of}
use Rattle.lq_model.proofs.Matrix.Tables.{Are, fresh, plain, query_of, roomy, table}

-- a new table with one column, and with this key, these unique constraints and foreign keys
abbrev new_with : Option Key → List Unique → List ForeignKey → Statement
new_with key uniques foreign = CreateTable fresh (def id kind.Int None ∷ []) key uniques foreign

-- a foreign key of that name to the parents
abbrev to_parents : Name → List Name → ForeignKey
to_parents n ns = foreign_to n ns parent (id ∷ []) false

-- what makes a table, a view or a sequence of that name, or an index, a key or a unique constraint
abbrev makes_object : Name → List Statement
makes_object n =
    CreateTable n (def id kind.Int None ∷ []) None [] []
    ∷ RenameTable another n
    ∷ RenameTable view n
    ∷ CreateView n (query_of wanted.All another None) false
    ∷ []

abbrev makes_object_postgresql : Name → List Statement
makes_object_postgresql n =
    CreateView n (query_of wanted.All another None) true
    ∷ RenameView view n
    ∷ CreateSequence n (pos 1) (pos 1)
    ∷ RenameSequence seq n
    ∷ []

abbrev makes_inner : Name → List Statement
makes_inner n =
    new_with (Some (key_on n (id ∷ []))) [] []
    ∷ new_with None (unique_on n (id ∷ []) ∷ []) []
    ∷ AddPrimaryKey another (key_on n (id ∷ []))
    ∷ AddUnique another (unique_on n (id ∷ []))
    ∷ CreateIndex another (index_on n (id ∷ []) false)
    ∷ []

-- what shares one space under PostgreSQL; the name of a foreign key is not in it
abbrev makes_shared : Name → List Statement
makes_shared n = makes_object n ++ makes_object_postgresql n ++ makes_inner n

-- the names of a table, a sequence, a key, unique constraints and indexes, of this table and of another
abbrev shared : List Name
shared = another ∷ parent ∷ seq ∷ codes "pk_parent" ∷ codes "uq_code" ∷ codes "uq" ∷ codes "ix_at" ∷ codes "ix" ∷ []

-- `CREATE OR REPLACE VIEW` alone may name a view that is there, and makes no name then
pub one_space_in_postgresql :
    Are None User Postgresql (roomy None) (makes_shared none)
    × Are (Some Exists) User Postgresql (roomy None) (flat_map makes_shared shared)
    × Are (Some Exists) User Postgresql (roomy None) (makes_object view ++ RenameView view view ∷ CreateSequence view (pos 1) (pos 1) ∷ RenameSequence seq view ∷ makes_inner view)
    × Are None User Postgresql (roomy None) (CreateView view (query_of wanted.All another None) true ∷ [])
    × Are None User Postgresql (roomy None) (makes_object (codes "fk") ++ makes_object_postgresql (codes "fk"))
unfolding decide into_kind
one_space_in_postgresql = (refl, refl, refl, refl, refl)

-- a user makes and renames away no name of the lock table's key in PostgreSQL's one space, the program does; under MySQL it is a name as others are
abbrev locked : Catalogue
locked = record (roomy None) { tables = (lock_key, table (plain id kind.Int ∷ []) None [] [] [] []) ∷ [] }

pub lock_key_is_taken :
    Are (Some Exists) User Postgresql (roomy None) (makes_shared lock_key)
    × Are None Program Postgresql (roomy None) (makes_shared lock_key)
    × Are None User Mysql (roomy None) (makes_object lock_key ++ makes_inner lock_key)
    × Are None User Postgresql (roomy None) (AddForeignKey another (to_parents lock_key (id ∷ [])) ∷ new_with None [] (to_parents lock_key (id ∷ []) ∷ []) ∷ [])
    × Are (Some Missing) User Postgresql (roomy None) (RenameTable lock_key fresh ∷ RenameView lock_key fresh ∷ RenameSequence lock_key fresh ∷ [])
    × Are (Some Exists) User Postgresql locked (RenameTable lock_key fresh ∷ [])
    × Are None Program Postgresql locked (RenameTable lock_key fresh ∷ [])
    × Are None User Mysql locked (RenameTable lock_key fresh ∷ [])
    × Are (Some Exists) User Postgresql (record (roomy None) { views = (lock_key, record { query = query_of (wanted.Columns (id ∷ [])) another None; columns = id ∷ [] }) ∷ [] }) (RenameView lock_key fresh ∷ RenameTable lock_key fresh ∷ [])
    × Are None User Postgresql (record (roomy None) { views = (lock_key, record { query = query_of (wanted.Columns (id ∷ [])) another None; columns = id ∷ [] }) ∷ [] }) (CreateView lock_key (query_of wanted.All another None) true ∷ [])
    × Are (Some Exists) User Postgresql (record (roomy None) { sequences = (lock_key, record { start = pos 1; step = pos 1 }) ∷ [] }) (RenameSequence lock_key fresh ∷ [])
unfolding decide into_kind
lock_key_is_taken = (refl, refl, refl, refl, refl, refl, refl, refl, refl, refl, refl)

-- the constraints of one table differ under PostgreSQL, whatever their sorts; a foreign key may have the name of a table, a view, a sequence, an index or another table's constraint, an index that of a foreign key
pub constraints_of_one_table :
    Are (Some Exists) User Postgresql (world_of (children [] 1 false (codes "pk_child")) (parents [])) (map (λ n. AddForeignKey child (to_parents n (up ∷ []))) (codes "pk_child" ∷ codes "fk_up" ∷ []))
    × Are (Some Exists) User Postgresql (roomy None) (AddForeignKey another (to_parents (codes "uq") (at ∷ [])) ∷ [])
    × Are (Some Exists) User Postgresql (roomy None) (AddUnique another (unique_on (codes "fk") (id ∷ [])) ∷ AddPrimaryKey another (key_on (codes "fk") (id ∷ [])) ∷ [])
    × Are None User Postgresql (roomy None) (map (λ n. AddForeignKey another (to_parents n (at ∷ []))) (another ∷ parent ∷ view ∷ seq ∷ codes "ix" ∷ codes "ix_at" ∷ codes "uq_code" ∷ codes "pk_parent" ∷ []))
    × Are None User Postgresql (roomy None) (CreateIndex another (index_on (codes "fk") (id ∷ []) false) ∷ CreateIndex parent (index_on (codes "fk") (id ∷ []) false) ∷ AddUnique parent (unique_on (codes "fk") (id ∷ [])) ∷ [])
unfolding decide
constraints_of_one_table = (refl, refl, refl, refl, refl)

-- three spaces under MySQL, where the catalogue has no sequence: tables and views; foreign keys, of all tables; the indexes and unique constraints of one table
abbrev unsequenced : Catalogue
unsequenced = record (roomy None) { sequences = [] }

abbrev makes_foreign : Name → List Statement
makes_foreign n = AddForeignKey another (to_parents n (at ∷ [])) ∷ AddForeignKey parent (foreign_to n (id ∷ []) another (id ∷ []) false) ∷ new_with None [] (to_parents n (id ∷ []) ∷ []) ∷ []

abbrev makes_index : Name → List Statement
makes_index n = AddUnique another (unique_on n (code ∷ [])) ∷ CreateIndex another (index_on n (code ∷ []) false) ∷ CreateIndex another (index_on n (code ∷ []) true) ∷ []

pub three_spaces_in_mysql :
    Are (Some Exists) User Mysql unsequenced (flat_map makes_object (another ∷ parent ∷ view ∷ []))
    × Are (Some Exists) User Mysql unsequenced (CreateView another (query_of wanted.All parent None) true ∷ [])
    × Are None User Mysql unsequenced (CreateView view (query_of wanted.All parent None) true ∷ [])
    × Are None User Mysql unsequenced (flat_map makes_object (codes "uq" ∷ codes "ix" ∷ codes "fk" ∷ codes "uq_code" ∷ codes "pk_parent" ∷ []))
    × Are (Some Exists) User Mysql unsequenced (makes_foreign (codes "fk"))
    × Are None User Mysql unsequenced (flat_map makes_foreign (another ∷ parent ∷ view ∷ codes "uq" ∷ codes "ix" ∷ codes "uq_code" ∷ []))
    × Are (Some Exists) User Mysql unsequenced (flat_map makes_index (codes "uq" ∷ codes "ix" ∷ []))
    × Are None User Mysql unsequenced (flat_map makes_index (another ∷ parent ∷ view ∷ codes "fk" ∷ codes "uq_code" ∷ codes "ix_at" ∷ []))
    × Are None User Mysql unsequenced (new_with None (unique_on (codes "uq") (id ∷ []) ∷ []) [] ∷ new_with None (unique_on another (id ∷ []) ∷ []) [] ∷ AddPrimaryKey another (key_on (codes "PRIMARY") (id ∷ [])) ∷ [])
unfolding decide into_kind
three_spaces_in_mysql = (refl, refl, refl, refl, refl, refl, refl, refl, refl)
