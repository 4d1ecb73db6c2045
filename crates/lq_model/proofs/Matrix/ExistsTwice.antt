-- Worked examples: a name that a statement makes twice, a column that it names twice in a list, a column that is there, a second key.
use Rattle.std.specs.Prelude.{List, None, Option, Some, [], codes, false, refl, true, ◌∷◌}
use Rattle.lq_base.specs.Value.{into_kind}
use Rattle.lq_base.specs.declared.dialect.Dialect.TheVariants.{Mysql, Postgresql}
use Rattle.lq_base.specs.declared.kind.Kind.TheVariants as kind
use Rattle.lq_base.specs.declared.literal.Literal.TheVariants as literal
use Rattle.lq_base.specs.declared.name.Name.{Name}
use Rattle.lq_base.specs.declared.reason.Reason.TheVariants.{Exists}
use Rattle.lq_model.specs.Plan.{decide}
use Rattle.lq_model.specs.declared.caller.By.TheVariants.{User}
use Rattle.lq_model.specs.declared.constraint.ForeignKey.{ForeignKey}
use Rattle.lq_model.specs.declared.constraint.Key.{Key}
use Rattle.lq_model.specs.declared.constraint.Unique.{Unique}
use Rattle.lq_model.specs.declared.query.Wanted.TheVariants as wanted
use Rattle.lq_model.specs.declared.statement.Statement.{Statement}
use Rattle.lq_model.specs.declared.statement.Statement.TheVariants.{AddColumn, AddForeignKey, AddPrimaryKey, AddUnique, CreateIndex, CreateTable, CreateView, Insert, RenameColumn, RenameSequence, RenameTable, Update}
use Rattle.lq_model.proofs.ExampleWorld.{another, at, code, def, foreign_to, id, index_on, key_on, none, parent, seq, unique_on, up, view}
use Rattle.lq_model.proofs.Matrix.Tables.{Are, fresh, query_of, roomy}

abbrev k : Name
k = codes "k"

abbrev f : Name
f = codes "f"

-- a new table with this key, these unique constraints and foreign keys
abbrev made_with : Option Key → List Unique → List ForeignKey → Statement
made_with key uniques foreign = CreateTable fresh (def id kind.Int None ∷ def at kind.Int None ∷ []) key uniques foreign

-- a foreign key of that name to the parents
abbrev to_parents : Name → ForeignKey
to_parents n = foreign_to n (id ∷ []) parent (id ∷ []) false

pub made_twice :
    Are (Some Exists) User Postgresql (roomy None) (
    made_with (Some (key_on k (id ∷ []))) (unique_on k (at ∷ []) ∷ []) []
    ∷ made_with (Some (key_on k (id ∷ []))) [] (to_parents k ∷ [])
    ∷ made_with None (unique_on k (id ∷ []) ∷ unique_on k (at ∷ []) ∷ []) []
    ∷ made_with None (unique_on k (id ∷ []) ∷ []) (to_parents k ∷ [])
    ∷ made_with None [] (to_parents k ∷ to_parents k ∷ [])
    ∷ made_with (Some (key_on fresh (id ∷ []))) [] []
    ∷ made_with None (unique_on fresh (id ∷ []) ∷ []) []
    ∷ [])
    × Are None User Postgresql (roomy None) (made_with (Some (key_on k (id ∷ []))) (unique_on none (at ∷ []) ∷ []) (to_parents fresh ∷ to_parents f ∷ []) ∷ [])
    × Are (Some Exists) User Mysql (roomy None) (
    made_with None (unique_on k (id ∷ []) ∷ unique_on k (at ∷ []) ∷ []) []
    ∷ made_with None [] (to_parents k ∷ to_parents k ∷ [])
    ∷ [])
    × Are None User Mysql (roomy None) (made_with (Some (key_on (codes "PRIMARY") (id ∷ []))) (unique_on fresh (at ∷ []) ∷ unique_on k (at ∷ []) ∷ []) (to_parents fresh ∷ to_parents k ∷ []) ∷ [])
unfolding decide into_kind
made_twice = (refl, refl, refl, refl)

-- a list with the columns `id` and this one
abbrev lists : Name → List Statement
lists n =
    CreateTable fresh (def id kind.Int None ∷ def n kind.Int None ∷ []) None [] []
    ∷ made_with (Some (key_on k (id ∷ n ∷ []))) [] []
    ∷ made_with None (unique_on k (id ∷ n ∷ []) ∷ []) []
    ∷ AddPrimaryKey another (key_on k (id ∷ n ∷ []))
    ∷ AddUnique another (unique_on k (id ∷ n ∷ []))
    ∷ CreateIndex another (index_on k (id ∷ n ∷ []) false)
    ∷ CreateView fresh (query_of (wanted.Columns (id ∷ n ∷ [])) another None) false
    ∷ CreateView view (query_of (wanted.Columns (id ∷ n ∷ [])) another None) true
    ∷ Insert another (id ∷ n ∷ []) (literal.Null ∷ literal.Null ∷ [])
    ∷ Update another ((id, literal.Null) ∷ (n, literal.Null) ∷ []) None
    ∷ []

-- a foreign key's columns, and its targets, where their numbers agree
abbrev twice_in_foreign_keys : List Statement
twice_in_foreign_keys =
    made_with None [] (foreign_to f (id ∷ id ∷ []) parent (id ∷ code ∷ []) false ∷ [])
    ∷ made_with None [] (foreign_to f (id ∷ at ∷ []) parent (id ∷ id ∷ []) false ∷ [])
    ∷ AddForeignKey another (foreign_to f (id ∷ id ∷ []) parent (id ∷ code ∷ []) false)
    ∷ AddForeignKey another (foreign_to f (id ∷ at ∷ []) parent (id ∷ id ∷ []) false)
    ∷ []

pub named_twice :
    Are None User Postgresql (roomy None) (lists at)
    × Are (Some Exists) User Postgresql (roomy None) (lists id)
    × Are None User Mysql (roomy None) (lists at)
    × Are (Some Exists) User Mysql (roomy None) (lists id)
    × Are (Some Exists) User Postgresql (roomy None) twice_in_foreign_keys
    × Are (Some Exists) User Mysql (roomy None) twice_in_foreign_keys
unfolding decide into_kind
named_twice = (refl, refl, refl, refl, refl, refl)

-- a column's new name is one of its table, or its own; in another table it may stand; a name is renamed to itself; a key is there
pub there_already :
    Are (Some Exists) User Postgresql (roomy None) (AddColumn another (def at kind.Int None) ∷ RenameColumn another code at ∷ RenameColumn another code code ∷ [])
    × Are None User Postgresql (roomy None) (AddColumn another (def up kind.Int None) ∷ RenameColumn another code up ∷ RenameColumn another code another ∷ [])
    × Are (Some Exists) User Postgresql (roomy None) (RenameTable another another ∷ RenameTable view view ∷ RenameSequence seq seq ∷ [])
    × Are (Some Exists) User Mysql (roomy None) (RenameTable another another ∷ RenameTable view view ∷ [])
    × Are (Some Exists) User Postgresql (roomy (Some (key_on k (at ∷ [])))) (AddPrimaryKey another (key_on fresh (id ∷ [])) ∷ [])
    × Are (Some Exists) User Mysql (roomy (Some (key_on (codes "PRIMARY") (at ∷ [])))) (AddPrimaryKey another (key_on (codes "PRIMARY") (id ∷ [])) ∷ [])
    × Are None User Mysql (roomy None) (AddPrimaryKey another (key_on (codes "PRIMARY") (id ∷ [])) ∷ [])
unfolding decide into_kind
there_already = (refl, refl, refl, refl, refl, refl, refl)
