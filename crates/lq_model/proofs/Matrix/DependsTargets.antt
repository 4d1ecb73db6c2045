-- Worked examples: a statement after which a foreign key's targets are, in order, neither the key nor a unique constraint of their table.
use Rattle.std.specs.Prelude.{List, None, Option, Some, [], codes, false, refl, true, ◌∷◌}
use Rattle.lq_base.specs.Value.{into_kind}
use Rattle.lq_base.specs.declared.dialect.Dialect.TheVariants.{Mysql, Postgresql}
use Rattle.lq_base.specs.declared.kind.Kind.TheVariants as kind
use Rattle.lq_base.specs.declared.name.Name.{Name}
use Rattle.lq_base.specs.declared.reason.Reason.TheVariants.{Depends}
use Rattle.lq_model.specs.Catalogue.{Catalogue}
use Rattle.lq_model.specs.Plan.{decide}
use Rattle.lq_model.specs.declared.caller.By.TheVariants.{User}
use Rattle.lq_model.specs.declared.constraint.ForeignKey.{ForeignKey}
use Rattle.lq_model.specs.declared.constraint.Key.{Key}
use Rattle.lq_model.specs.declared.constraint.Unique.{Unique}
use Rattle.lq_model.specs.declared.index.Index.{Index}
use Rattle.lq_model.specs.declared.statement.Statement.{Statement}
use Rattle.lq_model.specs.declared.statement.Statement.TheVariants.{AddForeignKey, CreateTable, DropConstraint, DropForeignKey, DropIndex, DropPrimaryKey, DropUnique}
use Rattle.lq_model.proofs.ExampleWorld.{another, at, code, def, foreign_to, id, index_on, key_on, parent, unique_on}
use Rattle.lq_model.proofs.Matrix.Tables.{Are, fresh, of_tables, plain, table}

-- parents with this key, these unique constraints and indexes, and a table with this foreign key
abbrev targets : Option Key → List Unique → List Index → List ForeignKey → Catalogue
targets key uniques indexes foreign = of_tables (
    (another, table (plain id kind.Int ∷ plain code kind.Int ∷ []) None [] foreign [] [])
    ∷ (parent, table (plain id kind.Int ∷ plain code kind.Int ∷ plain at kind.Int ∷ []) key uniques [] indexes [])
    ∷ [])

abbrev to_targets : List Name → List Name → ForeignKey
to_targets ns targeted = foreign_to (codes "fk") ns parent targeted false

-- a foreign key to these columns of the parents, of the new table and of one that is there
abbrev aims : List Name → List Name → List Statement
aims ns targeted =
    AddForeignKey another (to_targets ns targeted)
    ∷ CreateTable fresh (def id kind.Int None ∷ def code kind.Int None ∷ []) None [] (to_targets ns targeted ∷ [])
    ∷ []

-- a key of two columns, a unique constraint of one, a unique index of another
abbrev aimed_at : Catalogue
aimed_at = targets (Some (key_on (codes "PRIMARY") (id ∷ code ∷ []))) (unique_on (codes "uq") (code ∷ []) ∷ []) (index_on (codes "ix") (at ∷ []) true ∷ []) []

pub targets_are_a_key :
    Are None User Postgresql aimed_at (aims (id ∷ code ∷ []) (id ∷ code ∷ []))
    × Are None User Postgresql aimed_at (aims (code ∷ id ∷ []) (id ∷ code ∷ []))
    × Are None User Postgresql aimed_at (aims (id ∷ []) (code ∷ []))
    × Are (Some Depends) User Postgresql aimed_at (aims (id ∷ code ∷ []) (code ∷ id ∷ []))
    × Are (Some Depends) User Postgresql aimed_at (aims (id ∷ []) (id ∷ []))
    × Are (Some Depends) User Postgresql aimed_at (aims (id ∷ []) (at ∷ []))
    × Are (Some Depends) User Postgresql aimed_at (aims (id ∷ code ∷ []) (code ∷ at ∷ []))
    × Are None User Mysql aimed_at (aims (id ∷ code ∷ []) (id ∷ code ∷ []))
    × Are None User Mysql aimed_at (aims (id ∷ []) (code ∷ []))
    × Are (Some Depends) User Mysql aimed_at (aims (id ∷ code ∷ []) (code ∷ id ∷ []))
    × Are (Some Depends) User Mysql aimed_at (aims (id ∷ []) (at ∷ []))
unfolding decide into_kind
targets_are_a_key = (refl, refl, refl, refl, refl, refl, refl, refl, refl, refl, refl)

-- a new table's targets of its own: its key, its unique constraint, and neither
abbrev to_itself : Option Key → List Unique → Statement
to_itself key uniques = CreateTable fresh (def id kind.Int None ∷ def code kind.Int None ∷ []) key uniques (foreign_to (codes "fk") (code ∷ []) fresh (id ∷ []) false ∷ [])

pub targets_of_its_own :
    Are None User Postgresql aimed_at (to_itself (Some (key_on (codes "k") (id ∷ []))) [] ∷ to_itself None (unique_on (codes "u") (id ∷ []) ∷ []) ∷ [])
    × Are (Some Depends) User Postgresql aimed_at (to_itself None [] ∷ to_itself (Some (key_on (codes "k") (code ∷ []))) [] ∷ to_itself (Some (key_on (codes "k") (id ∷ code ∷ []))) [] ∷ [])
unfolding decide into_kind
targets_of_its_own = (refl, refl)

-- the key or the unique constraint that is a target goes, and stays one where another one has the same columns in order
abbrev keyed : List Unique → Catalogue
keyed uniques = targets (Some (key_on (codes "PRIMARY") (id ∷ code ∷ []))) uniques [] (to_targets (id ∷ code ∷ []) (id ∷ code ∷ []) ∷ [])

abbrev unique : List Unique → Catalogue
unique uniques = targets None (unique_on (codes "uq") (id ∷ []) ∷ uniques) (index_on (codes "ix") (id ∷ []) true ∷ []) (to_targets (code ∷ []) (id ∷ []) ∷ [])

pub targets_stay :
    Are (Some Depends) User Postgresql (keyed []) (DropConstraint parent (codes "PRIMARY") ∷ [])
    × Are (Some Depends) User Mysql (keyed []) (DropPrimaryKey parent ∷ [])
    × Are (Some Depends) User Postgresql (unique []) (DropConstraint parent (codes "uq") ∷ [])
    × Are (Some Depends) User Mysql (unique []) (DropUnique parent (codes "uq") ∷ [])
    × Are (Some Depends) User Mysql (keyed (unique_on (codes "u") (code ∷ id ∷ []) ∷ [])) (DropPrimaryKey parent ∷ [])
    × Are None User Postgresql (keyed (unique_on (codes "u") (id ∷ code ∷ []) ∷ [])) (DropConstraint parent (codes "PRIMARY") ∷ DropConstraint parent (codes "u") ∷ [])
    × Are None User Mysql (keyed (unique_on (codes "u") (id ∷ code ∷ []) ∷ [])) (DropPrimaryKey parent ∷ DropUnique parent (codes "u") ∷ [])
    × Are None User Postgresql (unique (unique_on (codes "u") (id ∷ []) ∷ [])) (DropConstraint parent (codes "uq") ∷ DropConstraint parent (codes "u") ∷ [])
    × Are None User Mysql (unique (unique_on (codes "u") (id ∷ []) ∷ [])) (DropUnique parent (codes "uq") ∷ DropUnique parent (codes "u") ∷ [])
    × Are None User Postgresql (unique []) (DropConstraint another (codes "fk") ∷ DropIndex (codes "ix") None ∷ [])
    × Are None User Mysql (unique []) (DropForeignKey another (codes "fk") ∷ DropIndex (codes "ix") (Some parent) ∷ [])
unfolding decide
targets_stay = (refl, refl, refl, refl, refl, refl, refl, refl, refl, refl, refl)
