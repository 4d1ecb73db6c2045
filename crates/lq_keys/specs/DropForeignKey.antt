-- dropForeignKeyConstraint: a foreign key of a table is gone.
use Rattle.std.proofs.Common.{ap}
use Rattle.std.specs.Prelude.{Bool, List, None, Option, Result, Some, [], codes, refl, true, ◌&&◌, ◌∷◌, ◌≡◌}
use Rattle.lq_base.specs.Name.{is_name, is_object, text_of, within}
use Rattle.lq_base.specs.declared.dialect.Dialect.{Dialect}
use Rattle.lq_base.specs.declared.name.Name.{Name}
use Rattle.lq_base.specs.declared.reason.Reason.{Reason}
use Rattle.lq_keys.specs.DropsLaws.{foreign_becomes, foreign_spelled}
use Rattle.lq_drops.specs.Drops.{drops_foreign}
use Rattle.lq_keys.specs.OnDelete.{foreign_dropped}
use Rattle.lq_keys.specs.declared.drop_foreign_key.DropForeignKeyConstraint.{DropForeignKeyConstraint}
use Rattle.lq_model.proofs.Effects.{does_so, restores_so}
use Rattle.lq_model.proofs.Lists.{and_left, and_right, and_true}
use Rattle.lq_model.proofs.Told.{keys_told, object_told, text_told}
use Rattle.lq_model.specs.Catalogue.{Catalogue, the_table, with_table}
use Rattle.lq_model.specs.Changes.{AreReturns, AreStatements, AreTold, CanonicalChange, HaveEffect, TakeBack, text}
use Rattle.lq_model.specs.Effect.{Becomes, GoesBack, effect_of}
use Rattle.lq_model.specs.Step.{is_statement}
use Rattle.lq_model.specs.TakesBack.{Row, change_of, nth_value, schema_row}
use Rattle.lq_model.specs.declared.statement.Statement.{Statement}
use Rattle.lq_tree.specs.Given.{a_name}
use Rattle.lq_tree.specs.Keys.{Keys, fields, keys_in, map_with, required, ◌⊛◌}
use Rattle.lq_tree.specs.Look.{Taken}

-- its keys

abbrev pub keys : Keys (Name → DropForeignKeyConstraint)
keys =
    fields (λ table name schema. record { base_table_name = within schema table; constraint_name = name })
    ⊛ required (codes "baseTableName") a_name
    ⊛ required (codes "constraintName") a_name

unfoldable pub drop_foreign_key : Dialect → Taken DropForeignKeyConstraint
drop_foreign_key d = map_with (codes "remarks" ∷ []) (keys_in d (codes "baseTableSchemaName") keys)

-- its names are names
abbrev pub is_for : Dialect → DropForeignKeyConstraint → Bool
is_for d x = is_object d x.base_table_name && is_name x.constraint_name

-- what it does

abbrev pub gives : Dialect → DropForeignKeyConstraint → List Statement
gives d x = drops_foreign d x.base_table_name x.constraint_name ∷ []

-- it is gone; under PostgreSQL the constraint of that name, of whichever sort
abbrev pub becomes : Dialect → DropForeignKeyConstraint → Catalogue → Catalogue
becomes d x c = with_table c x.base_table_name (foreign_dropped d x.constraint_name (the_table c x.base_table_name))

abbrev pub effect : Dialect → DropForeignKeyConstraint → Catalogue → Result Catalogue Reason
effect = effect_of gives becomes

abbrev pub is_fresh : Dialect → DropForeignKeyConstraint → Catalogue → Bool
is_fresh d x c = true

-- nothing brings it back
abbrev pub inverse : Dialect → DropForeignKeyConstraint → Option (List Statement)
inverse d x = None

-- its canonical text

abbrev pub rows : DropForeignKeyConstraint → List Row
rows x =
    (codes "baseTableName", Some (text (text_of x.base_table_name)))
    ∷ (codes "constraintName", Some (text x.constraint_name))
    ∷ (codes "baseTableSchemaName", schema_row x.base_table_name)
    ∷ []

abbrev pub canonical_of : DropForeignKeyConstraint → CanonicalChange
canonical_of x = change_of (codes "dropForeignKeyConstraint") (rows x)

-- That dropForeignKeyConstraint keeps its promises.

pub spelled : AreStatements is_for gives
spelled d x h =
    and_true (is_statement d (drops_foreign d x.base_table_name x.constraint_name)) true
    (foreign_spelled d x.base_table_name x.constraint_name (and_left (is_object d x.base_table_name) _ h) (and_right (is_object d x.base_table_name) _ h)) refl

pub returned : AreReturns is_for inverse
returned d x undoing right taken = absurd Prim.cc

becomes_so : Becomes gives becomes is_for
becomes_so d x c e right sound ran = foreign_becomes d x.base_table_name x.constraint_name c e ran

pub does : HaveEffect is_for gives effect
does = does_so is_for gives becomes becomes_so

goes_back : GoesBack is_for gives is_fresh inverse
goes_back d x c e undoing right sound new ran taken = absurd Prim.cc

pub restores : TakeBack is_for effect is_fresh inverse
restores = restores_so is_for gives becomes is_fresh inverse becomes_so goes_back

same : (x y : DropForeignKeyConstraint) → x.base_table_name ≡ y.base_table_name → x.constraint_name ≡ y.constraint_name → x ≡ y
same x y table name = rw (table, name) refl

pub told : AreTold is_for canonical_of
told d x y right also e =
    let is : rows x ≡ rows y = keys_told (codes "dropForeignKeyConstraint") (codes "dropForeignKeyConstraint") (rows x) (rows y) refl refl e in
    same x y (object_told d x.base_table_name y.base_table_name (and_left (is_object d x.base_table_name) _ right) (and_left (is_object d y.base_table_name) _ also) (ap (nth_value 0) is) (ap (nth_value 2) is)) (text_told (ap (nth_value 1) is))
