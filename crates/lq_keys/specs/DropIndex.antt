-- dropIndex: an index is gone.
use Rattle.std.proofs.Common.{ap}
use Rattle.std.specs.Prelude.{Bool, List, None, Option, Result, Some, [], codes, refl, true, ◌&&◌, ◌∷◌, ◌≡◌}
use Rattle.lq_base.specs.Name.{is_name, is_object, text_of, within}
use Rattle.lq_base.specs.declared.dialect.Dialect.{Dialect}
use Rattle.lq_base.specs.declared.name.Name.{Name}
use Rattle.lq_base.specs.declared.reason.Reason.{Reason}
use Rattle.lq_keys.specs.DropsLaws.{index_becomes, index_spelled}
use Rattle.lq_drops.specs.Drops.{drops_index}
use Rattle.lq_keys.specs.OnDelete.{index_dropped}
use Rattle.lq_keys.specs.declared.drop_index.DropIndex.{DropIndex}
use Rattle.lq_model.proofs.Effects.{does_so, restores_so}
use Rattle.lq_model.proofs.Lists.{and_left, and_right, and_true}
use Rattle.lq_model.proofs.Told.{keys_told, object_told, text_told}
use Rattle.lq_model.specs.Catalogue.{Catalogue}
use Rattle.lq_model.specs.Changes.{AreReturns, AreStatements, AreTold, CanonicalChange, HaveEffect, TakeBack, text}
use Rattle.lq_model.specs.Effect.{Becomes, GoesBack, effect_of}
use Rattle.lq_model.specs.Step.{is_statement}
use Rattle.lq_model.specs.TakesBack.{Row, change_of, nth_value, schema_row}
use Rattle.lq_model.specs.declared.statement.Statement.{Statement}
use Rattle.lq_tree.specs.Given.{a_name}
use Rattle.lq_tree.specs.Keys.{Keys, a_change_in, fields, required, ◌⊛◌}
use Rattle.lq_tree.specs.Look.{Taken}

-- its keys

abbrev pub keys : Keys (Name → DropIndex)
keys =
    fields (λ index table schema. record { index_name = index; table_name = within schema table })
    ⊛ required (codes "indexName") a_name
    ⊛ required (codes "tableName") a_name

unfoldable pub drop_index : Dialect → Taken DropIndex
drop_index d = a_change_in d keys

-- its names are names
abbrev pub is_for : Dialect → DropIndex → Bool
is_for d x = is_name x.index_name && is_object d x.table_name

-- what it does

abbrev pub gives : Dialect → DropIndex → List Statement
gives d x = drops_index d x.index_name x.table_name ∷ []

-- the index is gone; under PostgreSQL the one of that name, on whichever table
abbrev pub becomes : Dialect → DropIndex → Catalogue → Catalogue
becomes d x c = index_dropped d x.index_name x.table_name c

abbrev pub effect : Dialect → DropIndex → Catalogue → Result Catalogue Reason
effect = effect_of gives becomes

abbrev pub is_fresh : Dialect → DropIndex → Catalogue → Bool
is_fresh d x c = true

-- nothing brings it back
abbrev pub inverse : Dialect → DropIndex → Option (List Statement)
inverse d x = None

-- its canonical text

abbrev pub rows : DropIndex → List Row
rows x =
    (codes "indexName", Some (text x.index_name))
    ∷ (codes "tableName", Some (text (text_of x.table_name)))
    ∷ (codes "schemaName", schema_row x.table_name)
    ∷ []

abbrev pub canonical_of : DropIndex → CanonicalChange
canonical_of x = change_of (codes "dropIndex") (rows x)

-- That dropIndex keeps its promises.

pub spelled : AreStatements is_for gives
spelled d x h =
    and_true (is_statement d (drops_index d x.index_name x.table_name)) true
    (index_spelled d x.index_name x.table_name (and_left (is_name x.index_name) _ h) (and_right (is_name x.index_name) _ h)) refl

pub returned : AreReturns is_for inverse
returned d x undoing right taken = absurd Prim.cc

becomes_so : Becomes gives becomes is_for
becomes_so d x c e right sound ran = index_becomes d x.index_name x.table_name c e ran

pub does : HaveEffect is_for gives effect
does = does_so is_for gives becomes becomes_so

goes_back : GoesBack is_for gives is_fresh inverse
goes_back d x c e undoing right sound new ran taken = absurd Prim.cc

pub restores : TakeBack is_for effect is_fresh inverse
restores = restores_so is_for gives becomes is_fresh inverse becomes_so goes_back

same : (x y : DropIndex) → x.index_name ≡ y.index_name → x.table_name ≡ y.table_name → x ≡ y
same x y index table = rw (index, table) refl

pub told : AreTold is_for canonical_of
told d x y right also e =
    let is : rows x ≡ rows y = keys_told (codes "dropIndex") (codes "dropIndex") (rows x) (rows y) refl refl e in
    same x y (text_told (ap (nth_value 0) is)) (object_told d x.table_name y.table_name (and_right (is_name x.index_name) _ right) (and_right (is_name y.index_name) _ also) (ap (nth_value 1) is) (ap (nth_value 2) is))
