-- dropPrimaryKey: the primary key of a table is gone.
use Rattle.std.proofs.Common.{ap}
use Rattle.std.specs.Option.{option_map, unwrap_or}
use Rattle.std.specs.Prelude.{Bool, List, None, Option, Result, Some, [], codes, refl, true, ◌&&◌, ◌∷◌, ◌≡◌}
use Rattle.lq_base.proofs.BesideLemmas.{is_whole}
use Rattle.lq_base.specs.Name.{is_name, is_object, text_of, within}
use Rattle.lq_base.specs.Number.{if_there}
use Rattle.lq_base.specs.declared.dialect.Dialect.{Dialect}
use Rattle.lq_base.specs.declared.name.Name.{Name}
use Rattle.lq_base.specs.declared.reason.Reason.{Reason}
use Rattle.lq_keys.specs.NamedLaws.{named}
use Rattle.lq_model.proofs.DefaultNames.{default_named}
use Rattle.lq_model.proofs.Effects.{does_so, restores_so}
use Rattle.lq_model.proofs.Lists.{and_left, and_right, and_true}
use Rattle.lq_model.proofs.Told.{keys_told, object_told, texts_told}
use Rattle.lq_model.specs.Catalogue.{Catalogue, the_table, with_table}
use Rattle.lq_model.specs.Changes.{AreReturns, AreStatements, AreTold, CanonicalChange, HaveEffect, TakeBack, text}
use Rattle.lq_model.specs.Effect.{Becomes, GoesBack, effect_of}
use Rattle.lq_model.specs.Sound.{key_name}
use Rattle.lq_model.specs.Step.{is_statement}
use Rattle.lq_model.specs.TakesBack.{Row, change_of, nth_value, schema_row}
use Rattle.lq_model.specs.declared.statement.Statement.{Statement}
use Rattle.lq_primary_keys.specs.Drops.{drops_key, key_dropped}
use Rattle.lq_primary_keys.specs.DropsLaws.{key_becomes, key_spelled}
use Rattle.lq_primary_keys.specs.declared.drop_primary_key.DropPrimaryKey.{DropPrimaryKey}
use Rattle.lq_tree.specs.Given.{a_name}
use Rattle.lq_tree.specs.Keys.{Keys, a_change_in, fields, optional, required, ◌⊛◌}
use Rattle.lq_tree.specs.Look.{Taken}

-- its keys

abbrev pub keys : Keys (Name → DropPrimaryKey)
keys =
    fields (λ table name schema. record { table_name = within schema table; constraint_name = name })
    ⊛ required (codes "tableName") a_name
    ⊛ optional (codes "constraintName") a_name

unfoldable pub drop_primary_key : Dialect → Taken DropPrimaryKey
drop_primary_key d = a_change_in d keys

-- its names are names
abbrev pub is_for : Dialect → DropPrimaryKey → Bool
is_for d x = is_object d x.table_name && if_there is_name x.constraint_name

-- what it does

-- the key's name, by default that of a key that is not named
abbrev pub name_of : Dialect → DropPrimaryKey → Name
name_of d x = unwrap_or x.constraint_name (key_name d x.table_name)

abbrev pub gives : Dialect → DropPrimaryKey → List Statement
gives d x = drops_key d x.table_name (name_of d x) ∷ []

-- the key alone is gone; under PostgreSQL the constraint of that name, of whichever sort
abbrev pub becomes : Dialect → DropPrimaryKey → Catalogue → Catalogue
becomes d x c = with_table c x.table_name (key_dropped d (name_of d x) (the_table c x.table_name))

abbrev pub effect : Dialect → DropPrimaryKey → Catalogue → Result Catalogue Reason
effect = effect_of gives becomes

abbrev pub is_fresh : Dialect → DropPrimaryKey → Catalogue → Bool
is_fresh d x c = true

-- nothing brings it back
abbrev pub inverse : Dialect → DropPrimaryKey → Option (List Statement)
inverse d x = None

-- its canonical text

abbrev pub rows : DropPrimaryKey → List Row
rows x =
    (codes "tableName", Some (text (text_of x.table_name)))
    ∷ (codes "constraintName", option_map (λ name. text name) x.constraint_name)
    ∷ (codes "schemaName", schema_row x.table_name)
    ∷ []

abbrev pub canonical_of : DropPrimaryKey → CanonicalChange
canonical_of x = change_of (codes "dropPrimaryKey") (rows x)

-- That dropPrimaryKey keeps its promises.

pub spelled : AreStatements is_for gives
spelled d x h =
    let t = and_left (is_object d x.table_name) _ h in
    let n = named x.constraint_name (key_name d x.table_name) (and_right (is_object d x.table_name) _ h) (default_named d x.table_name [] (is_whole d x.table_name t) refl).0 in
    and_true (is_statement d (drops_key d x.table_name (name_of d x))) true (key_spelled d x.table_name (name_of d x) t n) refl

pub returned : AreReturns is_for inverse
returned d x undoing right taken = absurd Prim.cc

becomes_so : Becomes gives becomes is_for
becomes_so d x c e right sound ran = key_becomes d x.table_name (name_of d x) c e ran

pub does : HaveEffect is_for gives effect
does = does_so is_for gives becomes becomes_so

goes_back : GoesBack is_for gives is_fresh inverse
goes_back d x c e undoing right sound new ran taken = absurd Prim.cc

pub restores : TakeBack is_for effect is_fresh inverse
restores = restores_so is_for gives becomes is_fresh inverse becomes_so goes_back

same : (x y : DropPrimaryKey) → x.table_name ≡ y.table_name → x.constraint_name ≡ y.constraint_name → x ≡ y
same x y table name = rw (table, name) refl

pub told : AreTold is_for canonical_of
told d x y right also e =
    let is : rows x ≡ rows y = keys_told (codes "dropPrimaryKey") (codes "dropPrimaryKey") (rows x) (rows y) refl refl e in
    same x y (object_told d x.table_name y.table_name (and_left (is_object d x.table_name) _ right) (and_left (is_object d y.table_name) _ also) (ap (nth_value 0) is) (ap (nth_value 2) is)) (texts_told x.constraint_name y.constraint_name (ap (nth_value 1) is))
