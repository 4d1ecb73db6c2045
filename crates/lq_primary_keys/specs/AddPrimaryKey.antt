-- addPrimaryKey: a table gets a primary key.
use Rattle.std.proofs.Common.{ap, subst, sym, ◌∙◌}
use Rattle.std.specs.List.{list_all}
use Rattle.std.specs.Option.{option_map, unwrap_or}
use Rattle.std.specs.Prelude.{Bool, List, Option, Result, Some, [], codes, refl, true, ◌&&◌, ◌∷◌, ◌≡◌}
use Rattle.lq_base.proofs.BesideLemmas.{is_whole}
use Rattle.lq_base.specs.Name.{is_name, is_object, text_of, within}
use Rattle.lq_base.specs.Number.{if_there}
use Rattle.lq_base.specs.declared.dialect.Dialect.{Dialect}
use Rattle.lq_base.specs.declared.dialect.Dialect.TheVariants.{Mysql, Postgresql}
use Rattle.lq_base.specs.declared.name.Name.{Name}
use Rattle.lq_base.specs.declared.reason.Reason.{Reason}
use Rattle.lq_keys.specs.NamedLaws.{listed, named}
use Rattle.lq_model.proofs.DefaultNames.{default_named}
use Rattle.lq_model.proofs.Effects.{does_so, one_becomes, restores_so, some_same}
use Rattle.lq_model.proofs.Lists.{and_left, and_right, and_true, named_itself}
use Rattle.lq_model.proofs.Told.{keys_told, names_told, object_told, texts_told}
use Rattle.lq_model.specs.Catalogue.{Catalogue, the_table, with_table}
use Rattle.lq_model.specs.Changes.{AreReturns, AreStatements, AreTold, CanonicalChange, HaveEffect, TakeBack, list, text}
use Rattle.lq_model.specs.Constraints.{with_key}
use Rattle.lq_model.specs.Effect.{Becomes, GoesBack, effect_of}
use Rattle.lq_model.specs.Sound.{is_key_name, key_name, primary}
use Rattle.lq_model.specs.Step.{is_statement, run}
use Rattle.lq_model.specs.TakesBack.{Row, change_of, is_firm as are_firm, nth_value, schema_row, texts}
use Rattle.lq_model.specs.declared.caller.By.TheVariants.{User}
use Rattle.lq_model.specs.declared.constraint.Key.{Key}
use Rattle.lq_model.specs.declared.statement.Statement.{Statement}
use Rattle.lq_model.specs.declared.statement.Statement.TheVariants as statement
use Rattle.lq_primary_keys.specs.Drops.{drops_key}
use Rattle.lq_primary_keys.specs.DropsLaws.{key_back, key_spelled}
use Rattle.lq_primary_keys.specs.declared.add_primary_key.AddPrimaryKey.{AddPrimaryKey}
use Rattle.lq_tree.specs.Given.{a_name, some_names}
use Rattle.lq_tree.specs.Items.{are_some}
use Rattle.lq_tree.specs.Keys.{Keys, a_change_in, fields, optional, required, ◌⊛◌}
use Rattle.lq_tree.specs.Look.{Taken}

-- its keys

abbrev pub keys : Keys (Name → AddPrimaryKey)
keys =
    fields (λ table columns name schema. record { table_name = within schema table; column_names = columns; constraint_name = name })
    ⊛ required (codes "tableName") a_name
    ⊛ required (codes "columnNames") some_names
    ⊛ optional (codes "constraintName") a_name

unfoldable pub add_primary_key : Dialect → Taken AddPrimaryKey
add_primary_key d = a_change_in d keys

-- its names are names, and it has a column
abbrev pub is_for : Dialect → AddPrimaryKey → Bool
is_for d x = is_object d x.table_name && (are_some is_name x.column_names && if_there is_name x.constraint_name)

-- what it does

-- the key's name, by default that of a key that is not named; under MySQL always PRIMARY
abbrev pub name_of : Dialect → AddPrimaryKey → Name
name_of Postgresql x = unwrap_or x.constraint_name (key_name Postgresql x.table_name)
name_of Mysql x = key_name Mysql x.table_name

abbrev pub key_of : Dialect → AddPrimaryKey → Key
key_of d x = record { name = name_of d x; columns = x.column_names }

abbrev pub gives : Dialect → AddPrimaryKey → List Statement
gives d x = statement.AddPrimaryKey x.table_name (key_of d x) ∷ []

-- the key is set, and its columns are NOT NULL
abbrev pub becomes : Dialect → AddPrimaryKey → Catalogue → Catalogue
becomes d x c = with_table c x.table_name (with_key (key_of d x) (the_table c x.table_name))

abbrev pub effect : Dialect → AddPrimaryKey → Catalogue → Result Catalogue Reason
effect = effect_of gives becomes

-- none of its columns is nullable
abbrev pub is_fresh : Dialect → AddPrimaryKey → Catalogue → Bool
is_fresh d x c = are_firm x.table_name x.column_names c

abbrev pub inverse : Dialect → AddPrimaryKey → Option (List Statement)
inverse d x = Some (drops_key d x.table_name (name_of d x) ∷ [])

-- its canonical text

abbrev pub rows : AddPrimaryKey → List Row
rows x =
    (codes "tableName", Some (text (text_of x.table_name)))
    ∷ (codes "columnNames", Some (list (texts x.column_names)))
    ∷ (codes "constraintName", option_map (λ name. text name) x.constraint_name)
    ∷ (codes "schemaName", schema_row x.table_name)
    ∷ []

abbrev pub canonical_of : AddPrimaryKey → CanonicalChange
canonical_of x = change_of (codes "addPrimaryKey") (rows x)

-- That addPrimaryKey keeps its promises.

name_named : (d : Dialect) (x : AddPrimaryKey) → is_object d x.table_name ≡ true → if_there is_name x.constraint_name ≡ true → is_name (name_of d x) ≡ true
name_named Postgresql x h k = named x.constraint_name (key_name Postgresql x.table_name) k (default_named Postgresql x.table_name [] (is_whole Postgresql x.table_name h) refl).0
name_named Mysql x h k = (default_named Mysql x.table_name [] (is_whole Mysql x.table_name h) refl).0

name_right : (d : Dialect) (x : AddPrimaryKey) → is_key_name d (name_of d x) ≡ true
unfolding key_name
name_right Postgresql x = refl
name_right Mysql x = named_itself primary

pub spelled : AreStatements is_for gives
spelled d x h =
    let t = and_left (is_object d x.table_name) _ h in
    let more = and_right (is_object d x.table_name) _ h in
    rw (t, name_named d x t (and_right (are_some is_name x.column_names) _ more), name_right d x, listed x.column_names (and_left (are_some is_name x.column_names) _ more)) refl

pub returned : AreReturns is_for inverse
returned d x undoing right taken =
    let t = and_left (is_object d x.table_name) _ right in
    let more = and_right (is_object d x.table_name) _ right in
    let one = key_spelled d x.table_name (name_of d x) t (name_named d x t (and_right (are_some is_name x.column_names) _ more)) in
    subst (λ ss. list_all (is_statement d) ss ≡ true) (some_same taken) (and_true (is_statement d (drops_key d x.table_name (name_of d x))) true one refl)

becomes_so : Becomes gives becomes is_for
becomes_so d x c e right sound ran = one_becomes d (statement.AddPrimaryKey x.table_name (key_of d x)) c e ran

pub does : HaveEffect is_for gives effect
does = does_so is_for gives becomes becomes_so

goes_back : GoesBack is_for gives is_fresh inverse
goes_back d x c e undoing right sound new ran taken = ap (λ ss. run User d ss e) (sym (some_same taken)) ∙ key_back d x.table_name (key_of d x) c e sound new ran

pub restores : TakeBack is_for effect is_fresh inverse
restores = restores_so is_for gives becomes is_fresh inverse becomes_so goes_back

same : (x y : AddPrimaryKey) → x.table_name ≡ y.table_name → x.column_names ≡ y.column_names → x.constraint_name ≡ y.constraint_name → x ≡ y
same x y table columns name = rw (table, columns, name) refl

pub told : AreTold is_for canonical_of
told d x y right also e =
    let is : rows x ≡ rows y = keys_told (codes "addPrimaryKey") (codes "addPrimaryKey") (rows x) (rows y) refl refl e in
    same x y (object_told d x.table_name y.table_name (and_left (is_object d x.table_name) _ right) (and_left (is_object d y.table_name) _ also) (ap (nth_value 0) is) (ap (nth_value 3) is)) (names_told x.column_names y.column_names (ap (nth_value 1) is)) (texts_told x.constraint_name y.constraint_name (ap (nth_value 2) is))
