-- addUniqueConstraint: a table gets a unique constraint.
use Rattle.std.proofs.Common.{ap, subst, sym, ◌∙◌}
use Rattle.std.specs.List.{list_all}
use Rattle.std.specs.Option.{option_map, unwrap_or}
use Rattle.std.specs.Prelude.{Bool, List, Option, Result, Some, [], codes, not, refl, true, ◌&&◌, ◌∷◌, ◌≡◌}
use Rattle.lq_base.proofs.BesideLemmas.{is_whole}
use Rattle.lq_base.specs.Name.{is_name, is_object, text_of, within}
use Rattle.lq_base.specs.Number.{if_there}
use Rattle.lq_base.specs.declared.dialect.Dialect.{Dialect}
use Rattle.lq_base.specs.declared.name.Name.{Name}
use Rattle.lq_base.specs.declared.reason.Reason.{Reason}
use Rattle.lq_keys.specs.NamedLaws.{listed, named}
use Rattle.lq_model.proofs.DefaultNames.{default_named}
use Rattle.lq_model.proofs.Effects.{does_so, one_becomes, restores_so, some_same}
use Rattle.lq_model.proofs.Lists.{and_left, and_right, and_true}
use Rattle.lq_model.proofs.Told.{keys_told, names_told, object_told, texts_told}
use Rattle.lq_model.specs.Catalogue.{Catalogue, the_table, with_table}
use Rattle.lq_model.specs.Changes.{AreReturns, AreStatements, AreTold, CanonicalChange, HaveEffect, TakeBack, list, text}
use Rattle.lq_model.specs.Constraints.{with_unique}
use Rattle.lq_model.specs.Effect.{Becomes, GoesBack, effect_of}
use Rattle.lq_model.specs.Sound.{unique_name}
use Rattle.lq_model.specs.Step.{is_statement, run}
use Rattle.lq_model.specs.TakesBack.{Row, change_of, nth_value, schema_row, texts}
use Rattle.lq_model.specs.declared.caller.By.TheVariants.{User}
use Rattle.lq_model.specs.declared.constraint.Unique.{Unique}
use Rattle.lq_model.specs.declared.statement.Statement.{Statement}
use Rattle.lq_model.specs.declared.statement.Statement.TheVariants as statement
use Rattle.lq_tree.specs.Given.{a_name, some_names}
use Rattle.lq_tree.specs.Items.{are_some, is_empty}
use Rattle.lq_tree.specs.Keys.{Keys, a_change_in, fields, optional, required, ◌⊛◌}
use Rattle.lq_tree.specs.Look.{Taken}
use Rattle.lq_uniques.specs.Drops.{drops_unique}
use Rattle.lq_uniques.specs.DropsLaws.{unique_back, unique_spelled}
use Rattle.lq_uniques.specs.declared.add_unique.AddUniqueConstraint.{AddUniqueConstraint}

-- its keys

abbrev pub keys : Keys (Name → AddUniqueConstraint)
keys =
    fields (λ table columns name schema. record { table_name = within schema table; column_names = columns; constraint_name = name })
    ⊛ required (codes "tableName") a_name
    ⊛ required (codes "columnNames") some_names
    ⊛ optional (codes "constraintName") a_name

unfoldable pub add_unique : Dialect → Taken AddUniqueConstraint
add_unique d = a_change_in d keys

-- its names are names, and it has a column
abbrev pub is_for : Dialect → AddUniqueConstraint → Bool
is_for d x = is_object d x.table_name && (are_some is_name x.column_names && if_there is_name x.constraint_name)

-- what it does

-- the constraint's name, by default that of one that is not named
abbrev pub name_of : AddUniqueConstraint → Name
name_of x = unwrap_or x.constraint_name (unique_name x.table_name x.column_names)

abbrev pub unique_of : AddUniqueConstraint → Unique
unique_of x = record { name = name_of x; columns = x.column_names }

abbrev pub gives : Dialect → AddUniqueConstraint → List Statement
gives d x = statement.AddUnique x.table_name (unique_of x) ∷ []

-- it goes to the end of the table's unique constraints
abbrev pub becomes : Dialect → AddUniqueConstraint → Catalogue → Catalogue
becomes d x c = with_table c x.table_name (with_unique (unique_of x) (the_table c x.table_name))

abbrev pub effect : Dialect → AddUniqueConstraint → Catalogue → Result Catalogue Reason
effect = effect_of gives becomes

abbrev pub is_fresh : Dialect → AddUniqueConstraint → Catalogue → Bool
is_fresh d x c = true

abbrev pub inverse : Dialect → AddUniqueConstraint → Option (List Statement)
inverse d x = Some (drops_unique d x.table_name (name_of x) ∷ [])

-- its canonical text

abbrev pub rows : AddUniqueConstraint → List Row
rows x =
    (codes "tableName", Some (text (text_of x.table_name)))
    ∷ (codes "columnNames", Some (list (texts x.column_names)))
    ∷ (codes "constraintName", option_map (λ name. text name) x.constraint_name)
    ∷ (codes "schemaName", schema_row x.table_name)
    ∷ []

abbrev pub canonical_of : AddUniqueConstraint → CanonicalChange
canonical_of x = change_of (codes "addUniqueConstraint") (rows x)

-- That addUniqueConstraint keeps its promises.

name_named : (d : Dialect) (x : AddUniqueConstraint) → is_for d x ≡ true → is_name (name_of x) ≡ true
name_named d x h =
    let t = and_left (is_object d x.table_name) _ h in
    let more = and_right (is_object d x.table_name) _ h in
    let ns = and_left (are_some is_name x.column_names) _ more in
    named x.constraint_name (unique_name x.table_name x.column_names) (and_right (are_some is_name x.column_names) _ more) (default_named d x.table_name x.column_names (is_whole d x.table_name t) (and_right (not (is_empty x.column_names)) _ ns)).1

pub spelled : AreStatements is_for gives
spelled d x h =
    let t = and_left (is_object d x.table_name) _ h in
    let more = and_right (is_object d x.table_name) _ h in
    let ns = and_left (are_some is_name x.column_names) _ more in
    rw (t, name_named d x h, listed x.column_names ns) refl

pub returned : AreReturns is_for inverse
returned d x undoing right taken =
    let t = and_left (is_object d x.table_name) _ right in
    let one = unique_spelled d x.table_name (name_of x) t (name_named d x right) in
    subst (λ ss. list_all (is_statement d) ss ≡ true) (some_same taken) (and_true (is_statement d (drops_unique d x.table_name (name_of x))) true one refl)

becomes_so : Becomes gives becomes is_for
becomes_so d x c e right sound ran = one_becomes d (statement.AddUnique x.table_name (unique_of x)) c e ran

pub does : HaveEffect is_for gives effect
does = does_so is_for gives becomes becomes_so

goes_back : GoesBack is_for gives is_fresh inverse
goes_back d x c e undoing right sound new ran taken = ap (λ ss. run User d ss e) (sym (some_same taken)) ∙ unique_back d x.table_name (unique_of x) c e sound ran

pub restores : TakeBack is_for effect is_fresh inverse
restores = restores_so is_for gives becomes is_fresh inverse becomes_so goes_back

same : (x y : AddUniqueConstraint) → x.table_name ≡ y.table_name → x.column_names ≡ y.column_names → x.constraint_name ≡ y.constraint_name → x ≡ y
same x y table columns name = rw (table, columns, name) refl

pub told : AreTold is_for canonical_of
told d x y right also e =
    let is : rows x ≡ rows y = keys_told (codes "addUniqueConstraint") (codes "addUniqueConstraint") (rows x) (rows y) refl refl e in
    same x y (object_told d x.table_name y.table_name (and_left (is_object d x.table_name) _ right) (and_left (is_object d y.table_name) _ also) (ap (nth_value 0) is) (ap (nth_value 3) is)) (names_told x.column_names y.column_names (ap (nth_value 1) is)) (texts_told x.constraint_name y.constraint_name (ap (nth_value 2) is))
