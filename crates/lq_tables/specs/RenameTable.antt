-- renameTable: a table, or a view where the name is one's, gets another name.
use Rattle.std.proofs.Common.{ap, subst, sym, ◌∙◌}
use Rattle.std.specs.List.{list_all}
use Rattle.std.specs.Prelude.{Bool, List, Option, Result, Some, [], codes, cond, is_some, refl, true, ◌&&◌, ◌∷◌, ◌≡◌}
use Rattle.lq_base.proofs.BesideLemmas.{IsRenamed, renamed}
use Rattle.lq_base.specs.Name.{beside, is_name, is_object, text_of, within}
use Rattle.lq_base.specs.declared.dialect.Dialect.{Dialect}
use Rattle.lq_base.specs.declared.name.Name.{Name}
use Rattle.lq_base.specs.declared.reason.Reason.{Reason}
use Rattle.lq_model.proofs.Effects.{does_so, one_back, one_becomes, restores_so, some_same}
use Rattle.lq_model.proofs.Lists.{and_left, and_right}
use Rattle.lq_model.proofs.RenameEither.{rename_table_after}
use Rattle.lq_model.proofs.Told.{keys_told, object_told, text_told}
use Rattle.lq_model.specs.Catalogue.{Catalogue, table_of}
use Rattle.lq_model.specs.Changes.{AreReturns, AreStatements, AreTold, CanonicalChange, HaveEffect, TakeBack, text}
use Rattle.lq_model.specs.Effect.{Becomes, GoesBack, effect_of}
use Rattle.lq_model.specs.Step.{is_statement, run}
use Rattle.lq_model.specs.Tables.{table_renamed, view_renamed}
use Rattle.lq_model.specs.TakesBack.{Row, change_of, nth_value, schema_row}
use Rattle.lq_model.specs.declared.caller.By.TheVariants.{User}
use Rattle.lq_model.specs.declared.statement.Statement.{Statement}
use Rattle.lq_model.specs.declared.statement.Statement.TheVariants as statement
use Rattle.lq_tables.specs.declared.rename_table.RenameTable.{RenameTable}
use Rattle.lq_tree.specs.Given.{a_name}
use Rattle.lq_tree.specs.Keys.{Keys, a_change_in, fields, required, ◌⊛◌}
use Rattle.lq_tree.specs.Look.{Taken}

-- its keys

abbrev pub keys : Keys (Name → RenameTable)
keys =
    fields (λ old new schema. record { old_table_name = within schema old; new_table_name = new })
    ⊛ required (codes "oldTableName") a_name
    ⊛ required (codes "newTableName") a_name

unfoldable pub rename_table : Dialect → Taken RenameTable
rename_table d = a_change_in d keys

-- its names are names
abbrev pub is_for : Dialect → RenameTable → Bool
is_for d x = is_object d x.old_table_name && is_name x.new_table_name

-- the whole new name: in the schema of the old one
abbrev pub renamed_to : RenameTable → Name
renamed_to x = beside x.old_table_name (text_of x.new_table_name)

-- what it does

abbrev pub gives : Dialect → RenameTable → List Statement
gives d x = statement.RenameTable x.old_table_name (renamed_to x) ∷ []

-- the object has the new name, and so have foreign keys' targets that named it
abbrev pub becomes : Dialect → RenameTable → Catalogue → Catalogue
becomes d x c = cond (is_some (table_of c x.old_table_name)) (table_renamed x.old_table_name (renamed_to x) c) (view_renamed x.old_table_name (renamed_to x) c)

abbrev pub effect : Dialect → RenameTable → Catalogue → Result Catalogue Reason
effect = effect_of gives becomes

-- the name that it had is free, so it can always go back
abbrev pub is_fresh : Dialect → RenameTable → Catalogue → Bool
is_fresh d x c = true

abbrev pub inverse : Dialect → RenameTable → Option (List Statement)
inverse d x = Some (statement.RenameTable (renamed_to x) x.old_table_name ∷ [])

-- its canonical text

abbrev pub rows : RenameTable → List Row
rows x =
    (codes "oldTableName", Some (text (text_of x.old_table_name)))
    ∷ (codes "newTableName", Some (text x.new_table_name))
    ∷ (codes "schemaName", schema_row x.old_table_name)
    ∷ []

abbrev pub canonical_of : RenameTable → CanonicalChange
canonical_of x = change_of (codes "renameTable") (rows x)

-- That renameTable keeps its promises.

pub spelled : AreStatements is_for gives
spelled d x h =
    let old = and_left (is_object d x.old_table_name) (is_name x.new_table_name) h in
    let to = renamed d x.old_table_name x.new_table_name old (and_right (is_object d x.old_table_name) (is_name x.new_table_name) h) in
    rw (old, to.object, to.there) refl

pub returned : AreReturns is_for inverse
returned d x undoing right taken = subst (λ ss. list_all (is_statement d) ss ≡ true) (some_same taken) (back)
  where
    old : is_object d x.old_table_name ≡ true
    old = and_left (is_object d x.old_table_name) (is_name x.new_table_name) right

    to : IsRenamed d x.old_table_name (renamed_to x)
    to = renamed d x.old_table_name x.new_table_name old (and_right (is_object d x.old_table_name) (is_name x.new_table_name) right)

    back : list_all (is_statement d) (statement.RenameTable (renamed_to x) x.old_table_name ∷ []) ≡ true
    back = rw (to.object, old, to.back) refl

becomes_so : Becomes gives becomes is_for
becomes_so d x c e right sound ran = one_becomes d (statement.RenameTable x.old_table_name (renamed_to x)) c e ran

pub does : HaveEffect is_for gives effect
does = does_so is_for gives becomes becomes_so

goes_back : GoesBack is_for gives is_fresh inverse
goes_back d x c e undoing right sound new ran taken =
    ap (λ ss. run User d ss e) (sym (some_same taken))
    ∙ one_back d (statement.RenameTable x.old_table_name (renamed_to x)) (statement.RenameTable (renamed_to x) x.old_table_name) (rename_table_after d x.old_table_name (renamed_to x) (renamed d x.old_table_name x.new_table_name (and_left (is_object d x.old_table_name) (is_name x.new_table_name) right) (and_right (is_object d x.old_table_name) (is_name x.new_table_name) right)).there) c e sound ran

pub restores : TakeBack is_for effect is_fresh inverse
restores = restores_so is_for gives becomes is_fresh inverse becomes_so goes_back

same : (x y : RenameTable) → x.old_table_name ≡ y.old_table_name → x.new_table_name ≡ y.new_table_name → x ≡ y
same x y old new = rw (old, new) refl

pub told : AreTold is_for canonical_of
told d x y right also e =
    let is : rows x ≡ rows y = keys_told (codes "renameTable") (codes "renameTable") (rows x) (rows y) refl refl e in
    let key = and_left (is_object d x.old_table_name) (is_name x.new_table_name) right in
    let other = and_left (is_object d y.old_table_name) (is_name y.new_table_name) also in
    same x y (object_told d x.old_table_name y.old_table_name key other (ap (nth_value 0) is) (ap (nth_value 2) is)) (text_told (ap (nth_value 1) is))
