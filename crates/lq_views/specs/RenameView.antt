-- renameView: a view, or under MySQL a table where the name is one's, gets another name.
use Rattle.std.proofs.Common.{ap, sym, ◌∙◌}
use Rattle.std.specs.List.{list_all}
use Rattle.std.specs.Prelude.{Bool, List, Ok, Option, Result, Some, [], codes, cond, is_some, refl, true, ◌&&◌, ◌∷◌, ◌≡◌}
use Rattle.lq_base.proofs.BesideLemmas.{names_beside, object_of_name}
use Rattle.lq_base.specs.Name.{is_beside, is_name, is_object}
use Rattle.lq_base.specs.declared.dialect.Dialect.{Dialect}
use Rattle.lq_base.specs.declared.dialect.Dialect.TheVariants.{Mysql, Postgresql}
use Rattle.lq_base.specs.declared.name.Name.{Name}
use Rattle.lq_base.specs.declared.reason.Reason.{Reason}
use Rattle.lq_model.proofs.Effects.{does_so, one_back, one_becomes, restores_so, some_same}
use Rattle.lq_model.proofs.Lists.{and_left, and_right, and_true}
use Rattle.lq_model.proofs.RenameEither.{rename_table_after}
use Rattle.lq_model.proofs.Told.{keys_told, text_told}
use Rattle.lq_model.proofs.Views.{rename_view_after}
use Rattle.lq_model.specs.Catalogue.{Catalogue, table_of}
use Rattle.lq_model.specs.Changes.{AreReturns, AreStatements, AreTold, CanonicalChange, HaveEffect, TakeBack, text}
use Rattle.lq_model.specs.Effect.{Becomes, GoesBack, effect_of}
use Rattle.lq_model.specs.Sound.{IsSound}
use Rattle.lq_model.specs.Step.{is_statement, run}
use Rattle.lq_model.specs.Tables.{table_renamed, view_renamed}
use Rattle.lq_model.specs.TakesBack.{Row, change_of, nth_value}
use Rattle.lq_model.specs.declared.caller.By.TheVariants.{User}
use Rattle.lq_model.specs.declared.statement.Statement.{Statement}
use Rattle.lq_model.specs.declared.statement.Statement.TheVariants as statement
use Rattle.lq_tree.specs.Given.{a_name}
use Rattle.lq_tree.specs.Keys.{Keys, a_change, fields, required, ◌⊛◌}
use Rattle.lq_tree.specs.Look.{Taken}
use Rattle.lq_views.specs.declared.rename_view.RenameView.{RenameView}

-- its keys

abbrev pub keys : Keys RenameView
keys =
    fields (λ old new. record { old_view_name = old; new_view_name = new })
    ⊛ required (codes "oldViewName") a_name
    ⊛ required (codes "newViewName") a_name

unfoldable pub rename_view : Taken RenameView
rename_view = a_change keys

-- its names are names
abbrev pub is_for : Dialect → RenameView → Bool
is_for d x = is_name x.old_view_name && is_name x.new_view_name

-- what it does

-- MySQL renames a view as it does a table
abbrev pub renames : Dialect → Name → Name → Statement
renames Postgresql from to = statement.RenameView from to
renames Mysql from to = statement.RenameTable from to

abbrev pub gives : Dialect → RenameView → List Statement
gives d x = renames d x.old_view_name x.new_view_name ∷ []

-- what had the name has the new one; where that was a table, so have foreign keys' targets that named it
abbrev pub renamed : Dialect → Name → Name → Catalogue → Catalogue
renamed Postgresql from to c = view_renamed from to c
renamed Mysql from to c = cond (is_some (table_of c from)) (table_renamed from to c) (view_renamed from to c)

abbrev pub becomes : Dialect → RenameView → Catalogue → Catalogue
becomes d x c = renamed d x.old_view_name x.new_view_name c

abbrev pub effect : Dialect → RenameView → Catalogue → Result Catalogue Reason
effect = effect_of gives becomes

-- the name that it had is free, so it can always go back
abbrev pub is_fresh : Dialect → RenameView → Catalogue → Bool
is_fresh d x c = true

abbrev pub inverse : Dialect → RenameView → Option (List Statement)
inverse d x = Some (renames d x.new_view_name x.old_view_name ∷ [])

-- its canonical text

abbrev pub rows : RenameView → List Row
rows x =
    (codes "oldViewName", Some (text x.old_view_name))
    ∷ (codes "newViewName", Some (text x.new_view_name))
    ∷ []

abbrev pub canonical_of : RenameView → CanonicalChange
canonical_of x = change_of (codes "renameView") (rows x)

-- That renameView keeps its promises.

renames_spelled : (d : Dialect) (from to : Name) → is_name from ≡ true → is_name to ≡ true → list_all (is_statement d) (renames d from to ∷ []) ≡ true
renames_spelled Postgresql from to h k = and_true _ true (and_true (is_object Postgresql from) _ (object_of_name Postgresql from h) (and_true (is_object Postgresql to) _ (object_of_name Postgresql to k) (names_beside from to h k))) refl
renames_spelled Mysql from to h k = and_true _ true (and_true (is_object Mysql from) _ h (and_true (is_object Mysql to) _ k (names_beside from to h k))) refl

pub spelled : AreStatements is_for gives
spelled d x h = renames_spelled d x.old_view_name x.new_view_name (and_left (is_name x.old_view_name) _ h) (and_right (is_name x.old_view_name) _ h)

pub returned : AreReturns is_for inverse
returned d x undoing h taken =
    ap (list_all (is_statement d)) (sym (some_same taken))
    ∙ renames_spelled d x.new_view_name x.old_view_name (and_right (is_name x.old_view_name) _ h) (and_left (is_name x.old_view_name) _ h)

renames_becomes : (d : Dialect) (from to : Name) (c e : Catalogue) → run User d (renames d from to ∷ []) c ≡ Ok e → renamed d from to c ≡ e
renames_becomes Postgresql from to c e ran = one_becomes Postgresql (statement.RenameView from to) c e ran
renames_becomes Mysql from to c e ran = one_becomes Mysql (statement.RenameTable from to) c e ran

becomes_so : Becomes gives becomes is_for
becomes_so d x c e right sound ran = renames_becomes d x.old_view_name x.new_view_name c e ran

pub does : HaveEffect is_for gives effect
does = does_so is_for gives becomes becomes_so

renames_back : (d : Dialect) (from to : Name) (c e : Catalogue) → is_beside from to ≡ true → IsSound d c → run User d (renames d from to ∷ []) c ≡ Ok e → run User d (renames d to from ∷ []) e ≡ Ok c
renames_back Postgresql from to c e near sound ran =
    one_back Postgresql (statement.RenameView from to) (statement.RenameView to from) (rename_view_after Postgresql from to) c e sound ran
renames_back Mysql from to c e near sound ran =
    one_back Mysql (statement.RenameTable from to) (statement.RenameTable to from) (rename_table_after Mysql from to near) c e sound ran

goes_back : GoesBack is_for gives is_fresh inverse
goes_back d x c e undoing right sound new ran taken =
    ap (λ ss. run User d ss e) (sym (some_same taken))
    ∙ renames_back d x.old_view_name x.new_view_name c e (names_beside x.old_view_name x.new_view_name (and_left (is_name x.old_view_name) _ right) (and_right (is_name x.old_view_name) _ right)) sound ran

pub restores : TakeBack is_for effect is_fresh inverse
restores = restores_so is_for gives becomes is_fresh inverse becomes_so goes_back

same : (x y : RenameView) → x.old_view_name ≡ y.old_view_name → x.new_view_name ≡ y.new_view_name → x ≡ y
same x y old new = rw (old, new) refl

pub told : AreTold is_for canonical_of
told d x y right also e =
    let is : rows x ≡ rows y = keys_told (codes "renameView") (codes "renameView") (rows x) (rows y) refl refl e in
    same x y (text_told (ap (nth_value 0) is)) (text_told (ap (nth_value 1) is))
