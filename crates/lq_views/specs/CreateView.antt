-- createView: a view is made, or takes the place of one.
use Rattle.std.proofs.Common.{ap, sym, ◌∙◌}
use Rattle.std.specs.List.{list_all}
use Rattle.std.specs.Option.{option_map, unwrap_or}
use Rattle.std.specs.Prelude.{Bool, List, Option, Result, Some, [], codes, false, not, refl, true, ◌&&◌, ◌||◌, ◌∷◌, ◌≡◌}
use Rattle.lq_base.proofs.BesideLemmas.{object_of_name}
use Rattle.lq_base.specs.Name.{is_name, is_object}
use Rattle.lq_base.specs.declared.dialect.Dialect.{Dialect}
use Rattle.lq_base.specs.declared.reason.Reason.{Reason}
use Rattle.lq_model.proofs.Effects.{does_so, one_back_where, one_becomes, restores_so, some_same}
use Rattle.lq_model.proofs.Lists.{and_left, and_right, and_true}
use Rattle.lq_model.proofs.Told.{keys_told, text_told, truths_told}
use Rattle.lq_model.proofs.Views.{drop_view_after}
use Rattle.lq_model.specs.Catalogue.{Catalogue, the_table, with_view}
use Rattle.lq_model.specs.Changes.{AreReturns, AreStatements, AreTold, CanonicalChange, HaveEffect, TakeBack, text, truth}
use Rattle.lq_model.specs.Effect.{Becomes, GoesBack, effect_of}
use Rattle.lq_model.specs.Step.{is_query, is_statement, run}
use Rattle.lq_model.specs.TakesBack.{Row, change_of, no_view_yet, nth_value}
use Rattle.lq_model.specs.Views.{new_view}
use Rattle.lq_model.specs.declared.caller.By.TheVariants.{User}
use Rattle.lq_model.specs.declared.query.Query.{Query}
use Rattle.lq_model.specs.declared.statement.Statement.{Statement}
use Rattle.lq_model.specs.declared.statement.Statement.TheVariants as statement
use Rattle.lq_tree.specs.Given.{a_name, a_truth}
use Rattle.lq_tree.specs.Keys.{Keys, a_change, fields, optional, required, ◌⊛◌}
use Rattle.lq_tree.specs.Look.{Taken}
use Rattle.lq_views.specs.QueryText.{a_query, query_of, spells_query}
use Rattle.lq_views.specs.QueryTextLaws.{query_spelled, text_tells}
use Rattle.lq_views.specs.declared.create_view.CreateView.{CreateView}

-- its keys

abbrev pub keys : Dialect → Keys CreateView
keys d =
    fields (λ view query replace. record { view_name = view; select_query = query; replace_if_exists = replace })
    ⊛ required (codes "viewName") a_name
    ⊛ required (codes "selectQuery") (a_query d)
    ⊛ optional (codes "replaceIfExists") a_truth

unfoldable pub create_view : Dialect → Taken CreateView
create_view d = a_change (keys d)

-- its name is a name, and its text spells a query of the dialect
abbrev pub is_for : Dialect → CreateView → Bool
is_for d x = is_name x.view_name && spells_query d x.select_query

-- what it does

abbrev pub query : CreateView → Query
query x = query_of x.select_query

abbrev pub replaces : CreateView → Bool
replaces x = unwrap_or x.replace_if_exists false

abbrev pub gives : Dialect → CreateView → List Statement
gives d x = statement.CreateView x.view_name (query x) (replaces x) ∷ []

-- the view is there as stated, `*` being replaced by all columns of its table
abbrev pub becomes : Dialect → CreateView → Catalogue → Catalogue
becomes d x c = with_view c x.view_name (new_view (query x) (the_table c (query x).table))

abbrev pub effect : Dialect → CreateView → Catalogue → Result Catalogue Reason
effect = effect_of gives becomes

-- it replaces none
abbrev pub is_fresh : Dialect → CreateView → Catalogue → Bool
is_fresh d x c = not (replaces x) || no_view_yet x.view_name c

abbrev pub inverse : Dialect → CreateView → Option (List Statement)
inverse d x = Some (statement.DropView x.view_name ∷ [])

-- its canonical text, in which the query is as it was given

abbrev pub rows : CreateView → List Row
rows x =
    (codes "viewName", Some (text x.view_name))
    ∷ (codes "selectQuery", Some (text x.select_query.text))
    ∷ (codes "replaceIfExists", option_map (λ replace. truth replace) x.replace_if_exists)
    ∷ []

abbrev pub canonical_of : CreateView → CanonicalChange
canonical_of x = change_of (codes "createView") (rows x)

-- That createView keeps its promises.

abbrev creates : CreateView → Statement
creates x = statement.CreateView x.view_name (query x) (replaces x)

spells : (d : Dialect) (x : CreateView) → is_for d x ≡ true → spells_query d x.select_query ≡ true
spells d x h = and_right (is_name x.view_name) _ h

pub spelled : AreStatements is_for gives
spelled d x h =
    and_true (is_statement d (creates x)) true
    (and_true (is_object d x.view_name) (is_query d (query x)) (object_of_name d x.view_name (and_left (is_name x.view_name) _ h)) (query_spelled d x.select_query (spells d x h))) refl

pub returned : AreReturns is_for inverse
returned d x undoing h taken =
    ap (list_all (is_statement d)) (sym (some_same taken))
    ∙ and_true (is_object d x.view_name) true (object_of_name d x.view_name (and_left (is_name x.view_name) _ h)) refl

becomes_so : Becomes gives becomes is_for
becomes_so d x c e right sound ran = one_becomes d (creates x) c e ran

pub does : HaveEffect is_for gives effect
does = does_so is_for gives becomes becomes_so

goes_back : GoesBack is_for gives is_fresh inverse
goes_back d x c e undoing right sound new ran taken =
    ap (λ ss. run User d ss e) (sym (some_same taken))
    ∙ one_back_where d (is_fresh d x) (creates x) (statement.DropView x.view_name) (λ by b f n good free made. drop_view_after d x.view_name (query x) (replaces x) by b f n good free made) c e sound new ran

pub restores : TakeBack is_for effect is_fresh inverse
restores = restores_so is_for gives becomes is_fresh inverse becomes_so goes_back

same : (x y : CreateView) → x.view_name ≡ y.view_name → x.select_query ≡ y.select_query → x.replace_if_exists ≡ y.replace_if_exists → x ≡ y
same x y view query replace = rw (view, query, replace) refl

pub told : AreTold is_for canonical_of
told d x y right also e =
    let is : rows x ≡ rows y = keys_told (codes "createView") (codes "createView") (rows x) (rows y) refl refl e in
    same x y (text_told (ap (nth_value 0) is))
    (text_tells d x.select_query y.select_query (spells d x right) (spells d y also) (text_told (ap (nth_value 1) is)))
    (truths_told x.replace_if_exists y.replace_if_exists (ap (nth_value 2) is))
