-- dropView: a view is gone.
use Rattle.std.proofs.Common.{ap}
use Rattle.std.specs.Prelude.{Bool, List, None, Option, Result, Some, [], codes, refl, true, ◌∷◌, ◌≡◌}
use Rattle.lq_base.proofs.BesideLemmas.{object_of_name}
use Rattle.lq_base.specs.Name.{is_name}
use Rattle.lq_base.specs.declared.dialect.Dialect.{Dialect}
use Rattle.lq_base.specs.declared.reason.Reason.{Reason}
use Rattle.lq_model.proofs.Effects.{does_so, one_becomes, restores_so}
use Rattle.lq_model.proofs.Told.{keys_told, text_told}
use Rattle.lq_model.specs.Catalogue.{Catalogue, without_view}
use Rattle.lq_model.specs.Changes.{AreReturns, AreStatements, AreTold, CanonicalChange, HaveEffect, TakeBack, text}
use Rattle.lq_model.specs.Effect.{Becomes, GoesBack, effect_of}
use Rattle.lq_model.specs.TakesBack.{Row, change_of, nth_value}
use Rattle.lq_model.specs.declared.statement.Statement.{Statement}
use Rattle.lq_model.specs.declared.statement.Statement.TheVariants as statement
use Rattle.lq_tree.specs.Given.{a_name}
use Rattle.lq_tree.specs.Keys.{Keys, a_change, fields, required, ◌⊛◌}
use Rattle.lq_tree.specs.Look.{Taken}
use Rattle.lq_views.specs.declared.drop_view.DropView.{DropView}

-- its keys

abbrev pub keys : Keys DropView
keys =
    fields (λ view. record { view_name = view })
    ⊛ required (codes "viewName") a_name

unfoldable pub drop_view : Taken DropView
drop_view = a_change keys

-- its name is a name
abbrev pub is_for : Dialect → DropView → Bool
is_for d x = is_name x.view_name

-- what it does

abbrev pub gives : Dialect → DropView → List Statement
gives d x = statement.DropView x.view_name ∷ []

-- the view is gone
abbrev pub becomes : Dialect → DropView → Catalogue → Catalogue
becomes d x c = without_view c x.view_name

abbrev pub effect : Dialect → DropView → Catalogue → Result Catalogue Reason
effect = effect_of gives becomes

abbrev pub is_fresh : Dialect → DropView → Catalogue → Bool
is_fresh d x c = true

-- nothing brings the view back
abbrev pub inverse : Dialect → DropView → Option (List Statement)
inverse d x = None

-- its canonical text

abbrev pub rows : DropView → List Row
rows x = (codes "viewName", Some (text x.view_name)) ∷ []

abbrev pub canonical_of : DropView → CanonicalChange
canonical_of x = change_of (codes "dropView") (rows x)

-- That dropView keeps its promises.

pub spelled : AreStatements is_for gives
spelled d x h = rw (object_of_name d x.view_name h) refl

pub returned : AreReturns is_for inverse
returned d x undoing right taken = absurd Prim.cc

becomes_so : Becomes gives becomes is_for
becomes_so d x c e right sound ran = one_becomes d (statement.DropView x.view_name) c e ran

pub does : HaveEffect is_for gives effect
does = does_so is_for gives becomes becomes_so

goes_back : GoesBack is_for gives is_fresh inverse
goes_back d x c e undoing right sound new ran taken = absurd Prim.cc

pub restores : TakeBack is_for effect is_fresh inverse
restores = restores_so is_for gives becomes is_fresh inverse becomes_so goes_back

same : (x y : DropView) → x.view_name ≡ y.view_name → x ≡ y
same x y view = rw view refl

pub told : AreTold is_for canonical_of
told d x y right also e =
    let is : rows x ≡ rows y = keys_told (codes "dropView") (codes "dropView") (rows x) (rows y) refl refl e in
    same x y (text_told (ap (nth_value 0) is))
