-- empty: nothing is done.
use Rattle.std.proofs.Common.{subst, sym}
use Rattle.std.specs.List.{list_all}
use Rattle.std.specs.Prelude.{Bool, List, Ok, Option, Result, Some, [], codes, refl, true, ◌≡◌}
use Rattle.lq_base.specs.declared.dialect.Dialect.{Dialect}
use Rattle.lq_base.specs.declared.reason.Reason.{Reason}
use Rattle.lq_data.specs.declared.empty.Empty.{Empty}
use Rattle.lq_model.proofs.Effects.{does_so, ok_same, restores_so, some_same}
use Rattle.lq_model.specs.Catalogue.{Catalogue}
use Rattle.lq_model.specs.Changes.{AreReturns, AreStatements, AreTold, CanonicalChange, HaveEffect, TakeBack}
use Rattle.lq_model.specs.Effect.{Becomes, GoesBack, effect_of}
use Rattle.lq_model.specs.Step.{is_statement, run}
use Rattle.lq_model.specs.TakesBack.{change_of}
use Rattle.lq_model.specs.declared.caller.By.TheVariants.{User}
use Rattle.lq_model.specs.declared.statement.Statement.{Statement}
use Rattle.lq_tree.specs.Keys.{Keys, a_change, fields}
use Rattle.lq_tree.specs.Look.{Taken}

-- it has no keys

abbrev pub keys : Keys Empty
keys = fields (record {})

unfoldable pub an_empty : Taken Empty
an_empty = a_change keys

abbrev pub is_for : Dialect → Empty → Bool
is_for d x = true

-- what it does

-- no statement
abbrev pub gives : Dialect → Empty → List Statement
gives d x = []

-- nothing changes
abbrev pub becomes : Dialect → Empty → Catalogue → Catalogue
becomes d x c = c

abbrev pub effect : Dialect → Empty → Catalogue → Result Catalogue Reason
effect = effect_of gives becomes

abbrev pub is_fresh : Dialect → Empty → Catalogue → Bool
is_fresh d x c = true

-- no statement takes it back, since it did nothing
abbrev pub inverse : Dialect → Empty → Option (List Statement)
inverse d x = Some []

-- its canonical text
abbrev pub canonical_of : Empty → CanonicalChange
canonical_of x = change_of (codes "empty") []

-- That empty keeps its promises.

pub spelled : AreStatements is_for gives
spelled d x right = refl

pub returned : AreReturns is_for inverse
returned d x undoing right taken = subst (λ ss. list_all (is_statement d) ss ≡ true) (some_same taken) refl

becomes_so : Becomes gives becomes is_for
becomes_so d x c e right sound ran = ok_same ran

pub does : HaveEffect is_for gives effect
does = does_so is_for gives becomes becomes_so

goes_back : GoesBack is_for gives is_fresh inverse
goes_back d x c e undoing right sound new ran taken = subst (λ ss. run User d ss e ≡ Ok c) (some_same taken) (subst (λ z. run User d [] e ≡ Ok z) (sym (ok_same ran)) refl)

pub restores : TakeBack is_for effect is_fresh inverse
restores = restores_so is_for gives becomes is_fresh inverse becomes_so goes_back

pub told : AreTold is_for canonical_of
told d x y right also e = refl
