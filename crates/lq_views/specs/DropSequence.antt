-- dropSequence: a sequence is gone.
use Rattle.std.proofs.Common.{ap}
use Rattle.std.specs.Prelude.{Bool, List, None, Option, Result, Some, [], codes, refl, true, ◌&&◌, ◌∷◌, ◌≡◌}
use Rattle.lq_base.proofs.BesideLemmas.{object_of_name}
use Rattle.lq_base.specs.Name.{is_name}
use Rattle.lq_base.specs.declared.dialect.Dialect.{Dialect}
use Rattle.lq_base.specs.declared.reason.Reason.{Reason}
use Rattle.lq_model.proofs.Effects.{does_so, one_becomes, restores_so}
use Rattle.lq_model.proofs.Lists.{and_left, and_right}
use Rattle.lq_model.proofs.Told.{keys_told, text_told}
use Rattle.lq_model.specs.Catalogue.{Catalogue, without_sequence}
use Rattle.lq_model.specs.Changes.{AreReturns, AreStatements, AreTold, CanonicalChange, HaveEffect, TakeBack, text}
use Rattle.lq_model.specs.Effect.{Becomes, GoesBack, effect_of}
use Rattle.lq_model.specs.Step.{is_pg}
use Rattle.lq_model.specs.TakesBack.{Row, change_of, nth_value}
use Rattle.lq_model.specs.declared.statement.Statement.{Statement}
use Rattle.lq_model.specs.declared.statement.Statement.TheVariants as statement
use Rattle.lq_tree.specs.Given.{a_name}
use Rattle.lq_tree.specs.Keys.{Keys, a_change, fields, required, ◌⊛◌}
use Rattle.lq_tree.specs.Look.{Taken, and_then}
use Rattle.lq_views.specs.QueryText.{for_postgresql}
use Rattle.lq_views.specs.declared.drop_sequence.DropSequence.{DropSequence}

-- its keys

abbrev pub keys : Keys DropSequence
keys =
    fields (λ sequence. record { sequence_name = sequence })
    ⊛ required (codes "sequenceName") a_name

-- which are read under PostgreSQL alone
unfoldable pub drop_sequence : Dialect → Taken DropSequence
drop_sequence d n = and_then (for_postgresql d) (λ _. a_change keys n)

-- the dialect has sequences, and its name is a name
abbrev pub is_for : Dialect → DropSequence → Bool
is_for d x = is_pg d && is_name x.sequence_name

-- what it does

abbrev pub gives : Dialect → DropSequence → List Statement
gives d x = statement.DropSequence x.sequence_name ∷ []

-- the sequence is gone
abbrev pub becomes : Dialect → DropSequence → Catalogue → Catalogue
becomes d x c = without_sequence c x.sequence_name

abbrev pub effect : Dialect → DropSequence → Catalogue → Result Catalogue Reason
effect = effect_of gives becomes

abbrev pub is_fresh : Dialect → DropSequence → Catalogue → Bool
is_fresh d x c = true

-- nothing brings the sequence back
abbrev pub inverse : Dialect → DropSequence → Option (List Statement)
inverse d x = None

-- its canonical text

abbrev pub rows : DropSequence → List Row
rows x = (codes "sequenceName", Some (text x.sequence_name)) ∷ []

abbrev pub canonical_of : DropSequence → CanonicalChange
canonical_of x = change_of (codes "dropSequence") (rows x)

-- That dropSequence keeps its promises.

pub spelled : AreStatements is_for gives
spelled d x h = rw (and_left (is_pg d) _ h, object_of_name d x.sequence_name (and_right (is_pg d) _ h)) refl

pub returned : AreReturns is_for inverse
returned d x undoing right taken = absurd Prim.cc

becomes_so : Becomes gives becomes is_for
becomes_so d x c e right sound ran = one_becomes d (statement.DropSequence x.sequence_name) c e ran

pub does : HaveEffect is_for gives effect
does = does_so is_for gives becomes becomes_so

goes_back : GoesBack is_for gives is_fresh inverse
goes_back d x c e undoing right sound new ran taken = absurd Prim.cc

pub restores : TakeBack is_for effect is_fresh inverse
restores = restores_so is_for gives becomes is_fresh inverse becomes_so goes_back

same : (x y : DropSequence) → x.sequence_name ≡ y.sequence_name → x ≡ y
same x y sequence = rw sequence refl

pub told : AreTold is_for canonical_of
told d x y right also e =
    let is : rows x ≡ rows y = keys_told (codes "dropSequence") (codes "dropSequence") (rows x) (rows y) refl refl e in
    same x y (text_told (ap (nth_value 0) is))
