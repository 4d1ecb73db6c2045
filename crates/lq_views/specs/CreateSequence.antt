-- createSequence: a sequence is made.
use Rattle.std.proofs.Common.{ap, sym, ◌∙◌}
use Rattle.std.specs.List.{list_all}
use Rattle.std.specs.Option.{unwrap_or}
use Rattle.std.specs.Ordering.{int_eq}
use Rattle.std.specs.Prelude.{Bool, List, Option, Result, Some, [], codes, not, option_and_then, pos, refl, true, ℤ, ◌&&◌, ◌∷◌, ◌≡◌}
use Rattle.lq_base.proofs.BesideLemmas.{object_of_name}
use Rattle.lq_base.specs.Name.{is_name, is_object}
use Rattle.lq_base.specs.declared.dialect.Dialect.{Dialect}
use Rattle.lq_base.specs.declared.reason.Reason.{Reason}
use Rattle.lq_model.proofs.Effects.{does_so, one_back, one_becomes, restores_so, some_same}
use Rattle.lq_model.proofs.Lists.{and_left, and_right, and_true}
use Rattle.lq_model.proofs.Sequences.{drop_sequence_after}
use Rattle.lq_model.proofs.Told.{keys_told, number_told, text_told}
use Rattle.lq_model.specs.Catalogue.{Catalogue, with_sequence}
use Rattle.lq_model.specs.Changes.{AreReturns, AreStatements, AreTold, CanonicalChange, HaveEffect, TakeBack, number, text}
use Rattle.lq_model.specs.Effect.{Becomes, GoesBack, effect_of}
use Rattle.lq_model.specs.Step.{is_pg, is_statement, run}
use Rattle.lq_model.specs.TakesBack.{Row, change_of, nth_value}
use Rattle.lq_model.specs.declared.caller.By.TheVariants.{User}
use Rattle.lq_model.specs.declared.statement.Statement.{Statement}
use Rattle.lq_model.specs.declared.statement.Statement.TheVariants as statement
use Rattle.lq_tree.specs.Given.{a_name, a_whole, if_so, is_whole}
use Rattle.lq_tree.specs.Keys.{Keys, a_change, fields, optional, required, ◌⊛◌}
use Rattle.lq_tree.specs.Look.{Taken, and_then, or_bad, whole_of}
use Rattle.lq_views.specs.QueryText.{for_postgresql}
use Rattle.lq_views.specs.declared.create_sequence.CreateSequence.{CreateSequence}

-- its keys

-- a whole number but 0
abbrev pub is_not_zero : ℤ → Bool
is_not_zero n = not (int_eq n (pos 0))

abbrev pub an_increment : Taken ℤ
an_increment n = or_bad (option_and_then (if_so is_not_zero) (whole_of n))

abbrev pub is_increment : ℤ → Bool
is_increment n = is_whole n && is_not_zero n

-- both numbers are 1 where they are not stated
abbrev pub keys : Keys CreateSequence
keys =
    fields (λ sequence start increment. record { sequence_name = sequence; start_value = unwrap_or start (pos 1); increment_by = unwrap_or increment (pos 1) })
    ⊛ required (codes "sequenceName") a_name
    ⊛ optional (codes "startValue") a_whole
    ⊛ optional (codes "incrementBy") an_increment

-- which are read under PostgreSQL alone
unfoldable pub create_sequence : Dialect → Taken CreateSequence
create_sequence d n = and_then (for_postgresql d) (λ _. a_change keys n)

-- the dialect has sequences, its name is a name, its numbers have 128 signed bits, and it does not stay at one number
abbrev pub is_for : Dialect → CreateSequence → Bool
is_for d x = is_pg d && (is_name x.sequence_name && (is_whole x.start_value && is_increment x.increment_by))

-- what it does

abbrev pub gives : Dialect → CreateSequence → List Statement
gives d x = statement.CreateSequence x.sequence_name x.start_value x.increment_by ∷ []

-- the sequence is there as stated
abbrev pub becomes : Dialect → CreateSequence → Catalogue → Catalogue
becomes d x c = with_sequence c x.sequence_name (record { start = x.start_value; step = x.increment_by })

abbrev pub effect : Dialect → CreateSequence → Catalogue → Result Catalogue Reason
effect = effect_of gives becomes

abbrev pub is_fresh : Dialect → CreateSequence → Catalogue → Bool
is_fresh d x c = true

abbrev pub inverse : Dialect → CreateSequence → Option (List Statement)
inverse d x = Some (statement.DropSequence x.sequence_name ∷ [])

-- its canonical text

abbrev pub rows : CreateSequence → List Row
rows x =
    (codes "sequenceName", Some (text x.sequence_name))
    ∷ (codes "startValue", Some (number x.start_value))
    ∷ (codes "incrementBy", Some (number x.increment_by))
    ∷ []

abbrev pub canonical_of : CreateSequence → CanonicalChange
canonical_of x = change_of (codes "createSequence") (rows x)

-- That createSequence keeps its promises.

pub spelled : AreStatements is_for gives
spelled d x h = and_true (is_statement d (statement.CreateSequence x.sequence_name x.start_value x.increment_by)) true (and_true (is_pg d) _ (and_left (is_pg d) _ h) (and_true (is_object d x.sequence_name) _ (object_of_name d x.sequence_name (and_left (is_name x.sequence_name) _ (and_right (is_pg d) _ h))) (and_right (is_name x.sequence_name) _ (and_right (is_pg d) _ h)))) refl

pub returned : AreReturns is_for inverse
returned d x undoing h taken =
    ap (list_all (is_statement d)) (sym (some_same taken))
    ∙ and_true (is_statement d (statement.DropSequence x.sequence_name)) true (and_true (is_pg d) (is_object d x.sequence_name) (and_left (is_pg d) _ h) (object_of_name d x.sequence_name (and_left (is_name x.sequence_name) _ (and_right (is_pg d) _ h)))) refl

becomes_so : Becomes gives becomes is_for
becomes_so d x c e right sound ran = one_becomes d (statement.CreateSequence x.sequence_name x.start_value x.increment_by) c e ran

pub does : HaveEffect is_for gives effect
does = does_so is_for gives becomes becomes_so

goes_back : GoesBack is_for gives is_fresh inverse
goes_back d x c e undoing right sound new ran taken =
    ap (λ ss. run User d ss e) (sym (some_same taken))
    ∙ one_back d (statement.CreateSequence x.sequence_name x.start_value x.increment_by) (statement.DropSequence x.sequence_name) (drop_sequence_after d x.sequence_name x.start_value x.increment_by) c e sound ran

pub restores : TakeBack is_for effect is_fresh inverse
restores = restores_so is_for gives becomes is_fresh inverse becomes_so goes_back

same : (x y : CreateSequence) → x.sequence_name ≡ y.sequence_name → x.start_value ≡ y.start_value → x.increment_by ≡ y.increment_by → x ≡ y
same x y sequence start increment = rw (sequence, start, increment) refl

pub told : AreTold is_for canonical_of
told d x y right also e =
    let is : rows x ≡ rows y = keys_told (codes "createSequence") (codes "createSequence") (rows x) (rows y) refl refl e in
    same x y (text_told (ap (nth_value 0) is)) (number_told (ap (nth_value 1) is)) (number_told (ap (nth_value 2) is))
