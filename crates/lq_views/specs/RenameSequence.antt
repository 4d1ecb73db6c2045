-- renameSequence: a sequence gets another name.
use Rattle.std.proofs.Common.{ap, sym, ◌∙◌}
use Rattle.std.specs.List.{list_all}
use Rattle.std.specs.Prelude.{Bool, List, Option, Result, Some, [], codes, refl, true, ◌&&◌, ◌∷◌, ◌≡◌}
use Rattle.lq_base.proofs.BesideLemmas.{names_beside, object_of_name}
use Rattle.lq_base.specs.Name.{is_name}
use Rattle.lq_base.specs.declared.dialect.Dialect.{Dialect}
use Rattle.lq_base.specs.declared.name.Name.{Name}
use Rattle.lq_base.specs.declared.reason.Reason.{Reason}
use Rattle.lq_model.proofs.Effects.{does_so, one_back, one_becomes, restores_so, some_same}
use Rattle.lq_model.proofs.Lists.{and_left, and_right}
use Rattle.lq_model.proofs.Sequences.{rename_sequence_after}
use Rattle.lq_model.proofs.Told.{keys_told, text_told}
use Rattle.lq_model.specs.Catalogue.{Catalogue}
use Rattle.lq_model.specs.Changes.{AreReturns, AreStatements, AreTold, CanonicalChange, HaveEffect, TakeBack, text}
use Rattle.lq_model.specs.Effect.{Becomes, GoesBack, effect_of}
use Rattle.lq_model.specs.Step.{is_pg, is_statement, run}
use Rattle.lq_model.specs.TakesBack.{Row, change_of, nth_value}
use Rattle.lq_model.specs.Views.{sequence_renamed}
use Rattle.lq_model.specs.declared.caller.By.TheVariants.{User}
use Rattle.lq_model.specs.declared.statement.Statement.{Statement}
use Rattle.lq_model.specs.declared.statement.Statement.TheVariants as statement
use Rattle.lq_tree.specs.Given.{a_name}
use Rattle.lq_tree.specs.Keys.{Keys, a_change, fields, required, ◌⊛◌}
use Rattle.lq_tree.specs.Look.{Taken, and_then}
use Rattle.lq_views.specs.QueryText.{for_postgresql}
use Rattle.lq_views.specs.declared.rename_sequence.RenameSequence.{RenameSequence}

-- its keys

abbrev pub keys : Keys RenameSequence
keys =
    fields (λ old new. record { old_sequence_name = old; new_sequence_name = new })
    ⊛ required (codes "oldSequenceName") a_name
    ⊛ required (codes "newSequenceName") a_name

-- which are read under PostgreSQL alone
unfoldable pub rename_sequence : Dialect → Taken RenameSequence
rename_sequence d n = and_then (for_postgresql d) (λ _. a_change keys n)

-- the dialect has sequences, and its names are names
abbrev pub is_for : Dialect → RenameSequence → Bool
is_for d x = is_pg d && (is_name x.old_sequence_name && is_name x.new_sequence_name)

-- what it does

abbrev pub gives : Dialect → RenameSequence → List Statement
gives d x = statement.RenameSequence x.old_sequence_name x.new_sequence_name ∷ []

-- the sequence has the new name
abbrev pub becomes : Dialect → RenameSequence → Catalogue → Catalogue
becomes d x c = sequence_renamed x.old_sequence_name x.new_sequence_name c

abbrev pub effect : Dialect → RenameSequence → Catalogue → Result Catalogue Reason
effect = effect_of gives becomes

-- the name that it had is free, so it can always go back
abbrev pub is_fresh : Dialect → RenameSequence → Catalogue → Bool
is_fresh d x c = true

abbrev pub inverse : Dialect → RenameSequence → Option (List Statement)
inverse d x = Some (statement.RenameSequence x.new_sequence_name x.old_sequence_name ∷ [])

-- its canonical text

abbrev pub rows : RenameSequence → List Row
rows x =
    (codes "oldSequenceName", Some (text x.old_sequence_name))
    ∷ (codes "newSequenceName", Some (text x.new_sequence_name))
    ∷ []

abbrev pub canonical_of : RenameSequence → CanonicalChange
canonical_of x = change_of (codes "renameSequence") (rows x)

-- That renameSequence keeps its promises.

-- the renaming from one name to another, and back
renames_spelled : (d : Dialect) (from to : Name) → (is_pg d && (is_name from && is_name to)) ≡ true → list_all (is_statement d) (statement.RenameSequence from to ∷ []) ≡ true
renames_spelled d from to h =
    let names = and_right (is_pg d) _ h in
    let one = and_left (is_name from) _ names in
    let two = and_right (is_name from) _ names in
    rw (and_left (is_pg d) _ h, object_of_name d from one, object_of_name d to two, names_beside from to one two) refl

turned : (d : Dialect) (from to : Name) → (is_pg d && (is_name from && is_name to)) ≡ true → (is_pg d && (is_name to && is_name from)) ≡ true
turned d from to h =
    let names = and_right (is_pg d) _ h in
    rw (and_left (is_pg d) _ h, and_right (is_name from) _ names, and_left (is_name from) _ names) refl

pub spelled : AreStatements is_for gives
spelled d x h = renames_spelled d x.old_sequence_name x.new_sequence_name h

pub returned : AreReturns is_for inverse
returned d x undoing h taken =
    ap (list_all (is_statement d)) (sym (some_same taken))
    ∙ renames_spelled d x.new_sequence_name x.old_sequence_name (turned d x.old_sequence_name x.new_sequence_name h)

becomes_so : Becomes gives becomes is_for
becomes_so d x c e right sound ran = one_becomes d (statement.RenameSequence x.old_sequence_name x.new_sequence_name) c e ran

pub does : HaveEffect is_for gives effect
does = does_so is_for gives becomes becomes_so

goes_back : GoesBack is_for gives is_fresh inverse
goes_back d x c e undoing right sound new ran taken =
    ap (λ ss. run User d ss e) (sym (some_same taken))
    ∙ one_back d (statement.RenameSequence x.old_sequence_name x.new_sequence_name) (statement.RenameSequence x.new_sequence_name x.old_sequence_name) (rename_sequence_after d x.old_sequence_name x.new_sequence_name) c e sound ran

pub restores : TakeBack is_for effect is_fresh inverse
restores = restores_so is_for gives becomes is_fresh inverse becomes_so goes_back

same : (x y : RenameSequence) → x.old_sequence_name ≡ y.old_sequence_name → x.new_sequence_name ≡ y.new_sequence_name → x ≡ y
same x y old new = rw (old, new) refl

pub told : AreTold is_for canonical_of
told d x y right also e =
    let is : rows x ≡ rows y = keys_told (codes "renameSequence") (codes "renameSequence") (rows x) (rows y) refl refl e in
    same x y (text_told (ap (nth_value 0) is)) (text_told (ap (nth_value 1) is))
