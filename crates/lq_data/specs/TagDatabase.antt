-- tagDatabase: the changeset's row gets a tag, and nothing else is done.
use Rattle.std.proofs.Common.{ap, subst, sym}
use Rattle.std.specs.List.{list_all}
use Rattle.std.specs.Prelude.{Bool, List, Ok, Option, Result, Some, [], codes, nat_le, not, option_and_then, refl, true, ℕ, ◌&&◌, ◌∷◌, ◌≡◌}
use Rattle.lq_base.specs.Number.{char_count, has_control}
use Rattle.lq_base.specs.declared.dialect.Dialect.{Dialect}
use Rattle.lq_base.specs.declared.reason.Reason.{Reason}
use Rattle.lq_data.specs.declared.tag_database.TagDatabase.{TagDatabase}
use Rattle.lq_model.proofs.Effects.{does_so, ok_same, restores_so, some_same}
use Rattle.lq_model.proofs.Told.{keys_told, text_told}
use Rattle.lq_model.specs.Catalogue.{Catalogue}
use Rattle.lq_model.specs.Changes.{AreReturns, AreStatements, AreTold, CanonicalChange, HaveEffect, TakeBack, text}
use Rattle.lq_model.specs.Effect.{Becomes, GoesBack, effect_of}
use Rattle.lq_model.specs.Step.{is_statement, run}
use Rattle.lq_model.specs.TakesBack.{Row, change_of, nth_value}
use Rattle.lq_model.specs.declared.caller.By.TheVariants.{User}
use Rattle.lq_model.specs.declared.statement.Statement.{Statement}
use Rattle.lq_tree.specs.Given.{if_so}
use Rattle.lq_tree.specs.Keys.{Keys, a_change, fields, required, ◌⊛◌}
use Rattle.lq_tree.specs.Look.{Taken, or_bad, printed_of}

-- 1 to 255 characters, none a control character
abbrev pub is_tag : List ℕ → Bool
is_tag bytes = nat_le 1 (char_count bytes) && (nat_le (char_count bytes) 255 && not (has_control bytes))

-- a scalar that is printed as a tag
abbrev pub a_tag : Taken (List ℕ)
a_tag n = or_bad (option_and_then (if_so is_tag) (printed_of n))

-- its keys

abbrev pub keys : Keys TagDatabase
keys =
    fields (λ tag. record { tag = tag })
    ⊛ required (codes "tag") a_tag

unfoldable pub a_tag_database : Taken TagDatabase
a_tag_database = a_change keys

-- its tag is a tag
abbrev pub is_for : Dialect → TagDatabase → Bool
is_for d x = is_tag x.tag

-- what it does

-- no statement
abbrev pub gives : Dialect → TagDatabase → List Statement
gives d x = []

-- nothing changes
abbrev pub becomes : Dialect → TagDatabase → Catalogue → Catalogue
becomes d x c = c

abbrev pub effect : Dialect → TagDatabase → Catalogue → Result Catalogue Reason
effect = effect_of gives becomes

abbrev pub is_fresh : Dialect → TagDatabase → Catalogue → Bool
is_fresh d x c = true

-- no statement takes it back, since it did nothing
abbrev pub inverse : Dialect → TagDatabase → Option (List Statement)
inverse d x = Some []

-- its canonical text

abbrev pub rows : TagDatabase → List Row
rows x = (codes "tag", Some (text x.tag)) ∷ []

abbrev pub canonical_of : TagDatabase → CanonicalChange
canonical_of x = change_of (codes "tagDatabase") (rows x)

-- That tagDatabase keeps its promises.

pub spelled : AreStatements is_for gives
spelled d x right = refl

pub returned : AreReturns is_for inverse
returned d x undoing right taken = subst (λ ss. list_all (is_statement d) ss ≡ true) (some_same taken) refl

becomes_so : Becomes gives becomes is_for
becomes_so d x c e right sound ran = ok_same ran

pub does : HaveEffect is_for gives effect
does = does_so is_for gives becomes becomes_so

goes_back : GoesBack is_for gives is_fresh inverse
goes_back d x c e undoing right sound new ran taken = subst (λ ss. run User d ss e ≡ Ok c) (some_same taken) (subst (λ z. run User d [] e ≡ Ok z) (sym (ok_same ran)) refl)

pub restores : TakeBack is_for effect is_fresh inverse
restores = restores_so is_for gives becomes is_fresh inverse becomes_so goes_back

same : (x y : TagDatabase) → x.tag ≡ y.tag → x ≡ y
same x y tag = rw tag refl

pub told : AreTold is_for canonical_of
told d x y right also e =
    let is : rows x ≡ rows y = keys_told (codes "tagDatabase") (codes "tagDatabase") (rows x) (rows y) refl refl e in
    same x y (text_told (ap (nth_value 0) is))
