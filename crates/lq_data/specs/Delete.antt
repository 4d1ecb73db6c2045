-- delete: rows of a table are gone.
use Rattle.std.proofs.Common.{ap}
use Rattle.std.specs.Option.{option_map}
use Rattle.std.specs.Prelude.{Bool, List, None, Option, Result, Some, [], codes, refl, true, ◌&&◌, ◌∷◌, ◌≡◌}
use Rattle.lq_base.proofs.BesideLemmas.{object_of_name}
use Rattle.lq_base.specs.Name.{is_name}
use Rattle.lq_base.specs.Number.{if_there}
use Rattle.lq_base.specs.declared.dialect.Dialect.{Dialect}
use Rattle.lq_base.specs.declared.reason.Reason.{Reason}
use Rattle.lq_data.specs.GivenTestLaws.{test_told, where_right}
use Rattle.lq_data.specs.Sql.{given_text, is_test, test_of, where_keys}
use Rattle.lq_data.specs.declared.delete.Delete.{Delete}
use Rattle.lq_model.proofs.Effects.{does_so, one_becomes, restores_so}
use Rattle.lq_model.proofs.Lists.{and_left, and_right}
use Rattle.lq_model.proofs.Told.{keys_told, text_told}
use Rattle.lq_model.specs.Catalogue.{Catalogue}
use Rattle.lq_model.specs.Changes.{AreReturns, AreStatements, AreTold, CanonicalChange, HaveEffect, TakeBack, text}
use Rattle.lq_model.specs.Effect.{Becomes, GoesBack, effect_of}
use Rattle.lq_model.specs.Rows.{deleted}
use Rattle.lq_model.specs.TakesBack.{Row, change_of, nth_value}
use Rattle.lq_model.specs.declared.statement.Statement.{Statement}
use Rattle.lq_model.specs.declared.statement.Statement.TheVariants as statement
use Rattle.lq_tree.specs.Given.{a_name}
use Rattle.lq_tree.specs.Keys.{Keys, a_change, fields, required, ◌⊛◌}
use Rattle.lq_tree.specs.Look.{Taken}

-- its keys

abbrev pub keys : Dialect → Keys Delete
keys d =
    fields (λ table test. record { table_name = table; test = test })
    ⊛ required (codes "tableName") a_name
    ⊛ where_keys d

unfoldable pub a_delete : Dialect → Taken Delete
a_delete d = a_change (keys d)

-- its name is a name, and its text spells a test
abbrev pub is_for : Dialect → Delete → Bool
is_for d x = is_name x.table_name && if_there (is_test d) x.test

-- what it does

abbrev pub gives : Dialect → Delete → List Statement
gives d x = statement.Delete x.table_name (test_of x.test) ∷ []

-- the rows that the test takes are gone, and those that go with them
abbrev pub becomes : Dialect → Delete → Catalogue → Catalogue
becomes d x c = deleted x.table_name (test_of x.test) c

abbrev pub effect : Dialect → Delete → Catalogue → Result Catalogue Reason
effect = effect_of gives becomes

abbrev pub is_fresh : Dialect → Delete → Catalogue → Bool
is_fresh d x c = true

-- nothing brings the rows back
abbrev pub inverse : Dialect → Delete → Option (List Statement)
inverse d x = None

-- its canonical text

abbrev pub rows : Delete → List Row
rows x = (codes "tableName", Some (text x.table_name)) ∷ (codes "where", option_map given_text x.test) ∷ []

abbrev pub canonical_of : Delete → CanonicalChange
canonical_of x = change_of (codes "delete") (rows x)

-- That delete keeps its promises.

pub spelled : AreStatements is_for gives
spelled d x h = rw (object_of_name d x.table_name (and_left (is_name x.table_name) _ h), where_right d x.test (and_right (is_name x.table_name) _ h)) refl

pub returned : AreReturns is_for inverse
returned d x undoing right taken = absurd Prim.cc

becomes_so : Becomes gives becomes is_for
becomes_so d x c e right sound ran = one_becomes d (statement.Delete x.table_name (test_of x.test)) c e ran

pub does : HaveEffect is_for gives effect
does = does_so is_for gives becomes becomes_so

goes_back : GoesBack is_for gives is_fresh inverse
goes_back d x c e undoing right sound new ran taken = absurd Prim.cc

pub restores : TakeBack is_for effect is_fresh inverse
restores = restores_so is_for gives becomes is_fresh inverse becomes_so goes_back

same : (x y : Delete) → x.table_name ≡ y.table_name → x.test ≡ y.test → x ≡ y
same x y table test = rw (table, test) refl

pub told : AreTold is_for canonical_of
told d x y right also e =
    let is : rows x ≡ rows y = keys_told (codes "delete") (codes "delete") (rows x) (rows y) refl refl e in
    same x y (text_told (ap (nth_value 0) is)) (test_told d x.test y.test (and_right (is_name x.table_name) _ right) (and_right (is_name y.table_name) _ also) (ap (nth_value 1) is))
