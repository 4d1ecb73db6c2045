-- dropTable: a table is gone.
use Rattle.std.proofs.Common.{ap}
use Rattle.std.specs.Prelude.{Bool, List, None, Option, Result, Some, [], codes, refl, true, ◌∷◌, ◌≡◌}
use Rattle.lq_base.specs.Name.{is_object, text_of, within}
use Rattle.lq_base.specs.declared.dialect.Dialect.{Dialect}
use Rattle.lq_base.specs.declared.name.Name.{Name}
use Rattle.lq_base.specs.declared.reason.Reason.{Reason}
use Rattle.lq_model.proofs.Effects.{does_so, one_becomes, restores_so}
use Rattle.lq_model.proofs.Told.{keys_told, object_told}
use Rattle.lq_model.specs.Catalogue.{Catalogue, without_table}
use Rattle.lq_model.specs.Changes.{AreReturns, AreStatements, AreTold, CanonicalChange, HaveEffect, TakeBack, text}
use Rattle.lq_model.specs.Effect.{Becomes, GoesBack, effect_of}
use Rattle.lq_model.specs.TakesBack.{Row, change_of, nth_value, schema_row}
use Rattle.lq_model.specs.declared.statement.Statement.{Statement}
use Rattle.lq_model.specs.declared.statement.Statement.TheVariants as statement
use Rattle.lq_tables.specs.declared.drop_table.DropTable.{DropTable}
use Rattle.lq_tree.specs.Given.{a_name}
use Rattle.lq_tree.specs.Keys.{Keys, a_change_in, fields, required, ◌⊛◌}
use Rattle.lq_tree.specs.Look.{Taken}

-- its keys

abbrev pub keys : Keys (Name → DropTable)
keys =
    fields (λ table schema. record { table_name = within schema table })
    ⊛ required (codes "tableName") a_name

unfoldable pub drop_table : Dialect → Taken DropTable
drop_table d = a_change_in d keys

-- its name is a name
abbrev pub is_for : Dialect → DropTable → Bool
is_for d x = is_object d x.table_name

-- what it does

abbrev pub gives : Dialect → DropTable → List Statement
gives d x = statement.DropTable x.table_name ∷ []

-- the table is gone
abbrev pub becomes : Dialect → DropTable → Catalogue → Catalogue
becomes d x c = without_table c x.table_name

abbrev pub effect : Dialect → DropTable → Catalogue → Result Catalogue Reason
effect = effect_of gives becomes

abbrev pub is_fresh : Dialect → DropTable → Catalogue → Bool
is_fresh d x c = true

-- nothing brings the table back
abbrev pub inverse : Dialect → DropTable → Option (List Statement)
inverse d x = None

-- its canonical text

abbrev pub rows : DropTable → List Row
rows x = (codes "tableName", Some (text (text_of x.table_name))) ∷ (codes "schemaName", schema_row x.table_name) ∷ []

abbrev pub canonical_of : DropTable → CanonicalChange
canonical_of x = change_of (codes "dropTable") (rows x)

-- That dropTable keeps its promises.

pub spelled : AreStatements is_for gives
spelled d x h = rw h refl

pub returned : AreReturns is_for inverse
returned d x undoing right taken = absurd Prim.cc

becomes_so : Becomes gives becomes is_for
becomes_so d x c e right sound ran = one_becomes d (statement.DropTable x.table_name) c e ran

pub does : HaveEffect is_for gives effect
does = does_so is_for gives becomes becomes_so

goes_back : GoesBack is_for gives is_fresh inverse
goes_back d x c e undoing right sound new ran taken = absurd Prim.cc

pub restores : TakeBack is_for effect is_fresh inverse
restores = restores_so is_for gives becomes is_fresh inverse becomes_so goes_back

same : (x y : DropTable) → x.table_name ≡ y.table_name → x ≡ y
same x y table = rw table refl

pub told : AreTold is_for canonical_of
told d x y right also e =
    let is : rows x ≡ rows y = keys_told (codes "dropTable") (codes "dropTable") (rows x) (rows y) refl refl e in
    same x y (object_told d x.table_name y.table_name right also (ap (nth_value 0) is) (ap (nth_value 1) is))
