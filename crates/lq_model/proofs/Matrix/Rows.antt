-- Worked examples: a null in a NOT NULL column of the result, and two rows equal in a key, a unique constraint or a unique index.
use Rattle.std.specs.Prelude.{Bool, List, None, Option, Some, [], codes, false, pos, refl, true, ◌∷◌}
use Rattle.lq_base.specs.Value.{into_kind, is_value_of}
use Rattle.lq_base.specs.declared.dialect.Dialect.TheVariants.{Mysql, Postgresql}
use Rattle.lq_base.specs.declared.kind.Kind.{Kind}
use Rattle.lq_base.specs.declared.kind.Kind.TheVariants as kind
use Rattle.lq_base.specs.declared.literal.Literal.{Literal}
use Rattle.lq_base.specs.declared.literal.Literal.TheVariants as literal
use Rattle.lq_base.specs.declared.name.Name.{Name}
use Rattle.lq_base.specs.declared.reason.Reason.TheVariants.{Duplicate, NullFound}
use Rattle.lq_base.specs.declared.value.Value.{Value}
use Rattle.lq_base.specs.declared.value.Value.TheVariants as value
use Rattle.lq_model.specs.Catalogue.{Catalogue}
use Rattle.lq_model.specs.Plan.{decide}
use Rattle.lq_model.specs.declared.caller.By.TheVariants.{User}
use Rattle.lq_model.specs.declared.constraint.Key.{Key}
use Rattle.lq_model.specs.declared.constraint.Unique.{Unique}
use Rattle.lq_model.specs.declared.index.Index.{Index}
use Rattle.lq_model.specs.declared.statement.Statement.{Statement}
use Rattle.lq_model.specs.declared.statement.Statement.TheVariants.{AddColumn, AddPrimaryKey, AddUnique, CreateIndex, Insert, Modify, SetNotNull, Update}
use Rattle.lq_model.proofs.ExampleWorld.{another, at, code, column, def, id, index_on, key_on, number, unique_on, up, where_id}
use Rattle.lq_model.proofs.Matrix.Tables.{Are, of_tables, plain, table}

abbrev one : Value
one = value.Int (pos 1)

abbrev two : Value
two = value.Int (pos 2)

-- `id` may be null, `code` may be null or not, and `at` is NOT NULL with the default 7
abbrev with_nulls : Bool → List (List Value) → Catalogue
with_nulls nullable rows = of_tables ((another, table (plain id kind.Int ∷ column code kind.Int nullable None false ∷ column at kind.Int false (Some (value.Int (pos 7))) false ∷ []) None [] [] [] rows) ∷ [])

-- one row with a null in `id`, and one without a null
abbrev null_found : Catalogue
null_found = with_nulls false ((one ∷ one ∷ one ∷ []) ∷ (value.Null ∷ two ∷ two ∷ []) ∷ [])

-- a column that is made NOT NULL, or made so by a key, or new with this default
abbrev forbids_null : Name → List Statement
forbids_null n = AddPrimaryKey another (key_on (codes "k") (at ∷ n ∷ [])) ∷ []

abbrev new_column : Option Literal → Statement
new_column default = AddColumn another (record (def up kind.Int default) { nullable = false })

-- what gives `code` and `at` values
abbrev writes : Name → Literal → List Statement
writes n l = Insert another (code ∷ n ∷ []) (number (pos 3) ∷ l ∷ []) ∷ Update another ((n, l) ∷ []) None ∷ []

pub nulls_found :
    Are (Some NullFound) User Postgresql null_found (SetNotNull another id ∷ forbids_null id)
    × Are (Some NullFound) User Mysql null_found (Modify another id kind.Int false ∷ Modify another id kind.BigInt false ∷ forbids_null id)
    × Are None User Postgresql null_found (SetNotNull another code ∷ forbids_null code)
    × Are None User Mysql null_found (Modify another id kind.Int true ∷ Modify another code kind.Int false ∷ forbids_null code)
    × Are (Some NullFound) User Postgresql null_found (new_column None ∷ new_column (Some literal.Null) ∷ [])
    × Are (Some NullFound) User Mysql null_found (new_column None ∷ [])
    × Are None User Postgresql null_found (new_column (Some (number (pos 1))) ∷ AddColumn another (def up kind.Int None) ∷ [])
    × Are None User Postgresql (with_nulls false []) (new_column None ∷ new_column (Some literal.Null) ∷ SetNotNull another id ∷ forbids_null id)
    × Are (Some NullFound) User Postgresql null_found (writes at literal.Null)
    × Are (Some NullFound) User Mysql null_found (writes at literal.Null)
    × Are None User Postgresql null_found (Insert another (code ∷ []) (number (pos 3) ∷ []) ∷ writes at (number (pos 3)))
    × Are (Some NullFound) User Postgresql null_found (Insert another (id ∷ []) (number (pos 3) ∷ []) ∷ Update another ((code, literal.Null) ∷ []) (where_id (pos 1)) ∷ [])
    × Are None User Postgresql null_found (Update another ((code, literal.Null) ∷ []) (where_id (pos 9)) ∷ [])
unfolding decide into_kind is_value_of
nulls_found = (refl, refl, refl, refl, refl, refl, refl, refl, refl, refl, refl, refl, refl)

-- a null that is stated for a numbered column is no next number
pub numbered_null :
    Are (Some NullFound) User Mysql (of_tables ((another, table (column id kind.Int false None true ∷ []) (Some (key_on (codes "PRIMARY") (id ∷ []))) [] [] [] []) ∷ [])) (Insert another [] (literal.Null ∷ []) ∷ [])
unfolding decide into_kind
numbered_null = refl

-- what keeps the pair of `id` and `code` apart
abbrev kept_apart : Option Key → List Unique → List Index → List (List Value) → Catalogue
kept_apart key uniques indexes rows = of_tables ((another, table (plain id kind.Int ∷ plain code kind.Int ∷ []) key uniques [] indexes rows) ∷ [])

abbrev both : List Name
both = id ∷ code ∷ []

-- rows that differ in `code`
abbrev differing : List (List Value)
differing = (one ∷ one ∷ []) ∷ (one ∷ two ∷ []) ∷ []

abbrev gives_twin : List Statement
gives_twin = Insert another [] (number (pos 1) ∷ number (pos 2) ∷ []) ∷ Update another ((code, number (pos 2)) ∷ []) None ∷ []

abbrev gives_none : List Statement
gives_none = Insert another [] (number (pos 2) ∷ number (pos 2) ∷ []) ∷ Update another ((id, number (pos 9)) ∷ []) None ∷ []

abbrev Apart : Option Key → List Unique → List Index → Type 0
Apart key uniques indexes =
    Are (Some Duplicate) User Postgresql (kept_apart key uniques indexes differing) gives_twin
    × Are (Some Duplicate) User Mysql (kept_apart key uniques indexes differing) gives_twin
    × Are None User Postgresql (kept_apart key uniques indexes differing) gives_none

-- equal in all columns of one list; under an index that is not unique two rows may be equal
pub twins_written :
    Apart (Some (key_on (codes "PRIMARY") both)) [] []
    × Apart None (unique_on (codes "u") both ∷ []) []
    × Apart None [] (index_on (codes "i") both true ∷ [])
    × Apart None (unique_on (codes "v") (code ∷ id ∷ []) ∷ unique_on (codes "u") both ∷ []) []
    × Are None User Postgresql (kept_apart None [] (index_on (codes "i") both false ∷ []) differing) gives_twin
unfolding decide into_kind
twins_written = ((refl, refl, refl), (refl, refl, refl), (refl, refl, refl), (refl, refl, refl), refl)

-- what would keep rows apart that are there
abbrev sets_apart : List Name → List Statement
sets_apart ns = AddPrimaryKey another (key_on (codes "k") ns) ∷ AddUnique another (unique_on (codes "u") ns) ∷ CreateIndex another (index_on (codes "i") ns true) ∷ []

-- a null is equal to nothing, beside an equal value too
abbrev unknown : List (List Value)
unknown = (one ∷ value.Null ∷ []) ∷ (one ∷ value.Null ∷ []) ∷ []

pub twins_found :
    Are (Some Duplicate) User Postgresql (kept_apart None [] [] differing) (sets_apart (id ∷ []))
    × Are (Some Duplicate) User Mysql (kept_apart None [] [] differing) (sets_apart (id ∷ []))
    × Are None User Postgresql (kept_apart None [] [] differing) (CreateIndex another (index_on (codes "i") (id ∷ []) false) ∷ sets_apart (code ∷ id ∷ []))
    × Are None User Postgresql (kept_apart None [] [] unknown) (AddUnique another (unique_on (codes "u") both) ∷ CreateIndex another (index_on (codes "i") both true) ∷ [])
    × Are None User Postgresql (kept_apart None (unique_on (codes "u") both ∷ []) [] unknown) (Insert another [] (number (pos 1) ∷ literal.Null ∷ []) ∷ [])
    × Are (Some Duplicate) User Postgresql (kept_apart None (unique_on (codes "u") both ∷ []) [] unknown) (Update another ((code, number (pos 1)) ∷ []) None ∷ [])
unfolding decide into_kind
twins_found = (refl, refl, refl, refl, refl, refl)

-- equal as values: whole numbers, decimals of one scale, texts by their bytes, truth values, moments
abbrev pair_of : Value → Value → List (List Value)
pair_of x y = (x ∷ []) ∷ (y ∷ []) ∷ []

abbrev unique_of : Kind → List (List Value) → Catalogue
unique_of k rows = of_tables ((another, table (plain id k ∷ []) None [] [] [] rows) ∷ [])

abbrev added : List Statement
added = AddUnique another (unique_on (codes "u") (id ∷ [])) ∷ []

pub equal_values :
    Are (Some Duplicate) User Postgresql (unique_of kind.Text (pair_of (value.Text (codes "a")) (value.Text (codes "a")))) added
    × Are (Some Duplicate) User Postgresql (unique_of kind.Boolean (pair_of (value.Bool false) (value.Bool false))) added
    × Are (Some Duplicate) User Postgresql (unique_of kind.Moment (pair_of (value.Moment (pos 5)) (value.Moment (pos 5)))) added
    × Are (Some Duplicate) User Postgresql (unique_of (kind.Decimal 5 1) (pair_of (value.Fixed (pos 15) 1) (value.Fixed (pos 15) 1))) added
    × Are None User Postgresql (unique_of kind.Text (pair_of (value.Text (codes "a")) (value.Text (codes "A")))) added
    × Are None User Postgresql (unique_of kind.Boolean (pair_of (value.Bool false) (value.Bool true))) added
    × Are None User Postgresql (unique_of kind.Moment (pair_of (value.Moment (pos 5)) (value.Moment (pos 6)))) added
    × Are None User Postgresql (unique_of (kind.Decimal 5 1) (pair_of (value.Fixed (pos 15) 1) (value.Fixed (pos 16) 1))) added
unfolding decide
equal_values = (refl, refl, refl, refl, refl, refl, refl, refl)
