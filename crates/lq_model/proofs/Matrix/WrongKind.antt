-- Worked examples: a literal that is of no kind of its column's, kinds or numbers of columns that differ, a count in a view, a row's value that a new kind does not have, a numbered column of another kind than a number's.
use Rattle.std.specs.List.{flat_map}
use Rattle.std.specs.Prelude.{List, None, Some, [], codes, false, map, pos, refl, true, ◌++◌, ◌∷◌}
use Rattle.lq_base.specs.Moment.{moment_of}
use Rattle.lq_base.specs.Number.{number_of}
use Rattle.lq_base.specs.Value.{into_kind, is_value_of}
use Rattle.lq_base.specs.declared.dialect.Dialect.TheVariants.{Mysql, Postgresql}
use Rattle.lq_base.specs.declared.kind.Kind.{Kind}
use Rattle.lq_base.specs.declared.kind.Kind.TheVariants as kind
use Rattle.lq_base.specs.declared.literal.Literal.{Literal}
use Rattle.lq_base.specs.declared.literal.Literal.TheVariants as literal
use Rattle.lq_base.specs.declared.name.Name.{Name}
use Rattle.lq_base.specs.declared.reason.Reason.TheVariants.{WrongKind}
use Rattle.lq_base.specs.declared.value.Value.{Value}
use Rattle.lq_base.specs.declared.value.Value.TheVariants as value
use Rattle.lq_model.specs.Catalogue.{Catalogue}
use Rattle.lq_model.specs.Plan.{decide}
use Rattle.lq_model.specs.declared.caller.By.TheVariants.{User}
use Rattle.lq_model.specs.declared.query.Wanted.TheVariants as wanted
use Rattle.lq_model.specs.declared.statement.Statement.{Statement}
use Rattle.lq_model.specs.declared.statement.Statement.TheVariants.{AddColumn, AddForeignKey, CreateTable, CreateView, Insert, Modify, SetDefault, Update}
use Rattle.lq_model.proofs.ExampleWorld.{another, at, code, def, foreign_to, id, key_on, number, numbered_def, parent, text, unique_on, up, view, where_id}
use Rattle.lq_model.proofs.Matrix.Tables.{Are, fresh, of_tables, plain, query_of, table}

-- a table with a column of this kind
abbrev with_kind : Kind → Catalogue
with_kind k = of_tables ((another, table (plain id k ∷ plain code kind.Text ∷ []) None [] [] [] []) ∷ [])

-- what takes a literal as that kind: two defaults, a default that is set, a row, a change of no row
abbrev takes_literal : Kind → Literal → List Statement
takes_literal k l =
    CreateTable fresh (def code kind.Text None ∷ def id k (Some l) ∷ []) None [] []
    ∷ AddColumn another (def at k (Some l))
    ∷ SetDefault another id l
    ∷ Insert another (code ∷ id ∷ []) (literal.Null ∷ l ∷ [])
    ∷ Insert another [] (l ∷ literal.Null ∷ [])
    ∷ Update another ((code, literal.Null) ∷ (id, l) ∷ []) None
    ∷ []

abbrev Refuses : Kind → List Literal → Type 0
Refuses k ls =
    Are (Some WrongKind) User Postgresql (with_kind k) (flat_map (takes_literal k) ls)
    × Are (Some WrongKind) User Mysql (with_kind k) (flat_map (takes_literal k) ls)

abbrev Accepts : Kind → List Literal → Type 0
Accepts k ls =
    Are None User Postgresql (with_kind k) (flat_map (takes_literal k) ls)
    × Are None User Mysql (with_kind k) (flat_map (takes_literal k) ls)

pub literals_refused :
    Refuses kind.Int (literal.Bool true ∷ literal.Fixed (pos 15) 1 ∷ text (codes "one") ∷ text (codes "1.5") ∷ [])
    × Refuses kind.BigInt (literal.Bool false ∷ literal.Fixed (pos 10) 1 ∷ [])
    × Refuses kind.Boolean (number (pos 2) ∷ literal.Fixed (pos 10) 1 ∷ text (codes "yes") ∷ [])
    × Refuses kind.Text (number (pos 1) ∷ literal.Bool true ∷ literal.Fixed (pos 15) 1 ∷ [])
    × Refuses (kind.Varchar 10) (number (pos 1) ∷ literal.Bool true ∷ literal.Fixed (pos 15) 1 ∷ [])
    × Refuses (kind.Decimal 5 2) (literal.Bool true ∷ text (codes "one") ∷ [])
    × Refuses kind.Moment (text (codes "2019-02-29") ∷ number (pos 1) ∷ literal.Bool true ∷ literal.Fixed (pos 15) 1 ∷ [])
unfolding decide into_kind moment_of number_of
literals_refused = ((refl, refl), (refl, refl), (refl, refl), (refl, refl), (refl, refl), (refl, refl), (refl, refl))

pub literals_accepted :
    Accepts kind.Int (text (codes "1") ∷ number (pos 1) ∷ literal.Null ∷ [])
    × Accepts kind.BigInt (number (pos 1) ∷ literal.Null ∷ [])
    × Accepts kind.Boolean (literal.Bool true ∷ number (pos 0) ∷ number (pos 1) ∷ text (codes "TRUE") ∷ literal.Null ∷ [])
    × Accepts kind.Text (text (codes "1") ∷ literal.Null ∷ [])
    × Accepts (kind.Decimal 5 2) (text (codes "1.5") ∷ number (pos 1) ∷ literal.Fixed (pos 15) 1 ∷ literal.Null ∷ [])
    × Accepts kind.Moment (text (codes "2020-02-29") ∷ literal.Null ∷ [])
unfolding decide into_kind moment_of number_of
literals_accepted = ((refl, refl), (refl, refl), (refl, refl), (refl, refl), (refl, refl), (refl, refl))

-- as many values as columns: those that are named, else all
abbrev insertions : List Name → List Literal → List Statement
insertions ns ls = Insert another ns ls ∷ []

pub numbers_of_values :
    Are (Some WrongKind) User Postgresql (with_kind kind.Int) (
    insertions (id ∷ code ∷ []) (number (pos 1) ∷ [])
    ++ insertions (id ∷ []) (number (pos 1) ∷ literal.Null ∷ [])
    ++ insertions [] (number (pos 1) ∷ [])
    ++ insertions [] (number (pos 1) ∷ literal.Null ∷ literal.Null ∷ []))
    × Are None User Postgresql (with_kind kind.Int) (insertions (id ∷ []) (number (pos 1) ∷ []) ++ insertions [] (number (pos 1) ∷ literal.Null ∷ []))
    × Are (Some WrongKind) User Mysql (with_kind kind.Int) (insertions (id ∷ code ∷ []) (number (pos 1) ∷ []) ++ insertions [] (number (pos 1) ∷ []))
unfolding decide into_kind
numbers_of_values = (refl, refl, refl)

-- a foreign key and its targets: other kinds in one place, another length or scale, another number of columns
abbrev two_columns : Kind → Kind → Catalogue
two_columns k l = of_tables (
    (another, table (plain id k ∷ plain code l ∷ []) None [] [] [] [])
    ∷ (parent, table (plain at kind.Int ∷ plain up (kind.Varchar 10) ∷ []) (Some (key_on (codes "PRIMARY") (at ∷ up ∷ []))) (unique_on (codes "uq") (at ∷ []) ∷ []) [] [] [])
    ∷ [])

abbrev aims : Kind → Kind → List Name → List Name → List Statement
aims k l ns targets =
    AddForeignKey another (foreign_to (codes "fk") ns parent targets false)
    ∷ CreateTable fresh (def id k None ∷ def code l None ∷ []) None [] (foreign_to (codes "fk") ns parent targets false ∷ [])
    ∷ []

abbrev whole : Kind → Kind → List Statement
whole k l = aims k l (id ∷ code ∷ []) (at ∷ up ∷ [])

pub kinds_of_foreign_keys :
    Are None User Postgresql (two_columns kind.Int (kind.Varchar 10)) (whole kind.Int (kind.Varchar 10))
    × Are (Some WrongKind) User Postgresql (two_columns kind.BigInt (kind.Varchar 10)) (whole kind.BigInt (kind.Varchar 10))
    × Are (Some WrongKind) User Postgresql (two_columns kind.Int (kind.Varchar 20)) (whole kind.Int (kind.Varchar 20))
    × Are (Some WrongKind) User Postgresql (two_columns kind.Int kind.Text) (whole kind.Int kind.Text)
    × Are (Some WrongKind) User Postgresql (two_columns kind.Int (kind.Varchar 10)) (aims kind.Int (kind.Varchar 10) (code ∷ id ∷ []) (at ∷ up ∷ []))
    × Are (Some WrongKind) User Postgresql (two_columns kind.Int (kind.Varchar 10)) (aims kind.Int (kind.Varchar 10) (id ∷ code ∷ []) (at ∷ []))
    × Are (Some WrongKind) User Postgresql (two_columns kind.Int (kind.Varchar 10)) (aims kind.Int (kind.Varchar 10) (id ∷ []) (at ∷ up ∷ []))
    × Are None User Mysql (two_columns kind.Int (kind.Varchar 10)) (whole kind.Int (kind.Varchar 10))
    × Are (Some WrongKind) User Mysql (two_columns kind.Int (kind.Varchar 20)) (whole kind.Int (kind.Varchar 20))
    × Are (Some WrongKind) User Mysql (two_columns kind.Int (kind.Varchar 10)) (aims kind.Int (kind.Varchar 10) (id ∷ code ∷ []) (at ∷ []))
unfolding decide into_kind
kinds_of_foreign_keys = (refl, refl, refl, refl, refl, refl, refl, refl, refl, refl)

-- a new table's own targets
pub kinds_of_its_own :
    Are (Some WrongKind) User Postgresql (of_tables []) (CreateTable fresh (def id kind.Int None ∷ def code kind.Text None ∷ []) (Some (key_on (codes "k") (id ∷ []))) [] (foreign_to (codes "f") (code ∷ []) fresh (id ∷ []) false ∷ []) ∷ [])
unfolding decide into_kind
kinds_of_its_own = refl

-- COUNT in a view, made or replaced
abbrev counted : Catalogue
counted = record (with_kind kind.Int) { views = (view, record { query = query_of (wanted.Columns (id ∷ [])) another None; columns = id ∷ [] }) ∷ [] }

pub views_count_nothing :
    Are (Some WrongKind) User Postgresql counted (CreateView fresh (query_of wanted.Count another None) false ∷ CreateView view (query_of wanted.Count another (where_id (pos 1))) true ∷ [])
    × Are (Some WrongKind) User Mysql counted (CreateView fresh (query_of wanted.Count another None) false ∷ [])
unfolding decide into_kind
views_count_nothing = (refl, refl)

-- a row's value of another sort or scale than the new kind's; null goes into each kind
abbrev holds : Kind → List Value → Catalogue
holds k vs = of_tables ((another, table (plain code kind.Text ∷ plain id k ∷ []) None [] [] [] (map (λ v. value.Null ∷ v ∷ []) vs)) ∷ [])

abbrev becomes : Kind → Statement
becomes k = Modify another id k true

pub values_of_other_kinds :
    Are (Some WrongKind) User Mysql (holds kind.Int (value.Null ∷ value.Int (pos 1) ∷ [])) (map becomes (kind.Boolean ∷ kind.Text ∷ kind.Varchar 10 ∷ kind.Moment ∷ kind.Decimal 5 0 ∷ []))
    × Are (Some WrongKind) User Mysql (holds kind.Boolean (value.Bool true ∷ [])) (map becomes (kind.Int ∷ kind.BigInt ∷ kind.Text ∷ kind.Varchar 10 ∷ kind.Moment ∷ kind.Decimal 5 0 ∷ []))
    × Are (Some WrongKind) User Mysql (holds kind.Text (value.Text (codes "1") ∷ [])) (map becomes (kind.Int ∷ kind.BigInt ∷ kind.Boolean ∷ kind.Moment ∷ kind.Decimal 5 0 ∷ []))
    × Are (Some WrongKind) User Mysql (holds kind.Moment (value.Moment (pos 0) ∷ [])) (map becomes (kind.Int ∷ kind.BigInt ∷ kind.Boolean ∷ kind.Text ∷ kind.Varchar 10 ∷ kind.Decimal 5 0 ∷ []))
    × Are (Some WrongKind) User Mysql (holds (kind.Decimal 5 2) (value.Fixed (pos 150) 2 ∷ [])) (map becomes (kind.Int ∷ kind.BigInt ∷ kind.Boolean ∷ kind.Text ∷ kind.Varchar 10 ∷ kind.Moment ∷ kind.Decimal 5 1 ∷ kind.Decimal 5 3 ∷ []))
    × Are None User Mysql (holds kind.Int (value.Null ∷ [])) (map becomes (kind.Int ∷ kind.BigInt ∷ kind.Boolean ∷ kind.Text ∷ kind.Varchar 10 ∷ kind.Moment ∷ kind.Decimal 5 0 ∷ []))
    × Are None User Mysql (holds kind.Int (value.Int (pos 1) ∷ [])) (map becomes (kind.Int ∷ kind.BigInt ∷ []))
    × Are None User Mysql (holds (kind.Decimal 5 2) (value.Fixed (pos 150) 2 ∷ [])) (map becomes (kind.Decimal 3 2 ∷ kind.Decimal 8 2 ∷ []))
unfolding decide is_value_of
values_of_other_kinds = (refl, refl, refl, refl, refl, refl, refl, refl)

-- a numbered column, the only one of its key
abbrev numbered_of : Kind → Statement
numbered_of k = CreateTable fresh (numbered_def id k None ∷ []) (Some (key_on (codes "k") (id ∷ []))) [] []

pub numbered_kinds :
    Are (Some WrongKind) User Postgresql (of_tables []) (map numbered_of (kind.Boolean ∷ kind.Text ∷ kind.Varchar 10 ∷ kind.Moment ∷ kind.Decimal 5 0 ∷ []))
    × Are None User Postgresql (of_tables []) (map numbered_of (kind.Int ∷ kind.BigInt ∷ []))
    × Are (Some WrongKind) User Mysql (of_tables []) (map numbered_of (kind.Text ∷ kind.Decimal 5 0 ∷ []))
    × Are None User Mysql (of_tables []) (map numbered_of (kind.Int ∷ kind.BigInt ∷ []))
unfolding decide into_kind
numbered_kinds = (refl, refl, refl, refl)
