-- Worked examples: the whole table after rows are inserted or updated, and how many rows were changed.
use Rattle.std.specs.Prelude.{List, None, Ok, Some, [], codes, false, neg_ℤ, pos, refl, true, ℕ, ℤ, ◌∷◌, ◌≡◌}
use Rattle.lq_base.specs.Number.{number_of}
use Rattle.lq_base.specs.Value.{into_kind}
use Rattle.lq_base.specs.declared.dialect.Dialect.TheVariants.{Mysql, Postgresql}
use Rattle.lq_base.specs.declared.kind.Kind.TheVariants as kind
use Rattle.lq_base.specs.declared.literal.Literal.{Literal}
use Rattle.lq_base.specs.declared.literal.Literal.TheVariants as literal
use Rattle.lq_base.specs.declared.value.Value.{Value}
use Rattle.lq_base.specs.declared.value.Value.TheVariants as value
use Rattle.lq_model.specs.Catalogue.{Catalogue}
use Rattle.lq_model.specs.Plan.{decide}
use Rattle.lq_model.specs.Step.{run}
use Rattle.lq_model.specs.declared.caller.By.TheVariants.{User}
use Rattle.lq_model.specs.declared.statement.Statement.{Statement}
use Rattle.lq_model.specs.declared.statement.Statement.TheVariants.{Insert, Update}
use Rattle.lq_model.specs.declared.test.Op.TheVariants.{Eq, Ne}
use Rattle.lq_model.specs.declared.test.Operand.TheVariants as operand
use Rattle.lq_model.specs.declared.test.Test.{Compare, IsNull}
use Rattle.lq_model.proofs.ExampleWorld.{another, at, code, column, id, key_on, number, text, up, where_id}
use Rattle.lq_model.proofs.Matrix.Tables.{Gives, of_tables, plain, table}

-- `id` is numbered, `code` has the default 9, `at` has the default null, `up` has none
abbrev counting : ℕ → List (List Value) → Catalogue
counting next rows = of_tables ((another, record (table (column id kind.BigInt false None true ∷ column code kind.Int true (Some (value.Int (pos 9))) false ∷ column at kind.Text true (Some value.Null) false ∷ plain up kind.Int ∷ []) (Some (key_on (codes "PRIMARY") (id ∷ []))) [] [] [] rows) { next = next }) ∷ [])

abbrev i : ℤ → Value
i = value.Int

abbrev row : Value → Value → Value → Value → List Value
row a b c d = a ∷ b ∷ c ∷ d ∷ []

abbrev first : List Value
first = row (i (pos 4)) (i (pos 1)) value.Null value.Null

abbrev begun : Catalogue
begun = counting 5 (first ∷ [])

abbrev after : ℕ → List Value → Catalogue
after next r = counting next (first ∷ r ∷ [])

-- a missing column takes its default, or the next number, or null; the values stand in the order of the table's columns, the row at the end
pub inserted :
    Gives Postgresql begun (Insert another (up ∷ []) (number (pos 2) ∷ [])) (after 6 (row (i (pos 5)) (i (pos 9)) value.Null (i (pos 2)))) 1
    × Gives Mysql begun (Insert another (up ∷ []) (number (pos 2) ∷ [])) (after 6 (row (i (pos 5)) (i (pos 9)) value.Null (i (pos 2)))) 1
    × Gives Postgresql begun (Insert another (up ∷ at ∷ code ∷ []) (text (codes "3") ∷ text (codes "x") ∷ literal.Null ∷ [])) (after 6 (row (i (pos 5)) value.Null (value.Text (codes "x")) (i (pos 3)))) 1
    × Gives Postgresql (counting 1 []) (Insert another (at ∷ []) (literal.Null ∷ [])) (counting 2 (row (i (pos 1)) (i (pos 9)) value.Null value.Null ∷ [])) 1
    × Gives Postgresql begun (Insert another [] (number (pos 8) ∷ number (pos 1) ∷ text (codes "x") ∷ number (pos 2) ∷ [])) (after 5 (row (i (pos 8)) (i (pos 1)) (value.Text (codes "x")) (i (pos 2)))) 1
unfolding decide into_kind number_of
inserted = (refl, refl, refl, refl, refl)

-- a stated number leaves the next one under PostgreSQL, and makes it at least one more under MySQL, whether it is stated as a number or as a text
abbrev stated : Literal → Statement
stated l = Insert another (id ∷ []) (l ∷ [])

abbrev with_id : ℤ → List Value
with_id n = row (i n) (i (pos 9)) value.Null value.Null

pub numbers_stated :
    Gives Postgresql begun (stated (number (pos 7))) (after 5 (with_id (pos 7))) 1
    × Gives Mysql begun (stated (number (pos 7))) (after 8 (with_id (pos 7))) 1
    × Gives Postgresql begun (stated (number (pos 5))) (after 5 (with_id (pos 5))) 1
    × Gives Mysql begun (stated (number (pos 5))) (after 6 (with_id (pos 5))) 1
    × Gives Mysql begun (stated (number (pos 3))) (after 5 (with_id (pos 3))) 1
    × Gives Mysql begun (stated (number (neg_ℤ (pos 7)))) (after 5 (with_id (neg_ℤ (pos 7)))) 1
    × Gives Mysql begun (stated (text (codes "7"))) (after 8 (with_id (pos 7))) 1
    × Gives Postgresql begun (stated (text (codes "7"))) (after 5 (with_id (pos 7))) 1
    × Gives Mysql begun (stated (number (pos 9223372036854775807))) (after 9223372036854775808 (with_id (pos 9223372036854775807))) 1
unfolding decide into_kind number_of
numbers_stated = (refl, refl, refl, refl, refl, refl, refl, refl, refl)

-- a table without a numbered column keeps its next number
pub unnumbered_insert :
    Gives Mysql (of_tables ((another, table (plain id kind.Int ∷ []) None [] [] [] []) ∷ [])) (Insert another [] (number (pos 7) ∷ [])) (of_tables ((another, table (plain id kind.Int ∷ []) None [] [] [] ((i (pos 7) ∷ []) ∷ [])) ∷ [])) 1
unfolding decide into_kind
unnumbered_insert = refl

-- three rows, one with a null in `code`
abbrev three : Value → Value → Value → Catalogue
three x y z = counting 5 (row (i (pos 1)) x value.Null (i (pos 10)) ∷ row (i (pos 2)) y value.Null (i (pos 20)) ∷ row (i (pos 3)) z value.Null (i (pos 30)) ∷ [])

abbrev mixed : Catalogue
mixed = three (i (pos 1)) value.Null (i (pos 1))

-- the rows that the test takes are changed in their places and counted, whether their values differ or not; the others, and the next number, stay
pub updated :
    Gives Postgresql mixed (Update another ((code, text (codes "7")) ∷ []) None) (three (i (pos 7)) (i (pos 7)) (i (pos 7))) 3
    × Gives Postgresql mixed (Update another ((code, number (pos 7)) ∷ []) (where_id (pos 2))) (three (i (pos 1)) (i (pos 7)) (i (pos 1))) 1
    × Gives Postgresql mixed (Update another ((code, number (pos 1)) ∷ []) (where_id (pos 3))) mixed 1
    × Gives Postgresql mixed (Update another ((code, number (pos 7)) ∷ []) (where_id (pos 9))) mixed 0
    × Gives Postgresql mixed (Update another ((code, literal.Null) ∷ []) (Some (Compare Eq (operand.Column code) (operand.Literal (number (pos 1)))))) (three value.Null value.Null value.Null) 2
    × Gives Postgresql mixed (Update another ((code, number (pos 7)) ∷ []) (Some (Compare Ne (operand.Column code) (operand.Literal (number (pos 1)))))) mixed 0
    × Gives Postgresql mixed (Update another ((code, number (pos 7)) ∷ []) (Some (IsNull (operand.Column code)))) (three (i (pos 1)) (i (pos 7)) (i (pos 1))) 1
    × Gives Mysql mixed (Update another ((up, number (pos 6)) ∷ (id, number (pos 8)) ∷ []) (where_id (pos 2))) (counting 5 (row (i (pos 1)) (i (pos 1)) value.Null (i (pos 10)) ∷ row (i (pos 8)) value.Null value.Null (i (pos 6)) ∷ row (i (pos 3)) (i (pos 1)) value.Null (i (pos 30)) ∷ [])) 1
unfolding decide into_kind number_of
updated = (refl, refl, refl, refl, refl, refl, refl, refl)

-- statements in order, each on what the one before left
pub in_order :
    (run User Mysql (stated (number (pos 7)) ∷ Insert another (code ∷ []) (number (pos 1) ∷ []) ∷ Update another ((up, number (pos 6)) ∷ []) (where_id (pos 8)) ∷ []) begun
    ≡ Ok (counting 9 (first ∷ with_id (pos 7) ∷ row (i (pos 8)) (i (pos 1)) value.Null (i (pos 6)) ∷ [])))
unfolding decide into_kind
in_order = refl
