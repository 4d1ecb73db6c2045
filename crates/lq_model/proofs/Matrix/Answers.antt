-- Worked examples: what a query of a table and of a view is answered, and where what it is refused for stands together with something else.
use Rattle.std.specs.Prelude.{Err, None, Ok, Option, Some, [], codes, pos, refl, true, ℤ, ◌∷◌, ◌≡◌}
use Rattle.lq_base.specs.declared.kind.Kind.TheVariants as kind
use Rattle.lq_base.specs.declared.literal.Literal.TheVariants as literal
use Rattle.lq_base.specs.declared.reason.Reason.TheVariants.{Missing, Reserved, WrongKind}
use Rattle.lq_base.specs.declared.value.Value.{Value}
use Rattle.lq_base.specs.declared.value.Value.TheVariants as value
use Rattle.lq_model.specs.Catalogue.{Catalogue}
use Rattle.lq_model.specs.Views.{answer}
use Rattle.lq_model.specs.declared.caller.By.TheVariants.{Program, User}
use Rattle.lq_model.specs.declared.query.Wanted.TheVariants as wanted
use Rattle.lq_model.specs.declared.test.Op.TheVariants.{Eq, Ge, Gt}
use Rattle.lq_model.specs.declared.test.Operand.TheVariants as operand
use Rattle.lq_model.specs.declared.test.Test.{Compare, IsNull, Test}
use Rattle.lq_model.proofs.ExampleWorld.{another, at, code, id, none, number, view}
use Rattle.lq_model.proofs.Matrix.Tables.{of_tables, plain, query_of, table}

abbrev i : ℤ → Value
i = value.Int

-- rows of `id`, `code` and `at`; the view shows `at` and `id`, in this order, of the rows with a `code` of 2 at least
abbrev shown : Catalogue
shown = record (of_tables ((another, table (plain id kind.Int ∷ plain code kind.Int ∷ plain at kind.Int ∷ []) None [] [] [] ((i (pos 3) ∷ i (pos 1) ∷ i (pos 30) ∷ []) ∷ (i (pos 1) ∷ i (pos 2) ∷ value.Null ∷ []) ∷ (i (pos 2) ∷ i (pos 3) ∷ i (pos 20) ∷ []) ∷ (i (pos 4) ∷ value.Null ∷ i (pos 40) ∷ []) ∷ [])) ∷ [])) {
  views = (view, record { query = query_of (wanted.Columns (at ∷ id ∷ [])) another (Some (Compare Ge (operand.Column code) (operand.Literal (number (pos 2))))); columns = at ∷ id ∷ [] }) ∷ [];
}

abbrev over_one : Option Test
over_one = Some (Compare Gt (operand.Column id) (operand.Literal (number (pos 1))))

-- rows in the table's order, with all columns, with those listed in the list's order, or counted
pub tables_answered :
    (answer User (query_of wanted.All another over_one) shown ≡ Ok (record { columns = 3; rows = (i (pos 3) ∷ i (pos 1) ∷ i (pos 30) ∷ []) ∷ (i (pos 2) ∷ i (pos 3) ∷ i (pos 20) ∷ []) ∷ (i (pos 4) ∷ value.Null ∷ i (pos 40) ∷ []) ∷ [] }))
    × (answer User (query_of (wanted.Columns (at ∷ id ∷ at ∷ [])) another (Some (IsNull (operand.Column at)))) shown ≡ Ok (record { columns = 3; rows = (value.Null ∷ i (pos 1) ∷ value.Null ∷ []) ∷ [] }))
    × (answer User (query_of wanted.Count another None) shown ≡ Ok (record { columns = 1; rows = (i (pos 4) ∷ []) ∷ [] }))
    × (answer User (query_of wanted.Count another (Some (Compare Eq (operand.Column at) (operand.Literal literal.Null)))) shown ≡ Ok (record { columns = 1; rows = (i (pos 0) ∷ []) ∷ [] }))
    × (answer Program (query_of wanted.All another (Some (Compare Eq (operand.Column id) (operand.Literal (number (pos 9)))))) shown ≡ Ok (record { columns = 3; rows = [] }))
tables_answered = (refl, refl, refl, refl, refl)

-- a view's own rows and columns, in its own order, before what the query asks of them
pub views_answered :
    (answer User (query_of wanted.All view None) shown ≡ Ok (record { columns = 2; rows = (value.Null ∷ i (pos 1) ∷ []) ∷ (i (pos 20) ∷ i (pos 2) ∷ []) ∷ [] }))
    × (answer User (query_of (wanted.Columns (id ∷ [])) view over_one) shown ≡ Ok (record { columns = 1; rows = (i (pos 2) ∷ []) ∷ [] }))
    × (answer User (query_of wanted.Count view None) shown ≡ Ok (record { columns = 1; rows = (i (pos 2) ∷ []) ∷ [] }))
    × (answer User (query_of wanted.Count view over_one) shown ≡ Ok (record { columns = 1; rows = (i (pos 1) ∷ []) ∷ [] }))
views_answered = (refl, refl, refl, refl)

-- a test that compares what may not be compared
abbrev wrong : Option Test
wrong = Some (Compare Eq (operand.Column id) (operand.Literal (literal.Bool true)))

-- the earlier reason is told: a reserved name, then what is missing, then the kinds
pub refused_in_order :
    (answer User (query_of (wanted.Columns (none ∷ [])) (codes "DATABASECHANGELOG") wrong) shown ≡ Err Reserved)
    × (answer Program (query_of (wanted.Columns (none ∷ [])) (codes "DATABASECHANGELOG") wrong) shown ≡ Err Missing)
    × (answer User (query_of (wanted.Columns (none ∷ [])) another wrong) shown ≡ Err Missing)
    × (answer User (query_of wanted.Count another wrong) shown ≡ Err WrongKind)
    × (answer User (query_of wanted.All view wrong) shown ≡ Err WrongKind)
refused_in_order = (refl, refl, refl, refl, refl)
