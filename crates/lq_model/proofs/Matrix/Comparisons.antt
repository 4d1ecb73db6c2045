-- Worked examples: which comparisons are WrongKind, in each statement that has a test and in a query, at whatever depth of the test.
use Rattle.std.specs.List.{flat_map}
use Rattle.std.specs.Prelude.{Bool, Err, List, None, Some, [], codes, map, pos, refl, false, true, ◌∷◌, ◌≡◌}
use Rattle.lq_base.specs.Moment.{moment_of}
use Rattle.lq_base.specs.Value.{into_kind}
use Rattle.lq_base.specs.declared.dialect.Dialect.TheVariants.{Mysql, Postgresql}
use Rattle.lq_base.specs.declared.kind.Kind.TheVariants as kind
use Rattle.lq_base.specs.declared.literal.Literal.TheVariants as literal
use Rattle.lq_base.specs.declared.reason.Reason.TheVariants.{WrongKind}
use Rattle.lq_model.specs.Catalogue.{Catalogue}
use Rattle.lq_model.specs.Comparison.{compares_wrongly}
use Rattle.lq_model.specs.Plan.{decide}
use Rattle.lq_model.specs.Views.{answer}
use Rattle.lq_model.specs.declared.caller.By.TheVariants.{User}
use Rattle.lq_model.specs.declared.column.Column.{Column}
use Rattle.lq_model.specs.declared.query.Wanted.TheVariants as wanted
use Rattle.lq_model.specs.declared.statement.Statement.{Statement}
use Rattle.lq_model.specs.declared.statement.Statement.TheVariants.{CreateView, Delete, Update}
use Rattle.lq_model.specs.declared.test.Op.TheVariants.{Eq, Ge, Lt, Ne}
use Rattle.lq_model.specs.declared.test.Operand.{Operand}
use Rattle.lq_model.specs.declared.test.Operand.TheVariants as operand
use Rattle.lq_model.specs.declared.test.Test.{And, Compare, IsNull, Not, NotNull, Or, Test}
use Rattle.lq_model.proofs.ExampleWorld.{another, number, text, view}
use Rattle.lq_model.proofs.Matrix.Tables.{Are, fresh, of_tables, plain, query_of, table}

-- a column of each kind, by its first letter
abbrev columns : List Column
columns =
    plain (codes "i") kind.Int ∷ plain (codes "l") kind.BigInt ∷ plain (codes "d") (kind.Decimal 5 2)
    ∷ plain (codes "b") kind.Boolean ∷ plain (codes "v") (kind.Varchar 10) ∷ plain (codes "t") kind.Text ∷ plain (codes "m") kind.Moment ∷ []

abbrev i : Operand
i = operand.Column (codes "i")

abbrev l : Operand
l = operand.Column (codes "l")

abbrev d : Operand
d = operand.Column (codes "d")

abbrev b : Operand
b = operand.Column (codes "b")

abbrev v : Operand
v = operand.Column (codes "v")

abbrev t : Operand
t = operand.Column (codes "t")

abbrev m : Operand
m = operand.Column (codes "m")

abbrev one : Operand
one = operand.Literal (number (pos 1))

abbrev half : Operand
half = operand.Literal (literal.Fixed (pos 5) 1)

abbrev yes_literal : Operand
yes_literal = operand.Literal (literal.Bool true)

abbrev word : Operand
word = operand.Literal (text (codes "word"))

abbrev date : Operand
date = operand.Literal (text (codes "2020-02-29"))

abbrev null : Operand
null = operand.Literal literal.Null

abbrev pairs : Operand → List Operand → List Test
pairs x ys = flat_map (λ y. Compare Eq x y ∷ Compare Ge y x ∷ []) ys

abbrev Compared : Bool → List Test → Type 0
Compared wrongly tests = map (λ x. compares_wrongly columns (Some x)) tests ≡ map (λ x. wrongly) tests

-- numbers with numbers, texts with texts, truth values with truth values, moments with moments; a text literal that is a moment also with moments, a null literal with everything
pub compared :
    Compared false (flat_map (λ x. pairs x (i ∷ l ∷ d ∷ one ∷ half ∷ null ∷ [])) (i ∷ l ∷ d ∷ one ∷ half ∷ null ∷ []))
    × Compared false (flat_map (λ x. pairs x (v ∷ t ∷ word ∷ null ∷ [])) (v ∷ t ∷ word ∷ null ∷ []))
    × Compared false (flat_map (λ x. pairs x (b ∷ yes_literal ∷ null ∷ [])) (b ∷ yes_literal ∷ null ∷ []))
    × Compared false (flat_map (λ x. pairs x (m ∷ null ∷ [])) (m ∷ null ∷ []))
    × Compared true (flat_map (λ x. pairs x (b ∷ v ∷ t ∷ m ∷ yes_literal ∷ word ∷ [])) (i ∷ l ∷ d ∷ one ∷ half ∷ []))
    × Compared true (flat_map (λ x. pairs x (b ∷ m ∷ yes_literal ∷ [])) (v ∷ t ∷ word ∷ []))
    × Compared true (flat_map (λ x. pairs x (m ∷ [])) (b ∷ yes_literal ∷ []))
    × Compared false (flat_map (λ x. pairs x (v ∷ t ∷ m ∷ word ∷ date ∷ null ∷ [])) (date ∷ []))
    × Compared true (flat_map (λ x. pairs x (i ∷ l ∷ d ∷ b ∷ one ∷ half ∷ yes_literal ∷ [])) (date ∷ []))
    × Compared false (map IsNull (i ∷ b ∷ t ∷ m ∷ null ∷ []))
    × Compared false (map NotNull (i ∷ b ∷ t ∷ m ∷ null ∷ []))
unfolding into_kind moment_of
compared = (refl, refl, refl, refl, refl, refl, refl, refl, refl, refl, refl)

-- each statement with a test, and each query, however deep the comparison stands
abbrev wrong : Test
wrong = Compare Lt i t

abbrev right : Test
right = Compare Ne i one

abbrev deep : List Test
deep = wrong ∷ And wrong right ∷ And right wrong ∷ Or wrong right ∷ Or right wrong ∷ Not wrong ∷ Not (Or right (And right (Not wrong))) ∷ []

abbrev sound_ones : List Test
sound_ones = right ∷ And right right ∷ Or right right ∷ Not right ∷ []

abbrev kinds : Catalogue
kinds = record (of_tables ((another, table columns None [] [] [] []) ∷ [])) { views = (view, record { query = query_of (wanted.Columns (codes "i" ∷ codes "t" ∷ [])) another None; columns = codes "i" ∷ codes "t" ∷ [] }) ∷ [] }

abbrev tested : Test → List Statement
tested x =
    CreateView fresh (query_of wanted.All another (Some x)) false
    ∷ CreateView view (query_of wanted.All another (Some x)) true
    ∷ Update another ((codes "i", number (pos 1)) ∷ []) (Some x)
    ∷ Delete another (Some x)
    ∷ []

pub tests_refused :
    Are (Some WrongKind) User Postgresql kinds (flat_map tested deep)
    × Are (Some WrongKind) User Mysql kinds (flat_map tested deep)
    × Are None User Postgresql kinds (flat_map tested sound_ones)
    × (map (λ x. answer User (query_of wanted.All another (Some x)) kinds) deep ≡ map (λ x. Err WrongKind) deep)
    × (map (λ x. answer User (query_of wanted.Count view (Some x)) kinds) deep ≡ map (λ x. Err WrongKind) deep)
unfolding decide into_kind Rattle.lq_model.specs.declared.test.Test.TheBlock.hidden-the_row-Test-0 denote.Hole.Carrier.hidden
tests_refused = (refl, refl, refl, refl, refl)
