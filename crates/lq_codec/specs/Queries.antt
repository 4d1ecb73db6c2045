-- The bytes of tests and queries.
use Rattle.std.specs.Prelude.{List, None, Option, Some, [], suc, zero, ℕ, ◌∷◌}
use Rattle.lq_base.specs.declared.literal.Literal.{Literal}
use Rattle.lq_base.specs.declared.name.Name.{Name}
use Rattle.lq_codec.specs.Codec.{Codec, always, both, counted, mapped, nothing, one, only_if, optional, variant}
use Rattle.lq_codec.specs.Values.{literal_codec}
use Rattle.lq_codec.specs.Words.{byte, count, is_below, name}
use Rattle.lq_model.specs.Truth.{Both, Either, Turned}
use Rattle.lq_model.specs.declared.query.Query.{Query}
use Rattle.lq_model.specs.declared.query.Wanted.{Wanted}
use Rattle.lq_model.specs.declared.query.Wanted.TheVariants as wanted
use Rattle.lq_model.specs.declared.test.Op.{Op}
use Rattle.lq_model.specs.declared.test.Op.TheVariants as op
use Rattle.lq_model.specs.declared.test.Operand.{Operand}
use Rattle.lq_model.specs.declared.test.Operand.TheVariants as operand
use Rattle.lq_model.specs.declared.test.Test.{Compare, IsNull, NotNull, Test}

-- tests
abbrev pub op_of : ℕ → Op
op_of zero = op.Eq
op_of (suc zero) = op.Ne
op_of (suc (suc zero)) = op.Lt
op_of (suc (suc (suc zero))) = op.Le
op_of (suc (suc (suc (suc zero)))) = op.Gt
op_of _ = op.Ge

abbrev pub in_op : Op → Option ℕ
in_op op.Eq = Some 0
in_op op.Ne = Some 1
in_op op.Lt = Some 2
in_op op.Le = Some 3
in_op op.Gt = Some 4
in_op op.Ge = Some 5

unfoldable pub op_codec : Codec Op
op_codec = mapped op_of in_op (only_if (is_below 6) byte)

abbrev pub operand_place : Operand → ℕ
operand_place (operand.Column n) = 0
operand_place (operand.Literal l) = 1

abbrev pub in_column : Operand → Option Name
in_column (operand.Column n) = Some n
in_column _ = None

abbrev pub in_literal : Operand → Option Literal
in_literal (operand.Literal l) = Some l
in_literal _ = None

abbrev pub operand_cases : List (Codec Operand)
operand_cases = mapped operand.Column in_column name ∷ mapped operand.Literal in_literal literal_codec ∷ []

unfoldable pub operand_codec : Codec Operand
operand_codec = variant operand_place operand_cases

abbrev pub test_place : Test → ℕ
test_place (Compare op x y) = 0
test_place (IsNull x) = 1
test_place (NotNull x) = 2
test_place (Both a b) = 3
test_place (Either a b) = 4
test_place (Turned a) = 5

abbrev pub as_compare : Op × (Operand × Operand) → Test
as_compare p = Compare p.0 p.1.0 p.1.1

abbrev pub in_compare : Test → Option (Op × (Operand × Operand))
in_compare (Compare op x y) = Some (op, (x, y))
in_compare _ = None

abbrev pub in_is_null : Test → Option Operand
in_is_null (IsNull x) = Some x
in_is_null _ = None

abbrev pub in_not_null : Test → Option Operand
in_not_null (NotNull x) = Some x
in_not_null _ = None

abbrev pub as_both : Test × Test → Test
as_both p = Both p.0 p.1

abbrev pub in_both : Test → Option (Test × Test)
in_both (Both a b) = Some (a, b)
in_both _ = None

abbrev pub as_either : Test × Test → Test
as_either p = Either p.0 p.1

abbrev pub in_either : Test → Option (Test × Test)
in_either (Either a b) = Some (a, b)
in_either _ = None

abbrev pub as_turned : Test → Test
as_turned a = Turned a

abbrev pub in_turned : Test → Option Test
in_turned (Turned a) = Some a
in_turned _ = None

abbrev pub compared : Codec (Op × (Operand × Operand))
compared = both op_codec (both operand_codec operand_codec)

abbrev pub test_cases : Codec Test → List (Codec Test)
test_cases within =
    mapped as_compare in_compare compared
    ∷ mapped IsNull in_is_null operand_codec ∷ mapped NotNull in_not_null operand_codec
    ∷ mapped as_both in_both (both within within) ∷ mapped as_either in_either (both within within)
    ∷ mapped as_turned in_turned within ∷ []

-- tests in which fewer than so many stand in one another
abbrev pub test_codec : ℕ → Codec Test
test_codec zero = nothing
test_codec (suc n) = variant test_place (test_cases (test_codec n))

-- a test has at most 64 levels
unfoldable pub whole_test : Codec Test
whole_test = test_codec 65

-- queries
abbrev pub names : Codec (List Name)
names = counted count name

abbrev pub wanted_place : Wanted → ℕ
wanted_place wanted.All = 0
wanted_place wanted.Count = 1
wanted_place (wanted.Columns ns) = 2

abbrev pub in_all : Wanted → Option (Unit {0})
in_all wanted.All = Some tt
in_all _ = None

abbrev pub in_count : Wanted → Option (Unit {0})
in_count wanted.Count = Some tt
in_count _ = None

abbrev pub in_columns : Wanted → Option (List Name)
in_columns (wanted.Columns ns) = Some ns
in_columns _ = None

unfoldable pub wanted_codec : Codec Wanted
wanted_codec =
    variant wanted_place
    (mapped (always wanted.All) in_all one ∷ mapped (always wanted.Count) in_count one
    ∷ mapped wanted.Columns in_columns names ∷ [])

abbrev pub as_query : Wanted × (Name × Option Test) → Query
as_query p = record { wanted = p.0; table = p.1.0; test = p.1.1 }

abbrev pub of_query : Query → Option (Wanted × (Name × Option Test))
of_query q = Some (q.wanted, (q.table, q.test))

unfoldable pub query_codec : Codec Query
query_codec = mapped as_query of_query (both wanted_codec (both name (optional whole_test)))
