-- When a test is true of a row. Some true, Some false, and None where it is unknown, as SQL has it.
use Rattle.std.specs.Option.{option_map}
use Rattle.std.specs.Ordering.{bool_cmp, int_cmp, is_eq, is_gt, is_lt, ordering_reverse}
use Rattle.std.specs.Prelude.{Bool, List, None, Ok, Option, Result, Some, [], false, not, pos, refl, true, ℕ, ℤ, ◌*ℤ◌, ◌++◌, ◌^◌, ◌∷◌, ◌≡◌}
use Rattle.std.specs.declared.cmp.Ordering.{Ordering}
use Rattle.lq_base.specs.Name.{name_cmp}
use Rattle.lq_base.specs.Value.{into_kind}
use Rattle.lq_base.specs.declared.kind.Kind.TheVariants as kind
use Rattle.lq_base.specs.declared.literal.Literal.{Literal}
use Rattle.lq_base.specs.declared.literal.Literal.TheVariants as literal
use Rattle.lq_base.specs.declared.name.Name.{Name}
use Rattle.lq_base.specs.declared.reason.Reason.{Reason}
use Rattle.lq_base.specs.declared.value.Value.{Value}
use Rattle.lq_base.specs.declared.value.Value.TheVariants as value
use Rattle.lq_model.specs.Catalogue.{by_name, is_null}
use Rattle.lq_model.specs.declared.column.Column.{Column}
use Rattle.lq_model.specs.declared.test.Op.{Op}
use Rattle.lq_model.specs.declared.test.Op.TheVariants.{Eq, Ge, Gt, Le, Lt, Ne}
use Rattle.lq_model.specs.declared.test.Operand.{Operand}
use Rattle.lq_model.specs.declared.test.Operand.TheVariants as operand
use Rattle.lq_model.specs.declared.test.Test.{And, And', Compare, IsNull, Not, Not', NotNull, Or, Or', Test, end_of-Test, more_of-Test}

-- the operator holds of two values that stand so in order
abbrev pub in_order : Op → Ordering → Bool
in_order Eq r = is_eq r
in_order Ne r = not (is_eq r)
in_order Lt r = is_lt r
in_order Le r = not (is_gt r)
in_order Gt r = is_gt r
in_order Ge r = not (is_lt r)

-- a literal as a value of its own, without a column's kind
abbrev pub literal_value : Literal → Value
literal_value literal.Null = value.Null
literal_value (literal.Int n) = value.Int n
literal_value (literal.Fixed u s) = value.Fixed u s
literal_value (literal.Text t) = value.Text t
literal_value (literal.Bool b) = value.Bool b

abbrev pub operand_value : List Column → List Value → Operand → Value
operand_value cs vs (operand.Column n) = by_name cs vs n
operand_value cs vs (operand.Literal l) = literal_value l

-- decimal numbers: a divided by ten to the power s, and b by ten to the power t
abbrev pub decimal_cmp : ℤ → ℕ → ℤ → ℕ → Ordering
decimal_cmp a s b t = int_cmp (a *ℤ pos (10 ^ t)) (b *ℤ pos (10 ^ s))

-- a moment beside a text that is one
abbrev pub moment_cmp : ℤ → Result Value Reason → Option Ordering
moment_cmp m (Ok (value.Moment n)) = Some (int_cmp m n)
moment_cmp m _ = None

-- how two values stand in order: numbers, texts by their bytes, false before true, moments; none with a null
abbrev pub value_order : Value → Value → Option Ordering
value_order (value.Int a) (value.Int b) = Some (int_cmp a b)
value_order (value.Int a) (value.Fixed b t) = Some (decimal_cmp a 0 b t)
value_order (value.Fixed a s) (value.Int b) = Some (decimal_cmp a s b 0)
value_order (value.Fixed a s) (value.Fixed b t) = Some (decimal_cmp a s b t)
value_order (value.Text a) (value.Text b) = Some (name_cmp a b)
value_order (value.Bool a) (value.Bool b) = Some (bool_cmp a b)
value_order (value.Moment a) (value.Moment b) = Some (int_cmp a b)
value_order (value.Moment a) (value.Text t) = moment_cmp a (into_kind (literal.Text t) kind.Moment)
value_order (value.Text t) (value.Moment b) = option_map ordering_reverse (moment_cmp b (into_kind (literal.Text t) kind.Moment))
value_order _ _ = None

-- AND: false where one side is, else unknown where one side is
abbrev pub both_true : Option Bool → Option Bool → Option Bool
both_true (Some false) y = Some false
both_true (Some true) y = y
both_true None (Some false) = Some false
both_true None _ = None

-- NOT: unknown stays unknown
abbrev pub not_so : Option Bool → Option Bool
not_so o = option_map not o

-- OR: true where one side is, else unknown where one side is
abbrev pub one_true : Option Bool → Option Bool → Option Bool
one_true a b = not_so (both_true (not_so a) (not_so b))

-- a test's parts, as its recursion takes them
pattern abbrev pub Both : Test → Test → Test
Both a b = And' tt (more_of-Test a end_of-Test) tt (more_of-Test b end_of-Test)

pattern abbrev pub Either : Test → Test → Test
Either a b = Or' tt (more_of-Test a end_of-Test) tt (more_of-Test b end_of-Test)

pattern abbrev pub Turned : Test → Test
Turned a = Not' tt (more_of-Test a end_of-Test)

-- the value of a test on a row
abbrev pub truth : List Column → List Value → Test → Option Bool
truth cs vs (Compare op x y) = option_map (in_order op) (value_order (operand_value cs vs x) (operand_value cs vs y))
truth cs vs (IsNull x) = Some (is_null (operand_value cs vs x))
truth cs vs (NotNull x) = Some (not (is_null (operand_value cs vs x)))
truth cs vs (Both a b) = both_true (truth cs vs a) (truth cs vs b)
truth cs vs (Either a b) = one_true (truth cs vs a) (truth cs vs b)
truth cs vs (Turned a) = not_so (truth cs vs a)

-- whether a test is true, and not false or unknown
abbrev pub is_true : Option Bool → Bool
is_true (Some b) = b
is_true None = false

-- whether a statement or a query takes a row: without a test it takes all
abbrev pub takes : Option Test → List Column → List Value → Bool
takes None cs row = true
takes (Some t) cs row = is_true (truth cs row t)

-- the columns that a test names

abbrev pub operand_names : Operand → List Name
operand_names (operand.Column n) = n ∷ []
operand_names (operand.Literal l) = []

abbrev pub test_names : Test → List Name
test_names (Compare op x y) = operand_names x ++ operand_names y
test_names (IsNull x) = operand_names x
test_names (NotNull x) = operand_names x
test_names (Both a b) = test_names a ++ test_names b
test_names (Either a b) = test_names a ++ test_names b
test_names (Turned a) = test_names a

abbrev pub names_in : Option Test → List Name
names_in None = []
names_in (Some t) = test_names t

pub truth_of_not : (cs : List Column) (vs : List Value) (a : Test) → truth cs vs (Not a) ≡ not_so (truth cs vs a)
unfolding Rattle.lq_model.specs.declared.test.Test.TheBlock.hidden-the_row-Test-0 denote.Hole.Carrier.hidden
truth_of_not cs vs a = refl

pub truth_of_and : (cs : List Column) (vs : List Value) (a b : Test) → truth cs vs (And a b) ≡ both_true (truth cs vs a) (truth cs vs b)
unfolding Rattle.lq_model.specs.declared.test.Test.TheBlock.hidden-the_row-Test-0 denote.Hole.Carrier.hidden
truth_of_and cs vs a b = refl

pub truth_of_or : (cs : List Column) (vs : List Value) (a b : Test) → truth cs vs (Or a b) ≡ one_true (truth cs vs a) (truth cs vs b)
unfolding Rattle.lq_model.specs.declared.test.Test.TheBlock.hidden-the_row-Test-0 denote.Hole.Carrier.hidden
truth_of_or cs vs a b = refl
