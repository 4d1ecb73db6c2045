-- Worked examples: the value of a test on a row: true, false, or unknown (None).
use Rattle.std.specs.Prelude.{Bool, List, None, Option, Some, [], codes, false, map, neg_ℤ, pos, refl, true, ℕ, ◌∷◌, ◌≡◌}
use Rattle.lq_base.specs.Moment.{moment_of}
use Rattle.lq_base.specs.Value.{into_kind}
use Rattle.lq_base.specs.declared.kind.Kind.TheVariants as kind
use Rattle.lq_base.specs.declared.literal.Literal.{Literal}
use Rattle.lq_base.specs.declared.literal.Literal.TheVariants as literal
use Rattle.lq_base.specs.declared.value.Value.{Value}
use Rattle.lq_base.specs.declared.value.Value.TheVariants as value
use Rattle.lq_model.specs.Truth.{takes, truth}
use Rattle.lq_model.specs.declared.column.Column.{Column}
use Rattle.lq_model.specs.declared.test.Op.{Op}
use Rattle.lq_model.specs.declared.test.Op.TheVariants.{Eq, Ge, Gt, Le, Lt, Ne}
use Rattle.lq_model.specs.declared.test.Operand.{Operand}
use Rattle.lq_model.specs.declared.test.Operand.TheVariants as operand
use Rattle.lq_model.specs.declared.test.Test.{And, Compare, IsNull, Not, NotNull, Or, Test}
use Rattle.lq_model.proofs.ExampleWorld.{number, text}
use Rattle.lq_model.proofs.Matrix.Tables.{plain}

-- a row with a value of each sort, and a null
abbrev columns : List Column
columns = plain (codes "i") kind.Int ∷ plain (codes "d") (kind.Decimal 5 2) ∷ plain (codes "b") kind.Boolean ∷ plain (codes "t") kind.Text ∷ plain (codes "m") kind.Moment ∷ plain (codes "n") kind.Int ∷ []

abbrev row : List Value
row = value.Int (pos 2) ∷ value.Fixed (pos 250) 2 ∷ value.Bool false ∷ value.Text (codes "b") ∷ value.Moment (pos 86400001) ∷ value.Null ∷ []

abbrev i : Operand
i = operand.Column (codes "i")

abbrev d : Operand
d = operand.Column (codes "d")

abbrev b : Operand
b = operand.Column (codes "b")

abbrev t : Operand
t = operand.Column (codes "t")

abbrev m : Operand
m = operand.Column (codes "m")

abbrev n : Operand
n = operand.Column (codes "n")

abbrev lit : Literal → Operand
lit l = operand.Literal l

abbrev operators : List Op
operators = Eq ∷ Ne ∷ Lt ∷ Le ∷ Gt ∷ Ge ∷ []

-- what each operator says of x beside y, in the order =, <>, <, <=, >, >=
abbrev said : Operand → Operand → List (Option Bool)
said x y = map (λ o. truth columns row (Compare o x y)) operators

abbrev Less : Operand → Operand → Type 0
Less x y =
    (said x y ≡ Some false ∷ Some true ∷ Some true ∷ Some true ∷ Some false ∷ Some false ∷ [])
    × (said y x ≡ Some false ∷ Some true ∷ Some false ∷ Some false ∷ Some true ∷ Some true ∷ [])

abbrev Same : Operand → Operand → Type 0
Same x y =
    (said x y ≡ Some true ∷ Some false ∷ Some false ∷ Some true ∷ Some false ∷ Some true ∷ [])
    × (said y x ≡ Some true ∷ Some false ∷ Some false ∷ Some true ∷ Some false ∷ Some true ∷ [])

-- with a null each operator is unknown
abbrev Unknown : Operand → Type 0
Unknown x = (said x n ≡ map (λ o. None) operators) × (said n x ≡ map (λ o. None) operators) × (said x (lit literal.Null) ≡ map (λ o. None) operators)

pub numbers_compared :
    Less i (lit (number (pos 3))) × Same i (lit (number (pos 2))) × Less (lit (number (neg_ℤ (pos 3)))) i
    × Less i d × Same d (lit (literal.Fixed (pos 25) 1)) × Same d (lit (literal.Fixed (pos 2500) 3)) × Less d (lit (number (pos 3))) × Less (lit (literal.Fixed (pos 199) 2)) i × Same i (lit (literal.Fixed (pos 20) 1))
    × Less (lit (literal.Fixed (neg_ℤ (pos 5)) 1)) (lit (number (pos 0)))
unfolding into_kind
numbers_compared = ((refl, refl), (refl, refl), (refl, refl), (refl, refl), (refl, refl), (refl, refl), (refl, refl), (refl, refl), (refl, refl), (refl, refl))

-- texts by their bytes, so great letters stand before small ones and a beginning before the whole; false before true
pub texts_and_truths_compared :
    Same t (lit (text (codes "b"))) × Less (lit (text (codes "B"))) t × Less t (lit (text (codes "ba"))) × Less (lit (text [])) t × Less (lit (text (codes "azz"))) t × Less (lit (text (codes "10"))) (lit (text (codes "9")))
    × Same b (lit (literal.Bool false)) × Less b (lit (literal.Bool true))
unfolding into_kind
texts_and_truths_compared = ((refl, refl), (refl, refl), (refl, refl), (refl, refl), (refl, refl), (refl, refl), (refl, refl), (refl, refl))

-- a moment beside a text that is one, by the moment that the text is
pub moments_compared : (x : List ℕ)
    → (moment_of x ≡ Some (pos 86400001) → Same m (lit (text x)))
    × (moment_of x ≡ Some (pos 86400000) → Less (lit (text x)) m)
    × (moment_of x ≡ Some (pos 86401000) → Less m (lit (text x)))
    × Same m m
unfolding into_kind
moments_compared x = (λ is. (rw (is) refl, rw (is) refl), λ is. (rw (is) refl, rw (is) refl), λ is. (rw (is) refl, rw (is) refl), (refl, refl))

pub nulls_compared :
    Unknown i × Unknown d × Unknown b × Unknown t × Unknown m × Unknown n
    × (map (λ x. truth columns row (IsNull x)) (n ∷ lit literal.Null ∷ i ∷ t ∷ lit (text []) ∷ []) ≡ Some true ∷ Some true ∷ Some false ∷ Some false ∷ Some false ∷ [])
    × (map (λ x. truth columns row (NotNull x)) (n ∷ lit literal.Null ∷ i ∷ t ∷ lit (text []) ∷ []) ≡ Some false ∷ Some false ∷ Some true ∷ Some true ∷ Some true ∷ [])
nulls_compared = ((refl, refl, refl), (refl, refl, refl), (refl, refl, refl), (refl, refl, refl), (refl, refl, refl), (refl, refl, refl), refl, refl)

-- true, false and unknown
abbrev yes_test : Test
yes_test = NotNull i

abbrev no_test : Test
no_test = IsNull i

abbrev unsure : Test
unsure = Compare Eq n i

abbrev three : List Test
three = yes_test ∷ no_test ∷ unsure ∷ []

abbrev of_all : List Test → List (Option Bool)
of_all ts = map (truth columns row) ts

-- AND is false where one side is, OR true where one side is, and NOT of unknown is unknown; a row is taken where the test is true
pub three_values :
    (of_all three ≡ Some true ∷ Some false ∷ None ∷ [])
    × (of_all (map (And yes_test) three) ≡ Some true ∷ Some false ∷ None ∷ [])
    × (of_all (map (And no_test) three) ≡ Some false ∷ Some false ∷ Some false ∷ [])
    × (of_all (map (And unsure) three) ≡ None ∷ Some false ∷ None ∷ [])
    × (of_all (map (Or yes_test) three) ≡ Some true ∷ Some true ∷ Some true ∷ [])
    × (of_all (map (Or no_test) three) ≡ Some true ∷ Some false ∷ None ∷ [])
    × (of_all (map (Or unsure) three) ≡ Some true ∷ None ∷ None ∷ [])
    × (of_all (map Not three) ≡ Some false ∷ Some true ∷ None ∷ [])
    × (truth columns row (Not (And (Or unsure yes_test) (Not unsure))) ≡ None)
    × (truth columns row (Or (And unsure no_test) (Not no_test)) ≡ Some true)
    × (map (λ x. takes (Some x) columns row) three ≡ true ∷ false ∷ false ∷ [])
    × (takes None columns row ≡ true)
unfolding Rattle.lq_model.specs.declared.test.Test.TheBlock.hidden-the_row-Test-0 denote.Hole.Carrier.hidden
three_values = (refl, refl, refl, refl, refl, refl, refl, refl, refl, refl, refl, refl)
