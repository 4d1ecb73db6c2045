-- The definitions over tests at the tests that have parts.
use Rattle.std.proofs.Common.{List, None, Some, ap, refl, true, ◌∙◌, ◌&&◌, ◌||◌, ◌++◌, ◌≡◌}
use Rattle.lq_base.specs.declared.value.Value.{Value}
use Rattle.lq_model.specs.Comparison.{kinds_agree}
use Rattle.lq_model.specs.Views.{lacks_column}
use Rattle.lq_model.specs.Truth.{both_true, not_so, one_true, operand_names, test_names, truth}
use Rattle.lq_model.specs.declared.column.Column.{Column}
use Rattle.lq_model.specs.declared.test.Op.{Op}
use Rattle.lq_model.specs.declared.test.Operand.{Operand}
use Rattle.lq_model.specs.declared.test.Test.{And, Compare, Not, Or, Test}
use Rattle.lq_model.proofs.Lists.{any-append}

pub truth_and : (cs : List Column) (vs : List Value) (a b : Test) → truth cs vs (And a b) ≡ both_true (truth cs vs a) (truth cs vs b)
unfolding Rattle.lq_model.specs.declared.test.Test.TheBlock.hidden-the_row-Test-0 denote.Hole.Carrier.hidden
truth_and cs vs a b = refl

-- AND by its first part
pub and_true : (cs : List Column) (vs : List Value) (a b : Test) → truth cs vs a ≡ Some true → truth cs vs (And a b) ≡ truth cs vs b
and_true cs vs a b is = truth_and cs vs a b ∙ ap (λ x. both_true x (truth cs vs b)) is

pub and_unknown : (cs : List Column) (vs : List Value) (a b : Test) → truth cs vs a ≡ None → truth cs vs (And a b) ≡ both_true None (truth cs vs b)
and_unknown cs vs a b is = truth_and cs vs a b ∙ ap (λ x. both_true x (truth cs vs b)) is

pub truth_or : (cs : List Column) (vs : List Value) (a b : Test) → truth cs vs (Or a b) ≡ one_true (truth cs vs a) (truth cs vs b)
unfolding Rattle.lq_model.specs.declared.test.Test.TheBlock.hidden-the_row-Test-0 denote.Hole.Carrier.hidden
truth_or cs vs a b = refl

pub truth_not : (cs : List Column) (vs : List Value) (a : Test) → truth cs vs (Not a) ≡ not_so (truth cs vs a)
unfolding Rattle.lq_model.specs.declared.test.Test.TheBlock.hidden-the_row-Test-0 denote.Hole.Carrier.hidden
truth_not cs vs a = refl

pub kinds_agree_and : (cs : List Column) (a b : Test) → kinds_agree cs (And a b) ≡ (kinds_agree cs a && kinds_agree cs b)
unfolding Rattle.lq_model.specs.declared.test.Test.TheBlock.hidden-the_row-Test-0 denote.Hole.Carrier.hidden
kinds_agree_and cs a b = refl

pub kinds_agree_or : (cs : List Column) (a b : Test) → kinds_agree cs (Or a b) ≡ (kinds_agree cs a && kinds_agree cs b)
unfolding Rattle.lq_model.specs.declared.test.Test.TheBlock.hidden-the_row-Test-0 denote.Hole.Carrier.hidden
kinds_agree_or cs a b = refl

pub kinds_agree_not : (cs : List Column) (a : Test) → kinds_agree cs (Not a) ≡ kinds_agree cs a
unfolding Rattle.lq_model.specs.declared.test.Test.TheBlock.hidden-the_row-Test-0 denote.Hole.Carrier.hidden
kinds_agree_not cs a = refl

pub names_and : (a b : Test) → test_names (And a b) ≡ test_names a ++ test_names b
unfolding Rattle.lq_model.specs.declared.test.Test.TheBlock.hidden-the_row-Test-0 denote.Hole.Carrier.hidden
names_and a b = refl

pub names_or : (a b : Test) → test_names (Or a b) ≡ test_names a ++ test_names b
unfolding Rattle.lq_model.specs.declared.test.Test.TheBlock.hidden-the_row-Test-0 denote.Hole.Carrier.hidden
names_or a b = refl

pub names_not : (a : Test) → test_names (Not a) ≡ test_names a
unfolding Rattle.lq_model.specs.declared.test.Test.TheBlock.hidden-the_row-Test-0 denote.Hole.Carrier.hidden
names_not a = refl

pub lacks_column_and : (cs : List Column) (a b : Test) → lacks_column cs (test_names (And a b)) ≡ (lacks_column cs (test_names a) || lacks_column cs (test_names b))
lacks_column_and cs a b = ap (lacks_column cs) (names_and a b) ∙ any-append _ (test_names a) (test_names b)

pub lacks_column_or : (cs : List Column) (a b : Test) → lacks_column cs (test_names (Or a b)) ≡ (lacks_column cs (test_names a) || lacks_column cs (test_names b))
lacks_column_or cs a b = ap (lacks_column cs) (names_or a b) ∙ any-append _ (test_names a) (test_names b)

pub lacks_column_not : (cs : List Column) (a : Test) → lacks_column cs (test_names (Not a)) ≡ lacks_column cs (test_names a)
lacks_column_not cs a = ap (lacks_column cs) (names_not a)

pub lacks_column_two : (cs : List Column) (op : Op) (x y : Operand) → lacks_column cs (test_names (Compare op x y)) ≡ (lacks_column cs (operand_names x) || lacks_column cs (operand_names y))
lacks_column_two cs op x y = any-append _ (operand_names x) (operand_names y)
