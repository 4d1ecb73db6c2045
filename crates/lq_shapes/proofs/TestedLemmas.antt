-- The names in the tests that have parts.
use Rattle.std.proofs.Common.{◌||◌, ◌≡◌, refl}
use Rattle.lq_base.specs.declared.name.Name.{Name}
use Rattle.lq_model.specs.Catalogue.{is_in}
use Rattle.lq_model.specs.Truth.{operand_names, test_names}
use Rattle.lq_model.specs.declared.test.Op.{Op}
use Rattle.lq_model.specs.declared.test.Operand.{Operand}
use Rattle.lq_model.specs.declared.test.Test.{And, Compare, Not, Or, Test}
use Rattle.lq_model.proofs.Lists.{any-append}

pub in_both : (n : Name) (a b : Test) → is_in n (test_names (And a b)) ≡ (is_in n (test_names a) || is_in n (test_names b))
unfolding Rattle.lq_model.specs.declared.test.Test.TheBlock.hidden-the_row-Test-0 denote.Hole.Carrier.hidden
in_both n a b = any-append _ (test_names a) (test_names b)

pub in_either : (n : Name) (a b : Test) → is_in n (test_names (Or a b)) ≡ (is_in n (test_names a) || is_in n (test_names b))
unfolding Rattle.lq_model.specs.declared.test.Test.TheBlock.hidden-the_row-Test-0 denote.Hole.Carrier.hidden
in_either n a b = any-append _ (test_names a) (test_names b)

pub in_turned : (n : Name) (a : Test) → is_in n (test_names (Not a)) ≡ is_in n (test_names a)
unfolding Rattle.lq_model.specs.declared.test.Test.TheBlock.hidden-the_row-Test-0 denote.Hole.Carrier.hidden
in_turned n a = refl

pub in_two : (n : Name) (op : Op) (x y : Operand) → is_in n (test_names (Compare op x y)) ≡ (is_in n (operand_names x) || is_in n (operand_names y))
in_two n op x y = any-append _ (operand_names x) (operand_names y)
