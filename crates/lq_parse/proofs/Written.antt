-- What the laws ask of a test, part by part.
use Rattle.std.proofs.Common.{◌≡◌, ℕ, Bool, true, List, ◌++◌, ◌∙◌, sym}
use Rattle.std.specs.List.{list_all}
use Rattle.std.proofs.lemmas.Bool.{and_parts}
use Rattle.std.proofs.lemmas.List.Folds.{list_all-append}
use Rattle.lq_base.specs.Name.{is_name}
use Rattle.lq_base.specs.declared.literal.Literal.{Literal}
use Rattle.lq_base.specs.declared.literal.Literal.TheVariants as constant
use Rattle.lq_model.specs.Comparison.{is_literal, operand_literals, test_literals}
use Rattle.lq_model.specs.Truth.{Both, Either, Turned, operand_names, test_names}
use Rattle.lq_model.specs.declared.test.Operand.{Operand}
use Rattle.lq_model.specs.declared.test.Operand.TheVariants as side
use Rattle.lq_model.specs.declared.test.Test.{Compare, IsNull, NotNull, Test}
use Rattle.lq_parse.proofs.Again.{IsLiteral, IsOperand, IsTest}
use Rattle.lq_parse.proofs.Objects.{name_fact}
use Rattle.lq_parse.proofs.Numbers.{fixed_number, whole_number}
use Rattle.lq_parse.proofs.Spoken.{Below, HasLiterals, TestHasLiterals}

pub all_split : {A : Type 0} (p : A → Bool) (xs ys : List A) → list_all p (xs ++ ys) ≡ true → (list_all p xs ≡ true) × (list_all p ys ≡ true)
all_split p xs ys all = and_parts (list_all p xs) (list_all p ys) (sym (list_all-append p xs ys) ∙ all)

pub literal_fact : Below → (l : Literal) → is_literal l ≡ true → IsLiteral l
literal_fact below constant.Null is = tt
literal_fact below (constant.Bool b) is = tt
literal_fact below (constant.Text t) is = tt
literal_fact below (constant.Int n) is = whole_number n is
literal_fact below (constant.Fixed units scale) is = fixed_number below.fixed below.spells units scale is

-- the names are names, and the literals can be written
pub record Facts (names : List (List ℕ)) (literals : List Literal) : Type 0 where
  pub are_names : list_all is_name names ≡ true
  pub are_literals : list_all is_literal literals ≡ true

facts_split : (ns ms : List (List ℕ)) (ls ks : List Literal) → Facts (ns ++ ms) (ls ++ ks) → Facts ns ls × Facts ms ks
facts_split ns ms ls ks it =
    let a = all_split is_name ns ms it.are_names in
    let b = all_split is_literal ls ks it.are_literals in
    (record { are_names = a.0; are_literals = b.0 }, record { are_names = a.1; are_literals = b.1 })

operand_fact : Below → (x : Operand) → Facts (operand_names x) (operand_literals x) → IsOperand x × HasLiterals x
operand_fact below (side.Column n) it = (name_fact n (and_parts (is_name n) true it.are_names).0, tt)
operand_fact below (side.Literal l) it =
    let is = (and_parts (is_literal l) true it.are_literals).0 in
    (literal_fact below l is, is)

pub test_fact : Below → (t : Test) → Facts (test_names t) (test_literals t) → IsTest t × TestHasLiterals t
test_fact below (Compare o x y) it =
    let both = facts_split (operand_names x) (operand_names y) (operand_literals x) (operand_literals y) it in
    let first = operand_fact below x both.0 in
    let second = operand_fact below y both.1 in
    ((first.0, second.0), (first.1, second.1))
test_fact below (IsNull x) it = operand_fact below x it
test_fact below (NotNull x) it = operand_fact below x it
test_fact below (Both a b) it =
    let both = facts_split (test_names a) (test_names b) (test_literals a) (test_literals b) it in
    let first = test_fact below a both.0 in
    let second = test_fact below b both.1 in
    ((first.0, second.0), (first.1, second.1))
test_fact below (Either a b) it =
    let both = facts_split (test_names a) (test_names b) (test_literals a) (test_literals b) it in
    let first = test_fact below a both.0 in
    let second = test_fact below b both.1 in
    ((first.0, second.0), (first.1, second.1))
test_fact below (Turned a) it = test_fact below a it
