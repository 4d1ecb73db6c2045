use Rattle.std.proofs.Common.{rules, arith}
use Rattle.lq_model.specs.SqlTest as spec
use Rattle.lq_model.specs.declared.test.Test.TheVariants as test
use Rattle.lq_model.specs.declared.word.WordKind.TheVariants as word
use Rattle.lq_parse.proofs.Bounded.{and_takes, joined_ends, joined_fault, joined_read, joined_too_deep, no_not, not_fault, not_opened, not_read, not_too_deep, or_takes, product_fault, product_read, sum_fault, sum_read}
use Rattle.lq_parse.proofs.Levels.{and_deepens, and_deeper, or_deepens, or_deeper}
use Rattle.lq_parse.proofs.test.+formula.Goals as goal

pub conjunction-returns-then-not-eat : goal.conjunction-returns-then-not-eat
conjunction-returns-then-not-eat t c = joined_ends test.And word.And (spec.term (spec.primary c.args.parentheses)) c.args.left c.args.words.now c.eat.new.self (and_takes c.args.parentheses) (search rules) c.eat.ensures.rest

pub conjunction-returns-then-turns-eq0 : goal.conjunction-returns-then-turns-eq0
conjunction-returns-then-turns-eq0 t c = joined_too_deep test.And word.And (spec.term (spec.primary c.args.parentheses)) c.args.left c.args.words.now (and_takes c.args.parentheses) and_deepens (search rules) (omega (arith, c.requires.deep, c.if-turns-eq0.true))

pub conjunction-returns-in_err-right : goal.conjunction-returns-in_err-right
conjunction-returns-in_err-right t c =
    joined_fault test.And word.And (spec.term (spec.primary c.args.parentheses)) c.args.left c.args.words.now c.eat.new.self c.negation.new.words _ c.in_err-right.field-0.0 _ (and_takes c.args.parentheses) and_deepens (search rules) c.eat.ensures.rest c.in_err-right.ensures (search rules)

pub conjunction-conjunction-requires : goal.conjunction-conjunction-requires
conjunction-conjunction-requires t c = (search rules, (omega (arith, c.requires.bounded), and_deeper c.args.left c.in_ok-right.right c.in_ok-both.both c.args.turns (omega arith) c.requires.deep (search rules)))

pub conjunction-returns : goal.conjunction-returns
conjunction-returns t c =
    joined_read test.And word.And (spec.term (spec.primary c.args.parentheses)) c.args.left c.in_ok-right.right c.in_ok-both.both c.args.words.now c.eat.new.self c.negation.new.words _ _ (and_takes c.args.parentheses) (search rules) c.eat.ensures.rest (search rules) (search rules) c.conjunction.ensures

pub disjunction-returns-then-not-eat : goal.disjunction-returns-then-not-eat
disjunction-returns-then-not-eat t c = joined_ends test.Or word.Or (spec.product (spec.primary c.args.parentheses)) c.args.left c.args.words.now c.eat.new.self (or_takes c.args.parentheses) (search rules) c.eat.ensures.rest

pub disjunction-returns-then-turns-eq0 : goal.disjunction-returns-then-turns-eq0
disjunction-returns-then-turns-eq0 t c = joined_too_deep test.Or word.Or (spec.product (spec.primary c.args.parentheses)) c.args.left c.args.words.now (or_takes c.args.parentheses) or_deepens (search rules) (omega (arith, c.requires.deep, c.if-turns-eq0.true))

pub disjunction-returns-in_err-right : goal.disjunction-returns-in_err-right
disjunction-returns-in_err-right t c =
    joined_fault test.Or word.Or (spec.product (spec.primary c.args.parentheses)) c.args.left c.args.words.now c.eat.new.self c.product.new.words _ c.in_err-right.field-0.0 _ (or_takes c.args.parentheses) or_deepens (search rules) c.eat.ensures.rest c.in_err-right.ensures (search rules)

pub disjunction-disjunction-requires : goal.disjunction-disjunction-requires
disjunction-disjunction-requires t c = (search rules, (omega (arith, c.requires.bounded), or_deeper c.args.left c.in_ok-right.right c.in_ok-both.both c.args.turns (omega arith) c.requires.deep (search rules)))

pub disjunction-returns : goal.disjunction-returns
disjunction-returns t c =
    joined_read test.Or word.Or (spec.product (spec.primary c.args.parentheses)) c.args.left c.in_ok-right.right c.in_ok-both.both c.args.words.now c.eat.new.self c.product.new.words _ _ (or_takes c.args.parentheses) (search rules) c.eat.ensures.rest (search rules) (search rules) c.disjunction.ensures

pub negation-returns-then-not-eat : goal.negation-returns-then-not-eat
negation-returns-then-not-eat t c = no_not (spec.primary c.args.parentheses) c.args.nots c.args.words.now c.eat.new.self _ _ c.requires (search rules) c.eat.ensures.rest c.primary.ensures

pub negation-returns-then-nots-eq0 : goal.negation-returns-then-nots-eq0
negation-returns-then-nots-eq0 t c = rw (c.if-nots-eq0.true) (not_too_deep (spec.primary c.args.parentheses) c.args.words.now (search rules))

pub negation-returns-in_err-inner : goal.negation-returns-in_err-inner
negation-returns-in_err-inner t c =
    not_fault (spec.primary c.args.parentheses) c.args.nots c.args.words.now c.eat.new.self c.negation.new.words _ c.in_err-inner.field-0.0 _ (omega arith) (search rules) c.eat.ensures.rest c.in_err-inner.ensures (search rules)

pub negation-returns : goal.negation-returns
negation-returns t c =
    not_read (spec.primary c.args.parentheses) c.args.words.now c.eat.new.self c.negation.new.words c.in_ok-inner.inner c.in_ok-boxed.field-0 (search rules) c.eat.ensures.rest (search rules) (search rules)

pub primary-returns-then-not-eat : goal.primary-returns-then-not-eat
primary-returns-then-not-eat t c = not_opened c.args.parentheses c.args.words.now c.eat.new.self _ _ (search rules) c.eat.ensures.rest c.comparison-then-not-eat.ensures

pub product-returns-in_err-first : goal.product-returns-in_err-first
product-returns-in_err-first t c = product_fault (spec.primary c.args.parentheses) c.args.words.now c.negation.new.words _ c.in_err-first.field-0.0 _ c.in_err-first.ensures (search rules)

pub product-returns : goal.product-returns
product-returns t c = product_read (spec.primary c.args.parentheses) c.in_ok-first.first c.args.words.now c.negation.new.words _ _ (search rules) c.conjunction.ensures

pub sum-returns-in_err-first : goal.sum-returns-in_err-first
sum-returns-in_err-first t c = sum_fault (spec.primary c.args.parentheses) c.args.words.now c.product.new.words _ c.in_err-first.field-0.0 _ c.in_err-first.ensures (search rules)

pub sum-returns : goal.sum-returns
sum-returns t c = sum_read (spec.primary c.args.parentheses) c.in_ok-first.first c.args.words.now c.product.new.words _ _ (search rules) c.disjunction.ensures
