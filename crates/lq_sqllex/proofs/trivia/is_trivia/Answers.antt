use Rattle.std.proofs.Common.{◌∙◌, sym, rules, refl}
use Rattle.lq_sqllex.proofs.TriviaSteps.{trivia_open, trivia_on, trivia_other, trivia_empty}
use Rattle.lq_sqllex.proofs.trivia.is_trivia.Goals as goal

pub returns-in_default : goal.returns-in_default
returns-in_default c = sym (c.loop-left.invariant ∙ trivia_open _ _ (c.in_default.ensures.none refl))

pub returns-then-not-is_trivia_sort : goal.returns-then-not-is_trivia_sort
returns-then-not-is_trivia_sort c =
    sym (c.loop-left.invariant ∙ trivia_other _ _ _ _ _ c.in-Some.ensures.more (sym c.is_trivia_sort.ensures ∙ c.if-not-is_trivia_sort.true))

pub loop-left-preserved : goal.loop-left-preserved
loop-left-preserved c = c.loop-left.invariant ∙ trivia_on _ _ _ _ _ c.in-Some.ensures.more (sym c.is_trivia_sort.ensures ∙ c.if-not-is_trivia_sort.false)

pub returns : goal.returns
returns c = sym (c.loop-left.invariant ∙ trivia_empty _ _ (search rules))
