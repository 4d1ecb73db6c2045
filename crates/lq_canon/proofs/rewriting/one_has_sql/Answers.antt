use Rattle.std.proofs.Common.{ap, drop, sym, ◌∙◌}
use Rattle.lq_canon.proofs.PairsLeft.{uniform_all, uniform_on}
use Rattle.lq_canon.proofs.rewriting.one_has_sql.Goals as goal

pub loop-change-init : goal.loop-change-init
loop-change-init c = λ cs x is. record { left = cs; is = is; so = λ so. so }

pub loop-change-preserved : goal.loop-change-preserved
loop-change-preserved c = λ cs x is.
    uniform_on c.loop-change.rest.now c.without_first-rest.result.now x cs c.in-Some.change (c.loop-change.invariant cs x is) (λ k y at. c.in-Some.ensures.read k y at) (λ y at. c.in-Some.ensures.none y at)
    (λ ps y at. c.without_first-rest.ensures ∙ ap (drop 1) (c.behind_pairs.ensures.read ps y at)) (sym c.has_sql_name.ensures ∙ c.if-has_sql_name.false)

pub returns : goal.returns
returns c = λ cs x is no. uniform_all c.loop-change.rest.now x cs (c.loop-change.invariant cs x is) (λ k y at. c.in_default.ensures.read k y at)
