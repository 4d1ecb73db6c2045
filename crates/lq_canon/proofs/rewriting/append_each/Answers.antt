use Rattle.std.proofs.Common.{refl}
use Rattle.lq_canon.proofs.PairsLeft.{each_all, each_on}
use Rattle.lq_canon.proofs.rewriting.append_each.Goals as goal

pub loop-change-init : goal.loop-change-init
loop-change-init c = λ cs x is. record { left = cs; is = is; gives = refl }

pub loop-change-preserved : goal.loop-change-preserved
loop-change-preserved c = λ cs x is.
    each_on c.loop-change.to.items c.append_change.new.to.items _ c.loop-change.rest.now c.in_ok-rest.rest.now x c.in-Some.change (c.loop-change.invariant cs x is)
    (λ k y at. c.in-Some.ensures.read k y at) (λ y at. c.in-Some.ensures.none y at) (λ ps y at. c.in_ok-rest.ensures.written ps y at) (λ ps y at. c.in_ok-rest.ensures.read ps y at)

pub returns : goal.returns
returns c = λ cs x is. each_all c.loop-change.to.items _ c.loop-change.rest.now x (c.loop-change.invariant cs x is) (λ k y at. c.in_default.ensures.read k y at)
