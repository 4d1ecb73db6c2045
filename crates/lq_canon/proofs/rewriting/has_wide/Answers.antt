use Rattle.std.proofs.Common.{refl}
use Rattle.lq_canon.proofs.PairsLeft.{told_here, told_none, told_on}
use Rattle.lq_canon.specs.Sums.{has_wide}
use Rattle.lq_canon.proofs.rewriting.has_wide.Goals as goal

pub loop-pair-init : goal.loop-pair-init
loop-pair-init c = λ ps x is. record { left = ps; is = is; tells = refl }

pub returns-then-is_wide : goal.returns-then-is_wide
returns-then-is_wide c = λ ps x is.
    told_here c.loop-pair.rest.now x (has_wide ps) c.is_wide.result c.in-Some.pair (c.loop-pair.invariant ps x is)
    (λ k v y at. c.in-Some.ensures.read k v y at) (λ y at. c.in-Some.ensures.none y at) (λ v at. c.is_wide.ensures v at) c.if-is_wide.true

pub loop-pair-preserved : goal.loop-pair-preserved
loop-pair-preserved c = λ ps x is.
    told_on c.loop-pair.rest.now x (has_wide ps) c.is_wide.result c.in-Some.pair (c.loop-pair.invariant ps x is)
    (λ k v y at. c.in-Some.ensures.read k v y at) (λ y at. c.in-Some.ensures.none y at) (λ v at. c.is_wide.ensures v at) c.if-is_wide.false

pub returns : goal.returns
returns c = λ ps x is. told_none c.loop-pair.rest.now x (has_wide ps) (c.loop-pair.invariant ps x is) (λ k v y at. c.in_default.ensures.read k v y at)
