use Rattle.std.proofs.Common.{rules}
use Rattle.lq_canon.proofs.PairsLeft.{passed_all, passed_on}
use Rattle.lq_canon.proofs.rewriting.behind_pairs.Goals as goal

pub loop-pair-init : goal.loop-pair-init
loop-pair-init c = (search rules, λ ps x is. record { left = ps; is = is })

pub loop-pair-preserved : goal.loop-pair-preserved
loop-pair-preserved c = (
  search rules,
  λ ps x is. passed_on c.loop-pair.rest.now x c.in-Some.pair (c.loop-pair.invariant.1 ps x is) (λ k v y at. c.in-Some.ensures.read k v y at) (λ y at. c.in-Some.ensures.none y at),
)

pub returns-clause-read : goal.returns-clause-read
returns-clause-read c = λ ps x is. passed_all c.loop-pair.rest.now x (c.loop-pair.invariant.1 ps x is) (λ k v y at. c.in_default.ensures.read k v y at)
