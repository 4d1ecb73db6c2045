use Rattle.std.proofs.Common.{refl, rules}
use Rattle.lq_canon.proofs.PairsLeft.{rest_all, written_all, written_on}
use Rattle.lq_canon.proofs.rewriting.append_pairs.Goals as goal

pub loop-pair-init : goal.loop-pair-init
loop-pair-init c = (search rules, λ ps x is. record { left = ps; is = is; gives = refl })

pub loop-pair-preserved : goal.loop-pair-preserved
loop-pair-preserved c = (
  search rules,
  λ ps x is. written_on c.args.wide c.args.name.now c.loop-pair.to.items c.append_pair.new.to.items _ c.loop-pair.rest.now x c.in-Some.pair (c.loop-pair.invariant.1 ps x is)
      (λ k v y at. c.in-Some.ensures.read k v y at) (λ y at. c.in-Some.ensures.none y at) (λ v at. rw (c.is_replaced.ensures) at c.in_ok-append_pair.ensures v at),
)

pub returns-clause-written : goal.returns-clause-written
returns-clause-written c = λ ps x is. written_all c.args.wide c.args.name.now c.loop-pair.to.items _ c.loop-pair.rest.now x (c.loop-pair.invariant.1 ps x is) (λ k v y at. c.in_default.ensures.read k v y at)

pub returns-clause-read : goal.returns-clause-read
returns-clause-read c = λ ps x is. rest_all c.args.wide c.args.name.now c.loop-pair.to.items _ c.loop-pair.rest.now x (c.loop-pair.invariant.1 ps x is) (λ k v y at. c.in_default.ensures.read k v y at)
