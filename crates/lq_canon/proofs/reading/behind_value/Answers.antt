use Rattle.std.proofs.Common.{None, arith, rules, sym, ◌≡◌}
use Rattle.lq_canon.specs.Passing.{place_of, stepped}
use Rattle.lq_canon.proofs.Walks.{begins_so, ends_there, leads_on, never_stuck}
use Rattle.lq_canon.proofs.reading.behind_value.Goals as goal

pub loop-place-init : goal.loop-place-init
loop-place-init c = (omega arith, λ v x is. begins_so v c.args.bytes.now x is)

pub returns-then-place-eq0-clause-read : goal.returns-then-place-eq0-clause-read
returns-then-place-eq0-clause-read c = λ v x is.
    ends_there c.loop-place.depth c.loop-place.rest.now x (place_of c.in-Some.place) (c.loop-place.invariant.1 v x is) (sym c.in-Some.ensures.read) (search rules)

pub loop-place-preserved : goal.loop-place-preserved
loop-place-preserved c = (
  search rules,
  λ v x is. leads_on c.loop-place.depth c.loop-place.rest.now x c.in-Some.place.depth c.in-Some.place.rest.now (c.loop-place.invariant.1 v x is) (sym c.in-Some.ensures.read) (search rules),
)

pub returns-clause-read : goal.returns-clause-read
returns-clause-read c = λ v x is.
    let none : None ≡ stepped c.loop-place.depth c.loop-place.rest.now = search rules in
    absurd (never_stuck c.loop-place.depth c.loop-place.rest.now x (c.loop-place.invariant.1 v x is) (sym none))
