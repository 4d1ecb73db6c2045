use Rattle.std.proofs.Common.{ap, refl, rules, sym, ◌∙◌}
use Rattle.std.specs.Prelude.{[], reverse, ◌++◌, ◌≡◌}
use Rattle.lq_laying.specs.Laying.{marked_calls}
use Rattle.lq_laying.proofs.turn.push_all.Goals as goal

pub loop-alloc-init : goal.loop-alloc-init
loop-alloc-init c = refl

pub loop-alloc-preserved : goal.loop-alloc-preserved
loop-alloc-preserved c = c.in_ok-push_one.ensures.same ∙ c.loop-alloc.invariant

pub loop-alloc-smaller : goal.loop-alloc-smaller
loop-alloc-smaller c = c.in_ok-push_one.ensures.fewer

pub returns-in_err-push_one : goal.returns-in_err-push_one
returns-in_err-push_one c = search rules

pub returns : goal.returns
returns c =
    let none : c.loop-alloc.statements ≡ [] = search rules in
    sym (ap (λ ss. marked_calls c.args.marking.now ss ++ reverse c.loop-alloc.calls) none) ∙ c.loop-alloc.invariant
