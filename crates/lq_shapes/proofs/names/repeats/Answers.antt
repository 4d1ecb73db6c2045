use Rattle.std.proofs.Common.{arith, refl, sym, ◌∙◌, ◌-◌}
use Rattle.lq_shapes.proofs.ShownLemmas.{last_of, repeats_before, repeats_first, repeats_found}
use Rattle.lq_shapes.proofs.names.repeats.Goals as goal

pub loop-at-init : goal.loop-at-init
loop-at-init c = repeats_first c.new-seen.result c.args.names.now _ c.new-seen.ensures.empty refl

pub loop-at-preserved : goal.loop-at-preserved
loop-at-preserved c =
    let is = last_of c.args.names.now (c.loop-at.at - 1) c.loop-at.at _ c.index-names-at.result (omega arith) (omega arith) c.index-names-at.is in
    repeats_before _ _ _ _ c.loop-at.seen c.was_seen.new.seen is c.loop-at.invariant (sym c.in_ok-was_seen.ensures.before ∙ c.if-branch.false) c.in_ok-was_seen.ensures.after

pub returns-then-branch : goal.returns-then-branch
returns-then-branch c =
    let is = last_of c.args.names.now (c.loop-at.at - 1) c.loop-at.at _ c.index-names-at.result (omega arith) (omega arith) c.index-names-at.is in
    sym (repeats_found _ _ _ _ c.loop-at.seen is c.loop-at.invariant (sym c.in_ok-was_seen.ensures.before ∙ c.if-branch.true))
