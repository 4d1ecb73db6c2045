use Rattle.std.proofs.Common.{ap, of_z, sym, to_z, to_z-of_z, ◌∙◌}
use Rattle.std.specs.Prelude.{Some, ◌≡◌}
use Rattle.lq_run.proofs.Names.{holds_named, not_both, otherwise_granted, unlocked_lost}
use Rattle.lq_run.proofs.holding.held_by.Goals as goal
use mir.Syntax.{w64}

pub returns-then-not-locked : goal.returns-then-not-locked
returns-then-not-locked c = unlocked_lost c.args.stamp.now c.args.lock.now c.if-not-locked.true

pub returns-then-is_reading : goal.returns-then-is_reading
returns-then-is_reading c =
    let back : to_z w64 (of_z w64 c.args.at) ≡ c.args.at = to_z-of_z c.ranges.at in
    holds_named c.args.stamp.now c.args.lock.now c.args.by.now c.text_held.result c.if-not-locked.false (c.requires.granted ∙ ap Some (sym back ∙ c.is_reading.ensures.0 c.if-is_reading.true)) c.requires.by c.text_held.ensures

pub returns : goal.returns
returns c =
    let back : to_z w64 (of_z w64 c.args.at) ≡ c.args.at = to_z-of_z c.ranges.at in
    otherwise_granted c.args.stamp.now c.args.lock.now c.args.at c.requires.granted (λ is. not_both c.is_reading.result (c.is_reading.ensures.1 (back ∙ is)) c.if-is_reading.false)
