use Rattle.std.proofs.Common.{rules, ◌≡◌, ◌∷◌}
use Rattle.lq_seen.proofs.Mapped.{all_mapped, more_mapped}
use Rattle.lq_back.proofs.sync_turn.marked.Goals as goal
use Rattle.lq_back.specs.Reversal.{mark_of}

pub loop-row-preserved : goal.loop-row-preserved
loop-row-preserved c =
    let is : c.loop-row.rest.now ≡ c.in-Some.row.now ∷ c.in-Some.after.now = search rules in
    more_mapped mark_of c.loop-row.rest.now c.in-Some.after.now c.in-Some.row.now c.loop-row.happened c.push.new.self _ _ is c.in_ok-push.ensures.ok c.in_ok-marked_of.ensures c.loop-row.invariant

pub returns : goal.returns
returns c = all_mapped mark_of c.loop-row.rest.now c.loop-row.happened _ (search rules) c.loop-row.invariant
