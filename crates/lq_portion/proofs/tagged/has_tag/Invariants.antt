use Rattle.std.proofs.Common.{length, ◌≡◌}
use Rattle.lq_portion.proofs.tagged.has_tag.Given as goal
use Rattle.lq_seen.specs.View.{tag_of}
use Rattle.lq_turns.specs.Script.{has_tag}

abbrev pub invariant-loop-rest : goal.invariant-loop-rest
invariant-loop-rest l = has_tag l.tag (tag_of l.changes) ≡ has_tag l.tag (tag_of l.rest)

abbrev pub decreases-loop-rest : goal.decreases-loop-rest
decreases-loop-rest l = length l.rest
