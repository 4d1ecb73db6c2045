use Rattle.lq_turns.proofs.AtOnce.{tag_leaves}
use Rattle.lq_turns.proofs.laws.tag_leaves.Goals as goal

pub returns : goal.returns
returns c = tag_leaves
