use Rattle.lq_turns.proofs.AtOnce.{clear_leaves}
use Rattle.lq_turns.proofs.laws.clear_leaves.Goals as goal

pub returns : goal.returns
returns c = clear_leaves
