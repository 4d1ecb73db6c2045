use Rattle.lq_turns.proofs.AtOnce.{release_leaves}
use Rattle.lq_turns.proofs.laws.release_leaves.Goals as goal

pub returns : goal.returns
returns c = release_leaves
