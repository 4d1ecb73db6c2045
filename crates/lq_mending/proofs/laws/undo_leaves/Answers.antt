use Rattle.lq_mending.proofs.Marking as lemma
use Rattle.lq_mending.proofs.laws.undo_leaves.Goals as goal

pub returns : goal.returns
returns c = lemma.undo_leaves
