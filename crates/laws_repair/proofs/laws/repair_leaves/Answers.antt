use Rattle.laws_repair.proofs.Repaired as lemma
use Rattle.laws_repair.proofs.laws.repair_leaves.Goals as goal

pub returns : goal.returns
returns c = lemma.repair_leaves
