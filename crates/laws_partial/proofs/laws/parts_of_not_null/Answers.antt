use Rattle.laws_partial.proofs.AddNotNull as lemma
use Rattle.laws_partial.proofs.laws.parts_of_not_null.Goals as goal

pub returns : goal.returns
returns c = lemma.parts
