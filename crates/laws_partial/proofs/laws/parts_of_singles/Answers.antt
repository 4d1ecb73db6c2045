use Rattle.laws_partial.proofs.Singles as lemma
use Rattle.laws_partial.proofs.laws.parts_of_singles.Goals as goal

pub returns : goal.returns
returns c = lemma.parts
