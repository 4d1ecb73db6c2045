use Rattle.laws_partial.proofs.AddColumn as lemma
use Rattle.laws_partial.proofs.laws.parts_of_columns.Goals as goal

pub returns : goal.returns
returns c = lemma.parts
