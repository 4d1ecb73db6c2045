use Rattle.laws_any_partial.proofs.AnyPart as lemma
use Rattle.laws_any_partial.proofs.laws.parts_of_any.Goals as goal

pub returns : goal.returns
returns c = lemma.parts
