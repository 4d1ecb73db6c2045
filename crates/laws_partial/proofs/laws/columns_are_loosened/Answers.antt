use Rattle.laws_partial.proofs.Loosened as lemma
use Rattle.laws_partial.proofs.laws.columns_are_loosened.Goals as goal

pub returns : goal.returns
returns c = (lemma.loosened, lemma.kind_loosened)
