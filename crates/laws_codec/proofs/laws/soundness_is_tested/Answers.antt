use Rattle.laws_codec.proofs.Read as lemma
use Rattle.laws_codec.proofs.laws.soundness_is_tested.Goals as goal

pub returns : goal.returns
returns c = lemma.is_tested
