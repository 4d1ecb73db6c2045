use Rattle.laws_codec.proofs.Read as lemma
use Rattle.laws_codec.proofs.laws.nothing_is_zeros.Goals as goal

pub returns : goal.returns
returns c = lemma.is_zeros
