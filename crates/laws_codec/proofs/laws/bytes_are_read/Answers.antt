use Rattle.laws_codec.proofs.Read as lemma
use Rattle.laws_codec.proofs.laws.bytes_are_read.Goals as goal

pub returns : goal.returns
returns c = lemma.are_read
