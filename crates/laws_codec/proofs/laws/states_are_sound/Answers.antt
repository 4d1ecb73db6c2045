use Rattle.laws_codec.proofs.Read as lemma
use Rattle.laws_codec.proofs.laws.states_are_sound.Goals as goal

pub returns : goal.returns
returns c = lemma.states_are_sound
