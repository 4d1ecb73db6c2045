use Rattle.laws_repair.proofs.LastText as lemma
use Rattle.laws_repair.proofs.laws.last_text_tells.Goals as goal

pub returns : goal.returns
returns c = lemma.last_text_tells
