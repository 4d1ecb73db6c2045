use Rattle.laws_undo.proofs.Mending as lemma
use Rattle.laws_undo.proofs.laws.undo_mends.Goals as goal

pub returns : goal.returns
returns c = lemma.undo_mends c.update_mends.ensures c.parts_of_any.ensures c.last_text_tells.ensures c.statements_read_back.ensures
