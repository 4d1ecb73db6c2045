use Rattle.laws_undo.proofs.Undoing as lemma
use Rattle.laws_undo.proofs.laws.parts_are_taken_back.Goals as goal

pub returns : goal.returns
returns c = lemma.parts_are_taken_back c.parts_of_any.ensures c.last_text_tells.ensures c.statements_read_back.ensures
