use Rattle.lq_unrecorded.proofs.MarkParts as lemma
use Rattle.lq_unrecorded.proofs.laws.marks_are_parts.Goals as goal

pub returns : goal.returns
returns c = lemma.parts
