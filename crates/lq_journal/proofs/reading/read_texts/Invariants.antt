use Rattle.std.proofs.Common.{length}
use Rattle.lq_journal.proofs.Read.{ReadTexts}
use Rattle.lq_journal.proofs.reading.read_texts.Given as goal

abbrev pub invariant-loop-rest : goal.invariant-loop-rest
invariant-loop-rest l = ReadTexts l.texts l.bytes l.rest

abbrev pub decreases-loop-rest : goal.decreases-loop-rest
decreases-loop-rest l = length l.rest
