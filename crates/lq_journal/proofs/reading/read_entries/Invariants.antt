use Rattle.std.proofs.Common.{length}
use Rattle.lq_journal.proofs.Entries.{ReadEntries}
use Rattle.lq_journal.proofs.reading.read_entries.Given as goal

abbrev pub invariant-loop-entry : goal.invariant-loop-entry
invariant-loop-entry l = ReadEntries l.bytes l.rest l.at l.entries

abbrev pub decreases-loop-entry : goal.decreases-loop-entry
decreases-loop-entry l = length l.rest
