use Rattle.std.proofs.Common.{◌≡◌, take}
use Rattle.lq_store.specs.Journal.{of_texts, size_of_all}
use Rattle.lq_entries.proofs.writing.size_of_all.Given as goal

abbrev pub invariant-loop-entry : goal.invariant-loop-entry
invariant-loop-entry l = l.size ≡ size_of_all (of_texts (take l.entry-index l.entries))
