use Rattle.std.proofs.Common.{◌≡◌, ◌++◌, drop, map}
use Rattle.lq_contents.specs.Trees.{own_entry}
use Rattle.lq_contents.proofs.own.own_entries.Given as goal

abbrev pub invariant-loop-entry : goal.invariant-loop-entry
invariant-loop-entry l = l.made ++ map own_entry (drop l.entry-index l.entries) ≡ map own_entry l.entries
