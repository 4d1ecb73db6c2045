use Rattle.std.proofs.Common.{◌≡◌, ◌++◌, drop, map}
use Rattle.lq_generate.specs.Generated.{sequence_item}
use Rattle.lq_generate.proofs.sets.sequence_items.Given as goal

abbrev pub invariant-loop-entry : goal.invariant-loop-entry
invariant-loop-entry l = l.nodes ++ map sequence_item (drop l.entry-index l.sequences) ≡ map sequence_item l.sequences
