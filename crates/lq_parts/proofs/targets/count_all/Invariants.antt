use Rattle.std.proofs.Common.{drop}
use Rattle.lq_parts.proofs.TargetLemmas.{Seen}
use Rattle.lq_parts.proofs.targets.count_all.Given as goal

abbrev pub invariant-loop-entry : goal.invariant-loop-entry
invariant-loop-entry l = Seen l.tables l.counts (drop l.entry-index l.tables)
