use Rattle.std.proofs.Common.{drop}
use Rattle.lq_parts.proofs.TargetLemmas.{Counting}
use Rattle.lq_parts.proofs.targets.count_keys.Given as goal

abbrev pub invariant-loop-key : goal.invariant-loop-key
invariant-loop-key l = Counting l.fn.counts l.keys l.counts (drop l.key-index l.keys)
