use Rattle.std.proofs.Common.{drop}
use Rattle.lq_parts.proofs.TargetLemmas.{Discounting}
use Rattle.lq_parts.proofs.targets.discount_keys.Given as goal

abbrev pub invariant-loop-key : goal.invariant-loop-key
invariant-loop-key l = Discounting l.fn.counts l.keys l.counts (drop l.key-index l.keys)
