use Rattle.std.proofs.Common.{◌≡◌, drop}
use Rattle.lq_sqlfile.specs.Words.{has_name}
use Rattle.lq_sqlfile.proofs.pair.has_name.Given as goal

abbrev pub invariant-loop-pair : goal.invariant-loop-pair
invariant-loop-pair l = has_name l.name (drop l.pair-index l.pairs) ≡ has_name l.name l.pairs
