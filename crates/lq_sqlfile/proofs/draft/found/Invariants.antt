use Rattle.std.proofs.Common.{◌≡◌, drop}
use Rattle.lq_sqlfile.specs.Words.{value_of}
use Rattle.lq_sqlfile.proofs.draft.found.Given as goal

abbrev pub invariant-loop-pair : goal.invariant-loop-pair
invariant-loop-pair l = value_of l.name (drop l.pair-index l.pairs) ≡ value_of l.name l.pairs
