use Rattle.std.proofs.Common.{◌≡◌, ◌++◌, drop}
use Rattle.lq_sqltree.specs.SqlTree.{keys_of}
use Rattle.lq_sqltree.proofs.attributes.keys_of.Given as goal

abbrev pub invariant-loop-pair : goal.invariant-loop-pair
invariant-loop-pair l = l.keys ++ keys_of l.which (drop l.pair-index l.pairs) ≡ keys_of l.which l.pairs
