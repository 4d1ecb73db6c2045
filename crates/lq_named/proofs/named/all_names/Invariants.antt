use Rattle.std.proofs.Common.{◌≡◌, drop}
use Rattle.lq_named.specs.Named.{are_names}
use Rattle.lq_named.proofs.named.all_names.Given as goal

abbrev pub invariant-loop-name : goal.invariant-loop-name
invariant-loop-name l = are_names (drop l.name-index l.names) ≡ are_names l.names
