use Rattle.std.proofs.Common.{◌≡◌, drop}
use Rattle.std.specs.List.{list_all}
use Rattle.lq_named.specs.Named.{has_names}
use Rattle.lq_named.proofs.named.all_foreign.Given as goal

abbrev pub invariant-loop-key : goal.invariant-loop-key
invariant-loop-key l = list_all has_names (drop l.key-index l.keys) ≡ list_all has_names l.keys
