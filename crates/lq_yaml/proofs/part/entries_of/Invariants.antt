use Rattle.std.proofs.Common.{◌≡◌}
use Rattle.lq_yaml.proofs.part.entries_of.Given as goal

abbrev pub invariant-loop-entry : goal.invariant-loop-entry
invariant-loop-entry l = l.list ≡ l.yielded
