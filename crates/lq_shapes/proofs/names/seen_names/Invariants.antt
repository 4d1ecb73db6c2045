use Rattle.std.proofs.Common.{drop}
use Rattle.lq_shapes.proofs.ShownLemmas.{Gathers}
use Rattle.lq_shapes.proofs.names.seen_names.Given as goal

abbrev pub invariant-loop-name : goal.invariant-loop-name
invariant-loop-name l = Gathers l.names l.seen (drop l.name-index l.names)
