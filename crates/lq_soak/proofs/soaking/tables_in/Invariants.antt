use Rattle.std.proofs.Common.{◌≡◌, ◌≤◌}
use Rattle.lq_soak.specs.Soaked.{tables_there}
use Rattle.lq_soak.proofs.soaking.tables_in.Given as goal

abbrev pub invariant-loop-place : goal.invariant-loop-place
invariant-loop-place g l = (l.count ≤ l.place) × (l.count ≡ tables_there (g.K.Look.catalogue l.look) l.place)
