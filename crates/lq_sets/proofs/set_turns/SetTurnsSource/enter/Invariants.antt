use Rattle.std.proofs.Common.{length}
use Rattle.lq_sets.specs.SetTurns.{IsReadFor}
use Rattle.lq_sets.proofs.Reached.{Reached}
use Rattle.lq_sets.proofs.set_turns.SetTurnsSource.enter.Given as goal

abbrev pub invariant-loop-item : goal.invariant-loop-item
invariant-loop-item g l = IsReadFor l.self l.dialect × Reached l.dialect l.stamp (g.K.Look.catalogue l.look) l.fn.self l.self

abbrev pub decreases-loop-item : goal.decreases-loop-item
decreases-loop-item g l = length l.self.items
