use Rattle.std.proofs.Common.{◌≡◌, length}
use Rattle.lq_outside.specs.Forms.{Took}
use Rattle.lq_outside.proofs.pieces.write_all.Given as goal

abbrev pub invariant-loop-rest : goal.invariant-loop-rest
invariant-loop-rest g l = Took l.piece l.rest (g.S.Sink.told l.fn.to) (g.S.Sink.told l.to) × (g.S.Sink.faults l.to ≡ g.S.Sink.faults l.fn.to)

abbrev pub decreases-loop-rest : goal.decreases-loop-rest
decreases-loop-rest g l = length l.rest
