use Rattle.std.proofs.Common.{◌≡◌, length}
use Rattle.lq_outside.specs.Forms.{held_in}
use Rattle.lq_outside.proofs.folder.find.Given as goal

abbrev pub invariant-loop-rest : goal.invariant-loop-rest
invariant-loop-rest l = held_in l.rest l.path ≡ held_in l.files l.path

abbrev pub decreases-loop-rest : goal.decreases-loop-rest
decreases-loop-rest l = length l.rest
