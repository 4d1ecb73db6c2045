use Rattle.std.proofs.Common.{◌≡◌, ◌≤◌, ◌++◌, length, take}
use Rattle.lq_model.proofs.append.append_all.Given as goal

abbrev pub invariant-loop-rest : goal.invariant-loop-rest
invariant-loop-rest g l = (l.to ++ l.rest ≡ l.initial.to ++ l.initial.rest) × (take l.before l.to ≡ l.initial.to) × (l.before ≤ length l.to)

abbrev pub decreases-loop-rest : goal.decreases-loop-rest
decreases-loop-rest g l = length l.rest
