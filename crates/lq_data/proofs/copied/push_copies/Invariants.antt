use Rattle.std.proofs.Common.{length, take, ◌++◌, ◌≡◌}
use Rattle.lq_data.proofs.copied.push_copies.Given as goal

abbrev pub invariant-loop-statement : goal.invariant-loop-statement
invariant-loop-statement l = (l.to ≡ l.initial.to ++ take l.statement-index l.statements) × (l.before ≡ length l.initial.to)
