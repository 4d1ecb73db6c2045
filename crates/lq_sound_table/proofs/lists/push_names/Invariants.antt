use Rattle.std.proofs.Common.{◌≡◌, ◌++◌, length, map}
use Rattle.lq_sound_table.proofs.lists.push_names.Given as goal

abbrev pub invariant-loop-rest : goal.invariant-loop-rest
invariant-loop-rest l = map (λ n. n.now) l.to ++ l.rest ≡ map (λ n. n.now) l.fn.to ++ l.names

abbrev pub decreases-loop-rest : goal.decreases-loop-rest
decreases-loop-rest l = length l.rest
