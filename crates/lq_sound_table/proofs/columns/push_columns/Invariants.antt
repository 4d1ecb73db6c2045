use Rattle.std.proofs.Common.{◌≡◌, ◌++◌, length, map}
use Rattle.lq_sound_table.proofs.columns.push_columns.Given as goal

abbrev pub invariant-loop-rest : goal.invariant-loop-rest
invariant-loop-rest l = map (λ n. n.now) l.to ++ map (λ c. c.name) l.rest ≡ map (λ n. n.now) l.fn.to ++ map (λ c. c.name) l.columns

abbrev pub decreases-loop-rest : goal.decreases-loop-rest
decreases-loop-rest l = length l.rest
