use Rattle.std.proofs.Common.{◌≡◌, ◌++◌, length, map}
use Rattle.lq_sound_table.proofs.own.push_indexes.Given as goal

abbrev pub invariant-loop-rest : goal.invariant-loop-rest
invariant-loop-rest l = map (λ n. n.now) l.to ++ map (λ i. i.name) l.rest ≡ map (λ n. n.now) l.fn.to ++ map (λ i. i.name) l.indexes

abbrev pub decreases-loop-rest : goal.decreases-loop-rest
decreases-loop-rest l = length l.rest
