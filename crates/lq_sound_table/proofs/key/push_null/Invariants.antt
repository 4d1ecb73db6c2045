use Rattle.std.proofs.Common.{◌≡◌, ◌++◌, length, map}
use Rattle.lq_sound_table.specs.Pieces.{null_names}
use Rattle.lq_sound_table.proofs.key.push_null.Given as goal

abbrev pub invariant-loop-rest : goal.invariant-loop-rest
invariant-loop-rest l = map (λ n. n.now) l.to ++ null_names l.rest ≡ map (λ n. n.now) l.fn.to ++ null_names l.columns

abbrev pub decreases-loop-rest : goal.decreases-loop-rest
decreases-loop-rest l = length l.rest
