use Rattle.std.proofs.Common.{◌≡◌, ◌++◌, drop, map}
use Rattle.lq_cond.specs.Kinds.{names_of}
use Rattle.lq_cond.proofs.dialects.names_of.Given as goal

abbrev pub invariant-loop-part : goal.invariant-loop-part
invariant-loop-part l = names_of (map (λ part. part.now) l.parts) ≡ l.names ++ names_of (map (λ part. part.now) (drop l.part-index l.parts))
