use Rattle.std.proofs.Common.{◌≡◌, [], drop, map}
use Rattle.lq_paths.specs.Paths.{along}
use Rattle.lq_paths.proofs.path.along.Given as goal

abbrev pub invariant-loop-part : goal.invariant-loop-part
invariant-loop-part l = along (map (λ p. p.now) l.way) (map (λ p. p.now) (drop l.part-index l.parts)) ≡ along [] (map (λ p. p.now) l.parts)
