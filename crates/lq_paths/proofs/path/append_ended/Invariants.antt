use Rattle.std.proofs.Common.{◌≡◌, ◌++◌, drop, map}
use Rattle.lq_paths.specs.Paths.{with_ends}
use Rattle.lq_paths.proofs.path.append_ended.Given as goal

abbrev pub invariant-loop-part : goal.invariant-loop-part
invariant-loop-part l = l.text ++ with_ends (map (λ p. p.now) (drop l.part-index l.parts)) ≡ l.initial.text ++ with_ends (map (λ p. p.now) l.parts)
