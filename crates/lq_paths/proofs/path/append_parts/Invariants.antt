use Rattle.std.proofs.Common.{◌≡◌, ◌++◌, drop, map}
use Rattle.lq_paths.specs.Paths.{behind_slashes}
use Rattle.lq_paths.proofs.path.append_parts.Given as goal

abbrev pub invariant-loop-part : goal.invariant-loop-part
invariant-loop-part l = l.text ++ behind_slashes (map (λ p. p.now) (drop l.part-index l.rest)) ≡ l.initial.text ++ behind_slashes (map (λ p. p.now) l.rest)
