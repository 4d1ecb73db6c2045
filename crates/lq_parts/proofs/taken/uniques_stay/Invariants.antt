use Rattle.std.proofs.Common.{drop, map, ◌≡◌}
use Rattle.lq_parts.specs.Taken.{begins}
use Rattle.lq_parts.proofs.taken.uniques_stay.Given as goal

abbrev pub invariant-loop-one : goal.invariant-loop-one
invariant-loop-one l = begins (map (λ u. u.name) (drop l.one-index l.old)) (map (λ u. u.name) l.left) ≡ begins (map (λ u. u.name) l.old) (map (λ u. u.name) l.new)
