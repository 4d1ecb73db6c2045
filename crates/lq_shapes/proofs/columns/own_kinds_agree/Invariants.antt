use Rattle.std.proofs.Common.{drop, map, ◌≡◌}
use Rattle.lq_model.specs.Kinds.{kind_of, same_kinds}
use Rattle.lq_shapes.proofs.columns.own_kinds_agree.Given as goal

abbrev pub invariant-loop-name : goal.invariant-loop-name
invariant-loop-name l =
    same_kinds (map (λ n. kind_of n l.own) (drop l.name-index l.names)) (map (λ n. kind_of n l.own) l.left)
    ≡ same_kinds (map (λ n. kind_of n l.own) l.names) (map (λ n. kind_of n l.own) l.targets)
