use Rattle.std.proofs.Common.{drop, map, ◌≡◌}
use Rattle.lq_model.specs.Kinds as kinds
use Rattle.lq_keyops.proofs.foreign.same_kinds.Given as goal

abbrev pub invariant-loop-name : goal.invariant-loop-name
invariant-loop-name l =
    kinds.same_kinds (map (λ n. kinds.kind_of n l.columns) (drop l.name-index l.names)) (map (λ n. kinds.kind_of n l.others) l.left)
    ≡ kinds.same_kinds (map (λ n. kinds.kind_of n l.columns) l.names) (map (λ n. kinds.kind_of n l.others) l.targets)
