use Rattle.std.proofs.Common.{drop, map, ◌++◌, ◌≡◌}
use Rattle.lq_model.specs.Catalogue.{placed}
use Rattle.lq_soundly.proofs.apart.push_placed.Given as goal

abbrev pub invariant-loop-name : goal.invariant-loop-name
invariant-loop-name l =
    l.to ++ placed l.table (map (λ n. n.now) (drop l.name-index l.names)) ≡ l.fn.to ++ placed l.table (map (λ n. n.now) l.names)
