use Rattle.std.proofs.Common.{drop, map, ◌≡◌}
use Rattle.std.specs.List.{list_any}
use Rattle.lq_base.specs.Name.{is_elsewhere}
use Rattle.lq_sound_table.proofs.own.one_elsewhere.Given as goal

abbrev pub invariant-loop-name : goal.invariant-loop-name
invariant-loop-name l = list_any is_elsewhere (map (λ n. n.now) (drop l.name-index l.names)) ≡ list_any is_elsewhere (map (λ n. n.now) l.names)
