use Rattle.std.proofs.Common.{◌≡◌, ◌++◌, drop, map, true}
use Rattle.std.specs.List.{list_all}
use Rattle.lq_base.specs.Name.{is_name}
use Rattle.lq_tree.specs.Look.{map_found}
use Rattle.lq_tree.specs.Given.{part_names}
use Rattle.lq_tree.proofs.names.part_names.Given as goal

abbrev pub invariant-loop-part : goal.invariant-loop-part
invariant-loop-part l = (part_names (map (λ part. part.now) l.parts) ≡ map_found (λ more. l.names ++ more) (part_names (map (λ part. part.now) (drop l.part-index l.parts)))) × (list_all is_name l.names ≡ true)
