use Rattle.std.proofs.Common.{◌≡◌, drop, ◌&&◌}
use Rattle.std.specs.List.{list_all}
use Rattle.lq_base.specs.Name.{is_name_key}
use Rattle.lq_model.specs.declared.constraint.Unique.{Unique}
use Rattle.lq_named.specs.Named.{are_names}
use Rattle.lq_named.proofs.named.all_uniques.Given as goal

abbrev pub invariant-loop-unique : goal.invariant-loop-unique
invariant-loop-unique l = list_all (λ (u : Unique). is_name_key u.name && are_names u.columns) (drop l.unique-index l.uniques) ≡ list_all (λ (u : Unique). is_name_key u.name && are_names u.columns) l.uniques
