use Rattle.std.proofs.Common.{◌≡◌, drop, ◌&&◌}
use Rattle.std.specs.List.{list_all}
use Rattle.lq_base.specs.Name.{is_name_key}
use Rattle.lq_model.specs.declared.index.Index.{Index}
use Rattle.lq_named.specs.Named.{are_names}
use Rattle.lq_named.proofs.named.all_indexes.Given as goal

abbrev pub invariant-loop-index : goal.invariant-loop-index
invariant-loop-index l = list_all (λ (x : Index). is_name_key x.name && are_names x.columns) (drop l.index-index l.indexes) ≡ list_all (λ (x : Index). is_name_key x.name && are_names x.columns) l.indexes
