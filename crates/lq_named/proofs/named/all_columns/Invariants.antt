use Rattle.std.proofs.Common.{◌≡◌, drop}
use Rattle.std.specs.List.{list_all}
use Rattle.lq_base.specs.Name.{is_name_key}
use Rattle.lq_model.specs.declared.column.Column.{Column}
use Rattle.lq_named.proofs.named.all_columns.Given as goal

abbrev pub invariant-loop-column : goal.invariant-loop-column
invariant-loop-column l = list_all (λ (c : Column). is_name_key c.name) (drop l.column-index l.columns) ≡ list_all (λ (c : Column). is_name_key c.name) l.columns
