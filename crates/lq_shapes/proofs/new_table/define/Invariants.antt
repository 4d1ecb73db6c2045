use Rattle.std.proofs.Common.{map, take, ◌≡◌}
use Rattle.std.specs.List.{list_any}
use Rattle.lq_base.specs.Value.{into_kind}
use Rattle.lq_model.specs.Tables.{key_column}
use Rattle.lq_model.specs.Kinds.{column_of, is_wide, is_wrong, literal_of}
use Rattle.lq_shapes.proofs.new_table.define.Given as goal

abbrev pub invariant-loop-def : goal.invariant-loop-def
invariant-loop-def l = record {
  columns : l.columns ≡ map (λ d. key_column l.key (column_of d)) (take l.def-index l.defs);
  wrong : l.is_wrong ≡ list_any (λ d. is_wrong (into_kind (literal_of d) d.kind)) (take l.def-index l.defs);
  wide : l.is_wide ≡ list_any (λ d. is_wide (into_kind (literal_of d) d.kind)) (take l.def-index l.defs);
}
