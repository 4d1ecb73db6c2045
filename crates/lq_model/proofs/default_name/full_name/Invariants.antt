use Rattle.std.proofs.Common.{◌≡◌, ◌++◌, take, codes, false, string_bytes}
use Rattle.std.specs.List.{flat_map}
use Rattle.lq_base.specs.Number.{has_control}
use Rattle.lq_base.specs.Name.{text_of}
use Rattle.lq_model.proofs.default_name.full_name.Given as goal

abbrev pub invariant-loop-column : goal.invariant-loop-column
invariant-loop-column l =
    (string_bytes l.text ≡ l.fn.prefix ++ text_of l.fn.table ++ flat_map (λ column. codes "_" ++ text_of column) (take l.column-index l.columns))
    × (has_control (string_bytes l.text) ≡ false)
