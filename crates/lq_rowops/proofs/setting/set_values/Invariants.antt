use Rattle.std.proofs.Common.{map, take, ◌≡◌}
use Rattle.std.specs.List.{list_any}
use Rattle.lq_model.specs.Kinds.{is_wide, is_wrong}
use Rattle.lq_model.specs.Rows.{set_value_of}
use Rattle.lq_rowops.specs.InsertTests.{value_set}
use Rattle.lq_rowops.proofs.setting.set_values.Given as goal

abbrev pub invariant-loop-set : goal.invariant-loop-set
invariant-loop-set l =
    let done = take l.set-index l.sets in
    (l.values ≡ map (value_set l.columns) done) × (l.is_wrong ≡ list_any (λ s. is_wrong (set_value_of l.columns s)) done) × (l.is_wide ≡ list_any (λ s. is_wide (set_value_of l.columns s)) done)
