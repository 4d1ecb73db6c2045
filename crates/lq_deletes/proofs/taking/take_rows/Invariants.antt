use Rattle.std.proofs.Common.{Bool, List, map, ◌&&◌, ◌++◌, ◌≡◌}
use Rattle.lq_base.specs.declared.value.Value.{Value}
use Rattle.lq_model.specs.Truth.{takes}
use Rattle.lq_deletes.proofs.taking.take_rows.Given as goal

abbrev pub invariant-loop-row : goal.invariant-loop-row
invariant-loop-row l =
    let taken : List Value → Bool = λ row. l.is_its && takes l.test l.columns row in
    l.marks.items ++ map taken l.row-iterator ≡ l.fn.marks.items ++ map taken l.rows.now
