use Rattle.std.proofs.Common.{Bool, List, map, not, ◌++◌, ◌≡◌}
use Rattle.lq_base.specs.declared.value.Value.{Value}
use Rattle.lq_model.specs.Truth.{takes}
use Rattle.lq_deletes.proofs.deleting.left.Given as goal

abbrev pub invariant-loop-row : goal.invariant-loop-row
invariant-loop-row l =
    let stays : List Value → Bool = λ row. not (takes l.test l.columns row) in
    l.marks.items ++ map stays l.row-iterator ≡ map stays l.rows.now
