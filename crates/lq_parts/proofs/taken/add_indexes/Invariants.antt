use Rattle.std.proofs.Common.{drop}
use Rattle.lq_base.specs.Name.{beside}
use Rattle.lq_model.specs.declared.index.Index.{Index}
use Rattle.lq_parts.proofs.TakenLemmas.{Gathers}
use Rattle.lq_parts.proofs.taken.add_indexes.Given as goal

abbrev pub invariant-loop-index : goal.invariant-loop-index
invariant-loop-index l = Gathers Index (λ (x : Index). beside l.table x.name) l.fn.set l.indexes l.set (drop l.index-index l.indexes)
