use Rattle.std.proofs.Common.{drop}
use Rattle.lq_base.specs.Name.{beside}
use Rattle.lq_model.specs.declared.constraint.Unique.{Unique}
use Rattle.lq_parts.proofs.TakenLemmas.{Gathers}
use Rattle.lq_parts.proofs.taken.add_uniques.Given as goal

abbrev pub invariant-loop-unique : goal.invariant-loop-unique
invariant-loop-unique l = Gathers Unique (λ (x : Unique). beside l.table x.name) l.fn.set l.uniques l.set (drop l.unique-index l.uniques)
