use Rattle.std.proofs.Common.{drop}
use Rattle.lq_model.specs.declared.constraint.ForeignKey.{ForeignKey}
use Rattle.lq_parts.proofs.TakenLemmas.{Gathers}
use Rattle.lq_parts.proofs.taken.add_foreign_keys.Given as goal

abbrev pub invariant-loop-key : goal.invariant-loop-key
invariant-loop-key l = Gathers ForeignKey (λ (x : ForeignKey). x.name) l.fn.set l.keys l.set (drop l.key-index l.keys)
