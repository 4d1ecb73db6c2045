use Rattle.std.proofs.Common.{◌≡◌, drop}
use Rattle.lq_model.specs.declared.constraint.Unique.{Unique}
use Rattle.lq_generate.specs.Faults.{first_of, listed_fault}
use Rattle.lq_generate.proofs.faults.unique_fault.Given as goal

abbrev pub invariant-loop-unique : goal.invariant-loop-unique
invariant-loop-unique l = first_of (λ (u : Unique). listed_fault l.table u.columns) (drop l.unique-index l.uniques) ≡ first_of (λ (u : Unique). listed_fault l.table u.columns) l.uniques
