use Rattle.lq_model.specs.Tables.{retargeted}
use Rattle.lq_renames.proofs.Places.{IsPartly}
use Rattle.lq_renames.proofs.aims.retarget_all.Given as goal

abbrev pub invariant-loop-at : goal.invariant-loop-at
invariant-loop-at l = IsPartly (λ n. retargeted l.from l.to) l.at l.initial.parts l.parts
