use Rattle.std.proofs.Common.{drop, ◌≡◌}
use Rattle.lq_decide.specs.Faults.{names_set}
use Rattle.lq_model.specs.Catalogue.{is_in}
use Rattle.lq_rowops.proofs.setting.is_set.Given as goal

abbrev pub invariant-loop-set : goal.invariant-loop-set
invariant-loop-set l = is_in l.name (names_set (drop l.set-index l.sets)) ≡ is_in l.name (names_set l.sets)
