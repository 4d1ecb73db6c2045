use Rattle.std.proofs.Common.{sym, ◌∙◌}
use Rattle.lq_tableops.proofs.TargetLemmas.{untargeted}
use Rattle.lq_tableops.proofs.needs.is_targeted.Goals as goal

pub returns-then-not-has_targets : goal.returns-then-not-has_targets
returns-then-not-has_targets c =
    sym (untargeted c.args.table.now c.args.parts.now.now c.requires (sym c.has_targets.ensures ∙ c.if-not-has_targets.true))
