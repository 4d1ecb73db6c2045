use Rattle.std.proofs.Common.{sym, ◌∙◌}
use Rattle.lq_rowops.proofs.TargetLemmas.{no_child}
use Rattle.lq_rowops.proofs.orphan.children_lost.Goals as goal

pub returns-then-not-sets_target : goal.returns-then-not-sets_target
returns-then-not-sets_target c =
    sym (no_child c.args.table.now c.args.sets.now c.args.parts.now.now (sym c.sets_target.ensures ∙ c.if-not-sets_target.true) c.requires)
