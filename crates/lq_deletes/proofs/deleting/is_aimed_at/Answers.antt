use Rattle.std.proofs.Common.{sym, ◌∙◌}
use Rattle.lq_deletes.proofs.TargetLemmas.{unaimed}
use Rattle.lq_deletes.proofs.deleting.is_aimed_at.Goals as goal

pub returns-then-not-has_targets : goal.returns-then-not-has_targets
returns-then-not-has_targets c =
    sym (unaimed c.args.table.now c.args.parts.now.now c.requires (sym c.has_targets.ensures ∙ c.if-not-has_targets.true))
