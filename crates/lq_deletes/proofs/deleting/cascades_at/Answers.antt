use Rattle.std.proofs.Common.{sym, ◌∙◌}
use Rattle.lq_deletes.proofs.TargetLemmas.{unaimed, uncascaded}
use Rattle.lq_deletes.proofs.deleting.cascades_at.Goals as goal

pub returns-then-not-has_targets : goal.returns-then-not-has_targets
returns-then-not-has_targets c =
    let db = c.args.parts.now.now in
    let t = c.args.table.now in
    sym (uncascaded t db (unaimed t db c.requires (sym c.has_targets.ensures ∙ c.if-not-has_targets.true)))
