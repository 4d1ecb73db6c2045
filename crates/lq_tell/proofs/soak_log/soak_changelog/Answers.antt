use Rattle.lq_report.proofs.Appended.{then}
use Rattle.lq_tell.specs.SoakLog.{soak_changelog}
use Rattle.lq_tell.proofs.soak_log.soak_changelog.Goals as goal

pub returns : goal.returns
unfolding soak_changelog
returns c = then _ _ _ _ (then _ _ _ _ c.in_ok-text.ensures c.in_ok-append_sets.ensures) c.in_ok-push_str.ensures.ok
