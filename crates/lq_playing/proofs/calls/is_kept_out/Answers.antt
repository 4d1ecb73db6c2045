use Rattle.std.proofs.Common.{ap, ◌∙◌}
use Rattle.std.specs.Prelude.{◌&&◌, ◌≡◌}
use Rattle.lq_run.proofs.Losing.{told_map}
use Rattle.lq_playing.proofs.calls.is_kept_out.Goals as goal

pub returns : goal.returns
returns g c = λ d stamp. told_map _ c.lock.result.now (λ lock. c.needs_held.result ≡ ((g.T.Checks.job c.args.source.now d stamp).needs_lock && lock.locked)) (c.lock.ensures c.requires.live)
    (c.needs_held.ensures ∙ ap (λ b. b && c.lock.result.now.locked) (c.needs_lock-needs.ensures d stamp))
