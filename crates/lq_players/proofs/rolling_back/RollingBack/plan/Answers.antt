use Rattle.std.proofs.Common.{subst, sym, ◌∙◌}
use Rattle.std.specs.Prelude.{List}
use Rattle.lq_base.specs.declared.tracking.Tracked.{Tracked}
use Rattle.lq_players.specs.RollingBack.{Plans}
use Rattle.lq_players.proofs.rolling_back.RollingBack.plan.Goals as goal

pub returns-in-Ok-clause-plans : goal.returns-in-Ok-clause-plans
returns-in-Ok-clause-plans g c = λ database stands.
    subst (λ (rows : List Tracked). Plans c.args.self.now c.args.dialect rows c.plan_on.result) (c.as_slice.ensures ∙ sym (c.in-Ok.ensures database stands)) c.plan_on.ensures.plans
