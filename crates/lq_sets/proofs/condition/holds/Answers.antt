use Rattle.std.proofs.Common.{subst}
use Rattle.lq_sets.proofs.Seen.{conditions_see}
use Rattle.lq_sets.proofs.condition.holds.Goals as goal
use Rattle.lq_verdicts.specs.Verdict.{IsTold}

pub returns : goal.returns
returns g c = λ database stands. subst (λ m. IsTold m c.check.result) (conditions_see c.args.dialect c.args.asked.now c.args.rows.now (g.K.Look.catalogue c.args.look.now) database stands) c.check.ensures
