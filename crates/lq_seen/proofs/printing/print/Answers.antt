use Rattle.std.proofs.Common.{ap, ◌++◌, ◌∙◌, ◌∷◌, []}
use Rattle.lq_base.specs.declared.run.Printed.{Printed}
use Rattle.lq_seen.proofs.printing.print.Goals as goal

pub returns : goal.returns
returns g c = c.in_ok-push.ensures.ok ∙ ap (λ (p : Printed). c.args.to.now ++ p ∷ []) c.in_ok-made.ensures
