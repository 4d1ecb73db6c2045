use Rattle.std.proofs.Common.{subst}
use Rattle.lq_run.specs.Stands.{Names}
use Rattle.lq_run.proofs.holding.text_held.Goals as goal

pub returns : goal.returns
returns c = subst (λ who. Names who c.args.by.now c.name_held.result) c.as_str.ensures (subst (λ by. Names c.as_str.result.now by c.name_held.result) c.as_str-2.ensures c.name_held.ensures)
