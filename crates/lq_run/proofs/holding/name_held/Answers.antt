use Rattle.std.proofs.Common.{subst}
use Rattle.lq_run.proofs.Names.{names_behind, names_none}
use Rattle.lq_run.specs.Stands.{StandsBehind}
use Rattle.lq_run.proofs.holding.name_held.Goals as goal

pub returns-in-Some : goal.returns-in-Some
returns-in-Some c = names_behind c.args.who.now c.args.by.now c.in-Some.rest.now c.mark_in.result c.in-Some.ensures (subst (λ z. StandsBehind z c.mark_in.result) c.as_bytes.ensures.value c.mark_in.ensures)

pub returns-in-None : goal.returns-in-None
returns-in-None c = names_none c.args.who.now c.args.by.now c.in-None.ensures
