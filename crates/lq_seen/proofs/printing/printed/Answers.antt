use Rattle.lq_seen.proofs.Shown.{texted}
use Rattle.lq_seen.proofs.printing.printed.Goals as goal

pub returns : goal.returns
returns g c = texted g.P.SqlText.dialect c.args.identity.now c.in_ok-own.own c.args.statements.now c.in_ok-texts.texts c.in_ok-own.ensures c.in_ok-texts.ensures
