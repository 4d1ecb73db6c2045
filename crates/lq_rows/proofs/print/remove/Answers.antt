use Rattle.lq_rows.proofs.PrintLemmas.{prints_removed}
use Rattle.lq_rows.proofs.print.remove.Goals as goal

pub returns-in-Some : goal.returns-in-Some
returns-in-Some c = λ rows less are. prints_removed rows c.args.prints.now _ c.remove.new.self c.args.at c.in-Some.is c.remove.ensures.rest are
