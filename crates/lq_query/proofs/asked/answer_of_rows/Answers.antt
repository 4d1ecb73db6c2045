use Rattle.std.proofs.Common.{sym}
use Rattle.lq_query.proofs.AskedLemmas.{passed, refused}
use Rattle.lq_query.proofs.asked.answer_of_rows.Goals as goal

pub returns-in-Err : goal.returns-in-Err
returns-in-Err c = refused c.args.by c.args.query.now _ c.in-Err.reason (sym c.in-Err.ensures)

pub returns-in-Ok-answered_of : goal.returns-in-Ok-answered_of
returns-in-Ok-answered_of c = passed c.args.by c.args.query.now _ c.in-Ok-answered_of.answered (sym c.in-Ok.ensures) c.in-Ok-answered_of.ensures
