use Rattle.std.proofs.Common.{map}
use Rattle.lq_query.proofs.AskedLemmas.{asked_by}
use Rattle.lq_query.proofs.asked.answer_by.Goals as goal

pub returns : goal.returns
returns c catalogue all there same =
    asked_by c.args.by c.args.query.now catalogue c.args.columns.now (map (λ row. row.now) c.args.rows.now) all c.answer_of_rows.result there same c.answer_of_rows.ensures
