use Rattle.std.proofs.Common.{codes}
use Rattle.std.specs.Fmt.{decimal}
use Rattle.lq_report.proofs.Appended.{on_ok}
use Rattle.lq_tell.proofs.SoakTexts.{three, thrice}
use Rattle.lq_tell.specs.SoakLog.{column_text}
use Rattle.lq_tell.proofs.soak_log.append_column.Goals as goal

pub returns : goal.returns
unfolding column_text
returns c = on_ok c.append_counted-3.result c.append_counted-3.ensures (λ is.
    three _ _ _ _ _ _ _ (column_text c.args.place c.args.table c.args.value) c.in_ok-append_counted.ensures c.in_ok-append_counted-2.ensures is
    (thrice (codes "{\"addColumn\":{\"tableName\":\"t") (decimal c.args.table) (codes "\",\"columns\":[") (codes "{\"column\":{\"name\":\"c") (decimal c.args.place) (codes "\",\"type\":\"int\",")
    (codes "\"defaultValueNumeric\":") (decimal c.args.value) (codes "}}]}}")))
