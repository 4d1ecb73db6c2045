use Rattle.std.proofs.Common.{codes}
use Rattle.std.specs.Fmt.{decimal}
use Rattle.lq_report.proofs.Appended.{on_ok}
use Rattle.lq_tell.proofs.SoakTexts.{four, once}
use Rattle.lq_tell.specs.SoakLog.{table_text}
use Rattle.lq_tell.proofs.soak_log.append_table.Goals as goal

pub returns : goal.returns
unfolding table_text
returns c = on_ok c.push_str-3.result c.push_str-3.ensures.ok (λ is.
    four _ _ _ _ _ _ _ _ _ (table_text c.args.place) c.in_ok-append_counted.ensures c.in_ok-push_str.ensures.ok c.in_ok-push_str-2.ensures.ok is
    (once (codes "{\"createTable\":{\"tableName\":\"t") (decimal c.args.place) (codes "\",\"columns\":[") (codes "{\"column\":{\"name\":\"id\",\"type\":\"int\",\"constraints\":{\"primaryKey\":true}}},")
    (codes "{\"column\":{\"name\":\"a\",\"type\":\"varchar(20)\"}},") (codes "{\"column\":{\"name\":\"b\",\"type\":\"bigint\"}}]}}")))
