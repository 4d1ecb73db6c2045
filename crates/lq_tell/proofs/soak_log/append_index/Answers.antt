use Rattle.std.proofs.Common.{codes}
use Rattle.std.specs.Fmt.{decimal}
use Rattle.lq_report.proofs.Appended.{on_ok}
use Rattle.lq_tell.proofs.SoakTexts.{three, twice_then}
use Rattle.lq_tell.specs.SoakLog.{index_text}
use Rattle.lq_tell.proofs.soak_log.append_index.Goals as goal

pub returns : goal.returns
unfolding index_text
returns c = on_ok c.push_str.result c.push_str.ensures.ok (λ is.
    three _ _ _ _ _ _ _ (index_text c.args.place c.args.table) c.in_ok-append_counted.ensures c.in_ok-append_counted-2.ensures is
    (twice_then (codes "{\"createIndex\":{\"indexName\":\"ix") (decimal c.args.place) (codes "\",") (codes "\"tableName\":\"t") (decimal c.args.table) (codes "\",\"columns\":[") (codes "{\"column\":{\"name\":\"a\"}}]}}")))
