use Rattle.std.proofs.Common.{codes}
use Rattle.std.specs.Fmt.{decimal}
use Rattle.lq_report.proofs.Appended.{on_ok, two}
use Rattle.lq_tell.proofs.SoakTexts.{twice}
use Rattle.lq_tell.specs.SoakLog.{view_text}
use Rattle.lq_tell.proofs.soak_log.append_view.Goals as goal

pub returns : goal.returns
unfolding view_text
returns c = on_ok c.append_counted-2.result c.append_counted-2.ensures (λ is.
    two _ _ _ _ _ (view_text c.args.place c.args.table) c.in_ok-append_counted.ensures is
    (twice (codes "{\"createView\":{\"viewName\":\"v") (decimal c.args.place) (codes "\",") (codes "\"selectQuery\":\"SELECT id FROM t") (decimal c.args.table) (codes "\"}}")))
