use Rattle.lq_report.proofs.Appended.{on_ok}
use Rattle.lq_tell.proofs.SoakTexts.{in_set}
use Rattle.lq_tell.proofs.soak_log.append_set.Goals as goal

pub returns : goal.returns
returns c = on_ok c.push_str.result c.push_str.ensures.ok (λ is.
    in_set c.args.place c.args.kind c.args.table c.args.number c.args.to.now _ _ _ c.set_head.result.now c.set_head.ensures c.in_ok-append_counted.ensures c.in_ok-append_change.ensures is)
