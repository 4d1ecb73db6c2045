use Rattle.lq_plan.proofs.Indexed.{keeps_also}
use Rattle.lq_plan.proofs.row_index.keep.Goals as goal

pub returns-in-Ok : goal.returns-in-Ok
returns-in-Ok c = keeps_also c.args.index.now c.insert.new.self (c.as_str.result, c.as_str-2.result, c.as_str-3.result) c.args.row c.as_str-3.ensures c.as_str.ensures c.as_str-2.ensures c.in-Ok.ensures.updates
