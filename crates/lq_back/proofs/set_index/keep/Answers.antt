use Rattle.std.proofs.Common.{rules}
use Rattle.lq_back.proofs.Indexed.{keeps_here}
use Rattle.lq_back.proofs.set_index.keep.Goals as goal

pub returns-in-Ok : goal.returns-in-Ok
returns-in-Ok c = keeps_here c.args.index.now c.insert.new.self (c.as_str.result, c.as_str-2.result, c.as_str-3.result) (record { index = c.args.place; set = c.args.set }) (search rules) c.as_str-3.ensures c.as_str.ensures c.as_str-2.ensures c.in-Ok.ensures.updates
