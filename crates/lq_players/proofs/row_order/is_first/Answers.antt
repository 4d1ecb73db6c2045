use Rattle.std.proofs.Common.{ap}
use Rattle.lq_players.specs.AnyCommand.{has_order}
use Rattle.lq_plan.proofs.Indexed.{found_none, found_row}
use Rattle.lq_track.specs.Log.{identity_of}
use Rattle.lq_players.proofs.row_order.is_first.Goals as goal

pub returns-in-Some : goal.returns-in-Some
returns-in-Some c = λ rows has.
    ap (has_order c.args.row.now.order)
    (found_row rows (identity_of c.args.row.now) c.args.index.now (c.as_str.result, c.as_str-2.result, c.as_str-3.result) has c.as_str-3.ensures c.as_str.ensures c.as_str-2.ensures c.get.result c.get.ensures.value c.in-Some.first c.in-Some.is)

pub returns-in-None : goal.returns-in-None
returns-in-None c = λ rows has.
    ap (has_order c.args.row.now.order)
    (found_none rows (identity_of c.args.row.now) c.args.index.now (c.as_str.result, c.as_str-2.result, c.as_str-3.result) has c.as_str-3.ensures c.as_str.ensures c.as_str-2.ensures c.get.result c.get.ensures.value c.in-None.is)
