use Rattle.lq_plan.proofs.Indexed.{found_none, found_row}
use Rattle.lq_plan.proofs.row_index.row_at.Goals as goal

pub returns-in-Some : goal.returns-in-Some
returns-in-Some c = λ rows has. found_row rows c.args.of.now c.args.index.now (c.as_str.result, c.as_str-2.result, c.as_str-3.result) has c.as_str-3.ensures c.as_str.ensures c.as_str-2.ensures c.get.result c.get.ensures.value c.in-Some.row c.in-Some.is

pub returns-in-None : goal.returns-in-None
returns-in-None c = λ rows has. found_none rows c.args.of.now c.args.index.now (c.as_str.result, c.as_str-2.result, c.as_str-3.result) has c.as_str-3.ensures c.as_str.ensures c.as_str-2.ensures c.get.result c.get.ensures.value c.in-None.is
