use Rattle.lq_back.proofs.RowEntered.{printed_is}
use Rattle.lq_back.proofs.row_turns.print_turn.Goals as goal

pub print-requires : goal.print-requires
print-requires g c = rw c.as_slice.ensures c.requires

pub returns : goal.returns
returns g c = printed_is g.P.SqlText.dialect c.args.turn.now c.args.to.now c.print.new.to c.as_slice.result.now c.in_ok-print.ensures c.as_slice.ensures
