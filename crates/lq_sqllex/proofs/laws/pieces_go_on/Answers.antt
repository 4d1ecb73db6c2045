use Rattle.lq_sqllex.proofs.PieceOrder.{pieces_go_on}
use Rattle.lq_sqllex.proofs.laws.pieces_go_on.Goals as goal

pub returns : goal.returns
returns c = pieces_go_on
