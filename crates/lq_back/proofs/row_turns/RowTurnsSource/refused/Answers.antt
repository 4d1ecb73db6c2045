use Rattle.lq_back.proofs.RowEntered.{stops_at}
use Rattle.lq_back.proofs.row_turns.RowTurnsSource.refused.Goals as goal

pub returns-clause-gives_up : goal.returns-clause-gives_up
returns-clause-gives_up c = λ d stamp told.
    stops_at c.args.self.now c.take_back.new.outcome c.take_back.ensures.told c.take_back.ensures.printed c.take_back.ensures.not_fresh c.take_back.ensures.others.0 d stamp told
