use Rattle.lq_back.proofs.row_turns.RowTurnsSource.finished.Goals as goal

pub returns-clause-knows : goal.returns-clause-knows
returns-clause-knows c = λ d stamp told z knows. knows
