use Rattle.std.proofs.Common.{ap, sym, ◌∙◌}
use Rattle.std.specs.Prelude.{Option}
use Rattle.lq_back.specs.declared.row_turns.RowTurns.{RowTurns}
use Rattle.lq_players.proofs.Results.{ok_map}
use Rattle.lq_players.specs.RollingBack.{back_reports, turns_end}
use Rattle.lq_playing.specs.Answers.{came}
use Rattle.lq_players.proofs.rolling_back.RollingBackChecks.answer.Goals as goal

pub returns-in-Some-clause-ends : goal.returns-in-Some-clause-ends
returns-in-Some-clause-ends c =
    ok_map c.answer_at_end.result _ _ c.answer_at_end.ensures.ends (λ a is. ap (came (back_reports c.args.self.now)) (is ∙ ap (λ (turns : Option RowTurns). turns_end turns c.args.refused) (sym c.in-Some.is)))

pub returns-in-None-clause-ends : goal.returns-in-None-clause-ends
returns-in-None-clause-ends c = ap (λ (turns : Option RowTurns). came (back_reports c.args.self.now) (turns_end turns c.args.refused)) (sym c.in-None.is)
