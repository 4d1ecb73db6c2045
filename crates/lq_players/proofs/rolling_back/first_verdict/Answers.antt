use Rattle.std.proofs.Common.{ap, refl, subst, sym}
use Rattle.std.specs.Prelude.{Option}
use Rattle.lq_back.specs.declared.row_turns.RowTurns.{RowTurns}
use Rattle.lq_players.specs.RollingBack.{ComesTo}
use Rattle.lq_hand.specs.declared.hand.Hand.{Hand}
use Rattle.lq_playing.specs.declared.checks.Verdict.TheVariants as verdict
use Rattle.lq_turns.specs.declared.answer.Answer.TheVariants.{Done}
use Rattle.lq_players.proofs.rolling_back.first_verdict.Goals as goal

pub returns-in-Some : goal.returns-in-Some
returns-in-Some c = subst (λ (turns : Option RowTurns). ComesTo turns (verdict.Turns c.no_turn.result)) (sym c.in-Some.is) (ap (λ (hand : Hand). verdict.Turns hand) c.no_turn.ensures)

pub returns-in-None : goal.returns-in-None
returns-in-None c = subst (λ (turns : Option RowTurns). ComesTo turns (verdict.Answer Done)) (sym c.in-None.is) refl
