use Rattle.std.proofs.Common.{ap, refl, subst, sym}
use Rattle.std.specs.Prelude.{None, Some}
use Rattle.lq_players.specs.Updating.{Follows}
use Rattle.lq_playing.specs.declared.checks.Verdict.TheVariants.{Answer, Turns}
use Rattle.lq_turns.specs.declared.answer.Answer.TheVariants.{Done}
use Rattle.lq_players.proofs.updating.Updating.follow.Goals as goal

pub returns-in-Turns : goal.returns-in-Turns
returns-in-Turns c =
    subst (λ p. Follows p c.args.self.now (record (c.args.self.now) { turns = Some c.in-Turns.source }) (Turns c.no_turn.result)) (sym c.in-Turns.is)
    (refl, ap (λ hand. Turns hand) c.no_turn.ensures)

pub returns-in-Idle : goal.returns-in-Idle
returns-in-Idle c = subst (λ p. Follows p c.args.self.now (record (c.args.self.now) { turns = None; report = c.in-Idle.report }) (Answer Done)) (sym c.in-Idle.is) (refl, refl)
