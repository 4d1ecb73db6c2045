use Rattle.std.proofs.Common.{refl, subst, sym}
use Rattle.lq_players.specs.Updating.{TakesTurns}
use Rattle.lq_players.proofs.updating.Updating.take_turns.Goals as goal

pub returns-in-Ok : goal.returns-in-Ok
returns-in-Ok c = subst (λ planned. TakesTurns planned c.args.self.now c.follow.new.self c.follow.result) (sym c.in-Ok.is) c.follow.ensures

pub returns-in-Err : goal.returns-in-Err
returns-in-Err c = subst (λ planned. TakesTurns planned c.args.self.now c.args.self.now c.in-Err.refusal) (sym c.in-Err.is) (refl, refl)
