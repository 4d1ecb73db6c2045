use Rattle.lq_sets.proofs.Turned.{finishes}
use Rattle.lq_sets.proofs.set_turns.SetTurnsSource.finished.Goals as goal

pub returns-clause-knows : goal.returns-clause-knows
returns-clause-knows c = λ d stamp told z awaits. finishes c.args.self.now d stamp told c.count_in.new.turn c.min-self.result c.count_in.new.not_fresh z c.min-self.ensures c.count_in.ensures.counted awaits
