use Rattle.std.proofs.Common.{sym, subst, map}
use Rattle.lq_paths.specs.Paths.{Enters, without_last}
use Rattle.lq_paths.proofs.Paths.{popped}
use Rattle.lq_paths.proofs.path.leave.Goals as goal

pub returns : goal.returns
returns c = subst (λ b. Enters b (without_last (map (λ q. q.now) c.args.way.now)) (map (λ q. q.now) c.pop.new.self)) (sym c.is_some.ensures) (popped c.args.way.now c.pop.new.self c.pop.result c.pop.ensures)
