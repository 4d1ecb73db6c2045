use Rattle.std.proofs.Common.{ap}
use Rattle.std.specs.Prelude.{Some, refl, true, ◌≡◌}
use Rattle.lq_drill.proofs.Crashed.{leave_none}
use Rattle.lq_drill.specs.Player.{LeftInStep}
use Rattle.tests_drill.proofs.Looking.{moves, no_fault_met}
use Rattle.tests_drill.specs.Looks.{stands}
use Rattle.tests_drill.specs.declared.looker.Looked.{Looked}
use Rattle.tests_drill.specs.declared.looker.Looked.TheVariants.{Failed}
use Rattle.tests_drill.proofs.looker.LookerPlayer.step.Goals as goal

pub returns-clause-moves : goal.returns-clause-moves
returns-clause-moves g c = moves c.args.session c.args.self.now _ (g.S.Store.state c.args.store.now) c.requires.going (ap (λ (l : Looked). Some l) c.look.ensures) c.requires.opens

pub returns-clause-met : goal.returns-clause-met
returns-clause-met g c = λ faulted. no_fault_met faulted

pub returns-clause-crash : goal.returns-clause-crash
returns-clause-crash g c = λ jobs origin x dialect shows plays.
    leave_none (g.S.Store.state c.args.store.now).entries (LeftInStep (λ why. Failed why) origin.dialect jobs ((stands c.args.self.now).faulted ≡ true) c.args.session x) (g.S.Store.crashes c.args.store.now)

pub returns-clause-idle : goal.returns-clause-idle
returns-clause-idle g c = λ fresh same database stands_for none. refl

pub returns-clause-shut : goal.returns-clause-shut
returns-clause-shut g c = λ some. refl
