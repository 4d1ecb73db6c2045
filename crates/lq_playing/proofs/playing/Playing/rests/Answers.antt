use Rattle.std.proofs.Common.{refl, subst, sym}
use Rattle.lq_resting.specs.Asking.{asks_open}
use Rattle.lq_playing.specs.Resting.{RestsAs}
use Rattle.lq_playing.proofs.playing.Playing.rests.Goals as goal

pub returns-in-None-clause-rests : goal.returns-in-None-clause-rests
returns-in-None-clause-rests g c = λ d. (c.in-None.ensures d, refl, refl)

pub returns-in-Some-clause-rests : goal.returns-in-Some-clause-rests
returns-in-Some-clause-rests g c = λ d.
    subst (λ r. RestsAs d c.args.self.now.runner.stamp c.args.self.now.runner.fault (asks_open c.args.self.now.runner.hand) (g.S.Store.state c.args.store.now) c.args.self.now.answer c.args.self.now.faulted c.fail.new.self.answer c.fail.new.self.faulted r) (sym c.fail.ensures.answers.2)
    (c.in-Some.fault, c.in-Some.ensures d, refl, (c.fail.ensures.answers.0, c.fail.ensures.answers.1, refl))
