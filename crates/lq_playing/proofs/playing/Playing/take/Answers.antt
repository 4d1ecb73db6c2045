use Rattle.std.proofs.Common.{ap, refl, subst, sym, ◌∙◌}
use Rattle.std.specs.Prelude.{Err}
use Rattle.lq_playing.proofs.Told.{err_is, fault_beside, the_disk}
use Rattle.lq_playing.specs.Answers.{fault_of, is_disk_answer}
use Rattle.lq_playing.specs.Checked.{Begins}
use Rattle.lq_run.specs.Beside.{Beside}
use Rattle.lq_playing.proofs.playing.Playing.take.Goals as goal

pub returns-in-Ok-clause-begins : goal.returns-in-Ok-clause-begins
returns-in-Ok-clause-begins g c = (c.in-Ok.ensures.does, refl, refl, refl)

pub returns-in-Ok-clause-beside : goal.returns-in-Ok-clause-beside
returns-in-Ok-clause-beside g c = c.in-Ok.ensures.beside

pub returns-in-Ok-clause-later : goal.returns-in-Ok-clause-later
returns-in-Ok-clause-later g c = c.in-Ok.ensures.faults.later

pub returns-in-Err-clause-begins : goal.returns-in-Err-clause-begins
returns-in-Err-clause-begins g c =
    subst (λ r. Begins c.args.self.now.runner.dialect c.args.self.now.runner.stamp c.args.session (g.S.Store.state c.args.store.now) (g.S.Store.state c.take_lock.new.store) c.args.self.now.begun c.args.self.now.answer c.args.self.now.faulted c.fail.new.self.begun c.fail.new.self.answer c.fail.new.self.faulted r) (sym c.fail.ensures.answers.2)
    (c.fail.ensures.begun, c.fail.ensures.answers.0, c.fail.ensures.answers.1, (c.in-Err.fault, refl, c.in-Err.ensures.does))

pub returns-in-Err-clause-beside : goal.returns-in-Err-clause-beside
returns-in-Err-clause-beside g c =
    subst (λ r. Beside c.args.session (is_disk_answer r) (g.S.Store.state c.args.store.now) (g.S.Store.state c.take_lock.new.store)) (sym c.fail.ensures.answers.2)
    (fault_beside c.args.session (g.S.Store.state c.args.store.now) (g.S.Store.state c.take_lock.new.store) c.in-Err.fault (fault_of c.in-Err.fault) refl c.in-Err.ensures.beside)

pub returns-in-Err-clause-later : goal.returns-in-Err-clause-later
returns-in-Err-clause-later g c = c.in-Err.ensures.faults.later

pub returns-in-Err-clause-rose : goal.returns-in-Err-clause-rose
returns-in-Err-clause-rose g c = λ is. c.in-Err.ensures.faults.rose (ap (λ w. Err w) (the_disk c.in-Err.fault (err_is (sym c.fail.ensures.answers.2 ∙ is))))
