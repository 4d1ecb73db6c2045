use Rattle.std.specs.Prelude.{Err, Ok, refl}
use Rattle.lq_drill.specs.declared.fault.DrillFault.TheVariants.{OutOfMemory}
use Rattle.lq_playing.proofs.Taking.{answers_disk, idle_begun, idle_once, no_disk_answer, no_disk_lack, took_begun, took_lack, took_once, took_told}
use Rattle.lq_playing.proofs.playing.Playing.begin.Goals as goal

pub returns-in-Answer-clause-took : goal.returns-in-Answer-clause-took
returns-in-Answer-clause-took g c = took_told g.T.Source.meaning g.T.Source.left g.T.Source.way g.T.Source.reads g.T.Checks.job g.T.Checks.ends g.T.Checks.reports c.args.self.now c.args.session (g.S.Store.state c.args.store.now) (g.S.Store.crashes c.args.store.now) c.requires.going c.requires.first c.requires.closed c.requires.fresh c.requires.live c.judge.new.source c.finish.new.self c.finish.result c.finish.ensures.runner c.finish.ensures.begun c.in-Answer.answer c.finish.ensures.answers c.in-Answer.ensures.judged

pub returns-in-Answer-clause-rose : goal.returns-in-Answer-clause-rose
returns-in-Answer-clause-rose g c = λ is. no_disk_answer c.in-Answer.answer (answers_disk (Ok c.in-Answer.answer) c.args.self.now.faulted c.finish.new.self.faulted c.finish.new.self.answer c.finish.result c.finish.ensures.answers is)

pub returns-in-OneCall-clause-took : goal.returns-in-OneCall-clause-took
returns-in-OneCall-clause-took g c =
    took_once g.T.Source.meaning g.T.Source.left g.T.Source.way g.T.Source.reads g.T.Checks.job g.T.Checks.ends g.T.Checks.reports c.args.self.now c.args.session (g.S.Store.state c.args.store.now) (g.S.Store.crashes c.args.store.now) c.requires.going c.requires.first c.requires.closed c.requires.fresh c.requires.live c.judge.new.source c.finish-in-OneCall.new.self c.finish-in-OneCall.result c.finish-in-OneCall.ensures.runner c.finish-in-OneCall.ensures.begun (g.S.Store.state c.call_once-done.new.store) (g.S.Store.crashes c.call_once-done.new.store) c.in-OneCall.call c.call_once-done.result
    c.finish-in-OneCall.ensures.answers c.in-OneCall.ensures.judged c.call_once-done.ensures.calls c.call_once-done.ensures.beside c.call_once-done.ensures.crash c.call_once-done.ensures.shuts

pub returns-in-OneCall-clause-rose : goal.returns-in-OneCall-clause-rose
returns-in-OneCall-clause-rose g c = λ is. c.call_once-done.ensures.rose (answers_disk c.call_once-done.result c.args.self.now.faulted c.finish-in-OneCall.new.self.faulted c.finish-in-OneCall.new.self.answer c.finish-in-OneCall.result c.finish-in-OneCall.ensures.answers is)

pub returns-in-Turns-clause-took : goal.returns-in-Turns-clause-took
returns-in-Turns-clause-took g c =
    took_begun g.T.Source.meaning g.T.Source.left g.T.Source.way g.T.Source.reads g.T.Checks.job g.T.Checks.ends g.T.Checks.reports c.args.self.now c.args.session (g.S.Store.state c.args.store.now) (g.S.Store.crashes c.args.store.now) c.requires.going c.requires.first c.requires.closed c.requires.fresh c.requires.live c.judge.new.source c.in-Turns.hand c.none-self.result c.none-self.ensures c.in-Turns.ensures.judged c.in-Turns.ensures.reads c.take.new.self (g.S.Store.state c.take.new.store) (g.S.Store.crashes c.take.new.store) c.take.result c.take.ensures.same c.take.ensures.begins c.take.ensures.beside c.take.ensures.crash c.take.ensures.shuts

pub returns-in-Lack-clause-took : goal.returns-in-Lack-clause-took
returns-in-Lack-clause-took g c = took_lack g.T.Source.meaning g.T.Source.left g.T.Source.way g.T.Source.reads g.T.Checks.job g.T.Checks.ends g.T.Checks.reports c.args.self.now c.args.session (g.S.Store.state c.args.store.now) (g.S.Store.crashes c.args.store.now) c.requires.going c.requires.first c.requires.closed c.requires.fresh c.requires.live c.judge.new.source c.finish-in-Lack.new.self c.finish-in-Lack.result c.finish-in-Lack.ensures.runner c.finish-in-Lack.ensures.begun c.finish-in-Lack.ensures.answers

pub returns-in-Lack-clause-rose : goal.returns-in-Lack-clause-rose
returns-in-Lack-clause-rose g c = λ is. no_disk_lack (answers_disk (Err OutOfMemory) c.args.self.now.faulted c.finish-in-Lack.new.self.faulted c.finish-in-Lack.new.self.answer c.finish-in-Lack.result c.finish-in-Lack.ensures.answers is)

pub returns-in-Answer-clause-idle : goal.returns-in-Answer-clause-idle
returns-in-Answer-clause-idle g c = λ fresh same database stands none. refl

pub returns-in-Lack-clause-idle : goal.returns-in-Lack-clause-idle
returns-in-Lack-clause-idle g c = λ fresh same database stands none. refl

pub returns-in-OneCall-clause-idle : goal.returns-in-OneCall-clause-idle
returns-in-OneCall-clause-idle g c = λ fresh same database stands none. absurd (idle_once g.T.Source.meaning g.T.Source.left g.T.Source.way g.T.Source.reads g.T.Checks.job g.T.Checks.ends g.T.Checks.reports c.args.self.now c.args.session (g.S.Store.state c.args.store.now) (g.S.Store.crashes c.args.store.now) c.requires.going c.requires.first c.requires.closed c.requires.fresh c.requires.live c.judge.new.source c.in-OneCall.call c.in-OneCall.ensures.judged same database stands none)

pub returns-in-Turns-clause-idle : goal.returns-in-Turns-clause-idle
returns-in-Turns-clause-idle g c = λ fresh same database stands none. absurd (idle_begun g.T.Source.meaning g.T.Source.left g.T.Source.way g.T.Source.reads g.T.Checks.job g.T.Checks.ends g.T.Checks.reports c.args.self.now c.args.session (g.S.Store.state c.args.store.now) (g.S.Store.crashes c.args.store.now) c.requires.going c.requires.first c.requires.closed c.requires.fresh c.requires.live c.judge.new.source c.in-Turns.hand c.in-Turns.ensures.judged same database stands none)
