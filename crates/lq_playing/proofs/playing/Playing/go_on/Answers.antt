use Rattle.lq_playing.proofs.Taking.{answers_disk, hindered_disk, took_hindered}
use Rattle.lq_playing.proofs.playing.Playing.go_on.Goals as goal

pub make_call-requires-clause-free : goal.make_call-requires-clause-free
make_call-requires-clause-free g c = c.in-None.ensures

pub returns-in-Some-clause-took : goal.returns-in-Some-clause-took
returns-in-Some-clause-took g c =
    took_hindered g.T.Source.meaning g.T.Source.left g.T.Source.way g.T.Source.reads g.T.Checks.job g.T.Checks.ends g.T.Checks.reports c.args.self.now c.args.session (g.S.Store.state c.args.store.now) (g.S.Store.crashes c.args.store.now) c.requires.going c.requires.begun c.requires.opens c.requires.live c.requires.ready.met c.requires.ready.plain c.finish.new.self c.finish.result c.in-Some.answer c.after_fault-answer.result c.finish.ensures.runner c.finish.ensures.begun
    c.finish.ensures.answers c.in-Some.ensures c.after_fault-answer.ensures.kept c.after_fault-answer.ensures.locked c.after_fault-answer.ensures.unlocked

pub returns-in-Some-clause-rose : goal.returns-in-Some-clause-rose
returns-in-Some-clause-rose g c = λ is.
    absurd (hindered_disk g.T.Source.meaning g.T.Source.left g.T.Source.way g.T.Source.reads g.T.Checks.job g.T.Checks.ends g.T.Checks.reports c.args.self.now c.args.session (g.S.Store.state c.args.store.now) (g.S.Store.crashes c.args.store.now) c.requires.going c.requires.begun c.requires.opens c.requires.live c.requires.ready.met c.requires.ready.plain c.in-Some.answer c.in-Some.ensures
    (c.after_fault-answer.ensures.disk c.requires.ready.disk (answers_disk c.after_fault-answer.result c.args.self.now.faulted c.finish.new.self.faulted c.finish.new.self.answer c.finish.result c.finish.ensures.answers is)))
