use Rattle.std.proofs.Common.{subst, sym}
use Rattle.std.specs.Prelude.{◌≤◌}
use Rattle.lq_playing.proofs.Taking.{answers_disk, rests_disk, took_ended, took_going}
use Rattle.lq_playing.proofs.Told.{ready_now}
use Rattle.lq_resting.specs.Asking.{asks_open}
use Rattle.lq_run.specs.Steps.{standing, turns_of}
use Rattle.lq_store.specs.Journal.{is_open}
use Rattle.lq_turns.specs.declared.stamp.Stamp.{Stamp}
use Rattle.lq_playing.proofs.playing.Playing.make_call.Goals as goal

pub step-requires-clause-ready : goal.step-requires-clause-ready
step-requires-clause-ready g c = ready_now c.args.self.now.runner.dialect c.args.self.now.runner.hand (turns_of (standing g.T.Source.left g.T.Source.way c.args.self.now.runner)) (is_open c.args.session (g.S.Store.state c.args.store.now).begun) c.requires.opens c.requires.ready.asks

pub returns-in-Going-clause-took : goal.returns-in-Going-clause-took
returns-in-Going-clause-took g c =
    took_going g.T.Source.meaning g.T.Source.left g.T.Source.way g.T.Source.reads g.T.Checks.job g.T.Checks.ends g.T.Checks.reports c.args.self.now c.args.session (g.S.Store.state c.args.store.now) (g.S.Store.crashes c.args.store.now) c.requires.going c.requires.begun c.requires.opens c.requires.live c.requires.ready.met c.requires.ready.plain c.requires.free c.step.new.self c.in-Going.ensures.same (g.S.Store.state c.step.new.store) c.in-Going.ensures.asks (g.S.Store.crashes c.step.new.store) c.in-Going.ensures.crash c.in-Going.ensures.stays
    c.rests.new.self c.rests.result c.has_faulted-self.result c.has_faulted-self.ensures c.rests.ensures.runner c.rests.ensures.begun c.rests.ensures.rests c.requires.ready.moment c.in-Going.ensures.reads c.in-Going.ensures.going c.in-Going.ensures.disk c.in-Going.ensures.beside c.in-Going.ensures.steps

pub rests-requires-clause-live : goal.rests-requires-clause-live
rests-requires-clause-live g c = c.in-Going.ensures.beside.live

pub rests-requires-clause-moment : goal.rests-requires-clause-moment
rests-requires-clause-moment g c = subst (λ (t : Stamp). t.reading ≤ 253402300799999) (sym c.in-Going.ensures.same.1) c.requires.ready.moment

pub returns-in-Going-clause-rose : goal.returns-in-Going-clause-rose
returns-in-Going-clause-rose g c = rests_disk c.step.new.self.stamp c.step.new.self.fault (asks_open c.step.new.self.hand) (g.S.Store.state c.step.new.store) c.args.self.now.answer c.rests.new.self.answer c.has_faulted-self.result c.rests.new.self.faulted c.rests.result c.in-Going.ensures.disk c.rests.ensures.rests

pub returns-in-Ended-clause-took : goal.returns-in-Ended-clause-took
returns-in-Ended-clause-took g c =
    took_ended g.T.Source.meaning g.T.Source.left g.T.Source.way g.T.Source.reads g.T.Checks.job g.T.Checks.ends g.T.Checks.reports c.args.self.now c.args.session (g.S.Store.state c.args.store.now) (g.S.Store.crashes c.args.store.now) c.requires.going c.requires.begun c.requires.opens c.requires.live c.requires.ready.met c.requires.ready.plain c.requires.free c.step.new.self c.in-Ended.ensures.same (g.S.Store.state c.step.new.store) c.in-Ended.ensures.asks (g.S.Store.crashes c.step.new.store) c.in-Ended.ensures.crash c.in-Ended.ensures.stays c.finish.new.self c.finish.result c.in-Ended.end c.answer_at-answer.result c.finish.ensures.runner c.finish.ensures.begun c.finish.ensures.answers
    c.answer_at-answer.ensures.own c.answer_at-answer.ensures.whole c.answer_at-answer.ensures.ends c.answer_at-answer.ensures.locked c.answer_at-answer.ensures.fails c.in-Ended.ensures.stops c.in-Ended.ensures.going c.in-Ended.ensures.beside c.in-Ended.ensures.steps

pub returns-in-Ended-clause-rose : goal.returns-in-Ended-clause-rose
returns-in-Ended-clause-rose g c = λ is. c.in-Ended.ensures.rose (c.answer_at-answer.ensures.disk (answers_disk c.answer_at-answer.result c.args.self.now.faulted c.finish.new.self.faulted c.finish.new.self.answer c.finish.result c.finish.ensures.answers is))
