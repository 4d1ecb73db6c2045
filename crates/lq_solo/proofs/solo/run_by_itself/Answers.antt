use Rattle.std.proofs.Common.{ap, subst, sym, ◌∙◌}
use Rattle.lq_alone.specs.One.{AnswersOwn}
use Rattle.lq_alone.specs.Plain.{EndsAlone}
use Rattle.lq_alone.specs.Stopped.{MayStop}
use Rattle.lq_drill.specs.Player.{MakesNone}
use Rattle.lq_players.specs.AnyCommand.{command_stands}
use Rattle.lq_playing.specs.Answers.{as_failed}
use Rattle.lq_playing.specs.Checked.{Work}
use Rattle.lq_run.specs.Crashes.{CrashesLeave, LeftBehind, LeftInCommand}
use Rattle.lq_run.specs.Left.{RestsIn}
use Rattle.lq_store.specs.Journal.{is_open}
use Rattle.lq_solo.proofs.solo.run_by_itself.Goals as goal

pub run_alone-requires-clause-ready : goal.run_alone-requires-clause-ready
run_alone-requires-clause-ready g c =
    let it = c.requires.unstarted in
    record { ready = it.ready; dialect = it.dialect; opens = ap (λ t. is_open 1 t) c.requires.closed ∙ sym (it.new 1).opens }

pub run_alone-requires-clause-new : goal.run_alone-requires-clause-new
run_alone-requires-clause-new g c = c.requires.unstarted.new 1

pub returns-clause-idle : goal.returns-clause-idle
returns-clause-idle g c = λ prints task database is stands none. c.run_alone.ensures.idle database stands (subst (λ (w : Work). MakesNone w database) (sym is) none)

pub returns-clause-ends : goal.returns-clause-ends
returns-clause-ends g c = λ prints task database is stands. subst (λ (w : Work). EndsAlone w (g.S.Store.state c.args.store.now) database (command_stands c.run_alone.new.player).answer c.run_alone.result (g.S.Store.state c.run_alone.new.store)) is (c.run_alone.ensures.ends database stands)

pub returns-clause-behind : goal.returns-clause-behind
returns-clause-behind g c =
    let x = g.S.Store.state c.args.store.now in
    λ prints task database is stands fits.
    subst (λ (w : Work). MayStop x.dialect (w.script database) database → LeftBehind x.dialect (w.script database) database x (g.S.Store.state c.run_alone.new.store)) is (c.run_alone.ensures.behind database stands)
    (record { fits = fits; closes = c.scripts_close.ensures prints x.dialect task database })

pub returns-clause-any_moment : goal.returns-clause-any_moment
returns-clause-any_moment g c =
    let x = g.S.Store.state c.args.store.now in
    λ prints task database is stands fits.
    subst (λ (w : Work). MayStop x.dialect (w.script database) database → CrashesLeave x.entries (LeftInCommand x.dialect (w.script database) database) (g.S.Store.crashes c.args.store.now) (g.S.Store.crashes c.run_alone.new.store)) is (c.run_alone.ensures.any_moment database stands)
    (record { fits = fits; closes = c.scripts_close.ensures prints x.dialect task database })

pub returns-clause-rests : goal.returns-clause-rests
returns-clause-rests g c =
    let x = g.S.Store.state c.args.store.now in
    λ prints task database is stands fits used next ended.
    subst (λ (w : Work). MayStop x.dialect (w.script database) database → AnswersOwn as_failed w database → RestsIn x.dialect (w.script database) database x (g.S.Store.state c.run_alone.new.store) used next) is
    (λ may own. c.run_alone.ensures.rests database stands may own used next ended)
    (record { fits = fits; closes = c.scripts_close.ensures prints x.dialect task database }) (c.works_answer_own.ensures prints x.dialect task database)
