use Rattle.lq_commands.proofs.PlainRefusals.{refusal_plain}
use Rattle.lq_commands.specs.Refusals.{refusal}
use Rattle.lq_commands.specs.Scripts.{script}
use Rattle.lq_jobs.proofs.RefusedKinds.{answers_ends}
use Rattle.lq_soak.proofs.SoakEnds.{fails_undone}
use Rattle.lq_soak.proofs.SoakRuns.{done_leaves}
use Rattle.lq_soak.proofs.SoakStops.{fails_so, run_stops}
use Rattle.lq_soak.proofs.Soaked.{done_lives, end_passes, refusal_passes}
use Rattle.lq_soak.proofs.soaking.done_on.Goals as goal

pub returns-in-Ok-clause-live : goal.returns-in-Ok-clause-live
returns-in-Ok-clause-live g c =
    let on = c.requires.ready in
    done_lives c.args.given.options.dialect (script c.args.command.now c.args.given on.database) on.database (g.S.Store.state c.args.store.now) (g.S.Store.state c.run_command.new.store) c.in-Ok.done c.unless_done.result
    (c.in-Ok.ensures.works on.database on.has) c.unless_done.ensures.ok

pub returns-in-Ok-clause-leaves : goal.returns-in-Ok-clause-leaves
returns-in-Ok-clause-leaves g c =
    done_leaves c.args.given.options.dialect (λ database. script c.args.command.now c.args.given database) (g.S.Store.state c.args.store.now) (g.S.Store.state c.run_command.new.store) c.in-Ok.done c.unless_done.result
    c.in-Ok.ensures.works c.unless_done.ensures.ok

pub returns-in-Ok-clause-stops : goal.returns-in-Ok-clause-stops
returns-in-Ok-clause-stops g c =
    let on = c.requires.ready in
    end_passes c.unless_done.result c.in-Ok.done.status (answers_ends (refusal c.args.command.now c.args.given on.database) c.in-Ok.done (c.in-Ok.ensures.answers on.database on.has)) c.unless_done.ensures.stops

pub returns-in-Err-clause-stops : goal.returns-in-Err-clause-stops
returns-in-Err-clause-stops g c =
    let on = c.requires.ready in
    refusal_passes (refusal c.args.command.now c.args.given on.database) c.in-Err.status c.copy_status.result (refusal_plain c.args.given c.args.command.now on.database) (c.in-Err.ensures.answers on.database on.has) c.copy_status.ensures

pub returns-in-Err-clause-undone : goal.returns-in-Err-clause-undone
returns-in-Err-clause-undone g c =
    let on = c.requires.ready in
    fails_undone c.args.command.now c.args.given on.database c.in-Err.status c.copy_status.result (c.in-Err.ensures.answers on.database on.has) c.copy_status.ensures

pub returns-in-Ok-clause-ends : goal.returns-in-Ok-clause-ends
returns-in-Ok-clause-ends g c =
    run_stops c.args.given.options.dialect (g.S.Store.state c.args.store.now) c.args.command.now c.args.given c.in-Ok.done c.unless_done.result c.in-Ok.ensures.answers c.in-Ok.ensures.tells c.unless_done.ensures.stops

pub returns-in-Err-clause-ends : goal.returns-in-Err-clause-ends
returns-in-Err-clause-ends g c = fails_so c.args.given.options.dialect (g.S.Store.state c.args.store.now) c.args.command.now c.args.given c.in-Err.status c.copy_status.result c.in-Err.ensures.answers c.copy_status.ensures
