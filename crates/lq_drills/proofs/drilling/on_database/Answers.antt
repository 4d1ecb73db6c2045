use Rattle.std.proofs.Common.{ap, subst, sym, ◌∙◌}
use Rattle.std.proofs.lemmas.List.{length-map}
use Rattle.std.specs.List.{All}
use Rattle.std.specs.Prelude.{Err, length, ◌≤◌}
use Rattle.lq_commands.specs.Stamp.{clean}
use Rattle.lq_session.specs.Session.{begun_in}
use Rattle.lq_db.specs.Db.{crashes, disk_in, engine_in, state}
use Rattle.lq_players.specs.AnyCommand.{IsUnstarted}
use Rattle.lq_tell.specs.declared.status.Status.TheVariants as status
use Rattle.lq_drills.proofs.DrillEnds.{memory_drilled, played_drilled}
use Rattle.lq_drills.proofs.DrillPlayers.{are_unstarted}
use Rattle.lq_drills.proofs.drilling.on_database.Goals as goal
use Rattle.lq_drills.specs.Drilled.{WorkedDrill}
use Rattle.lq_drills.specs.Players.{Plays}
use Rattle.lq_jobs.specs.declared.entrants.Entrant.{Entrant}

pub play-done-requires-clause-valid : goal.play-done-requires-clause-valid
play-done-requires-clause-valid g c = record { journal_is = c.requires.valid.journal_is; lives = λ live. c.requires.valid }

pub play-done-requires-clause-live : goal.play-done-requires-clause-live
play-done-requires-clause-live g c = c.requires.new.live

pub play-done-requires-clause-closed : goal.play-done-requires-clause-closed
play-done-requires-clause-closed g c = ap (begun_in (g.E.Executor.held (engine_in c.args.db))) c.requires.new.closed

pub play-done-requires-clause-sql : goal.play-done-requires-clause-sql
play-done-requires-clause-sql g c = c.requires.valid.sql_is

pub play-done-requires-clause-unstarted : goal.play-done-requires-clause-unstarted
play-done-requires-clause-unstarted g c =
    let begun = c.in-Ok.ensures.begun in
    subst (λ d. All (IsUnstarted d) c.in-Ok.cast.players.items) (sym c.requires.sql)
    (are_unstarted c.args.dialect (clean c.args.who.now) c.args.drilling.entrants begun.0 c.in-Ok.cast.players.items c.in-Ok.cast.commands begun.2)

pub play-done-requires-clause-steps : goal.play-done-requires-clause-steps
play-done-requires-clause-steps g c =
    let begun = c.in-Ok.ensures.begun in
    subst (λ steps. All (λ n. (1 ≤ n) × (n ≤ length c.in-Ok.cast.players.items)) steps) (sym c.as_slice.ensures)
    (subst (λ m. All (λ n. (1 ≤ n) × (n ≤ m)) c.args.drilling.steps) (sym begun.2.as_many.1) c.requires.is.steps)

pub play-done-requires-clause-commands : goal.play-done-requires-clause-commands
play-done-requires-clause-commands g c =
    let begun = c.in-Ok.ensures.begun in
    ap length begun.2.named ∙ length-map c.args.drilling.entrants (λ (e : Entrant). e.command) ∙ sym begun.2.as_many.1

pub returns-in-Ok : goal.returns-in-Ok
returns-in-Ok g c =
    let begun = c.in-Ok.ensures.begun in
    let db = c.args.db in
    let ran = c.play-done in
    let left = ran.new.store in
    let d = c.args.dialect in
    let who = c.args.who.now in
    let coming = g.C.Clock.to_come c.args.clock.now in
    let after = g.C.Clock.to_come c.cast_of.new.clock in
    let cast = c.in-Ok.cast in
    record {
      worked = subst (λ disk. WorkedDrill g.D.Disk.told g.D.Disk.faults g.D.Disk.crashes d who c.args.drilling coming after (disk_in db) ran.result disk) (sym c.into_disk.ensures)
          (played_drilled g.D.Disk.told g.D.Disk.faults g.D.Disk.crashes d who c.args.drilling g.P.SqlText.dialect (g.E.Executor.held (engine_in db)) (g.E.Executor.held (engine_in left)) db left c.requires.valid ran.ensures.valid c.requires.new c.requires.catalogue
          c.turns_back_are_spelled.ensures c.statements_read_back.ensures begun.0 cast.players.items cast.commands begun.2 c.requires.is coming after begun.1 ran.result
          (subst (λ steps. Plays cast.players.items cast.commands steps (state (g.D.Disk.told (disk_in db)) (g.E.Executor.held (engine_in db)) db) (state (g.D.Disk.told (disk_in left)) (g.E.Executor.held (engine_in left)) left) (crashes (g.D.Disk.crashes (disk_in db)) db) (crashes (g.D.Disk.crashes (disk_in left)) left) ran.result) c.as_slice.ensures ran.ensures.plays) ran.ensures.later ran.ensures.rose);
    }

pub returns : goal.returns
returns g c =
    let coming = g.C.Clock.to_come c.args.clock.now in
    let after = g.C.Clock.to_come c.cast_of.new.clock in
    record {
      worked = subst (λ disk. WorkedDrill g.D.Disk.told g.D.Disk.faults g.D.Disk.crashes c.args.dialect c.args.who.now c.args.drilling coming after (disk_in c.args.db) (Err status.OutOfMemory) disk) (sym c.into_disk-in-Err.ensures)
          (memory_drilled g.D.Disk.told g.D.Disk.faults g.D.Disk.crashes c.args.dialect c.args.who.now c.args.drilling coming after c.in-Err.ensures.begun (disk_in c.args.db));
    }
