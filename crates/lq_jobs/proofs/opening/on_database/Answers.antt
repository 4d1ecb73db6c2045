use Rattle.std.proofs.Common.{subst, sym}
use Rattle.std.specs.Prelude.{Err, IfSome, Ok, ◌≡◌}
use Rattle.lq_commands.specs.Stamp.{stamp_of}
use Rattle.lq_db.specs.Db.{IsNew, disk_in, engine_in, state}
use Rattle.lq_entries.specs.Load.{catalogue_of}
use Rattle.lq_store.specs.Executor.{kept}
use Rattle.lq_jobs.proofs.InPart.{store_again, store_own}
use Rattle.lq_jobs.proofs.OnDatabases.{memory_worked, worked}
use Rattle.lq_jobs.proofs.WithClock.{given_dialect, given_is, given_read, given_ready, given_short, given_sql}
use Rattle.lq_jobs.proofs.opening.on_database.Goals as goal
use Rattle.lq_jobs.specs.Bytes.{given_at, most_bytes}
use Rattle.lq_jobs.specs.Worked.{WorkedOn}

pub run_job-done-requires-clause-valid : goal.run_job-done-requires-clause-valid
run_job-done-requires-clause-valid g c = record { journal_is = c.requires.valid.journal_is; lives = λ live. c.requires.valid }

pub run_job-done-requires-clause-ready : goal.run_job-done-requires-clause-ready
run_job-done-requires-clause-ready g c =
    let db = c.args.db in
    given_ready c.in-Ok.given c.args.asked c.in-Ok.ensures.given.0 c.in-Ok.ensures.given.1 (state (g.D.Disk.told (disk_in db)) (g.E.Executor.held (engine_in db)) db) c.requires.ready

pub run_job-done-requires-clause-sql : goal.run_job-done-requires-clause-sql
run_job-done-requires-clause-sql g c = given_sql c.in-Ok.given c.args.asked c.in-Ok.ensures.given.0 c.in-Ok.ensures.given.1 g.P.SqlText.dialect c.requires.sql

pub run_job-done-requires-clause-read : goal.run_job-done-requires-clause-read
run_job-done-requires-clause-read g c = given_read c.in-Ok.given c.args.asked c.in-Ok.ensures.given.0 c.in-Ok.ensures.given.1 c.requires.read

pub run_job-done-requires-clause-short : goal.run_job-done-requires-clause-short
run_job-done-requires-clause-short g c = given_short c.in-Ok.given c.args.asked c.in-Ok.ensures.given.0 c.in-Ok.ensures.given.1 c.requires.short

pub returns-in-Ok-clause-worked : goal.returns-in-Ok-clause-worked
returns-in-Ok-clause-worked g c =
    let db = c.args.db in
    let ran = c.run_job-done in
    let left = ran.new.store in
    let given = c.in-Ok.given in
    let made = c.in-Ok.ensures in
    let stamp = stamp_of c.args.who.now (g.C.Clock.last c.stamped.new.clock) in
    let same = sym (given_dialect given c.args.asked made.given.0 made.given.1) in
    subst (λ after. WorkedOn g.D.Disk.told g.D.Disk.faults g.D.Disk.crashes c.args.job.now (given_at c.args.asked stamp) (disk_in db) ran.result after) (sym c.into_disk.ensures)
    (subst (λ given. WorkedOn g.D.Disk.told g.D.Disk.faults g.D.Disk.crashes c.args.job.now given (disk_in db) ran.result (disk_in left)) (given_is given c.args.asked stamp made.given.0 made.given.1 made.stamp)
    (worked g.D.Disk.told g.D.Disk.faults g.D.Disk.crashes g.P.SqlText.dialect (g.E.Executor.held (engine_in db)) (g.E.Executor.held (engine_in left)) db left c.requires.valid ran.ensures.valid given
    (subst (λ d. IsNew d most_bytes db) same c.requires.new)
    (given_ready given c.args.asked made.given.0 made.given.1 (state (g.D.Disk.told (disk_in db)) (g.E.Executor.held (engine_in db)) db) c.requires.ready)
    (subst (λ d. IfSome (g.D.Disk.told (disk_in db)) (λ bytes. catalogue_of d most_bytes bytes ≡ Ok (kept (g.E.Executor.held (engine_in db))))) same c.requires.catalogue)
    c.args.job.now (store_own c.args.job.now c.requires.own) ran.result ran.ensures.did.answers ran.ensures.did.refused ran.ensures.did.reads ran.ensures.did.works ran.ensures.did.any_moment ran.ensures.did.tells (λ database has. store_again c.args.job.now c.requires.own given database ran.result) ran.ensures.later ran.ensures.disk))

pub returns-in-Err-clause-worked : goal.returns-in-Err-clause-worked
returns-in-Err-clause-worked g c =
    let given = given_at c.args.asked (stamp_of c.args.who.now (g.C.Clock.last c.stamped.new.clock)) in
    subst (λ after. WorkedOn g.D.Disk.told g.D.Disk.faults g.D.Disk.crashes c.args.job.now given (disk_in c.args.db) (Err c.in-Err.status) after) (sym c.into_disk-in-Err.ensures)
    (memory_worked g.D.Disk.told g.D.Disk.faults g.D.Disk.crashes given (disk_in c.args.db) c.args.job.now c.in-Err.status c.in-Err.ensures.no_memory)
