use Rattle.std.proofs.Common.{refl, subst, sym}
use Rattle.std.specs.Prelude.{Err}
use Rattle.lq_cli.specs.declared.line.Job.TheVariants.{UndoUnrecorded}
use Rattle.lq_db.specs.Db.{disk_in, engine_in}
use Rattle.lq_store.specs.Executor.{kept}
use Rattle.lq_tell.specs.declared.status.Status.TheVariants as status
use Rattle.lq_jobs.proofs.OnDatabases.{memory_worked}
use Rattle.lq_jobs.proofs.UndoneOn.{loaded_kind, loaded_tells, loaded_undone, undo_worked}
use Rattle.lq_jobs.proofs.UsedDisks.{loaded_used}
use Rattle.lq_jobs.proofs.undoing.undo_in.Goals as goal
use Rattle.lq_jobs.specs.Bytes.{given_at}
use Rattle.lq_jobs.specs.Worked.{WorkedOn}

pub undo-done-requires-clause-valid : goal.undo-done-requires-clause-valid
undo-done-requires-clause-valid g c = record { journal_is = c.requires.valid.journal_is; lives = λ live. c.requires.valid }

pub returns-in-Ok : goal.returns-in-Ok
returns-in-Ok g c =
    record {
      worked = λ stamp.
          let db = c.args.db in
          let ran = c.undo-done in
          let left = ran.new.store in
          let asked = c.args.asked in
          let did = ran.ensures.did in
          let h = g.E.Executor.held (engine_in db) in
          let k = g.E.Executor.held (engine_in left) in
          subst (λ after. WorkedOn g.D.Disk.told g.D.Disk.faults g.D.Disk.crashes UndoUnrecorded (given_at asked stamp) (disk_in db) ran.result after) (sym c.into_disk.ensures)
          (undo_worked g.D.Disk.told g.D.Disk.faults g.D.Disk.crashes (given_at asked stamp) (disk_in db) ran.result (disk_in left)
          (loaded_used g.D.Disk.told g.D.Disk.faults g.D.Disk.crashes UndoUnrecorded refl asked.options.dialect refl (disk_in db) (disk_in left) (kept h) c.requires.catalogue ran.result
          (loaded_tells g.D.Disk.told g.D.Disk.faults g.D.Disk.crashes g.P.SqlText.dialect h k db left c.requires.valid ran.ensures.valid asked.options asked.changelog c.requires.new c.requires.ready c.requires.catalogue ran.result did.answers)
          ran.ensures.later ran.ensures.disk)
          (loaded_kind g.D.Disk.told g.D.Disk.faults g.D.Disk.crashes g.P.SqlText.dialect h k db left c.requires.valid ran.ensures.valid asked.options asked.changelog c.requires.new c.requires.ready c.requires.catalogue ran.result did.answers)
          (loaded_undone g.D.Disk.told g.D.Disk.faults g.D.Disk.crashes g.P.SqlText.dialect h k db left c.requires.valid ran.ensures.valid asked.options asked.changelog c.requires.new c.requires.ready c.requires.catalogue
          c.in-Ok.last c.in-Ok.ensures ran.result did.answers did.refused did.works did.any_moment did.tells));
    }

pub returns : goal.returns
returns g c =
    record {
      worked = λ stamp.
          subst (λ after. WorkedOn g.D.Disk.told g.D.Disk.faults g.D.Disk.crashes UndoUnrecorded (given_at c.args.asked stamp) (disk_in c.args.db) (Err status.OutOfMemory) after) (sym c.into_disk-in-Err.ensures)
          (memory_worked g.D.Disk.told g.D.Disk.faults g.D.Disk.crashes (given_at c.args.asked stamp) (disk_in c.args.db) UndoUnrecorded status.OutOfMemory refl);
    }
