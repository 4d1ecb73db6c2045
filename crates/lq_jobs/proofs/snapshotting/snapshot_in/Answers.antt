use Rattle.std.proofs.Common.{ap, refl, subst, sym, ◌∙◌}
use Rattle.std.specs.Prelude.{Err}
use Rattle.lq_cli.specs.declared.line.Job.TheVariants.{Snapshot}
use Rattle.lq_commands.proofs.PlainRefusals.{held_plain}
use Rattle.lq_commands.specs.Refusals.{held}
use Rattle.lq_db.specs.Db.{disk_in, engine_in, state}
use Rattle.lq_store.specs.Executor.{kept}
use Rattle.lq_jobs.proofs.OnReady.{ready_kind, ready_tells}
use Rattle.lq_jobs.proofs.SnappedOn.{TellsWrote, free_answers, loaded_snapped, no_disk_refusal, refused_answers, refused_snapped, same_count, snapshot_worked}
use Rattle.lq_jobs.proofs.UsedDisks.{loaded_used}
use Rattle.lq_jobs.proofs.snapshotting.snapshot_in.Goals as goal
use Rattle.lq_jobs.specs.Worked.{WorkedOn}

pub check_lock-requires-clause-valid : goal.check_lock-requires-clause-valid
check_lock-requires-clause-valid g c = record { journal_is = c.requires.valid.journal_is; lives = λ live. c.requires.valid }

pub snapshot-wrote-requires-clause-valid : goal.snapshot-wrote-requires-clause-valid
snapshot-wrote-requires-clause-valid g c = record { journal_is = c.requires.valid.journal_is; lives = λ live. c.requires.valid }

pub returns-in-Ok : goal.returns-in-Ok
returns-in-Ok g c =
    record {
      worked = λ given same.
          let db = c.args.db in
          let ran = c.snapshot-wrote in
          let left = ran.new.self in
          let done = c.told-done.result in
          let d = c.args.dialect in
          let h = g.E.Executor.held (engine_in db) in
          let k = g.E.Executor.held (engine_in left) in
          let x = state (g.D.Disk.told (disk_in db)) h db in
          let so : TellsWrote ran.result done = record { text = c.told-done.ensures.text; fault = c.told-done.ensures.fault; ends = c.told-done.ensures.ends; fails = c.told-done.ensures.fails } in
          let answers = free_answers g.D.Disk.told g.D.Disk.faults g.D.Disk.crashes d g.P.SqlText.dialect h k db left c.requires.valid ran.ensures.valid c.requires.new c.requires.catalogue ran.result done c.in-Ok.ensures ran.ensures.does ran.ensures.reads ran.ensures.kept so in
          subst (λ after. WorkedOn g.D.Disk.told g.D.Disk.faults g.D.Disk.crashes Snapshot given (disk_in db) done after) (sym c.into_disk.ensures)
          (snapshot_worked g.D.Disk.told g.D.Disk.faults g.D.Disk.crashes d given same (disk_in db) done (disk_in left)
          (loaded_used g.D.Disk.told g.D.Disk.faults g.D.Disk.crashes Snapshot refl d refl (disk_in db) (disk_in left) (kept h) c.requires.catalogue done (ready_tells d d refl x c.requires.ready held held_plain done answers (g.D.Disk.told (disk_in db)))
          ran.ensures.faults.later (λ is. ran.ensures.faults.rose (c.told-done.ensures.disk is)))
          (ready_kind d d refl x c.requires.ready held held_plain done answers)
          (loaded_snapped g.D.Disk.told g.D.Disk.faults g.D.Disk.crashes d g.P.SqlText.dialect h k db left c.requires.valid ran.ensures.valid c.requires.new c.requires.catalogue ran.result done c.in-Ok.ensures ran.ensures.does ran.ensures.reads ran.ensures.kept so
          ran.ensures.crash));
    }

pub returns-in-Err : goal.returns-in-Err
returns-in-Err g c =
    record {
      worked = λ given same.
          let db = c.args.db in
          let d = c.args.dialect in
          let s = c.in-Err.status in
          let h = g.E.Executor.held (engine_in db) in
          let x = state (g.D.Disk.told (disk_in db)) h db in
          let answers = refused_answers g.D.Disk.told g.D.Disk.faults g.D.Disk.crashes d g.P.SqlText.dialect h db c.requires.valid c.requires.new c.requires.catalogue s c.in-Err.ensures in
          subst (λ after. WorkedOn g.D.Disk.told g.D.Disk.faults g.D.Disk.crashes Snapshot given (disk_in db) (Err s) after) (sym c.into_disk-in-Err.ensures)
          (snapshot_worked g.D.Disk.told g.D.Disk.faults g.D.Disk.crashes d given same (disk_in db) (Err s) (disk_in db)
          (loaded_used g.D.Disk.told g.D.Disk.faults g.D.Disk.crashes Snapshot refl d refl (disk_in db) (disk_in db) (kept h) c.requires.catalogue (Err s) (ready_tells d d refl x c.requires.ready held held_plain (Err s) answers (g.D.Disk.told (disk_in db)))
          (same_count (g.D.Disk.faults (disk_in db))) (λ is. absurd (no_disk_refusal x d c.requires.ready s c.in-Err.ensures is)))
          (ready_kind d d refl x c.requires.ready held held_plain (Err s) answers)
          (refused_snapped g.D.Disk.told g.D.Disk.faults g.D.Disk.crashes d g.P.SqlText.dialect h db c.requires.valid c.requires.new c.requires.catalogue s c.in-Err.ensures));
    }
