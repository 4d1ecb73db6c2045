use Rattle.lq_db.specs.Db.{disk_in}
use Rattle.lq_jobs.proofs.Ready.{is_ready, still_read}
use Rattle.lq_jobs.proofs.UndoneOn.{fault_kind_is, fault_undone, undo_worked, undone_after}
use Rattle.lq_jobs.proofs.UsedDisks.{fault_used, used_after}
use Rattle.lq_jobs.proofs.undoing.undo_on.Goals as goal
use Rattle.lq_jobs.specs.Bytes.{given_at}
use Rattle.std.proofs.Common.{refl}
use Rattle.lq_cli.specs.declared.line.Job.TheVariants.{UndoUnrecorded}

pub undo_in-requires-clause-ready : goal.undo_in-requires-clause-ready
undo_in-requires-clause-ready g c = is_ready c.args.asked.options.dialect _ _ _ _ c.in-Ok.db c.in-Ok.ensures.valid c.in-Ok.ensures.new c.in-Ok.ensures.clean

pub undo_in-requires-clause-new : goal.undo_in-requires-clause-new
undo_in-requires-clause-new g c = c.in-Ok.ensures.new

pub undo_in-requires-clause-catalogue : goal.undo_in-requires-clause-catalogue
undo_in-requires-clause-catalogue g c =
    let loaded = c.in-Ok.ensures in
    still_read c.args.asked.options.dialect _ _ _ _ c.in-Ok.db loaded.valid loaded.new (g.D.Disk.told c.args.disk) loaded.told loaded.catalogue

pub returns-in-Ok : goal.returns-in-Ok
returns-in-Ok g c =
    record {
      worked = λ stamp.
          let loaded = c.in-Ok.ensures in
          let ran = c.undo_in in
          let asked = c.args.asked in
          let did = ran.ensures.worked stamp in
          undo_worked g.D.Disk.told g.D.Disk.faults g.D.Disk.crashes (given_at asked stamp) c.args.disk ran.result.done ran.result.disk
          (used_after g.D.Disk.told g.D.Disk.faults g.D.Disk.crashes UndoUnrecorded refl asked.options.dialect c.args.disk (disk_in c.in-Ok.db) loaded.told loaded.later ran.result.done ran.result.disk did.used)
          did.kind
          (undone_after g.D.Disk.told g.D.Disk.faults g.D.Disk.crashes asked.options asked.changelog c.args.disk (g.met.D.Disk.sound c.args.disk) (disk_in c.in-Ok.db) loaded.told loaded.any_moment ran.result.done ran.result.disk (did.undone refl));
    }

pub returns-in-Err : goal.returns-in-Err
returns-in-Err g c =
    record {
      worked = λ stamp.
          let failed = c.in-Err in
          let asked = c.args.asked in
          let sound = g.met.D.Disk.sound c.args.disk in
          undo_worked g.D.Disk.told g.D.Disk.faults g.D.Disk.crashes (given_at asked stamp) c.args.disk _ failed.refused.disk
          (fault_used g.D.Disk.told g.D.Disk.faults g.D.Disk.crashes UndoUnrecorded refl asked.options.dialect c.args.disk failed.refused.disk failed.ensures.told failed.ensures.later failed.refused.fault c.load_status.result c.load_status.ensures failed.ensures.fault)
          (fault_kind_is g.D.Disk.told g.D.Disk.faults g.D.Disk.crashes asked.options asked.changelog c.args.disk sound failed.refused.disk failed.ensures.told failed.ensures.any_moment failed.refused.fault c.load_status.result c.load_status.ensures failed.ensures.fault)
          (fault_undone g.D.Disk.told g.D.Disk.faults g.D.Disk.crashes asked.options asked.changelog c.args.disk sound failed.refused.disk failed.ensures.told failed.ensures.any_moment failed.refused.fault c.load_status.result c.load_status.ensures failed.ensures.fault);
    }
