use Rattle.std.proofs.Common.{subst, sym}
use Rattle.std.specs.Prelude.{Err, length}
use Rattle.lq_db.specs.Db.{disk_in}
use Rattle.lq_drills.proofs.DrillEnds.{drilled_after, fault_drilled}
use Rattle.lq_drills.proofs.Readings.{unread}
use Rattle.lq_jobs.proofs.Ready.{is_ready, still_read}
use Rattle.lq_drills.proofs.drilling.on_disk.Goals as goal
use Rattle.lq_drills.specs.Drilled.{WorkedDrill}

pub on_database-requires-clause-ready : goal.on_database-requires-clause-ready
on_database-requires-clause-ready g c = is_ready c.args.dialect _ _ _ _ c.in-Ok.db c.in-Ok.ensures.valid c.in-Ok.ensures.new c.in-Ok.ensures.clean

pub on_database-requires-clause-new : goal.on_database-requires-clause-new
on_database-requires-clause-new g c = c.in-Ok.ensures.new

pub on_database-requires-clause-catalogue : goal.on_database-requires-clause-catalogue
on_database-requires-clause-catalogue g c =
    let loaded = c.in-Ok.ensures in
    still_read c.args.dialect _ _ _ _ c.in-Ok.db loaded.valid loaded.new (g.D.Disk.told c.args.disk) loaded.told loaded.catalogue

pub returns-in-Ok : goal.returns-in-Ok
returns-in-Ok g c =
    let loaded = c.in-Ok.ensures in
    let ran = c.on_database in
    record {
      worked = drilled_after g.D.Disk.told g.D.Disk.faults g.D.Disk.crashes c.args.dialect c.args.who.now c.args.drilling (g.C.Clock.to_come c.args.clock.now) (g.C.Clock.to_come ran.new.clock) c.args.disk (g.met.D.Disk.sound c.args.disk)
          (disk_in c.in-Ok.db) loaded.told loaded.later loaded.any_moment ran.result.done ran.result.disk ran.ensures.worked;
    }

pub returns-in-Err : goal.returns-in-Err
returns-in-Err g c =
    let failed = c.in-Err in
    let coming = g.C.Clock.to_come c.args.clock.now in
    record {
      worked = subst (λ s. WorkedDrill g.D.Disk.told g.D.Disk.faults g.D.Disk.crashes c.args.dialect c.args.who.now c.args.drilling coming coming c.args.disk (Err s) failed.refused.disk) (sym c.load_status.ensures)
          (fault_drilled g.D.Disk.told g.D.Disk.faults g.D.Disk.crashes c.args.dialect c.args.who.now c.args.drilling coming coming c.args.disk (g.met.D.Disk.sound c.args.disk) failed.refused.disk failed.ensures.told failed.ensures.later failed.ensures.any_moment
          (unread (length c.args.drilling.entrants) coming) failed.refused.fault failed.ensures.fault);
    }
