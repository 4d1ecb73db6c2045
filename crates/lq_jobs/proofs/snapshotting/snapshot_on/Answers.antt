use Rattle.std.proofs.Common.{refl, subst, sym}
use Rattle.std.specs.Prelude.{Err}
use Rattle.lq_cli.specs.declared.line.Job.TheVariants.{Snapshot}
use Rattle.lq_db.specs.Db.{disk_in}
use Rattle.lq_jobs.proofs.OnFiles.{fault_kind}
use Rattle.lq_jobs.proofs.Ready.{is_ready, still_read}
use Rattle.lq_jobs.proofs.SnappedOn.{fault_snapped, snapped_after, snapshot_worked}
use Rattle.lq_jobs.proofs.UsedDisks.{fault_used, used_after}
use Rattle.lq_jobs.proofs.snapshotting.snapshot_on.Goals as goal
use Rattle.lq_jobs.specs.Kinds.{IsOfDatabase}

pub snapshot_in-requires-clause-ready : goal.snapshot_in-requires-clause-ready
snapshot_in-requires-clause-ready g c = is_ready c.args.dialect _ _ _ _ c.in-Ok.db c.in-Ok.ensures.valid c.in-Ok.ensures.new c.in-Ok.ensures.clean

pub snapshot_in-requires-clause-new : goal.snapshot_in-requires-clause-new
snapshot_in-requires-clause-new g c = c.in-Ok.ensures.new

pub snapshot_in-requires-clause-catalogue : goal.snapshot_in-requires-clause-catalogue
snapshot_in-requires-clause-catalogue g c =
    let loaded = c.in-Ok.ensures in
    still_read c.args.dialect _ _ _ _ c.in-Ok.db loaded.valid loaded.new (g.D.Disk.told c.args.disk) loaded.told loaded.catalogue

pub returns-in-Ok : goal.returns-in-Ok
returns-in-Ok g c =
    record {
      worked = λ given same.
          let loaded = c.in-Ok.ensures in
          let ran = c.snapshot_in in
          let did = ran.ensures.worked given same in
          snapshot_worked g.D.Disk.told g.D.Disk.faults g.D.Disk.crashes given.options.dialect given refl c.args.disk ran.result.done ran.result.disk
          (used_after g.D.Disk.told g.D.Disk.faults g.D.Disk.crashes Snapshot refl given.options.dialect c.args.disk (disk_in c.in-Ok.db) loaded.told loaded.later ran.result.done ran.result.disk did.used)
          did.kind
          (snapped_after g.D.Disk.told g.D.Disk.faults g.D.Disk.crashes given.options.dialect c.args.disk (g.met.D.Disk.sound c.args.disk) (disk_in c.in-Ok.db) loaded.told loaded.any_moment ran.result.done ran.result.disk (did.snapped refl));
    }

pub returns-in-Err : goal.returns-in-Err
returns-in-Err g c =
    record {
      worked = λ given same.
          let failed = c.in-Err in
          snapshot_worked g.D.Disk.told g.D.Disk.faults g.D.Disk.crashes c.args.dialect given same c.args.disk (Err c.load_status.result) failed.refused.disk
          (fault_used g.D.Disk.told g.D.Disk.faults g.D.Disk.crashes Snapshot refl c.args.dialect c.args.disk failed.refused.disk failed.ensures.told failed.ensures.later failed.refused.fault c.load_status.result c.load_status.ensures failed.ensures.fault)
          (subst (λ s. IsOfDatabase (Err s)) (sym c.load_status.ensures) (fault_kind failed.refused.fault))
          (fault_snapped g.D.Disk.told g.D.Disk.faults g.D.Disk.crashes c.args.dialect c.args.disk (g.met.D.Disk.sound c.args.disk) failed.refused.disk failed.ensures.told failed.ensures.any_moment failed.refused.fault c.load_status.result c.load_status.ensures failed.ensures.fault);
    }
