use Rattle.std.proofs.Common.{refl, subst, sym}
use Rattle.lq_cli.specs.declared.line.Job.TheVariants.{Generate}
use Rattle.lq_db.specs.Db.{disk_in}
use Rattle.lq_db.specs.Load.{IsDbFault}
use Rattle.lq_jobs.proofs.OnDatabases.{fault_worked, worked_after}
use Rattle.lq_jobs.proofs.Ready.{is_ready, still_read}
use Rattle.lq_jobs.proofs.generating.generate_on.Goals as goal
use Rattle.lq_jobs.specs.Bytes.{most_bytes}

pub on_loaded-requires : goal.on_loaded-requires
on_loaded-requires g c =
    let loaded = c.in-Ok.ensures in
    record {
      loaded = record {
        valid = loaded.valid;
        ready = is_ready c.args.dialect _ _ _ _ c.in-Ok.db loaded.valid loaded.new loaded.clean;
        new = loaded.new;
        clean = loaded.clean;
        read = still_read c.args.dialect _ _ _ _ c.in-Ok.db loaded.valid loaded.new (g.D.Disk.told c.args.disk) loaded.told loaded.catalogue;
      };
    }

pub returns-in-Ok : goal.returns-in-Ok
returns-in-Ok g c =
    record {
      worked = λ given same.
          let loaded = c.in-Ok.ensures in
          let ran = c.on_loaded in
          worked_after g.D.Disk.told g.D.Disk.faults g.D.Disk.crashes given c.args.disk (g.met.D.Disk.sound c.args.disk) (disk_in c.in-Ok.db) loaded.told loaded.later loaded.any_moment
          (Generate c.args.author.now) refl ran.result.done ran.result.disk (ran.ensures.worked given same);
    }

pub returns-in-Err : goal.returns-in-Err
returns-in-Err g c =
    record {
      worked = λ given same.
          let failed = c.in-Err in
          fault_worked g.D.Disk.told g.D.Disk.faults g.D.Disk.crashes given c.args.disk (g.met.D.Disk.sound c.args.disk) failed.refused.disk
          failed.ensures.told failed.ensures.later failed.ensures.any_moment (Generate c.args.author.now) refl failed.refused.fault c.load_status.result c.load_status.ensures
          (subst (λ d. IsDbFault d most_bytes (g.D.Disk.told c.args.disk) (g.D.Disk.faults c.args.disk) (g.D.Disk.faults failed.refused.disk) failed.refused.fault) (sym same) failed.ensures.fault);
    }
