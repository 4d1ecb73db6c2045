use Rattle.std.proofs.Common.{subst, sym}
use Rattle.lq_cli.specs.declared.line.Job.TheVariants.{Generate}
use Rattle.lq_db.specs.Db.{disk_in}
use Rattle.lq_jobs.proofs.GeneratedOn.{generated_worked}
use Rattle.lq_jobs.proofs.generating.on_loaded.Goals as goal
use Rattle.lq_jobs.specs.Worked.{WorkedOn}

pub returns : goal.returns
returns g c =
    record {
      worked = λ given same.
          let made = c.on_store-done in
          subst (λ after. WorkedOn g.D.Disk.told g.D.Disk.faults g.D.Disk.crashes (Generate c.args.author.now) given (disk_in c.args.db) made.result after) (sym c.into_disk.ensures)
          (generated_worked g.D.Disk.told g.D.Disk.faults g.D.Disk.crashes g.P.SqlText.dialect c.args.db c.args.author.now made.result made.ensures.sure c.args.dialect
          (record { loaded = c.requires.loaded; answers = made.ensures.answers; tells = made.ensures.tells; again = made.ensures.again }) given same);
    }
