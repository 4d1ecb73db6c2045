use Rattle.std.proofs.Common.{inl, inr, refl}
use Rattle.lq_commands.specs.Stamp.{stamp_of}
use Rattle.lq_db.specs.Db.{disk_in}
use Rattle.lq_jobs.proofs.InPart.{store_own}
use Rattle.lq_jobs.proofs.OnDatabases.{fault_worked, worked_after}
use Rattle.lq_jobs.proofs.Ready.{is_ready, still_read}
use Rattle.lq_jobs.proofs.opening.on_disk.Goals as goal
use Rattle.lq_jobs.specs.Bytes.{given_at}

pub on_database-requires-clause-ready : goal.on_database-requires-clause-ready
on_database-requires-clause-ready g c = is_ready c.args.asked.options.dialect _ _ _ _ c.in-Ok.db c.in-Ok.ensures.valid c.in-Ok.ensures.new c.in-Ok.ensures.clean

pub on_database-requires-clause-new : goal.on_database-requires-clause-new
on_database-requires-clause-new g c = c.in-Ok.ensures.new

pub on_database-requires-clause-catalogue : goal.on_database-requires-clause-catalogue
on_database-requires-clause-catalogue g c =
    let loaded = c.in-Ok.ensures in
    still_read c.args.asked.options.dialect _ _ _ _ c.in-Ok.db loaded.valid loaded.new (g.D.Disk.told c.args.disk) loaded.told loaded.catalogue

pub returns-in-Ok-clause-worked : goal.returns-in-Ok-clause-worked
returns-in-Ok-clause-worked g c =
    let loaded = c.in-Ok.ensures in
    let ran = c.on_database in
    worked_after g.D.Disk.told g.D.Disk.faults g.D.Disk.crashes (given_at c.args.asked (stamp_of c.args.who.now (g.C.Clock.last ran.new.clock))) c.args.disk (g.met.D.Disk.sound c.args.disk) (disk_in c.in-Ok.db) loaded.told loaded.later loaded.any_moment
    c.args.job.now (store_own c.args.job.now c.requires.own) ran.result.done ran.result.disk ran.ensures.worked

pub returns-in-Ok-clause-once : goal.returns-in-Ok-clause-once
returns-in-Ok-clause-once g c = inr c.on_database.ensures.once

pub returns-in-Err-clause-worked : goal.returns-in-Err-clause-worked
returns-in-Err-clause-worked g c =
    let failed = c.in-Err in
    fault_worked g.D.Disk.told g.D.Disk.faults g.D.Disk.crashes (given_at c.args.asked (stamp_of c.args.who.now (g.C.Clock.last c.args.clock.now))) c.args.disk (g.met.D.Disk.sound c.args.disk) failed.refused.disk
    failed.ensures.told failed.ensures.later failed.ensures.any_moment c.args.job.now (store_own c.args.job.now c.requires.own) failed.refused.fault c.load_status.result c.load_status.ensures failed.ensures.fault

pub returns-in-Err-clause-once : goal.returns-in-Err-clause-once
returns-in-Err-clause-once g c = inl refl
