use Rattle.std.proofs.Common.{refl}
use Rattle.lq_tell.specs.declared.status.Status.TheVariants as status
use Rattle.lq_drills.proofs.DrillRead.{no_such, read_failed, read_worked, unread_worked}
use Rattle.lq_drills.proofs.drilling.with_sql.Goals as goal

pub returns-in-Ok-clause-read : goal.returns-in-Ok-clause-read
returns-in-Ok-clause-read g c = λ is. absurd (no_such c.on_disk.result.done status.ReadFault c.on_disk.ensures.worked.kind refl is)

pub returns-in-Ok-clause-drilled : goal.returns-in-Ok-clause-drilled
returns-in-Ok-clause-drilled g c =
    let ran = c.on_disk in
    read_worked g.D.Disk.told g.D.Disk.faults g.D.Disk.crashes (g.F.Files.told c.args.files.now) c.args.dialect c.args.path.now c.args.runs.now c.args.who.now (g.C.Clock.to_come c.args.clock.now) (g.C.Clock.to_come ran.new.clock) c.args.disk
    c.in-Ok.drilling c.in-Ok.ensures.finds c.in-Ok.ensures.is.few.1 ran.result.done ran.result.disk ran.ensures.worked

pub returns-in-Err-clause-read : goal.returns-in-Err-clause-read
returns-in-Err-clause-read g c = λ is. c.in-Err.ensures.failed (read_failed c.in-Err.status is)

pub returns-in-Err-clause-drilled : goal.returns-in-Err-clause-drilled
returns-in-Err-clause-drilled g c =
    unread_worked g.D.Disk.told g.D.Disk.faults g.D.Disk.crashes (g.F.Files.told c.args.files.now) c.args.dialect c.args.path.now c.args.runs.now c.args.who.now (g.C.Clock.to_come c.args.clock.now) c.args.disk c.in-Err.status c.in-Err.ensures.finds
