use Rattle.std.proofs.Common.{sym}
use Rattle.lq_commands.specs.Stamp.{stamp_of}
use Rattle.lq_tell.specs.declared.status.Status.TheVariants as status
use Rattle.lq_top.proofs.Handing.{missed_worked, part_worked}
use Rattle.lq_jobs.proofs.InPart.{in_vain_beside}
use Rattle.lq_top.proofs.Loading.{failing}
use Rattle.lq_top.proofs.SoakSays.{no_soak}
use Rattle.lq_top.proofs.work.on_part.Goals as goal

pub on_job-requires-clause-read : goal.on_job-requires-clause-read
on_job-requires-clause-read g c = c.in-Some.ensures.read c.args.options.dialect c.requires.read

pub on_job-requires-clause-short : goal.on_job-requires-clause-short
on_job-requires-clause-short g c = c.in-Some.ensures.short c.requires.short

pub returns-in-Some-clause-worked : goal.returns-in-Some-clause-worked
returns-in-Some-clause-worked g c =
    let ran = c.on_job in
    part_worked g.D.Disk.told g.D.Disk.faults g.D.Disk.crashes c.args.job.now c.args.options c.args.changelog (stamp_of c.args.who.now (g.C.Clock.last ran.new.clock)) c.args.disk c.in-Some.changelog (sym c.in-Some.ensures.part)
    (record { read = c.in-Some.ensures.read c.args.options.dialect c.requires.read; short = c.in-Some.ensures.short c.requires.short }) ran.result.done ran.result.disk ran.ensures.worked

pub returns-in-None-clause-worked : goal.returns-in-None-clause-worked
returns-in-None-clause-worked g c =
    missed_worked g.D.Disk.told g.D.Disk.faults g.D.Disk.crashes c.args.job.now c.args.options c.args.changelog (stamp_of c.args.who.now (g.C.Clock.last c.args.clock.now)) c.args.disk (sym c.in-None.ensures.part)

pub returns-in-None-clause-soaks : goal.returns-in-None-clause-soaks
returns-in-None-clause-soaks g c =
    no_soak c.args.job.now c.args.options.dialect (stamp_of c.args.who.now (g.C.Clock.last c.args.clock.now)) (failing status.NoTarget) (in_vain_beside c.args.job.now c.args.changelog (sym c.in-None.ensures.part))
