use Rattle.std.proofs.Common.{ap, subst, sym, ◌∙◌}
use Rattle.std.specs.Prelude.{Err}
use Rattle.lq_commands.specs.Stamp.{stamp_of}
use Rattle.lq_sources.specs.Faults.{Loaded}
use Rattle.lq_sources.specs.declared.fault.LoadFault.{LoadFault}
use Rattle.lq_kinds.specs.declared.change_set.Changelog.{Changelog}
use Rattle.lq_top.proofs.Handing.{loaded_worked, unloaded_worked}
use Rattle.lq_top.proofs.Loading.{failing, is_read_fault, no_read_fault}
use Rattle.lq_top.proofs.SoakSays.{failed_tells}
use Rattle.lq_top.proofs.work.with_sql.Goals as goal
use Rattle.lq_jobs.specs.Asks.{loaded}
use Rattle.lq_jobs.specs.Worked.{WorkedBy}

pub returns-in-Ok-clause-read : goal.returns-in-Ok-clause-read
returns-in-Ok-clause-read g c = λ is. absurd (no_read_fault c.on_part.result.done c.on_part.ensures.worked.kind is)

pub returns-in-Ok-clause-worked : goal.returns-in-Ok-clause-worked
returns-in-Ok-clause-worked g c =
    let ran = c.on_part in
    loaded_worked g.D.Disk.told g.D.Disk.faults g.D.Disk.crashes (g.F.Files.told c.args.files.now) (λ source. loaded source c.args.options.dialect c.args.given.now c.args.root.now) c.args.job.now c.args.options
    (stamp_of c.args.who.now (g.C.Clock.last ran.new.clock)) c.args.disk c.in-Ok.changelog c.in-Ok.ensures.loaded ran.result.done ran.result.disk ran.ensures.worked

pub returns-in-Err-clause-read : goal.returns-in-Err-clause-read
returns-in-Err-clause-read g c = λ is. c.in-Err.ensures.failed (ap (λ (f : LoadFault). (let r : Loaded Changelog = Err f in r)) (is_read_fault c.in-Err.fault (ap failing (sym c.file_status.ensures) ∙ is)))

pub returns-in-Err-clause-worked : goal.returns-in-Err-clause-worked
returns-in-Err-clause-worked g c =
    let files = g.F.Files.told c.args.files.now in
    let stamp = stamp_of c.args.who.now (g.C.Clock.last c.args.clock.now) in
    subst (λ s. WorkedBy g.D.Disk.told g.D.Disk.faults g.D.Disk.crashes files (λ source. loaded source c.args.options.dialect c.args.given.now c.args.root.now) c.args.job.now c.args.options stamp c.args.disk (failing s) c.args.disk) (sym c.file_status.ensures)
    (unloaded_worked g.D.Disk.told g.D.Disk.faults g.D.Disk.crashes files (λ source. loaded source c.args.options.dialect c.args.given.now c.args.root.now) c.args.job.now c.args.options stamp c.args.disk c.in-Err.fault c.in-Err.ensures.loaded)

pub returns-in-Err-clause-soaks : goal.returns-in-Err-clause-soaks
returns-in-Err-clause-soaks g c = failed_tells c.args.job.now c.args.options.dialect (stamp_of c.args.who.now (g.C.Clock.last c.args.clock.now)) c.in-Err.fault c.file_status.result c.file_status.ensures
