use Rattle.std.proofs.Common.{ap, inl, inr, refl, subst, sym, ◌∙◌}
use Rattle.lq_cli.specs.declared.line.Job.TheVariants.{Generate}
use Rattle.lq_commands.specs.Stamp.{stamp_of}
use Rattle.lq_jobs.proofs.InPart.{own_beside, store_own}
use Rattle.lq_top.proofs.Loading.{soak_damage, soak_disk, soak_kind}
use Rattle.lq_jobs.proofs.OnDatabases.{aside_worked}
use Rattle.lq_top.proofs.SoakSays.{no_soak, soak_tells}
use Rattle.lq_top.proofs.work.on_job.Goals as goal
use Rattle.lq_jobs.specs.Bytes.{given_at}
use Rattle.lq_jobs.specs.Jobs.{goes_on, is_apart, is_on_file, is_own}
use Rattle.lq_jobs.specs.Worked.{WorkedOn}

pub returns-in-UpdateSql-clause-worked : goal.returns-in-UpdateSql-clause-worked
returns-in-UpdateSql-clause-worked g c =
    let ran = c.printed in
    subst (λ job. WorkedOn g.D.Disk.told g.D.Disk.faults g.D.Disk.crashes job (given_at c.args.asked (stamp_of c.args.who.now (g.C.Clock.last ran.new.clock))) c.args.disk ran.result.done ran.result.disk)
    (sym c.in-UpdateSql.is) ran.ensures.worked

pub returns-in-RollbackSql-clause-worked : goal.returns-in-RollbackSql-clause-worked
returns-in-RollbackSql-clause-worked g c =
    let ran = c.printed-in-RollbackSql in
    subst (λ job. WorkedOn g.D.Disk.told g.D.Disk.faults g.D.Disk.crashes job (given_at c.args.asked (stamp_of c.args.who.now (g.C.Clock.last ran.new.clock))) c.args.disk ran.result.done ran.result.disk)
    (sym c.in-RollbackSql.is) ran.ensures.worked

pub returns-in-Generate-clause-worked : goal.returns-in-Generate-clause-worked
returns-in-Generate-clause-worked g c =
    let ran = c.generate_on in
    let given = given_at c.args.asked (stamp_of c.args.who.now (g.C.Clock.last c.args.clock.now)) in
    subst (λ job. WorkedOn g.D.Disk.told g.D.Disk.faults g.D.Disk.crashes job given c.args.disk ran.result.done ran.result.disk)
    (ap Generate c.as_str.ensures ∙ sym c.in-Generate.is) (ran.ensures.worked given refl)

pub returns-in-Generate-clause-once : goal.returns-in-Generate-clause-once
returns-in-Generate-clause-once g c = inl refl

pub returns-in-UndoUnrecorded-clause-worked : goal.returns-in-UndoUnrecorded-clause-worked
returns-in-UndoUnrecorded-clause-worked g c =
    let ran = c.undo_on in
    let stamp = stamp_of c.args.who.now (g.C.Clock.last c.args.clock.now) in
    subst (λ job. WorkedOn g.D.Disk.told g.D.Disk.faults g.D.Disk.crashes job (given_at c.args.asked stamp) c.args.disk ran.result.done ran.result.disk)
    (sym c.in-UndoUnrecorded.is) (ran.ensures.worked stamp)

pub returns-in-UndoUnrecorded-clause-once : goal.returns-in-UndoUnrecorded-clause-once
returns-in-UndoUnrecorded-clause-once g c = inl refl

pub returns-in-UndoUnrecorded-clause-soaks : goal.returns-in-UndoUnrecorded-clause-soaks
returns-in-UndoUnrecorded-clause-soaks g c = no_soak c.args.job.now c.args.asked.options.dialect (stamp_of c.args.who.now (g.C.Clock.last c.args.clock.now)) c.undo_on.result.done (ap is_apart c.in-UndoUnrecorded.is)

pub returns-in-Snapshot-clause-worked : goal.returns-in-Snapshot-clause-worked
returns-in-Snapshot-clause-worked g c =
    let ran = c.snapshot_on in
    let given = given_at c.args.asked (stamp_of c.args.who.now (g.C.Clock.last c.args.clock.now)) in
    subst (λ job. WorkedOn g.D.Disk.told g.D.Disk.faults g.D.Disk.crashes job given c.args.disk ran.result.done ran.result.disk)
    (sym c.in-Snapshot.is) (ran.ensures.worked given refl)

pub returns-in-Snapshot-clause-once : goal.returns-in-Snapshot-clause-once
returns-in-Snapshot-clause-once g c = inl refl

pub returns-in-Snapshot-clause-soaks : goal.returns-in-Snapshot-clause-soaks
returns-in-Snapshot-clause-soaks g c = no_soak c.args.job.now c.args.asked.options.dialect (stamp_of c.args.who.now (g.C.Clock.last c.args.clock.now)) c.snapshot_on.result.done (ap is_apart c.in-Snapshot.is)

-- a soak has a database of its own

pub returns-in-Soak-clause-worked : goal.returns-in-Soak-clause-worked
returns-in-Soak-clause-worked g c =
    let done = c.soak-done.result in
    let refuses = c.soak-done.ensures.refuses in
    aside_worked g.D.Disk.told g.D.Disk.faults g.D.Disk.crashes c.args.job.now (given_at c.args.asked (stamp_of c.args.who.now (g.C.Clock.last c.soak-done.new.clock))) c.args.disk done (ap is_on_file c.in-Soak.is) (ap is_apart c.in-Soak.is) (ap is_own c.in-Soak.is) (ap goes_on c.in-Soak.is)
    (soak_damage c.args.asked.options.dialect (g.D.Disk.told c.args.disk) done refuses) (soak_kind done refuses) (soak_disk done refuses)

pub returns-in-Soak-clause-once : goal.returns-in-Soak-clause-once
returns-in-Soak-clause-once g c = inr c.soak-done.ensures.once

pub returns-then-is_on_store-clause-soaks : goal.returns-then-is_on_store-clause-soaks
returns-then-is_on_store-clause-soaks g c =
    no_soak c.args.job.now c.args.asked.options.dialect (stamp_of c.args.who.now (g.C.Clock.last c.on_disk.new.clock)) c.on_disk.result.done (own_beside c.args.job.now (store_own c.args.job.now (sym c.is_on_store.ensures ∙ c.if-is_on_store.true)))

pub returns-in-UpdateSql-clause-soaks : goal.returns-in-UpdateSql-clause-soaks
returns-in-UpdateSql-clause-soaks g c = no_soak c.args.job.now c.args.asked.options.dialect (stamp_of c.args.who.now (g.C.Clock.last c.printed.new.clock)) c.printed.result.done (ap is_apart c.in-UpdateSql.is)

pub returns-in-RollbackSql-clause-soaks : goal.returns-in-RollbackSql-clause-soaks
returns-in-RollbackSql-clause-soaks g c = no_soak c.args.job.now c.args.asked.options.dialect (stamp_of c.args.who.now (g.C.Clock.last c.printed-in-RollbackSql.new.clock)) c.printed-in-RollbackSql.result.done (ap is_apart c.in-RollbackSql.is)

pub returns-in-Generate-clause-soaks : goal.returns-in-Generate-clause-soaks
returns-in-Generate-clause-soaks g c = no_soak c.args.job.now c.args.asked.options.dialect (stamp_of c.args.who.now (g.C.Clock.last c.args.clock.now)) c.generate_on.result.done (ap is_apart c.in-Generate.is)

pub returns-in-Soak-clause-soaks : goal.returns-in-Soak-clause-soaks
returns-in-Soak-clause-soaks g c =
    soak_tells c.args.job.now c.in-Soak.number c.in-Soak.sets c.args.asked.options.dialect (stamp_of c.args.who.now (g.C.Clock.last c.soak-done.new.clock)) c.soak-done.result c.in-Soak.is c.soak-done.ensures.tells
