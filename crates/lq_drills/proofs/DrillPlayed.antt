-- How players end that took their steps.
use Rattle.std.proofs.Common.{ap, refl, subst, sym, ◌∙◌}
use Rattle.std.specs.Prelude.{Err, IfErr, IfOk, List, Ok, Option, Result, Some, false, true, ℕ, ◌≡◌}
use Rattle.lq_base.specs.declared.command.Command.{Command}
use Rattle.lq_base.specs.declared.dialect.Dialect.{Dialect}
use Rattle.lq_commands.specs.Refusals.{ends}
use Rattle.lq_drill.specs.declared.fault.DrillFault.{DrillFault}
use Rattle.lq_drill.specs.declared.fault.DrillFault.TheVariants as fault
use Rattle.lq_players.specs.declared.any_command.AnyCommand.{AnyCommand}
use Rattle.lq_report.specs.Output.{drill_text}
use Rattle.lq_store.specs.Journal.{State}
use Rattle.lq_tell.specs.declared.done.Done.{Done}
use Rattle.lq_tell.specs.declared.status.Status.{Status}
use Rattle.lq_tell.specs.declared.status.Status.TheVariants as status
use Rattle.lq_jobs.specs.Bytes.{TellsDamage}
use Rattle.lq_drills.specs.Drilled.{drilled}
use Rattle.lq_jobs.specs.Kinds.{Refuses, is_of_drill}
use Rattle.lq_drills.specs.Players.{PlayEnds, PlayIsFull, answers_in, drill_status, is_of_play}

abbrev IsMemory : Status → Type 0
IsMemory s = s ≡ status.OutOfMemory

module _ (commands : List Command) (last : List AnyCommand) where
  -- it is done, with this text
  abbrev Tells : Done → Type 0
  Tells done = (done.status ≡ status.Done) × (done.out ≡ Some (drill_text (drilled commands (answers_in last))))

  pub played_ends : (y : State) (r : Result Done Status) → y.live ≡ true → IfOk r Tells → PlayEnds commands last y r
  played_ends y (Ok done) live tells = (live, tells.0, tells.1)
  played_ends y (Err s) live tells = tt

  pub played_kind : (r : Result Done Status) → IfOk r Tells → IfErr r IsMemory → Refuses is_of_play r
  played_kind (Ok done) tells memory = ap ends tells.0
  played_kind (Err s) tells memory = ap is_of_play memory

of_fault : (f : DrillFault) → is_of_play (drill_status f) ≡ true
of_fault fault.Disk = refl
of_fault (fault.Full used next) = refl
of_fault fault.OutOfMemory = refl

pub fault_kind : (f : DrillFault) (s : Status) → s ≡ drill_status f → Refuses is_of_play (Err s)
fault_kind f s is = subst (λ s. is_of_play s ≡ true) (sym is) (of_fault f)

-- only a fault of the store tells that the journal is full, and it is that fault

pub tells_not_full : (r : Result Done Status) → IfErr r IsMemory → (by : DrillFault → Type 0) → PlayIsFull r by
tells_not_full (Ok done) memory by = tt
tells_not_full (Err s) memory by = subst (λ s. PlayIsFull (Err s) by) (sym memory) tt

full_by : (f : DrillFault) (by : DrillFault → Type 0) → by f → PlayIsFull (Err (drill_status f)) by
full_by fault.Disk by met = tt
full_by (fault.Full used next) by met = met
full_by fault.OutOfMemory by met = tt

pub fault_full : (f : DrillFault) (s : Status) → s ≡ drill_status f → (by : DrillFault → Type 0) → by f → PlayIsFull (Err s) by
fault_full f s is by met = subst (λ s. PlayIsFull (Err s) by) (sym is) (full_by f by met)

-- a fault of the disk

disk_no_memory : status.DiskFault ≡ status.OutOfMemory → ⊥
disk_no_memory is = Prim.cc

status_is : (s t : Status) → (let r : Result Done Status = Err s in r) ≡ Err t → s ≡ t
status_is s t is = Prim.cc

pub tells_no_disk : (r : Result Done Status) → IfErr r IsMemory → r ≡ Err status.DiskFault → ⊥
tells_no_disk (Ok done) memory is = Prim.cc
tells_no_disk (Err s) memory is = disk_no_memory (sym (status_is s status.DiskFault is) ∙ memory)

disk_by : (f : DrillFault) → drill_status f ≡ status.DiskFault → f ≡ fault.Disk
disk_by fault.Disk is = refl
disk_by (fault.Full used next) is = Prim.cc
disk_by fault.OutOfMemory is = Prim.cc

pub disk_fault : (f : DrillFault) (s : Status) → s ≡ drill_status f → (let r : Result Done Status = Err s in r) ≡ Err status.DiskFault → f ≡ fault.Disk
disk_fault f s is disk = disk_by f (sym is ∙ status_is s status.DiskFault disk)

false_true : false ≡ true → ⊥
false_true h = Prim.cc

-- so a drill may end, and no damage is told

pub of_drill : (r : Result Done Status) → Refuses is_of_play r → Refuses is_of_drill r
of_drill (Ok done) kind = kind
of_drill (Err (status.Damaged at)) kind = absurd (false_true kind)
of_drill (Err s) kind = kind

pub played_tells : (d : Dialect) (told : Option (List ℕ)) (r : Result Done Status) → Refuses is_of_play r → TellsDamage d told r
played_tells d told (Ok done) kind = tt
played_tells d told (Err (status.Damaged at)) kind = absurd (false_true kind)
played_tells d told (Err s) kind = tt
