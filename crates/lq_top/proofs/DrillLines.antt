-- The line of a drill, and those of other jobs.
use Rattle.std.proofs.Common.{ap, refl, sym, ◌∙◌}
use Rattle.std.specs.Prelude.{Err, List, Ok, Option, Result, false, true, ℕ, ◌≡◌}
use Rattle.lq_cli.specs.declared.line.Job.{Job}
use Rattle.lq_cli.specs.declared.line.Job.TheVariants.{Drill, History, RollbackSql, Run, Soak, UpdateCount, UpdateSql, UpdateTestingRollback, UpdateTo, Generate, ClearSums, UndoUnrecorded, Snapshot}
use Rattle.lq_cli.specs.declared.line.Line.{Line}
use Rattle.lq_expr.specs.declared.options.Options.{Options}
use Rattle.lq_kinds.specs.declared.change_set.Changelog.{Changelog}
use Rattle.lq_outside.specs.Crash.{Crashes as DiskCrashes}
use Rattle.lq_sources.specs.Faults.{Source, map_ok, Loaded}
use Rattle.lq_sources.specs.declared.fault.LoadFault.{LoadFault}
use Rattle.lq_tell.specs.declared.done.Done.{Done}
use Rattle.lq_tell.specs.declared.status.Status.{Status}
use Rattle.lq_turns.specs.declared.stamp.Stamp.{Stamp}
use Rattle.lq_jobs.specs.Asks.{Files, given_for, given_to, is_drill, loaded, no_changelog}
use Rattle.lq_jobs.specs.Drills.{drill_of}
use Rattle.lq_jobs.specs.Worked.{WorkedBy}
use Rattle.lq_jobs.specs.declared.entrants.Drilling.{Drilling}

true_false : true ≡ false → ⊥
true_false h = Prim.cc

pub by_job : {A : Type 0} (job : Job) → (is_drill job ≡ false → A) → ((runs : List ℕ) → job ≡ Drill runs → A) → A
by_job (Run c) other drill = other refl
by_job UpdateSql other drill = other refl
by_job (UpdateCount count) other drill = other refl
by_job (UpdateTo tag) other drill = other refl
by_job UpdateTestingRollback other drill = other refl
by_job ClearSums other drill = other refl
by_job History other drill = other refl
by_job (Generate author) other drill = other refl
by_job (RollbackSql target) other drill = other refl
by_job (Drill runs) other drill = drill runs refl
by_job (Soak number sets) other drill = other refl
by_job UndoUnrecorded other drill = other refl
by_job Snapshot other drill = other refl

-- what the files give them

pub drill_given : (source : Source) (line : Line) (runs : List ℕ) → line.job ≡ Drill runs → given_to source line ≡ map_ok (λ (drill : Option Drilling). no_changelog) (drill_of source line.options.dialect line.path runs)
drill_given source line runs is = ap (λ job. given_for job source line) is

pub other_given : (job : Job) (source : Source) (line : Line) → is_drill job ≡ false → given_for job source line ≡ loaded source line.options.dialect line.given line.root
other_given (Run c) source line plain = refl
other_given UpdateSql source line plain = refl
other_given (UpdateCount count) source line plain = refl
other_given (UpdateTo tag) source line plain = refl
other_given UpdateTestingRollback source line plain = refl
other_given ClearSums source line plain = refl
other_given History source line plain = refl
other_given (Generate author) source line plain = refl
other_given (RollbackSql target) source line plain = refl
other_given (Drill runs) source line plain = absurd (true_false plain)
other_given (Soak number sets) source line plain = refl
other_given UndoUnrecorded source line plain = refl
other_given Snapshot source line plain = refl

-- a drill that cannot be read has the fault of its files

pub fault_given : (r : Loaded (Option Drilling)) (fault : LoadFault) → r ≡ Err fault → map_ok (λ (drill : Option Drilling). no_changelog) r ≡ Err fault
fault_given r fault is = ap (map_ok (λ (drill : Option Drilling). no_changelog)) is

pub fault_there : (r : Loaded (Option Drilling)) (fault : LoadFault) → map_ok (λ (drill : Option Drilling). no_changelog) r ≡ Err fault → r ≡ Err fault
fault_there (Ok drill) fault is = Prim.cc
fault_there (Err f) fault is = Prim.cc

-- what was done with what its files give, by another name of that
pub meant_same : {D : Type 0} (told : D → Option (List ℕ)) (faults : D → ℕ) (crashes : D → DiskCrashes) (files : Files) (meant other : Source → Loaded Changelog) → ((source : Source) → meant source ≡ other source)
    → (job : Job) (options : Options) (stamp : Stamp) (before : D) (done : Result Done Status) (after : D) → WorkedBy told faults crashes files meant job options stamp before done after → WorkedBy told faults crashes files other job options stamp before done after
meant_same told faults crashes files meant other same job options stamp before done after did = record {
  used = did.used;
  kind = did.kind;
  untouched = did.untouched;
  changelog = λ fault is source tells. sym (same source) ∙ did.changelog fault is source tells;
  not_loaded = λ source tells fault gives. did.not_loaded source tells fault (same source ∙ gives);
  missed = λ missed. (λ source tells whole gives. (did.missed missed).0 source tells whole (same source ∙ gives), (did.missed missed).1);
  in_vain = λ source whole tells gives. did.in_vain source whole tells (same source ∙ gives);
  does = λ source whole g tells gives. did.does source whole g tells (same source ∙ gives);
  any_moment = λ source whole g tells gives. did.any_moment source whole g tells (same source ∙ gives);
  undone = λ source whole g tells gives. did.undone source whole g tells (same source ∙ gives);
  snapped = λ source whole g tells gives. did.snapped source whole g tells (same source ∙ gives);
}
