-- How a job of its own kind, that is beside no file, left the disk of its database file.
use Rattle.std.proofs.Common.{arith, subst, sym, ◌∙◌}
use Rattle.std.specs.Prelude.{Err, IfSome, List, Ok, Option, Result, false, true, ℕ, ◌≡◌, ◌≤◌}
use Rattle.lq_base.specs.declared.dialect.Dialect.{Dialect}
use Rattle.lq_cli.specs.declared.line.Job.{Job}
use Rattle.lq_commands.specs.Works.{is_finished}
use Rattle.lq_db.specs.Load.{IsDbFault}
use Rattle.lq_entries.specs.Load.{catalogue_of}
use Rattle.lq_journal.specs.declared.fault.LoadFault.{LoadFault}
use Rattle.lq_model.specs.Catalogue.{Catalogue}
use Rattle.lq_outside.specs.Forms.{Rose}
use Rattle.lq_outside.specs.Crash.{Crashes as DiskCrashes}
use Rattle.lq_tell.specs.declared.done.Done.{Done}
use Rattle.lq_tell.specs.declared.status.Status.{Status}
use Rattle.lq_tell.specs.declared.status.Status.TheVariants as status
use Rattle.lq_jobs.proofs.DamagedFiles.{load_spares, no_damage, spares_after}
use Rattle.lq_jobs.proofs.OnFiles.{fault_rises, fault_tells, load_unfinished, rose_later}
use Rattle.lq_jobs.specs.Bytes.{TellsDamage, load_status, most_bytes}
use Rattle.lq_jobs.specs.Jobs.{is_apart, is_own}
use Rattle.lq_jobs.specs.Worked.{UsedDisk}

true_false : true ≡ false → ⊥
true_false h = Prim.cc

module _ {D : Type 0} (told : D → Option (List ℕ)) (faults : D → ℕ) (crashes : D → DiskCrashes) (job : Job) (beside : is_apart job ≡ false) (d : Dialect) where
  -- on a database that was loaded
  pub loaded_used : is_own job ≡ false → (disk after : D) (c : Catalogue) → IfSome (told disk) (λ bytes. catalogue_of d most_bytes bytes ≡ Ok c) → (r : Result Done Status) → TellsDamage d (told disk) r
      → faults disk ≤ faults after → (r ≡ Err status.DiskFault → Rose (faults disk) (faults after)) → UsedDisk told faults crashes job d disk r after
  loaded_used none disk after c read r damaged later fault = record {
    damaged = damaged;
    spares = λ off place damaged. no_damage d (told disk) c read place damaged;
    safe = λ own. absurd (true_false (sym own ∙ none));
    off = λ off. absurd (true_false (sym off ∙ beside));
    later = later;
    fault = fault;
  }

  module _ (disk after : D) (same : told after ≡ told disk) (later : faults disk ≤ faults after) where
    -- what was done on the disk as it was read is done on the disk
    pub used_after : (r : Result Done Status) (last : D) → UsedDisk told faults crashes job d after r last → UsedDisk told faults crashes job d disk r last
    used_after r last used = record {
      damaged = subst (λ t. TellsDamage d t r) same used.damaged;
      spares = λ off place damaged. spares_after job d (told disk) (told after) same r (told last) place (used.spares off place) damaged;
      safe = used.safe;
      off = λ off. absurd (true_false (sym off ∙ beside));
      later = omega (arith, later, used.later);
      fault = λ is. rose_later (faults disk) (faults after) (faults last) later (used.fault is);
    }

    -- it could not be loaded
    pub fault_used : (f : LoadFault) (s : Status) → s ≡ load_status f → IsDbFault d most_bytes (told disk) (faults disk) (faults after) f → UsedDisk told faults crashes job d disk (Err s) after
    fault_used f s is_status is = record {
      damaged = subst (λ s. TellsDamage d (told disk) (Err s)) (sym is_status) (fault_tells d (told disk) (faults disk) (faults after) f is);
      spares = λ off place damaged. load_spares job d (told disk) (told after) (faults disk) (faults after) f s is_status is same place damaged;
      safe = λ own finished. absurd (load_unfinished f (subst (λ s. is_finished s ≡ true) is_status finished));
      off = λ off. absurd (true_false (sym off ∙ beside));
      later = later;
      fault = fault_rises d (told disk) (faults disk) (faults after) f s is_status is;
    }
