-- What a command did on a database that was loaded, and on the disk that it was loaded from.
use Rattle.std.proofs.Common.{ap, arith, refl, subst, sym, ◌∙◌}
use Rattle.std.specs.Prelude.{Err, IfSome, List, None, Ok, Option, Result, Some, false, is_some, true, ℕ, ◌≡◌, ◌≤◌}
use Rattle.lq_base.specs.declared.dialect.Dialect.{Dialect}
use Rattle.lq_cli.specs.declared.line.Job.{Job}
use Rattle.lq_commands.specs.Outputs.{TellsJob}
use Rattle.lq_commands.specs.Refusals.{Answers}
use Rattle.lq_commands.specs.Works.{CrashesIn, IsKept, IsReady, OnIts, Works, is_finished}
use Rattle.lq_commands.specs.declared.given.Given.{Given}
use Rattle.lq_db.specs.Db.{IsDb, IsNew, IsValid, crashes as crashes_of, disk_in, state}
use Rattle.lq_db.specs.Load.{IsDbFault}
use Rattle.lq_entries.specs.Load.{catalogue_of}
use Rattle.lq_db.specs.declared.db.Db.{Db}
use Rattle.lq_journal.specs.declared.fault.LoadFault.{LoadFault}
use Rattle.lq_journal.specs.declared.fault.LoadFault.TheVariants as load
use Rattle.lq_outside.specs.Forms.{Rose}
use Rattle.lq_outside.specs.Crash.{Crashes as DiskCrashes, IsSound, LeavesOnly, Settled}
use Rattle.lq_store.specs.Executor.{Held, kept}
use Rattle.lq_store.specs.Journal.{State}
use Rattle.lq_tell.specs.declared.done.Done.{Done}
use Rattle.lq_tell.specs.declared.status.Status.{Status}
use Rattle.lq_tell.specs.declared.status.Status.TheVariants as status
use Rattle.lq_jobs.proofs.DamagedFiles.{load_spares, memory_spares, no_damage, spares_after}
use Rattle.lq_jobs.proofs.InPart.{has_aim, memory_aim, no_goal, own_beside, own_plain}
use Rattle.lq_jobs.proofs.LeftOnFile.{after_since, none_since, read_since}
use Rattle.lq_jobs.proofs.OnFiles.{does_nothing, does_there, fault_kind, fault_rises, fault_tells, load_unfinished, memory_kind, memory_no_disk, memory_tells, memory_unfinished, moments_there, refused_does, rose_later, settled_after}
use Rattle.lq_jobs.proofs.OnReady.{ready_kind, ready_tells}
use Rattle.lq_jobs.proofs.Ready.{opened}
use Rattle.lq_jobs.proofs.SnappedOn.{memory_snapped}
use Rattle.lq_jobs.proofs.UndoneOn.{memory_undone}
use Rattle.lq_jobs.specs.Bytes.{IsLeftOn, OnFile, TellsDamage, load_status, most_bytes}
use Rattle.lq_jobs.specs.Jobs.{DoesJob, JobLeaves, MakesAgain, UnlessRefused, goes_on, is_apart, is_on_file, is_own, job_reads, job_refusal, job_script, misses}
use Rattle.lq_jobs.specs.Kinds.{IsOfDatabase}
use Rattle.lq_jobs.specs.Worked.{CrashesJob, LeavesSince, WorkedOn}

true_false : true ≡ false → ⊥
true_false h = Prim.cc

false_true : false ≡ true → ⊥
false_true h = Prim.cc

load_aim : (job : Job) (f : LoadFault) → misses job (load_status f) ≡ false
load_aim job load.Disk = refl
load_aim job (load.Damaged place) = refl
load_aim job load.OutOfMemory = refl

same_count : (a b : ℕ) → a ≡ b → b ≤ a
same_count a b is = omega arith

-- what a check refuses makes no call of the disk
unless_refused : (d : Dialect) (leaves : List ℕ → Type 0) (a b : DiskCrashes) (refused : Option Status) → (is_some refused ≡ true → b ≡ a) → LeavesSince d leaves a b → LeavesSince d (λ bytes. UnlessRefused refused (leaves bytes)) a b
unless_refused d leaves a b None same since = since
unless_refused d leaves a b (Some status) same since = subst (LeavesSince d (λ bytes. ⊥) a) (sym (same refl)) (none_since d (λ bytes. ⊥) a)

module _ {D : Type 0} (told : D → Option (List ℕ)) (faults : D → ℕ) (crashes : D → DiskCrashes) where
  -- a job that is not on the file
  pub aside_worked : (job : Job) (given : Given) (disk : D) (done : Result Done Status) → is_on_file job ≡ false → is_apart job ≡ true → is_own job ≡ false → goes_on job ≡ false → TellsDamage given.options.dialect (told disk) done → IsOfDatabase done → (done ≡ Err status.DiskFault → ⊥)
      → WorkedOn told faults crashes job given disk done disk
  aside_worked job given disk done off apart none no_tag damaged kind no_fault = record {
    used = record {
      damaged = damaged;
      spares = λ beside. absurd (true_false (sym apart ∙ beside));
      safe = λ command finished. absurd (true_false (sym command ∙ none));
      off = λ is. refl;
      later = same_count (faults disk) (faults disk) refl;
      fault = λ is. absurd (no_fault is);
    };
    kind = kind;
    has_part = no_goal job done no_tag;
    does = λ on. absurd (true_false (sym on ∙ off));
    any_moment = λ on. absurd (true_false (sym on ∙ off));
    undone = λ is. absurd (true_false (sym apart ∙ ap is_apart is));
    snapped = λ is. absurd (true_false (sym apart ∙ ap is_apart is));
  }

  -- a command on a database that was loaded
  module _ {P E : Type 0} (p : Dialect) (h k : Held) (db left : Db D P E) (is : IsDb p (told (disk_in db)) (crashes (disk_in db)) h db) (valid : IsValid p (told (disk_in left)) (crashes (disk_in left)) k left)
      (given : Given) (new : IsNew given.options.dialect most_bytes db) (ready : IsReady given.options.dialect (state (told (disk_in db)) h db))
      (read : IfSome (told (disk_in db)) (λ bytes. catalogue_of given.options.dialect most_bytes bytes ≡ Ok (kept h))) where
    abbrev d : Dialect
    d = given.options.dialect

    abbrev x : State
    x = state (told (disk_in db)) h db

    abbrev y : State
    y = state (told (disk_in left)) k left

    settled_kept : left ≡ db → Settled (told (disk_in left)) (crashes (disk_in left))
    settled_kept same = subst (λ (db : Db D P E). Settled (told (disk_in db)) (crashes (disk_in db))) (sym same) is.whole.settled

    pub worked : (job : Job) → is_own job ≡ true → (r : Result Done Status) → OnIts d x (λ database. Answers (job_refusal job given database) r) → OnIts d x (λ database. IsKept (job_refusal job given database) db left) → (job_reads job ≡ true → left ≡ db)
        → OnIts d x (λ database. Works d (job_script job given database) database x r y) → OnIts d x (λ database. CrashesIn d (job_script job given database) database x (crashes_of (crashes (disk_in db)) db) (crashes_of (crashes (disk_in left)) left))
        → OnIts d x (λ database. TellsJob job given database r) → OnIts d x (λ database. MakesAgain job given database r) → faults (disk_in db) ≤ faults (disk_in left) → (r ≡ Err status.DiskFault → Rose (faults (disk_in db)) (faults (disk_in left)))
        → WorkedOn told faults crashes job given (disk_in db) r (disk_in left)
    worked job own r answers refused reads works moments tells again later fault = record {
      used = record {
        damaged = ready_tells d d refl x ready (job_refusal job given) (own_plain job own given) r answers (told (disk_in db));
        spares = λ beside place damaged. no_damage d (told (disk_in db)) (kept h) read place damaged;
        safe = λ command finished.
            settled_after d p (job_script job given ready.database) ready.database x (told (disk_in left)) (crashes (disk_in left)) k left valid (job_refusal job given ready.database) r (answers ready.database ready.has)
            (λ some. settled_kept (refused ready.database ready.has some)) (works ready.database ready.has) finished;
        off = λ off. absurd (true_false (sym off ∙ own_beside job own));
        later = later;
        fault = fault;
      };
      has_part = has_aim job own given ready.database r (answers ready.database ready.has);
      kind = ready_kind d d refl x ready (job_refusal job given) (own_plain job own given) r answers;
      does = λ on database opens.
          let has = opened d p (told (disk_in db)) (crashes (disk_in db)) h db is new (told (disk_in db)) database refl read opens in
          does_there d p (told (disk_in db)) (crashes (disk_in db)) h db is new.limit_is opens.bytes opens.told_is (told (disk_in left)) (crashes (disk_in left)) k left valid database has job own given r refl
          (answers database has) (λ some. ap (λ (db : Db D P E). told (disk_in db)) (refused database has some)) (λ only. ap (λ (db : Db D P E). told (disk_in db)) (reads only)) (works database has) (tells database has) (again database has);
      any_moment = λ on database opens.
          let has = opened d p (told (disk_in db)) (crashes (disk_in db)) h db is new (told (disk_in db)) database refl read opens in
          unless_refused d (λ bytes. IsLeftOn d (job_script job given database) database (told (disk_in db)) (Some bytes)) (crashes (disk_in db)) (crashes (disk_in left)) (job_refusal job given database)
          (λ some. ap (λ (db : Db D P E). crashes (disk_in db)) (refused database has some))
          (moments_there d p (told (disk_in db)) (crashes (disk_in db)) h db is new.limit_is opens.bytes opens.told_is (told (disk_in left)) (crashes (disk_in left)) k left valid database has
          (job_script job given database) r (works database has) (moments database has));
      undone = λ is. absurd (true_false (sym own ∙ ap is_own is));
      snapped = λ is. absurd (true_false (sym own ∙ ap is_own is));
    }

  module _ (given : Given) (disk : D) where
    -- there was no memory for it
    pub memory_worked : (job : Job) (s : Status) → s ≡ status.OutOfMemory → WorkedOn told faults crashes job given disk (Err s) disk
    memory_worked job s memory = record {
      used = record {
        damaged = memory_tells given.options.dialect (told disk) s memory;
        spares = λ beside place damaged. memory_spares job place (told disk) (Err s) (told disk) s memory refl refl;
        safe = λ command finished. absurd (memory_unfinished s memory finished);
        off = λ off. refl;
        later = same_count (faults disk) (faults disk) refl;
        fault = λ is. absurd (memory_no_disk s memory is);
      };
      kind = memory_kind s memory;
      has_part = memory_aim job s memory;
      does = λ on database opens. does_nothing job given database (told disk) (told disk) s memory opens refl;
      any_moment = λ on database opens. none_since given.options.dialect (JobLeaves job given database (told disk)) (crashes disk);
      undone = λ is. memory_undone told faults crashes given.options given.changelog disk s memory;
      snapped = λ is. memory_snapped told faults crashes given.options.dialect disk s memory;
    }

    module _ (sound : IsSound (told disk) (crashes disk)) (after : D) (same : told after ≡ told disk) (later : faults disk ≤ faults after) (read : LeavesOnly (crashes disk) (crashes after) (crashes disk).leaves) where
      -- what was done on the disk as it was read is done on the disk
      pub worked_after : (job : Job) → is_own job ≡ true → (r : Result Done Status) (last : D) → WorkedOn told faults crashes job given after r last → WorkedOn told faults crashes job given disk r last
      worked_after job own r last did = record {
        used = record {
          damaged = subst (λ o. TellsDamage given.options.dialect o r) same did.used.damaged;
          spares = λ beside place damaged. spares_after job given.options.dialect (told disk) (told after) same r (told last) place (did.used.spares beside place) damaged;
          safe = did.used.safe;
          off = λ off. absurd (true_false (sym off ∙ own_beside job own));
          later = omega (arith, later, did.used.later);
          fault = λ is. rose_later (faults disk) (faults after) (faults last) later (did.used.fault is);
        };
        kind = did.kind;
        has_part = did.has_part;
        does = subst (λ (before : Option (List ℕ)). is_on_file job ≡ true → OnFile given.options.dialect before (λ database. DoesJob job given database before r (told last))) same did.does;
        any_moment = λ on database opens.
            after_since given.options.dialect (JobLeaves job given database (told disk)) (told disk) (crashes disk) sound (crashes after) (crashes last) read
            (subst (λ o. CrashesJob job given o (crashes after) (crashes last)) same did.any_moment on database opens);
        undone = λ is. absurd (true_false (sym own ∙ ap is_own is));
        snapped = λ is. absurd (true_false (sym own ∙ ap is_own is));
      }

      -- it could not be loaded
      pub fault_worked : (job : Job) → is_own job ≡ true → (f : LoadFault) (s : Status) → s ≡ load_status f → IsDbFault given.options.dialect most_bytes (told disk) (faults disk) (faults after) f → WorkedOn told faults crashes job given disk (Err s) after
      fault_worked job own f s is_status is = record {
        used = record {
          damaged = subst (λ s. TellsDamage given.options.dialect (told disk) (Err s)) (sym is_status) (fault_tells given.options.dialect (told disk) (faults disk) (faults after) f is);
          spares = λ beside place damaged. load_spares job given.options.dialect (told disk) (told after) (faults disk) (faults after) f s is_status is same place damaged;
          safe = λ command finished. absurd (load_unfinished f (subst (λ s. is_finished s ≡ true) is_status finished));
          off = λ off. absurd (true_false (sym off ∙ own_beside job own));
          later = later;
          fault = fault_rises given.options.dialect (told disk) (faults disk) (faults after) f s is_status is;
        };
        kind = subst (λ s. IsOfDatabase (Err s)) (sym is_status) (fault_kind f);
        has_part = ap (misses job) is_status ∙ load_aim job f;
        does = λ on. refused_does (told disk) (told after) (faults disk) (faults after) f s is_status job given is same;
        any_moment = λ on database opens. read_since given.options.dialect (JobLeaves job given database (told disk)) (told disk) (crashes disk) sound (crashes after) read;
        undone = λ is. absurd (true_false (sym own ∙ ap is_own is));
        snapped = λ is. absurd (true_false (sym own ∙ ap is_own is));
      }
