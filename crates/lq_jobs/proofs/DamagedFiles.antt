-- Of a file that is damaged: it is told with its place, and stays as it is.
use Rattle.std.proofs.Common.{ap, inl, inr, refl, subst, sym, ◌∙◌}
use Rattle.std.specs.Prelude.{Err, IfSome, List, Ok, Option, Result, Some, false, true, ℕ, ◌≡◌, ◌⊎◌}
use Rattle.lq_base.specs.declared.dialect.Dialect.{Dialect}
use Rattle.lq_cli.specs.declared.line.Job.{Job}
use Rattle.lq_db.specs.Db.{IsDb}
use Rattle.lq_db.specs.Load.{IsDbFault}
use Rattle.lq_entries.specs.Load.{catalogue_of}
use Rattle.lq_db.specs.declared.db.Db.{Db}
use Rattle.lq_journal.specs.declared.fault.LoadFault.{LoadFault}
use Rattle.lq_journal.specs.declared.fault.LoadFault.TheVariants as load
use Rattle.lq_model.specs.Catalogue.{Catalogue}
use Rattle.lq_outside.specs.Crash.{Crashes}
use Rattle.lq_sources.specs.declared.fault.LoadFault.{LoadFault as FilesFault}
use Rattle.lq_sources.specs.declared.fault.LoadFault.TheVariants as files
use Rattle.lq_store.specs.Executor.{Held, kept}
use Rattle.lq_tell.specs.declared.done.Done.{Done}
use Rattle.lq_tell.specs.declared.status.Status.{Status}
use Rattle.lq_tell.specs.declared.status.Status.TheVariants as status
use Rattle.lq_jobs.proofs.Copied.{long_told}
use Rattle.lq_jobs.proofs.InPart.{no_goal}
use Rattle.lq_jobs.proofs.Written.{IsWritten, failed_ends}
use Rattle.lq_jobs.specs.Asks.{file_status}
use Rattle.lq_jobs.specs.Bytes.{IsDamagedAt, load_status, most_bytes, IsNoCopy, copy_status}
use Rattle.lq_jobs.specs.Jobs.{goes_on, misses}
use Rattle.lq_jobs.specs.Run.{SparesDamage, TellsPlace}
use Rattle.lq_jobs.specs.Worked.{FailsAt, Spares}

ok_no_err : (r : Result Catalogue ℕ) (c : Catalogue) (n : ℕ) → r ≡ Ok c → r ≡ Err n → ⊥
ok_no_err r c n ok err = Prim.cc

err_same : (n m : ℕ) → (let r : Result Catalogue ℕ = Err n in r) ≡ Err m → n ≡ m
err_same n m h = Prim.cc

-- what is loaded is not damaged
pub no_damage : {A : Type 0} (d : Dialect) (told : Option (List ℕ)) (c : Catalogue) → IfSome told (λ bytes. catalogue_of d most_bytes bytes ≡ Ok c) → (place : ℕ) → IsDamagedAt d told place → A
no_damage d told c read place damaged =
    absurd (ok_no_err (catalogue_of d most_bytes damaged.0) c place (subst (λ o. IfSome o (λ bytes. catalogue_of d most_bytes bytes ≡ Ok c)) damaged.1 read) damaged.2)

pub loads_whole : {A D P E : Type 0} (d p : Dialect) (now : Option (List ℕ)) (crashes : Crashes) (h : Held) (db : Db D P E) → IsDb p now crashes h db → (told : Option (List ℕ)) → IfSome told (λ bytes. catalogue_of d most_bytes bytes ≡ Ok (kept h))
    → (place : ℕ) → IsDamagedAt d told place → A
loads_whole d p now crashes h db is told read place damaged = no_damage d told (kept h) read place damaged

-- damage that is told is where it is
same_place : (d : Dialect) (told : Option (List ℕ)) (one place : ℕ) → IfSome told (λ bytes. catalogue_of d most_bytes bytes ≡ Err one) → IsDamagedAt d told place → status.Damaged one ≡ status.Damaged place
same_place d told one place said damaged =
    ap (λ (n : ℕ). status.Damaged n) (err_same one place (sym (subst (λ o. IfSome o (λ bytes. catalogue_of d most_bytes bytes ≡ Err one)) damaged.1 said) ∙ damaged.2))

-- want of memory comes before all
pub memory_first : (place : ℕ) (s : Status) → s ≡ status.OutOfMemory → TellsPlace place s
memory_first place s memory = inr (inr (inr (inr memory)))

disk_first : (place : ℕ) → TellsPlace place status.DiskFault
disk_first place = inr (inr (inr (inl refl)))

pub fails_so : (place : ℕ) (s : Status) → TellsPlace place s → FailsAt place (Err s)
fails_so place s tells = (s, refl, tells)

pub fails_by : (place : ℕ) (s x : Status) → s ≡ x → TellsPlace place x → FailsAt place (Err s)
fails_by place s x is tells = fails_so place s (subst (TellsPlace place) (sym is) tells)

pub spares_by : (job : Job) (place : ℕ) (before : Option (List ℕ)) (done : Result Done Status) (after : Option (List ℕ)) → FailsAt place done → after ≡ before → Spares job place before done after
spares_by job place before done after fails same = (fails.0, fails.1, (inl fails.2, same))

pub memory_spares : (job : Job) (place : ℕ) (before : Option (List ℕ)) (done : Result Done Status) (after : Option (List ℕ)) (s : Status) → s ≡ status.OutOfMemory → done ≡ Err s → after ≡ before → Spares job place before done after
memory_spares job place before done after s memory is same = (s, is, (inl (memory_first place s memory), same))

-- a fault of loading

load_tells : (d : Dialect) (told : Option (List ℕ)) (before now : ℕ) (f : LoadFault) → IsDbFault d most_bytes told before now f → (place : ℕ) → IsDamagedAt d told place → TellsPlace place (load_status f)
load_tells d told before now load.Disk is place damaged = disk_first place
load_tells d told before now (load.Damaged one) is place damaged = inl (same_place d told one place is damaged)
load_tells d told before now load.OutOfMemory is place damaged = memory_first place status.OutOfMemory refl

pub load_spares : (job : Job) (d : Dialect) (told after : Option (List ℕ)) (before now : ℕ) (f : LoadFault) (s : Status) → s ≡ load_status f → IsDbFault d most_bytes told before now f → after ≡ told → (place : ℕ) → IsDamagedAt d told place → Spares job place told (Err s) after
load_spares job d told after before now f s is_status is same place damaged = spares_by job place told (Err s) after (fails_by place s (load_status f) is_status (load_tells d told before now f is place damaged)) same

-- of a disk that was read before
pub spares_after : (job : Job) (d : Dialect) (before now : Option (List ℕ)) → now ≡ before → (done : Result Done Status) (after : Option (List ℕ)) (place : ℕ) → (IsDamagedAt d now place → Spares job place now done after) → IsDamagedAt d before place → Spares job place before done after
spares_after job d before now same done after place spares damaged = subst (λ o. Spares job place o done after) same (spares (subst (λ o. IsDamagedAt d o place) (sym same) damaged))

-- a fault of the files
pub files_tell : (f : FilesFault) (place : ℕ) → TellsPlace place (file_status f)
files_tell files.Read place = inr (inl tt)
files_tell (files.NoFile text) place = inr (inl tt)
files_tell (files.Xml text) place = inr (inl tt)
files_tell (files.Fault path what) place = inr (inl tt)
files_tell (files.TooDeep text) place = inr (inl tt)
files_tell files.TooMany place = inr (inl tt)
files_tell (files.TooLong text) place = inr (inl tt)
files_tell files.OutOfMemory place = memory_first place status.OutOfMemory refl

-- of a copy in memory

pub copy_load_tells : (d : Dialect) (told : Option (List ℕ)) (before now : ℕ) (f : LoadFault) → IsDbFault d most_bytes told before now f → (place : ℕ) → IsDamagedAt d told place → TellsPlace place (copy_status (load_status f))
copy_load_tells d told before now load.Disk is place damaged = memory_first place status.OutOfMemory refl
copy_load_tells d told before now (load.Damaged one) is place damaged = inl (same_place d told one place is damaged)
copy_load_tells d told before now load.OutOfMemory is place damaged = memory_first place status.OutOfMemory refl

pub copy_damaged : (d : Dialect) (told copied : Option (List ℕ)) → IfSome told (λ bytes. copied ≡ Some bytes) → (place : ℕ) → IsDamagedAt d told place → IsDamagedAt d copied place
copy_damaged d told copied copy place damaged = (damaged.0, subst (λ o. IfSome o (λ bytes. copied ≡ Some bytes)) damaged.1 copy, damaged.2)

-- there is none
pub no_copy_place : (d : Dialect) (told : Option (List ℕ)) (s : Status) → IsNoCopy told s → (place : ℕ) → IsDamagedAt d told place → TellsPlace place s
no_copy_place d told (status.Damaged one) is place damaged = inl (same_place d told one place (long_told d told one is.0 is.1) damaged)
no_copy_place d told status.DiskFault is place damaged = disk_first place
no_copy_place d told status.OutOfMemory is place damaged = memory_first place status.OutOfMemory refl
no_copy_place d told status.Done is place damaged = absurd is
no_copy_place d told status.Usage is place damaged = absurd is
no_copy_place d told status.ReadFault is place damaged = absurd is
no_copy_place d told (status.Changelog fault) is place damaged = absurd is
no_copy_place d told (status.Invalid faults) is place damaged = absurd is
no_copy_place d told (status.Locked lock) is place damaged = absurd is
no_copy_place d told (status.Halted identity why) is place damaged = absurd is
no_copy_place d told (status.Refused identity statement kept reason) is place damaged = absurd is
no_copy_place d told status.NoTarget is place damaged = absurd is
no_copy_place d told (status.NotReversible of) is place damaged = absurd is
no_copy_place d told status.NothingToUndo is place damaged = absurd is
no_copy_place d told (status.NotWritable at) is place damaged = absurd is
no_copy_place d told (status.Full used next) is place damaged = absurd is
no_copy_place d told status.WriteFault is place damaged = absurd is
no_copy_place d told (status.Busy session) is place damaged = absurd is

-- once its texts are written

told_as : (place : ℕ) (x s : Status) → (s ≡ x) ⊎ (s ≡ status.OutOfMemory) → TellsPlace place x → TellsPlace place s
told_as place x s (inl same) tells = subst (TellsPlace place) (sym same) tells
told_as place x s (inr memory) tells = memory_first place s memory

told_or : (job : Job) (place : ℕ) (x s : Status) → (s ≡ x) ⊎ (s ≡ status.OutOfMemory) → TellsPlace place x ⊎ (misses job x ≡ true) → TellsPlace place s ⊎ (misses job s ≡ true)
told_or job place x s by (inl tells) = inl (told_as place x s by tells)
told_or job place x s (inl same) (inr missed) = inr (ap (misses job) same ∙ missed)
told_or job place x s (inr memory) (inr missed) = inl (memory_first place s memory)

pub spares_damage : (job : Job) (place : ℕ) (before : Option (List ℕ)) (done : Result Done Status) (after : Option (List ℕ)) (s : Status) → IsWritten done s → Spares job place before done after → SparesDamage job place s before after
spares_damage job place before done after s by spares = (told_or job place spares.0 s (failed_ends done spares.0 s by spares.1) spares.2.0, spares.2.1)

-- a job without a tag to go on to spares it as any other does
spared_by : (j k : Job) (place : ℕ) (s : Status) → goes_on j ≡ false → TellsPlace place s ⊎ (misses j s ≡ true) → TellsPlace place s ⊎ (misses k s ≡ true)
spared_by j k place s none (inl tells) = inl tells
spared_by j k place s none (inr missed) = absurd (false_true (sym (no_goal j (Err s) none) ∙ missed)) where
  false_true : false ≡ true → ⊥
  false_true h = Prim.cc

pub spares_as : (j k : Job) (place : ℕ) (before : Option (List ℕ)) (done : Result Done Status) (after : Option (List ℕ)) → goes_on j ≡ false → Spares j place before done after → Spares k place before done after
spares_as j k place before done after none spares = (spares.0, spares.1, (spared_by j k place spares.0 none spares.2.0, spares.2.1))
