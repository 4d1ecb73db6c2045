-- What was done on a disk, with what the files give, and for the words.
use Rattle.std.proofs.Common.{inl, inr, refl, subst, sym, ◌∙◌}
use Rattle.std.specs.Prelude.{Err, List, None, Ok, Option, Result, Some, false, true, ℕ, ◌≡◌}
use Rattle.lq_cli.specs.Line.{line_of}
use Rattle.lq_cli.specs.declared.line.Job.{Job}
use Rattle.lq_cli.specs.declared.line.Line.{Line}
use Rattle.lq_commands.specs.Rehearsal.{part_for}
use Rattle.lq_commands.specs.Works.{is_finished}
use Rattle.lq_commands.specs.declared.given.Given.{Given}
use Rattle.lq_expr.specs.declared.options.Options.{Options}
use Rattle.lq_kinds.specs.declared.change_set.Changelog.{Changelog}
use Rattle.lq_outside.specs.Crash.{Crashes as DiskCrashes, IsSound}
use Rattle.lq_sources.specs.Faults.{Finds, IsTold, Source, Loaded}
use Rattle.lq_sources.specs.declared.fault.LoadFault.{LoadFault}
use Rattle.lq_sources.specs.declared.fault.LoadFault.TheVariants as load
use Rattle.lq_tell.specs.declared.done.Done.{Done}
use Rattle.lq_tell.specs.declared.status.Status.{Status}
use Rattle.lq_tell.specs.declared.status.Status.TheVariants as status
use Rattle.lq_turns.specs.declared.stamp.Stamp.{Stamp}
use Rattle.lq_jobs.proofs.DamagedFiles.{fails_so, files_tell, spares_by}
use Rattle.lq_jobs.proofs.InPart.{in_vain_goes_on}
use Rattle.lq_jobs.proofs.LeftOnFile.{leaves_on, none_since}
use Rattle.lq_top.proofs.Loading.{failing, fails_anyway, fails_does, fails_in_vain, false_true, fault_given, files_damage, files_kind, is_loaded, line_kind, no_changelog_fault, no_disk_fault, no_files, not_less, not_loaded as fault_not_loaded, ok_same, some_line}
use Rattle.lq_jobs.specs.Asks.{Asks, Files, asked_by, file_status, given_to}
use Rattle.lq_jobs.specs.Bytes.{CrashLeaves, OnFile, given_at}
use Rattle.lq_jobs.specs.Jobs.{DoesJob, IsLoaded, JobLeaves, is_on_file, misses}
use Rattle.lq_jobs.specs.Run.{Crashes, given_by}
use Rattle.lq_jobs.specs.Worked.{CrashesJob, UndoneOn, WorkedBy, WorkedOn, WorkedWith}

files_unfinished : (f : LoadFault) → is_finished (file_status f) ≡ true → ⊥
files_unfinished load.Read finished = false_true finished
files_unfinished (load.NoFile text) finished = false_true finished
files_unfinished (load.Xml text) finished = false_true finished
files_unfinished (load.Fault path what) finished = false_true finished
files_unfinished (load.TooDeep text) finished = false_true finished
files_unfinished load.TooMany finished = false_true finished
files_unfinished (load.TooLong text) finished = false_true finished
files_unfinished load.OutOfMemory finished = false_true finished

files_aim : (job : Job) (f : LoadFault) → misses job (file_status f) ≡ false
files_aim job load.Read = refl
files_aim job (load.NoFile text) = refl
files_aim job (load.Xml text) = refl
files_aim job (load.Fault path what) = refl
files_aim job (load.TooDeep text) = refl
files_aim job load.TooMany = refl
files_aim job (load.TooLong text) = refl
files_aim job load.OutOfMemory = refl

module _ {D : Type 0} (told : D → Option (List ℕ)) (faults : D → ℕ) (crashes : D → DiskCrashes) (files : Files) (meant : Source → Loaded Changelog) (job : Job) (options : Options) (stamp : Stamp) (before : D) where
  pub loaded_worked : (a : Changelog) → ((source : Source) → IsTold files source → meant source ≡ Ok a) → (done : Result Done Status) (after : D) → WorkedWith told faults crashes job options a stamp before done after
      → WorkedBy told faults crashes files meant job options stamp before done after
  loaded_worked a found done after did = record {
    used = did.used;
    kind = line_kind done did.kind;
    untouched = λ is. absurd (no_files done did.kind is);
    changelog = λ fault is. absurd (no_changelog_fault done fault did.kind is);
    not_loaded = λ source tells fault gives. is_loaded (found source tells) gives;
    missed = λ is. (λ source tells whole gives. subst (λ (h : Changelog). part_for job h ≡ None) (ok_same (sym (found source tells) ∙ gives)) (did.missed is).0, (did.missed is).1);
    in_vain = λ source whole tells gives none. let missed = did.in_vain (subst (λ (h : Changelog). part_for job h ≡ None) (sym (ok_same (sym (found source tells) ∙ gives))) none) in (inl missed.0, missed.1);
    does = λ source whole g tells gives is_part on database opens.
        let part = subst (λ (h : Changelog). part_for job h ≡ Some g) (sym (ok_same (sym (found source tells) ∙ gives))) is_part in
        inr (did.loaded g part, did.does g part on database opens);
    any_moment = λ source whole g tells gives is_part. did.any_moment g (subst (λ (h : Changelog). part_for job h ≡ Some g) (sym (ok_same (sym (found source tells) ∙ gives))) is_part);
    undone = λ source whole g tells gives is_part is. inr (did.undone g (subst (λ (h : Changelog). part_for job h ≡ Some g) (sym (ok_same (sym (found source tells) ∙ gives))) is_part) is);
    snapped = λ source whole g tells gives is_part is. inr (did.snapped g (subst (λ (h : Changelog). part_for job h ≡ Some g) (sym (ok_same (sym (found source tells) ∙ gives))) is_part) is);
  }

  pub unloaded_worked : (f : LoadFault) → Finds files meant (Err f) → WorkedBy told faults crashes files meant job options stamp before (failing (file_status f)) before
  unloaded_worked f finds = record {
    used = record {
      damaged = files_damage f options.dialect (told before);
      spares = λ beside place damaged. spares_by job place (told before) (failing (file_status f)) (told before) (fails_so place (file_status f) (files_tell f place)) refl;
      safe = λ command finished. absurd (files_unfinished f finished);
      off = λ off. refl;
      later = not_less refl;
      fault = λ is. absurd (no_disk_fault f is);
    };
    kind = files_kind f;
    untouched = λ is. refl;
    changelog = λ fault is. fault_given files meant f finds fault is;
    not_loaded = λ source tells fault gives. fault_not_loaded files meant f finds source tells fault gives;
    missed = λ is. absurd (false_true (sym (files_aim job f) ∙ is));
    in_vain = λ source whole tells gives none. fails_in_vain files meant f finds source tells whole gives before;
    does = λ source whole g tells gives is_part. fails_does files meant f finds source tells whole gives job (given_at (asked_by options g) stamp) (told before);
    any_moment = λ source whole g tells gives is_part on database opens. none_since options.dialect (JobLeaves job (given_at (asked_by options g) stamp) database (told before)) (crashes before);
    undone = λ source whole g tells gives is_part is. inl (fails_anyway files meant f finds source tells whole gives before);
    snapped = λ source whole g tells gives is_part is. inl (fails_anyway files meant f finds source tells whole gives before);
  }

some_part : {a b : Changelog} → (let o : Option Changelog = Some a in o) ≡ Some b → a ≡ b
some_part h = Prim.cc

none_part : {a : Changelog} → (let o : Option Changelog = None in o) ≡ Some a → ⊥
none_part h = Prim.cc

module _ {D : Type 0} (told : D → Option (List ℕ)) (faults : D → ℕ) (crashes : D → DiskCrashes) (job : Job) (options : Options) (whole : Changelog) (stamp : Stamp) (before : D) where
  -- what was done with the part that it runs
  pub part_worked : (part : Changelog) → part_for job whole ≡ Some part → IsLoaded options.dialect part → (done : Result Done Status) (after : D) → WorkedOn told faults crashes job (given_at (asked_by options part) stamp) before done after
      → WorkedWith told faults crashes job options whole stamp before done after
  part_worked part is loaded done after did = record {
    used = did.used;
    kind = did.kind;
    missed = λ missed. absurd (false_true (sym did.has_part ∙ missed));
    in_vain = λ none. absurd (none_part (sym none ∙ is));
    loaded = λ g is_part. subst (λ (h : Changelog). IsLoaded options.dialect h) (some_part (sym is ∙ is_part)) loaded;
    does = λ g is_part. subst (λ (h : Changelog). is_on_file job ≡ true → OnFile options.dialect (told before) (λ database. DoesJob job (given_at (asked_by options h) stamp) database (told before) done (told after))) (some_part (sym is ∙ is_part)) did.does;
    any_moment = λ g is_part. subst (λ (h : Changelog). CrashesJob job (given_at (asked_by options h) stamp) (told before) (crashes before) (crashes after)) (some_part (sym is ∙ is_part)) did.any_moment;
    undone = λ g is_part undoes. subst (λ (h : Changelog). UndoneOn told faults crashes options h before done after) (some_part (sym is ∙ is_part)) (did.undone undoes);
    snapped = λ g is_part snaps. did.snapped snaps;
  }

  -- there is none
  pub missed_worked : part_for job whole ≡ None → WorkedWith told faults crashes job options whole stamp before (Err status.NoTarget) before
  missed_worked none = record {
    used = record {
      damaged = tt;
      spares = λ beside place damaged. (status.NoTarget, refl, (inr (in_vain_goes_on job whole none), refl));
      safe = λ command finished. absurd (false_true finished);
      off = λ off. refl;
      later = not_less refl;
      fault = λ is. absurd (target_disk is);
    };
    kind = refl;
    missed = λ missed. (none, refl);
    in_vain = λ none. (refl, refl);
    loaded = λ g is_part. absurd (none_part (sym none ∙ is_part));
    does = λ g is_part. absurd (none_part (sym none ∙ is_part));
    any_moment = λ g is_part. absurd (none_part (sym none ∙ is_part));
    undone = λ g is_part. absurd (none_part (sym none ∙ is_part));
    snapped = λ g is_part. absurd (none_part (sym none ∙ is_part));
  }
    where
      target_disk : failing status.NoTarget ≡ Err status.DiskFault → ⊥
      target_disk h = Prim.cc

-- on each file that holds a database
pub on_file_crashes : (job : Job) (given : Given) (told : Option (List ℕ)) (before now : DiskCrashes) → IsSound told before → CrashesJob job given told before now → is_on_file job ≡ true
    → OnFile given.options.dialect told (λ database. CrashLeaves given.options.dialect (JobLeaves job given database told) before now)
on_file_crashes job given told before now sound moments on database opens = leaves_on given.options.dialect (JobLeaves job given database told) told before sound now (moments on database opens)

-- the words are one line
module _ (words : List (List ℕ)) (files : Files) (line : Line) (is_line : line_of words ≡ Some line) where
  pub line_crashes : (stamp : Stamp) (told : Option (List ℕ)) (before now : DiskCrashes)
      → ((source : Source) (whole g : Changelog) → IsTold files source → given_to source line ≡ Ok whole → part_for line.job whole ≡ Some g → CrashesJob line.job (given_at (asked_by line.options g) stamp) told before now)
      → IsSound told before → (asks : Asks words files) → Crashes asks stamp told before now
  line_crashes stamp told before now moments sound asks =
      on_file_crashes asks.line.job (given_by asks stamp) told before now sound
      (subst (λ (l : Line). (source : Source) (whole g : Changelog) → IsTold files source → given_to source l ≡ Ok whole → part_for l.job whole ≡ Some g → CrashesJob l.job (given_at (asked_by l.options g) stamp) told before now)
      (some_line (sym is_line ∙ asks.is_line)) moments asks.source asks.whole asks.changelog asks.told asks.gives asks.is_part)

-- a disk that was not used
pub unused_crashes : {D : Type 0} (told : D → Option (List ℕ)) (crashes : D → DiskCrashes) (before after : D) → after ≡ before → IsSound (told before) (crashes before) → {words : List (List ℕ)} {files : Files} (asks : Asks words files) (stamp : Stamp)
    → Crashes asks stamp (told before) (crashes before) (crashes after)
unused_crashes told crashes before after same sound asks stamp =
    subst (λ d. Crashes asks stamp (told before) (crashes before) (crashes d)) (sym same)
    (on_file_crashes asks.line.job (given_by asks stamp) (told before) (crashes before) (crashes before) sound
    (λ on database opens. none_since asks.line.options.dialect (JobLeaves asks.line.job (given_by asks stamp) database (told before)) (crashes before)))
