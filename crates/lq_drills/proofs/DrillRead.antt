-- A drill with what its files give: a drill, no such form, or a fault.
use Rattle.std.proofs.Common.{ap, inl, inr, refl, rules, subst, sym, ◌∙◌}
use Rattle.std.specs.Prelude.{Err, List, None, Ok, Option, Result, Some, [], false, length, true, ℕ, ◌≡◌, ◌≤◌}
use Rattle.lq_base.specs.declared.dialect.Dialect.{Dialect}
use Rattle.lq_cli.specs.declared.line.Job.TheVariants.{Drill}
use Rattle.lq_outside.specs.Crash.{Crashes as DiskCrashes}
use Rattle.lq_sources.specs.Faults.{IsTold, Source, Loaded}
use Rattle.lq_sources.specs.declared.fault.LoadFault.{LoadFault}
use Rattle.lq_tell.specs.declared.done.Done.{Done}
use Rattle.lq_tell.specs.declared.status.Status.{Status}
use Rattle.lq_tell.specs.declared.status.Status.TheVariants as status
use Rattle.lq_jobs.proofs.DamagedFiles.{fails_so, memory_first, spares_by}
use Rattle.lq_drills.proofs.DrillIdle.{IsUnfilled, unused_drill}
use Rattle.lq_drills.proofs.Readings.{unread, up_to}
use Rattle.lq_jobs.specs.Asks.{Files, file_status}
use Rattle.lq_jobs.specs.Bytes.{TellsDamage}
use Rattle.lq_drills.specs.Drilled.{DoesDrill, DrilledBy, FindsDrill, IsOfDrill, WorkedDrill}
use Rattle.lq_jobs.specs.Drills.{drill_of}
use Rattle.lq_jobs.specs.Kinds.{IsOfFiles, IsOfWords, Refuses, is_of_drill, is_unwritten}
use Rattle.lq_jobs.specs.Run.{TellsPlace}
use Rattle.lq_jobs.specs.Worked.{UsedDisk}
use Rattle.lq_jobs.specs.declared.entrants.Drilling.{Drilling}

false_true : false ≡ true → ⊥
false_true h = Prim.cc

words_of : (s : Status) → is_of_drill s ≡ true → is_unwritten s ≡ true
words_of status.DiskFault kind = refl
words_of (status.Damaged at) kind = refl
words_of (status.Full used next) kind = refl
words_of status.OutOfMemory kind = refl
words_of status.Done kind = refl
words_of status.Usage kind = refl
words_of status.ReadFault kind = refl
words_of (status.Changelog fault) kind = refl
words_of (status.Invalid faults) kind = refl
words_of (status.Locked lock) kind = refl
words_of (status.Halted place why) kind = refl
words_of (status.Refused identity statement kept reason) kind = refl
words_of status.NoTarget kind = refl
words_of (status.NotReversible identity) kind = refl
words_of status.NothingToUndo kind = refl
words_of (status.NotWritable at) kind = refl
words_of status.WriteFault kind = absurd (false_true kind)
words_of (status.Busy session) kind = refl

kind_words : (done : Result Done Status) → Refuses is_of_drill done → IsOfWords done
kind_words (Ok done) kind = kind
kind_words (Err s) kind = words_of s kind

not_files : (s : Status) → is_of_drill s ≡ true → IsOfFiles (Err s) → ⊥
not_files status.ReadFault kind files = false_true kind
not_files (status.Changelog fault) kind files = false_true kind
not_files status.DiskFault kind files = files
not_files (status.Damaged at) kind files = files
not_files (status.Full used next) kind files = files
not_files status.OutOfMemory kind files = files
not_files status.Done kind files = files
not_files status.Usage kind files = files
not_files (status.Invalid faults) kind files = files
not_files (status.Locked lock) kind files = files
not_files (status.Halted place why) kind files = files
not_files (status.Refused identity statement kept reason) kind files = files
not_files status.NoTarget kind files = files
not_files (status.NotReversible identity) kind files = files
not_files status.NothingToUndo kind files = files
not_files (status.NotWritable at) kind files = files
not_files status.WriteFault kind files = files
not_files (status.Busy session) kind files = files

no_files : (done : Result Done Status) → Refuses is_of_drill done → IsOfFiles done → ⊥
no_files (Ok done) kind files = files
no_files (Err s) kind files = not_files s kind files

-- a drill ends with no such status
pub no_such : (done : Result Done Status) (s : Status) → Refuses is_of_drill done → is_of_drill s ≡ false → done ≡ Err s → ⊥
no_such done s kind other is = false_true (sym other ∙ subst (Refuses is_of_drill) is kind)

two_drills : {drill other : Drilling} → (let r : Loaded (Option Drilling) = Ok (Some drill) in r) ≡ Ok (Some other) → drill ≡ other
two_drills h = Prim.cc

drill_none : {drill : Drilling} → (let r : Loaded (Option Drilling) = Ok (Some drill) in r) ≡ Ok None → ⊥
drill_none h = Prim.cc

drill_fault : {drill : Drilling} {fault : LoadFault} → (let r : Loaded (Option Drilling) = Ok (Some drill) in r) ≡ Err fault → ⊥
drill_fault h = Prim.cc

none_drill : {drill : Drilling} → (let r : Loaded (Option Drilling) = Ok None in r) ≡ Ok (Some drill) → ⊥
none_drill h = Prim.cc

none_fault : {fault : LoadFault} → (let r : Loaded (Option Drilling) = Ok None in r) ≡ Err fault → ⊥
none_fault h = Prim.cc

fault_drill : {fault : LoadFault} {drill : Option Drilling} → (let r : Loaded (Option Drilling) = Err fault in r) ≡ Ok drill → ⊥
fault_drill h = Prim.cc

fault_same : {fault other : LoadFault} → (let r : Loaded (Option Drilling) = Err fault in r) ≡ Err other → fault ≡ other
fault_same h = Prim.cc

abbrev failing : Status → Result Done Status
failing s = Err s

changelog_same : {fault other : LoadFault} → failing (status.Changelog fault) ≡ Err (status.Changelog other) → fault ≡ other
changelog_same h = Prim.cc

-- the files failed
pub read_failed : (s : Status) → failing s ≡ Err status.ReadFault → (let r : Result Drilling Status = Err s in r) ≡ Err status.ReadFault
read_failed s is = Prim.cc

module _ {D : Type 0} (told : D → Option (List ℕ)) (faults : D → ℕ) (crashes : D → DiskCrashes) (files : Files) (d : Dialect) (path runs who : List ℕ) (coming left : Option (List ℕ)) (before : D) where
  pub read_worked : (drill : Drilling) → ((source : Source) → IsTold files source → drill_of source d path runs ≡ Ok (Some drill)) → length drill.entrants ≤ 64 → (done : Result Done Status) (after : D)
      → WorkedDrill told faults crashes d who drill coming left before done after → DrilledBy told faults crashes files d path runs who coming left before done after
  read_worked drill found few done after did = record {
    used = did.used;
    kind = kind_words done did.kind;
    settled = did.settled;
    untouched = λ of. elim of [ inl is ↦ absurd (no_files done did.kind is) | inr is ↦ absurd (no_such done status.Usage did.kind refl is) ];
    usage = λ is. absurd (no_such done status.Usage did.kind refl is);
    formless = λ source tells gives. absurd (drill_none (sym (found source tells) ∙ gives));
    changelog = λ fault is. absurd (no_such done (status.Changelog fault) did.kind refl is);
    not_loaded = λ source tells fault gives. absurd (drill_fault (sym (found source tells) ∙ gives));
    does = λ source other tells gives. subst (λ drill. DoesDrill d who drill coming left (told before) (crashes before) done (told after) (crashes after)) (two_drills (sym (found source tells) ∙ gives)) did.does;
    reads = up_to (length drill.entrants) 64 coming left few (did.does.readings, did.does.few, did.does.read);
  }

-- the disk was not used
module _ {D : Type 0} (told : D → Option (List ℕ)) (faults : D → ℕ) (crashes : D → DiskCrashes) (files : Files) (d : Dialect) (path runs who : List ℕ) (coming : Option (List ℕ)) (before : D) where
  abbrev Did : Status → Type 0
  Did s = DrilledBy told faults crashes files d path runs who coming coming before (Err s) before

  unused : (s : Status) → TellsDamage d (told before) (Err s) → (failing s ≡ Err status.DiskFault → ⊥) → ((place : ℕ) → TellsPlace place s) → UsedDisk told faults crashes (Drill []) d before (Err s) before
  unused s whole not_disk tells = record {
    damaged = whole;
    spares = λ beside place damaged. spares_by (Drill []) place (told before) (Err s) (told before) (fails_so place s (tells place)) refl;
    safe = λ command finished. absurd (false_true command);
    off = λ off. refl;
    later = Prim.search rules;
    fault = λ is. absurd (not_disk is);
  }

  -- its file has no such form
  formless_worked : ((source : Source) → IsTold files source → drill_of source d path runs ≡ Ok None) → Did status.Usage
  formless_worked none = record {
    used = unused status.Usage tt (λ is. Prim.cc) (λ place. inr (inl tt));
    kind = refl;
    settled = tt;
    untouched = λ of. refl;
    usage = λ is. none;
    formless = λ source tells gives. inl refl;
    changelog = λ fault is. absurd Prim.cc;
    not_loaded = λ source tells fault gives. absurd (none_fault (sym (none source tells) ∙ gives));
    does = λ source drill tells gives. absurd (none_drill (sym (none source tells) ∙ gives));
    reads = unread 64 coming;
  }

  -- they have a fault
  faulty_worked : (fault : LoadFault) → file_status fault ≡ status.Changelog fault → ((source : Source) → IsTold files source → drill_of source d path runs ≡ Err fault) → Did (status.Changelog fault)
  faulty_worked fault own found = record {
    used = unused (status.Changelog fault) tt (λ is. Prim.cc) (λ place. inr (inl tt));
    kind = refl;
    settled = tt;
    untouched = λ of. refl;
    usage = λ is. absurd Prim.cc;
    formless = λ source tells gives. absurd (fault_drill (sym (found source tells) ∙ gives));
    changelog = λ other is source tells. subst (λ f. drill_of source d path runs ≡ Err f) (changelog_same is) (found source tells);
    not_loaded = λ source tells other gives. inl (ap failing (sym own) ∙ ap (λ f. failing (file_status f)) (fault_same (sym (found source tells) ∙ gives)));
    does = λ source drill tells gives. absurd (fault_drill (sym (found source tells) ∙ gives));
    reads = unread 64 coming;
  }

  does_nothing : (s : Status) → IsOfDrill (Err s) → IsUnfilled s → (drill : Drilling) → DoesDrill d who drill coming coming (told before) (crashes before) (Err s) (told before) (crashes before)
  does_nothing s kind unfilled drill = unused_drill told crashes d who drill coming before before refl (Err s) s refl kind unfilled

  -- they failed
  failed_worked : Did status.ReadFault
  failed_worked = record {
    used = unused status.ReadFault tt (λ is. Prim.cc) (λ place. inr (inl tt));
    kind = refl;
    settled = tt;
    untouched = λ of. refl;
    usage = λ is. absurd Prim.cc;
    formless = λ source tells gives. inr (inl refl);
    changelog = λ fault is. absurd Prim.cc;
    not_loaded = λ source tells fault gives. inr (inl refl);
    does = λ source drill tells gives. does_nothing status.ReadFault (inr refl) tt drill;
    reads = unread 64 coming;
  }

  memory_worked : Did status.OutOfMemory
  memory_worked = record {
    used = unused status.OutOfMemory tt (λ is. Prim.cc) (λ place. memory_first place status.OutOfMemory refl);
    kind = refl;
    settled = tt;
    untouched = λ of. refl;
    usage = λ is. absurd Prim.cc;
    formless = λ source tells gives. inr (inr refl);
    changelog = λ fault is. absurd Prim.cc;
    not_loaded = λ source tells fault gives. inr (inr refl);
    does = λ source drill tells gives. does_nothing status.OutOfMemory (inl refl) tt drill;
    reads = unread 64 coming;
  }

  pub unread_worked : (s : Status) → FindsDrill files (λ source. drill_of source d path runs) (Err s) → Did s
  unread_worked status.Usage finds = formless_worked finds
  unread_worked (status.Changelog fault) finds = faulty_worked fault finds.0 finds.1
  unread_worked status.ReadFault finds = failed_worked
  unread_worked status.OutOfMemory finds = memory_worked
  unread_worked status.Done finds = absurd finds
  unread_worked (status.Invalid faults) finds = absurd finds
  unread_worked (status.Locked lock) finds = absurd finds
  unread_worked (status.Halted place why) finds = absurd finds
  unread_worked (status.Refused identity statement kept reason) finds = absurd finds
  unread_worked status.NoTarget finds = absurd finds
  unread_worked (status.NotReversible identity) finds = absurd finds
  unread_worked status.NothingToUndo finds = absurd finds
  unread_worked (status.NotWritable at) finds = absurd finds
  unread_worked status.DiskFault finds = absurd finds
  unread_worked (status.Damaged at) finds = absurd finds
  unread_worked (status.Full used next) finds = absurd finds
  unread_worked status.WriteFault finds = absurd finds
  unread_worked (status.Busy session) finds = absurd finds
