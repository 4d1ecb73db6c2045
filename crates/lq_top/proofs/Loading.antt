-- What a command does with what its files give.
use Rattle.std.proofs.Common.{ap, arith, inl, inr, refl, subst, sym, ◌∙◌}
use Rattle.std.specs.Prelude.{Bool, Err, List, None, Ok, Option, Result, Some, false, true, ℕ, ◌≡◌, ◌≤◌, ◌⊎◌}
use Rattle.lq_base.specs.declared.dialect.Dialect.{Dialect}
use Rattle.lq_cli.specs.Line.{line_of}
use Rattle.lq_cli.specs.declared.line.Job.{Job}
use Rattle.lq_cli.specs.declared.line.Line.{Line}
use Rattle.lq_commands.specs.Jobs.{is_diskless, is_of_database}
use Rattle.lq_commands.specs.Rehearsal.{part_for}
use Rattle.lq_commands.specs.declared.given.Given.{Given}
use Rattle.lq_expr.specs.declared.options.Options.{Options}
use Rattle.lq_kinds.specs.declared.change_set.Changelog.{Changelog}
use Rattle.lq_sources.specs.Faults.{Finds, IsTold, Source, Loaded}
use Rattle.lq_sources.specs.declared.fault.LoadFault.{LoadFault}
use Rattle.lq_sources.specs.declared.fault.LoadFault.TheVariants as load
use Rattle.lq_tell.specs.declared.done.Done.{Done}
use Rattle.lq_tell.specs.declared.status.Status.{Status}
use Rattle.lq_tell.specs.declared.status.Status.TheVariants as status
use Rattle.lq_turns.specs.declared.stamp.Stamp.{Stamp}
use Rattle.lq_jobs.specs.Asks.{Asks, Files, HasFault, asked_by, file_status, given_to}
use Rattle.lq_jobs.specs.Bytes.{TellsDamage, given_at}
use Rattle.lq_jobs.specs.Jobs.{DoesLine}
use Rattle.lq_jobs.specs.Kinds.{IsNotLoaded, IsOfDatabase, IsOfFiles, IsOfLine, IsOfWords, Refuses, is_of_line, is_unwritten}
use Rattle.lq_jobs.specs.Worked.{InVain}

pub ok_same : {a b : Changelog} → (let r : Loaded Changelog = Ok a in r) ≡ Ok b → a ≡ b
ok_same h = Prim.cc

err_same : {a b : LoadFault} → (let r : Loaded Changelog = Err a in r) ≡ Err b → a ≡ b
err_same h = Prim.cc

err_ok : {f : LoadFault} {b : Changelog} → (let r : Loaded Changelog = Err f in r) ≡ Ok b → ⊥
err_ok h = Prim.cc

ok_err : {f : LoadFault} {b : Changelog} → (let r : Loaded Changelog = Ok b in r) ≡ Err f → ⊥
ok_err h = Prim.cc

pub false_true : false ≡ true → ⊥
false_true h = Prim.cc

pub true_false : true ≡ false → ⊥
true_false h = Prim.cc

none_line : {line : Line} → (let o : Option Line = None in o) ≡ Some line → ⊥
none_line h = Prim.cc

pub some_line : {a b : Line} → (let o : Option Line = Some a in o) ≡ Some b → a ≡ b
some_line h = Prim.cc

abbrev pub failing : Status → Result Done Status
failing s = Err s

same_status : {a b : Status} → failing a ≡ failing b → a ≡ b
same_status h = Prim.cc

pub memory_no_disk : failing status.OutOfMemory ≡ failing status.DiskFault → ⊥
memory_no_disk h = Prim.cc

-- the changelog was read

pub is_loaded : {a : Changelog} {fault : LoadFault} {meant : Loaded Changelog} {done : Result Done Status} → meant ≡ Ok a → meant ≡ Err fault → IsNotLoaded fault done
is_loaded is gives = absurd (ok_err (sym is ∙ gives))

-- it was not

status_fault : (f fault : LoadFault) → file_status f ≡ status.Changelog fault → f ≡ fault
status_fault load.Read fault is = Prim.cc
status_fault (load.NoFile text) fault is = Prim.cc
status_fault (load.Xml text) fault is = Prim.cc
status_fault (load.Fault path what) fault is = Prim.cc
status_fault (load.TooDeep text) fault is = Prim.cc
status_fault load.TooMany fault is = Prim.cc
status_fault (load.TooLong text) fault is = Prim.cc
status_fault load.OutOfMemory fault is = Prim.cc

read_fault : (f : LoadFault) → file_status f ≡ status.ReadFault → f ≡ load.Read
read_fault load.Read is = refl
read_fault (load.NoFile text) is = Prim.cc
read_fault (load.Xml text) is = Prim.cc
read_fault (load.Fault path what) is = Prim.cc
read_fault (load.TooDeep text) is = Prim.cc
read_fault load.TooMany is = Prim.cc
read_fault (load.TooLong text) is = Prim.cc
read_fault load.OutOfMemory is = Prim.cc

disk_fault : (f : LoadFault) → file_status f ≡ status.DiskFault → ⊥
disk_fault load.Read is = Prim.cc
disk_fault (load.NoFile text) is = Prim.cc
disk_fault (load.Xml text) is = Prim.cc
disk_fault (load.Fault path what) is = Prim.cc
disk_fault (load.TooDeep text) is = Prim.cc
disk_fault load.TooMany is = Prim.cc
disk_fault (load.TooLong text) is = Prim.cc
disk_fault load.OutOfMemory is = Prim.cc

pub is_read_fault : (f : LoadFault) → failing (file_status f) ≡ Err status.ReadFault → f ≡ load.Read
is_read_fault f is = read_fault f (same_status is)

pub no_disk_fault : (f : LoadFault) → failing (file_status f) ≡ Err status.DiskFault → ⊥
no_disk_fault f is = disk_fault f (same_status is)

module _ (told : Files) (meant : Source → Loaded Changelog) (f : LoadFault) where
  pub fails_does : Finds told meant (Err f) → (source : Source) → IsTold told source → (g : Changelog) → meant source ≡ Ok g → (job : Job) (given : Given) (before : Option (List ℕ)) → DoesLine job given before (Err (file_status f)) before
  fails_does (inl (inl is)) source tells g gives job given before = λ on database opens. inl (inr (ap (λ (e : LoadFault). failing (file_status e)) is), refl)
  fails_does (inl (inr is)) source tells g gives job given before = λ on database opens. inl (inl (ap (λ (e : LoadFault). failing (file_status e)) is), refl)
  fails_does (inr all) source tells g gives job given before = absurd (err_ok (sym (all source tells) ∙ gives))

  pub fails_in_vain : {D : Type 0} → Finds told meant (Err f) → (source : Source) → IsTold told source → (g : Changelog) → meant source ≡ Ok g → (disk : D) → InVain (failing (file_status f)) disk disk
  fails_in_vain (inl (inl is)) source tells g gives disk = (inr (inr (ap (λ (e : LoadFault). failing (file_status e)) is)), refl)
  fails_in_vain (inl (inr is)) source tells g gives disk = (inr (inl (ap (λ (e : LoadFault). failing (file_status e)) is)), refl)
  fails_in_vain (inr all) source tells g gives disk = absurd (err_ok (sym (all source tells) ∙ gives))

  pub fails_anyway : {D : Type 0} → Finds told meant (Err f) → (source : Source) → IsTold told source → (g : Changelog) → meant source ≡ Ok g → (disk : D) → ((failing (file_status f) ≡ Err status.ReadFault) ⊎ (failing (file_status f) ≡ Err status.OutOfMemory)) × (disk ≡ disk)
  fails_anyway (inl (inl is)) source tells g gives disk = (inr (ap (λ (e : LoadFault). failing (file_status e)) is), refl)
  fails_anyway (inl (inr is)) source tells g gives disk = (inl (ap (λ (e : LoadFault). failing (file_status e)) is), refl)
  fails_anyway (inr all) source tells g gives disk = absurd (err_ok (sym (all source tells) ∙ gives))

  pub fault_given : Finds told meant (Err f) → (fault : LoadFault) → failing (file_status f) ≡ Err (status.Changelog fault) → (source : Source) → IsTold told source → meant source ≡ Err fault
  fault_given (inl (inl is)) fault told_is source tells = absurd (memory_not (ap file_status (sym is) ∙ same_status told_is)) where
    memory_not : status.OutOfMemory ≡ status.Changelog fault → ⊥
    memory_not h = Prim.cc
  fault_given (inl (inr is)) fault told_is source tells = absurd (read_not (ap file_status (sym is) ∙ same_status told_is)) where
    read_not : status.ReadFault ≡ status.Changelog fault → ⊥
    read_not h = Prim.cc
  fault_given (inr all) fault told_is source tells = all source tells ∙ ap (λ (e : LoadFault). (let r : Loaded Changelog = Err e in r)) (status_fault f fault (same_status told_is))

  pub not_loaded : Finds told meant (Err f) → (source : Source) → IsTold told source → (fault : LoadFault) → meant source ≡ Err fault → IsNotLoaded fault (Err (file_status f))
  not_loaded (inl (inl is)) source tells fault gives = inr (inr (ap (λ (e : LoadFault). failing (file_status e)) is))
  not_loaded (inl (inr is)) source tells fault gives = inr (inl (ap (λ (e : LoadFault). failing (file_status e)) is))
  not_loaded (inr all) source tells fault gives = inl (ap (λ (e : LoadFault). failing (file_status e)) (err_same (sym (all source tells) ∙ gives)))

pub files_kind : (f : LoadFault) → IsOfLine (Err (file_status f))
files_kind load.Read = refl
files_kind (load.NoFile text) = refl
files_kind (load.Xml text) = refl
files_kind (load.Fault path what) = refl
files_kind (load.TooDeep text) = refl
files_kind load.TooMany = refl
files_kind (load.TooLong text) = refl
files_kind load.OutOfMemory = refl

pub files_damage : (f : LoadFault) (d : Dialect) (told : Option (List ℕ)) → TellsDamage d told (Err (file_status f))
files_damage load.Read d told = tt
files_damage (load.NoFile text) d told = tt
files_damage (load.Xml text) d told = tt
files_damage (load.Fault path what) d told = tt
files_damage (load.TooDeep text) d told = tt
files_damage load.TooMany d told = tt
files_damage (load.TooLong text) d told = tt
files_damage load.OutOfMemory d told = tt

-- which statuses come of the database

of_line : (s : Status) → is_of_database s ≡ true → is_of_line s ≡ true
of_line status.Done is = refl
of_line status.Usage is = is
of_line status.ReadFault is = refl
of_line (status.Changelog fault) is = refl
of_line (status.Invalid faults) is = refl
of_line (status.Locked lock) is = refl
of_line (status.Halted place why) is = refl
of_line (status.Refused identity statement kept reason) is = refl
of_line status.NoTarget is = refl
of_line (status.NotReversible identity) is = refl
of_line status.NothingToUndo is = refl
of_line (status.NotWritable at) is = refl
of_line status.DiskFault is = refl
of_line (status.Damaged at) is = refl
of_line (status.Full used next) is = refl
of_line status.WriteFault is = is
of_line status.OutOfMemory is = refl
of_line (status.Busy session) is = refl

pub line_kind : (done : Result Done Status) → IsOfDatabase done → IsOfLine done
line_kind (Ok done) kind = kind
line_kind (Err s) kind = of_line s kind

not_files : (s : Status) → is_of_database s ≡ true → IsOfFiles (Err s) → ⊥
not_files status.Done kind files = files
not_files status.Usage kind files = files
not_files status.ReadFault kind files = false_true kind
not_files (status.Changelog fault) kind files = false_true kind
not_files (status.Invalid faults) kind files = files
not_files (status.Locked lock) kind files = files
not_files (status.Halted place why) kind files = files
not_files (status.Refused identity statement kept reason) kind files = files
not_files status.NoTarget kind files = files
not_files (status.NotReversible identity) kind files = files
not_files status.NothingToUndo kind files = files
not_files (status.NotWritable at) kind files = files
not_files status.DiskFault kind files = files
not_files (status.Damaged at) kind files = files
not_files (status.Full used next) kind files = files
not_files status.WriteFault kind files = files
not_files status.OutOfMemory kind files = files
not_files (status.Busy session) kind files = files

pub no_files : (done : Result Done Status) → IsOfDatabase done → IsOfFiles done → ⊥
no_files (Ok done) kind files = files
no_files (Err s) kind files = not_files s kind files

pub no_changelog_fault : (done : Result Done Status) (fault : LoadFault) → IsOfDatabase done → done ≡ Err (status.Changelog fault) → ⊥
no_changelog_fault done fault kind is = false_true (subst IsOfDatabase is kind)

pub no_read_fault : (done : Result Done Status) → IsOfDatabase done → done ≡ Err status.ReadFault → ⊥
no_read_fault done kind is = false_true (subst IsOfDatabase is kind)

of_soak : (s : Status) → is_diskless s ≡ true → is_of_database s ≡ true
of_soak status.Done is = is
of_soak status.Usage is = is
of_soak status.ReadFault is = is
of_soak (status.Changelog fault) is = is
of_soak (status.Invalid faults) is = is
of_soak (status.Locked lock) is = is
of_soak (status.Halted place why) is = is
of_soak (status.Refused identity statement kept reason) is = is
of_soak status.NoTarget is = is
of_soak (status.NotReversible identity) is = is
of_soak status.NothingToUndo is = is
of_soak (status.NotWritable at) is = is
of_soak status.DiskFault is = refl
of_soak (status.Damaged at) is = refl
of_soak (status.Full used next) is = is
of_soak status.WriteFault is = is
of_soak status.OutOfMemory is = is
of_soak (status.Busy session) is = is

pub soak_kind : (done : Result Done Status) → Refuses is_diskless done → IsOfDatabase done
soak_kind (Ok done) kind = kind
soak_kind (Err s) kind = of_soak s kind

soak_whole : (d : Dialect) (told : Option (List ℕ)) (s : Status) → is_diskless s ≡ true → TellsDamage d told (Err s)
soak_whole d told status.Done kind = tt
soak_whole d told status.Usage kind = tt
soak_whole d told status.ReadFault kind = tt
soak_whole d told (status.Changelog fault) kind = tt
soak_whole d told (status.Invalid faults) kind = tt
soak_whole d told (status.Locked lock) kind = tt
soak_whole d told (status.Halted place why) kind = tt
soak_whole d told (status.Refused identity statement kept reason) kind = tt
soak_whole d told status.NoTarget kind = tt
soak_whole d told (status.NotReversible identity) kind = tt
soak_whole d told status.NothingToUndo kind = tt
soak_whole d told (status.NotWritable at) kind = tt
soak_whole d told status.DiskFault kind = tt
soak_whole d told (status.Damaged at) kind = absurd (false_true kind)
soak_whole d told (status.Full used next) kind = tt
soak_whole d told status.WriteFault kind = tt
soak_whole d told status.OutOfMemory kind = tt
soak_whole d told (status.Busy session) kind = tt

pub soak_damage : (d : Dialect) (told : Option (List ℕ)) (done : Result Done Status) → Refuses is_diskless done → TellsDamage d told done
soak_damage d told (Ok done) kind = tt
soak_damage d told (Err s) kind = soak_whole d told s kind

pub soak_disk : (done : Result Done Status) → Refuses is_diskless done → done ≡ Err status.DiskFault → ⊥
soak_disk done kind is = false_true (subst (Refuses is_diskless) is kind)

-- the words are one line

module _ (words : List (List ℕ)) (files : Files) (line : Line) (is_line : line_of words ≡ Some line) where
  pub line_does : (stamp : Stamp) (before : Option (List ℕ)) (done : Result Done Status) (after : Option (List ℕ))
      → ((source : Source) (whole g : Changelog) → IsTold files source → given_to source line ≡ Ok whole → part_for line.job whole ≡ Some g → DoesLine line.job (given_at (asked_by line.options g) stamp) before done after)
      → (asks : Asks words files) → DoesLine asks.line.job (given_at (asked_by asks.line.options asks.changelog) stamp) before done after
  line_does stamp before done after does asks =
      subst (λ (l : Line). (source : Source) (whole g : Changelog) → IsTold files source → given_to source l ≡ Ok whole → part_for l.job whole ≡ Some g → DoesLine l.job (given_at (asked_by l.options g) stamp) before done after)
      (some_line (sym is_line ∙ asks.is_line)) does asks.source asks.whole asks.changelog asks.told asks.gives asks.is_part

  pub line_fails : (done : Result Done Status) → ((source : Source) → IsTold files source → (fault : LoadFault) → given_to source line ≡ Err fault → IsNotLoaded fault done)
      → (fault : LoadFault) → HasFault words files fault → IsNotLoaded fault done
  line_fails done fails fault has =
      subst (λ (l : Line). (source : Source) → IsTold files source → (fault : LoadFault) → given_to source l ≡ Err fault → IsNotLoaded fault done)
      (some_line (sym is_line ∙ has.is_line)) fails has.source has.told fault has.gives

  pub of_line_is : (P : Line → Type 0) → P line → (l : Line) → line_of words ≡ Some l → P l
  of_line_is P holds l is = subst P (some_line (sym is_line ∙ is)) holds

-- or none
pub no_line : {A : Type 0} (words : List (List ℕ)) (line : Line) → line_of words ≡ None → line_of words ≡ Some line → A
no_line words line none is = absurd (none_line (sym none ∙ is))

pub no_usage : (done : Result Done Status) → IsOfLine done → done ≡ Err status.Usage → ⊥
no_usage done kind is = false_true (subst IsOfLine is kind)

of_words : (s : Status) → is_of_line s ≡ true → is_unwritten s ≡ true
of_words status.Done is = refl
of_words status.Usage is = refl
of_words status.ReadFault is = refl
of_words (status.Changelog fault) is = refl
of_words (status.Invalid faults) is = refl
of_words (status.Locked lock) is = refl
of_words (status.Halted place why) is = refl
of_words (status.Refused identity statement kept reason) is = refl
of_words status.NoTarget is = refl
of_words (status.NotReversible identity) is = refl
of_words status.NothingToUndo is = refl
of_words (status.NotWritable at) is = refl
of_words status.DiskFault is = refl
of_words (status.Damaged at) is = refl
of_words (status.Full used next) is = refl
of_words status.WriteFault is = is
of_words status.OutOfMemory is = refl
of_words (status.Busy session) is = refl

pub words_kind : (done : Result Done Status) → IsOfLine done → IsOfWords done
words_kind (Ok done) kind = kind
words_kind (Err s) kind = of_words s kind

-- refused before the files are read

pub refused_kind : (done : Result Done Status) (x : Status) → done ≡ Err x → is_unwritten x ≡ true → IsOfWords done
refused_kind done x is un = subst IsOfWords (sym is) un

pub refused_whole : (d : Dialect) (told : Option (List ℕ)) (done : Result Done Status) (x : Status) → done ≡ Err x → TellsDamage d told (Err x) → TellsDamage d told done
refused_whole d told done x is whole = subst (TellsDamage d told) (sym is) whole

pub other : {A : Type 0} {done : Result Done Status} {x y : Status} (f : Status → Bool) → done ≡ Err x → done ≡ Err y → f x ≡ false → f y ≡ true → A
other f was is fails holds = absurd (false_true (sym fails ∙ ap f (same_status (sym was ∙ is)) ∙ holds))

-- the status of files or of a disk that failed
abbrev pub is_failed : Status → Bool
is_failed status.ReadFault = true
is_failed status.DiskFault = true
is_failed s = false

abbrev pub is_usage : Status → Bool
is_usage status.Usage = true
is_usage s = false

pub not_less : {a b : ℕ} → b ≡ a → a ≤ b
not_less is = omega arith

abbrev is_changelog : Status → Bool
is_changelog (status.Changelog fault) = true
is_changelog s = false

pub memory_no_changelog : {A : Type 0} (done : Result Done Status) (fault : LoadFault) → done ≡ Err status.OutOfMemory → done ≡ Err (status.Changelog fault) → A
memory_no_changelog done fault was is = other is_changelog was is refl refl
