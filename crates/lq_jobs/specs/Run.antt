-- What a run of the program does.
use Rattle.std.specs.Prelude.{Bool, Err, IfSome, List, None, Option, Some, [], false, option_map, true, ℕ, ◌++◌, ◌≡◌, ◌⊎◌}
use Rattle.lq_base.specs.declared.dialect.Dialect.{Dialect}
use Rattle.lq_base.specs.declared.identity.Identity.{Identity}
use Rattle.lq_base.specs.declared.run.Why.{Why}
use Rattle.lq_cli.specs.declared.line.Job.{Job}
use Rattle.lq_commands.specs.Works.{IsKept, is_finished}
use Rattle.lq_commands.specs.declared.given.Given.{Given}
use Rattle.lq_entries.specs.Load.{catalogue_of}
use Rattle.lq_outside.specs.Crash.{Crashes as DiskCrashes, Settled}
use Rattle.lq_outside.specs.Forms.{IsPart}
use Rattle.lq_sources.specs.declared.fault.LoadFault.{LoadFault}
use Rattle.lq_tell.specs.Lines.{status_lines, warning_lines}
use Rattle.lq_tell.specs.declared.status.Status.{Status}
use Rattle.lq_tell.specs.declared.status.Status.TheVariants as status
use Rattle.lq_jobs.specs.Asks.{Asks, Files, asked_by, file_status}
use Rattle.lq_jobs.specs.Bytes.{Becomes, CrashLeaves, HadRoomOn, Holds, IsLeftOn, OnFile, Opens, RestsFullOn, SaysFullOn, given_at, most_bytes}
use Rattle.lq_jobs.specs.Jobs.{JobLeaves, is_on_file, is_own, job_calls, job_reads, job_refusal, job_script, misses}
use Rattle.lq_track.specs.Database.{Database, SameDatabase}
use Rattle.lq_turns.specs.Session.{left_by}
use Rattle.lq_turns.specs.declared.stamp.Stamp.{Stamp}

-- it came to its end, and then perhaps its text could not be written
abbrev pub is_over : Status → Bool
is_over status.WriteFault = true
is_over s = is_finished s

-- the fault of a file, of a disk, or want of memory
abbrev pub IsOutside : Status → Type 0
IsOutside s = (s ≡ status.ReadFault) ⊎ (s ≡ status.DiskFault) ⊎ (s ≡ status.OutOfMemory)

-- it ended in its run
abbrev pub is_end : Status → Bool
is_end status.WriteFault = true
is_end (status.Full used next) = true
is_end s = is_finished s

-- so a run ends by what refuses it, unless a fault of the outside is met
abbrev pub EndsBy : Option Status → Status → Type 0
EndsBy None s = (is_end s ≡ true) ⊎ IsOutside s
EndsBy (Some refused) s = (s ≡ refused) ⊎ IsOutside s

-- on a file that holds the database: the status has its cause; a refusal changes nothing, nor does one that only reads; where it came to its end its calls are done, and otherwise it leaves what a stop of them may leave; each entry of one that no check refused and that came to its end had room, and a full journal is told as full as it was
pub record RunsJob (job : Job) (given : Given) (database : Database) (before : Option (List ℕ)) (s : Status) (after : Option (List ℕ)) : Type 0 where
  pub ends : EndsBy (job_refusal job given database) s
  pub refused : IsKept (job_refusal job given database) before after
  pub reads : job_reads job ≡ true → after ≡ before
  pub works : is_over s ≡ true → Becomes given.options.dialect (job_script job given database) database before after
  pub left : is_over s ≡ false → IsLeftOn given.options.dialect (job_script job given database) database before after
  -- so it is opened again: with that database, or with the one that a stop left
  pub opens : is_over s ≡ true → Opens given.options.dialect after (left_by given.options.dialect (job_script job given database) database)
  pub opens_cut : is_over s ≡ false → (cut : IsLeftOn given.options.dialect (job_script job given database) database before after) → Opens given.options.dialect after cut.now
  pub room : job_refusal job given database ≡ None → is_over s ≡ true → HadRoomOn given.options.dialect (job_calls job given database) database before
  pub full : SaysFullOn given.options.dialect (job_calls job given database) database before s
  -- one that works on the file leaves that journal, and its lock let go
  pub rests : is_own job ≡ true → RestsFullOn given.options.dialect (job_script job given database) database before s after

-- what the words, the files, who runs it and the clock's reading give to a command
abbrev pub given_by : {words : List (List ℕ)} {files : Files} → Asks words files → Stamp → Given
given_by asks stamp = given_at (asked_by asks.line.options asks.changelog) stamp

-- on each file that holds a database
abbrev pub Runs : {words : List (List ℕ)} {files : Files} → Asks words files → Stamp → Option (List ℕ) → Status → Option (List ℕ) → Type 0
Runs asks stamp before s after = is_on_file asks.line.job ≡ true → OnFile asks.line.options.dialect before (λ database. RunsJob asks.line.job (given_by asks stamp) database before s after)

-- and a crash of the machine, at each moment of it; one that a check refuses leaves nothing
abbrev pub Crashes : {words : List (List ℕ)} {files : Files} → Asks words files → Stamp → Option (List ℕ) → DiskCrashes → DiskCrashes → Type 0
Crashes asks stamp told before now = is_on_file asks.line.job ≡ true → OnFile asks.line.options.dialect told (λ database. CrashLeaves asks.line.options.dialect (JobLeaves asks.line.job (given_by asks stamp) database told) before now)

-- what a crash left of its calls is opened again
abbrev pub OpensAtCrash : {words : List (List ℕ)} {files : Files} → Asks words files → Stamp → Option (List ℕ) → List ℕ → Type 0
OpensAtCrash asks stamp before bytes = OnFile asks.line.options.dialect before
    (λ database. (cut : IsLeftOn asks.line.options.dialect (job_script asks.line.job (given_by asks stamp) database) database before (Some bytes)) → Opens asks.line.options.dialect (Some bytes) cut.now)

-- after a command that came to its end a crash leaves what is there
abbrev pub IsSafe : {words : List (List ℕ)} {files : Files} → Asks words files → Status → Option (List ℕ) → DiskCrashes → Type 0
IsSafe asks s after now = is_own asks.line.job ≡ true → is_over s ≡ true → Settled after now

-- a file holds a database that is the same but for which of the tracking tables were made
abbrev pub HoldsSame : Dialect → Option (List ℕ) → Database → Type 0
HoldsSame d told database = (now : Database) × Holds d told now × SameDatabase now database

-- damage is told with its place
abbrev pub IsDamage : Dialect → Option (List ℕ) → Status → Type 0
IsDamage d told (status.Damaged at) = IfSome told (λ bytes. catalogue_of d most_bytes bytes ≡ Err at)
IsDamage d told s = Unit {0}

-- the words are no command line, or the files give no changelog
abbrev pub IsUnread : Status → Type 0
IsUnread status.Usage = Unit {0}
IsUnread status.ReadFault = Unit {0}
IsUnread (status.Changelog fault) = Unit {0}
IsUnread s = ⊥

-- a damaged file is told with its place, unless the words, the files or a fault of the outside come first
abbrev pub TellsPlace : ℕ → Status → Type 0
TellsPlace at s = (s ≡ status.Damaged at) ⊎ IsUnread s ⊎ IsOutside s

-- or no changeset sets the tag of an update up to one; and it stays as it is
abbrev pub SparesDamage : Job → ℕ → Status → Option (List ℕ) → Option (List ℕ) → Type 0
SparesDamage job at s before after = (TellsPlace at s ⊎ (misses job s ≡ true)) × (after ≡ before)

-- so an update ends that has no part of its changelog to run, and the disk stays as it is
abbrev pub EndsInVain : {D : Type 0} → Status → D → D → Type 0
EndsInVain s before after = ((s ≡ status.NoTarget) ⊎ (s ≡ status.ReadFault) ⊎ (s ≡ status.OutOfMemory)) × (after ≡ before)

-- so a command ends whose files give a fault in place of a changelog
abbrev pub EndsUnread : LoadFault → Status → Type 0
EndsUnread fault s = (s ≡ file_status fault) ⊎ (s ≡ status.ReadFault) ⊎ (s ≡ status.OutOfMemory)

-- only what ended in its run has lines of warnings
abbrev pub MayWarn : Status → List ℕ → Type 0
MayWarn s lines = is_end s ≡ false → lines ≡ []

-- the log has the lines of the status behind those of warnings
abbrev pub IsLogged : Option (List ℕ) → Status → Option (List ℕ) → Option (List ℕ) → Type 0
IsLogged tag s before after = (own : Option Why) × (warned : List (Option Identity × Why)) × MayWarn s (warning_lines own warned) × (after ≡ option_map (λ log. log ++ (warning_lines own warned ++ status_lines tag s)) before)

-- the log got a front of them, all or none included
abbrev pub IsLoggedInPart : Option (List ℕ) → Status → Option (List ℕ) → Option (List ℕ) → Type 0
IsLoggedInPart tag s before after = (own : Option Why) × (warned : List (Option Identity × Why)) × MayWarn s (warning_lines own warned) × IsPart (warning_lines own warned ++ status_lines tag s) before after
