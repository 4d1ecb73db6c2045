-- What snapshot does on a database file.
use Rattle.std.specs.Option.{option_map, option_map_or}
use Rattle.std.specs.Prelude.{Bool, Err, IfOk, IsTrue, List, MatchBool, None, Ok, Option, Result, Some, false, true, ℕ, ◌++◌, ◌≡◌, ◌≤◌, ◌⊎◌}
use Rattle.lq_base.specs.declared.dialect.Dialect.{Dialect}
use Rattle.lq_cli.specs.declared.line.Job.{Job}
use Rattle.lq_cli.specs.declared.line.Job.TheVariants.{Snapshot, UndoUnrecorded}
use Rattle.lq_codec.specs.State.{state_of}
use Rattle.lq_codec.specs.Tables.{bytes_of}
use Rattle.lq_commands.specs.Outputs.{TellsText}
use Rattle.lq_commands.specs.Refusals.{Answers, held}
use Rattle.lq_commands.specs.Rehearsal.{part_for}
use Rattle.lq_commands.specs.Works.{IsKept, is_finished}
use Rattle.lq_commands.specs.declared.given.Given.{Given}
use Rattle.lq_entries.specs.Log.{entries_in}
use Rattle.lq_expr.specs.declared.options.Options.{Options}
use Rattle.lq_kinds.specs.declared.change_set.Changelog.{Changelog}
use Rattle.lq_model.specs.declared.caller.Room.TheVariants.{Ordinary}
use Rattle.lq_outside.specs.Crash.{Crashes as DiskCrashes, Settled}
use Rattle.lq_outside.specs.Forms.{IsPart, Rose}
use Rattle.lq_report.specs.Output.{snapshot_text}
use Rattle.lq_sources.specs.Faults.{IsTold, Loaded, Source}
use Rattle.lq_sources.specs.declared.fault.LoadFault.{LoadFault}
use Rattle.lq_store.specs.Calls.{ends_in_texts, stated}
use Rattle.lq_store.specs.Journal.{end_of, is_full, size_of_all}
use Rattle.lq_tell.specs.Texts.{status_done}
use Rattle.lq_tell.specs.declared.done.Done.{Done}
use Rattle.lq_tell.specs.declared.status.Status.{Status}
use Rattle.lq_tell.specs.declared.status.Status.TheVariants as status
use Rattle.lq_jobs.specs.Asks.{Asks, Files, asked_by}
use Rattle.lq_jobs.specs.Bytes.{CrashLeaves, Holds, IsDamagedAt, IsLeftOn, OnFile, Opens, TellsDamage, WasLeft, given_at, in_use, most_bytes}
use Rattle.lq_jobs.specs.Headline.{IsTaken}
use Rattle.lq_jobs.specs.Jobs.{DoesJob, DoesLine, IsLoaded, JobLeaves, is_apart, is_on_file, is_own, misses}
use Rattle.lq_jobs.specs.Kinds.{IsNotLoaded, IsOfDatabase, IsOfFiles, IsOfLine}
use Rattle.lq_jobs.specs.Run.{IsOutside, SparesDamage, TellsPlace, is_over}
use Rattle.lq_jobs.specs.Undone.{DoesUndo, undo_calls}
use Rattle.lq_track.specs.Database.{Database}
use Rattle.lq_turns.specs.declared.call.Call.{Call}
use Rattle.lq_turns.specs.declared.stamp.Stamp.{Stamp}

-- one is due on a file: behind the last state of its journal, or in one without a state, stands a transaction
abbrev pub is_due : Dialect → Option (List ℕ) → Bool
is_due d told = option_map_or ends_in_texts (entries_in d most_bytes told) false

-- a file has the entries that it had
abbrev pub HasSameEntries : Dialect → Option (List ℕ) → Option (List ℕ) → Type 0
HasSameEntries d before after = entries_in d most_bytes after ≡ entries_in d most_bytes before

module _ (d : Dialect) (database : Database) (before : Option (List ℕ)) where
  -- it has one entry more: a state, whose bytes are read as the catalogue that the others lead to
  pub record HasStated (after : Option (List ℕ)) : Type 0 where
    pub holds : Holds d before database
    pub is_state : state_of d (bytes_of holds.catalogue) ≡ Some holds.catalogue
    pub entries : entries_in d most_bytes after ≡ Some (holds.entries ++ stated holds.catalogue)

  -- a snapshot or a stop of it leaves the one or, where it is due, the other
  abbrev pub IsSnapped : Option (List ℕ) → Type 0
  IsSnapped after = HasSameEntries d before after ⊎ (is_due d before ≡ true) × HasStated after

  -- the state's entry has this size, and there was room for it
  pub record HasWritten (after : Option (List ℕ)) (size : ℕ) : Type 0 where
    pub written : HasStated after
    pub size_is : size ≡ size_of_all (stated written.holds.catalogue)
    pub room : is_full (end_of Ordinary most_bytes) (in_use written.holds.entries) (stated written.holds.catalogue) ≡ false

  -- so it comes to its end: a state is written where one is due, and otherwise nothing
  abbrev pub HasSnapped : Option (List ℕ) → ℕ → Type 0
  HasSnapped after size = MatchBool (is_due d before) (HasWritten after size) ((after ≡ before) × (size ≡ 0))

  -- the state's entry has no room: so much is in use, and so much it would take
  pub record HasNoRoom (used next : ℕ) : Type 0 where
    pub holds : Holds d before database
    pub used_is : used ≡ in_use holds.entries
    pub next_is : next ≡ size_of_all (stated holds.catalogue)
    pub full : is_full (end_of Ordinary most_bytes) used (stated holds.catalogue) ≡ true

  -- it is done, and tells of it; or the journal is full, and stays as it is
  abbrev pub TellsSnapshot : Option (List ℕ) → Done → Type 0
  TellsSnapshot after done = ((size : ℕ) × HasSnapped after size × TellsText (snapshot_text size) done)
      ⊎ ((used : ℕ) × (next : ℕ) × (done.status ≡ status.Full used next) × HasNoRoom used next × HasSameEntries d before after)

  pub record DoesSnapshot (done : Result Done Status) (after : Option (List ℕ)) : Type 0 where
    pub answers : Answers (held database) done
    pub refused : IsKept (held database) before after
    pub leaves : IsSnapped after
    pub tells : IfOk done (TellsSnapshot after)

-- a held lock alone refuses it
abbrev pub EndsSnapshot : Option Status → Status → Type 0
EndsSnapshot None s = IsTaken s
EndsSnapshot (Some locked) s = (s ≡ locked) ⊎ IsOutside s

-- it says how long the state's entry is, or that none was due; or a front of that, where its text could not be written
pub record SaysSnapshot (size : ℕ) (s : Status) (shown now : Option (List ℕ)) : Type 0 where
  pub whole : s ≡ status.Done → now ≡ option_map (λ out. out ++ snapshot_text size) shown
  pub part : s ≡ status.WriteFault → IsPart (snapshot_text size) shown now

-- On a file that holds the database: the status has its cause, and a refusal changes nothing; where it came to its end there is one state more, if one was due, and it says so; however it ended the file has the entries that it had or that state besides, and is opened again with the same database; and a full journal is told as full as it was.
pub record RunsSnapshot (d : Dialect) (database : Database) (before : Option (List ℕ)) (s : Status) (after shown now : Option (List ℕ)) : Type 0 where
  pub ends : EndsSnapshot (held database) s
  pub refused : IsKept (held database) before after
  pub over : is_over s ≡ true → (size : ℕ) × HasSnapped d database before after size × SaysSnapshot size s shown now
  pub left : IsSnapped d database before after
  pub opens : Opens d after database
  pub full : (used next : ℕ) → s ≡ status.Full used next → HasNoRoom d database before used next × HasSameEntries d before after

module _ {words : List (List ℕ)} {files : Files} (asks : Asks words files) (told : Option (List ℕ)) where
  -- on each file that holds a database
  abbrev pub RunsSnapshots : Status → Option (List ℕ) → Option (List ℕ) → Option (List ℕ) → Type 0
  RunsSnapshots s after shown now = asks.line.job ≡ Snapshot → OnFile asks.line.options.dialect told (λ database. RunsSnapshot asks.line.options.dialect database told s after shown now)

  -- and a crash of the machine, at each moment of it
  abbrev pub CrashesSnapshot : DiskCrashes → DiskCrashes → Type 0
  CrashesSnapshot before now = asks.line.job ≡ Snapshot → OnFile asks.line.options.dialect told (λ database. CrashLeaves asks.line.options.dialect (λ bytes. IsSnapped asks.line.options.dialect database told (Some bytes)) before now)

  -- and what such a crash left is opened again, with the same database
  abbrev pub SnapshotOpens : List ℕ → Type 0
  SnapshotOpens bytes = asks.line.job ≡ Snapshot → OnFile asks.line.options.dialect told (λ database. IsSnapped asks.line.options.dialect database told (Some bytes) → Opens asks.line.options.dialect (Some bytes) database)

-- after one that came to its end a crash leaves what is there
abbrev pub IsSnapshotSafe : {words : List (List ℕ)} {files : Files} → Asks words files → Status → Option (List ℕ) → DiskCrashes → Type 0
IsSnapshotSafe asks s after now = asks.line.job ≡ Snapshot → is_over s ≡ true → Settled after now

-- What a job did on the disk of its database file.

-- A crash at any moment leaves such bytes; or, since an earlier moment, the entries of what one before might have left.
pub record LeavesSince (d : Dialect) (leaves : List ℕ → Type 0) (before now : DiskCrashes) : Type 0 where
  pub honest : now.is_honest ≡ before.is_honest
  pub later : before.moment ≤ now.moment
  pub each : IsTrue before.is_honest → (t : ℕ) (bytes : List ℕ) → t ≤ before.moment → now.left_since t bytes → WasLeft d (before.left_since t) bytes ⊎ leaves bytes

-- what a stop of these calls may leave
abbrev pub CrashesSince : Dialect → List Call → Database → Option (List ℕ) → DiskCrashes → DiskCrashes → Type 0
CrashesSince d calls database told before now = LeavesSince d (λ bytes. IsLeftOn d calls database told (Some bytes)) before now

-- at each moment of a job, on a file that holds a database
abbrev pub CrashesJob : Job → Given → Option (List ℕ) → DiskCrashes → DiskCrashes → Type 0
CrashesJob job given told before now = is_on_file job ≡ true → OnFile given.options.dialect told (λ database. LeavesSince given.options.dialect (JobLeaves job given database told) before now)

-- it failed so on a file that is damaged at this place
abbrev pub FailsAt : ℕ → Result Done Status → Type 0
FailsAt at done = (s : Status) × (done ≡ Err s) × TellsPlace at s

-- and left the file as it is
abbrev pub Spares : Job → ℕ → Option (List ℕ) → Result Done Status → Option (List ℕ) → Type 0
Spares job at before done after = (s : Status) × (done ≡ Err s) × SparesDamage job at s before after

-- it had no part of its changelog to run
abbrev pub has_missed : Job → Result Done Status → Bool
has_missed job (Ok done) = false
has_missed job (Err s) = misses job s

-- so it fails then, and leaves its disk as it is
abbrev pub InVain : {D : Type 0} → Result Done Status → D → D → Type 0
InVain done before after = ((done ≡ Err status.NoTarget) ⊎ (done ≡ Err status.ReadFault) ⊎ (done ≡ Err status.OutOfMemory)) × (after ≡ before)

-- for disks, by what they tell, by how many of their calls have failed, and by what a crash leaves of them
module _ {D : Type 0} (told : D → Option (List ℕ)) (faults : D → ℕ) (crashes : D → DiskCrashes) where
  -- how a job left its disk
  pub record UsedDisk (job : Job) (d : Dialect) (before : D) (done : Result Done Status) (after : D) : Type 0 where
    pub damaged : TellsDamage d (told before) done
    pub spares : is_apart job ≡ false → (at : ℕ) → IsDamagedAt d (told before) at → Spares job at (told before) done (told after)
    -- after a command that came to its end a crash leaves what is there
    pub safe : is_own job ≡ true → is_finished (status_done done) ≡ true → Settled (told after) (crashes after)
    pub off : is_apart job ≡ true → after ≡ before
    pub later : faults before ≤ faults after
    pub fault : done ≡ Err status.DiskFault → Rose (faults before) (faults after)

  -- what undo-unrecorded did with what was given
  pub record UndoneOn (o : Options) (g : Changelog) (before : D) (done : Result Done Status) (after : D) : Type 0 where
    pub does : OnFile o.dialect (told before) (λ database. DoesUndo o g (told before) database done (told after))
    pub any_moment : OnFile o.dialect (told before) (λ database. CrashesSince o.dialect (undo_calls o g (told before) database) database (told before) (crashes before) (crashes after))
    pub safe : is_finished (status_done done) ≡ true → Settled (told after) (crashes after)

  -- the same where the files may fail after all
  abbrev pub UndoneBy : Options → Changelog → D → Result Done Status → D → Type 0
  UndoneBy o g before done after = (((done ≡ Err status.ReadFault) ⊎ (done ≡ Err status.OutOfMemory)) × (after ≡ before)) ⊎ UndoneOn o g before done after

  -- what snapshot did
  pub record SnappedOn (d : Dialect) (before : D) (done : Result Done Status) (after : D) : Type 0 where
    pub does : OnFile d (told before) (λ database. DoesSnapshot d database (told before) done (told after))
    pub any_moment : OnFile d (told before) (λ database. LeavesSince d (λ bytes. IsSnapped d database (told before) (Some bytes)) (crashes before) (crashes after))
    pub safe : is_finished (status_done done) ≡ true → Settled (told after) (crashes after)

  abbrev pub SnappedBy : Dialect → D → Result Done Status → D → Type 0
  SnappedBy d before done after = (((done ≡ Err status.ReadFault) ⊎ (done ≡ Err status.OutOfMemory)) × (after ≡ before)) ⊎ SnappedOn d before done after

  -- what a job did with what was given
  pub record WorkedOn (job : Job) (given : Given) (before : D) (done : Result Done Status) (after : D) : Type 0 where
    pub used : UsedDisk job given.options.dialect before done after
    pub kind : IsOfDatabase done
    pub has_part : has_missed job done ≡ false
    pub does : is_on_file job ≡ true → OnFile given.options.dialect (told before) (λ database. DoesJob job given database (told before) done (told after))
    pub any_moment : CrashesJob job given (told before) (crashes before) (crashes after)
    pub undone : job ≡ UndoUnrecorded → UndoneOn given.options given.changelog before done after
    pub snapped : job ≡ Snapshot → SnappedOn given.options.dialect before done after

  -- what it did with a changelog that its files give: with the part that it runs, where there is one
  pub record WorkedWith (job : Job) (options : Options) (whole : Changelog) (stamp : Stamp) (before : D) (done : Result Done Status) (after : D) : Type 0 where
    pub used : UsedDisk job options.dialect before done after
    pub kind : IsOfDatabase done
    pub missed : has_missed job done ≡ true → (part_for job whole ≡ None) × (after ≡ before)
    pub in_vain : part_for job whole ≡ None → (done ≡ Err status.NoTarget) × (after ≡ before)
    pub loaded : (g : Changelog) → part_for job whole ≡ Some g → IsLoaded options.dialect g
    pub does : (g : Changelog) → part_for job whole ≡ Some g → is_on_file job ≡ true → OnFile options.dialect (told before) (λ database. DoesJob job (given_at (asked_by options g) stamp) database (told before) done (told after))
    pub any_moment : (g : Changelog) → part_for job whole ≡ Some g → CrashesJob job (given_at (asked_by options g) stamp) (told before) (crashes before) (crashes after)
    pub undone : (g : Changelog) → part_for job whole ≡ Some g → job ≡ UndoUnrecorded → UndoneOn options g before done after
    pub snapped : (g : Changelog) → part_for job whole ≡ Some g → job ≡ Snapshot → SnappedOn options.dialect before done after

  -- what it did with what its files give: a changelog, or a fault
  pub record WorkedBy (files : Files) (meant : Source → Loaded Changelog) (job : Job) (options : Options) (stamp : Stamp) (before : D) (done : Result Done Status) (after : D) : Type 0 where
    pub used : UsedDisk job options.dialect before done after
    pub kind : IsOfLine done
    pub untouched : IsOfFiles done → after ≡ before
    pub changelog : (fault : LoadFault) → done ≡ Err (status.Changelog fault) → (source : Source) → IsTold files source → meant source ≡ Err fault
    pub not_loaded : (source : Source) → IsTold files source → (fault : LoadFault) → meant source ≡ Err fault → IsNotLoaded fault done
    pub missed : has_missed job done ≡ true → ((source : Source) → IsTold files source → (whole : Changelog) → meant source ≡ Ok whole → part_for job whole ≡ None) × (after ≡ before)
    pub in_vain : (source : Source) (whole : Changelog) → IsTold files source → meant source ≡ Ok whole → part_for job whole ≡ None → InVain done before after
    pub does : (source : Source) (whole g : Changelog) → IsTold files source → meant source ≡ Ok whole → part_for job whole ≡ Some g → DoesLine job (given_at (asked_by options g) stamp) (told before) done (told after)
    pub any_moment : (source : Source) (whole g : Changelog) → IsTold files source → meant source ≡ Ok whole → part_for job whole ≡ Some g → CrashesJob job (given_at (asked_by options g) stamp) (told before) (crashes before) (crashes after)
    pub undone : (source : Source) (whole g : Changelog) → IsTold files source → meant source ≡ Ok whole → part_for job whole ≡ Some g → job ≡ UndoUnrecorded → UndoneBy options g before done after
    pub snapped : (source : Source) (whole g : Changelog) → IsTold files source → meant source ≡ Ok whole → part_for job whole ≡ Some g → job ≡ Snapshot → SnappedBy options.dialect before done after
