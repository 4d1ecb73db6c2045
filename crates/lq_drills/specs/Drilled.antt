-- What a drill does.
use Rattle.std.specs.Int.{IsInRange}
use Rattle.std.specs.List.{All}
use Rattle.std.specs.Prelude.{Bool, Err, IfSome, IsTrue, List, None, Ok, Option, Result, Some, [], false, length, map, option_map, slice_get, suc, true, zero, ℕ, ◌++◌, ◌∷◌, ◌≡◌, ◌≤◌, ◌⊎◌}
use Rattle.lq_base.specs.declared.command.Command.{Command}
use Rattle.lq_base.specs.declared.command.Command.TheVariants.{Release}
use Rattle.lq_base.specs.declared.dialect.Dialect.{Dialect}
use Rattle.lq_changelog.specs.Gathers.{HasShortTexts}
use Rattle.lq_cli.specs.Line.{line_of}
use Rattle.lq_cli.specs.declared.line.Job.TheVariants.{Drill}
use Rattle.lq_cli.specs.declared.line.Line.{Line}
use Rattle.lq_commands.specs.Stamp.{clean, numbered_stamp}
use Rattle.lq_drill.specs.Faults.{Comes, FallsFirst, FreesAtMostOnce, FreesEarly, HadRoom, IsLetGo, Meets, Steps, entries_of}
use Rattle.lq_drill.specs.Player.{MayAnswer, answer_of}
use Rattle.lq_drill.specs.declared.fault.DrillFault.{DrillFault}
use Rattle.lq_drill.specs.declared.fault.DrillFault.TheVariants as fault
use Rattle.lq_entries.specs.Log.{entries_in}
use Rattle.lq_kinds.specs.ReadFor.{AreFor}
use Rattle.lq_any.specs.declared.any_change.AnyChange.{AnyChange}
use Rattle.lq_outside.specs.Crash.{Crashes as DiskCrashes, Settled}
use Rattle.lq_outside.specs.Forms.{IsPart}
use Rattle.lq_players.specs.AnyCommand.{BeginInTurn, NoneReleases, works}
use Rattle.lq_players.specs.AtOnce.{HasShortTag}
use Rattle.lq_players.specs.Tasks.{task_for}
use Rattle.lq_playing.specs.Answers.{as_busy, as_failed, as_locked}
use Rattle.lq_playing.specs.declared.came.Came.{Came}
use Rattle.lq_report.specs.Output.{drill_text}
use Rattle.lq_report.specs.declared.drill.Drilled.{Drilled}
use Rattle.lq_sources.specs.Faults.{IsTold, Loaded, Source}
use Rattle.lq_sources.specs.declared.fault.LoadFault.{LoadFault}
use Rattle.lq_store.specs.Journal.{Entry}
use Rattle.lq_tell.specs.declared.done.Done.{Done}
use Rattle.lq_tell.specs.declared.status.Status.{Status}
use Rattle.lq_tell.specs.declared.status.Status.TheVariants as status
use Rattle.lq_jobs.specs.Asks.{Files}
use Rattle.lq_jobs.specs.Bytes.{Holds, OnFile, Opens, WasLeft, in_use, most_bytes}
use Rattle.lq_jobs.specs.Drills.{drill_of, file_status}
use Rattle.lq_jobs.specs.Kinds.{IsNotLoaded, IsOfFiles, IsOfWords, ReadInTurn, ReadUpTo, Refuses, is_of_drill}
use Rattle.lq_jobs.specs.Worked.{UsedDisk}
use Rattle.lq_jobs.specs.declared.entrants.Drilling.{Drilling}
use Rattle.lq_jobs.specs.declared.entrants.Entrant.{Entrant}
use Rattle.lq_track.specs.Database.{Database}
use Rattle.lq_turns.specs.Deed.{all_done}
use Rattle.lq_turns.specs.Jobs.{Task}
use Rattle.lq_turns.specs.Schedule.{Machine, all_moved, has_begun, start}
use Rattle.lq_turns.specs.Script.{closing}
use Rattle.lq_turns.specs.Serial.{Gave, Stands, order_of}
use Rattle.lq_turns.specs.Stops.{joined}
use Rattle.lq_turns.specs.declared.answer.Answer.{Answer}
use Rattle.lq_turns.specs.declared.answer.Answer.TheVariants as answer
use Rattle.lq_turns.specs.declared.deed.Deed.{Deed}

-- The command of each number, from 1, is on its changelog, and has its name and its reading.
abbrev pub AreTasks : List ℕ → List Entrant → List ℕ → (ℕ → Task AnyChange) → Type 0
AreTasks who entrants readings tasks = (place : ℕ) (e : Entrant) (reading : ℕ) → slice_get entrants place ≡ Some e → slice_get readings place ≡ Some reading
    → tasks (suc place) ≡ task_for e.command e.asked.options e.asked.changelog (numbered_stamp (clean who) (suc place) reading)

-- a command that may run on a database of the dialect
pub record IsEntrant (d : Dialect) (e : Entrant) : Type 0 where
  pub dialect : e.asked.options.dialect ≡ d
  pub read : AreFor e.asked.options.dialect e.asked.changelog
  pub short : All HasShortTexts e.asked.changelog.sets
  pub tag : HasShortTag e.command

-- a drill of 1 to 64 such commands, each step of one of them
pub record IsDrill (d : Dialect) (drill : Drilling) : Type 0 where
  pub few : IsInRange 1 64 (length drill.entrants)
  pub each : All (IsEntrant d) drill.entrants
  pub steps : All (IsInRange 1 (length drill.entrants)) drill.steps

-- the status that stands for an answer
abbrev pub answer_code : Answer → ℕ
answer_code answer.Done = 0
answer_code (answer.Invalid faults) = 5
answer_code (answer.Locked lock) = 6
answer_code (answer.Halted identity why) = 7
answer_code (answer.Refused identity statement kept reason) = 8
answer_code answer.NoTarget = 9
answer_code (answer.NotReversible identity) = 10
answer_code answer.Disk = 11
answer_code (answer.Full used next) = 13
answer_code answer.OutOfMemory = 15
answer_code (answer.Busy session) = 16

abbrev pub came_code : Came → ℕ
came_code it = answer_code it.answer

abbrev pub commands_of : List Entrant → List Command
commands_of entrants = map (λ (e : Entrant). e.command) entrants

-- what the text says of each command: its status, where it has answered
abbrev pub drilled : List Command → List (Option Came) → List Drilled
drilled (command ∷ commands) (a ∷ answers) = record { command = command; status = option_map came_code a } ∷ drilled commands answers
drilled _ _ = []

-- the machine of the commands

abbrev pub Commands : Type 0
Commands = Machine Came as_locked as_busy

abbrev pub machine_after : Dialect → (ℕ → Task AnyChange) → Database → List ℕ → Commands
machine_after d tasks database steps = all_moved Came as_locked as_busy d (works d tasks) steps (start Came as_locked as_busy database)

-- the file holds what the machine has committed, and its entries stand behind those before, each of which had room
pub record HoldsMachine (d : Dialect) (x : Commands) (before after : Option (List ℕ)) : Type 0 where
  pub holds : Holds d after x.committed
  pub entries : entries_in d most_bytes after ≡ option_map (λ entries. entries ++ entries_of d x.entries) (entries_in d most_bytes before)
  pub room : IfSome (entries_in d most_bytes before) (λ there. HadRoom d most_bytes (in_use there) x.entries)

-- the answers are the machine's
abbrev pub AnswerAs : Commands → List (Option Came) → Type 0
AnswerAs x answers = (place : ℕ) (a : Option Came) → slice_get answers place ≡ Some a → a ≡ answer_of (suc place) x.answers

-- so they are; but the machine has none of the command whose step is the first of the others
abbrev pub AnswerBefore : List ℕ → Commands → List (Option Came) → Type 0
AnswerBefore others x answers = (place : ℕ) (a : Option Came) → slice_get answers place ≡ Some a → (a ≡ answer_of (suc place) x.answers) ⊎ ((answer_of (suc place) x.answers ≡ None) × (slice_get others zero ≡ Some (suc place)))

module _ (d : Dialect) (tasks : ℕ → Task AnyChange) (steps : List ℕ) (database : Database) (answers : List (Option Came)) (before after : Option (List ℕ)) where
  -- The file holds the database that the commands give one after another, and each answer is that of this serial run, or one that was given at once.
  pub record IsSerial : Type 0 where
    -- the commands that made a call, in the order of their first ones
    pub order : List ℕ
    pub ordered : order ≡ order_of Came as_locked as_busy d (works d tasks) steps (start Came as_locked as_busy database)
    pub now : Database
    pub holds : Holds d after now
    -- the last may be under way
    pub serial : Stands Came as_locked as_busy d (works d tasks) database order (machine_after d tasks database steps).holder now
    pub gave : (place : ℕ) (a : Came) → slice_get answers place ≡ Some (Some a) → Gave Came as_locked as_busy d (works d tasks) database order steps (suc place) a

  -- Answers and journal are the machine's, and the file opens again; and the order is a serial one, where no step is of a release-locks, or no command makes its first call while another still runs.
  pub record GoesAs : Type 0 where
    pub file : HoldsMachine d (machine_after d tasks database steps) before after
    pub opens : Opens d after (machine_after d tasks database steps).committed
    pub gave : AnswerAs (machine_after d tasks database steps) answers
    pub serial : NoneReleases tasks steps → IsSerial
    pub in_turn : BeginInTurn d tasks database steps → IsSerial

-- which commands met a fault of the store

abbrev pub IsFaultless : Bool → Type 0
IsFaultless faulted = faulted ≡ false

-- the command of this number did
abbrev pub HasFaulted : List Bool → ℕ → Type 0
HasFaulted faulted n = (place : ℕ) × (n ≡ suc place) × (slice_get faulted place ≡ Some true)

-- the first of these steps is that of a command that answered a fault of the store, which ends a drill
abbrev pub IsEnding : List Bool → List (Option Came) → List ℕ → Type 0
IsEnding faulted answers others = (place : ℕ) × (why : DrillFault) × (slice_get others zero ≡ Some (suc place)) × (slice_get answers place ≡ Some (Some (as_failed why))) × (slice_get faulted place ≡ Some true)

module _ (d : Dialect) (tasks : ℕ → Task AnyChange) (steps : List ℕ) (database : Database) (faulted : List Bool) (before : Option (List ℕ)) where
  -- The steps that were taken are the machine's, or up to the first fault they are. The answers are those of the machine to which they led; and the file holds it where all were taken, and opens again; and else it has its entries, and then what the step brought that ended the drill.
  pub record GoesUntil (answers : List (Option Came)) (after : Option (List ℕ)) : Type 0 where
    pub taken : List ℕ
    pub others : List ℕ
    pub is : steps ≡ taken ++ others
    pub now : Commands
    pub came : (now ≡ machine_after d tasks database taken) ⊎ FallsFirst as_failed d (works d tasks) (HasFaulted faulted) taken (start Came as_locked as_busy database) now
    pub gave : AnswerBefore others now answers
    pub ends : ((others ≡ []) × HoldsMachine d now before after × Opens d after now.committed) ⊎ IsEnding faulted answers others
    pub more : List Entry
    pub entries : entries_in d most_bytes after ≡ option_map (λ entries. entries ++ (entries_of d now.entries ++ more)) (entries_in d most_bytes before)

  -- these steps lead to a machine, where commands met faults of the store
  abbrev pub CameTo : List ℕ → Commands → Type 0
  CameTo front now = Comes as_failed d (works d tasks) (HasFaulted faulted) front (start Came as_locked as_busy database) now

  -- on the way a release-locks began, and freed the lock of a command that had met a fault
  pub record ReleasesEarly (front : List ℕ) (now : Commands) : Type 0 where
    pub frees : FreesEarly as_failed d (works d tasks) (HasFaulted faulted) front (start Came as_locked as_busy database) now
    pub is_release : (tasks frees.next).command ≡ Release

  -- What a crash leaves at any moment, and what stands in the end: behind the entries that were there a front of those that some of the steps have brought. Where no release-locks freed the lock of a command that had met a fault, they are a front of those of the machine without faults, and then perhaps one that frees the lock.
  pub record IsLeftInDrill (file : Option (List ℕ)) : Type 0 where
    pub front : List ℕ
    pub rest : List ℕ
    pub is : steps ≡ front ++ rest
    pub now : Commands
    pub came : CameTo front now
    pub written : List (List Deed)
    pub more : List (List Deed)
    pub brought : now.entries ≡ written ++ more
    pub entries : entries_in d most_bytes file ≡ option_map (λ entries. entries ++ entries_of d written) (entries_in d most_bytes before)
    pub once : ReleasesEarly front now ⊎ FreesAtMostOnce as_failed d (works d tasks) front (start Came as_locked as_busy database) now

  -- such a file opens again, with the database to which these entries lead
  pub record OpensInDrill (file : Option (List ℕ)) (left : IsLeftInDrill file) : Type 0 where
    pub found : Database
    pub led : all_done d (joined left.written) database ≡ Ok found
    pub opens : Opens d file found

  -- at one of its steps the entries of this command's next call had no room in the journal
  pub record MetFull (n used next : ℕ) : Type 0 where
    pub front : List ℕ
    pub rest : List ℕ
    pub is : steps ≡ front ++ n ∷ rest
    pub now : Commands
    pub came : CameTo front now
    pub full : IfSome (entries_in d most_bytes before) (λ there. Meets as_failed d (works d tasks) (in_use there) most_bytes n now (fault.Full used next))

  -- the file holds this machine, and opens again
  abbrev pub RestsOn : Commands → Option (List ℕ) → Type 0
  RestsOn x after = HoldsMachine d x before after × Opens d after x.committed

  -- How a command of this number rests that answers so in its step from this machine: its last calls are made, and the lock is freed, or has a mark; or its first call, or the one that frees the lock, had no room, and none was made.
  abbrev pub RestsAt : ℕ → ℕ → ℕ → Commands → Option (List ℕ) → Type 0
  RestsAt n used next now after =
      ((to : Commands) × Steps as_failed d (works d tasks) (HasFaulted faulted n) n now to × RestsOn to after × (answer_of n to.answers ≡ Some (as_failed (fault.Full used next))) × IsLetGo to.committed.lock)
      ⊎ (RestsOn now after × IfSome (entries_in d most_bytes before) (λ there. (m : Meets as_failed d (works d tasks) (in_use there) most_bytes n now (fault.Full used next)) × ((has_begun Came as_locked as_busy n now ≡ false) ⊎ (m.cause.call ≡ closing))))

  -- in the end
  pub record RestsFull (n used next : ℕ) (after : Option (List ℕ)) : Type 0 where
    pub front : List ℕ
    pub rest : List ℕ
    pub is : steps ≡ front ++ n ∷ rest
    pub now : Commands
    pub came : CameTo front now
    pub rests : RestsAt n used next now after

  -- a command answered that the journal is full, with these numbers, as it had met it, and rests so
  pub record EndsFull (answers : List (Option Came)) (after : Option (List ℕ)) (used next : ℕ) : Type 0 where
    pub place : ℕ
    pub answer : slice_get answers place ≡ Some (Some (as_failed (fault.Full used next)))
    pub met : MetFull (suc place) used next
    pub rests : RestsFull (suc place) used next after

-- A crash at any moment leaves what this says; or, since an earlier moment, the entries of what one before might have left.
pub record CrashesTo (d : Dialect) (Left : Option (List ℕ) → Type 0) (before now : DiskCrashes) : Type 0 where
  pub honest : now.is_honest ≡ before.is_honest
  pub later : before.moment ≤ now.moment
  pub each : IsTrue before.is_honest → (t : ℕ) (bytes : List ℕ) → t ≤ before.moment → now.left_since t bytes → WasLeft d (before.left_since t) bytes ⊎ Left (Some bytes)

-- A drill whose commands have taken their steps, with these readings. Where none met a fault of the store they went as the machine does, and else up to the first fault, and then as the machine whose runners meet faults.
pub record Went (d : Dialect) (who : List ℕ) (drill : Drilling) (readings : List ℕ) (before after : Option (List ℕ)) (c e : DiskCrashes) : Type 0 where
  pub one_each : length readings ≡ length drill.entrants
  -- of each command what it answered, if it did, and whether it met a fault
  pub answers : List (Option Came)
  pub faulted : List Bool
  pub as_many : (length answers ≡ length drill.entrants) × (length faulted ≡ length drill.entrants)
  pub goes : All IsFaultless faulted → (tasks : ℕ → Task AnyChange) → AreTasks who drill.entrants readings tasks → OnFile d before (λ database. GoesAs d tasks drill.steps database answers before after)
  pub until : (tasks : ℕ → Task AnyChange) → AreTasks who drill.entrants readings tasks → OnFile d before (λ database. GoesUntil d tasks drill.steps database faulted before answers after)
  -- one that met a fault has not answered, or answers that fault, or that its lock is gone
  pub met : (place : ℕ) (said : Option Came) → slice_get faulted place ≡ Some true → slice_get answers place ≡ Some said → MayAnswer as_locked as_failed said
  pub crash : (tasks : ℕ → Task AnyChange) → AreTasks who drill.entrants readings tasks → OnFile d before (λ database. CrashesTo d (IsLeftInDrill d tasks drill.steps database faulted before) c e)
  pub left : (tasks : ℕ → Task AnyChange) → AreTasks who drill.entrants readings tasks → OnFile d before (λ database. IsLeftInDrill d tasks drill.steps database faulted before after)
  -- what is left so opens again, in the end and after a crash
  pub opens : (tasks : ℕ → Task AnyChange) → AreTasks who drill.entrants readings tasks
      → OnFile d before (λ database. (file : Option (List ℕ)) (left : IsLeftInDrill d tasks drill.steps database faulted before file) → OpensInDrill d tasks drill.steps database faulted before file left)

-- no command answered a fault of the store
abbrev pub NoneFailed : List (Option Came) → Type 0
NoneFailed answers = (place : ℕ) (why : DrillFault) → slice_get answers place ≡ Some (Some (as_failed why)) → ⊥

-- one answered that the disk failed
abbrev pub DiskFailed : List (Option Came) → Type 0
DiskFailed answers = (place : ℕ) × (slice_get answers place ≡ Some (Some (as_failed fault.Disk)))

-- so it did in a drill with these readings
abbrev pub IsFull : Dialect → List ℕ → Drilling → List ℕ → List Bool → Option (List ℕ) → List (Option Came) → Option (List ℕ) → ℕ → ℕ → Type 0
IsFull d who drill readings faulted before answers after used next = (tasks : ℕ → Task AnyChange) → AreTasks who drill.entrants readings tasks → OnFile d before (λ database. EndsFull d tasks drill.steps database faulted before answers after used next)

-- no step was taken, and nothing was written
pub record IsIdle (d : Dialect) (before after : Option (List ℕ)) (c e : DiskCrashes) : Type 0 where
  pub same : after ≡ before
  pub crash : CrashesTo d (λ left. ⊥) c e

abbrev pub told_text : Drilling → List (Option Came) → List ℕ
told_text drill answers = drill_text (drilled (commands_of drill.entrants) answers)

-- it came to its end, where no command answered a fault of the store, and tells of each; or it did not: a command answered such a fault, or there was no memory for the text, or no step was taken
abbrev pub Drills : Dialect → List ℕ → Drilling → List ℕ → Option (List ℕ) → DiskCrashes → Result Done Status → Option (List ℕ) → DiskCrashes → Type 0
Drills d who drill readings before c (Ok done) after e = (done.status ≡ status.Done) × ((went : Went d who drill readings before after c e) × (done.out ≡ Some (told_text drill went.answers)) × NoneFailed went.answers)
Drills d who drill readings before c (Err (status.Full used next)) after e = (went : Went d who drill readings before after c e) × IsFull d who drill readings went.faulted before went.answers after used next
Drills d who drill readings before c (Err status.DiskFault) after e = IsIdle d before after c e ⊎ ((went : Went d who drill readings before after c e) × DiskFailed went.answers)
Drills d who drill readings before c (Err status.OutOfMemory) after e = IsIdle d before after c e ⊎ Went d who drill readings before after c e
Drills d who drill readings before c (Err s) after e = IsIdle d before after c e

-- so a drill ends that its files give
abbrev pub IsOfDrill : Result Done Status → Type 0
IsOfDrill (Ok done) = Unit {0}
IsOfDrill (Err s) = (is_of_drill s ≡ true) ⊎ (s ≡ status.ReadFault)

-- a drill that its files give
pub record DoesDrill (d : Dialect) (who : List ℕ) (drill : Drilling) (coming left : Option (List ℕ)) (before : Option (List ℕ)) (c : DiskCrashes) (done : Result Done Status) (after : Option (List ℕ)) (e : DiskCrashes) : Type 0 where
  -- the clock is read for one command after another
  pub readings : List ℕ
  pub read : ReadInTurn coming left readings
  pub few : length readings ≤ length drill.entrants
  pub kind : IsOfDrill done
  pub drills : Drills d who drill readings before c done after e

-- what reading the files of a drill comes to: a drill; no such form; or a fault
abbrev pub FindsDrill : Files → (Source → Loaded (Option Drilling)) → Result Drilling Status → Type 0
FindsDrill files meant (Ok drill) = (source : Source) → IsTold files source → meant source ≡ Ok (Some drill)
FindsDrill files meant (Err status.Usage) = (source : Source) → IsTold files source → meant source ≡ Ok None
FindsDrill files meant (Err (status.Changelog fault)) = (file_status fault ≡ status.Changelog fault) × ((source : Source) → IsTold files source → meant source ≡ Err fault)
FindsDrill files meant (Err status.ReadFault) = Unit {0}
FindsDrill files meant (Err status.OutOfMemory) = Unit {0}
FindsDrill files meant (Err s) = ⊥

-- the status of a file without the form
abbrev pub IsFormless : Result Done Status → Type 0
IsFormless done = (done ≡ Err status.Usage) ⊎ (done ≡ Err status.ReadFault) ⊎ (done ≡ Err status.OutOfMemory)

-- for disks, by what they tell, by how many of their calls have failed, and by what a crash leaves of them
module _ {D : Type 0} (told : D → Option (List ℕ)) (faults : D → ℕ) (crashes : D → DiskCrashes) where
  -- after a drill that came to its end a crash leaves what is there
  abbrev pub IsSettled : Result Done Status → D → Type 0
  IsSettled (Ok done) after = Settled (told after) (crashes after)
  IsSettled (Err s) after = Unit {0}

  -- what a drill did on its disk
  pub record WorkedDrill (d : Dialect) (who : List ℕ) (drill : Drilling) (coming left : Option (List ℕ)) (before : D) (done : Result Done Status) (after : D) : Type 0 where
    pub used : UsedDisk told faults crashes (Drill []) d before done after
    pub kind : Refuses is_of_drill done
    pub settled : IsSettled done after
    pub does : DoesDrill d who drill coming left (told before) (crashes before) done (told after) (crashes after)

  -- what it did with what its files give: a drill, no such form, or a fault
  pub record DrilledBy (files : Files) (d : Dialect) (path runs who : List ℕ) (coming left : Option (List ℕ)) (before : D) (done : Result Done Status) (after : D) : Type 0 where
    pub used : UsedDisk told faults crashes (Drill []) d before done after
    pub kind : IsOfWords done
    pub settled : IsSettled done after
    pub untouched : IsOfFiles done ⊎ (done ≡ Err status.Usage) → after ≡ before
    pub usage : done ≡ Err status.Usage → (source : Source) → IsTold files source → drill_of source d path runs ≡ Ok None
    pub formless : (source : Source) → IsTold files source → drill_of source d path runs ≡ Ok None → IsFormless done
    pub changelog : (fault : LoadFault) → done ≡ Err (status.Changelog fault) → (source : Source) → IsTold files source → drill_of source d path runs ≡ Err fault
    pub not_loaded : (source : Source) → IsTold files source → (fault : LoadFault) → drill_of source d path runs ≡ Err fault → IsNotLoaded fault done
    pub does : (source : Source) (drill : Drilling) → IsTold files source → drill_of source d path runs ≡ Ok (Some drill) → DoesDrill d who drill coming left (told before) (crashes before) done (told after) (crashes after)
    pub reads : ReadUpTo 64 coming left

-- the words are those of a drill, and the files give it
pub record AsksDrill (words : List (List ℕ)) (files : Files) : Type 0 where
  pub line : Line
  pub is_line : line_of words ≡ Some line
  pub runs : List ℕ
  pub is_drill : line.job ≡ Drill runs
  pub source : Source
  pub told : IsTold files source
  pub drill : Drilling
  pub gives : drill_of source line.options.dialect line.path runs ≡ Ok (Some drill)

-- what a drill comes to: where no command answered a fault of the store its text is written behind what stood in the output, or a front of it where that fails; and damage and a fault of the files are met before the first step
abbrev pub DrillEnds : Dialect → List ℕ → Drilling → List ℕ → Option (List ℕ) → DiskCrashes → Status → Option (List ℕ) → DiskCrashes → Option (List ℕ) → Option (List ℕ) → Type 0
DrillEnds d who drill readings before c status.Done after e out written = (went : Went d who drill readings before after c e) × (written ≡ option_map (λ out. out ++ told_text drill went.answers) out) × NoneFailed went.answers
DrillEnds d who drill readings before c status.WriteFault after e out written = (went : Went d who drill readings before after c e) × IsPart (told_text drill went.answers) out written × NoneFailed went.answers
DrillEnds d who drill readings before c (status.Full used next) after e out written = (went : Went d who drill readings before after c e) × IsFull d who drill readings went.faulted before went.answers after used next
DrillEnds d who drill readings before c status.DiskFault after e out written = IsIdle d before after c e ⊎ ((went : Went d who drill readings before after c e) × DiskFailed went.answers)
DrillEnds d who drill readings before c status.OutOfMemory after e out written = IsIdle d before after c e ⊎ Went d who drill readings before after c e
DrillEnds d who drill readings before c (status.Damaged at) after e out written = IsIdle d before after c e
DrillEnds d who drill readings before c status.ReadFault after e out written = IsIdle d before after c e
DrillEnds d who drill readings before c s after e out written = ⊥

abbrev pub has_drilled : Status → Bool
has_drilled status.Done = true
has_drilled status.WriteFault = true
has_drilled s = false

pub record RunsDrill {words : List (List ℕ)} {files : Files} (asks : AsksDrill words files) (who : List ℕ) (coming left : Option (List ℕ)) (before : Option (List ℕ)) (c : DiskCrashes) (s : Status) (after : Option (List ℕ)) (e : DiskCrashes) (out written : Option (List ℕ)) : Type 0 where
  -- the clock is read for one command after another
  pub readings : List ℕ
  pub read : ReadInTurn coming left readings
  pub few : length readings ≤ length asks.drill.entrants
  pub ends : DrillEnds asks.line.options.dialect who asks.drill readings before c s after e out written
  -- after its end a crash leaves what is there
  pub safe : has_drilled s ≡ true → Settled after e
