-- A command by itself takes the steps of a schedule.
use Rattle.std.specs.Prelude.{Bool, Err, List, None, Ok, Option, Result, Some, [], false, length, map, option_map, replicate, slice_get, suc, true, ℕ, ◌++◌, ◌<◌, ◌∷◌, ◌≡◌, ◌⊎◌}
use Rattle.lq_base.specs.declared.command.Command.{Command}
use Rattle.lq_base.specs.declared.dialect.Dialect.{Dialect}
use Rattle.lq_base.specs.declared.memory.NoMemory.{NoMemory}
use Rattle.lq_commands.specs.Stamp.{numbered_stamp}
use Rattle.lq_commands.specs.Works.{is_finished}
use Rattle.lq_commands.specs.declared.given.Given.{Given}
use Rattle.lq_drill.specs.Drill.{Each, FailsBy, HasFailed, HasNotFailed, IsDrilled, IsDrilledUntil, IsFaultless, IsSerialDrill, LeftAtEnd, LeftInDrill}
use Rattle.lq_drill.specs.Faults.{answer_of, freed}
use Rattle.lq_drill.specs.Player.{HasMet}
use Rattle.lq_drill.specs.declared.fault.DrillFault.{DrillFault}
use Rattle.lq_drill.specs.declared.fault.DrillFault.TheVariants as fault
use Rattle.lq_entries.specs.Log.{entries_in}
use Rattle.lq_any.specs.declared.any_change.AnyChange.{AnyChange}
use Rattle.lq_players.specs.AnyCommand.{BeginInTurn, HaveTasks, NoneReleases, Starts, command_stands, works}
use Rattle.lq_players.specs.Tasks.{task_for}
use Rattle.lq_players.specs.declared.any_command.AnyCommand.{AnyCommand}
use Rattle.lq_playing.specs.Answers.{as_failed}
use Rattle.lq_playing.specs.declared.came.Came.{Came}
use Rattle.lq_report.specs.Output.{drill_text}
use Rattle.lq_run.specs.Stands.{entries_of}
use Rattle.lq_store.specs.Journal.{Crashes, CrashesLeave, State}
use Rattle.lq_tell.specs.declared.done.Done.{Done}
use Rattle.lq_tell.specs.declared.status.Status.{Status}
use Rattle.lq_tell.specs.declared.status.Status.TheVariants as status
use Rattle.lq_jobs.specs.Asks.{Asks, Files}
use Rattle.lq_jobs.specs.Bytes.{OnFile, most_bytes}
use Rattle.lq_drills.specs.Drilled.{Commands, HoldsMachine, commands_of, drilled, machine_after}
use Rattle.lq_jobs.specs.Jobs.{command_by}
use Rattle.lq_jobs.specs.Kinds.{ReadInTurn, ReadUpTo, Refuses, is_of_drill}
use Rattle.lq_jobs.specs.Run.{IsOutside, given_by}
use Rattle.lq_drills.specs.declared.drilling.Cast.{Cast}
use Rattle.lq_jobs.specs.declared.entrants.Entrant.{Entrant}
use Rattle.lq_track.specs.Database.{Database}
use Rattle.lq_turns.specs.Jobs.{Task}
use Rattle.lq_turns.specs.Schedule.{StandsFor}
use Rattle.lq_turns.specs.Stops.{Journal}
use Rattle.lq_turns.specs.declared.answer.Answer.{Answer}
use Rattle.lq_turns.specs.declared.answer.Answer.TheVariants as answer
use Rattle.lq_turns.specs.declared.stamp.Stamp.{Stamp}

-- the status of a command that answers so
abbrev pub status_of : Answer → Status
status_of answer.Done = status.Done
status_of (answer.Locked lock) = status.Locked lock
status_of (answer.Invalid faults) = status.Invalid faults
status_of (answer.Halted identity why) = status.Halted identity why
status_of (answer.Refused identity statement kept reason) = status.Refused identity statement kept reason
status_of answer.NoTarget = status.NoTarget
status_of (answer.NotReversible identity) = status.NotReversible identity
status_of answer.Disk = status.DiskFault
status_of (answer.Full used next) = status.Full used next
status_of (answer.Busy session) = status.Busy session
status_of answer.OutOfMemory = status.OutOfMemory

-- it ended with its answer's status; or it came to its end, and its text could not be written
abbrev pub EndsWith : Answer → Status → Type 0
EndsWith a s = (s ≡ status_of a) ⊎ ((is_finished (status_of a) ≡ true) × (s ≡ status.WriteFault))

-- it ended by a fault of the outside, or the journal is full
abbrev pub IsCutShort : Status → Type 0
IsCutShort s = IsOutside s ⊎ ((used : ℕ) × (next : ℕ) × (s ≡ status.Full used next))

module _ (d : Dialect) (task : Task AnyChange) (database : Database) where
  -- the machine of this one command, after so many of its steps
  abbrev pub after_steps : ℕ → Commands
  after_steps k = machine_after d (λ n. task) database (replicate k 1)

  module _ (before : Option (List ℕ)) (s : Status) (after : Option (List ℕ)) where
    -- It took its steps until it answered, and the file holds what the machine has committed.
    pub record HasAnswered : Type 0 where
      pub steps : ℕ
      pub said : Came
      pub gave : answer_of 1 (after_steps steps).answers ≡ Some said
      pub first : (k : ℕ) → k < steps → answer_of 1 (after_steps k).answers ≡ None
      pub ends : EndsWith said.answer s
      pub file : HoldsMachine d (after_steps steps) before after

    -- It was cut short: behind the entries that were there stand a front of those that the machine has after some of its steps, and then perhaps one that frees the lock.
    pub record WasCutShort : Type 0 where
      pub cause : IsCutShort s
      pub steps : ℕ
      pub front : Journal
      pub rest : Journal
      pub brought : (after_steps steps).entries ≡ front ++ rest
      pub tail : Journal
      pub once : (tail ≡ []) ⊎ (tail ≡ freed)
      pub entries : entries_in d most_bytes after ≡ option_map (λ entries. entries ++ entries_of d (front ++ tail)) (entries_in d most_bytes before)

-- on each file that holds a database the command that the job is, with what it works with there, is the one runner of a machine
abbrev pub TakesSteps : {words : List (List ℕ)} {files : Files} → Asks words files → Stamp → Option (List ℕ) → Status → Option (List ℕ) → Type 0
TakesSteps asks stamp before s after = OnFile asks.line.options.dialect before
    (λ database. (c : Command) (given : Given) → command_by asks.line.job (given_by asks stamp) database ≡ Some (c, given)
    → HasAnswered given.options.dialect (task_for c given.options given.changelog given.stamp) database before s after
    ⊎ WasCutShort given.options.dialect (task_for c given.options given.changelog given.stamp) database before s after)

-- The commands of a drill as players over one store.

-- the status of a drill that a fault of the store ends
abbrev pub drill_status : DrillFault → Status
drill_status fault.Disk = status.DiskFault
drill_status (fault.Full used next) = status.Full used next
drill_status fault.OutOfMemory = status.OutOfMemory

-- so players end that did not come to their end: no file is damaged while they play
abbrev pub is_of_play : Status → Bool
is_of_play (status.Damaged at) = false
is_of_play s = is_of_drill s

-- what players have answered, and which met a fault of the store

abbrev pub answers_in : List AnyCommand → List (Option Came)
answers_in players = map (λ (p : AnyCommand). (command_stands p).answer) players

abbrev pub faults_in : List AnyCommand → List Bool
faults_in players = map (λ (p : AnyCommand). (command_stands p).faulted) players

-- the task of the command of a number, which has this name and reading
abbrev pub task_by : List ℕ → ℕ → Entrant → ℕ → Task AnyChange
task_by name n e reading = task_for e.command e.asked.options e.asked.changelog (numbered_stamp name n reading)

-- Players of these commands with these readings, which have made no step; their numbers are from 1.
pub record ArePlayers (d : Dialect) (name : List ℕ) (entrants : List Entrant) (readings : List ℕ) (players : List AnyCommand) (commands : List Command) : Type 0 where
  pub as_many : (length readings ≡ length entrants) × (length players ≡ length entrants)
  pub named : commands ≡ commands_of entrants
  pub starts : (place : ℕ) (e : Entrant) (reading : ℕ) (player : AnyCommand) → slice_get entrants place ≡ Some e → slice_get readings place ≡ Some reading → slice_get players place ≡ Some player
      → Starts false d (task_by name (suc place) e reading) player

-- one more command stands behind those that are there
pub record Joins (d : Dialect) (name : List ℕ) (entrant : Entrant) (reading : ℕ) (before more : Cast) : Type 0 where
  pub player : AnyCommand
  pub players : more.players.items ≡ before.players.items ++ player ∷ []
  pub commands : more.commands ≡ before.commands ++ entrant.command ∷ []
  pub starts : Starts false d (task_by name (suc (length before.players.items)) entrant reading) player

-- the players of all, each with its own reading; or there was no memory for them
abbrev pub Begun : Dialect → List ℕ → List Entrant → Option (List ℕ) → Option (List ℕ) → Result Cast NoMemory → Type 0
Begun d name entrants coming left (Ok cast) = (readings : List ℕ) × ReadInTurn coming left readings × ArePlayers d name entrants readings cast.players.items cast.commands
Begun d name entrants coming left (Err e) = ReadUpTo (length entrants) coming left

-- a drill that came to its end tells of each command
abbrev pub PlayEnds : List Command → List AnyCommand → State → Result Done Status → Type 0
PlayEnds commands last y (Ok done) = (y.live ≡ true) × (done.status ≡ status.Done) × (done.out ≡ Some (drill_text (drilled commands (answers_in last))))
PlayEnds commands last y (Err s) = Unit {0}

-- one that the journal's room ended tells which command it ended, and when
abbrev pub PlayIsFull : Result Done Status → (DrillFault → Type 0) → Type 0
PlayIsFull (Ok done) by = Unit {0}
PlayIsFull (Err (status.Full used next)) by = by (fault.Full used next)
PlayIsFull (Err s) by = Unit {0}

-- they answered no fault of the store where they came to their end, and one that the disk failed where that ended them
abbrev pub PlayAnswers : List AnyCommand → Result Done Status → Type 0
PlayAnswers last (Ok done) = Each command_stands (HasNotFailed as_failed) last
PlayAnswers last (Err status.DiskFault) = HasFailed command_stands as_failed last fault.Disk
PlayAnswers last (Err s) = Unit {0}

-- players took the steps, and stand so at the end
pub record Plays (players : List AnyCommand) (commands : List Command) (steps : List ℕ) (x y : State) (c e : Crashes) (result : Result Done Status) : Type 0 where
  pub last : List AnyCommand
  pub as_many : length last ≡ length players
  pub kind : Refuses is_of_play result
  pub met : Each command_stands (HasMet as_failed) last
  pub ends : PlayEnds commands last y result
  pub answered : PlayAnswers last result
  pub clean : (tasks : ℕ → Task AnyChange) (database : Database) → StandsFor x.dialect x.committed database → HaveTasks x.dialect tasks players → Each command_stands IsFaultless last
      → IsDrilled command_stands (works x.dialect tasks) x database steps last y
  pub until : (tasks : ℕ → Task AnyChange) (database : Database) → StandsFor x.dialect x.committed database → HaveTasks x.dialect tasks players → IsDrilledUntil command_stands (works x.dialect tasks) x database as_failed steps last y
  pub crash : (tasks : ℕ → Task AnyChange) (database : Database) → StandsFor x.dialect x.committed database → HaveTasks x.dialect tasks players → CrashesLeave x.entries (LeftInDrill command_stands (works x.dialect tasks) x database as_failed steps last) c e
  pub left : (tasks : ℕ → Task AnyChange) (database : Database) → StandsFor x.dialect x.committed database → HaveTasks x.dialect tasks players → LeftAtEnd command_stands (works x.dialect tasks) x database as_failed steps last y
  pub cause : (tasks : ℕ → Task AnyChange) (database : Database) → StandsFor x.dialect x.committed database → HaveTasks x.dialect tasks players → PlayIsFull result (FailsBy command_stands (works x.dialect tasks) x database as_failed steps last y)
  pub serial : (tasks : ℕ → Task AnyChange) (database : Database) → StandsFor x.dialect x.committed database → HaveTasks x.dialect tasks players → Each command_stands IsFaultless last → NoneReleases tasks steps
      → IsSerialDrill command_stands (works x.dialect tasks) x database steps last y
  pub in_turn : (tasks : ℕ → Task AnyChange) (database : Database) → StandsFor x.dialect x.committed database → HaveTasks x.dialect tasks players → Each command_stands IsFaultless last → BeginInTurn x.dialect tasks database steps
      → IsSerialDrill command_stands (works x.dialect tasks) x database steps last y
