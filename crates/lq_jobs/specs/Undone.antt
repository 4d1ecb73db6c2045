-- What undo-unrecorded does on a database file.
use Rattle.std.specs.Prelude.{IfOk, List, None, Option, Result, Some, false, option_and_then, option_map, true, ℕ, ◌++◌, ◌≡◌, ◌⊎◌}
use Rattle.lq_base.specs.declared.dialect.Dialect.{Dialect}
use Rattle.lq_base.specs.declared.identity.Identity.{Identity}
use Rattle.lq_cli.specs.declared.line.Job.TheVariants.{UndoUnrecorded}
use Rattle.lq_commands.specs.Refusals.{Answers}
use Rattle.lq_commands.specs.Works.{IsKept, is_finished}
use Rattle.lq_db.specs.Db.{last_text}
use Rattle.lq_entries.specs.Log.{entries_in}
use Rattle.lq_expr.specs.declared.options.Options.{Options}
use Rattle.lq_kinds.specs.declared.change_set.Changelog.{Changelog}
use Rattle.lq_mending.specs.Comes.{back_refused}
use Rattle.lq_mending.specs.Undoes.{Standing, first_of, undo_script, unrecorded}
use Rattle.lq_outside.specs.Crash.{Crashes as DiskCrashes, Settled}
use Rattle.lq_report.specs.Output.{undone_text}
use Rattle.lq_tell.specs.declared.done.Done.{Done}
use Rattle.lq_tell.specs.declared.status.Status.{Status}
use Rattle.lq_tell.specs.declared.status.Status.TheVariants as status
use Rattle.lq_jobs.specs.Asks.{Asks, Files}
use Rattle.lq_jobs.specs.Bytes.{Becomes, CrashesOn, HadRoomOn, IsLeftOn, OnFile, Opens, RestsFullOn, SaysFullOn, WorksOn, most_bytes}
use Rattle.lq_jobs.specs.Run.{EndsBy, is_over}
use Rattle.lq_track.specs.Database.{Database}
use Rattle.lq_turns.specs.Session.{left_by}
use Rattle.lq_turns.specs.declared.call.Call.{Call}
use Rattle.lq_turns.specs.declared.stop.Refusal.{Refusal}
use Rattle.lq_undoing.specs.Undid.{TellsUndone, undo_refusal}

-- the last text of a file's journal
abbrev pub last_on : Dialect → Option (List ℕ) → Option (List ℕ)
last_on d told = option_and_then last_text (entries_in d most_bytes told)

-- on a file that holds the database
module _ (o : Options) (g : Changelog) (told : Option (List ℕ)) (database : Database) where
  -- the part of a changeset that stands there without a row
  abbrev pub part_on : Option Standing
  part_on = unrecorded o g (last_on o.dialect told) database.lock database.rows

  -- the calls that take it back
  abbrev pub undo_calls : List Call
  undo_calls = undo_script o g (last_on o.dialect told) database

  -- it is refused, and nothing is written; or where it comes to its end its calls are done, and it tells what it took back
  pub record DoesUndo (done : Result Done Status) (after : Option (List ℕ)) : Type 0 where
    pub answers : Answers (undo_refusal o g database) done
    pub refused : IsKept (undo_refusal o g database) told after
    pub works : WorksOn o.dialect undo_calls database told done after
    pub tells : IfOk done (TellsUndone o database part_on)
    pub room : IfOk done (λ ended. is_finished ended.status ≡ true → HadRoomOn o.dialect undo_calls database told)
    pub full : IfOk done (λ ended. SaysFullOn o.dialect undo_calls database told ended.status)
    pub rests : IfOk done (λ ended. RestsFullOn o.dialect undo_calls database told ended.status after)

-- the changeset and how many statements that part had, with a line of the output; or which of them was not taken back, and nothing is put out
abbrev pub SaysPart : Identity → ℕ → Option Refusal → Status → Option (List ℕ) → Option (List ℕ) → Type 0
SaysPart of many None s before after = (s ≡ status.Done) × (after ≡ option_map (λ out. out ++ undone_text of many) before)
SaysPart of many (Some why) s before after = (s ≡ status.Refused of why.statement why.kept why.reason) × (after ≡ before)

-- where it came to its end
abbrev pub SaysUndone : Options → Database → Option Standing → Status → Option (List ℕ) → Option (List ℕ) → Type 0
SaysUndone o database None s before after = Unit {0}
SaysUndone o database (Some part) s before after = is_finished s ≡ true → SaysPart part.0.identity part.1 (back_refused o.dialect (first_of o part) database.users) s before after

-- on a file that holds the database: the status has its cause; a refusal changes nothing; where it came to its end its calls are done, and otherwise it leaves what a stop of them may leave; it says what it took back; each entry of one that came to its end had room, and a full journal is told as full as it was
pub record RunsUndo (o : Options) (g : Changelog) (database : Database) (before : Option (List ℕ)) (s : Status) (after shown now : Option (List ℕ)) : Type 0 where
  pub ends : EndsBy (undo_refusal o g database) s
  pub refused : IsKept (undo_refusal o g database) before after
  pub works : is_over s ≡ true → Becomes o.dialect (undo_calls o g before database) database before after
  pub left : is_over s ≡ false → IsLeftOn o.dialect (undo_calls o g before database) database before after
  -- so it is opened again: with that database, or with the one that a stop left
  pub opens : is_over s ≡ true → Opens o.dialect after (left_by o.dialect (undo_calls o g before database) database)
  pub opens_cut : is_over s ≡ false → (cut : IsLeftOn o.dialect (undo_calls o g before database) database before after) → Opens o.dialect after cut.now
  pub says : SaysUndone o database (part_on o g before database) s shown now
  pub room : is_over s ≡ true → HadRoomOn o.dialect (undo_calls o g before database) database before
  pub full : SaysFullOn o.dialect (undo_calls o g before database) database before s
  -- which the file holds then, with its lock let go
  pub rests : RestsFullOn o.dialect (undo_calls o g before database) database before s after

module _ {words : List (List ℕ)} {files : Files} (asks : Asks words files) (told : Option (List ℕ)) where
  -- on each file that holds a database
  abbrev pub RunsUndone : Status → Option (List ℕ) → Option (List ℕ) → Option (List ℕ) → Type 0
  RunsUndone s after shown now = asks.line.job ≡ UndoUnrecorded → OnFile asks.line.options.dialect told (λ database. RunsUndo asks.line.options asks.changelog database told s after shown now)

  -- and a crash of the machine, at each moment of it
  abbrev pub CrashesUndone : DiskCrashes → DiskCrashes → Type 0
  CrashesUndone before now = asks.line.job ≡ UndoUnrecorded → OnFile asks.line.options.dialect told (λ database. CrashesOn asks.line.options.dialect (undo_calls asks.line.options asks.changelog told database) database told before now)

  -- and what such a crash left is opened again
  abbrev pub UndoneOpens : List ℕ → Type 0
  UndoneOpens bytes = asks.line.job ≡ UndoUnrecorded → OnFile asks.line.options.dialect told
      (λ database. (cut : IsLeftOn asks.line.options.dialect (undo_calls asks.line.options asks.changelog told database) database told (Some bytes)) → Opens asks.line.options.dialect (Some bytes) cut.now)

-- after one that came to its end a crash leaves what is there
abbrev pub IsUndoneSafe : {words : List (List ℕ)} {files : Files} → Asks words files → Status → Option (List ℕ) → DiskCrashes → Type 0
IsUndoneSafe asks s after now = asks.line.job ≡ UndoUnrecorded → is_over s ≡ true → Settled after now
