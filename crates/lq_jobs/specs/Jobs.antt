-- What a job does on a database file.
use Rattle.std.specs.List.{All}
use Rattle.std.specs.Prelude.{Bool, Err, IfOk, List, None, Option, Result, Some, false, true, ℕ, ◌&&◌, ◌≡◌, ◌⊎◌}
use Rattle.laws_generate.specs.Again.{TextComesAgain}
use Rattle.lq_base.specs.declared.command.Command.TheVariants as command
use Rattle.lq_base.specs.declared.dialect.Dialect.{Dialect}
use Rattle.lq_changelog.specs.Gathers.{HasShortTexts}
use Rattle.lq_cli.specs.declared.line.Job.{Job}
use Rattle.lq_cli.specs.declared.line.Job.TheVariants.{Drill, Generate, RollbackSql, Snapshot, Soak, UndoUnrecorded, UpdateSql, UpdateTo}
use Rattle.lq_commands.specs.Outputs.{TellsJob}
use Rattle.lq_commands.specs.Refusals.{Answers}
use Rattle.lq_commands.specs.Rehearsal.{generate_text}
use Rattle.lq_commands.specs.Scripts.{printed_script}
use Rattle.lq_commands.specs.Works.{IsKept, is_finished}
use Rattle.lq_commands.specs.declared.given.Given.{Given}
use Rattle.lq_kinds.specs.ReadFor.{AreFor}
use Rattle.lq_kinds.specs.ChangeSets.{is_label}
use Rattle.lq_kinds.specs.declared.change_set.Changelog.{Changelog}
use Rattle.lq_tell.specs.declared.done.Done.{Done}
use Rattle.lq_tell.specs.declared.status.Status.{Status}
use Rattle.lq_tell.specs.declared.status.Status.TheVariants as status
use Rattle.lq_jobs.specs.Bytes.{HadRoomOn, IsLeftOn, OnFile, RestsFullOn, SaysFullOn, WorksOn}
use Rattle.lq_track.specs.Database.{Database}
use Rattle.lq_turns.specs.declared.call.Call.{Call}
pub use Rattle.lq_commands.specs.Jobs.{command_by, is_on_store, is_own, job_reads, job_refusal, job_script, job_tag}

-- Its calls are those of the file's database: a soak has a database of its own, in a drill commands work beside one another, what undo-unrecorded takes back hangs on the journal's last text too, and a snapshot writes what no call does.
abbrev pub is_on_file : Job → Bool
is_on_file (Drill path) = false
is_on_file (Soak number sets) = false
is_on_file UndoUnrecorded = false
is_on_file Snapshot = false
is_on_file _ = true

-- it has a database of its own, and leaves the file as it is
abbrev pub is_apart : Job → Bool
is_apart (Soak number sets) = true
is_apart _ = false

-- so an update up to a tag ends that no changeset sets
abbrev pub goes_on : Job → Bool
goes_on (UpdateTo tag) = true
goes_on _ = false

abbrev pub is_no_target : Status → Bool
is_no_target status.NoTarget = true
is_no_target s = false

abbrev pub misses : Job → Status → Bool
misses job s = is_no_target s && goes_on job

-- the calls that it makes, on the file or on a copy
abbrev pub job_calls : Job → Given → Database → List Call
job_calls UpdateSql given database = printed_script command.Update given database
job_calls (RollbackSql target) given database = printed_script (command.Rollback target) given database
job_calls job given database = job_script job given database

-- what a check refuses leaves nothing
abbrev pub UnlessRefused : Option Status → Type 0 → Type 0
UnlessRefused None leaves = leaves
UnlessRefused (Some refused) leaves = ⊥

-- such bytes a crash of the machine at a moment of it may leave
abbrev pub JobLeaves : Job → Given → Database → Option (List ℕ) → List ℕ → Type 0
JobLeaves job given database told bytes = UnlessRefused (job_refusal job given database) (IsLeftOn given.options.dialect (job_script job given database) database told (Some bytes))

-- what is generated makes the users' objects again
abbrev pub MakesAgain : Job → Given → Database → Result Done Status → Type 0
MakesAgain (Generate author) given database done = is_label author ≡ true → IfOk done (λ ended. TextComesAgain given.options.dialect database.users (generate_text author given database))
MakesAgain _ given database done = Unit {0}

-- on a file that holds the database: it is refused, or only reads, and nothing is written; or where it comes to its end its calls are done, and it tells of them
pub record DoesJob (job : Job) (given : Given) (database : Database) (before : Option (List ℕ)) (done : Result Done Status) (after : Option (List ℕ)) : Type 0 where
  pub answers : Answers (job_refusal job given database) done
  pub refused : IsKept (job_refusal job given database) before after
  pub reads : job_reads job ≡ true → after ≡ before
  pub works : WorksOn given.options.dialect (job_script job given database) database before done after
  pub tells : TellsJob job given database done
  pub again : MakesAgain job given database done
  -- where it comes to its end each entry had room; and a full journal is told as full as it was
  pub room : IfOk done (λ ended. is_finished ended.status ≡ true → HadRoomOn given.options.dialect (job_calls job given database) database before)
  pub full : IfOk done (λ ended. SaysFullOn given.options.dialect (job_calls job given database) database before ended.status)
  -- one that works on the file leaves that journal, and its lock let go
  pub rests : is_own job ≡ true → IfOk done (λ ended. RestsFullOn given.options.dialect (job_script job given database) database before ended.status after)

-- what holds of a changelog that was loaded for a dialect
pub record IsLoaded (d : Dialect) (g : Changelog) : Type 0 where
  pub read : AreFor d g
  pub short : All HasShortTexts g.sets

-- A line whose files give a changelog: they fail all the same, or there is no memory for it, and nothing is written; or it was loaded for the dialect, and its job is done on the file.
abbrev pub DoesLine : Job → Given → Option (List ℕ) → Result Done Status → Option (List ℕ) → Type 0
DoesLine job given before done after = is_on_file job ≡ true → OnFile given.options.dialect before
    (λ database. (((done ≡ Err status.ReadFault) ⊎ (done ≡ Err status.OutOfMemory)) × (after ≡ before)) ⊎ (IsLoaded given.options.dialect given.changelog × DoesJob job given database before done after))
