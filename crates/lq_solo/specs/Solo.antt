-- What a command of any kind comes to that is run by itself.
use Rattle.std.specs.Prelude.{Bool, true, ◌≡◌}
use Rattle.lq_alone.specs.One.{AnswersOwn}
use Rattle.lq_alone.specs.Stopped.{ClosesIn}
use Rattle.lq_base.specs.declared.dialect.Dialect.{Dialect}
use Rattle.lq_beside.specs.Replays.{calls_fit}
use Rattle.lq_any.specs.declared.any_change.AnyChange.{AnyChange}
use Rattle.lq_players.specs.AnyCommand.{command_stands}
use Rattle.lq_players.specs.Tasks.{work_of}
use Rattle.lq_players.specs.declared.any_command.AnyCommand.{AnyCommand}
use Rattle.lq_playing.specs.Answers.{as_failed}
use Rattle.lq_playing.specs.Checked.{Work}
use Rattle.lq_store.specs.Journal.{State}
use Rattle.lq_track.specs.Database.{Database}
use Rattle.lq_turns.specs.Jobs.{Task}
use Rattle.lq_turns.specs.Schedule.{StandsFor}
use Rattle.lq_turns.specs.Session.{session_on}

-- in every command's script, where some of the calls were made and another is to come, one of them frees the lock
abbrev pub ScriptsClose : Type 0
ScriptsClose = (prints : Bool) (d : Dialect) (task : Task AnyChange) (database : Database) → ClosesIn ((work_of prints d task).script database)

-- no command's own answer is one to a fault of the store
abbrev pub WorksAnswerOwn : Type 0
WorksAnswerOwn = (prints : Bool) (d : Dialect) (task : Task AnyChange) (database : Database) → AnswersOwn as_failed (work_of prints d task) database

-- of a command with this work, on the database of a store
abbrev pub OnWork : AnyCommand → State → (Work → Database → Type 0) → Type 0
OnWork command x holds = (prints : Bool) (task : Task AnyChange) (database : Database) → (command_stands command).job ≡ work_of prints x.dialect task → StandsFor x.dialect x.committed database → holds (work_of prints x.dialect task) database

-- where each deed of its script fits
abbrev pub OnFitting : AnyCommand → State → (Work → Database → Type 0) → Type 0
OnFitting command x holds = OnWork command x (λ work database. calls_fit x.dialect (work.script database) (session_on database) ≡ true → holds work database)
