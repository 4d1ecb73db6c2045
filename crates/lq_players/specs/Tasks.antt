-- The commands as players: what each is refused for, and what it answers at its end.
use Rattle.std.specs.Option.{option_map, option_or}
use Rattle.std.specs.Prelude.{Bool, List, None, Option, Some, [], ℕ, ◌∷◌}
use Rattle.lq_base.specs.declared.command.Command.{Command}
use Rattle.lq_base.specs.declared.command.Command.TheVariants as command
use Rattle.lq_base.specs.declared.dialect.Dialect.{Dialect}
use Rattle.lq_base.specs.declared.identity.Identity.{Identity}
use Rattle.lq_base.specs.declared.tracking.Tracked.{Tracked}
use Rattle.lq_expr.specs.declared.options.Options.{Options}
use Rattle.lq_hand.specs.Way.{Way}
use Rattle.lq_any.specs.declared.any_change.AnyChange.{AnyChange}
use Rattle.lq_kinds.specs.declared.change_set.Changelog.{Changelog as Files}
use Rattle.lq_players.specs.Reports.{report_of}
use Rattle.lq_playing.specs.Answers.{as_busy, as_locked, came, only}
use Rattle.lq_playing.specs.Checked.{Work}
use Rattle.lq_playing.specs.declared.came.Came.{Came}
use Rattle.lq_seen.specs.View.{any_meaning, view_log}
use Rattle.lq_track.specs.Database.{Database}
use Rattle.lq_turns.specs.Deed.{Contents, contents_of}
use Rattle.lq_turns.specs.Faults.{faults}
use Rattle.lq_turns.specs.Jobs.{Task, job_of}
use Rattle.lq_turns.specs.Laws.{synced}
use Rattle.lq_turns.specs.Script.{all_rolled, not_reversible, rows_kept, rows_undone, undo_turns}
use Rattle.lq_turns.specs.Set.{Changelog}
use Rattle.lq_turns.specs.Settle.{own_choice, updated}
use Rattle.lq_turns.specs.declared.answer.Answer.{Answer}
use Rattle.lq_turns.specs.declared.answer.Answer.TheVariants as answer
use Rattle.lq_turns.specs.declared.choice.Choice.{Choice}
use Rattle.lq_turns.specs.declared.choice.Choice.TheVariants.{Halts}
use Rattle.lq_turns.specs.declared.fault.Fault.{Fault}
use Rattle.lq_turns.specs.declared.stamp.Stamp.{Stamp}
use Rattle.lq_turns.specs.declared.stop.Stop.{Stop}
use Rattle.lq_turns.specs.declared.stop.Stop.TheVariants.{Halted, Refused}
use Rattle.lq_turns.specs.declared.turn.Turn.{Turn}

abbrev pub if_some : List Fault → Option Answer
if_some [] = None
if_some (fault ∷ faults) = Some (answer.Invalid (fault ∷ faults))

-- the changelog does not go with the rows
abbrev pub invalid : Changelog AnyChange → List Tracked → Option Answer
invalid g rows = if_some (faults g.sets rows)

abbrev pub if_halts : Choice → Option Answer
if_halts (Halts why) = Some (answer.Halted None why)
if_halts _ = None

-- the changelog's own precondition halts
abbrev pub own_halt : Changelog AnyChange → Database → Option Answer
own_halt g database = if_halts (own_choice g (contents_of database))

abbrev pub if_not : Option Identity → Option Answer
if_not (Some of) = Some (answer.NotReversible of)
if_not None = None

-- no row has the tag, or one of the rows after those that stay has nothing that takes it back
abbrev pub unreachable_by : Dialect → Changelog AnyChange → Option ℕ → List Tracked → Option Answer
unreachable_by d g None rows = Some answer.NoTarget
unreachable_by d g (Some stay) rows = if_not (not_reversible d any_meaning g.sets (rows_undone stay rows))

-- there is no row to tag
abbrev pub untagged : List Tracked → Option Answer
untagged [] = Some answer.NoTarget
untagged (row ∷ rows) = None

-- the first check of a command that fails, behind that of the lock
abbrev pub refuses : Dialect → Task AnyChange → Database → Option Answer
refuses d task database = elim task.command [
  | command.Validate ↦ invalid task.changelog database.rows
  | command.Status ↦ invalid task.changelog database.rows
  | command.Update ↦ option_or (invalid task.changelog database.rows) (own_halt task.changelog database)
  | command.Tag name ↦ untagged database.rows
  | command.Rollback target ↦ option_or (invalid task.changelog database.rows) (unreachable_by d task.changelog (rows_kept target database.rows) database.rows)
  | command.Sync ↦ invalid task.changelog database.rows
  | command.Release ↦ None
]

-- what stopped a command is its answer
abbrev pub answer_by : Option Stop → Answer
answer_by None = answer.Done
answer_by (Some (Halted place why)) = answer.Halted place why
answer_by (Some (Refused of refusal)) = answer.Refused of refusal.statement refusal.kept refusal.reason

abbrev pub stop_back : Dialect → Option (List Turn) → Contents → Option Stop
stop_back d (Some turns) c = (all_rolled d turns c).stop
stop_back d None c = None

abbrev pub stop_to : Dialect → Changelog AnyChange → Option ℕ → List Tracked → Contents → Option Stop
stop_to d g (Some stay) rows c = stop_back d (undo_turns d any_meaning g.sets (rows_undone stay rows)) c
stop_to d g None rows c = None

-- what stops a command that passed its checks
abbrev pub stop_of : Dialect → Task AnyChange → Database → Option Stop
stop_of d task database = elim task.command [
  | command.Validate ↦ None
  | command.Status ↦ None
  | command.Update ↦ (updated d any_meaning task.stamp.reading task.changelog (contents_of database)).stop
  | command.Tag name ↦ None
  | command.Rollback target ↦ stop_to d task.changelog (rows_kept target database.rows) database.rows (contents_of database)
  | command.Sync ↦ (synced task.stamp.reading task.changelog.sets (contents_of database)).stop
  | command.Release ↦ None
]

-- the command on a changelog, as its options see it
abbrev pub task_for : Command → Options → Files → Stamp → Task AnyChange
task_for command options g stamp = record { command = command; changelog = view_log options g; stamp = stamp }

-- what it is refused for is all that it comes to; or it tells what it did
abbrev pub work_of : Bool → Dialect → Task AnyChange → Work
work_of prints d task = job_of Came as_locked as_busy d any_meaning (λ it database. option_map only (refuses d it database)) (λ it database. came (report_of prints d it database) (answer_by (stop_of d it database))) task

-- A command whose checks are to come.

-- no contents are known yet
abbrev pub unaware : Way
unaware = record { knows = λ c. ⊥; awaits = λ sees c. ⊥; yields = λ goes_on refusal c. ⊥; tells = λ refused. ⊥; lacks = ⊥ }
