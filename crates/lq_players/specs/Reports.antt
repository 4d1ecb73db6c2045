-- What a command does that comes to its end, and what is printed of it.
use Rattle.std.specs.Prelude.{Bool, List, None, Option, Some, [], if◌then◌else◌, ℕ, ◌∷◌}
use Rattle.lq_base.specs.declared.command.Command.TheVariants as command
use Rattle.lq_base.specs.declared.dialect.Dialect.{Dialect}
use Rattle.lq_base.specs.declared.identity.Identity.{Identity}
use Rattle.lq_base.specs.declared.run.Why.{Why}
use Rattle.lq_base.specs.declared.tracking.Lock.{Lock}
use Rattle.lq_base.specs.declared.tracking.Tracked.{Tracked}
use Rattle.lq_any.specs.declared.any_change.AnyChange.{AnyChange}
use Rattle.lq_playing.specs.Answers.{nothing}
use Rattle.lq_playing.specs.declared.came.Report.{Report}
use Rattle.lq_seen.specs.Telling.{Account, bounded, of_sets, of_turns}
use Rattle.lq_seen.specs.View.{any_meaning}
use Rattle.lq_seen.specs.declared.outcome.Outcome.{Outcome}
use Rattle.lq_track.specs.Database.{Database}
use Rattle.lq_turns.specs.Deed.{Contents, contents_of}
use Rattle.lq_turns.specs.Jobs.{Task}
use Rattle.lq_turns.specs.Laws.{synced}
use Rattle.lq_turns.specs.Printed.{pending}
use Rattle.lq_turns.specs.Script.{rows_kept, rows_undone, undo_turns}
use Rattle.lq_turns.specs.Set.{Changelog}
use Rattle.lq_turns.specs.Settle.{is_halt, nothing_done, own_choice, updated}
use Rattle.lq_turns.specs.declared.choice.Choice.{Choice}
use Rattle.lq_turns.specs.declared.choice.Choice.TheVariants.{Fills, Halts, Marks, Passes, Runs, Skips}
use Rattle.lq_turns.specs.declared.turn.Turn.{Turn}

-- of what its turns settle, and of what is printed of them
abbrev pub of_account : Account → Report
of_account told = record nothing { happened = told.settled.happened; not_fresh = bounded told.settled.not_fresh; warned = told.settled.warned; printed = told.printed }

-- of what a source of turns has noted
abbrev pub of_outcome : Outcome → Report
of_outcome o = record nothing { happened = o.happened; not_fresh = o.not_fresh; warned = o.warned; printed = o.printed }

-- the warning of a changelog's own precondition

abbrev pub warned_by : Option Why → List (Option Identity × Why)
warned_by None = []
warned_by (Some why) = (None, why) ∷ []

abbrev pub own_warned : Choice → List (Option Identity × Why)
own_warned (Runs by why) = warned_by why
own_warned Passes = []
own_warned Fills = []
own_warned Skips = []
own_warned (Marks by) = []
own_warned (Halts why) = []

-- an update; where the changelog's own precondition halts it nothing runs
abbrev pub updated_in : Bool → Dialect → Task AnyChange → Database → Account
updated_in prints d task database = record {
  settled = updated d any_meaning task.stamp.reading task.changelog (contents_of database);
  printed = if is_halt (own_choice task.changelog (contents_of database)) then [] else (of_sets prints d task.stamp.reading task.changelog.sets (contents_of database)).printed;
}

-- a rollback by these turns, where there are any

abbrev pub rolled_by : Bool → Dialect → Option (List Turn) → Contents → Account
rolled_by prints d (Some turns) c = of_turns prints d turns c
rolled_by prints d None c = record { settled = nothing_done c; printed = [] }

abbrev pub rolled_to : Bool → Dialect → Changelog AnyChange → Option ℕ → List Tracked → Contents → Account
rolled_to prints d g (Some stay) rows c = rolled_by prints d (undo_turns d any_meaning g.sets (rows_undone stay rows)) c
rolled_to prints d g None rows c = record { settled = nothing_done c; printed = [] }

-- a changelog-sync, of which nothing is printed
abbrev pub synced_in : Task AnyChange → Database → Account
synced_in task database = record { settled = synced task.stamp.reading task.changelog.sets (contents_of database); printed = [] }

-- a lock that is held
abbrev pub if_held : Lock → Option Lock
if_held lock = if lock.locked then Some lock else None

-- what each command does that comes to its end
abbrev pub report_of : Bool → Dialect → Task AnyChange → Database → Report
report_of prints d task database = elim task.command [
  | command.Validate ↦ nothing
  | command.Status ↦ record nothing { pending = pending task.changelog.sets database.rows }
  | command.Update ↦ of_account (updated_in prints d task database)
  | command.Tag name ↦ nothing
  | command.Rollback target ↦ of_account (rolled_to prints d task.changelog (rows_kept target database.rows) database.rows (contents_of database))
  | command.Sync ↦ of_account (synced_in task database)
  | command.Release ↦ record nothing { freed = if_held database.lock }
]
