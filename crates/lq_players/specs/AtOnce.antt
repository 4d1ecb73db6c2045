-- A command that ends with its first step: it makes one call, or none.
use Rattle.std.specs.Prelude.{Bool, List, None, Option, Some, [], false, true, ℕ, ◌∷◌, ◌≤◌}
use Rattle.lq_base.specs.Number.{char_count}
use Rattle.lq_base.specs.declared.command.Command.{Command}
use Rattle.lq_base.specs.declared.command.Command.TheVariants as command
use Rattle.lq_base.specs.declared.dialect.Dialect.{Dialect}
use Rattle.lq_base.specs.declared.identity.Identity.{Identity}
use Rattle.lq_base.specs.declared.tracking.Lock.{Lock}
use Rattle.lq_base.specs.declared.tracking.Tracked.{Tracked}
use Rattle.lq_hand.specs.Way.{Way}
use Rattle.lq_any.specs.declared.any_change.AnyChange.{AnyChange}
use Rattle.lq_model.specs.Catalogue.{Catalogue}
use Rattle.lq_model.specs.declared.caller.Room.{Room}
use Rattle.lq_model.specs.declared.caller.Room.TheVariants.{Ordinary, Release}
use Rattle.lq_players.specs.Reports.{if_held}
use Rattle.lq_players.specs.Tasks.{task_for, work_of}
use Rattle.lq_players.specs.declared.at_once.AtOnce.{AtOnce}
use Rattle.lq_players.specs.declared.at_once.Found.{Found}
use Rattle.lq_players.specs.declared.at_once.OneStep.{OneStep}
use Rattle.lq_players.specs.declared.at_once.OneStep.TheVariants as step
use Rattle.lq_playing.specs.Answers.{came, nothing}
use Rattle.lq_playing.specs.Checked.{Checked, Work}
use Rattle.lq_playing.specs.declared.came.Came.{Came}
use Rattle.lq_playing.specs.declared.came.Report.{Report}
use Rattle.lq_playing.specs.declared.checks.OneCall.{OneCall}
use Rattle.lq_playing.specs.declared.checks.Verdict.{Verdict}
use Rattle.lq_playing.specs.declared.checks.Verdict.TheVariants as verdict
use Rattle.lq_run.specs.Stands.{nothing_told}
use Rattle.lq_seen.specs.View.{any_meaning, view_log}
use Rattle.lq_track.specs.Log.{identity_of}
use Rattle.lq_turns.specs.Printed.{pending}
use Rattle.lq_turns.specs.Rest.{NoMore}
use Rattle.lq_turns.specs.Set.{Set}
use Rattle.lq_turns.specs.declared.answer.Answer.{Answer}
use Rattle.lq_turns.specs.declared.answer.Answer.TheVariants.{Done, Invalid, NoTarget}
use Rattle.lq_turns.specs.declared.deed.Deed.{Deed}
use Rattle.lq_turns.specs.declared.deed.Deed.TheVariants.{Locks, Rows}
use Rattle.lq_turns.specs.declared.deed.OnLock.TheVariants.{Freed}
use Rattle.lq_turns.specs.declared.deed.OnRows.TheVariants.{Tagged}
use Rattle.lq_turns.specs.declared.fault.Fault.{Fault}
use Rattle.lq_turns.specs.declared.stamp.Stamp.{Stamp}
use Rattle.lq_turns.specs.declared.stop.Refusal.{Refusal}

abbrev pub command_of : OneStep → Command
command_of step.Validate = command.Validate
command_of step.Status = command.Status
command_of (step.Tag name) = command.Tag name
command_of step.Release = command.Release

-- it only looks at whether the changelog goes with the rows
abbrev pub only_looks : OneStep → Bool
only_looks step.Validate = true
only_looks step.Status = true
only_looks (step.Tag name) = false
only_looks step.Release = false

-- the tag goes into its column
abbrev pub HasShortTag : Command → Type 0
HasShortTag (command.Tag tag) = char_count tag ≤ 255
HasShortTag command.Validate = Unit {0}
HasShortTag command.Status = Unit {0}
HasShortTag command.Update = Unit {0}
HasShortTag (command.Rollback target) = Unit {0}
HasShortTag command.Sync = Unit {0}
HasShortTag command.Release = Unit {0}

abbrev pub once_job : AtOnce → Dialect → Stamp → Work
once_job it d stamp = work_of false d (task_for (command_of it.command) it.options it.changelog stamp)

abbrev pub sets_of : AtOnce → List (Set AnyChange)
sets_of it = (view_log it.options it.changelog).sets

abbrev pub once_way : AtOnce → Dialect → Stamp → Unit {0} → Way
once_way it d stamp told = nothing_told

abbrev pub once_reports : AtOnce → Report
once_reports it = it.report

abbrev pub once_ends : AtOnce → Option Refusal → Came
once_ends it refused = came it.report Done

-- what its checks come to on what is seen, and what it found
abbrev pub OnceChecked : Dialect → Stamp → AtOnce → Catalogue → Found → Type 0
OnceChecked d stamp it seen found = Checked d any_meaning stamp once_way once_ends (once_job it d stamp) once_reports NoMore (record it { report = found.report }) seen found.verdict

-- what a status lists
abbrev pub listed_by : OneStep → List (Set AnyChange) → List Tracked → List Identity
listed_by step.Validate sets rows = []
listed_by step.Status sets rows = pending sets rows
listed_by (step.Tag name) sets rows = []
listed_by step.Release sets rows = []

-- it found these changesets, or this lock

abbrev pub listing : List Identity → Report
listing found = record nothing { pending = found }

abbrev pub freeing : Lock → Report
freeing lock = record nothing { freed = if_held lock }

-- the changelog goes with the rows, or has these faults
abbrev pub answer_to : List Fault → Answer
answer_to [] = Done
answer_to (fault ∷ faults) = Invalid (fault ∷ faults)

-- a call of one deed, after which the command is done
abbrev pub call_of : Deed → Room → OneCall
call_of deed room = record { deeds = deed ∷ []; room = room; answer = Done }

-- the last row gets the tag
abbrev pub tagging : List ℕ → Option Tracked → Verdict
tagging tag None = verdict.Answer NoTarget
tagging tag (Some row) = verdict.OneCall (call_of (Rows (Tagged (identity_of row) tag)) Ordinary)

-- a lock that is held is freed
abbrev pub releasing : Bool → Verdict
releasing true = verdict.OneCall (call_of (Locks Freed) Release)
releasing false = verdict.Answer Done
