-- What is read from the tracking tables that are seen.
use Rattle.std.specs.List.{All}
use Rattle.std.specs.Prelude.{Bool, List, None, Option, Some, [], false, nat_lt, true, ℕ, ◌&&◌, ◌∷◌, ◌≡◌, ◌≢◌}
use Rattle.lq_back.specs.Reversal.{sync_calls}
use Rattle.lq_base.specs.declared.command.Command.TheVariants.{Sync}
use Rattle.lq_base.specs.declared.dialect.Dialect.{Dialect}
use Rattle.lq_base.specs.declared.identity.Identity.{Identity}
use Rattle.lq_base.specs.declared.run.Happened.{Happened}
use Rattle.lq_base.specs.declared.tracking.Lock.{Lock}
use Rattle.lq_base.specs.declared.tracking.Tracked.{Tracked}
use Rattle.lq_beside.specs.Replays.{HasTexts}
use Rattle.lq_hand.specs.Hand.{AreTurns, calls_left}
use Rattle.lq_hand.specs.Way.{Way}
use Rattle.lq_hand.specs.declared.hand.Hand.{Hand}
use Rattle.lq_hand.specs.declared.hand.Phase.TheVariants as phase
use Rattle.lq_any.specs.declared.any_change.AnyChange.{AnyChange}
use Rattle.lq_model.specs.Catalogue.{Catalogue}
use Rattle.lq_players.specs.Tasks.{answer_by, task_for, work_of}
use Rattle.lq_players.specs.declared.syncing.Plan.{Plan}
use Rattle.lq_players.specs.declared.syncing.Plan.TheVariants as plan
use Rattle.lq_players.specs.declared.syncing.Syncing.{Syncing}
use Rattle.lq_playing.specs.Answers.{came, nothing}
use Rattle.lq_playing.specs.Checked.{Checked, Work}
use Rattle.lq_playing.specs.declared.came.Came.{Came}
use Rattle.lq_playing.specs.declared.came.Report.{Report}
use Rattle.lq_playing.specs.declared.checks.Verdict.{Verdict}
use Rattle.lq_playing.specs.declared.checks.Verdict.TheVariants as verdict
use Rattle.lq_seen.specs.View.{any_meaning, view_log}
use Rattle.lq_track.specs.Database.{Database}
use Rattle.lq_turns.specs.Deed.{has_place}
use Rattle.lq_turns.specs.Faults.{faults}
use Rattle.lq_turns.specs.Laws.{insert_stop, marked_by}
use Rattle.lq_turns.specs.Rest.{NoMore}
use Rattle.lq_turns.specs.Schedule.{StandsFor}
use Rattle.lq_turns.specs.Script.{rows_to_sync}
use Rattle.lq_turns.specs.Set.{Changelog, Set}
use Rattle.lq_turns.specs.Settle.{Settled}
use Rattle.lq_turns.specs.declared.answer.Answer.{Answer}
use Rattle.lq_turns.specs.declared.answer.Answer.TheVariants.{Done, Invalid}
use Rattle.lq_turns.specs.declared.fault.Fault.{Fault}
use Rattle.lq_turns.specs.declared.stamp.Stamp.{Stamp}
use Rattle.lq_turns.specs.declared.stop.Refusal.{Refusal}
use Rattle.lq_turns.specs.declared.stop.Stop.{Stop}
use Rattle.lq_turns.specs.declared.stop.Stop.TheVariants.{Halted, Refused}

-- each database that is seen has these rows
abbrev pub HasRows : Dialect → Catalogue → List Tracked → Type 0
HasRows d seen rows = (database : Database) → StandsFor d seen database → database.rows ≡ rows

-- and this lock
abbrev pub HasLock : Dialect → Catalogue → Lock → Type 0
HasLock d seen lock = (database : Database) → StandsFor d seen database → database.lock ≡ lock

-- A changelog-sync, whose one turn inserts a row for each selected changeset without one.

abbrev pub sync_log : Syncing → Changelog AnyChange
sync_log it = view_log it.options it.changelog

abbrev pub sync_job : Syncing → Dialect → Stamp → Work
sync_job it d stamp = work_of false d (task_for Sync it.options it.changelog stamp)

-- the texts of its changesets go into the columns of their rows
abbrev pub FitColumns : Syncing → Type 0
FitColumns it = All HasTexts (sync_log it).sets

-- the row has a place in run order, and there is room for it behind so many
abbrev pub goes_in : ℕ → Tracked → Bool
goes_in count row = has_place row && nat_lt count 100000

-- the changeset and the refusal of a stop

abbrev pub refused_at : Option Stop → Option Identity
refused_at None = None
refused_at (Some (Halted place why)) = None
refused_at (Some (Refused of refusal)) = Some of

abbrev pub refusal_in : Option Stop → Option Refusal
refusal_in None = None
refusal_in (Some (Halted place why)) = None
refusal_in (Some (Refused of refusal)) = Some refusal

-- what stops a command whose statement was refused, or was not, where a refusal is of this changeset
abbrev pub stop_at : Option Refusal → Option Identity → Option Stop
stop_at None of = None
stop_at (Some refusal) None = None
stop_at (Some refusal) (Some of) = Some (Refused of refusal)

-- It is on its way to having told what was marked; or of this stop, where nothing was.

abbrev pub Marks : Syncing → Settled → Type 0
Marks it told = (told.stop ≡ None) × (it.marked ≡ told.happened)

abbrev pub YieldsStop : Syncing → Settled → Bool → Refusal → Type 0
YieldsStop it told true refusal = ⊥
YieldsStop it told false refusal = (told.stop ≡ stop_at (Some refusal) it.stops_at) × (told.happened ≡ [])

abbrev pub sync_way : Syncing → Dialect → Stamp → Settled → Way
sync_way it d stamp told = record {
  knows = λ c. Marks it told;
  awaits = λ sees c. Marks it told;
  yields = λ goes_on refusal c. YieldsStop it told goes_on refusal;
  tells = λ refused. (told.stop ≡ stop_at refused it.stops_at) × (it.marked ≡ told.happened);
  lacks = Unit {0};
}

abbrev pub sync_reports : Syncing → Report
sync_reports it = record nothing { happened = it.marked }

abbrev pub sync_ends : Syncing → Option Refusal → Came
sync_ends it refused = came (sync_reports it) (answer_by (stop_at refused it.stops_at))

-- what its checks come to on what is seen, after which it stands so
abbrev pub SyncChecked : Dialect → Stamp → Syncing → Syncing → Catalogue → Verdict → Type 0
SyncChecked d stamp before after seen v = Checked d any_meaning stamp sync_way sync_ends (sync_job before d stamp) sync_reports NoMore after seen v

-- the turn that inserts these rows, of which no call is made, the changeset of the first that does not go in behind those before, and what they mark
pub record Inserts (rows before : List Tracked) (hand : Hand) (of : Option Identity) (marked : List Happened) : Type 0 where
  pub some : rows ≢ []
  pub inside : hand.phase ≡ phase.Inside
  pub turn : (d : Dialect) → AreTurns d false (calls_left hand)
  pub calls : calls_left hand ≡ sync_calls rows
  pub stops : hand.goes_on ≡ false
  pub of_is : of ≡ refused_at (insert_stop rows before)
  pub marked_is : marked ≡ marked_by None rows

-- it inserts these rows, where there are any
abbrev pub PlansRows : List Tracked → List Tracked → Plan → Type 0
PlansRows rows before (plan.Answer a) = (rows ≡ []) × (a ≡ Done)
PlansRows rows before (plan.Turn hand of marked) = Inserts rows before hand of marked

-- unless the changelog has faults
abbrev pub Plans : List Fault → List Tracked → List Tracked → Plan → Type 0
Plans [] rows before p = PlansRows rows before p
Plans (fault ∷ more) rows before p = p ≡ plan.Answer (Invalid (fault ∷ more))

abbrev pub PlansFor : ℕ → List (Set AnyChange) → List Tracked → Plan → Type 0
PlansFor reading sets before p = Plans (faults sets before) (rows_to_sync reading sets before) before p

-- so on the rows that are seen
pub record PlansOn (d : Dialect) (reading : ℕ) (sets : List (Set AnyChange)) (seen : Catalogue) (p : Plan) : Type 0 where
  pub rows : List Tracked
  pub has : HasRows d seen rows
  pub plans : PlansFor reading sets rows p

abbrev pub verdict_of : Plan → Verdict
verdict_of (plan.Answer a) = verdict.Answer a
verdict_of (plan.Turn hand of marked) = verdict.Turns hand

-- how the command stands with its plan
abbrev pub planned : Plan → Syncing → Syncing
planned (plan.Answer a) it = record it { marked = [] }
planned (plan.Turn hand of marked) it = record it { stops_at = of; marked = marked }
