-- What a command answers at its end, by what the source of its turns has noted.
use Rattle.std.specs.List.{All}
use Rattle.std.specs.Option.{option_or}
use Rattle.std.specs.Prelude.{Bool, Err, IfSome, List, None, Ok, Option, Result, Some, [], false, true, ℕ, ◌++◌, ◌≡◌, ◌≤◌}
use Rattle.lq_base.specs.declared.command.Command.TheVariants as command
use Rattle.lq_base.specs.declared.dialect.Dialect.{Dialect}
use Rattle.lq_base.specs.declared.identity.Identity.{Identity}
use Rattle.lq_base.specs.declared.run.Why.{Why}
use Rattle.lq_base.specs.declared.tracking.Tracked.{Tracked}
use Rattle.lq_beside.specs.Replays.{HasTexts}
use Rattle.lq_hand.specs.Way.{Way}
use Rattle.lq_kinds.specs.ReadFor.{AreFor}
use Rattle.lq_any.specs.declared.any_change.AnyChange.{AnyChange}
use Rattle.lq_model.specs.Catalogue.{Catalogue}
use Rattle.lq_players.specs.Reports.{of_outcome, own_warned}
use Rattle.lq_players.specs.RollingBack.{Refuses}
use Rattle.lq_players.specs.Tasks.{answer_by, invalid, own_halt, task_for, unaware, work_of}
use Rattle.lq_players.specs.declared.update_checks.Asked.{Asked}
use Rattle.lq_players.specs.declared.update_checks.Planned.{Planned}
use Rattle.lq_players.specs.declared.update_checks.Planned.TheVariants as planned
use Rattle.lq_players.specs.declared.updating.Updating.{Updating}
use Rattle.lq_playing.specs.Answers.{came, nothing}
use Rattle.lq_playing.specs.Checked.{Work}
use Rattle.lq_playing.specs.declared.came.Came.{Came}
use Rattle.lq_playing.specs.declared.came.Report.{Report}
use Rattle.lq_playing.specs.declared.checks.Verdict.{Verdict}
use Rattle.lq_playing.specs.declared.checks.Verdict.TheVariants as verdict
use Rattle.lq_run.specs.Steps.{no_turn}
use Rattle.lq_seen.specs.Telling.{Account, of_sets, stop_told}
use Rattle.lq_seen.specs.View.{view_log}
use Rattle.lq_seen.specs.declared.outcome.Halt.{Halt}
use Rattle.lq_seen.specs.declared.outcome.Outcome.{Outcome}
use Rattle.lq_sets.specs.SetTurns.{IsReadFor, Knows, set_way, sets_left}
use Rattle.lq_sets.specs.declared.set_turns.SetTurns.{SetTurns}
use Rattle.lq_track.specs.Database.{Database, has_twin_rows}
use Rattle.lq_turns.specs.Deed.{Contents, contents_of}
use Rattle.lq_turns.specs.Faults.{faults}
use Rattle.lq_turns.specs.Jobs.{Task}
use Rattle.lq_turns.specs.Rest.{NoMore, OfSets, Turns}
use Rattle.lq_turns.specs.Schedule.{StandsFor}
use Rattle.lq_turns.specs.Script.{has_work}
use Rattle.lq_turns.specs.Set.{Changelog as Log, Set}
use Rattle.lq_turns.specs.Settle.{greatest, is_halt, own_choice}
use Rattle.lq_turns.specs.declared.answer.Answer.{Answer}
use Rattle.lq_turns.specs.declared.answer.Answer.TheVariants as answer
use Rattle.lq_turns.specs.declared.answer.Answer.TheVariants.{Done}
use Rattle.lq_turns.specs.declared.choice.Choice.{Choice}
use Rattle.lq_turns.specs.declared.stamp.Stamp.{Stamp}
use Rattle.lq_turns.specs.declared.stop.Refusal.{Refusal}

abbrev pub halt_answer : Option Halt → Answer
halt_answer None = answer.Done
halt_answer (Some halt) = answer.Halted halt.identity halt.why

abbrev pub refusal_answer : Refusal → Option Identity → Answer
refusal_answer refusal None = answer.Done
refusal_answer refusal (Some of) = answer.Refused of refusal.statement refusal.kept refusal.reason

-- what stopped it is its answer
abbrev pub end_answer : Outcome → Option Refusal → Answer
end_answer o refused = answer_by (stop_told o refused)

-- What the checks of an update come to.

abbrev pub task_of : Asked → Stamp → Task AnyChange
task_of a stamp = task_for command.Update a.options a.changelog stamp

-- the changelog as the command sees it
abbrev pub log_of : Asked → Log AnyChange
log_of a = view_log a.options a.changelog

-- its changelog was read for the dialect, and the texts of its rows go into the columns
pub record IsAskedFor (a : Asked) (d : Dialect) : Type 0 where
  pub dialect : a.options.dialect ≡ d
  pub read : AreFor d a.changelog
  pub texts : All HasTexts (log_of a).sets

-- no two rows have one identity or one place, and the last place has 31 bits
pub record ArePlaced (rows : List Tracked) : Type 0 where
  pub apart : has_twin_rows rows ≡ false
  pub small : greatest rows ≤ 2147483647

-- the changesets have turns on these rows
pub record HaveTurns (xs : List (Set AnyChange)) (rows : List Tracked) : Type 0 where
  pub faultless : faults xs rows ≡ []
  pub some : has_work xs rows ≡ true
  pub placed : ArePlaced rows

-- what it is refused for on its database
abbrev pub update_refusal : Asked → Database → Option Answer
update_refusal a database = option_or (invalid (log_of a) database.rows) (own_halt (log_of a) database)

-- the changelog's own precondition comes to this, and lets it go on
abbrev pub IsOwn : Asked → Database → Choice → Type 0
IsOwn a database own = (own ≡ own_choice (log_of a) (contents_of database)) × (is_halt own ≡ false)

-- it warns so
abbrev pub warning : List (Option Identity × Why) → Report
warning warned = record nothing { warned = warned }

abbrev pub with_warned : List (Option Identity × Why) → SetTurns → SetTurns
with_warned warned s = record s { outcome = record (s.outcome) { warned = warned } }

-- what its changesets settle, and what is printed of them, where it warns so first
abbrev pub account_of : Bool → List (Option Identity × Why) → Dialect → ℕ → List (Set AnyChange) → Contents → Account
account_of prints warned d reading xs c = record (of_sets prints d reading xs c) { settled = record ((of_sets prints d reading xs c).settled) { warned = warned ++ (of_sets prints d reading xs c).settled.warned } }

-- it has the turns of the changelog on these rows
pub record HasTurns (a : Asked) (rows : List Tracked) (own : Choice) (source : SetTurns) : Type 0 where
  pub left : sets_left source ≡ (log_of a).sets
  pub knows : (e : Dialect) (stamp : Stamp) (c : Contents) → c.rows ≡ rows → greatest rows ≤ 2147483647 → Knows source e stamp (account_of a.prints (own_warned own) e stamp.reading (log_of a).sets c) c

abbrev pub HasPlanned : Asked → List Tracked → Choice → Planned → Type 0
HasPlanned a rows own (planned.Turns source) = HasTurns a rows own source
HasPlanned a rows own (planned.Idle report) = ⊥

-- so it has, where a changeset has a turn; or it warns of the precondition alone
abbrev pub PlansOn : Asked → List Tracked → Choice → Planned → Type 0
PlansOn a rows own (planned.Turns source) = HaveTurns (log_of a).sets rows × HasTurns a rows own source
PlansOn a rows own (planned.Idle report) = (has_work (log_of a).sets rows ≡ false) × (report ≡ warning (own_warned own))

-- its turns are for the dialect
abbrev pub IsPlanFor : Dialect → Planned → Type 0
IsPlanFor d (planned.Turns source) = IsReadFor source d
IsPlanFor d (planned.Idle report) = Unit {0}

-- on what is seen
pub record IsPlanned (d : Dialect) (a : Asked) (seen : Catalogue) (p : Planned) : Type 0 where
  pub rows : List Tracked
  pub own : Choice
  pub faultless : faults (log_of a).sets rows ≡ []
  pub plans : PlansOn a rows own p
  pub on : (database : Database) → StandsFor d seen database → (database.rows ≡ rows) × IsOwn a database own

-- it passes its checks, and does so; or it is refused
abbrev pub Plans : Dialect → Asked → Catalogue → Result Planned Verdict → Type 0
Plans d a seen (Ok p) = IsPlanned d a seen p
Plans d a seen (Err v) = (database : Database) → StandsFor d seen database → Refuses (update_refusal a database) v

-- An update as a player takes it.

-- before its checks, what it was asked for; after them nothing
abbrev pub job_by : Dialect → Stamp → Option Asked → Work
job_by d stamp (Some a) = work_of a.prints d (task_of a stamp)
job_by d stamp None = record { needs_lock = true; refuses = λ database. None; script = λ database. []; answer = λ database. came nothing Done }

abbrev pub update_job : Updating → Dialect → Stamp → Work
update_job u d stamp = job_by d stamp u.asked

-- the turns to come
abbrev pub left_in : Option SetTurns → Turns AnyChange
left_in None = NoMore
left_in (Some s) = OfSets (sets_left s)

abbrev pub update_left : Updating → Turns AnyChange
update_left u = left_in u.turns

abbrev pub way_in : Option SetTurns → Dialect → Stamp → Account → Way
way_in None d stamp told = unaware
way_in (Some s) d stamp told = set_way s d stamp told

abbrev pub update_way : Updating → Dialect → Stamp → Account → Way
update_way u d stamp told = way_in u.turns d stamp told

-- what stopped its turns is its answer
abbrev pub ends_in : Option SetTurns → Option Refusal → Answer
ends_in None refused = Done
ends_in (Some s) refused = end_answer s.outcome refused

-- what these did, or what it did without turns
abbrev pub report_in : Option SetTurns → Report → Report
report_in None report = report
report_in (Some s) report = of_outcome s.outcome

abbrev pub update_reports : Updating → Report
update_reports u = report_in u.turns u.report

abbrev pub update_ends : Updating → Option Refusal → Came
update_ends u refused = came (update_reports u) (ends_in u.turns refused)

-- what it was asked for, or its turns, are for the dialect
pub record IsUpdateFor (u : Updating) (d : Dialect) : Type 0 where
  pub asked : IfSome u.asked (λ a. IsAskedFor a d)
  pub turns : IfSome u.turns (λ s. IsReadFor s d)

-- it has taken these turns, and none of them is in hand; or it has done this, and is done
abbrev pub Follows : Planned → Updating → Updating → Verdict → Type 0
Follows (planned.Turns source) before after v = (after ≡ record before { turns = Some source }) × (v ≡ verdict.Turns no_turn)
Follows (planned.Idle report) before after v = (after ≡ record before { turns = None; report = report }) × (v ≡ verdict.Answer Done)

-- or it stays as it is, and answers so
abbrev pub TakesTurns : Result Planned Verdict → Updating → Updating → Verdict → Type 0
TakesTurns (Ok p) before after v = Follows p before after v
TakesTurns (Err refusal) before after v = (after ≡ before) × (v ≡ refusal)
