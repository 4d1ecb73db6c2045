-- Checks of a command on the rows of tracking.
use Rattle.std.specs.List.{list_all}
use Rattle.std.specs.Option.{option_or}
use Rattle.std.specs.Prelude.{Bool, Err, List, None, Ok, Option, Result, Some, [], false, option_and_then, reverse, true, ◌≡◌, ◌≢◌}
use Rattle.lq_back.specs.Reversal.{LeadsBack, goes_back, row_way}
use Rattle.lq_back.specs.declared.row_turns.RowTurns.{RowTurns}
use Rattle.lq_base.specs.declared.command.Command.TheVariants.{Rollback}
use Rattle.lq_base.specs.declared.dialect.Dialect.{Dialect}
use Rattle.lq_base.specs.declared.tracking.Tracked.{Tracked}
use Rattle.lq_hand.specs.Way.{Way}
use Rattle.lq_kinds.specs.ReadFor.{AreFor}
use Rattle.lq_any.specs.declared.any_change.AnyChange.{AnyChange}
use Rattle.lq_players.specs.Reports.{of_outcome}
use Rattle.lq_players.specs.Tasks.{answer_by, invalid, task_for, unaware, unreachable_by, work_of}
use Rattle.lq_players.specs.declared.rolling_back.RollingBack.{RollingBack}
use Rattle.lq_playing.specs.Answers.{came, is_failure, nothing}
use Rattle.lq_playing.specs.Checked.{Work}
use Rattle.lq_playing.specs.declared.came.Came.{Came}
use Rattle.lq_playing.specs.declared.came.Report.{Report}
use Rattle.lq_playing.specs.declared.checks.Verdict.{Verdict}
use Rattle.lq_playing.specs.declared.checks.Verdict.TheVariants as verdict
use Rattle.lq_run.specs.Steps.{no_turn}
use Rattle.lq_seen.specs.Telling.{Account, of_turns, stop_told}
use Rattle.lq_seen.specs.View.{any_meaning, view_log, views}
use Rattle.lq_turns.specs.Deed.{Contents}
use Rattle.lq_turns.specs.Rest.{NoMore, OfRows, Turns}
use Rattle.lq_turns.specs.Script.{rows_kept, rows_undone, undo_turns}
use Rattle.lq_turns.specs.declared.answer.Answer.{Answer}
use Rattle.lq_turns.specs.declared.answer.Answer.TheVariants.{Done}
use Rattle.lq_turns.specs.declared.stamp.Stamp.{Stamp}
use Rattle.lq_turns.specs.declared.stop.Refusal.{Refusal}
use Rattle.lq_turns.specs.declared.turn.Turn.{Turn}

-- the command is refused without a call, or there was no memory
abbrev pub IsRefusal : Verdict → Type 0
IsRefusal (verdict.Answer a) = is_failure a ≡ false
IsRefusal verdict.Lack = Unit {0}
IsRefusal (verdict.OneCall call) = ⊥
IsRefusal (verdict.Turns hand) = ⊥

-- for what it is to be refused
abbrev pub Refuses : Option Answer → Verdict → Type 0
Refuses refusal (verdict.Answer a) = refusal ≡ Some a
Refuses refusal verdict.Lack = Unit {0}
Refuses refusal (verdict.OneCall call) = ⊥
Refuses refusal (verdict.Turns hand) = ⊥

-- where no memory is asked for, a check answers just so
abbrev pub judged : Option Answer → Result (Unit {0}) Verdict
judged None = Ok tt
judged (Some refused) = Err (verdict.Answer refused)

-- so a check answers
abbrev pub Passes : {A : Type 0} → Option Answer → Result A Verdict → Type 0
Passes refusal (Ok a) = refusal ≡ None
Passes refusal (Err v) = Refuses refusal v

-- A rollback as a player: it waits for its checks, and then has its turns.

-- its turns, where it has any

abbrev pub turns_in : Option RowTurns → List Turn
turns_in None = []
turns_in (Some source) = reverse source.turns

abbrev pub turns_left : Option RowTurns → Turns AnyChange
turns_left None = NoMore
turns_left (Some source) = OfRows (reverse source.turns)

abbrev pub turns_way : Option RowTurns → Dialect → Stamp → Account → Way
turns_way None = λ d stamp told. unaware
turns_way (Some source) = row_way source

abbrev pub turns_end : Option RowTurns → Option Refusal → Answer
turns_end None refused = Done
turns_end (Some source) refused = answer_by (stop_told source.outcome refused)

abbrev pub turns_report : Option RowTurns → Report
turns_report None = nothing
turns_report (Some source) = of_outcome source.outcome

abbrev pub are_read : Option RowTurns → Dialect → Type 0
are_read None d = Unit {0}
are_read (Some source) d = list_all (goes_back d) (reverse source.turns) ≡ true

-- some turns of the dialect, of which none is told
pub record HasTurns (prints : Bool) (d : Dialect) (source : RowTurns) : Type 0 where
  pub some : reverse source.turns ≢ []
  pub read : list_all (goes_back d) (reverse source.turns) ≡ true
  pub knows : (c : Contents) → LeadsBack source d (of_turns prints d (reverse source.turns) c) c

abbrev pub AreNew : Bool → Dialect → Option RowTurns → Type 0
AreNew prints d None = Unit {0}
AreNew prints d (Some source) = HasTurns prints d source

-- without turns it is done; else none of them is in hand yet
abbrev pub ComesTo : Option RowTurns → Verdict → Type 0
ComesTo None v = v ≡ verdict.Answer Done
ComesTo (Some source) v = v ≡ verdict.Turns no_turn

abbrev pub back_job : RollingBack → Dialect → Stamp → Work
back_job s d stamp = work_of s.prints d (task_for (Rollback s.target) s.options s.changelog stamp)

abbrev pub back_way : RollingBack → Dialect → Stamp → Account → Way
back_way s = turns_way s.turns

abbrev pub back_reports : RollingBack → Report
back_reports s = turns_report s.turns

abbrev pub back_ends : RollingBack → Option Refusal → Came
back_ends s refused = came (back_reports s) (turns_end s.turns refused)

-- its options, its changelog and its turns are of the dialect
pub record IsRead (s : RollingBack) (d : Dialect) : Type 0 where
  pub options : s.options.dialect ≡ d
  pub changelog : AreFor d s.changelog
  pub turns : are_read s.turns d

module _ (s : RollingBack) (d : Dialect) (rows : List Tracked) where
  -- what it is refused for on these rows
  abbrev pub back_refusal : Option Answer
  back_refusal = option_or (invalid (view_log s.options s.changelog) rows) (unreachable_by d (view_log s.options s.changelog) (rows_kept s.target rows) rows)

  -- the turns that take back those that do not stay
  abbrev pub back_turns : Option (List Turn)
  back_turns = option_and_then (λ stay. undo_turns d any_meaning (views s.options s.changelog.sets) (rows_undone stay rows)) (rows_kept s.target rows)

  -- it is not refused, and has these turns
  pub record IsPlanned (turns : Option RowTurns) : Type 0 where
    pub passes : back_refusal ≡ None
    pub turns_are : back_turns ≡ Some (turns_in turns)

  abbrev pub Plans : Result (Option RowTurns) Verdict → Type 0
  Plans (Ok turns) = IsPlanned turns
  Plans (Err v) = Refuses back_refusal v
