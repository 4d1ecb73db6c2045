-- What a session's call or step leaves to the other sessions, and what it has open then, whatever the store stands for.
use Rattle.std.specs.Option.{option_map}
use Rattle.std.specs.Prelude.{Bool, Err, List, None, Ok, Option, Result, false, is_some, nat_eq, not, true, ℕ, ◌++◌, ◌≡◌}
use Rattle.lq_base.specs.declared.dialect.Dialect.{Dialect}
use Rattle.lq_hand.specs.Hand.{AreTurns, calls_left, opens}
use Rattle.lq_hand.specs.declared.hand.Hand.{Hand}
use Rattle.lq_hand.specs.declared.hand.Phase.{Phase}
use Rattle.lq_hand.specs.declared.hand.Phase.TheVariants as phase
use Rattle.lq_model.specs.declared.fault.StoreFault.{StoreFault}
use Rattle.lq_run.specs.Steps.{is_disk}
use Rattle.lq_run.specs.declared.hand.Moved.{Moved}
use Rattle.lq_run.specs.declared.hand.Moved.TheVariants as moved
use Rattle.lq_run.specs.declared.runner.End.{End}
use Rattle.lq_run.specs.declared.runner.End.TheVariants as end
use Rattle.lq_run.specs.declared.runner.Step.{Step}
use Rattle.lq_run.specs.declared.runner.Step.TheVariants as step
use Rattle.lq_store.specs.Journal.{Entry, State, is_open, other}
use Rattle.lq_turns.specs.declared.call.Call.{Call}

-- the disk failed
abbrev pub is_disk_result : {T : Type 0} → Result T StoreFault → Bool
is_disk_result (Ok x) = false
is_disk_result (Err why) = is_disk why

-- The store lives unless the disk failed, and keeps its dialect and its limit. The journal's entries stay, with others behind them, and other sessions have open what they had.
pub record Beside (session : ℕ) (failed : Bool) (x y : State) : Type 0 where
  pub live : y.live ≡ not failed
  pub dialect : y.dialect ≡ x.dialect
  pub limit : y.limit ≡ x.limit
  pub more : List Entry
  pub entries : y.entries ≡ option_map (λ entries. entries ++ more) x.entries
  pub others : y.live ≡ true → (other : ℕ) → nat_eq session other ≡ false → is_open other y.begun ≡ is_open other x.begun

-- whether the session has a transaction open after a call of its turn: one that fails leaves it open
abbrev pub open_after : Moved → Call → Bool
open_after moved.On call = opens call
open_after (moved.Refused reason) call = true
open_after (moved.Failed fault) call = true
open_after moved.Lack call = true

-- what the turn in hand asks of the session: a transaction, or none

abbrev pub Asks : Dialect → Phase → List Call → Bool → Type 0
Asks d phase.Inside calls opened = AreTurns d opened calls
Asks d phase.GivingUp calls opened = opened ≡ true
Asks d phase.Over calls opened = opened ≡ false

-- after its next call
abbrev pub AsksNext : Dialect → Moved → Hand → Bool → Type 0
AsksNext d moved.On hand opened = AreTurns d opened (calls_left hand)
AsksNext d (moved.Refused reason) hand opened = opened ≡ true
AsksNext d (moved.Failed fault) hand opened = opened ≡ true
AsksNext d moved.Lack hand opened = opened ≡ true

-- where no other session had a transaction open, and the store lives, the session has open what its hand asks for
abbrev pub IsSet : Dialect → ℕ → Hand → State → State → Type 0
IsSet d session hand x y = other session x ≡ None → y.live ≡ true → Asks d hand.phase (calls_left hand) (is_open session y.begun)

-- Which answers tell of a disk fault.

abbrev pub is_disk_move : Moved → Bool
is_disk_move moved.On = false
is_disk_move (moved.Refused reason) = false
is_disk_move (moved.Failed fault) = is_disk fault
is_disk_move moved.Lack = false

abbrev pub is_disk_end : End → Bool
is_disk_end end.Done = false
is_disk_end (end.Refused refusal) = false
is_disk_end (end.Locked lock) = false
is_disk_end end.Disk = true
is_disk_end (end.Full used next) = false
is_disk_end end.OutOfMemory = false

abbrev pub is_disk_step : Step → Bool
is_disk_step step.Going = false
is_disk_step (step.Ended e) = is_disk_end e

-- with a fault a command does not come to its end, and that its lock is gone was no fault of this step
abbrev pub StopsAs : Option StoreFault → Step → Type 0
StopsAs before step.Going = Unit {0}
StopsAs before (step.Ended end.Done) = ⊥
StopsAs before (step.Ended (end.Refused refusal)) = ⊥
StopsAs before (step.Ended (end.Locked lock)) = is_some before ≡ true
StopsAs before (step.Ended e) = Unit {0}
