-- Calls that are made one after another, without turns behind them.
use Rattle.std.specs.Prelude.{Err, List, None, Ok, Option, Result, Some, [], length, reverse, suc, true, ℕ, ◌++◌, ◌∷◌, ◌≡◌}
use Rattle.lq_base.specs.declared.dialect.Dialect.{Dialect}
use Rattle.lq_base.specs.declared.reason.Reason.{Reason}
use Rattle.lq_hand.specs.Hand.{calls_left, place_of}
use Rattle.lq_hand.specs.declared.hand.Hand.{Hand}
use Rattle.lq_hand.specs.declared.hand.Phase.TheVariants as phase
use Rattle.lq_mending.specs.declared.all.Made.{Made}
use Rattle.lq_mending.specs.declared.all.Made.TheVariants as made
use Rattle.lq_model.specs.Catalogue.{Catalogue}
use Rattle.lq_model.specs.Step.{step}
use Rattle.lq_model.specs.declared.caller.By.TheVariants.{User}
use Rattle.lq_model.specs.declared.caller.Room.TheVariants.{Ordinary}
use Rattle.lq_model.specs.declared.fault.StoreFault.{StoreFault}
use Rattle.lq_model.specs.declared.fault.StoreFault.TheVariants as fault
use Rattle.lq_model.specs.declared.statement.Statement.{Statement}
use Rattle.lq_reverse.specs.Back.{back}
use Rattle.lq_run.specs.Ends.{CameFrom}
use Rattle.lq_run.specs.Moves.{IsAt, Meets, TakesAs}
use Rattle.lq_run.specs.Stands.{entries_of, no_changes}
use Rattle.lq_run.specs.declared.hand.Moved.TheVariants as moved
use Rattle.lq_store.specs.Journal.{Crashes, CrashesLeave, Entry, State}
use Rattle.lq_turns.specs.Deed.{Contents, contents_after, contents_of}
use Rattle.lq_turns.specs.Rest.{NoMore, both_of}
use Rattle.lq_turns.specs.Session.{Session, all_called, went}
use Rattle.lq_turns.specs.Stops.{Journal}
use Rattle.lq_turns.specs.Turn.{made as made_by}
use Rattle.lq_turns.specs.declared.call.Call.{Call}
use Rattle.lq_turns.specs.declared.call.Call.TheVariants.{Execute}
use Rattle.lq_turns.specs.declared.stamp.Stamp.{Stamp}
use Rattle.lq_turns.specs.declared.stop.Refusal.{Refusal}

-- the session after these calls and those behind them, of which a refusal cuts off the rest
abbrev pub at_end : Dialect → List Call → List Call → Session → Session
at_end d calls tail s = all_called d (made_by d (calls ++ tail) (contents_of s.seen)) s

abbrev pub reason_by : (Contents → Option Reason) → Result Contents Reason → Option Reason
reason_by more (Ok now) = more now
reason_by more (Err reason) = Some reason

-- why the first of these calls that is refused is so
abbrev pub first_reason : Dialect → List Call → Contents → Option Reason
first_reason d [] c = None
first_reason d (Execute deed ∷ calls) c = reason_by (first_reason d calls) (contents_after d deed c)
first_reason d (call ∷ calls) c = first_reason d calls c

-- the store stands for a session that has these calls to make
abbrev pub At : Dialect → Stamp → ℕ → Hand → State → State → Session → Type 0
At d stamp number hand x start s = IsAt d no_changes stamp number (place_of hand NoMore) x start s

pub record Comes (d : Dialect) (number : ℕ) (hand : Hand) (x : State) : Type 0 where
  pub stamp : Stamp
  pub start : State
  pub session : Session
  pub at : At d stamp number hand x start session

-- The first of the calls were accepted one by one, and these are left; so it is whatever comes behind them.
pub record AreMade (d : Dialect) (calls left : List Call) (s t : Session) : Type 0 where
  pub ends : (tail : List Call) → at_end d calls tail s ≡ at_end d left tail t
  pub leads : went d calls (both_of s) ≡ went d left (both_of t)
  pub reason : first_reason d calls (contents_of s.seen) ≡ first_reason d left (contents_of t.seen)
  pub came : CameFrom d s t

-- how far they have come
pub record Reached (d : Dialect) (stamp : Stamp) (number : ℕ) (start : State) (s : Session) (calls : List Call)
    (hand : Hand) (x : State) : Type 0 where
  pub session : Session
  pub inside : hand.phase ≡ phase.Inside
  pub at : At d stamp number hand x start session
  pub are_made : AreMade d calls (calls_left hand) s session

abbrev pub made_of : StoreFault → Made
made_of fault.Disk = made.Disk
made_of (fault.Full used next) = made.Full used next
made_of fault.OutOfMemory = made.OutOfMemory
made_of (fault.Busy n) = made.OutOfMemory
made_of fault.NotSql = made.OutOfMemory
made_of (fault.Refused reason) = made.OutOfMemory

-- all were made; or the next one was refused, or met a fault, and the transaction is open
abbrev pub EndsAs : Dialect → Stamp → ℕ → State → Hand → State → Session → Made → Hand → State → Type 0
EndsAs d stamp number start hand x t made.All new y = (calls_left hand ≡ []) × (y ≡ x)
EndsAs d stamp number start hand x t (made.Refused reason) new y =
    TakesAs d no_changes stamp number hand NoMore start t x (moved.Refused reason) new y
    × (new.phase ≡ phase.GivingUp)
EndsAs d stamp number start hand x t made.Disk new y =
    Meets d no_changes stamp number (place_of hand NoMore) start t x Ordinary fault.Disk y
EndsAs d stamp number start hand x t (made.Full used next) new y =
    Meets d no_changes stamp number (place_of hand NoMore) start t x Ordinary (fault.Full used next) y
    × (t.is_open ≡ true)
EndsAs d stamp number start hand x t made.OutOfMemory new y = (y ≡ x) × (t.is_open ≡ true)

abbrev pub Ends : Dialect → ℕ → Hand → State → Made → Hand → State → Type 0
Ends d number hand x result new y = (stamp : Stamp) (start : State) (s : Session) → At d stamp number hand x start s
    → (last : Hand) × (z : State) × (so : Reached d stamp number start s (calls_left hand) last z)
    × EndsAs d stamp number start last z so.session result new y

-- the entries that were there, and a front of those of a session
pub record LeftOf (d : Dialect) (last : Session) (there left : List Entry) : Type 0 where
  pub written : Journal
  pub more : Journal
  pub entries : last.entries ≡ written ++ more
  pub is : left ≡ there ++ entries_of d written

-- at each moment of the calls a crash leaves a front of the entries of all of them, whatever comes behind them
abbrev pub CrashesAll : Dialect → ℕ → Hand → State → Crashes → Crashes → Type 0
CrashesAll d number hand x before now =
    (stamp : Stamp) (start : State) (s : Session) (tail : List Call) → At d stamp number hand x start s
    → CrashesLeave start.entries (LeftOf d (at_end d (calls_left hand) tail s)) before now

-- Which of the statements that take others back is refused.

-- the statement of this number is not taken back, and so many stand still
abbrev pub refusal_of : ℕ → Reason → Refusal
refusal_of number reason = record { statement = number; kept = number; reason = reason }

abbrev pub refused_by : (Catalogue → Option Refusal) → ℕ → Result (Catalogue × ℕ) Reason → Option Refusal
refused_by more number (Ok ran) = more ran.0
refused_by more number (Err reason) = Some (refusal_of number reason)

-- what takes a statement back is refused, or something behind it is; what nothing takes back is passed over
abbrev pub refused_from : Dialect → (Catalogue → Option Refusal) → ℕ → Option Statement → Catalogue → Option Refusal
refused_from d more number None c = more c
refused_from d more number (Some undoing) c = refused_by more number (step User d undoing c)

-- statements that are taken back, each with those before it, as far as that is accepted
abbrev pub refused_in : Dialect → List Statement → Catalogue → Option Refusal
refused_in d [] c = None
refused_in d (s ∷ before) c = refused_from d (refused_in d before) (suc (length before)) (back d s) c

-- the first refusal where these are taken back, the last one first
abbrev pub back_refused : Dialect → List Statement → Catalogue → Option Refusal
back_refused d statements c = refused_in d (reverse statements) c
