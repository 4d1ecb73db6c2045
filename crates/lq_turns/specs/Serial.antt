-- Several runners give what their commands give one after another.
use Rattle.std.specs.List.{list_any}
use Rattle.std.specs.Prelude.{Bool, List, None, Ok, Option, Some, [], false, if◌then◌else◌, is_none, is_some, nat_eq, not, true, ℕ, ◌&&◌, ◌++◌, ◌∷◌, ◌≡◌, ◌⊎◌}
use Rattle.lq_base.specs.declared.dialect.Dialect.{Dialect}
use Rattle.lq_base.specs.declared.tracking.Lock.{Lock}
use Rattle.lq_track.specs.Database.{Database}
use Rattle.lq_turns.specs.Deed.{all_done}
use Rattle.lq_turns.specs.Schedule.{Holder, Job, Machine, all_moved, has_answered, has_begun, moved, start}
use Rattle.lq_turns.specs.Session.{all_called, left_by, session_on}
use Rattle.lq_turns.specs.Stops.{joined}
use Rattle.lq_turns.specs.declared.call.Call.{Call}

module _ (Answer : Type 0) (locked : Lock → Answer) (busy : ℕ → Answer) (d : Dialect) (jobs : ℕ → Job Answer locked busy) where
  -- commands one after another, each with the script that it takes from the database that the one before left
  abbrev pub serial : List ℕ → Database → Database
  serial [] database = database
  serial (n ∷ ns) database = serial ns (left_by d ((jobs n).script database) database)

  -- the runner that has a transaction open
  abbrev pub open_by : Option (Holder Answer locked busy) → Option ℕ
  open_by None = None
  open_by (Some h) = if h.session.is_open then Some h.runner else None

  abbrev pub unless_called : List Call → Answer → Option Answer
  unless_called [] answer = Some answer
  unless_called (call ∷ calls) answer = None

  abbrev pub unless_refused : Option Answer → Option Answer → Option Answer
  unless_refused (Some answer) other = Some answer
  unless_refused None other = other

  abbrev pub unless_open : Option ℕ → Option Answer → Option Answer
  unless_open (Some runner) other = Some (busy runner)
  unless_open None other = other

  -- What a runner answers at its first step, where it makes no call: Locked where its command needs the lock and it is held, else Busy where a transaction is open, else what its command answers on the committed database.
  abbrev pub at_once : ℕ → Machine Answer locked busy → Option Answer
  at_once n x =
      if (jobs n).needs_lock && x.committed.lock.locked
      then Some (locked x.committed.lock)
      else unless_open (open_by x.holder) (unless_refused ((jobs n).refuses x.committed) (unless_called ((jobs n).script x.committed) ((jobs n).answer x.committed)))

  -- at this step it begins, and makes a call
  abbrev pub makes_first : ℕ → Machine Answer locked busy → Bool
  makes_first n x = not (has_answered Answer locked busy n x) && (not (has_begun Answer locked busy n x) && is_none (at_once n x))

  -- though another still runs
  abbrev pub is_early : ℕ → Machine Answer locked busy → Bool
  is_early n x = makes_first n x && is_some x.holder

  abbrev pub if_first : ℕ → Machine Answer locked busy → List ℕ
  if_first n x = if makes_first n x then n ∷ [] else []

  -- the runners in the order of their first calls
  abbrev pub order_of : List ℕ → Machine Answer locked busy → List ℕ
  order_of [] x = []
  order_of (n ∷ ns) x = if_first n x ++ order_of ns (moved Answer locked busy d jobs n x)

  abbrev pub none_early : List ℕ → Machine Answer locked busy → Bool
  none_early [] x = true
  none_early (n ∷ ns) x = not (is_early n x) && none_early ns (moved Answer locked busy d jobs n x)

  -- the runner that is under way made the first calls of the script that it took from what the others before it left
  pub record IsUnderWay (database : Database) (order : List ℕ) (h : Holder Answer locked busy) (committed : Database) : Type 0 where
    pub before : List ℕ
    pub order_is : order ≡ before ++ h.runner ∷ []
    pub made : List Call
    pub script : (jobs h.runner).script (serial before database) ≡ made ++ h.rest
    pub session : h.session ≡ all_called d made (session_on (serial before database))
    pub committed_is : committed ≡ h.session.committed
    pub answer : h.answer ≡ (jobs h.runner).answer (serial before database)
    -- at least one call was made, and one is to come
    pub first : (call : Call) × (more : List Call) × (made ≡ call ∷ more)
    pub comes : (call : Call) × (more : List Call) × (h.rest ≡ call ∷ more)

  -- the database is that of the serial run, of which the last may be under way
  abbrev pub Stands : Database → List ℕ → Option (Holder Answer locked busy) → Database → Type 0
  Stands database order None committed = committed ≡ serial order database
  Stands database order (Some h) committed = IsUnderWay database order h committed

  -- an answer of the serial run
  pub record IsSerialAnswer (database : Database) (order : List ℕ) (n : ℕ) (answer : Answer) : Type 0 where
    pub before : List ℕ
    pub after : List ℕ
    pub order_is : order ≡ before ++ n ∷ after
    pub is : answer ≡ (jobs n).answer (serial before database)

  -- an answer at a first step of the schedule
  pub record IsAtOnce (database : Database) (schedule : List ℕ) (n : ℕ) (answer : Answer) : Type 0 where
    pub before : List ℕ
    pub after : List ℕ
    pub schedule_is : schedule ≡ before ++ n ∷ after
    pub is : at_once n (all_moved Answer locked busy d jobs before (start Answer locked busy database)) ≡ Some answer

  -- one that made a call gave the answer of the serial run, and any other answered at once
  abbrev pub Gave : Database → List ℕ → List ℕ → ℕ → Answer → Type 0
  Gave database order schedule n answer = IsSerialAnswer database order n answer ⊎ ((list_any (nat_eq n) order ≡ false) × IsAtOnce database schedule n answer)

  pub record IsSerial (database : Database) (schedule : List ℕ) (x : Machine Answer locked busy) : Type 0 where
    -- the runners that made a call, in the order of their first ones
    pub order : List ℕ
    pub ordered : order ≡ order_of schedule (start Answer locked busy database)
    pub stands : Stands database order x.holder x.committed
    pub answers : (n : ℕ) (answer : Answer) (newer older : List (ℕ × Answer)) → x.answers ≡ newer ++ (n, answer) ∷ older → Gave database order schedule n answer

-- Where no runner makes its first call while another still runs, the database of a schedule is the one that the commands give one after another, in the order of their first calls, the last perhaps under way.
-- Each answer is that of the serial run, or the one that a runner gives at once, at its first step and without a call.
abbrev pub SchedulesAreSerial : Type 0 → Type 0
SchedulesAreSerial Answer = (locked : Lock → Answer) (busy : ℕ → Answer) (d : Dialect) (jobs : ℕ → Job Answer locked busy) (database : Database) (schedule : List ℕ)
    → none_early Answer locked busy d jobs schedule (start Answer locked busy database) ≡ true
    → IsSerial Answer locked busy d jobs database schedule (all_moved Answer locked busy d jobs schedule (start Answer locked busy database))

-- The entries that the calls of any schedule append lead from the database before to the committed one.
abbrev pub SchedulesLead : Type 0 → Type 0
SchedulesLead Answer = (locked : Lock → Answer) (busy : ℕ → Answer) (d : Dialect) (jobs : ℕ → Job Answer locked busy) (database : Database) (schedule : List ℕ)
    → all_done d (joined (all_moved Answer locked busy d jobs schedule (start Answer locked busy database)).entries) database ≡ Ok (all_moved Answer locked busy d jobs schedule (start Answer locked busy database)).committed
