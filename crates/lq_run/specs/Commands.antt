-- A command from the call that takes the lock to the one that frees it.
use Rattle.std.specs.Option.{option_map}
use Rattle.std.specs.Prelude.{List, None, false, map, true, ℕ, ◌++◌, ◌+◌, ◌∷◌, ◌≡◌}
use Rattle.lq_base.specs.declared.dialect.Dialect.{Dialect}
use Rattle.lq_beside.specs.Replays.{calls_fit}
use Rattle.lq_hand.specs.Hand.{AreTurns, calls_left}
use Rattle.lq_hand.specs.Way.{Way}
use Rattle.lq_hand.specs.declared.hand.Phase.TheVariants as phase
use Rattle.lq_model.specs.declared.caller.Room.TheVariants.{Ordinary}
use Rattle.lq_run.specs.Ends.{AllHoldOn, EndsAs}
use Rattle.lq_run.specs.Stands.{HadRoom, Stands, entries_of}
use Rattle.lq_run.specs.Steps.{KnownIn, Standing, TellsTo, place}
use Rattle.lq_run.specs.declared.runner.End.{End}
use Rattle.lq_run.specs.declared.runner.End.TheVariants as end
use Rattle.lq_store.specs.Journal.{State, size_of_all}
use Rattle.lq_track.specs.Database.{Database}
use Rattle.lq_turns.specs.Deed.{contents_of}
use Rattle.lq_turns.specs.Rest.{Place, rest}
use Rattle.lq_turns.specs.Schedule.{StandsFor}
use Rattle.lq_turns.specs.Script.{opening}
use Rattle.lq_turns.specs.Session.{Both, Session, all_called, left_by, session_on}
use Rattle.lq_turns.specs.Set.{Meaning}
use Rattle.lq_turns.specs.declared.call.Call.{Call}
use Rattle.lq_turns.specs.declared.call.Call.TheVariants.{Alone}
use Rattle.lq_turns.specs.declared.deed.Deed.TheVariants.{Locks}
use Rattle.lq_turns.specs.declared.stamp.Stamp.{Stamp}

-- the contents that are committed, which are seen as well
abbrev pub both_on : Database → Both
both_on database = (contents_of database, contents_of database)

module _ {Key : Type 0} (d : Dialect) (m : Meaning Key) (stamp : Stamp) where
  -- a command's calls on a database: it takes the lock, and makes those of its place
  abbrev pub script : Place Key → Database → List Call
  script p database = Alone (map Locks (opening stamp database)) Ordinary ∷ rest d m stamp p (both_on database)

  -- it has made no call, and met no fault and no refusal; the calls in hand are a turn's, which leave it the lock
  pub record IsNew {Told : Type 0} (r : Standing Key Told) : Type 0 where
    pub inside : r.hand.phase ≡ phase.Inside
    pub turn : AreTurns d false (calls_left r.hand)
    pub holds : AllHoldOn stamp.who (calls_left r.hand)
    pub fault : r.fault ≡ None
    pub refused : r.refused ≡ None

  -- its source knows the contents of the database, on its way to having told so much
  abbrev pub KnowsContents : {Told : Type 0} → Standing Key Told → Database → Told → Type 0
  KnowsContents r database told = KnownIn d (r.way d stamp told) r.hand.goes_on (calls_left r.hand) r.progress (both_on database)

  module _ {Told : Type 0} (number : ℕ) where
    -- The store stands for a session without a transaction, the contents are known, and the deeds of its calls fit.
    pub record MayRun (r : Standing Key Told) (x start : State) (s : Session) (told : Told) : Type 0 where
      pub dialect : start.dialect ≡ d
      pub stands : Stands start number x s
      pub shut : s.is_open ≡ false
      pub known : KnowsContents r s.committed told
      pub fits : calls_fit d (script (place r) s.committed) s ≡ true

    -- it may for some session
    pub record SomeMayRun (r : Standing Key Told) (x : State) : Type 0 where
      pub start : State
      pub session : Session
      pub told : Told
      pub is : MayRun r x start session told

    -- for every session for which it may run
    abbrev pub RunsWhole : Standing Key Told → State → End → State → Type 0
    RunsWhole r x e y = (start : State) (s : Session) (told : Told) → MayRun r x start s told → EndsAs d m stamp number start s (all_called d (script (place r) s.committed) s) false None e y

-- The same in words of databases.

-- no transaction is open, and what is committed stands for the database
pub record HasDatabase (d : Dialect) (x : State) (database : Database) : Type 0 where
  pub dialect : x.dialect ≡ d
  pub live : x.live ≡ true
  pub shut : x.begun ≡ None
  pub committed : StandsFor d x.committed database

-- the calls' database is there, and behind the entries that were there stand those of the calls, for each of which there was room
pub record Leaves (d : Dialect) (calls : List Call) (database : Database) (x y : State) : Type 0 where
  pub database_is : HasDatabase d y (left_by d calls database)
  pub limit : y.limit ≡ x.limit
  pub entries : y.entries ≡ option_map (λ entries. entries ++ entries_of d (all_called d calls (session_on database)).entries) x.entries
  pub used : y.used ≡ x.used + size_of_all (entries_of d (all_called d calls (session_on database)).entries)
  pub room : HadRoom d x.limit x.used (all_called d calls (session_on database)).entries

-- so a command ends that met no fault
abbrev pub LeavesAs : Dialect → List Call → Database → State → End → State → Type 0
LeavesAs d calls database x end.Done y = Leaves d calls database x y
LeavesAs d calls database x (end.Refused refusal) y = Leaves d calls database x y
LeavesAs d calls database x (end.Locked lock) y = ⊥
LeavesAs d calls database x end.Disk y = Unit {0}
LeavesAs d calls database x (end.Full used next) y = Unit {0}
LeavesAs d calls database x end.OutOfMemory y = Unit {0}

-- on every database whose contents are known, and on which its calls fit
abbrev pub OnAll : {Key Told : Type 0} → Dialect → Meaning Key → Stamp → Standing Key Told → State → (Database → Told → Type 0) → Type 0
OnAll {Key} {Told} d m stamp r x holds = (database : Database) (told : Told) → HasDatabase d x database → KnowsContents d m stamp r database told → calls_fit d (script d m stamp (place r) database) (session_on database) ≡ true → holds database told

-- the database of the whole script is left
abbrev pub LeavesAll : {Key Told : Type 0} → Dialect → Meaning Key → Stamp → Standing Key Told → State → End → State → Type 0
LeavesAll d m stamp r x e y = OnAll d m stamp r x (λ database told. LeavesAs d (script d m stamp (place r) database) database x e y)

-- and what its source was on its way to tell is told; at a full journal so much of it
abbrev pub TellsAll : {Key Told : Type 0} → Dialect → Meaning Key → Stamp → Standing Key Told → State → End → (Dialect → Stamp → Told → Way) → Type 0
TellsAll d m stamp r x e way = OnAll d m stamp r x (λ database told. TellsTo (way d stamp told) e)
