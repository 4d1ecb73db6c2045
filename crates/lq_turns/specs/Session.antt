-- The writing calls of a command, and what each makes of the committed database and of the journal, under both ways of committing.
use Rattle.std.specs.Prelude.{Bool, Err, List, Ok, Result, [], false, if◌then◌else◌, map, true, ◌++◌, ◌∷◌}
use Rattle.lq_base.specs.declared.dialect.Dialect.{Dialect}
use Rattle.lq_base.specs.declared.reason.Reason.{Reason}
use Rattle.lq_model.specs.Script.{if_any, statements_in}
use Rattle.lq_model.specs.Step.{commits_itself}
use Rattle.lq_model.specs.declared.caller.Room.{Room}
use Rattle.lq_model.specs.declared.caller.Room.TheVariants.{Ordinary}
use Rattle.lq_model.specs.declared.statement.Statement.{Statement}
use Rattle.lq_track.specs.Database.{Database}
use Rattle.lq_turns.specs.Deed.{Contents, contents_after, done, made_of}
use Rattle.lq_turns.specs.declared.call.Call.{Call}
use Rattle.lq_turns.specs.declared.call.Call.TheVariants.{Abort, Alone, Begin, Commit, Execute}
use Rattle.lq_turns.specs.declared.deed.Deed.{Deed}

-- how much of the journal a call may fill
abbrev pub room_of : Call → Room
room_of (Alone deeds room) = room
room_of Begin = Ordinary
room_of (Execute deed) = Ordinary
room_of Commit = Ordinary
room_of Abort = Ordinary

pub record Session : Type 0 where
  pub committed : Database
  pub is_open : Bool
  -- what the session sees: with its open transaction, if it has one
  pub seen : Database
  -- what its transaction did and has not committed
  pub begun : List Deed
  -- the entries that its calls appended to the journal
  pub entries : List (List Deed)

-- a session without a transaction, whose calls have appended nothing
abbrev pub session_on : Database → Session
session_on database = record { committed = database; is_open = false; seen = database; begun = []; entries = [] }

-- what was begun becomes an entry, if there is any
abbrev pub settled_up : Session → Session
settled_up s = record s { committed = s.seen; begun = []; entries = s.entries ++ if_any s.begun }

abbrev pub settled_if : Bool → Session → Session
settled_if own s = if own then settled_up s else s

abbrev pub aborted : Session → Session
aborted s = record s { is_open = false; seen = s.committed; begun = [] }

abbrev pub closed : Session → Session
closed s = record (settled_up s) { is_open = false }

abbrev pub is_own : Dialect → Deed → Bool
is_own d deed = commits_itself d (made_of d deed).1

-- what commits itself has first committed what was begun, also where it is refused
abbrev pub before : Dialect → Deed → Session → Session
before d deed s = settled_if (is_own d deed) s

-- after a deed that was accepted
abbrev pub accepted : Dialect → Deed → Database → Session → Session
accepted d deed now s = settled_if (is_own d deed) (record (before d deed s) { seen = now; begun = (before d deed s).begun ++ deed ∷ [] })

abbrev pub executed_as : Dialect → Deed → Session → Result Database Reason → Session
executed_as d deed s (Ok now) = accepted d deed now s
executed_as d deed s (Err reason) = before d deed s

abbrev pub executed : Dialect → Deed → Session → Session
executed d deed s = executed_as d deed s (done d deed s.seen)

abbrev pub all_executed_as : Dialect → Deed → Session → (Session → Session) → Result Database Reason → Session
all_executed_as d deed s more (Ok now) = more (accepted d deed now s)
all_executed_as d deed s more (Err reason) = aborted (before d deed s)

-- all of them, or none but those that are committed by then
abbrev pub all_executed : Dialect → List Deed → Session → Session
all_executed d [] s = closed s
all_executed d (deed ∷ deeds) s = all_executed_as d deed s (all_executed d deeds) (done d deed s.seen)

abbrev pub called : Dialect → Call → Session → Session
called d (Alone deeds room) s = all_executed d deeds s
called d Begin s = record s { is_open = true }
called d (Execute deed) s = executed d deed s
called d Commit s = closed s
called d Abort s = aborted s

abbrev pub all_called : Dialect → List Call → Session → Session
all_called d [] s = s
all_called d (call ∷ calls) s = all_called d calls (called d call s)

-- the journal entries that calls append where they begin on a database
abbrev pub entries : Dialect → List Call → Database → List (List Statement)
entries d calls database = map (λ deeds. statements_in (map (made_of d) deeds)) (all_called d calls (session_on database)).entries

-- the database that they leave
abbrev pub left_by : Dialect → List Call → Database → Database
left_by d calls database = (all_called d calls (session_on database)).committed

-- How the calls of a turn change what is committed and what the session sees.

-- the committed contents, and those that the session sees
abbrev pub Both : Type 0
Both = Contents × Contents

-- what is committed after a deed that was accepted
abbrev pub committed_if : Bool → Contents → Contents → Contents
committed_if true a b = b
committed_if false a b = a

module _ (d : Dialect) where
  abbrev pub went_by : Deed → (Both → Both) → Both → Result Contents Reason → Both
  went_by deed go x (Ok now) = go (committed_if (is_own d deed) x.0 now, now)
  went_by deed go x (Err reason) = (committed_if (is_own d deed) x.0 x.1, committed_if (is_own d deed) x.0 x.1)

  -- the contents after the calls of a turn
  abbrev pub went : List Call → Both → Both
  went [] x = x
  went (Execute deed ∷ calls) x = went_by deed (went calls) x (contents_after d deed x.1)
  went (Commit ∷ calls) x = went calls (x.1, x.1)
  went (Begin ∷ calls) x = went calls x
  went (Abort ∷ calls) x = went calls (x.0, x.0)
  went (Alone deeds room ∷ calls) x = went calls x

  -- whether all of them are accepted
  abbrev pub accepted_by : (Contents → Bool) → Result Contents Reason → Bool
  accepted_by go (Ok now) = go now
  accepted_by go (Err reason) = false

  abbrev pub are_accepted : List Call → Contents → Bool
  are_accepted [] c = true
  are_accepted (Execute deed ∷ calls) c = accepted_by (are_accepted calls) (contents_after d deed c)
  are_accepted (call ∷ calls) c = are_accepted calls c
