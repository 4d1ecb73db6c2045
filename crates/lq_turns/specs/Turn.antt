-- A turn: what a changeset, or the undoing of a row, runs; the calls that it makes; and what it leaves.
use Rattle.std.specs.List.{list_any}
use Rattle.std.specs.Prelude.{Bool, Err, List, Ok, Result, [], codes, false, if◌then◌else◌, length, not, pos, suc, ℕ, ◌++◌, ◌||◌, ◌∷◌}
use Rattle.lq_base.specs.Name.{identity_text}
use Rattle.lq_base.specs.Number.{whole_text}
use Rattle.lq_base.specs.declared.dialect.Dialect.{Dialect}
use Rattle.lq_base.specs.declared.reason.Reason.{Reason}
use Rattle.lq_model.specs.Catalogue.{Catalogue}
use Rattle.lq_model.specs.Step.{commits_itself, step}
use Rattle.lq_model.specs.declared.caller.By.TheVariants.{User}
use Rattle.lq_model.specs.declared.statement.Statement.{Statement}
use Rattle.lq_turns.specs.Deed.{Contents, contents_after, rows_after}
use Rattle.lq_turns.specs.declared.call.Call.{Call}
use Rattle.lq_turns.specs.declared.call.Call.TheVariants.{Abort, Begin, Commit, Execute}
use Rattle.lq_turns.specs.declared.deed.Deed.TheVariants.{Locks, Rows, Users}
use Rattle.lq_turns.specs.declared.deed.OnLock.TheVariants.{Marked}
use Rattle.lq_turns.specs.declared.stop.Refusal.{Refusal}
use Rattle.lq_turns.specs.declared.turn.Turn.{Turn}

-- a statement that is committed by itself is marked before it runs
abbrev pub is_marked : Dialect → Turn → Statement → Bool
is_marked d turn s = not turn.in_transaction || commits_itself d s

-- WHO|IDENTITY|K, where a turn takes back WHO|IDENTITY|undo K
abbrev pub mark_text : List ℕ → Turn → ℕ → List ℕ
mark_text who turn k = who ++ codes "|" ++ identity_text turn.identity ++ codes "|" ++ (if turn.is_undo then codes "undo " else []) ++ whole_text (pos k)

abbrev pub mark : List ℕ → Turn → ℕ → Call
mark who turn k = Execute (Locks (Marked (mark_text who turn k)))

-- a statement in the turn's transaction, after its mark where it has one
abbrev pub within : Dialect → List ℕ → Turn → ℕ → Statement → List Call
within d who turn k s = if commits_itself d s then mark who turn k ∷ Execute (Users s) ∷ [] else Execute (Users s) ∷ []

-- a marked statement in a transaction of its own
abbrev pub apart : List ℕ → Turn → ℕ → Statement → List Call
apart who turn k s = Begin ∷ mark who turn k ∷ Execute (Users s) ∷ Commit ∷ []

-- its statements, of which the first is the k-th
abbrev pub statement_calls : Dialect → List ℕ → Turn → ℕ → List Statement → List Call
statement_calls d who turn k [] = []
statement_calls d who turn k (s ∷ ss) = (if turn.in_transaction then within d who turn k s else apart who turn k s) ++ statement_calls d who turn (suc k) ss

-- where a statement was marked, the mark goes with the row
abbrev pub unmark : Dialect → List ℕ → Turn → List Call
unmark d who turn = if list_any (is_marked d turn) turn.statements then Execute (Locks (Marked who)) ∷ [] else []

abbrev pub row_calls : Dialect → List ℕ → Turn → List Call
row_calls d who turn = Execute (Rows turn.row) ∷ unmark d who turn ++ Commit ∷ []

-- the calls of a turn in which nothing is refused
abbrev pub turn_calls : Dialect → List ℕ → Turn → List Call
turn_calls d who turn =
    if turn.in_transaction
    then Begin ∷ statement_calls d who turn 1 turn.statements ++ row_calls d who turn
    else statement_calls d who turn 1 turn.statements ++ Begin ∷ row_calls d who turn

-- the calls that are made from these contents: what is refused is followed by an abort, and that ends the turn
abbrev pub made_on : (Contents → List Call) → Result Contents Reason → List Call
made_on calls (Ok now) = calls now
made_on calls (Err reason) = Abort ∷ []

abbrev pub made : Dialect → List Call → Contents → List Call
made d [] c = []
made d (Execute deed ∷ calls) c = Execute deed ∷ made_on (made d calls) (contents_after d deed c)
made d (call ∷ calls) c = call ∷ made d calls c

-- how a user's statements go one after another: to the catalogue after all of them, or to one that is refused
pub data Course : Type 0 where
  Through : Catalogue → Course
  -- those before it, the refused one, and why it is refused
  Stuck : List Statement → Statement → Reason → Course

abbrev pub led_by : Statement → Course → Course
led_by s (Through c) = Through c
led_by s (Stuck before refused reason) = Stuck (s ∷ before) refused reason

abbrev pub course : Dialect → List Statement → Catalogue → Course
course d [] c = Through c
course d (s ∷ ss) c = elim (step User d s c) [ Ok r ↦ led_by s (course d ss r.0) | Err reason ↦ Stuck [] s reason ]

-- up to and with the last that passes the test
abbrev pub up_to_last : (Statement → Bool) → List Statement → List Statement
up_to_last test [] = []
up_to_last test (s ∷ ss) = if list_any test (s ∷ ss) then s ∷ up_to_last test ss else []

-- the statements that stay committed: up to and with the last marked one, or all of them where the refused one is marked
abbrev pub kept : Dialect → Turn → List Statement → Bool → List Statement
kept d turn before is_marked_one = if is_marked_one then before else up_to_last (is_marked d turn) before

pub data Ending : Type 0 where
  Finished : Contents → Ending
  Refused : Contents → Refusal → Ending

-- the users' objects after these statements, as far as they are accepted
abbrev pub run_on : Dialect → List Statement → Catalogue → Catalogue
run_on d [] users = users
run_on d (s ∷ ss) users = elim (step User d s users) [ Ok r ↦ run_on d ss r.0 | Err reason ↦ users ]

abbrev pub refused : Dialect → List Statement → List Statement → Reason → Contents → Ending
refused d before stay reason c = Refused (record c { users = run_on d stay c.users }) (record { statement = suc (length before); kept = length stay; reason = reason })

-- all statements ran, and led to these objects of the users; the row counts as one statement more
abbrev pub row_ending : Dialect → Turn → Catalogue → Contents → Ending
row_ending d turn users c = elim (rows_after turn.row c.rows) [
  | Ok rows ↦ Finished (record { users = users; rows = rows })
  | Err reason ↦ refused d turn.statements (kept d turn turn.statements false) reason c
]

-- what a turn leaves, told by its statements
abbrev pub ending : Dialect → Turn → Contents → Ending
ending d turn c = elim (course d turn.statements c.users) [
  | Through users ↦ row_ending d turn users c
  | Stuck before s reason ↦ refused d before (kept d turn before (is_marked d turn s)) reason c
]

abbrev pub contents_in : Ending → Contents
contents_in (Finished c) = c
contents_in (Refused c refusal) = c
