-- undo-unrecorded: what it is refused for, its calls, and what it answers.
use Rattle.std.specs.Option.{option_or}
use Rattle.std.specs.Prelude.{Bool, Err, List, None, Ok, Option, Result, Some, [], false, if◌then◌else◌, is_none, is_some, length, option_and_then, option_map, take, true, ℕ, ◌&&◌, ◌∷◌, ◌≡◌, ◌⊎◌}
use Rattle.laws_repair.specs.Repair.{by_of, is_mark_text, marked_set, repair_calls, standing}
use Rattle.lq_base.specs.Kind.{plain_number}
use Rattle.lq_base.specs.declared.dialect.Dialect.{Dialect}
use Rattle.lq_base.specs.declared.identity.Identity.{Identity}
use Rattle.lq_base.specs.declared.tracking.Lock.{Lock}
use Rattle.lq_base.specs.declared.tracking.Tracked.{Tracked}
use Rattle.lq_expr.specs.declared.options.Options.{Options}
use Rattle.lq_any.specs.declared.any_change.AnyChange.{AnyChange}
use Rattle.lq_kinds.specs.declared.change_set.Changelog.{Changelog}
use Rattle.lq_mending.specs.Comes.{back_refused}
use Rattle.lq_mending.specs.declared.outcome.RepairFault.{RepairFault}
use Rattle.lq_mending.specs.declared.outcome.RepairFault.TheVariants as fault
use Rattle.lq_mending.specs.declared.outcome.Repaired.{Repaired}
use Rattle.lq_mending.specs.declared.part.Part.{Part}
use Rattle.lq_model.specs.declared.statement.Statement.{Statement}
use Rattle.lq_report.specs.Mark.{Marked, mark_text}
use Rattle.lq_run.specs.Commands.{HasDatabase, Leaves}
use Rattle.lq_run.specs.Crashes.{CrashesLeave, LeftBehind, LeftInCommand}
use Rattle.lq_run.specs.Left.{RestsIn}
use Rattle.lq_run.specs.declared.runner.End.{End}
use Rattle.lq_run.specs.declared.runner.End.TheVariants as end
use Rattle.lq_seen.specs.View.{any_meaning, view_log}
use Rattle.lq_store.specs.Journal.{Crashes, State}
use Rattle.lq_track.specs.Database.{Database}
use Rattle.lq_turns.specs.Faults.{faults}
use Rattle.lq_turns.specs.Set.{Set, inverses, statements_of}
use Rattle.lq_turns.specs.declared.call.Call.{Call}
use Rattle.lq_turns.specs.declared.fault.Fault.{Fault}
use Rattle.lq_turns.specs.declared.stop.Refusal.{Refusal}
use Rattle.lq_unrecorded.specs.Part.{counts_in, holder, is_back, number_in, part_mark}

-- a store with a database
pub record HasSome (d : Dialect) (x : State) : Type 0 where
  pub database : Database
  pub has : HasDatabase d x database

-- for the database of a store
abbrev pub OnIts : Dialect → State → (Database → Type 0) → Type 0
OnIts d x holds = (database : Database) → HasDatabase d x database → holds database

-- What it is refused for before its first call: its checks, in order.

abbrev pub sets_in : Options → Changelog → List (Set AnyChange)
sets_in o g = (view_log o g).sets

abbrev pub if_faults : List Fault → Option RepairFault
if_faults [] = None
if_faults (first ∷ more) = Some (fault.Invalid (first ∷ more))

-- the changelog does not go with the rows
abbrev pub invalid : Options → Changelog → List Tracked → Option RepairFault
invalid o g rows = if_faults (faults (sets_in o g) rows)

abbrev pub made_in : Options → Set AnyChange → List Statement
made_in o x = statements_of o.dialect any_meaning x.changes

-- each of its changes is taken back by what is generated, and it has a statement of this number
abbrev pub can_undo : Options → Set AnyChange → List ℕ → Bool
can_undo o x digits =
    is_none x.rollback
    && (is_some (inverses o.dialect any_meaning x.changes) && counts_in (length (made_in o x)) (plain_number digits))

-- a mark that names no changeset: its text alone
abbrev pub unnamed : Marked → Identity
unnamed mark = record { file = mark_text mark; id = []; author = [] }

-- the mark names no changeset, or one that is not taken back
abbrev pub unless_undone : Options → Marked → Option (Set AnyChange) → Option RepairFault
unless_undone o mark None = Some (fault.NotReversible (unnamed mark))
unless_undone o mark (Some x) = if can_undo o x mark.2 then None else Some (fault.NotReversible x.identity)

-- the one changeset that is here, has no row, and is printed as the mark has it
abbrev pub set_marked : Options → Changelog → List Tracked → Marked → Option (Set AnyChange)
set_marked o g rows mark = marked_set mark.0 rows (sets_in o g)

abbrev pub refusal_at : Options → Changelog → List Tracked → Option Marked → Option RepairFault
refusal_at o g rows None = Some fault.NothingToUndo
refusal_at o g rows (Some mark) = option_or (invalid o g rows) (unless_undone o mark (set_marked o g rows mark))

-- the first check that fails
abbrev pub refusal : Options → Changelog → Lock → List Tracked → Option RepairFault
refusal o g lock rows = refusal_at o g rows (part_mark lock)

-- so a check answers: it passes, or it is the refusal; or there was no memory
abbrev pub Passes : {A : Type 0} → Option RepairFault → Result A RepairFault → Type 0
Passes None (Ok a) = Unit {0}
Passes None (Err e) = e ≡ fault.OutOfMemory
Passes (Some refused) (Ok a) = ⊥
Passes (Some refused) (Err e) = (e ≡ refused) ⊎ (e ≡ fault.OutOfMemory)

-- a fault of its calls, which no check gives
abbrev pub is_of_calls : RepairFault → Bool
is_of_calls fault.NothingToUndo = false
is_of_calls (fault.Invalid found) = false
is_of_calls (fault.NotReversible of) = false
is_of_calls (fault.Refused of refused) = true
is_of_calls fault.Disk = true
is_of_calls (fault.Full used next) = true
is_of_calls fault.OutOfMemory = false

-- and so the command answers: it comes to its end, or to a fault of its calls; or it is refused; or there was no memory
abbrev pub Answers : Option RepairFault → Result Repaired RepairFault → Type 0
Answers None (Ok done) = Unit {0}
Answers None (Err e) = (is_of_calls e ≡ true) ⊎ (e ≡ fault.OutOfMemory)
Answers (Some refused) (Ok done) = ⊥
Answers (Some refused) (Err e) = (e ≡ refused) ⊎ (e ≡ fault.OutOfMemory)

-- What stands without a row: the changeset, and how many of its first statements are to be taken back.

abbrev pub Standing : Type 0
Standing = Set AnyChange × ℕ

-- where this is the last text of the journal
abbrev pub standing_by : Dialect → Option (List ℕ) → Lock → Marked → ℕ
standing_by d last lock mark = standing (is_back mark.1) (is_mark_text d (by_of lock) last) (number_in (plain_number mark.2))

abbrev pub standing_in : Dialect → Option (List ℕ) → Lock → Marked → Option (Set AnyChange) → Option Standing
standing_in d last lock mark found = option_map (λ x. (x, standing_by d last lock mark)) found

abbrev pub unrecorded : Options → Changelog → Option (List ℕ) → Lock → List Tracked → Option Standing
unrecorded o g last lock rows = option_and_then (λ mark. standing_in o.dialect last lock mark (set_marked o g rows mark)) (part_mark lock)

-- what is kept of it for its calls
pub record IsPart (o : Options) (found : Option Standing) (lock : Lock) (part : Part) : Type 0 where
  pub set : Set AnyChange
  pub found_is : found ≡ Some (set, part.count)
  pub who : part.who ≡ holder lock
  pub identity : part.identity ≡ set.identity
  pub statements : part.statements ≡ made_in o set

abbrev pub first_of : Options → Standing → List Statement
first_of o part = take part.1 (made_in o part.0)

-- Its calls, which take those statements back and free the lock.

abbrev pub calls_of : Options → Database → Option Standing → List Call
calls_of o database None = []
calls_of o database (Some part) = repair_calls o.dialect (holder database.lock) part.0.identity (first_of o part) database

abbrev pub undo_script : Options → Changelog → Option (List ℕ) → Database → List Call
undo_script o g last database = calls_of o database (unrecorded o g last database.lock database.rows)

-- What it answers, and what its calls leave.

-- by how its calls ended
abbrev pub answer_of : Identity → ℕ → End → Result Repaired RepairFault
answer_of of many end.Done = Ok (record { identity = of; count = many })
answer_of of many (end.Refused refused) = Err (fault.Refused of refused)
answer_of of many (end.Locked lock) = Err fault.OutOfMemory
answer_of of many end.Disk = Err fault.Disk
answer_of of many (end.Full used next) = Err (fault.Full used next)
answer_of of many end.OutOfMemory = Err fault.OutOfMemory

-- where it comes to its end, or a statement is not taken back, its calls' database is there
abbrev pub LeavesBy : Dialect → List Call → Database → State → Result Repaired RepairFault → State → Type 0
LeavesBy d calls database x (Ok done) y = Leaves d calls database x y
LeavesBy d calls database x (Err (fault.Refused of refused)) y = Leaves d calls database x y
LeavesBy d calls database x (Err e) y = Unit {0}

-- a full journal is told as full as it was, and leaves it and the lock so
abbrev pub FullBy : Dialect → List Call → Database → State → Result Repaired RepairFault → State → Type 0
FullBy d calls database x (Ok done) y = Unit {0}
FullBy d calls database x (Err (fault.Full used next)) y = RestsIn d calls database x y used next
FullBy d calls database x (Err e) y = Unit {0}

-- on a store, by its state and by what a crash leaves of it
module _ {S : Type 0} (state : S → State) (crashes : S → Crashes) where
  -- it made calls to their end or to a stop, and the store holds what they leave then
  pub record Made (d : Dialect) (calls : List Call) (database : Database) (before : S) (answer : Result Repaired RepairFault) (after : S) : Type 0 where
    pub leaves : LeavesBy d calls database (state before) answer (state after)
    -- however it ended
    pub behind : LeftBehind d calls database (state before) (state after)
    -- a crash of the machine at any moment of it
    pub any_moment : CrashesLeave (state before).entries (LeftInCommand d calls database) (crashes before) (crashes after)
    pub full : FullBy d calls database (state before) answer (state after)

-- it tells the changeset and how many statements it took back, or which of them it did not, and why
abbrev pub TellsBy : Identity → ℕ → Option Refusal → Result Repaired RepairFault → Type 0
TellsBy of many refused (Ok done) = (done ≡ record { identity = of; count = many }) × (refused ≡ None)
TellsBy of many refused (Err (fault.Refused at why)) = (at ≡ of) × (refused ≡ Some why)
TellsBy of many refused (Err e) = Unit {0}

abbrev pub TellsOf : Options → Database → Option Standing → Result Repaired RepairFault → Type 0
TellsOf o database None answer = Unit {0}
TellsOf o database (Some part) answer = TellsBy part.0.identity part.1 (back_refused o.dialect (first_of o part) database.users) answer
