-- What one runner leaves, and why its journal is full.
use Rattle.std.specs.Option.{option_map}
use Rattle.std.specs.Prelude.{Bool, Err, List, None, Ok, Option, Result, Some, [], false, replicate, true, ℕ, ◌++◌, ◌+◌, ◌∷◌, ◌≡◌, ◌⊎◌}
use Rattle.lq_alone.specs.One.{CameTo, HasGivenUp, IsCut, StandsAt}
use Rattle.lq_base.specs.declared.dialect.Dialect.{Dialect}
use Rattle.lq_base.specs.declared.tracking.Lock.{Lock}
use Rattle.lq_drill.specs.Faults.{Comes, IsLetGo, Meets, Shows, Steps, answer_of, entries_of, freed}
use Rattle.lq_drill.specs.Player.{Brings, Rests, refusal}
use Rattle.lq_drill.specs.declared.fault.DrillFault.{DrillFault}
use Rattle.lq_drill.specs.declared.fault.DrillFault.TheVariants as fault
use Rattle.lq_model.specs.declared.caller.Room.TheVariants.{Release}
use Rattle.lq_run.specs.Commands.{Leaves}
use Rattle.lq_store.specs.Journal.{Entry, State, end_of, is_full, size_of_all}
use Rattle.lq_track.specs.Database.{Database}
use Rattle.lq_turns.specs.Schedule.{Job, Machine, StandsFor, all_moved, appended, start}
use Rattle.lq_turns.specs.Script.{closing}
use Rattle.lq_turns.specs.Session.{Session, all_called, room_of, session_on}
use Rattle.lq_turns.specs.Stops.{IsLeft, Journal, has_mark}
use Rattle.lq_turns.specs.declared.call.Call.{Call}

-- One runner stands at one of its places after any number of its steps.
abbrev pub OneStands : Type 0 → Type 0
OneStands Answer = (as_locked : Lock → Answer) (busy : ℕ → Answer) (failed : DrillFault → Answer) (d : Dialect) (job : Job Answer as_locked busy) (database : Database) (met : Bool) (steps : ℕ) (x : Machine Answer as_locked busy)
    → Comes failed d (λ n. job) (λ n. met ≡ true) (replicate steps 1) (start Answer as_locked busy database) x → StandsAt failed d job database (met ≡ true) x

-- The entries of the next call of the script have no room behind those of the calls before it, in a journal with this limit of which so many bytes were filled.
pub record HasNoRoomNext (d : Dialect) (calls : List Call) (database : Database) (filled limit used next : ℕ) : Type 0 where
  pub made : List Call
  pub call : Call
  pub rest : List Call
  pub is : calls ≡ made ++ call ∷ rest
  pub used_is : used ≡ filled + size_of_all (entries_of d (all_called d made (session_on database)).entries)
  pub next_is : next ≡ size_of_all (entries_of d (appended d call (all_called d made (session_on database))))
  pub full : is_full (end_of (room_of call) limit) used (entries_of d (appended d call (all_called d made (session_on database)))) ≡ true

-- Another fault was met behind some of the calls, and the entry that frees a lock without a mark has no room.
pub record CannotFree (d : Dialect) (calls : List Call) (database : Database) (filled limit used next : ℕ) : Type 0 where
  pub cut : IsCut calls
  pub unmarked : has_mark (all_called d (cut.first ∷ cut.more) (session_on database)).committed.lock ≡ false
  pub used_is : used ≡ filled + size_of_all (entries_of d (all_called d (cut.first ∷ cut.more) (session_on database)).entries)
  pub next_is : next ≡ size_of_all (entries_of d freed)
  pub full : is_full (end_of Release limit) used (entries_of d freed) ≡ true

-- Why a runner answers that the journal is full.
abbrev pub IsFullBy : Dialect → List Call → Database → ℕ → ℕ → ℕ → ℕ → Type 0
IsFullBy d calls database filled limit used next = HasNoRoomNext d calls database filled limit used next ⊎ CannotFree d calls database filled limit used next

-- Each front of the entries of one runner is what a stop of its script may leave.
abbrev pub OneLeaves : Type 0 → Type 0
OneLeaves Answer = (as_locked : Lock → Answer) (busy : ℕ → Answer) (failed : DrillFault → Answer) (d : Dialect) (job : Job Answer as_locked busy) (database : Database) (met : Bool) (x : Machine Answer as_locked busy)
    → StandsAt failed d job database (met ≡ true) x → (front more : Journal) → x.entries ≡ front ++ more → IsLeft d (job.script database) database [] front

-- One runner that meets a full journal meets it so.
abbrev pub OneIsFull : Type 0 → Type 0
OneIsFull Answer = (as_locked : Lock → Answer) (busy : ℕ → Answer) (failed : DrillFault → Answer) (d : Dialect) (job : Job Answer as_locked busy) (database : Database) (met : Bool) (x : Machine Answer as_locked busy) (filled limit used next : ℕ)
    → StandsAt failed d job database (met ≡ true) x → Meets failed d (λ n. job) filled limit 1 x (fault.Full used next) → IsFullBy d (job.script database) database filled limit used next

-- One that met a fault and made its last calls leaves the lock free, or with its mark.
abbrev pub OneFrees : Type 0 → Type 0
OneFrees Answer = (as_locked : Lock → Answer) (busy : ℕ → Answer) (failed : DrillFault → Answer) (d : Dialect) (job : Job Answer as_locked busy) (database : Database) (x : Machine Answer as_locked busy)
    → HasGivenUp failed d job database x → IsLetGo x.committed.lock

-- What a command by itself comes to, in words of its script.

-- behind the entries that were there stand those that a stop of these calls may leave
pub record LeavesFront (calls : List Call) (database : Database) (x y : State) : Type 0 where
  pub dialect : y.dialect ≡ x.dialect
  pub limit : y.limit ≡ x.limit
  pub written : Journal
  pub stops : IsLeft x.dialect calls database [] written
  pub entries : y.entries ≡ option_map (λ entries. entries ++ entries_of x.dialect written) x.entries

module _ {Answer : Type 0} {locked : Lock → Answer} {busy : ℕ → Answer} (job : Job Answer locked busy) (x : State) (database : Database) where
  -- The refusal table: it is refused by the first of its checks that fails, and has made no call; or it has made all calls of its script, and answers what that comes to.
  abbrev pub EndsAs : Answer → State → Type 0
  EndsAs a y = ((refusal job database ≡ Some a) × Leaves x.dialect [] database x y)
      ⊎ ((refusal job database ≡ None) × (a ≡ job.answer database) × Leaves x.dialect (job.script database) database x y)

-- How the lock is left where the journal's room ended a command: it is free, or has its mark; or the call that frees it had no room; or its first call had none, and nothing was written.
abbrev pub LeavesLock : State → Database → State → ℕ → ℕ → Type 0
LeavesLock x database y used next = ((now : Database) × StandsFor x.dialect y.committed now × IsLetGo now.lock)
    ⊎ (((s : Session) × (next ≡ size_of_all (entries_of x.dialect (appended x.dialect closing s))) × (is_full (end_of Release x.limit) used (entries_of x.dialect (appended x.dialect closing s)) ≡ true)) ⊎ Leaves x.dialect [] database x y)

-- the entries that were there, and what a stop of these calls may leave
pub record IsLeftBehind (d : Dialect) (calls : List Call) (database : Database) (there left : List Entry) : Type 0 where
  pub written : Journal
  pub stops : IsLeft d calls database [] written
  pub is : left ≡ there ++ entries_of d written

-- how a command ends by itself, on the database that its store stands for
abbrev pub EndsAlone : {Answer : Type 0} {locked : Lock → Answer} {busy : ℕ → Answer} → Job Answer locked busy → State → Database → Option Answer → Result (Unit {0}) DrillFault → State → Type 0
EndsAlone {Answer} job x database said (Ok u) y = (a : Answer) × (said ≡ Some a) × EndsAs job x database a y
EndsAlone job x database said (Err fault.Disk) y = LeavesFront (job.script database) database x y
EndsAlone job x database said (Err (fault.Full used next)) y = LeavesFront (job.script database) database x y × IsFullBy x.dialect (job.script database) database x.used x.limit used next
EndsAlone job x database said (Err fault.OutOfMemory) y = LeavesFront (job.script database) database x y

-- An answer that is not one to a fault is by the table.
abbrev pub OneEnds : Type 0 → Type 0
OneEnds Answer = (locked : Lock → Answer) (busy : ℕ → Answer) (failed : DrillFault → Answer) (job : Job Answer locked busy) (origin y : State) (database : Database) (met : Bool) (x : Machine Answer locked busy) (a : Answer)
    → StandsAt failed origin.dialect job database (met ≡ true) x → answer_of 1 x.answers ≡ Some a → ((why : DrillFault) → answer_of 1 x.answers ≡ Some (failed why) → ⊥) → Shows origin y x → EndsAs job origin database a y

-- What a step leaves that ended by a fault is what a stop of the script may leave.
abbrev pub OneStops : Type 0 → Type 0
OneStops Answer = (locked : Lock → Answer) (busy : ℕ → Answer) (failed : DrillFault → Answer) (job : Job Answer locked busy) (origin w y : State) (database : Database) (met : Bool) (x z : Machine Answer locked busy)
    → StandsAt failed origin.dialect job database (met ≡ true) x → Shows origin w x → Steps failed origin.dialect (λ n. job) (met ≡ true) 1 x z → Brings origin.dialect x z w y → y.dialect ≡ w.dialect → y.limit ≡ w.limit
    → LeavesFront (job.script database) database origin y

-- And where the journal's room ended it the lock is free, or has its mark, or its first call or the one that frees the lock had no room.
abbrev pub OneRests : Type 0 → Type 0
OneRests Answer = (locked : Lock → Answer) (busy : ℕ → Answer) (failed : DrillFault → Answer) (job : Job Answer locked busy) (origin w y : State) (database : Database) (met : Bool) (x : Machine Answer locked busy) (used next : ℕ)
    → StandsAt failed origin.dialect job database (met ≡ true) x → answer_of 1 x.answers ≡ None → Shows origin w x → Rests failed (λ n. job) 1 (met ≡ true) origin w y x (fault.Full used next) → LeavesLock origin database y used next

-- Without a fault its steps are those of the schedule of this one runner.
abbrev pub OneSteps : Type 0 → Type 0
OneSteps Answer = (locked : Lock → Answer) (busy : ℕ → Answer) (failed : DrillFault → Answer) (job : Job Answer locked busy) (origin : State) (database : Database) (steps : ℕ) (x : Machine Answer locked busy)
    → CameTo failed job origin database (false ≡ true) steps x → x ≡ all_moved Answer locked busy origin.dialect (λ n. job) (replicate steps 1) (start Answer locked busy database)
