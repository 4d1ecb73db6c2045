-- What each call of a session answers, told by its deeds.
use Rattle.std.specs.Prelude.{Err, List, Ok, Result, Some, [], true, ℕ, ◌++◌, ◌∷◌, ◌≡◌}
use Rattle.lq_base.specs.declared.dialect.Dialect.{Dialect}
use Rattle.lq_hand.specs.Hand.{IsWritable}
use Rattle.lq_model.specs.SqlText.{statement_in}
use Rattle.lq_model.specs.StatementText.{text_of}
use Rattle.lq_model.specs.declared.caller.Room.{Room}
use Rattle.lq_model.specs.declared.caller.Room.TheVariants.{Ordinary, Release}
use Rattle.lq_model.specs.declared.fault.StoreFault.{StoreFault}
use Rattle.lq_model.specs.declared.fault.StoreFault.TheVariants.{Busy, Disk, Full, NotSql, OutOfMemory, Refused}
use Rattle.lq_model.specs.declared.statement.Statement.{Statement}
use Rattle.lq_run.specs.Stands.{Stands, deed_text, entries_of}
use Rattle.lq_store.specs.Calls.{Fails, IsFull}
use Rattle.lq_store.specs.Journal.{Entry, State}
use Rattle.lq_track.specs.Database.{Database}
use Rattle.lq_turns.specs.Deed.{Contents, all_done, contents_after, contents_of, made_of}
use Rattle.lq_turns.specs.Schedule.{all_fit, fits}
use Rattle.lq_turns.specs.Session.{Session, called}
use Rattle.lq_turns.specs.declared.call.Call.{Call}
use Rattle.lq_turns.specs.declared.call.Call.TheVariants.{Abort, Alone, Begin, Commit, Execute}
use Rattle.lq_turns.specs.declared.deed.Deed.{Deed}
use Rattle.lq_turns.specs.declared.deed.Deed.TheVariants.{Locks}
use Rattle.lq_turns.specs.declared.deed.OnLock.TheVariants.{Freed}

-- the text is the statement's, and is read back as it
abbrev pub Reads : Dialect → Statement → List ℕ → Type 0
Reads d s text = (text ≡ text_of d s) × (statement_in d text ≡ Some s)

-- the text of its statement is read back
abbrev pub IsRead : Dialect → Deed → Type 0
IsRead d deed = statement_in d (deed_text d deed) ≡ Some (made_of d deed).1

-- of a list of deeds each

abbrev pub AllWritable : Dialect → List Deed → Type 0
AllWritable d [] = Unit {0}
AllWritable d (deed ∷ deeds) = IsWritable d deed × AllWritable d deeds

abbrev pub AllRead : Dialect → List Deed → Type 0
AllRead d [] = Unit {0}
AllRead d (deed ∷ deeds) = IsRead d deed × AllRead d deeds

-- only the deed that frees the lock may fill all of the journal
abbrev pub MayFill : Room → List Deed → Type 0
MayFill Ordinary deeds = Unit {0}
MayFill Release deeds = deeds ≡ Locks Freed ∷ []

-- the entries that a call of a session appends
pub record Appends (d : Dialect) (call : Call) (s : Session) (written : List Entry) : Type 0 where
  pub more : List (List Deed)
  pub entries : (called d call s).entries ≡ s.entries ++ more
  pub texts : written ≡ entries_of d more

-- they do not go in
pub record HasNoRoom (d : Dialect) (room : Room) (call : Call) (s : Session) (x : State) (used next : ℕ) : Type 0 where
  pub written : List Entry
  pub appends : Appends d call s written
  pub full : IsFull room written x used next

-- a front of them is written, and nothing more is called
pub record Breaks (d : Dialect) (call : Call) (s : Session) (x y : State) : Type 0 where
  pub written : List Entry
  pub appends : Appends d call s written
  pub fails : Fails written x y

module _ (start : State) (number : ℕ) (x : State) (s : Session) where
  -- a fault of the store: only that of the disk leaves something
  abbrev pub Faults : Room → Call → StoreFault → State → Type 0
  Faults room call Disk y = Breaks start.dialect call s x y
  Faults room call (Full used next) y = HasNoRoom start.dialect room call s x used next × (y ≡ x)
  Faults room call OutOfMemory y = y ≡ x
  Faults room call (Refused reason) y = ⊥
  Faults room call NotSql y = ⊥
  Faults room call (Busy n) y = ⊥

  abbrev pub Now : Call → State → Type 0
  Now call y = Stands start number y (called start.dialect call s)

  -- a deed in the session's transaction
  abbrev pub DoesDeed : Deed → Result (Unit {0}) StoreFault → State → Type 0
  DoesDeed deed (Ok u) y = (now : Contents) × (contents_after start.dialect deed (contents_of s.seen) ≡ Ok now) × Now (Execute deed) y
  DoesDeed deed (Err (Refused reason)) y = (contents_after start.dialect deed (contents_of s.seen) ≡ Err reason) × Now (Execute deed) y
  DoesDeed deed (Err fault) y = Faults Ordinary (Execute deed) fault y

  -- a call that nothing refuses
  abbrev pub DoesCall : Room → Call → Result (Unit {0}) StoreFault → State → Type 0
  DoesCall room call (Ok u) y = Now call y
  DoesCall room call (Err fault) y = Faults room call fault y

  -- deeds in a transaction of their own
  abbrev pub DoesAlone : List Deed → Room → Result (Unit {0}) StoreFault → State → Type 0
  DoesAlone deeds room (Ok u) y = (now : Database) × (all_done start.dialect deeds s.seen ≡ Ok now) × Now (Alone deeds room) y
  DoesAlone deeds room (Err (Refused reason)) y = (all_done start.dialect deeds s.seen ≡ Err reason) × Now (Alone deeds room) y
  DoesAlone deeds room (Err fault) y = Faults room (Alone deeds room) fault y

-- for every session for which the store stands

-- the deed fits what the session sees
abbrev pub DoesFor : Dialect → ℕ → Deed → State → Result (Unit {0}) StoreFault → State → Type 0
DoesFor d number deed x result y = (start : State) (s : Session) → start.dialect ≡ d → Stands start number x s → fits d deed s.seen ≡ true → DoesDeed start number x s deed result y

abbrev pub AloneFor : Dialect → ℕ → List Deed → Room → State → Result (Unit {0}) StoreFault → State → Type 0
AloneFor d number deeds room x result y = (start : State) (s : Session) → start.dialect ≡ d → Stands start number x s → all_fit d deeds s.seen ≡ true → DoesAlone start number x s deeds room result y

abbrev pub CommitFor : Dialect → ℕ → State → Result (Unit {0}) StoreFault → State → Type 0
CommitFor d number x result y = (start : State) (s : Session) → start.dialect ≡ d → Stands start number x s → DoesCall start number x s Ordinary Commit result y

abbrev pub BeginFor : Dialect → ℕ → State → Result (Unit {0}) StoreFault → State → Type 0
BeginFor d number x result y = (start : State) (s : Session) → start.dialect ≡ d → Stands start number x s → (result ≡ Ok tt) × Stands start number y (called d Begin s)

abbrev pub AbortFor : Dialect → ℕ → State → State → Type 0
AbortFor d number x y = (start : State) (s : Session) → start.dialect ≡ d → Stands start number x s → Stands start number y (called d Abort s)
