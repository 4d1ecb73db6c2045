-- What each call of a store may answer, and what it leaves.
use Rattle.std.specs.List.{last_or}
use Rattle.std.specs.Option.{option_map}
use Rattle.std.specs.Prelude.{Bool, Err, IfSome, List, None, Ok, Result, Some, [], false, map, suc, true, unwrap_or, zero, ℕ, ◌++◌, ◌∷◌, ◌≡◌, ◌≤◌}
use Rattle.lq_codec.specs.Tables.{bytes_of}
use Rattle.lq_model.specs.Catalogue.{Catalogue}
use Rattle.lq_model.specs.declared.caller.By.{By}
use Rattle.lq_model.specs.declared.caller.ByText.{ByText}
use Rattle.lq_model.specs.declared.caller.Room.{Room}
use Rattle.lq_model.specs.declared.caller.Room.TheVariants.{Ordinary}
use Rattle.lq_model.specs.declared.fault.StoreFault.{StoreFault}
use Rattle.lq_model.specs.declared.fault.StoreFault.TheVariants.{Busy, Disk, Full, NotSql, OutOfMemory, Refused}
use Rattle.lq_outside.specs.Forms.{Rose}
use Rattle.lq_store.specs.Journal.{Entry, IsFrontOf, State, end_of, is_full, other, size_of_all, with_entries}
use Rattle.lq_store.specs.Journal.Entry.{Stated, Texts}
use Rattle.lq_store.specs.Work.{End, Outcome, Work, closed, committed, kept_open, outcome, outcome_all, work_in, work_of}
use Rattle.lq_store.specs.Work.End.{NoStatement, Ran, Stopped}

-- the entries have room
abbrev pub HasRoom : Room → List Entry → State → Type 0
HasRoom room entries x = is_full (end_of room x.limit) x.used entries ≡ false

-- they have none, and the numbers are what is in use and what they take
abbrev pub IsFull : Room → List Entry → State → ℕ → ℕ → Type 0
IsFull room entries x used next = (is_full (end_of room x.limit) x.used entries ≡ true) × ((used ≡ x.used) × (next ≡ size_of_all entries))

-- after a disk fault nothing more is called; a front of the entries was written
pub record Fails (written : List Entry) (x y : State) : Type 0 where
  pub dead : y.live ≡ false
  pub dialect_is : y.dialect ≡ x.dialect
  pub limit_is : y.limit ≡ x.limit
  pub front : List Entry
  pub is_front : IsFrontOf written front
  pub entries_are : y.entries ≡ option_map (λ entries. entries ++ front) x.entries

-- another session has a transaction open
abbrev pub IsBusy : ℕ → State → StoreFault → Type 0
IsBusy session x (Busy n) = other session x ≡ Some n
IsBusy session x _ = ⊥

abbrev pub with_begun : ℕ → State → State
with_begun session x = record x { begun = Some (record { session = session; now = x.committed; texts = [] }) }

abbrev pub MayBegin : {T : Type 0} → ℕ → State → Result T StoreFault → State → Type 0
MayBegin session x (Ok _) y = (other session x ≡ None) × (y ≡ with_begun session x)
MayBegin session x (Err fault) y = IsBusy session x fault × (y ≡ x)

-- what a call that writes answers, by the end of its texts and what is left where they end so
abbrev pub MayEnd : Room → End → List Entry → State → State → Result ℕ StoreFault → State → Type 0
MayEnd room end written left x (Ok n) y = (end ≡ Ran n) × (HasRoom room written x × (y ≡ left))
MayEnd room end written left x (Err (Refused reason)) y = (end ≡ Stopped reason) × (HasRoom room written x × (y ≡ left))
MayEnd room end written left x (Err NotSql) y = (end ≡ NoStatement) × (y ≡ x)
MayEnd room end written left x (Err (Busy n)) y = ⊥
MayEnd room end written left x (Err Disk) y = Fails written x y
MayEnd room end written left x (Err (Full used next)) y = IsFull room written x used next × (y ≡ x)
MayEnd room end written left x (Err OutOfMemory) y = y ≡ x

abbrev pub executed : By → List ℕ → State → Outcome
executed by text x = outcome x.dialect by text (work_of x)

abbrev pub MayExecute : By → List ℕ → State → Result ℕ StoreFault → State → Type 0
MayExecute by text x result y = MayEnd Ordinary (executed by text x).end (executed by text x).work.written (kept_open (executed by text x).work x) x result y

abbrev pub finished : State → Work
finished x = committed (work_of x)

abbrev pub MayCommit : {T : Type 0} → State → Result T StoreFault → State → Type 0
MayCommit x (Ok _) y = HasRoom Ordinary (finished x).written x × (y ≡ closed (finished x) x)
MayCommit x (Err Disk) y = Fails (finished x).written x y
MayCommit x (Err (Full used next)) y = IsFull Ordinary (finished x).written x used next × (y ≡ x)
MayCommit x (Err _) y = ⊥

abbrev pub aborted : State → State
aborted x = record x { begun = None }

abbrev pub done_alone : List ByText → State → Outcome
done_alone texts x = outcome_all x.dialect texts (work_in None x.committed)

abbrev pub ran_alone : {T : Type 0} → Result T StoreFault → End → Result ℕ StoreFault
ran_alone (Ok _) (Ran n) = Ok n
ran_alone (Ok _) _ = Ok 0
ran_alone (Err fault) end = Err fault

abbrev pub MayAlone : {T : Type 0} → ℕ → List ByText → Room → State → Result T StoreFault → State → Type 0
MayAlone session texts room x (Err (Busy n)) y = (other session x ≡ Some n) × (y ≡ x)
MayAlone session texts room x result y = (other session x ≡ None) × MayEnd room (done_alone texts x).end (done_alone texts x).work.written (closed (done_alone texts x).work x) x (ran_alone result (done_alone texts x).end) y

-- the count does not fall, and a disk fault comes only where it rose
pub record CountsDisk {T : Type 0} (result : Result T StoreFault) (before now : ℕ) : Type 0 where
  pub later : before ≤ now
  pub rose : result ≡ Err Disk → Rose before now

abbrev pub is_of_texts : Entry → Bool
is_of_texts (Texts texts) = true
is_of_texts (Stated bytes) = false

-- a transaction stands behind the last state, or there is no state and a transaction
abbrev pub ends_in_texts : List Entry → Bool
ends_in_texts entries = unwrap_or (last_or None (map is_of_texts entries)) false

-- the entry of a state
abbrev pub stated : Catalogue → List Entry
stated c = Stated (bytes_of c) ∷ []

-- A snapshot: one entry more, of the committed catalogue, and its size, where a transaction stands behind the last state; else nothing, and 0.
abbrev pub MaySnapshot : State → Result ℕ StoreFault → State → Type 0
MaySnapshot x (Ok zero) y = IfSome x.entries (λ there. ends_in_texts there ≡ false) × (y ≡ x)
MaySnapshot x (Ok (suc n)) y = IfSome x.entries (λ there. ends_in_texts there ≡ true) × ((suc n ≡ size_of_all (stated x.committed)) × (HasRoom Ordinary (stated x.committed) x × (y ≡ with_entries (stated x.committed) x)))
MaySnapshot x (Err Disk) y = Fails (stated x.committed) x y
MaySnapshot x (Err (Full used next)) y = IsFull Ordinary (stated x.committed) x used next × (y ≡ x)
MaySnapshot x (Err OutOfMemory) y = y ≡ x
MaySnapshot x (Err _) y = ⊥
