-- The last text of a journal.
use Rattle.std.specs.List.{last_or}
use Rattle.std.specs.Option.{option_map, option_or}
use Rattle.std.specs.Prelude.{Bool, Err, IfSome, List, None, Ok, Option, Result, Some, [], cond, false, length, true, unwrap_or, zero, ℕ, ◌++◌, ◌<◌, ◌∷◌, ◌≡◌}
use Rattle.lq_base.specs.declared.dialect.Dialect.{Dialect}
use Rattle.lq_base.specs.declared.reason.Reason.{Reason}
use Rattle.lq_base.specs.declared.tracking.Lock.{Lock}
use Rattle.lq_codec.specs.State.{state_of}
use Rattle.lq_codec.specs.Tables.{bytes_of}
use Rattle.lq_db.specs.declared.db.Db.{Db}
use Rattle.lq_db.specs.declared.last_texts.LastTexts.{LastTexts}
use Rattle.lq_entries.specs.Log.{IsWhole, crashes_in, entries_in}
use Rattle.lq_journal.specs.State.{dialect_of, disk_of, limit_of, used_of}
use Rattle.lq_journal.specs.declared.journal.Journal.{Journal}
use Rattle.lq_model.specs.Catalogue.{Catalogue}
use Rattle.lq_model.specs.Sound.{IsSound}
use Rattle.lq_model.specs.declared.caller.By.{By}
use Rattle.lq_model.specs.declared.caller.By.TheVariants.{User}
use Rattle.lq_model.specs.declared.fault.StoreFault.{StoreFault}
use Rattle.lq_model.specs.declared.fault.StoreFault.TheVariants.{Disk, OutOfMemory, Refused}
use Rattle.lq_model.specs.declared.statement.Statement.{Statement}
use Rattle.lq_model.specs.declared.statement.Statement.TheVariants.{Insert}
use Rattle.lq_outside.specs.Crash.{Crashes as DiskCrashes}
use Rattle.lq_session.specs.Session.{begun_in, lock_in, texts_in}
use Rattle.lq_session.specs.declared.open.Open.{Open}
use Rattle.lq_store.specs.Calls.{ends_in_texts, stated}
use Rattle.lq_store.specs.Executor.{Held, kept}
use Rattle.lq_store.specs.Journal.{Crashes, Entry, IsStore, State, Transaction, database, run_texts}
use Rattle.lq_store.specs.Journal.Entry.{Stated, Texts}
use Rattle.lq_track.specs.Database.{lock_of}

-- the last text after entries, where it was so before them: none stands behind a state until texts do
abbrev pub last_after : Option (List ℕ) → List Entry → Option (List ℕ)
last_after last [] = last
last_after last (Texts texts ∷ entries) = last_after (last_or last texts) entries
last_after last (Stated bytes ∷ entries) = last_after None entries

-- the last text of the entries behind the last state, of which each has a text: none where nothing stands behind it
abbrev pub last_text : List Entry → Option (List ℕ)
last_text entries = last_after None entries

-- what the calls leave

abbrev pub with_text : List ℕ → LastTexts → LastTexts
with_text text t = record t { waiting = Some text }

abbrev pub with_all : LastTexts → LastTexts
with_all t = record { in_journal = option_or t.waiting t.in_journal; waiting = None }

abbrev pub with_entry : List ℕ → LastTexts
with_entry text = record { in_journal = Some text; waiting = None }

abbrev pub with_last : Option (List ℕ) → LastTexts → LastTexts
with_last last t = record t { in_journal = option_or last t.in_journal }

abbrev pub after_taken : Result ℕ StoreFault → List ℕ → LastTexts → LastTexts
after_taken (Ok n) text t = with_text text t
after_taken (Err fault) text t = t

-- one that is refused has committed what was before it
abbrev pub after_itself : Result ℕ StoreFault → List ℕ → LastTexts → LastTexts
after_itself (Ok n) text t = with_entry text
after_itself (Err (Refused reason)) text t = with_all t
after_itself (Err _) text t = t

-- behind a state that was written no text stands
abbrev pub after_state : Result ℕ StoreFault → LastTexts → LastTexts
after_state (Ok n) t = record t { in_journal = None }
after_state (Err fault) t = t

-- they are those of these entries, and of these texts behind them
pub record AreLast (entries : List Entry) (texts : List (List ℕ)) (t : LastTexts) : Type 0 where
  pub in_journal : t.in_journal ≡ last_text entries
  pub waiting : t.waiting ≡ last_or None texts

-- they are those of a journal, where it is told, and of the transaction that is open, if one is
pub record TellLast (entries : Option (List Entry)) (begun : Option Open) (t : LastTexts) : Type 0 where
  pub in_journal : IfSome entries (λ there. t.in_journal ≡ last_text there)
  pub waiting : IfSome begun (λ b. t.waiting ≡ last_or None (texts_in b.entry))

-- How what reads the lock answers.

-- the lock, where the catalogue has one that can be read
abbrev pub IsLockOf : Dialect → Catalogue → Lock → Type 0
IsLockOf d c lock = IfSome (lock_of d c) (λ meant. lock ≡ meant)

-- a statement that leaves it as it is: a user's INSERT, since its table is reserved
abbrev pub leaves_lock : By → Statement → Bool
leaves_lock User (Insert t ns ls) = true
leaves_lock by s = false

-- What a database in a journal holds.

abbrev pub disk_in : {D P E : Type 0} → Db D P E → D
disk_in db = disk_of db.journal

abbrev pub engine_in : {D P E : Type 0} → Db D P E → E
engine_in db = db.engine

-- the state of a database, by what its disk tells and what its engine holds
abbrev pub state : {D P E : Type 0} → Option (List ℕ) → Held → Db D P E → State
state told h db = record {
  dialect = db.dialect;
  committed = kept h;
  begun = begun_in h db.begun;
  entries = entries_in (dialect_of db.journal) (limit_of db.journal) told;
  used = used_of db.journal;
  limit = limit_of db.journal;
  live = db.live;
}

abbrev pub crashes : {D P E : Type 0} → DiskCrashes → Db D P E → Crashes
crashes disk db = crashes_in (dialect_of db.journal) (limit_of db.journal) disk

-- The texts of an open transaction lead from what is committed to what its session sees.
pub record IsOpen (d : Dialect) (h : Held) (lock : Lock) (t : Open) : Type 0 where
  pub runs : run_texts d (texts_in t.entry) (kept h) ≡ Some h.now
  pub lock_is : IsLockOf d h.now (lock_in t.lock lock)
  pub some : IfSome t.entry (λ texts. 0 < length texts)

abbrev pub IsBegun : Dialect → Held → Lock → Option Open → Type 0
IsBegun d h lock None = h.now ≡ kept h
IsBegun d h lock (Some t) = IsOpen d h lock t

-- the engine holds what the journal stands for, and the work of the open transaction
pub record IsHeld (d : Dialect) (h : Held) (entries : Option (List Entry)) (lock : Lock) (begun : Option Open) : Type 0 where
  pub dialect_is : h.dialect ≡ d
  pub is_journal : IfSome entries (λ there. database d there ≡ Some (kept h))
  pub sound : IsSound d (kept h)
  pub sound_now : IsSound d h.now
  pub lock_is : IsLockOf d (kept h) lock
  pub begun_is : IsBegun d h lock begun

pub record IsDb {D P E : Type 0} (d : Dialect) (told : Option (List ℕ)) (disk : DiskCrashes) (h : Held) (db : Db D P E) : Type 0 where
  pub whole : IsWhole told disk db.journal
  pub sql_is : d ≡ db.dialect
  pub journal_is : dialect_of db.journal ≡ db.dialect
  pub is_held : IsHeld db.dialect h (entries_in (dialect_of db.journal) (limit_of db.journal) told) db.lock db.begun
  pub last_is : TellLast (entries_in (dialect_of db.journal) (limit_of db.journal) told) db.begun db.texts

-- It is as its calls leave it: its journal is always one of its dialect.
pub record IsValid {D P E : Type 0} (d : Dialect) (told : Option (List ℕ)) (disk : DiskCrashes) (h : Held) (db : Db D P E) : Type 0 where
  pub journal_is : dialect_of db.journal ≡ db.dialect
  pub lives : db.live ≡ true → IsDb d told disk h db

-- what no run changes
pub record Stays (x y : Held) : Type 0 where
  pub dialect_is : y.dialect ≡ x.dialect
  pub kept_is : kept y ≡ kept x

-- a text more in an open transaction, whose session sees the catalogue c now
pub record IsAdded (d : Dialect) (text : List ℕ) (c : Catalogue) (old new : Open) : Type 0 where
  pub session_is : new.session ≡ old.session
  pub texts_are : texts_in new.entry ≡ texts_in old.entry ++ text ∷ []
  pub some : IfSome new.entry (λ texts. 0 < length texts)
  pub lock_is : (committed : Lock) → IsLockOf d c (lock_in new.lock committed)

-- what running a statement in an open transaction does, by what the statement means
abbrev pub MayTake : Dialect → List ℕ → Result (Catalogue × ℕ) Reason → Held → Open → Result ℕ StoreFault → Held → Open → Type 0
MayTake d text meant x old (Ok n) y new = (c : Catalogue) × (meant ≡ Ok (c, n)) × (y.now ≡ c) × Stays x y × IsAdded d text c old new
MayTake d text meant x old (Err (Refused reason)) y new = (meant ≡ Err reason) × (y ≡ x) × (new ≡ old)
MayTake d text meant x old (Err OutOfMemory) y new = (y ≡ x) × (new ≡ old)
MayTake d text meant x old (Err _) y new = ⊥

-- a disk fault ends a store's life
abbrev pub lives : {T : Type 0} → Result T StoreFault → Bool → Bool
lives (Err Disk) live = false
lives _ live = live

-- just loaded: it lives, and no session has a transaction open
pub record IsNew {D P E : Type 0} (d : Dialect) (limit : ℕ) (db : Db D P E) : Type 0 where
  pub dialect_is : db.dialect ≡ d
  pub limit_is : limit_of db.journal ≡ limit
  pub live : db.live ≡ true
  pub closed : db.begun ≡ None

-- a snapshot that answers so wrote nothing: none was needed, or memory was wanting
abbrev pub is_unwritten : Result ℕ StoreFault → Bool
is_unwritten (Ok zero) = true
is_unwritten (Err OutOfMemory) = true
is_unwritten _ = false

-- a state is due, and its bytes are read as what is committed
pub record HasState (x : State) : Type 0 where
  pub due : IfSome x.entries (λ there. ends_in_texts there ≡ true)
  pub reads : state_of x.dialect (bytes_of x.committed) ≡ Some x.committed

-- what a snapshot writes: a state, where a transaction stands behind the last one
abbrev pub snapshot_entries : State → List Entry
snapshot_entries x = cond (unwrap_or (option_map ends_in_texts x.entries) false) (stated x.committed) []

-- That a database as its calls leave it is a store.

now_sound : (d : Dialect) (h : Held) (begun : Option Open) → IsSound d h.now → IfSome (begun_in h begun) (λ t. IsSound d t.now)
now_sound d h None sound = tt
now_sound d h (Some t) sound = sound

pub is_store : {D P E : Type 0} {d : Dialect} {told : Option (List ℕ)} {disk : DiskCrashes} {h : Held} (db : Db D P E) → IsDb d told disk h db → IsStore (state told h db)
is_store {h = h} db is = record { is_journal = is.is_held.is_journal; sound = is.is_held.sound; sound_now = now_sound db.dialect h db.begun is.is_held.sound_now }
