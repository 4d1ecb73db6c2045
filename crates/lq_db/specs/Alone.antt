-- Texts run in a transaction of their own, all in the engine before anything is written.
use Rattle.std.specs.Prelude.{Bool, Err, IfSome, List, None, Ok, Option, Result, Some, [], false, length, suc, true, zero, ℕ, ◌++◌, ◌+◌, ◌<◌, ◌∷◌, ◌≡◌}
use Rattle.lq_base.specs.declared.dialect.Dialect.{Dialect}
use Rattle.lq_base.specs.declared.reason.Reason.{Reason}
use Rattle.lq_base.specs.declared.tracking.Lock.{Lock}
use Rattle.lq_db.specs.Db.{AreLast, IsLockOf, Stays, last_text, with_all, with_entry, with_text}
use Rattle.lq_db.specs.declared.alone.Prepared.{Prepared}
use Rattle.lq_db.specs.declared.running.Ended.{Ended}
use Rattle.lq_db.specs.declared.running.Ended.TheVariants as ended
use Rattle.lq_db.specs.declared.running.Running.{Running}
use Rattle.lq_entries.specs.Log.{IsCut, Log, entries_of, gained}
use Rattle.lq_model.specs.Catalogue.{Catalogue}
use Rattle.lq_model.specs.Sound.{IsSound}
use Rattle.lq_model.specs.declared.caller.Room.TheVariants.{Ordinary}
use Rattle.lq_model.specs.declared.fault.StoreFault.{StoreFault}
use Rattle.lq_model.specs.declared.fault.StoreFault.TheVariants.{Disk, Full, NotSql, OutOfMemory, Refused}
use Rattle.lq_session.specs.Session.{IsCleared, Side, lock_in, side, texts_in}
use Rattle.lq_session.specs.declared.open.Open.{Open}
use Rattle.lq_store.specs.Executor.{Held, back, forgotten, kept}
use Rattle.lq_store.specs.Journal.{Entry, end_of, is_full, of_texts, run_entries, run_texts, size_of_all}
use Rattle.lq_store.specs.Journal.Entry.{Texts}
use Rattle.lq_store.specs.Work.{End, Outcome, Work}
use Rattle.lq_store.specs.Work.End.{NoStatement, Ran, Stopped}

-- so many runs taken back
abbrev pub rewound : ℕ → Held → Held
rewound zero h = h
rewound (suc n) h = rewound n (back h)

-- what the entries that are complete lead to
abbrev pub cut : Held → Running → Catalogue
cut h t = (rewound t.runs h).now

abbrev pub work : Held → Running → Work
work h t = record { written = of_texts t.entries; committed = cut h t; now = h.now; texts = texts_in t.entry }

-- The complete entries lead from what is committed to the cut, and the texts since then to what the engine has.
pub record IsRunning (d : Dialect) (h : Held) (t : Running) : Type 0 where
  pub dialect_is : h.dialect ≡ d
  pub sound_now : IsSound d h.now
  pub sound_cut : IsSound d (cut h t)
  pub ran : run_entries d (of_texts t.entries) (Some (kept h)) ≡ Some (cut h t)
  pub runs : run_texts d (texts_in t.entry) (cut h t) ≡ Some h.now
  pub last_is : AreLast (of_texts t.entries) (texts_in t.entry) t.texts
  pub some : IfSome t.entry (λ texts. 0 < length texts)

-- the texts so far are a complete entry
pub record IsClosed (old new : Running) : Type 0 where
  pub entries_are : of_texts new.entries ≡ of_texts old.entries ++ entries_of old.entry
  pub entry_is : new.entry ≡ None
  pub runs_are : new.runs ≡ 0
  pub texts_are : new.texts ≡ with_all old.texts

-- the text of a statement that ran is taken up: by itself where it commits by itself
abbrev pub TakesUp : Bool → List ℕ → Running → Running → Type 0
TakesUp true text old new = (of_texts new.entries ≡ (of_texts old.entries ++ entries_of old.entry) ++ Texts (text ∷ []) ∷ []) × ((new.entry ≡ None) × ((new.runs ≡ 0) × (new.texts ≡ with_entry text)))
TakesUp false text old new = (new.entries ≡ old.entries) × ((texts_in new.entry ≡ texts_in old.entry ++ text ∷ []) × (IfSome new.entry (λ texts. 0 < length texts) × ((new.runs ≡ old.runs + 1) × (new.texts ≡ with_text text old.texts))))

abbrev pub ended_by : Ended → ℕ → End
ended_by ended.Ran n = Ran n
ended_by (ended.Stopped reason) n = Stopped reason

-- nothing more is to run: the entries are those that are written, and the engine has what they lead to
pub record IsDone (d : Dialect) (end : End) (o : Outcome) (h k : Held) (entries : List Entry) : Type 0 where
  pub end_is : o.end ≡ end
  pub written_is : o.work.written ≡ entries
  pub committed_is : o.work.committed ≡ k.now
  pub ran : run_entries d entries (Some (kept k)) ≡ Some k.now
  pub sound : IsSound d k.now
  pub stays : Stays h k

-- one text ran, or ended the run
abbrev pub RanOne : Dialect → Outcome → Held → Result Ended StoreFault → Held → Running → Type 0
RanOne d o h (Ok ended.Ran) k new = (n : ℕ) × (o ≡ record { end = Ran n; work = work k new }) × Stays h k × IsRunning d k new
RanOne d o h (Ok (ended.Stopped reason)) k new = IsDone d (Stopped reason) o h k (of_texts new.entries) × (new.texts.in_journal ≡ last_text (of_texts new.entries))
RanOne d o h (Err NotSql) k new = (o.end ≡ NoStatement) × Stays h k
RanOne d o h (Err OutOfMemory) k new = Stays h k
RanOne d o h (Err _) k new = ⊥

-- they all ran, or the first that did not ended the run
abbrev pub RanAll : Dialect → Outcome → Held → Result Ended StoreFault → Held → Running → Type 0
RanAll d o h (Ok end) k new = IsDone d (ended_by end 0) o h k (of_texts new.entries) × (new.texts.in_journal ≡ last_text (of_texts new.entries))
RanAll d o h (Err NotSql) k new = (o.end ≡ NoStatement) × Stays h k
RanAll d o h (Err OutOfMemory) k new = Stays h k
RanAll d o h (Err _) k new = ⊥

-- an engine with nothing to undo, at a sound catalogue of the dialect
pub record IsAtRest (d : Dialect) (h : Held) : Type 0 where
  pub dialect_is : h.dialect ≡ d
  pub sound : IsSound d h.now
  pub kept_is : h.now ≡ kept h

-- the entries to write, and the lock that is committed with them
abbrev pub MayPrepare : Dialect → Outcome → Held → Result Prepared StoreFault → Held → Type 0
MayPrepare d o h (Ok prepared) k = IsDone d (ended_by prepared.ended 0) o h k (of_texts prepared.entries) × (prepared.size ≡ size_of_all (of_texts prepared.entries)) × IsLockOf d k.now prepared.lock × (prepared.last ≡ last_text (of_texts prepared.entries))
MayPrepare d o h (Err NotSql) k = (o.end ≡ NoStatement) × Stays h k
MayPrepare d o h (Err OutOfMemory) k = Stays h k
MayPrepare d o h (Err _) k = ⊥

-- What a statement of definitions does under mysql, in an open transaction: it commits what was before it, and itself.

-- the entries that it writes: a refused one has committed what was before it
abbrev pub itself_entries : List ℕ → Result (Catalogue × ℕ) Reason → Open → List Entry
itself_entries text (Ok ran) old = entries_of old.entry ++ Texts (text ∷ []) ∷ []
itself_entries text (Err reason) old = entries_of old.entry

-- all that the session sees is committed
pub record IsKept (d : Dialect) (c : Catalogue) (x y : Side) : Type 0 where
  pub dialect_is : y.held.dialect ≡ x.held.dialect
  pub now_is : y.held.now ≡ c
  pub kept_is : kept y.held ≡ c
  pub cleared : IsCleared x.begun y.begun
  pub lock_is : IsLockOf d x.held.now (lock_in x.begun.lock x.lock) → IsLockOf d c y.lock

abbrev pub fits : List Entry → Log → Bool
fits entries x = is_full (end_of Ordinary x.limit) x.used entries

abbrev pub MayRunItself : Dialect → List ℕ → Result (Catalogue × ℕ) Reason → Log → Side → Result ℕ StoreFault → Log → Side → Type 0
MayRunItself d text meant x a (Ok n) y b = (c : Catalogue) × (meant ≡ Ok (c, n)) × (fits (itself_entries text meant a.begun) x ≡ false) × (y ≡ gained (itself_entries text meant a.begun) x) × IsKept d c a b
MayRunItself d text meant x a (Err (Refused reason)) y b = (meant ≡ Err reason) × (fits (itself_entries text meant a.begun) x ≡ false) × (y ≡ gained (itself_entries text meant a.begun) x) × IsKept d a.held.now a b
MayRunItself d text meant x a (Err Disk) y b = IsCut (itself_entries text meant a.begun) x y
MayRunItself d text meant x a (Err (Full used next)) y b = (fits (itself_entries text meant a.begun) x ≡ true) × (used ≡ x.used) × (next ≡ size_of_all (itself_entries text meant a.begun)) × (y ≡ x) × (b ≡ a)
MayRunItself d text meant x a (Err OutOfMemory) y b = (y ≡ x) × (b ≡ a)
MayRunItself d text meant x a (Err _) y b = ⊥

-- the last run is taken back
abbrev pub stepped_back : Side → Side
stepped_back x = record x { held = back x.held }

-- what writing a statement that has run does: to a journal x, where the engine's run is the last
abbrev pub MayKeep : {T : Type 0} → Dialect → List Entry → Log → Side → Result T StoreFault → Log → Side → Type 0
MayKeep d written x a (Ok _) y b = (fits written x ≡ false) × (y ≡ gained written x) × (b.held ≡ forgotten a.held) × IsCleared a.begun b.begun × IsLockOf d a.held.now b.lock
MayKeep d written x a (Err Disk) y b = IsCut written x y
MayKeep d written x a (Err (Full used next)) y b = (fits written x ≡ true) × (used ≡ x.used) × (next ≡ size_of_all written) × (y ≡ x) × (b ≡ stepped_back a)
MayKeep d written x a (Err OutOfMemory) y b = (y ≡ x) × (b ≡ stepped_back a)
MayKeep d written x a (Err _) y b = ⊥
