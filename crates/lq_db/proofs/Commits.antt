-- What a commit leaves.
use Rattle.std.proofs.Common.{◌≡◌, ◌∙◌, ◌<◌, ◌==◌, cond, ℕ, Bool, true, false, List, [], ◌∷◌, ◌++◌, length, take, Ok, Err, Result, Option, None, Some, IfSome, refl, sym, ap, subst, arith}
use Rattle.std.specs.Option.{option_and_then, option_map}
use Rattle.lq_base.specs.declared.dialect.Dialect.{Dialect}
use Rattle.lq_base.specs.declared.tracking.Lock.{Lock}
use Rattle.lq_model.specs.Catalogue.{Catalogue, no_objects}
use Rattle.lq_model.specs.Script.{if_any}
use Rattle.lq_model.specs.declared.caller.Room.TheVariants.{Ordinary}
use Rattle.lq_model.specs.declared.fault.StoreFault.{StoreFault}
use Rattle.lq_model.specs.declared.fault.StoreFault.TheVariants.{Busy, Full}
use Rattle.lq_journal.specs.declared.fault.AppendFault.TheVariants as append
use Rattle.lq_store.specs.Calls.{Fails, IsBusy, MayCommit}
use Rattle.lq_store.specs.Journal.{Entry, database, end_of, is_full, of_texts, run_entries, run_entry, run_texts, State, Transaction, other, other_in, seen_in}
use Rattle.lq_store.specs.Work.{committed, work_in}
use Rattle.lq_store.specs.Executor.{Held, forgotten, kept}
use Rattle.lq_db.specs.Db.{IsBegun, IsHeld, IsOpen}
use Rattle.lq_session.specs.Session.{Side, begun_in, lock_in, side, texts_in}
use Rattle.lq_entries.specs.Log.{IsCut, Log, MayAppend, entries_of, gained}
use Rattle.lq_session.specs.declared.open.Open.{Open}

abbrev pub state : Dialect → Catalogue → Option Transaction → Log → Bool → State
state d c begun x live = record { dialect = d; committed = c; begun = begun; entries = x.entries; used = x.used; limit = x.limit; live = live }

pub open_is : (d : Dialect) (h : Held) (lock : Lock) (b : Option Open) (t : Open) → b ≡ Some t → IsBegun d h lock b → IsOpen d h lock t
open_is d h lock b t is begun = subst (IsBegun d h lock) is begun

-- an entry has a text at least
pub if_any_is : (e : Option (List (List ℕ))) → IfSome e (λ texts. 0 < length texts) → of_texts (if_any (texts_in e)) ≡ entries_of e
if_any_is None some = refl
if_any_is (Some []) some = absurd (omega (arith, some))
if_any_is (Some (text ∷ texts)) some = refl

pub written_is : (h : Held) (c : Catalogue) (b : Option Open) (t : Open) → b ≡ Some t → IfSome t.entry (λ texts. 0 < length texts) → (committed (work_in (begun_in h b) c)).written ≡ entries_of t.entry
written_is h c b t is some = rw is (if_any_is t.entry some)

pub committed_ok : (d : Dialect) (h k : Held) (b now : Option Open) (t : Open) (x y : Log) (live : Bool) → b ≡ Some t → now ≡ None → IfSome t.entry (λ texts. 0 < length texts)
    → k ≡ forgotten h → is_full (end_of Ordinary x.limit) x.used (entries_of t.entry) ≡ false → y ≡ gained (entries_of t.entry) x
    → MayCommit {T = Unit {0}} (state d (kept h) (begun_in h b) x live) (Ok tt) (state d (kept k) (begun_in k now) y live)
committed_ok d h k b now t x y live b_is now_is some k_is room y_is = rw (b_is, now_is, k_is, y_is, if_any_is t.entry some) (room, refl)

pub run_more : (d : Dialect) (es fs : List Entry) (o : Option Catalogue) → run_entries d (es ++ fs) o ≡ run_entries d fs (run_entries d es o)
run_more d [] fs o = refl
run_more d (entry ∷ es) fs o = run_more d es fs (run_entry d entry o)

pub run_one : (d : Dialect) (e : Option (List (List ℕ))) (c f : Catalogue) → run_texts d (texts_in e) c ≡ Some f → run_entries d (entries_of e) (Some c) ≡ Some f
run_one d None c f ran = ran
run_one d (Some texts) c f ran = ran

pub journal_with : (d : Dialect) (es : Option (List Entry)) (more : List Entry) (c f : Catalogue) → IfSome es (λ there. database d there ≡ Some c) → run_entries d more (Some c) ≡ Some f
    → IfSome (option_map (λ entries. entries ++ more) es) (λ there. database d there ≡ Some f)
journal_with d None more c f is ran = tt
journal_with d (Some there) more c f is ran = run_more d there more (Some no_objects) ∙ (ap (run_entries d more) is ∙ ran)

pub held_ok : (d : Dialect) (h k : Held) (es now_es : Option (List Entry)) (lock now_lock : Lock) (b now : Option Open) (t : Open) → b ≡ Some t → now ≡ None → k ≡ forgotten h
    → now_es ≡ option_map (λ entries. entries ++ entries_of t.entry) es → now_lock ≡ lock_in t.lock lock → IsHeld d h es lock b → IsHeld d k now_es now_lock now
held_ok d h k es now_es lock now_lock b now t b_is now_is k_is es_is lock_is held =
    let begun_is = open_is d h lock b t b_is held.begun_is in
    rw (now_is, k_is, es_is, lock_is) (record {
      dialect_is = held.dialect_is;
      is_journal = journal_with d es (entries_of t.entry) (kept h) h.now held.is_journal (run_one d t.entry (kept h) h.now begun_is.runs);
      sound = held.sound_now;
      sound_now = held.sound_now;
      lock_is = begun_is.lock_is;
      begun_is = refl;
    })

pub failed : (written entries : List Entry) (d : Dialect) (c e : Catalogue) (begun now : Option Transaction) (x y : Log) (live : Bool) → written ≡ entries → IsCut entries x y
    → Fails written (state d c begun x live) (state d e now y false)
failed written entries d c e begun now x y live is cut = rw is (record { dead = refl; dialect_is = refl; limit_is = cut.limit_is; front = cut.front; is_front = cut.is_front; entries_are = cut.entries_are })

pub held_same : (x y : Side) → x ≡ y → x.held ≡ y.held
held_same x y same = ap (λ (s : Side). s.held) same

pub begun_same : (x y : Side) → x ≡ y → x.begun ≡ y.begun
begun_same x y same = ap (λ (s : Side). s.begun) same

lock_same : (x y : Side) → x ≡ y → x.lock ≡ y.lock
lock_same x y same = ap (λ (s : Side). s.lock) same

-- what a call leaves that changed nothing
pub back_held : (d : Dialect) (h k : Held) (es now_es : Option (List Entry)) (lock now_lock : Lock) (old new : Open) → now_es ≡ es → side k new now_lock ≡ side h old lock → IsHeld d h es lock (Some old) → IsHeld d k now_es now_lock (Some new)
back_held d h k es now_es lock now_lock old new es_is same held = rw (es_is, held_same _ _ same, begun_same _ _ same, lock_same _ _ same) held

pub uncommitted_held : (d : Dialect) (h k : Held) (es now_es : Option (List Entry)) (lock now_lock : Lock) (b : Option Open) (old new : Open) → b ≡ Some old → now_es ≡ es → side k new now_lock ≡ side h old lock → IsHeld d h es lock b → IsHeld d k now_es now_lock (Some new)
uncommitted_held d h k es now_es lock now_lock b old new b_is es_is same held = back_held d h k es now_es lock now_lock old new es_is same (subst (IsHeld d h es lock) b_is held)

pub uncommitted : (d : Dialect) (h k : Held) (b : Option Open) (old new : Open) (lock now_lock : Lock) (x y : Log) (live : Bool) (used next : ℕ) → b ≡ Some old → IfSome old.entry (λ texts. 0 < length texts)
    → MayAppend {T = Unit {0}} Ordinary (entries_of old.entry) x (Err (append.Full used next)) y → side k new now_lock ≡ side h old lock
    → MayCommit {T = Unit {0}} (state d (kept h) (begun_in h b) x live) (Err (Full used next)) (state d (kept k) (begun_in k (Some new)) y live)
uncommitted d h k b old new lock now_lock x y live used next b_is some (full, (used_is, (next_is, y_is))) same =
    rw (b_is, y_is, held_same _ _ same, begun_same _ _ same, if_any_is old.entry some) ((full, (used_is, next_is)), refl)

-- where no other session has a transaction open, what is seen is what the engine has
pub seen_is : (d : Dialect) (h : Held) (lock : Lock) (b : Option Open) (session : ℕ) → IsBegun d h lock b → other_in session (begun_in h b) ≡ None → seen_in session (begun_in h b) (kept h) ≡ h.now
seen_is d h lock None session begun none = sym begun
seen_is d h lock (Some t) session begun none = by (t.session == session) none
  where
    by : (here : Bool) → cond here None (Some t.session) ≡ None → cond here h.now (kept h) ≡ h.now
    by true none = refl
    by false none = cc

pub is_busy : (session : ℕ) (x : State) (fault : StoreFault) → (n : ℕ) × (fault ≡ Busy n) × (other session x ≡ Some n) → IsBusy session x fault
is_busy session x fault (n, is, busy) = rw is busy
