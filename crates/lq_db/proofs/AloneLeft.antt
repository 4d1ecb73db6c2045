-- What a call leaves that runs texts in a transaction of their own.
use Rattle.std.proofs.Common.{◌≡◌, ◌∙◌, ◌<◌, ℕ, Bool, true, false, List, [], ◌∷◌, ◌++◌, length, Ok, Err, Result, Option, None, Some, IfSome, refl, sym, ap, subst}
use Rattle.std.specs.Option.{option_map}
use Rattle.lq_base.specs.declared.dialect.Dialect.{Dialect}
use Rattle.lq_base.specs.declared.reason.Reason.{Reason}
use Rattle.lq_base.specs.declared.tracking.Lock.{Lock}
use Rattle.lq_db.specs.Alone.{IsAtRest, IsDone, IsRunning, MayPrepare, work}
use Rattle.lq_db.specs.Db.{IsBegun, IsHeld, Stays, IsLockOf}
use Rattle.lq_session.specs.Session.{begun_in}
use Rattle.lq_entries.specs.Log.{IsCut, Log, gained}
use Rattle.lq_session.specs.declared.open.Open.{Open}
use Rattle.lq_db.specs.declared.running.Running.{Running}
use Rattle.lq_db.proofs.Commits.{failed, journal_with, state}
use Rattle.lq_model.specs.Catalogue.{Catalogue}
use Rattle.lq_model.specs.Sound.{IsSound}
use Rattle.lq_model.specs.declared.caller.ByText.{ByText}
use Rattle.lq_model.specs.declared.caller.Room.{Room}
use Rattle.lq_model.specs.declared.fault.StoreFault.{StoreFault}
use Rattle.lq_model.specs.declared.fault.StoreFault.TheVariants.{Refused, NotSql, Disk, Full, OutOfMemory}
use Rattle.lq_store.specs.Calls.{MayAlone, done_alone}
use Rattle.lq_store.specs.Executor.{Held, forgotten, kept, undone}
use Rattle.lq_store.specs.Journal.{Entry, database, end_of, is_full, run_entries, size_of_all}
use Rattle.lq_store.specs.Work.{End, Outcome, outcome_all, work_in}
use Rattle.lq_store.specs.Work.End.{Ran, Stopped, NoStatement}

-- no transaction is open

pub closed_same : (d : Dialect) (h : Held) (lock : Lock) (b : Option Open) → b ≡ None → IsBegun d h lock b → h.now ≡ kept h
closed_same d h lock b is begun = subst (IsBegun d h lock) is begun

pub at_rest : (d : Dialect) (h : Held) (es : Option (List Entry)) (lock : Lock) (b : Option Open) → b ≡ None → IsHeld d h es lock b → IsAtRest d h
at_rest d h es lock b is held = record { dialect_is = held.dialect_is; sound = held.sound_now; kept_is = closed_same d h lock b is held.begun_is }

abbrev pub fresh : Running
fresh = record { entries = []; entry = None; runs = 0; texts = record { in_journal = None; waiting = None } }

pub running_at_rest : (d : Dialect) (h : Held) → IsAtRest d h → IsRunning d h fresh
running_at_rest d h rest = record {
  dialect_is = rest.dialect_is;
  sound_now = rest.sound;
  sound_cut = rest.sound;
  ran = ap Some (sym rest.kept_is);
  runs = refl;
  last_is = record { in_journal = refl; waiting = refl };
  some = tt;
}

pub same_work : (h : Held) → h.now ≡ kept h → work_in None (kept h) ≡ work h fresh
same_work h same = rw (sym same) refl

-- the engine goes back to what is committed
pub undone_held : (d : Dialect) (h k : Held) (es : Option (List Entry)) (lock : Lock) (b : Option Open) → b ≡ None → Stays h k → IsHeld d h es lock b → IsHeld d (undone k) es lock b
undone_held d h k es lock b is stays held =
    let kept_is = sym stays.kept_is in
    record {
      dialect_is = stays.dialect_is ∙ held.dialect_is;
      is_journal = subst (λ c. IfSome es (λ there. database d there ≡ Some c)) kept_is held.is_journal;
      sound = subst (IsSound d) kept_is held.sound;
      sound_now = subst (IsSound d) kept_is held.sound;
      lock_is = subst (λ c. IsLockOf d c lock) kept_is held.lock_is;
      begun_is = rw is refl;
    }

-- what the entries lead to is committed
pub done_held : (d : Dialect) (end : End) (o : Outcome) (h k : Held) (entries : List Entry) (es now_es : Option (List Entry)) (lock now_lock : Lock) (b : Option Open) → b ≡ None → IsDone d end o h k entries → IsLockOf d k.now now_lock
    → now_es ≡ option_map (λ there. there ++ entries) es → IsHeld d h es lock b → IsHeld d (forgotten k) now_es now_lock b
done_held d end o h k entries es now_es lock now_lock b is done locked es_is held =
    let there : IfSome es (λ there. database d there ≡ Some (kept k)) = subst (λ c. IfSome es (λ there. database d there ≡ Some c)) (sym done.stays.kept_is) held.is_journal in
    rw es_is (record {
      dialect_is = done.stays.dialect_is ∙ held.dialect_is;
      is_journal = journal_with d es entries (kept k) k.now there done.ran;
      sound = done.sound;
      sound_now = done.sound;
      lock_is = locked;
      begun_is = rw is refl;
    })

-- what a call does that runs texts so, the outcome being o

abbrev Does : Dialect → List ByText → ℕ → Room → Held → Option Open → Log → Bool → Result (Unit {0}) StoreFault → Held → Log → Bool → Type 0
Does d texts session room h b x live result k y now_live = MayAlone {T = Unit {0}} session texts room (state d (kept h) (begun_in h b) x live) result (state d (kept k) (begun_in k b) y now_live)

module _ (d : Dialect) (texts : List ByText) (session : ℕ) (room : Room) (h k : Held) (b : Option Open) (x y : Log) (live : Bool) (none : b ≡ None) (entries : List Entry) where
  abbrev pub o : Outcome
  o = outcome_all d texts (work_in None (kept h))

  pub alone_ran : IsDone d (Ran 0) o h k entries → is_full (end_of room x.limit) x.used entries ≡ false → y ≡ gained entries x → Does d texts session room h b x live (Ok tt) (forgotten k) y live
  alone_ran done fits y_is = rw (none, y_is, done.end_is, done.written_is, done.committed_is) (refl, (refl, (fits, refl)))

  pub alone_stopped : (reason : Reason) → IsDone d (Stopped reason) o h k entries → is_full (end_of room x.limit) x.used entries ≡ false → y ≡ gained entries x → Does d texts session room h b x live (Err (Refused reason)) (forgotten k) y live
  alone_stopped reason done fits y_is = rw (none, y_is, done.end_is, done.written_is, done.committed_is) (refl, (refl, (fits, refl)))

  pub alone_full : (end : End) (used next : ℕ) → IsDone d end o h k entries → is_full (end_of room x.limit) x.used entries ≡ true → used ≡ x.used → next ≡ size_of_all entries → y ≡ x → Does d texts session room h b x live (Err (Full used next)) (undone k) y live
  alone_full end used next done full used_is next_is y_is = rw (none, y_is, done.written_is, done.stays.kept_is) (refl, ((full, (used_is, next_is)), refl))

  pub alone_failed : (end : End) → IsDone d end o h k entries → IsCut entries x y → Does d texts session room h b x live (Err Disk) k y false
  alone_failed end done failing = rw none (refl, failed o.work.written entries d (kept h) (kept k) None None x y live done.written_is failing)

  pub alone_written : (end : End) → IsDone d end o h k entries → (done_alone texts (state d (kept h) (begun_in h b) x live)).work.written ≡ entries
  alone_written end done = done.written_is

-- want of memory, or a text that is no statement

pub alone_back : (d : Dialect) (texts : List ByText) (session : ℕ) (room : Room) (h k : Held) (b : Option Open) (x y : Log) (live : Bool) → b ≡ None → Stays h k → y ≡ x → Does d texts session room h b x live (Err OutOfMemory) (undone k) y live
alone_back d texts session room h k b x y live none stays y_is = rw (none, y_is, stays.kept_is) (refl, refl)

pub alone_not_sql : (d : Dialect) (texts : List ByText) (session : ℕ) (room : Room) (h k : Held) (b : Option Open) (x : Log) (live : Bool) → b ≡ None → Stays h k → (outcome_all d texts (work_in None (kept h))).end ≡ NoStatement
    → Does d texts session room h b x live (Err NotSql) (undone k) x live
alone_not_sql d texts session room h k b x live none stays end_is = rw (none, stays.kept_is, end_is) (refl, (refl, refl))

-- a fault of the texts committed nothing
pub stays_after : (d : Dialect) (o : Outcome) (h k : Held) (fault : StoreFault) → MayPrepare d o h (Err fault) k → Stays h k
stays_after d o h k NotSql (end_is, stays) = stays
stays_after d o h k OutOfMemory stays = stays
stays_after d o h k _ never = absurd never

pub alone_refused : (d : Dialect) (texts : List ByText) (session : ℕ) (room : Room) (h k : Held) (b : Option Open) (x : Log) (live : Bool) (fault : StoreFault) → b ≡ None → MayPrepare d (outcome_all d texts (work_in None (kept h))) h (Err fault) k
    → Does d texts session room h b x live (Err fault) (undone k) x live
alone_refused d texts session room h k b x live NotSql none (end_is, stays) = alone_not_sql d texts session room h k b x live none stays end_is
alone_refused d texts session room h k b x live OutOfMemory none stays = alone_back d texts session room h k b x x live none stays refl
alone_refused d texts session room h k b x live _ none never = absurd never
