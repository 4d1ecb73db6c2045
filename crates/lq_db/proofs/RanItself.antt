-- What a statement leaves that commits by itself.
use Rattle.std.proofs.Common.{◌≡◌, ◌∙◌, ◌<◌, ◌+◌, ℕ, Bool, true, false, List, [], ◌∷◌, ◌++◌, length, Ok, Err, Result, Option, None, Some, IfSome, refl, sym, ap, subst, arith}
use Rattle.std.specs.Option.{option_and_then, option_map}
use Rattle.lq_base.specs.declared.dialect.Dialect.{Dialect}
use Rattle.lq_base.specs.declared.reason.Reason.{Reason}
use Rattle.lq_base.specs.declared.tracking.Lock.{Lock}
use Rattle.lq_model.specs.Catalogue.{Catalogue, no_objects}
use Rattle.lq_model.proofs.KeepsSound.{statement_keeps}
use Rattle.lq_model.specs.Sound.{IsSound}
use Rattle.lq_model.specs.Step.{is_statement, step, commits_itself}
use Rattle.lq_model.specs.SqlText.{statement_in}
use Rattle.lq_model.specs.declared.caller.By.{By}
use Rattle.lq_model.specs.declared.fault.StoreFault.{StoreFault}
use Rattle.lq_model.specs.declared.fault.StoreFault.TheVariants.{Refused, Disk, Full, OutOfMemory}
use Rattle.lq_model.specs.declared.statement.Statement.{Statement}
use Rattle.lq_store.specs.Calls.{MayExecute, executed}
use Rattle.lq_store.specs.Journal.{Entry, database, run_entries, run_text, run_texts, State, Transaction}
use Rattle.lq_store.specs.Journal.Entry.{Texts}
use Rattle.lq_store.specs.Work.{Work, outcome_by, work_in}
use Rattle.lq_store.specs.Executor.{Held, kept}
use Rattle.lq_db.specs.Db.{IsBegun, IsHeld, IsOpen, lives, IsLockOf}
use Rattle.lq_session.specs.Session.{IsCleared, Side, begun_in, lock_in, side, texts_in}
use Rattle.lq_entries.specs.Log.{Log, UnlessFailed, entries_of, gained}
use Rattle.lq_db.specs.Alone.{IsKept, MayRunItself, itself_entries}
use Rattle.lq_session.specs.declared.open.Open.{Open}
use Rattle.lq_db.proofs.Commits.{back_held, begun_same, failed, held_same, if_any_is, journal_with, open_is, run_more, run_one, state}
use Rattle.lq_loading.proofs.Raises.{ran_text}

-- the entries that it writes
pub itself_written : (d : Dialect) (by : By) (text : List ℕ) (s : Statement) (h : Held) (b : Option Open) (old : Open) (x : Log) (live : Bool) → b ≡ Some old → IfSome old.entry (λ texts. 0 < length texts)
    → statement_in d text ≡ Some s → commits_itself d s ≡ true
    → (executed by text (state d (kept h) (begun_in h b) x live)).work.written ≡ itself_entries text (step by d s h.now) old
itself_written d by text s h b old x live b_is some spelled itself = rw (b_is, spelled, itself) (cases (step by d s h.now))
  where
    w : Work
    w = work_in (begun_in h (Some old)) (kept h)

    cases : (r : Result (Catalogue × ℕ) Reason) → (outcome_by d true text r w).work.written ≡ itself_entries text r old
    cases (Ok ran) = ap (λ (es : List Entry). es ++ Texts (text ∷ []) ∷ []) (if_any_is old.entry some)
    cases (Err reason) = if_any_is old.entry some

abbrev Runs : Dialect → By → List ℕ → Statement → Log → Held → Open → Lock → Result ℕ StoreFault → Log → Held → Open → Lock → Type 0
Runs d by text s x h old lock result y k new now_lock = MayRunItself d text (step by d s h.now) x (side h old lock) result y (side k new now_lock)

-- what it answers
pub ran_itself : (d : Dialect) (by : By) (text : List ℕ) (s : Statement) (h k : Held) (b : Option Open) (old new : Open) (lock now_lock : Lock) (x y : Log) (live : Bool) (result : Result ℕ StoreFault)
    → b ≡ Some old → IfSome old.entry (λ texts. 0 < length texts) → statement_in d text ≡ Some s → commits_itself d s ≡ true → Runs d by text s x h old lock result y k new now_lock
    → MayExecute by text (state d (kept h) (begun_in h b) x live) result (state d (kept k) (begun_in k (Some new)) y (lives result live))
ran_itself d by text s h k b old new lock now_lock x y live (Ok n) b_is some spelled itself (c, meant, room, y_is, done) =
    let fits = rw meant at room in
    let gains = rw meant at y_is in
    rw (b_is, spelled, itself, meant, gains, done.kept_is, done.now_is, done.cleared.session_is, done.cleared.entry_is, if_any_is old.entry some) (refl, (fits, refl))
ran_itself d by text s h k b old new lock now_lock x y live (Err (Refused reason)) b_is some spelled itself (meant, room, y_is, done) =
    let fits = rw meant at room in
    let gains = rw meant at y_is in
    rw (b_is, spelled, itself, meant, gains, done.kept_is, done.now_is, done.cleared.session_is, done.cleared.entry_is, if_any_is old.entry some) (refl, (fits, refl))
ran_itself d by text s h k b old new lock now_lock x y live (Err (Full used next)) b_is some spelled itself (full, used_is, next_is, y_is, same) =
    rw (itself_written d by text s h b old x live b_is some spelled itself)
    ((full, (used_is, next_is)), rw (b_is, y_is, held_same _ _ same, begun_same _ _ same) refl)
ran_itself d by text s h k b old new lock now_lock x y live (Err OutOfMemory) b_is some spelled itself (y_is, same) =
    rw (b_is, y_is, held_same _ _ same, begun_same _ _ same) refl
ran_itself d by text s h k b old new lock now_lock x y live (Err Disk) b_is some spelled itself cut =
    failed _ _ d (kept h) (kept k) (begun_in h b) (begun_in k (Some new)) x y live (itself_written d by text s h b old x live b_is some spelled itself) cut
ran_itself d by text s h k b old new lock now_lock x y live (Err _) b_is some spelled itself never = absurd never

pub run_two : (d : Dialect) (e : Option (List (List ℕ))) (text : List ℕ) (c f g : Catalogue) → run_texts d (texts_in e) c ≡ Some f → run_text d text f ≡ Some g → run_entries d (entries_of e ++ Texts (text ∷ []) ∷ []) (Some c) ≡ Some g
run_two d e text c f g ran last =
    run_more d (entries_of e) (Texts (text ∷ []) ∷ []) (Some c)
    ∙ (ap (run_entries d (Texts (text ∷ []) ∷ [])) (run_one d e c f ran) ∙ ap (option_and_then (run_texts d [])) last)

kept_held : (d : Dialect) (h k : Held) (es now_es : Option (List Entry)) (more : List Entry) (lock now_lock : Lock) (old new : Open) (c : Catalogue) → now_es ≡ option_map (λ entries. entries ++ more) es
    → run_entries d more (Some (kept h)) ≡ Some c → IsSound d c → IsKept d c (side h old lock) (side k new now_lock) → IsHeld d h es lock (Some old) → IsHeld d k now_es now_lock (Some new)
kept_held d h k es now_es more lock now_lock old new c es_is ran sound done held =
    let there : IfSome now_es (λ there. database d there ≡ Some c) = rw es_is (journal_with d es more (kept h) c held.is_journal ran) in
    let locked = done.lock_is held.begun_is.lock_is in
    record {
      dialect_is = done.dialect_is ∙ held.dialect_is;
      is_journal = subst (λ c. IfSome now_es (λ there. database d there ≡ Some c)) (sym done.kept_is) there;
      sound = subst (IsSound d) (sym done.kept_is) sound;
      sound_now = subst (IsSound d) (sym done.now_is) sound;
      lock_is = subst (λ c. IsLockOf d c now_lock) (sym done.kept_is) locked;
      begun_is = record {
        runs = rw (done.cleared.entry_is, done.kept_is, done.now_is) refl;
        lock_is = rw (done.cleared.lock_is, done.now_is) locked;
        some = rw done.cleared.entry_is tt;
      };
    }

pub entries_gained : (x y : Log) (more : List Entry) → y ≡ gained more x → y.entries ≡ option_map (λ entries. entries ++ more) x.entries
entries_gained x y more is = ap (λ (l : Log). l.entries) is

-- and the database stays what its journal stands for
pub itself_held : (d : Dialect) (by : By) (text : List ℕ) (s : Statement) (h k : Held) (b : Option Open) (old new : Open) (lock now_lock : Lock) (x y : Log) (result : Result ℕ StoreFault)
    → lives result true ≡ true → b ≡ Some old → statement_in d text ≡ Some s → is_statement d s ≡ true → Runs d by text s x h old lock result y k new now_lock
    → IsHeld d h x.entries lock b → IsHeld d k y.entries now_lock (Some new)
itself_held d by text s h k b old new lock now_lock x y result alive b_is spelled is runs held = go result alive runs (subst (IsHeld d h x.entries lock) b_is held)
  where
    go : (result : Result ℕ StoreFault) → lives result true ≡ true → Runs d by text s x h old lock result y k new now_lock → IsHeld d h x.entries lock (Some old) → IsHeld d k y.entries now_lock (Some new)
    go (Ok n) alive (c, meant, room, y_is, done) held =
        let more = entries_of old.entry ++ Texts (text ∷ []) ∷ [] in
        kept_held d h k x.entries y.entries more lock now_lock old new c (entries_gained x y more (rw meant at y_is))
        (run_two d old.entry text (kept h) h.now c held.begun_is.runs (ran_text d by text s h.now c n spelled meant)) (statement_keeps d s by h.now c n is held.sound_now meant) done held
    go (Err (Refused reason)) alive (meant, room, y_is, done) held =
        let more = entries_of old.entry in
        kept_held d h k x.entries y.entries more lock now_lock old new h.now (entries_gained x y more (rw meant at y_is))
        (run_one d old.entry (kept h) h.now held.begun_is.runs) held.sound_now done held
    go (Err (Full used next)) alive (full, used_is, next_is, y_is, back) held = back_held d h k x.entries y.entries lock now_lock old new (ap (λ (l : Log). l.entries) y_is) back held
    go (Err OutOfMemory) alive (y_is, back) held = back_held d h k x.entries y.entries lock now_lock old new (ap (λ (l : Log). l.entries) y_is) back held
    go (Err Disk) alive cut held = cc
    go (Err _) alive never held = absurd never

pub whole_lives : (result : Result ℕ StoreFault) (P : Type 0) → lives result true ≡ true → UnlessFailed result P → P
whole_lives (Ok n) P alive p = p
whole_lives (Err Disk) P alive p = cc
whole_lives (Err (Full used next)) P alive p = p
whole_lives (Err _) P alive p = p

gained_same : (x y : Log) (more : List Entry) → y ≡ gained more x → (y.dialect ≡ x.dialect) × (y.limit ≡ x.limit)
gained_same x y more is = (ap (λ (l : Log). l.dialect) is, ap (λ (l : Log). l.limit) is)

log_same : (x y : Log) → y ≡ x → (y.dialect ≡ x.dialect) × (y.limit ≡ x.limit)
log_same x y is = (ap (λ (l : Log). l.dialect) is, ap (λ (l : Log). l.limit) is)

pub same_opening : (d : Dialect) (by : By) (text : List ℕ) (s : Statement) (h k : Held) (old new : Open) (lock now_lock : Lock) (x y : Log) (result : Result ℕ StoreFault)
    → Runs d by text s x h old lock result y k new now_lock → (y.dialect ≡ x.dialect) × (y.limit ≡ x.limit)
same_opening d by text s h k old new lock now_lock x y (Ok n) (c, meant, room, y_is, done) = gained_same x y _ y_is
same_opening d by text s h k old new lock now_lock x y (Err (Refused reason)) (meant, room, y_is, done) = gained_same x y _ y_is
same_opening d by text s h k old new lock now_lock x y (Err (Full used next)) (full, used_is, next_is, y_is, back) = log_same x y y_is
same_opening d by text s h k old new lock now_lock x y (Err OutOfMemory) (y_is, back) = log_same x y y_is
same_opening d by text s h k old new lock now_lock x y (Err Disk) cut = (cut.dialect_is, cut.limit_is)
same_opening d by text s h k old new lock now_lock x y (Err _) never = absurd never
