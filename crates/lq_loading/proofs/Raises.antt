-- An engine brought to what entries stand for.
use Rattle.std.proofs.Common.{◌≡◌, ◌∙◌, ◌&&◌, ◌||◌, drop, not, is_some, ℕ, Bool, true, false, cond, List, [], ◌∷◌, map, arith, Ok, Err, Result, Option, None, Some, IfSome, refl, sym, ap, subst}
use Rattle.lq_base.specs.declared.dialect.Dialect.{Dialect}
use Rattle.lq_store.specs.Journal.{is_apart, accepted, run_text, run_texts}
use Rattle.lq_store.specs.Executor.{Held, Runs, forgotten, holding, kept}
use Rattle.lq_store.specs.declared.fault.RunFault.{RunFault}
use Rattle.laws_codec.specs.Written.{StatesAreSound}
use Rattle.lq_codec.specs.State.{state_of}
use Rattle.lq_loading.specs.Raise.{BeginsWith, Folds, IsAt, IsCleanLock, IsRaised, MayNotRaise, MayNotRead}
use Rattle.lq_entries.proofs.Folded.{stays_damaged}
use Rattle.lq_entries.specs.Load.{fold_body, folded, if_clean, is_clean, is_clean_database, or_at}
use Rattle.lq_base.specs.declared.tracking.Lock.{Lock}
use Rattle.lq_base.specs.declared.tracking.Tracked.{Tracked}
use Rattle.lq_track.specs.Database.{Database, database_of, has_twin_rows, lock_of, rows_of, users_of}
use Rattle.lq_frames.specs.Body.{is_state, has_state}
use Rattle.lq_frames.specs.declared.entry.Body.{Body}
use Rattle.lq_frames.specs.declared.entry.Body.TheVariants.{State, Texts}
use Rattle.lq_journal.specs.declared.fault.LoadFault.{LoadFault}
use Rattle.lq_journal.specs.declared.fault.LoadFault.TheVariants.{Disk, Damaged, OutOfMemory}
use Rattle.lq_model.proofs.ProgramMay.{by_program}
use Rattle.lq_model.specs.declared.caller.By.{By}
use Rattle.lq_frames.specs.declared.entry.Entry.{Entry as Placed}
use Rattle.lq_base.specs.declared.dialect.Dialect.TheVariants.{Postgresql, Mysql}
use Rattle.std.specs.List.Sorted.{IsStrictlySortedBy}
use Rattle.lq_model.specs.Sound.{IsSound}
use Rattle.lq_model.proofs.Maps.{not_some}
use Rattle.lq_model.specs.Catalogue.{Catalogue, no_objects}
use Rattle.lq_model.proofs.KeepsSound.{statement_keeps}
use Rattle.lq_model.specs.Step.{is_statement, step}
use Rattle.lq_model.specs.SqlText.{statement_in}
use Rattle.lq_model.specs.declared.caller.By.TheVariants.{Program}
use Rattle.lq_model.specs.declared.statement.Statement.{Statement}

-- the program's run of a text that ran
pub ran_text : (d : Dialect) (by : By) (text : List ℕ) (s : Statement) (c e : Catalogue) (n : ℕ) → statement_in d text ≡ Some s → step by d s c ≡ Ok (e, n) → run_text d text c ≡ Some e
ran_text d by text s c e n spelled meant = rw spelled (ap accepted (by_program by d s c (e, n) meant))

pub ran : (d : Dialect) (text : List ℕ) (s : Statement) (h k : Held) (n : ℕ) → IsAt d h.now h → statement_in d text ≡ Some s → is_statement d s ≡ true
    → Runs (step Program h.dialect s h.now) h k (Ok n) → (x : Catalogue) × (run_text d text h.now ≡ Some x) × IsAt d x k
ran d text s h k n at spelled is (meant, new) =
    let meaning : step Program d s h.now ≡ Ok (k.now, n) = subst (λ (e : Dialect). step Program e s h.now ≡ Ok (k.now, n)) at.dialect_is meant in (
      k.now,
      ran_text d Program text s h.now k.now n spelled meaning,
      record {
        dialect_is = ap (λ (k : Held). k.dialect) new ∙ at.dialect_is;
        now_is = refl;
        sound = statement_keeps d s Program h.now k.now n is at.sound meaning;
      },
    )

-- an engine in which nothing was made
pub nothing_sound : (d : Dialect) → IsSound d no_objects
unfolding IsStrictlySortedBy
nothing_sound Postgresql = record { ordered = tt; ordered_views = tt; ordered_sequences = tt; tables = λ t it there. not_some (sym there); views = refl; apart = λ n. omega arith; schemas = refl; steps = refl; sequences = refl; no_null = refl; no_twins = refl; aimed = refl; alike = refl; parents = refl; small = refl }
nothing_sound Mysql = record { ordered = tt; ordered_views = tt; ordered_sequences = tt; tables = λ t it there. not_some (sym there); views = refl; apart = (λ n. omega arith, λ n. omega arith); schemas = refl; steps = refl; sequences = refl; no_null = refl; no_twins = refl; aimed = refl; alike = refl; parents = refl; small = refl }

pub new_at : (d e : Dialect) (h : Held) → d ≡ e → h ≡ holding e no_objects [] → IsAt d h.now h
new_at d e h p is = rw (is, p) (record { dialect_is = refl; now_is = refl; sound = nothing_sound e })

-- a state that was read
pub read_at : (d : Dialect) (bytes : List ℕ) (h : Held) → StatesAreSound → h ≡ holding d h.now [] → state_of d bytes ≡ Some h.now → IsAt d h.now h
read_at d bytes h law is read = record { dialect_is = ap (λ (h : Held). h.dialect) is; now_is = refl; sound = (law d bytes h.now read).0 }

-- a step of the entries

pub texts_lead : (d : Dialect) (entry : Placed) (more : List Placed) (texts : List (List ℕ)) (c : Catalogue) (o : Option Catalogue) → entry.body ≡ Texts texts → run_texts d texts c ≡ o
    → folded d (entry ∷ more) (Ok c) ≡ folded d more (or_at entry.at o)
texts_lead d entry more texts c o is ran = ap (λ (b : Body). folded d more (fold_body d entry.at b (Ok c))) is ∙ ap (λ o. folded d more (or_at entry.at o)) ran

pub no_state_behind : (entry : Placed) (more : List Placed) → has_state (entry ∷ more) ≡ false → has_state more ≡ false
no_state_behind entry more none = by (is_state entry.body) none
  where
    by : (b : Bool) → b || has_state more ≡ false → has_state more ≡ false
    by true is = absurd (cc is)
    by false is = is

-- a text behind the last state that did not run is damage, whatever stands behind it
pub texts_damaged : (d : Dialect) (entry : Placed) (more : List Placed) (texts : List (List ℕ)) (c : Catalogue) (whole : List Placed) (r : Result Catalogue ℕ) → whole ≡ entry ∷ more → entry.body ≡ Texts texts
    → run_texts d texts c ≡ None → has_state whole ≡ false → folded d whole (Ok c) ≡ r → r ≡ Err entry.at
texts_damaged d entry more texts c whole r whole_is is ran none leads =
    sym leads ∙ (ap (λ es. folded d es (Ok c)) whole_is
    ∙ (texts_lead d entry more texts c None is ran ∙ stays_damaged d more entry.at (no_state_behind entry more (sym (ap has_state whole_is) ∙ none))))

pub no_state_first : (entry : Placed) (more : List Placed) (bytes : List ℕ) → entry.body ≡ State bytes → has_state (entry ∷ more) ≡ false → ⊥
no_state_first entry more bytes is none = absurd (cc (sym (ap (λ (b : Body). is_state b || has_state more) is) ∙ none))

pub texts_first : (entry : Placed) (more : List Placed) (texts : List (List ℕ)) → entry.body ≡ Texts texts → has_state more ≡ false → has_state (entry ∷ more) ≡ false
texts_first entry more texts is none = ap (λ (b : Body). is_state b || has_state more) is ∙ none

-- where entries with a state come to
pub begun : (d : Dialect) (entries behind : List Placed) (at : ℕ) (bytes : List ℕ) (c : Catalogue) → BeginsWith entries at bytes behind → state_of d bytes ≡ Some c → folded d behind (Ok c) ≡ folded d entries (Ok no_objects)
begun d entries behind at bytes c (is, none) read = sym (ap (λ es. folded d es (Ok no_objects)) is ∙ ap (λ o. folded d behind (or_at at o)) read)

pub not_begun : (d : Dialect) (entries behind : List Placed) (at used : ℕ) (bytes : List ℕ) (fault : LoadFault) → BeginsWith entries at bytes behind → MayNotRead at (state_of d bytes) fault → MayNotRaise d used (folded d entries (Ok no_objects)) fault
not_begun d entries behind at used bytes (Damaged place) (is, none) (place_is, read) =
    ap (if_clean d used) (ap (λ es. folded d es (Ok no_objects)) is ∙ (ap (λ o. folded d behind (or_at at o)) read ∙ stays_damaged d behind at none)) ∙ ap Err (sym place_is)
not_begun d entries behind at used bytes OutOfMemory (is, none) fault = tt
not_begun d entries behind at used bytes Disk (is, none) never = never

-- the tracking tables are as they are made

module _ (d : Dialect) (c : Catalogue) (rows : List Tracked) (are : rows_of c ≡ Some rows) where
  with_rows : (b : Bool) → has_twin_rows rows ≡ b → (o : Option Lock) → lock_of d c ≡ o → is_apart d (users_of c) ≡ true → is_clean d c ≡ (is_some o && not b)
  with_rows b twins None is apart = rw (are, is) refl
  with_rows b twins (Some lock) is apart = rw (are, is, twins, apart) (after b)
    where
      after : (b : Bool) → (not b && true) ≡ (true && not b)
      after true = refl
      after false = refl

  pub clean : (lock : Lock) → has_twin_rows rows ≡ false → lock_of d c ≡ Some lock → is_apart d (users_of c) ≡ true → IsCleanLock d c (Some lock)
  clean lock twins is apart = (with_rows false twins (Some lock) is apart, is)

  pub twins_not_clean : has_twin_rows rows ≡ true → is_apart d (users_of c) ≡ true → is_clean d c ≡ false
  twins_not_clean twins apart = with_rows true twins (lock_of d c) refl apart ∙ never (is_some (lock_of d c))
    where
      never : (b : Bool) → (b && false) ≡ false
      never true = refl
      never false = refl

  pub lockless_not_clean : lock_of d c ≡ None → is_clean d c ≡ false
  lockless_not_clean is = rw (are, is) refl

  pub clean_by : (o : Option Lock) → o ≡ lock_of d c → has_twin_rows rows ≡ false → is_apart d (users_of c) ≡ true → IsCleanLock d c o
  clean_by None is twins apart = lockless_not_clean (sym is)
  clean_by (Some lock) is twins apart = clean lock twins (sym is) apart

pub rowless_not_clean : (d : Dialect) (c : Catalogue) → rows_of c ≡ None → is_clean d c ≡ false
rowless_not_clean d c is = rw is refl

pub mixed_not_clean : (d : Dialect) (c : Catalogue) → is_apart d (users_of c) ≡ false → is_clean d c ≡ false
mixed_not_clean d c mixed = by_rows (rows_of c) refl
  where
    never : (b : Bool) → (b && false) ≡ false
    never true = refl
    never false = refl

    by_lock : (rows : List Tracked) → rows_of c ≡ Some rows → (o : Option Lock) → lock_of d c ≡ o → is_clean d c ≡ false
    by_lock rows are None is = rw (are, is) refl
    by_lock rows are (Some lock) is = rw (are, is, mixed) (never (not (has_twin_rows rows)))

    by_rows : (o : Option (List Tracked)) → rows_of c ≡ o → is_clean d c ≡ false
    by_rows None is = rw is refl
    by_rows (Some rows) are = by_lock rows are (lock_of d c) refl

-- an engine with the entries run, and the lock
pub raises : (d : Dialect) (meant : Result Catalogue ℕ) (c : Catalogue) (h : Held) (lock : Lock) → meant ≡ Ok c → IsAt d c h → kept h ≡ c → IsCleanLock d h.now (Some lock) → IsRaised d meant h lock
raises d meant c h lock folds stands kept_is cleared = record {
  catalogue = c;
  meant_is = folds;
  clean = subst (λ (e : Catalogue). is_clean d e ≡ true) stands.now_is cleared.0;
  kept_is = kept_is;
  at = stands;
  lock_is = subst (λ (e : Catalogue). lock_of d e ≡ Some lock) stands.now_is cleared.1;
}

pub not_raised : (d : Dialect) (used : ℕ) (meant : Result Catalogue ℕ) (h : Held) (fault : LoadFault) → Folds {T = Unit {0}} d meant (Err fault) h → MayNotRaise d used meant fault
not_raised d used meant h (Damaged at) is = ap (if_clean d used) is
not_raised d used meant h OutOfMemory is = tt
not_raised d used meant h Disk never = never

pub not_clean : (d : Dialect) (meant : Result Catalogue ℕ) (c : Catalogue) (h : Held) (used : ℕ) → meant ≡ Ok c → IsAt d c h → IsCleanLock d h.now None → if_clean d used meant ≡ Err used
not_clean d meant c h used folds stands unclean = rw (folds, subst (λ (e : Catalogue). is_clean d e ≡ false) stands.now_is unclean) refl
