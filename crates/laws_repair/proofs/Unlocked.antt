-- Calls on databases that differ in the lock alone; and updates that begin where no lock is held: they write what they would where it is free.
use Rattle.std.proofs.Common.{ap, inl, inr, refl, subst, sym, ◌∙◌}
use Rattle.std.proofs.lemmas.List.{append-nil, append_assoc}
use Rattle.std.specs.List.{list_any}
use Rattle.std.specs.Prelude.{Bool, Err, List, Ok, Result, Some, [], false, if◌then◌else◌, map, not, true, ℕ, ◌&&◌, ◌++◌, ◌||◌, ◌∷◌, ◌≡◌, ◌⊎◌}
use Rattle.lq_base.specs.declared.dialect.Dialect.{Dialect}
use Rattle.lq_base.specs.declared.dialect.Dialect.TheVariants.{Mysql, Postgresql}
use Rattle.lq_base.specs.declared.reason.Reason.{Reason}
use Rattle.lq_base.specs.declared.tracking.Lock.{Lock}
use Rattle.lq_model.proofs.Lists.{all-append_left, any-append}
use Rattle.lq_model.specs.Script.{if_any}
use Rattle.lq_model.specs.Sound.{IsSound}
use Rattle.lq_track.specs.Database.{Database}
use Rattle.lq_track.specs.Lock.{free}
use Rattle.lq_turns.proofs.Journal.{joined_any, joined_both, next, same_ok}
use Rattle.lq_turns.proofs.Locked.{all_locks, cut, entries_leave, first_session, opened_by}
use Rattle.lq_turns.proofs.Updates.{locked_leaves, sets_taken}
use Rattle.lq_turns.specs.Deed.{Contents, contents_of, with_contents, all_done, contents_after, done, if_accepted, lock_after}
use Rattle.lq_turns.specs.Laws.{AreRead}
use Rattle.lq_turns.specs.Script.{closing, has_work, if_missing, opening, sets_calls, update_calls, with_lock}
use Rattle.lq_turns.specs.Session.{Session, aborted, accepted, all_called, all_executed, all_executed_as, called, closed, executed, executed_as, is_own, left_by, session_on, settled_if}
use Rattle.lq_turns.specs.Set.{Changelog, IsKept, Meaning}
use Rattle.lq_turns.specs.Settle.{all_settled, is_halt, own_choice}
use Rattle.lq_turns.specs.Stops.{Journal, joined}
use Rattle.lq_turns.specs.declared.call.Call.{Call}
use Rattle.lq_turns.specs.declared.call.Call.TheVariants.{Abort, Alone, Begin, Commit, Execute}
use Rattle.lq_turns.specs.declared.deed.Deed.{Deed}
use Rattle.lq_turns.specs.declared.deed.Deed.TheVariants.{Locks, Rows, Users}
use Rattle.lq_turns.specs.declared.deed.OnLock.{OnLock}
use Rattle.lq_turns.specs.declared.deed.OnLock.TheVariants.{Freed, LockMade, LockRowMade, LogMade, Marked, Taken}
use Rattle.lq_turns.specs.declared.stamp.Stamp.{Stamp}

true_false : {A : Type 0} → true ≡ false → A
true_false is = Prim.cc

err_ok : {A : Type 0} {reason : Reason} {x : Database} → (let r : Result Database Reason = Err reason in r) ≡ Ok x → A
err_ok is = Prim.cc

-- the database, but for its lock
abbrev pub locked_as : Lock → Database → Database
locked_as lock database = record database { lock = lock }

-- the lock after a deed, where it was this one
abbrev lock_then : Deed → Database → Lock → Lock
lock_then (Users s) x lock = lock
lock_then (Rows w) x lock = lock
lock_then (Locks w) x lock = (lock_after w (locked_as lock x)).lock

-- a deed that sets all of the lock
abbrev sets_lock : Deed → Bool
sets_lock (Locks (Taken at by)) = true
sets_lock (Locks Freed) = true
sets_lock _ = false

taken_not_own : (d : Dialect) (at : ℕ) (by : List ℕ) → is_own d (Locks (Taken at by)) ≡ false
taken_not_own Postgresql at by = refl
taken_not_own Mysql at by = refl

joined_ways : {A B C : Type 0} (f : A → C) (g : B → C) (h : A → B) → ((a : A) → f a ≡ g (h a)) → (q : Result A Reason) → if_accepted f q ≡ if_accepted g (if_accepted h q)
joined_ways f g h same (Ok a) = ap Ok (same a)
joined_ways f g h same (Err reason) = refl

-- a session on databases with these locks
abbrev as_locked : Lock → Lock → Session → Session
as_locked a b s = record s { committed = locked_as a s.committed; seen = locked_as b s.seen }

abbrev IsBut : Session → Session → Type 0
IsBut t s = (a : Lock) × (b : Lock) × (t ≡ as_locked a b s)

settled_as : (own : Bool) (a b : Lock) (s : Session) → settled_if own (as_locked a b s) ≡ as_locked (if own then b else a) b (settled_if own s)
settled_as true a b s = refl
settled_as false a b s = refl

accepted_as : (own : Bool) (deed : Deed) (now : Database) (a b c : Lock) (s : Session)
    → settled_if own (record (settled_if own (as_locked a b s)) { seen = locked_as c now; begun = (settled_if own (as_locked a b s)).begun ++ deed ∷ [] })
    ≡ as_locked (if own then c else a) c (settled_if own (record (settled_if own s) { seen = now; begun = (settled_if own s).begun ++ deed ∷ [] }))
accepted_as true deed now a b c s = refl
accepted_as false deed now a b c s = refl

module _ (d : Dialect) where
  done_as : (deed : Deed) (x : Database) (lock : Lock) → done d deed (locked_as lock x) ≡ if_accepted (locked_as (lock_then deed x lock)) (done d deed x)
  done_as (Users s) x lock = joined_ways (with_contents (locked_as lock x)) (locked_as lock) (with_contents x) (λ c. refl) (contents_after d (Users s) (contents_of x))
  done_as (Rows w) x lock = joined_ways (with_contents (locked_as lock x)) (locked_as lock) (with_contents x) (λ c. refl) (contents_after d (Rows w) (contents_of x))
  done_as (Locks LogMade) x lock = refl
  done_as (Locks LockMade) x lock = refl
  done_as (Locks LockRowMade) x lock = refl
  done_as (Locks (Taken at by)) x lock = refl
  done_as (Locks (Marked by)) x lock = refl
  done_as (Locks Freed) x lock = refl

  -- Calls come to the same, but for the lock.

  execute_as : (deed : Deed) (a b : Lock) (s : Session) → IsBut (executed d deed (as_locked a b s)) (executed d deed s)
  execute_as deed a b s = subst (λ r. IsBut (executed_as d deed (as_locked a b s) r) (executed d deed s)) (sym (done_as deed s.seen b)) (by (done d deed s.seen)) where
    by : (r : Result Database Reason) → IsBut (executed_as d deed (as_locked a b s) (if_accepted (locked_as (lock_then deed s.seen b)) r)) (executed_as d deed s r)
    by (Ok now) = (if is_own d deed then lock_then deed s.seen b else a, lock_then deed s.seen b, accepted_as (is_own d deed) deed now a b (lock_then deed s.seen b) s)
    by (Err reason) = (if is_own d deed then b else a, b, settled_as (is_own d deed) a b s)

  -- the first of deeds, and then the others
  abbrev Others : List Deed → Type 0
  Others deeds = (a b : Lock) (s : Session) → IsBut (all_executed d deeds (as_locked a b s)) (all_executed d deeds s)

  first_as : (deed : Deed) (deeds : List Deed) → Others deeds → Others (deed ∷ deeds)
  first_as deed deeds more a b s =
      subst (λ r. IsBut (all_executed_as d deed (as_locked a b s) (all_executed d deeds) r) (all_executed d (deed ∷ deeds) s)) (sym (done_as deed s.seen b)) (by (done d deed s.seen)) where
        by : (r : Result Database Reason) → IsBut (all_executed_as d deed (as_locked a b s) (all_executed d deeds) (if_accepted (locked_as (lock_then deed s.seen b)) r)) (all_executed_as d deed s (all_executed d deeds) r)
        by (Ok now) =
            let c = lock_then deed s.seen b in
            subst (λ (t : Session). IsBut (all_executed d deeds t) (all_executed d deeds (accepted d deed now s))) (sym (accepted_as (is_own d deed) deed now a b c s)) (more (if is_own d deed then c else a) c (accepted d deed now s))
        by (Err reason) = (if is_own d deed then b else a, if is_own d deed then b else a, ap aborted (settled_as (is_own d deed) a b s))

  deeds_as : (deeds : List Deed) → Others deeds
  deeds_as [] a b s = (b, b, refl)
  deeds_as (deed ∷ deeds) a b s = first_as deed deeds (deeds_as deeds) a b s

  call_as : (call : Call) (a b : Lock) (s : Session) → IsBut (called d call (as_locked a b s)) (called d call s)
  call_as (Alone deeds room) a b s = deeds_as deeds a b s
  call_as Begin a b s = (a, b, refl)
  call_as (Execute deed) a b s = execute_as deed a b s
  call_as Commit a b s = (b, b, refl)
  call_as Abort a b s = (a, a, refl)

  calls_as : (calls : List Call) (a b : Lock) (s : Session) → IsBut (all_called d calls (as_locked a b s)) (all_called d calls s)
  calls_as [] a b s = (a, b, refl)
  calls_as (call ∷ calls) a b s =
      let it = call_as call a b s in
      subst (λ (t : Session). IsBut (all_called d calls t) (all_called d calls (called d call s))) (sym it.2) (calls_as calls it.0 it.1 (called d call s))

  -- they write the same
  pub entries_as : (calls : List Call) (x : Database) (lock : Lock) → (all_called d calls (session_on (locked_as lock x))).entries ≡ (all_called d calls (session_on x)).entries
  entries_as calls x lock = ap (λ (s : Session). s.entries) (calls_as calls lock lock (session_on x)).2

  -- and leave the same, but for the lock
  pub left_as : (calls : List Call) (x : Database) (lock : Lock) → (now : Lock) × (left_by d calls (locked_as lock x) ≡ locked_as now (left_by d calls x))
  left_as calls x lock = let it = calls_as calls lock lock (session_on x) in (it.0, ap (λ (s : Session). s.committed) it.2)

  -- deeds that set all of the lock lead to the same

  abbrev Leads : List Deed → Database → Database → Type 0
  Leads deeds x now = all_done d deeds x ≡ Ok now

  -- a deed on all but the lock, and then the others
  behind_contents : (deeds : List Deed) (x now : Database) (lock : Lock) (q : Result Contents Reason) → next d deeds (if_accepted (with_contents x) q) ≡ Ok now → ((mid : Database) → Leads deeds mid now → Leads deeds (locked_as lock mid) now)
      → next d deeds (if_accepted (with_contents (locked_as lock x)) q) ≡ Ok now
  behind_contents deeds x now lock (Ok c) led more = more (with_contents x c) led
  behind_contents deeds x now lock (Err reason) led more = err_ok led

  pub led_set : (deeds : List Deed) (x now : Database) (lock : Lock) → list_any sets_lock deeds ≡ true → Leads deeds x now → Leads deeds (locked_as lock x) now
  led_set [] x now lock sets led = Prim.cc
  led_set (Users s ∷ deeds) x now lock sets led = behind_contents deeds x now lock (contents_after d (Users s) (contents_of x)) led (λ mid. led_set deeds mid now lock sets)
  led_set (Rows w ∷ deeds) x now lock sets led = behind_contents deeds x now lock (contents_after d (Rows w) (contents_of x)) led (λ mid. led_set deeds mid now lock sets)
  led_set (Locks LogMade ∷ deeds) x now lock sets led = led_set deeds (with_contents (lock_after LogMade x) (contents_of x)) now lock sets led
  led_set (Locks LockMade ∷ deeds) x now lock sets led = led_set deeds (with_contents (lock_after LockMade x) (contents_of x)) now lock sets led
  led_set (Locks LockRowMade ∷ deeds) x now lock sets led = led_set deeds (with_contents (lock_after LockRowMade x) (contents_of x)) now lock sets led
  led_set (Locks (Marked by) ∷ deeds) x now lock sets led = led_set deeds (with_contents (lock_after (Marked by) x) (contents_of x)) now (record lock { by = Some by }) sets led
  led_set (Locks (Taken at by) ∷ deeds) x now lock sets led = led
  led_set (Locks Freed ∷ deeds) x now lock sets led = led

  -- the others leave it held or not

  kept_behind : (deeds : List Deed) (x now : Database) (q : Result Contents Reason) → next d deeds (if_accepted (with_contents x) q) ≡ Ok now → ((mid : Database) → Leads deeds mid now → now.lock.locked ≡ mid.lock.locked) → now.lock.locked ≡ x.lock.locked
  kept_behind deeds x now (Ok c) led more = more (with_contents x c) led
  kept_behind deeds x now (Err reason) led more = err_ok led

  pub led_kept : (deeds : List Deed) (x now : Database) → list_any sets_lock deeds ≡ false → Leads deeds x now → now.lock.locked ≡ x.lock.locked
  led_kept [] x now none led = ap (λ (e : Database). e.lock.locked) (sym (same_ok d led))
  led_kept (Users s ∷ deeds) x now none led = kept_behind deeds x now (contents_after d (Users s) (contents_of x)) led (λ mid. led_kept deeds mid now none)
  led_kept (Rows w ∷ deeds) x now none led = kept_behind deeds x now (contents_after d (Rows w) (contents_of x)) led (λ mid. led_kept deeds mid now none)
  led_kept (Locks LogMade ∷ deeds) x now none led = led_kept deeds (with_contents (lock_after LogMade x) (contents_of x)) now none led
  led_kept (Locks LockMade ∷ deeds) x now none led = led_kept deeds (with_contents (lock_after LockMade x) (contents_of x)) now none led
  led_kept (Locks LockRowMade ∷ deeds) x now none led = led_kept deeds (with_contents (lock_after LockRowMade x) (contents_of x)) now none led
  led_kept (Locks (Marked by) ∷ deeds) x now none led = led_kept deeds (with_contents (lock_after (Marked by) x) (contents_of x)) now none led
  led_kept (Locks (Taken at by) ∷ deeds) x now none led = true_false none
  led_kept (Locks Freed ∷ deeds) x now none led = true_false none

  -- so where they take the lock
  pub led_held : (deeds : List Deed) (x now : Database) (lock : Lock) → Leads deeds x now → x.lock.locked ≡ false → now.lock.locked ≡ true → Leads deeds (locked_as lock x) now
  led_held deeds x now lock led unlocked held = (elim (list_any sets_lock deeds) as (λ b. list_any sets_lock deeds ≡ b → Leads deeds (locked_as lock x) now) [
    | true ↦ λ sets. led_set deeds x now lock sets led
    | false ↦ λ none. true_false (sym held ∙ led_kept deeds x now none led ∙ unlocked)
  ]) refl

  -- calls only add entries

  record Grows (s t : Session) : Type 0 where
    more : Journal
    is : t.entries ≡ s.entries ++ more

  onwards : (s t u : Session) → Grows s t → Grows t u → Grows s u
  onwards s t u first second = record { more = first.more ++ second.more; is = second.is ∙ ap (λ es. es ++ second.more) first.is ∙ append_assoc s.entries first.more second.more }

  up_if : (own : Bool) (s : Session) → Grows s (settled_if own s)
  up_if true s = record { more = if_any s.begun; is = refl }
  up_if false s = record { more = []; is = sym (append-nil s.entries) }

  takes : (deed : Deed) (now : Database) (s : Session) → Grows s (accepted d deed now s)
  takes deed now s =
      let own = is_own d deed in
      let mid = record (settled_if own s) { seen = now; begun = (settled_if own s).begun ++ deed ∷ [] } in
      let first = up_if own s in
      onwards s mid (settled_if own mid) (record { more = first.more; is = first.is }) (up_if own mid)

  executes : (deed : Deed) (s : Session) (r : Result Database Reason) → Grows s (executed_as d deed s r)
  executes deed s (Ok now) = takes deed now s
  executes deed s (Err reason) = up_if (is_own d deed) s

  gives_up : (own : Bool) (s : Session) → Grows s (aborted (settled_if own s))
  gives_up own s = let it = up_if own s in record { more = it.more; is = it.is }

  executes_all : (deeds : List Deed) (s : Session) → Grows s (all_executed d deeds s)
  executes_all [] s = record { more = if_any s.begun; is = refl }
  executes_all (deed ∷ deeds) s = elim (done d deed s.seen) as (λ r. Grows s (all_executed_as d deed s (all_executed d deeds) r)) [
    | Ok now ↦ onwards s (accepted d deed now s) (all_executed d deeds (accepted d deed now s)) (takes deed now s) (executes_all deeds (accepted d deed now s))
    | Err reason ↦ gives_up (is_own d deed) s
  ]

  one_grows : (call : Call) (s : Session) → Grows s (called d call s)
  one_grows (Alone deeds room) s = executes_all deeds s
  one_grows Begin s = record { more = []; is = sym (append-nil s.entries) }
  one_grows (Execute deed) s = executes deed s (done d deed s.seen)
  one_grows Commit s = record { more = if_any s.begun; is = refl }
  one_grows Abort s = record { more = []; is = sym (append-nil s.entries) }

  calls_grow : (calls : List Call) (s : Session) → Grows s (all_called d calls s)
  calls_grow [] s = record { more = []; is = sym (append-nil s.entries) }
  calls_grow (call ∷ calls) s = onwards s (called d call s) (all_called d calls (called d call s)) (one_grows call s) (calls_grow calls (called d call s))

  -- the opening takes the lock

  abbrev EndsSet : List OnLock → Type 0
  EndsSet ws = (s : Session) → list_any sets_lock (joined (all_executed d (map Locks ws) s).entries) ≡ true

  then_set : (there : Bool) (w : OnLock) (ws : List OnLock) → EndsSet ws → EndsSet (if_missing there w ++ ws)
  then_set true w ws ends = ends
  then_set false w ws ends = λ s. ends (accepted d (Locks w) (with_contents (lock_after w s.seen) (contents_of s.seen)) s)

  taken_set : (at : ℕ) (by : List ℕ) → EndsSet (Taken at by ∷ [])
  taken_set at by s =
      let now = with_contents (lock_after (Taken at by) s.seen) (contents_of s.seen) in
      ap (λ own. list_any sets_lock (joined (closed (settled_if own (record (settled_if own s) { seen = now; begun = (settled_if own s).begun ++ Locks (Taken at by) ∷ [] }))).entries)) (taken_not_own d at by)
      ∙ ap (list_any sets_lock) (joined_both s.entries (if_any begun) ∙ ap (λ ds. joined s.entries ++ ds) (joined_any begun))
      ∙ any-append sets_lock (joined s.entries) begun
      ∙ ap (λ b. list_any sets_lock (joined s.entries) || b) (any-append sets_lock s.begun (Locks (Taken at by) ∷ []))
      ∙ last_true (list_any sets_lock (joined s.entries)) (list_any sets_lock s.begun) where
        begun : List Deed
        begun = s.begun ++ Locks (Taken at by) ∷ []

        last_true : (a b : Bool) → (a || (b || true)) ≡ true
        last_true true b = refl
        last_true false true = refl
        last_true false false = refl

  opening_set : (stamp : Stamp) (database : Database) → EndsSet (opening stamp database)
  opening_set stamp database =
      then_set database.has_log LogMade _ (then_set database.has_lock LockMade _ (then_set database.has_lock_row LockRowMade _ (taken_set stamp.reading stamp.who)))

module _ {Key : Type 0} (d : Dialect) (m : Meaning Key) (stamp : Stamp) (g : Changelog Key) (database : Database) where
  -- what a stop leaves that has set nothing of the lock: the database as it was, or its contents, and work
  abbrev pub Waits : Database → Type 0
  Waits now = (now.lock.locked ≡ database.lock.locked) × ((now ≡ database) ⊎ ((contents_of now ≡ contents_of database) × (has_work g.sets database.rows ≡ true)))

  nothing : (front rest : Journal) (now : Database) → (let none : Journal = [] in none) ≡ front ++ rest → all_done d (joined front) database ≡ Ok now → now ≡ database
  nothing [] rest now is led = sym (same_ok d led)
  nothing (e ∷ front) rest now is led = Prim.cc

  module _ (front rest : Journal) (now : Database) (led : all_done d (joined front) database ≡ Ok now) where
    -- a front without a deed that sets the lock ends within the opening
    opens : (calls : List Call) → (all_called d (with_lock stamp database calls) (session_on database)).entries ≡ front ++ rest → list_any sets_lock (joined front) ≡ false → contents_of now ≡ contents_of database
    opens calls is none =
        let first = first_session d stamp database in
        let opened = opened_by d stamp database in
        let grows = calls_grow d (calls ++ closing ∷ []) first in
        elim (cut first.entries grows.more front rest (sym grows.is ∙ is)) as (λ _. contents_of now ≡ contents_of database) [
          | inl q ↦ entries_leave d front database now (all-append_left _ front q.0 (ap all_locks (sym q.1 ∙ opened.entries) ∙ opened.locks)) led
          | inr q ↦ true_false (sym (front_set first.entries q.0 (opening_set d stamp database (session_on database))) ∙ ap (λ es. list_any sets_lock (joined es)) (sym q.1) ∙ none)
        ] where
          front_set : (first more : Journal) → list_any sets_lock (joined first) ≡ true → list_any sets_lock (joined (first ++ more)) ≡ true
          front_set first more sets = ap (list_any sets_lock) (joined_both first more) ∙ any-append sets_lock (joined first) (joined more) ∙ ap (λ b. b || list_any sets_lock (joined more)) sets

    waits : (work halt : Bool) → has_work g.sets database.rows ≡ work → (all_called d (if work && not halt then with_lock stamp database (sets_calls d m stamp g.sets (contents_of database)) else []) (session_on database)).entries ≡ front ++ rest
        → list_any sets_lock (joined front) ≡ false → (now ≡ database) ⊎ ((contents_of now ≡ contents_of database) × (has_work g.sets database.rows ≡ true))
    waits true false work is none = inr (opens (sets_calls d m stamp g.sets (contents_of database)) is none, work)
    waits true true work is none = inl (nothing front rest now is led)
    waits false halt work is none = inl (nothing front rest now is led)

    -- a stop of an update leaves that, or what it leaves where the lock is free
    pub set_or_waits : (all_called d (update_calls d m stamp g database) (session_on database)).entries ≡ front ++ rest → (all_done d (joined front) (locked_as free database) ≡ Ok now) ⊎ Waits now
    set_or_waits is = (elim (list_any sets_lock (joined front)) as (λ b. list_any sets_lock (joined front) ≡ b → (all_done d (joined front) (locked_as free database) ≡ Ok now) ⊎ Waits now) [
      | true ↦ λ sets. inl (led_set d (joined front) database now free sets led)
      | false ↦ λ none. inr (led_kept d (joined front) database now none led, waits (has_work g.sets database.rows) (is_halt (own_choice g (contents_of database))) refl is none)
    ]) refl

  -- where there is work it frees the lock
  pub work_frees : IsKept m → IsSound d database.users → AreRead d m g.sets → has_work g.sets database.rows ≡ true → is_halt (own_choice g (contents_of database)) ≡ false → (left_by d (update_calls d m stamp g database) database).lock ≡ free
  work_frees keeps sound read work goes =
      ap (λ b. (left_by d (if b && not (is_halt (own_choice g (contents_of database))) then with_lock stamp database (sets_calls d m stamp g.sets (contents_of database)) else []) database).lock) work
      ∙ ap (λ b. (left_by d (if not b then with_lock stamp database (sets_calls d m stamp g.sets (contents_of database)) else []) database).lock) goes
      ∙ (locked_leaves d stamp database (sets_calls d m stamp g.sets (contents_of database)) (all_settled d m stamp.reading g.sets (contents_of database)).contents (λ s at. sets_taken d m keeps stamp g.sets (contents_of database) s read sound at)).lock
