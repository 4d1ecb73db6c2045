-- A command that is under way holds the lock.
use Rattle.std.proofs.Common.{ap, inl, inr, subst, sym, ◌∙◌}
use Rattle.std.proofs.lemmas.List.{append-nil, append_assoc}
use Rattle.std.specs.List.{list_all, list_any}
use Rattle.std.specs.Prelude.{Bool, Err, List, None, Ok, Option, Some, [], false, if◌then◌else◌, is_none, is_some, map, not, refl, suc, true, ℕ, ◌&&◌, ◌++◌, ◌||◌, ◌∷◌, ◌≡◌, ◌⊎◌}
use Rattle.lq_base.specs.declared.dialect.Dialect.{Dialect}
use Rattle.lq_base.specs.declared.tracking.Lock.{Lock}
use Rattle.lq_base.specs.declared.tracking.Tracked.{Tracked}
use Rattle.lq_model.proofs.Lists.{all-append, all-append_left, and_left, and_right, true_false}
use Rattle.lq_model.specs.declared.caller.Room.TheVariants.{Ordinary}
use Rattle.lq_model.specs.declared.statement.Statement.{Statement}
use Rattle.lq_track.specs.Database.{Database}
use Rattle.lq_turns.specs.Deed.{Contents, contents_of, with_contents, contents_after, done, if_accepted, lock_after, locked_after}
use Rattle.lq_model.specs.Step.{commits_itself}
use Rattle.lq_turns.specs.Jobs.{OnlyReleasesAreEarly, Task, job_of, needs_lock, script_of}
use Rattle.lq_turns.specs.Laws.{rollback_calls}
use Rattle.lq_turns.specs.Script.{calls_if_finished, rollback_of, rows_kept, rows_undone, turns_made, undo_turns, calls_of_turn, calls_unless, closing, has_work, if_missing, last_row, opening, rows_to_sync, set_calls, sets_calls, sync_of, tag_of, turn_by, with_lock}
use Rattle.lq_turns.specs.Schedule.{Holder, Job, Machine, all_moved, has_answered, has_begun, start}
use Rattle.lq_turns.specs.Serial.{makes_first, IsUnderWay, Stands, open_by, serial, unless_called, unless_open, unless_refused}
use Rattle.lq_turns.specs.Session.{Session, aborted, all_called, all_executed, closed, executed_as, is_own, session_on, settled_if}
use Rattle.lq_turns.specs.Set.{Changelog, Meaning, Set}
use Rattle.lq_turns.specs.Settle.{choice, is_halt, own_choice, settle}
use Rattle.lq_turns.specs.declared.call.Call.{Call}
use Rattle.lq_turns.specs.declared.call.Call.TheVariants.{Abort, Alone, Begin, Commit, Execute}
use Rattle.lq_base.specs.declared.command.Command.{Command}
use Rattle.lq_base.specs.declared.command.Command.TheVariants.{Release, Rollback, Status, Sync, Tag, Update, Validate}
use Rattle.lq_turns.specs.declared.deed.Deed.{Deed}
use Rattle.lq_turns.specs.declared.deed.Deed.TheVariants.{Locks, Rows, Users}
use Rattle.lq_turns.specs.declared.deed.OnLock.{OnLock}
use Rattle.lq_turns.specs.declared.deed.OnLock.TheVariants.{Freed, LockMade, LockRowMade, LogMade, Marked, Taken}
use Rattle.lq_turns.specs.declared.deed.OnRows.TheVariants.{Inserted}
use Rattle.lq_turns.specs.declared.stamp.Stamp.{Stamp}
use Rattle.lq_turns.specs.declared.stop.Stop.{Stop}
use Rattle.lq_turns.specs.declared.turn.Turn.{Turn}
use Rattle.lq_turns.specs.Turn.{Ending, Finished, Refused, apart, contents_in, ending, made, made_on, mark, row_calls, statement_calls, turn_calls}
use Rattle.lq_turns.proofs.Locked.{cut}
use Rattle.lq_turns.proofs.Serial.{schedules_are_serial}

-- calls between taking and freeing the lock

abbrev is_kept : OnLock → Bool
is_kept (Marked by) = true
is_kept _ = false

abbrev is_inner : Call → Bool
is_inner Begin = true
is_inner Commit = true
is_inner Abort = true
is_inner (Alone deeds room) = false
is_inner (Execute (Users s)) = true
is_inner (Execute (Rows w)) = true
is_inner (Execute (Locks w)) = is_kept w

abbrev inner : List Call → Bool
inner calls = list_all is_inner calls

made_inner : (d : Dialect) (calls : List Call) (c : Contents) → inner calls ≡ true → inner (made d calls c) ≡ true
made_inner d [] c all = refl
made_inner d (Begin ∷ calls) c all = made_inner d calls c all
made_inner d (Commit ∷ calls) c all = made_inner d calls c all
made_inner d (Abort ∷ calls) c all = made_inner d calls c all
made_inner d (Alone deeds room ∷ calls) c all = Prim.cc
made_inner d (Execute deed ∷ calls) c all = (elim (contents_after d deed c) as (λ r. (is_inner (Execute deed) && inner (made_on (made d calls) r)) ≡ true) [
  | Ok now ↦ ap (λ b. b && inner (made d calls now)) (and_left (is_inner (Execute deed)) _ all) ∙ made_inner d calls now (and_right (is_inner (Execute deed)) _ all)
  | Err reason ↦ ap (λ b. b && true) (and_left (is_inner (Execute deed)) _ all)
])

module _ (d : Dialect) (who : List ℕ) (turn : Turn) where
  one_inner : (k : ℕ) (s : Statement) (own whole : Bool) (more : List Call) → inner more ≡ true
      → inner ((if whole then (if own then mark who turn k ∷ Execute (Users s) ∷ [] else Execute (Users s) ∷ []) else apart who turn k s) ++ more) ≡ true
  one_inner k s true true more all = all
  one_inner k s false true more all = all
  one_inner k s own false more all = all

  statements_inner : (k : ℕ) (ss : List Statement) (more : List Call) → inner more ≡ true → inner (statement_calls d who turn k ss ++ more) ≡ true
  statements_inner k [] more all = all
  statements_inner k (s ∷ ss) more all = ap inner (append_assoc (if turn.in_transaction then (if commits_itself d s then mark who turn k ∷ Execute (Users s) ∷ [] else Execute (Users s) ∷ []) else apart who turn k s) (statement_calls d who turn (suc k) ss) more)
      ∙ one_inner k s (commits_itself d s) turn.in_transaction (statement_calls d who turn (suc k) ss ++ more) (statements_inner (suc k) ss more all)

  row_inner : (flag : Bool) → inner ((if flag then Execute (Locks (Marked who)) ∷ [] else []) ++ Commit ∷ []) ≡ true
  row_inner true = refl
  row_inner false = refl

  turn_inner : inner (turn_calls d who turn) ≡ true
  turn_inner = by turn.in_transaction where
    by : (whole : Bool) → inner (if whole then Begin ∷ statement_calls d who turn 1 turn.statements ++ row_calls d who turn else statement_calls d who turn 1 turn.statements ++ Begin ∷ row_calls d who turn) ≡ true
    by true = statements_inner 1 turn.statements (row_calls d who turn) (row_inner (list_any (λ s. not turn.in_transaction || commits_itself d s) turn.statements))
    by false = statements_inner 1 turn.statements (Begin ∷ row_calls d who turn) (row_inner (list_any (λ s. not turn.in_transaction || commits_itself d s) turn.statements))

module _ {Key : Type 0} (d : Dialect) (m : Meaning Key) (stamp : Stamp) where
  set_inner : (o : Option Turn) (c : Contents) → inner (calls_of_turn d m stamp o c) ≡ true
  set_inner None c = refl
  set_inner (Some turn) c = made_inner d (turn_calls d stamp.who turn) c (turn_inner d stamp.who turn)

  unless_inner : (o : Option Stop) (calls : List Call) → inner calls ≡ true → inner (calls_unless o calls) ≡ true
  unless_inner None calls all = all
  unless_inner (Some stop) calls all = refl

  sets_inner : (xs : List (Set Key)) (c : Contents) → inner (sets_calls d m stamp xs c) ≡ true
  sets_inner [] c = refl
  sets_inner (x ∷ xs) c = all-append is_inner (set_calls d m stamp x c) _ (set_inner (turn_by d m stamp x c.rows (choice x c)) c)
      (unless_inner (settle d m stamp.reading x c).stop (sets_calls d m stamp xs (settle d m stamp.reading x c).contents) (sets_inner xs (settle d m stamp.reading x c).contents))

  goes_inner : (calls : List Call) (e : Ending) → inner calls ≡ true → inner (calls_if_finished calls e) ≡ true
  goes_inner calls (Finished c) all = all
  goes_inner calls (Refused c refusal) all = refl

  turns_inner : (turns : List Turn) (c : Contents) → inner (turns_made d stamp.who turns c) ≡ true
  turns_inner [] c = refl
  turns_inner (turn ∷ turns) c = all-append is_inner (made d (turn_calls d stamp.who turn) c) _ (made_inner d (turn_calls d stamp.who turn) c (turn_inner d stamp.who turn))
      (goes_inner (turns_made d stamp.who turns (contents_in (ending d turn c))) (ending d turn c) (turns_inner turns (contents_in (ending d turn c))))

  inserts_inner : (rows : List Tracked) → inner (map (λ r. Execute (Rows (Inserted r))) rows ++ Commit ∷ []) ≡ true
  inserts_inner [] = refl
  inserts_inner (row ∷ rows) = inserts_inner rows

-- a session that holds the lock goes on so

record Held (s : Session) : Type 0 where
  committed : s.committed.lock.locked ≡ true
  seen : s.seen.lock.locked ≡ true

module _ (d : Dialect) where
  up : (own : Bool) (s : Session) → Held s → Held (settled_if own s)
  up true s is = record { committed = is.seen; seen = is.seen }
  up false s is = is

  stays : (deed : Deed) (database : Database) → is_inner (Execute deed) ≡ true → (locked_after deed database).lock.locked ≡ database.lock.locked
  stays (Users s) database all = refl
  stays (Rows w) database all = refl
  stays (Locks (Marked by)) database all = refl
  stays (Locks LogMade) database all = refl
  stays (Locks LockMade) database all = refl
  stays (Locks LockRowMade) database all = refl
  stays (Locks (Taken at by)) database all = Prim.cc
  stays (Locks Freed) database all = Prim.cc

  takes : (own : Bool) (deed : Deed) (now : Database) (s : Session) → now.lock.locked ≡ true → Held s → Held (settled_if own (record (settled_if own s) { seen = now; begun = (settled_if own s).begun ++ deed ∷ [] }))
  takes own deed now s is held =
      let first = up own s held in
      up own (record (settled_if own s) { seen = now; begun = (settled_if own s).begun ++ deed ∷ [] }) (record { committed = first.committed; seen = is })

  executes : (deed : Deed) (s : Session) → is_inner (Execute deed) ≡ true → Held s → Held (executed_as d deed s (done d deed s.seen))
  executes deed s all held = elim (contents_after d deed (contents_of s.seen)) as (λ r. Held (executed_as d deed s (if_accepted (with_contents (locked_after deed s.seen)) r))) [
    | Ok now ↦ takes (is_own d deed) deed (with_contents (locked_after deed s.seen) now) s (stays deed s.seen all ∙ held.seen) held
    | Err reason ↦ up (is_own d deed) s held
  ]

  calls_hold : (calls : List Call) (s : Session) → inner calls ≡ true → Held s → Held (all_called d calls s)
  calls_hold [] s all held = held
  calls_hold (Begin ∷ calls) s all held = calls_hold calls (record s { is_open = true }) all (record { committed = held.committed; seen = held.seen })
  calls_hold (Commit ∷ calls) s all held = calls_hold calls (closed s) all (record { committed = held.seen; seen = held.seen })
  calls_hold (Abort ∷ calls) s all held = calls_hold calls (aborted s) all (record { committed = held.committed; seen = held.committed })
  calls_hold (Alone deeds room ∷ calls) s all held = Prim.cc
  calls_hold (Execute deed ∷ calls) s all held = calls_hold calls (executed_as d deed s (done d deed s.seen)) (and_right (is_inner (Execute deed)) _ all) (executes deed s (and_left (is_inner (Execute deed)) _ all) held)

  last_taken : (ws : List OnLock) (at : ℕ) (by : List ℕ) (s : Session) → Held (all_executed d (map Locks (ws ++ Taken at by ∷ [])) s)
  last_taken [] at by s = by_own (is_own d (Locks (Taken at by))) where
    by_own : (own : Bool) → Held (closed (settled_if own (record (settled_if own s) { seen = with_contents (lock_after (Taken at by) s.seen) (contents_of s.seen); begun = (settled_if own s).begun ++ Locks (Taken at by) ∷ [] })))
    by_own true = record { committed = refl; seen = refl }
    by_own false = record { committed = refl; seen = refl }
  last_taken (w ∷ ws) at by s =
      let own = is_own d (Locks w) in
      last_taken ws at by (settled_if own (record (settled_if own s) { seen = with_contents (lock_after w s.seen) (contents_of s.seen); begun = (settled_if own s).begun ++ Locks w ∷ [] }))

  opens : (stamp : Stamp) (database : Database) (s : Session) → Held (all_executed d (map Locks (opening stamp database)) s)
  opens stamp database s =
      let a = if_missing database.has_log LogMade in
      let b = if_missing database.has_lock LockMade in
      let c = if_missing database.has_lock_row LockRowMade in
      let last = Taken stamp.reading stamp.who ∷ [] in
      subst (λ ws. Held (all_executed d (map Locks ws) s)) (append_assoc a (b ++ c) last ∙ ap (λ ws. a ++ ws) (append_assoc b c last)) (last_taken (a ++ (b ++ c)) stamp.reading stamp.who s)

-- the scripts of commands: none, one call, or calls that hold the lock

abbrev Shape : Dialect → Stamp → Database → List Call → Type 0
Shape d stamp database script = (script ≡ []) ⊎ (((call : Call) × (script ≡ call ∷ [])) ⊎ ((calls : List Call) × (script ≡ with_lock stamp database calls) × (inner calls ≡ true)))

module _ {Key : Type 0} (d : Dialect) (m : Meaning Key) (stamp : Stamp) (g : Changelog Key) (database : Database) where
  none_shape : Shape d stamp database []
  none_shape = inl refl

  update_shape : (b : Bool) → Shape d stamp database (if b then with_lock stamp database (sets_calls d m stamp g.sets (contents_of database)) else [])
  update_shape true = inr (inr (sets_calls d m stamp g.sets (contents_of database), refl, sets_inner d m stamp g.sets (contents_of database)))
  update_shape false = inl refl

  sync_shape : (rows : List Tracked) → Shape d stamp database (sync_of d stamp rows database)
  sync_shape [] = inl refl
  sync_shape (row ∷ rows) = inr (inr (made d (Begin ∷ map (λ r. Execute (Rows (Inserted r))) (row ∷ rows) ++ Commit ∷ []) (contents_of database), refl, made_inner d (Begin ∷ map (λ r. Execute (Rows (Inserted r))) (row ∷ rows) ++ Commit ∷ []) (contents_of database) (inserts_inner d m stamp (row ∷ rows))))

  turns_shape : (turns : List Turn) → Shape d stamp database (rollback_of d stamp turns database)
  turns_shape [] = inl refl
  turns_shape (turn ∷ turns) = inr (inr (turns_made d stamp.who (turn ∷ turns) (contents_of database), refl, turns_inner d m stamp (turn ∷ turns) (contents_of database)))

  undo_shape : (o : Option (List Turn)) → Shape d stamp database (elim o as (λ _. List Call) [ Some turns ↦ rollback_of d stamp turns database | None ↦ [] ])
  undo_shape None = inl refl
  undo_shape (Some turns) = turns_shape turns

  target_shape : (o : Option ℕ) → Shape d stamp database (elim o as (λ _. List Call) [ Some stay ↦ rollback_calls d m stamp g.sets stay database | None ↦ [] ])
  target_shape None = inl refl
  target_shape (Some stay) = undo_shape (undo_turns d m g.sets (rows_undone stay database.rows))

  tag_shape : (tag : List ℕ) (o : Option Tracked) → Shape d stamp database (tag_of tag o)
  tag_shape tag None = inl refl
  tag_shape tag (Some row) = inr (inl (_, refl))

  release_shape : (b : Bool) → Shape d stamp database (if b then closing ∷ [] else [])
  release_shape true = inr (inl (closing, refl))
  release_shape false = inl refl

  shape : (command : Command) → Shape d stamp database (script_of d m command stamp g database)
  shape Update = update_shape (has_work g.sets database.rows && not (is_halt (own_choice g (contents_of database))))
  shape Sync = sync_shape (rows_to_sync stamp.reading g.sets database.rows)
  shape (Rollback target) = target_shape (rows_kept target database.rows)
  shape (Tag tag) = tag_shape tag (last_row database.rows)
  shape Release = release_shape database.lock.locked
  shape Validate = none_shape
  shape Status = none_shape

module _ (d : Dialect) (stamp : Stamp) (database : Database) (k call : Call) (ks more : List Call) where
  first_of : (calls : List Call) → with_lock stamp database calls ≡ (k ∷ ks) ++ call ∷ more → k ≡ Alone (map Locks (opening stamp database)) Ordinary
  first_of calls is = Prim.cc

  others_of : (calls : List Call) → with_lock stamp database calls ≡ (k ∷ ks) ++ call ∷ more → calls ++ closing ∷ [] ≡ ks ++ call ∷ more
  others_of calls is = Prim.cc

  no_more : (zs : List Call) → closing ∷ [] ≡ zs ++ call ∷ more → zs ≡ []
  no_more [] is = refl
  no_more (z ∷ []) is = Prim.cc
  no_more (z ∷ y ∷ zs) is = Prim.cc

  front_inner : (calls : List Call) → inner calls ≡ true → calls ++ closing ∷ [] ≡ ks ++ call ∷ more → inner ks ≡ true
  front_inner calls all is = elim (cut calls (closing ∷ []) ks (call ∷ more) is) as (λ _. inner ks ≡ true) [
    | inl z ↦ all-append_left is_inner ks z.0 (sym (ap inner z.1) ∙ all)
    | inr z ↦ ap inner (z.1 ∙ ap (λ zs. calls ++ zs) (no_more z.0 z.2) ∙ append-nil calls) ∙ all
  ]

  holds_lock : (script : List Call) → Shape d stamp database script → script ≡ (k ∷ ks) ++ call ∷ more → Held (all_called d (k ∷ ks) (session_on database))
  holds_lock script (inl none) is = Prim.cc
  holds_lock script (inr (inl one)) is = absurd (too_short one.0 ks (sym one.1 ∙ is)) where
    too_short : (only : Call) (ks : List Call) → only ∷ [] ≡ (k ∷ ks) ++ call ∷ more → ⊥
    too_short only [] is = Prim.cc
    too_short only (y ∷ ks) is = Prim.cc
  holds_lock script (inr (inr locks)) is =
      let at = sym locks.1 ∙ is in
      subst (λ c. Held (all_called d (c ∷ ks) (session_on database))) (sym (first_of locks.0 at))
      (calls_hold d ks (all_executed d (map Locks (opening stamp database)) (session_on database)) (front_inner locks.0 locks.2 (others_of locks.0 at)) (opens d stamp database (session_on database)))

module _ {Key : Type 0} (Answer : Type 0) (m : Meaning Key) (locked : Lock → Answer) (busy : ℕ → Answer) (d : Dialect) (refuses : Task Key → Database → Option Answer) (answer : Task Key → Database → Answer) (tasks : ℕ → Task Key) (database : Database) where
  abbrev jobs : ℕ → Job Answer locked busy
  jobs k = job_of Answer locked busy d m refuses answer (tasks k)

  -- while a runner is under way, the lock is held
  way_locked : (order : List ℕ) (o : Option (Holder Answer locked busy)) (committed : Database) → is_some o ≡ true → Stands Answer locked busy d jobs database order o committed → committed.lock.locked ≡ true
  way_locked order None committed there stands = Prim.cc
  way_locked order (Some h) committed there way =
      let task = tasks h.runner in
      let e = way_before way in
      let made = way.first in
      let held = holds_lock d task.stamp e made.0 way.comes.0 made.1 way.comes.1 (script_of d m task.command task.stamp task.changelog e) (shape d m task.stamp task.changelog e task.command)
      (way.script ∙ ap (λ calls. calls ++ h.rest) made.2 ∙ ap (λ calls. (made.0 ∷ made.1) ++ calls) way.comes.2) in
      ap (λ (x : Database). x.lock.locked) (way.committed_is ∙ ap (λ (s : Session). s.committed) (way.session ∙ ap (λ calls. all_called d calls (session_on e)) made.2)) ∙ held.committed where
        way_before : IsUnderWay Answer locked busy d jobs database order h committed → Database
        way_before w = serial Answer locked busy d jobs w.before database

  module _ (n : ℕ) (x : Machine Answer locked busy) where
    abbrev at_with : Command → Option Answer
    at_with command =
        if needs_lock command && x.committed.lock.locked
        then Some (locked x.committed.lock)
        else unless_open Answer locked busy d jobs (open_by Answer locked busy d jobs x.holder) (unless_refused Answer locked busy d jobs (refuses (tasks n) x.committed) (unless_called Answer locked busy d jobs (script_of d m command (tasks n).stamp (tasks n).changelog x.committed) (answer (tasks n) x.committed)))

    must_wait : (command : Command) → needs_lock command ≡ true → x.committed.lock.locked ≡ true → {A : Type 0} → is_none (at_with command) ≡ true → A
    must_wait command needs held early = true_false (sym (ap (λ b. is_none (if b then Some (locked x.committed.lock) else other)) (ap (λ b. b && x.committed.lock.locked) needs ∙ held)) ∙ early) refl where
      other : Option Answer
      other = unless_open Answer locked busy d jobs (open_by Answer locked busy d jobs x.holder) (unless_refused Answer locked busy d jobs (refuses (tasks n) x.committed) (unless_called Answer locked busy d jobs (script_of d m command (tasks n).stamp (tasks n).changelog x.committed) (answer (tasks n) x.committed)))

    looks_at_once : (o : Option ℕ) (r : Option Answer) (its : Answer) → {A : Type 0} → is_none (unless_open Answer locked busy d jobs o (unless_refused Answer locked busy d jobs r (Some its))) ≡ true → A
    looks_at_once (Some k) r its early = Prim.cc
    looks_at_once None (Some a) its early = Prim.cc
    looks_at_once None None its early = Prim.cc

    is_release : (command : Command) → x.committed.lock.locked ≡ true → is_none (at_with command) ≡ true → command ≡ Release
    is_release Release held early = refl
    is_release Validate held early = looks_at_once (open_by Answer locked busy d jobs x.holder) (refuses (tasks n) x.committed) (answer (tasks n) x.committed) early
    is_release Status held early = looks_at_once (open_by Answer locked busy d jobs x.holder) (refuses (tasks n) x.committed) (answer (tasks n) x.committed) early
    is_release Update held early = must_wait Update refl held early
    is_release Sync held early = must_wait Sync refl held early
    is_release (Rollback target) held early = must_wait (Rollback target) refl held early
    is_release (Tag tag) held early = must_wait (Tag tag) refl held early

pub only_releases_are_early : {Key : Type 0} (Answer : Type 0) (m : Meaning Key) → OnlyReleasesAreEarly Answer m
only_releases_are_early {Key} Answer m locked busy d refuses answer tasks database schedule n timely early =
    let runs = jobs Answer m locked busy d refuses answer tasks database in
    let x = all_moved Answer locked busy d runs schedule (start Answer locked busy database) in
    let serial = schedules_are_serial Answer locked busy d runs database schedule timely in
    let first = and_left _ (is_some x.holder) early in
    let fresh = and_right (not (has_answered Answer locked busy n x)) _ first in
    is_release Answer m locked busy d refuses answer tasks database n x (tasks n).command
    (way_locked Answer m locked busy d refuses answer tasks database serial.order x.holder x.committed (and_right (makes_first Answer locked busy d runs n x) _ early) serial.stands)
    (and_right (not (has_begun Answer locked busy n x)) _ fresh)
