-- What stands at each moment of a command that holds the lock for its turns.
use Rattle.std.proofs.Common.{ap, inl, inr, subst, sym, ◌∙◌}
use Rattle.std.proofs.lemmas.List.{append_assoc}
use Rattle.std.specs.List.{last_or, list_all}
use Rattle.std.specs.Prelude.{Bool, List, None, Ok, Option, Some, [], false, if◌then◌else◌, map, not, pos, refl, true, ℕ, ◌&&◌, ◌++◌, ◌∷◌, ◌≡◌, ◌⊎◌}
use Rattle.lq_base.specs.declared.dialect.Dialect.{Dialect}
use Rattle.lq_base.specs.declared.dialect.Dialect.TheVariants.{Mysql, Postgresql}
use Rattle.lq_base.specs.declared.run.Did.{Did}
use Rattle.lq_base.specs.declared.run.Did.TheVariants as did
use Rattle.lq_base.specs.declared.run.Why.{Why}
use Rattle.lq_base.specs.declared.tracking.Lock.{Lock}
use Rattle.lq_base.specs.declared.tracking.Tracked.{Tracked}
use Rattle.lq_model.proofs.Lists.{and_left, and_right, true_false}
use Rattle.lq_model.specs.Sound.{IsSound}
use Rattle.lq_track.specs.Database.{Database}
use Rattle.lq_track.specs.Lock.{free, taken}
use Rattle.lq_turns.specs.Deed.{Contents, contents_of, with_contents, all_done, if_accepted, lock_after, rows_after}
use Rattle.lq_turns.specs.Set.{not_fresh, Changelog, IsKept, Meaning, Set}
use Rattle.lq_turns.specs.Laws.{AreRead, all_inserted, inserted_then, with_rows}
use Rattle.lq_turns.specs.Script.{all_rolled, calls_if_finished, rolled_as, turns_made, calls_of_turn, calls_unless, closing, has_work, if_missing, opening, rows_to_sync, set_calls, sets_calls, sync_of, turn_by, update_calls, with_lock}
use Rattle.lq_turns.specs.Session.{Session, all_called, all_executed, is_own, session_on, settled_if}
use Rattle.lq_turns.specs.Settle.{Settled, all_settled, choice, did_of, fill_turn, followed, is_halt, mark_turn, own_choice, run_ending, run_turn, settle, settled_as, settled_by}
use Rattle.lq_turns.specs.Stops.{Journal, joined}
use Rattle.lq_turns.specs.declared.call.Call.{Call}
use Rattle.lq_turns.specs.declared.call.Call.TheVariants.{Begin, Commit, Execute}
use Rattle.lq_turns.specs.declared.choice.Choice.{Choice}
use Rattle.lq_turns.specs.declared.choice.Choice.TheVariants.{Fills, Halts, Marks, Passes, Runs, Skips}
use Rattle.lq_turns.specs.declared.deed.Deed.{Deed}
use Rattle.lq_turns.specs.declared.deed.Deed.TheVariants.{Locks, Rows}
use Rattle.lq_turns.specs.declared.deed.OnLock.{OnLock}
use Rattle.lq_turns.specs.declared.deed.OnLock.TheVariants.{Freed, LockMade, LockRowMade, LogMade, Marked, Taken}
use Rattle.lq_turns.specs.declared.deed.OnRows.TheVariants.{Inserted}
use Rattle.lq_turns.specs.declared.stamp.Stamp.{Stamp}
use Rattle.lq_turns.specs.declared.stop.Stop.{Stop}
use Rattle.lq_turns.specs.declared.turn.Turn.{Turn}
use Rattle.lq_turns.specs.Turn.{Ending, Finished, Refused, contents_in, ending, made, turn_calls}
use Rattle.lq_turns.specs.Within.{holds_unless, IsBetween, RollbackStands, RollbackStops, SyncStops, UpdateFront, UpdateFronts, UpdateStands, UpdateStops, gives_way, is_refused, is_turn_refused, none_gives_way}
use Rattle.lq_turns.proofs.Entered.{is_finished}
use Rattle.lq_turns.proofs.GoesOn.{onwards, still}
use Rattle.lq_turns.proofs.Journal.{same_ok}
use Rattle.lq_turns.proofs.Made.{calls_both}
use Rattle.lq_turns.proofs.Marks.{Fine, Visits, deed_taken, fine_aborted, fine_closed, fine_deed, fine_open, fine_up, visits_front, with_deed}
use Rattle.lq_turns.proofs.TurnLeft.{row_not_own}
use Rattle.lq_turns.proofs.TurnStops.{if_ok, turn_stops}
use Rattle.lq_turns.proofs.Updates.{opened, run_is, sets_taken, settled_is, turn_left}

-- the calls around the turns

abbrev keeps_lock : OnLock → Bool
keeps_lock LogMade = true
keeps_lock LockMade = true
keeps_lock LockRowMade = true
keeps_lock _ = false

taken_not_own : (d : Dialect) (at : ℕ) (by : List ℕ) → is_own d (Locks (Taken at by)) ≡ false
taken_not_own Postgresql at by = refl
taken_not_own Mysql at by = refl

freed_not_own : (d : Dialect) → is_own d (Locks Freed) ≡ false
freed_not_own Postgresql = refl
freed_not_own Mysql = refl

module _ (d : Dialect) (P : Option Deed → Database → Type 0) (stamp : Stamp) (database : Database)
    (unheld : (o : Option Deed) (now : Database) → now.lock ≡ free → contents_of now ≡ contents_of database → P o now) (between : (o : Option Deed) (now : Database) → IsBetween stamp (contents_of database) now → P o now) (unlocked : database.lock ≡ free) where
  abbrev start : Session
  start = session_on database

  record Opens (s : Session) : Type 0 where
    fine : Fine d P start s
    lock : s.seen.lock ≡ free
    contents : contents_of s.seen ≡ contents_of database

  -- nothing is begun, and the lock is held without a mark
  pub record IsReady (c : Contents) (s : Session) : Type 0 where
    pub fine : Fine d P start s
    pub begun : s.begun ≡ []
    pub at : IsBetween stamp c s.seen

  keeps_free : (w : OnLock) (database : Database) → keeps_lock w ≡ true → (lock_after w database).lock ≡ database.lock
  keeps_free LogMade database is = refl
  keeps_free LockMade database is = refl
  keeps_free LockRowMade database is = refl
  keeps_free (Taken at by) database is = Prim.cc
  keeps_free (Marked by) database is = Prim.cc
  keeps_free Freed database is = Prim.cc

  up_opens : (own : Bool) (s : Session) → Opens s → Opens (settled_if own s)
  up_opens false s is = is
  up_opens true s is = record { fine = fine_up d P start s is.fine (unheld (last_or is.fine.last s.begun) s.seen is.lock is.contents); lock = is.lock; contents = is.contents }

  one_opens : (w : OnLock) (s : Session) → keeps_lock w ≡ true → Opens s → Opens (with_deed d P (Locks w) (with_contents (lock_after w s.seen) (contents_of s.seen)) s)
  one_opens w s keeps is = record {
    fine = fine_deed d P (Locks w) (with_contents (lock_after w s.seen) (contents_of s.seen)) start s refl is.fine;
    lock = keeps_free w s.seen keeps ∙ is.lock;
    contents = is.contents;
  }

  seen_if : (own : Bool) (s : Session) → (settled_if own s).seen ≡ s.seen
  seen_if true s = refl
  seen_if false s = refl

  opens_more : (ws more : List OnLock) (Q : Session → Type 0) (s : Session) → list_all keeps_lock ws ≡ true → ((t : Session) → Opens t → Q (all_executed d (map Locks more) t)) → Opens s → Q (all_executed d (map Locks (ws ++ more)) s)
  opens_more [] more Q s all last is = last s is
  opens_more (w ∷ ws) more Q s all last is =
      let own = is_own d (Locks w) in
      let up = settled_if own s in
      let one = one_opens w up (and_left _ (list_all keeps_lock ws) all) (up_opens own s is) in
      let same = subst (λ (x : Database). Opens (with_deed d P (Locks w) (with_contents (lock_after w x) (contents_of x)) up)) (seen_if own s) one in
      opens_more ws more Q (settled_if own (with_deed d P (Locks w) (with_contents (lock_after w s.seen) (contents_of s.seen)) up)) (and_right (keeps_lock w) _ all) last
      (up_opens own (with_deed d P (Locks w) (with_contents (lock_after w s.seen) (contents_of s.seen)) up) same)

  takes_lock : (s : Session) → Opens s → IsReady (contents_of database) (all_executed d (map Locks (Taken stamp.reading stamp.who ∷ [])) s)
  takes_lock s is =
      let now = with_contents (lock_after (Taken stamp.reading stamp.who) s.seen) (contents_of s.seen) in
      subst (λ own. IsReady (contents_of database) (all_executed d [] (settled_if own (with_deed d P (Locks (Taken stamp.reading stamp.who)) now (settled_if own s))))) (sym (taken_not_own d stamp.reading stamp.who))
      (let at : IsBetween stamp (contents_of database) now = record { contents = is.contents; lock = refl } in record {
        fine = fine_closed d P start (with_deed d P (Locks (Taken stamp.reading stamp.who)) now s) (fine_deed d P (Locks (Taken stamp.reading stamp.who)) now start s refl is.fine) (between (last_or is.fine.last (s.begun ++ Locks (Taken stamp.reading stamp.who) ∷ [])) now at);
        begun = refl;
        at = at;
      })

  missing_keep : (there : Bool) (w : OnLock) → keeps_lock w ≡ true → list_all keeps_lock (if_missing there w) ≡ true
  missing_keep true w is = refl
  missing_keep false w is = ap (λ b. b && true) is

  pub ready : IsReady (contents_of database) (all_executed d (map Locks (opening stamp database)) start)
  ready =
      let rows = if_missing database.has_lock_row LockRowMade ++ Taken stamp.reading stamp.who ∷ [] in
      let locks = if_missing database.has_lock LockMade ++ rows in
      opens_more (if_missing database.has_log LogMade) locks (IsReady (contents_of database)) start (missing_keep database.has_log LogMade refl)
      (λ s first. opens_more (if_missing database.has_lock LockMade) rows (IsReady (contents_of database)) s (missing_keep database.has_lock LockMade refl)
      (λ t second. opens_more (if_missing database.has_lock_row LockRowMade) (Taken stamp.reading stamp.who ∷ []) (IsReady (contents_of database)) t (missing_keep database.has_lock_row LockRowMade refl) takes_lock second) first)
      (record { fine = record { more = []; entries = refl; last = None; visits = (unheld None database unlocked refl, refl, refl); leads = refl }; lock = unlocked; contents = refl })

  frees_lock : (s : Session) → ((o : Option Deed) (now : Database) → now.lock ≡ free → contents_of now ≡ contents_of s.seen → P o now) → Fine d P start s → Fine d P start (all_executed d (Locks Freed ∷ []) s)
  frees_lock s ended fine =
      let now = with_contents (lock_after Freed s.seen) (contents_of s.seen) in
      subst (λ own. Fine d P start (all_executed d [] (settled_if own (with_deed d P (Locks Freed) now (settled_if own s))))) (sym (freed_not_own d))
      (fine_closed d P start (with_deed d P (Locks Freed) now s) (fine_deed d P (Locks Freed) now start s refl fine) (ended (last_or fine.last (s.begun ++ Locks Freed ∷ [])) now refl refl))

  -- each front of its entries leads to what has the property
  pub locked_stops : (calls : List Call) → ((s : Session) → IsReady (contents_of database) s → Fine d P start (all_called d calls s))
      → ((o : Option Deed) (now : Database) → now.lock ≡ free → contents_of now ≡ contents_of (all_called d calls (all_executed d (map Locks (opening stamp database)) start)).seen → P o now) → (front rest : Journal) (now : Database)
      → (all_called d (with_lock stamp database calls) start).entries ≡ front ++ rest → all_done d (joined front) database ≡ Ok now → P (last_or None (joined front)) now
  locked_stops calls go ended front rest now is led =
      let here = all_executed d (map Locks (opening stamp database)) start in
      let fine = frees_lock (all_called d calls here) ended (go here ready) in
      let entries = sym fine.entries ∙ sym (ap (λ (s : Session). s.entries) (calls_both d calls (closing ∷ []) here)) ∙ is in
      visits_front d P None database front rest fine.last (all_executed d (Locks Freed ∷ []) (all_called d calls here)).committed now
      (subst (λ es. Visits d P None database es fine.last (all_executed d (Locks Freed ∷ []) (all_called d calls here)).committed) entries fine.visits) led

  pub nothing_stops : (front rest : Journal) (now : Database) → (let none : Journal = [] in none) ≡ front ++ rest → all_done d (joined front) database ≡ Ok now → P (last_or None (joined front)) now
  nothing_stops [] rest now is led = subst (P None) (same_ok d led) (unheld None database unlocked refl)
  nothing_stops (e ∷ front) rest now is led = Prim.cc

never : {A : Type 0} (lock : Lock) → lock ≡ free → lock.locked ≡ true → A
never lock is held = no_way (sym (ap (λ (l : Lock). l.locked) is) ∙ held) where
  no_way : {A : Type 0} → false ≡ true → A
  no_way q = Prim.cc

some_turn : {a b : Turn} → (let o : Option Turn = Some a in o) ≡ Some b → a ≡ b
some_turn is = Prim.cc

-- an update

refused_is : (e : Ending) → is_finished e ≡ false → is_refused e ≡ true
refused_is (Finished c) over = Prim.cc
refused_is (Refused c refusal) over = refl

not_true : (b : Bool) → not b ≡ true → b ≡ false
not_true true h = Prim.cc
not_true false h = refl

module _ {Key : Type 0} (d : Dialect) (m : Meaning Key) (keeps : IsKept m) (stamp : Stamp) where
  -- a turn that is refused stops the update, but for failOnError
  finished_is : (x : Set Key) (made : Did) (why : Option Why) (n : ℕ) (e : Ending) → is_finished e ≡ false → (settled_as x made why n e).stop ≡ None → x.fail_on_error ≡ false
  finished_is x made why n (Finished c) over stop = Prim.cc
  finished_is x made why n (Refused c refusal) over stop = by x.fail_on_error stop where
    by : (b : Bool) → (settled_as (record x { fail_on_error = b }) made why n (Refused c refusal)).stop ≡ None → b ≡ false
    by true stop = Prim.cc
    by false stop = refl

  refused_stops : (x : Set Key) (c : Contents) (q : Choice) (turn : Turn) → turn_by d m stamp x c.rows q ≡ Some turn → list_all (m.is_for d) x.changes ≡ true → IsSound d c.users
      → is_finished (ending d turn c) ≡ false → (settled_by d m stamp.reading x c q).stop ≡ None → x.fail_on_error ≡ false
  refused_stops x c Passes turn is read sound over stop = Prim.cc
  refused_stops x c Skips turn is read sound over stop = Prim.cc
  refused_stops x c (Halts why) turn is read sound over stop = Prim.cc
  refused_stops x c Fills turn is read sound over stop =
      let same = some_turn is in
      true_false (let well : is_finished (ending d (fill_turn x) c) ≡ true = refl in well) (ap (λ t. is_finished (ending d t c)) same ∙ over)
  refused_stops x c (Marks w) turn is read sound over stop = finished_is x did.Marked None 0 (ending d (mark_turn stamp.reading w x c.rows) c) (ap (λ t. is_finished (ending d t c)) (some_turn is) ∙ over) stop
  refused_stops x c (Runs w why) turn is read sound over stop = finished_is x (did_of w) why (not_fresh d m x.changes c.users) (run_ending d m stamp.reading (run_turn d m stamp.reading w x c.rows) x c)
      (ap is_finished (run_is d m keeps stamp x (run_turn d m stamp.reading w x c.rows) c refl read sound) ∙ ap (λ t. is_finished (ending d t c)) (some_turn is) ∙ over) stop

  finished_goes : (x : Set Key) (made : Did) (why : Option Why) (n : ℕ) (e : Ending) → is_finished e ≡ true → (settled_as x made why n e).stop ≡ None
  finished_goes x made why n (Finished c) over = refl
  finished_goes x made why n (Refused c refusal) over = Prim.cc

  goes_past : (x : Set Key) (c : Contents) (q : Choice) (turn : Turn) → turn_by d m stamp x c.rows q ≡ Some turn → list_all (m.is_for d) x.changes ≡ true → IsSound d c.users
      → is_finished (ending d turn c) ≡ true → (settled_by d m stamp.reading x c q).stop ≡ None
  goes_past x c Passes turn is read sound over = refl
  goes_past x c Skips turn is read sound over = refl
  goes_past x c (Halts why) turn is read sound over = Prim.cc
  goes_past x c Fills turn is read sound over = refl
  goes_past x c (Marks w) turn is read sound over = finished_goes x did.Marked None 0 (ending d (mark_turn stamp.reading w x c.rows) c) (ap (λ t. is_finished (ending d t c)) (some_turn is) ∙ over)
  goes_past x c (Runs w why) turn is read sound over = finished_goes x (did_of w) why (not_fresh d m x.changes c.users) (run_ending d m stamp.reading (run_turn d m stamp.reading w x c.rows) x c)
      (ap is_finished (run_is d m keeps stamp x (run_turn d m stamp.reading w x c.rows) c refl read sound) ∙ ap (λ t. is_finished (ending d t c)) (some_turn is) ∙ over)

  module _ (sets : List (Set Key)) (database : Database) (unlocked : database.lock ≡ free) where
    abbrev first : Contents
    first = contents_of database

    abbrev IsStanding : Option Deed → Database → Type 0
    IsStanding o now = UpdateFront d m stamp sets first o now

    unheld : (o : Option Deed) (now : Database) → now.lock ≡ free → contents_of now ≡ contents_of database → IsStanding o now
    unheld o now is at = inr (is, inl at)

    over : (o : Option Deed) (now : Database) → now.lock ≡ free → contents_of now ≡ (all_settled d m stamp.reading sets first).contents → IsStanding o now
    over o now is at = inr (is, inr at)

    abbrev after : List (Set Key) → Contents
    after turns = (all_settled d m stamp.reading turns first).contents

    between : (turns rest : List (Set Key)) (o : Option Deed) (now : Database) → sets ≡ turns ++ rest → (all_settled d m stamp.reading turns first).stop ≡ None → IsBetween stamp (after turns) now → IsStanding o now
    between turns rest o now are stop at = inl (ap (λ (l : Lock). l.locked) at.lock, record { turns = turns; rest = rest; are = are; goes_on = stop; stands = inl at })

    abbrev Ready : Contents → Session → Type 0
    Ready c s = IsReady d IsStanding stamp database unheld (λ o now at. between [] sets o now refl refl at) unlocked c s

    -- one more
    one_more : (turns : List (Set Key)) (x : Set Key) (o : Option Stop) → (all_settled d m stamp.reading turns first).stop ≡ None → (settle d m stamp.reading x (after turns)).stop ≡ o → o ≡ None
        → ((all_settled d m stamp.reading (turns ++ x ∷ []) first).contents ≡ (settle d m stamp.reading x (after turns)).contents) × ((all_settled d m stamp.reading (turns ++ x ∷ []) first).stop ≡ None)
    one_more turns x o stop is none =
        let on = onwards d m keeps stamp turns (x ∷ []) first stop in
        let last = is ∙ none in (
          on.0 ∙ ap (λ o. (followed o (settle d m stamp.reading x (after turns)) (all_settled d m stamp.reading [])).contents) last,
          on.1 ∙ ap (λ o. (followed o (settle d m stamp.reading x (after turns)) (all_settled d m stamp.reading [])).stop) last,
        )

    abbrev here : Set Key → List (Set Key) → Settled
    here x turns = settle d m stamp.reading x (after turns)

    record IsPast (x : Set Key) (turns : List (Set Key)) (s : Session) : Type 0 where
      fine : Fine d IsStanding (session_on database) s
      begun : s.begun ≡ []
      at : (here x turns).stop ≡ None → gives_way d m stamp x (after turns) ≡ false → IsBetween stamp (here x turns).contents s.seen

    one_turn : (turns : List (Set Key)) (x : Set Key) (more : List (Set Key)) (s : Session) (turn : Turn) → sets ≡ turns ++ x ∷ more → (all_settled d m stamp.reading turns first).stop ≡ None
        → list_all (m.is_for d) x.changes ≡ true → IsSound d (after turns).users → turn_by d m stamp x (after turns).rows (choice x (after turns)) ≡ Some turn → Ready (after turns) s
        → IsPast x turns (all_called d (made d (turn_calls d stamp.who turn) (after turns)) s)
    one_turn turns x more s turn are stop read sound is ready =
        let c = after turns in
        let q = choice x c in
        let contents = settled_is d m keeps stamp x c q read sound ∙ ap (λ t. turn_left d t c) is in
        let over = turn_stops d IsStanding stamp turn c
        (λ o now within. inl (ap (λ (l : Lock). l.locked) within.lock, record { turns = turns; rest = x ∷ more; are = are; goes_on = stop; stands = inr (x, more, turn, refl, is, within) }))
        (λ o e now done at.
        let past = one_more turns x (here x turns).stop stop refl (goes_past x c q turn is read sound (ap is_finished done)) in
        between (turns ++ x ∷ []) more o now (are ∙ sym (append_assoc turns (x ∷ []) more)) past.1
        (record { contents = at.contents ∙ sym (past.0 ∙ contents ∙ ap contents_in done); lock = at.lock }))
        (session_on database) s ready.fine ready.at.contents ready.at.lock in
        record {
          fine = over.fine;
          begun = over.begun;
          at = λ none way. elim over.ended as (λ _. IsBetween stamp (here x turns).contents (all_called d (made d (turn_calls d stamp.who turn) c) s).seen) [
            | inl e ↦ record { contents = e.2.contents ∙ sym (contents ∙ ap contents_in e.1); lock = e.2.lock }
            | inr refused ↦ true_false (ap (λ b. not b && is_turn_refused d (turn_by d m stamp x c.rows q) c) (refused_stops x c q turn is read sound refused none) ∙ ap (λ t. is_turn_refused d t c) is ∙ refused_is (ending d turn c) refused) way
          ];
        }

    one_past : (turns : List (Set Key)) (x : Set Key) (more : List (Set Key)) (s : Session) → sets ≡ turns ++ x ∷ more → (all_settled d m stamp.reading turns first).stop ≡ None
        → list_all (m.is_for d) x.changes ≡ true → IsSound d (after turns).users → Ready (after turns) s → IsPast x turns (all_called d (set_calls d m stamp x (after turns)) s)
    one_past turns x more s are stop read sound ready =
        (elim (turn_by d m stamp x (after turns).rows (choice x (after turns))) as (λ o. turn_by d m stamp x (after turns).rows (choice x (after turns)) ≡ o → IsPast x turns (all_called d (calls_of_turn d m stamp o (after turns)) s)) [
          | None ↦ λ is.
              let same = settled_is d m keeps stamp x (after turns) (choice x (after turns)) read sound ∙ ap (λ t. turn_left d t (after turns)) is in
              record { fine = ready.fine; begun = ready.begun; at = λ none way. record { contents = ready.at.contents ∙ sym same; lock = ready.at.lock } }
          | Some turn ↦ λ is. one_turn turns x more s turn are stop read sound is ready
        ]) refl

    all_past : (turns xs : List (Set Key)) (s : Session) → sets ≡ turns ++ xs → (all_settled d m stamp.reading turns first).stop ≡ None → AreRead d m xs → IsSound d (after turns).users
        → none_gives_way d m stamp xs (after turns) ≡ true → Ready (after turns) s → Fine d IsStanding (session_on database) (all_called d (sets_calls d m stamp xs (after turns)) s)
    all_past turns [] s are stop read sound skip ready = ready.fine
    all_past turns (x ∷ xs) s are stop read sound skip ready =
        let one_read = and_left _ (list_all (λ (y : Set Key). list_all (m.is_for d) y.changes) xs) read in
        let more_read = and_right (list_all (m.is_for d) x.changes) _ read in
        let past = one_past turns x xs s are stop one_read sound ready in
        let t = all_called d (set_calls d m stamp x (after turns)) s in
        subst (λ (u : Session). Fine d IsStanding (session_on database) u) (sym (calls_both d (set_calls d m stamp x (after turns)) (calls_unless (here x turns).stop (sets_calls d m stamp xs (here x turns).contents)) s))
        ((elim (here x turns).stop as (λ o. (here x turns).stop ≡ o → holds_unless o (none_gives_way d m stamp xs (here x turns).contents) ≡ true → Fine d IsStanding (session_on database) (all_called d (calls_unless o (sets_calls d m stamp xs (here x turns).contents)) t)) [
          | Some halt ↦ λ at none. past.fine
          | None ↦ λ at none.
              let more = one_more turns x None stop at refl in
              let between_now = past.at at (not_true (gives_way d m stamp x (after turns)) (and_left (not (gives_way d m stamp x (after turns))) _ skip)) in
              let next : Ready (after (turns ++ x ∷ [])) t = record { fine = past.fine; begun = past.begun; at = record { contents = between_now.contents ∙ sym more.0; lock = between_now.lock } } in
              subst (λ (c : Contents). Fine d IsStanding (session_on database) (all_called d (sets_calls d m stamp xs c) t)) more.0
              (all_past (turns ++ x ∷ []) xs t (are ∙ sym (append_assoc turns (x ∷ []) xs)) more.1 more_read
              (subst (λ (c : Contents). IsSound d c.users) (sym more.0) (still d m keeps stamp x (after turns) one_read sound))
              (subst (λ (c : Contents). none_gives_way d m stamp xs c ≡ true) (sym more.0) none) next)
        ]) refl (and_right (not (gives_way d m stamp x (after turns))) _ skip))

module _ {Key : Type 0} (m : Meaning Key) (keeps : IsKept m) (d : Dialect) (stamp : Stamp) (g : Changelog Key) (database : Database) (sound : IsSound d database.users) (read : AreRead d m g.sets) (unlocked : database.lock ≡ free)
    (skip : none_gives_way d m stamp g.sets (contents_of database) ≡ true) where
  -- what stands at a front of its entries
  abbrev StandsAt : Journal → Database → Type 0
  StandsAt front now = IsStanding d m keeps stamp g.sets database unlocked (last_or None (joined front)) now

  with_turns : (front rest : Journal) (now : Database) → (all_called d (with_lock stamp database (sets_calls d m stamp g.sets (contents_of database))) (session_on database)).entries ≡ front ++ rest → all_done d (joined front) database ≡ Ok now → StandsAt front now
  with_turns front rest now is led =
      let here = all_executed d (map Locks (opening stamp database)) (session_on database) in
      let taken = sets_taken d m keeps stamp g.sets (contents_of database) here read sound (opened d stamp database) in
      locked_stops d (IsStanding d m keeps stamp g.sets database unlocked) stamp database (unheld d m keeps stamp g.sets database unlocked)
      (λ o e at. between d m keeps stamp g.sets database unlocked [] g.sets o e refl refl at) unlocked (sets_calls d m stamp g.sets (contents_of database))
      (λ s ready. all_past d m keeps stamp g.sets database unlocked [] g.sets s refl refl read sound skip ready)
      (λ o e is at. over d m keeps stamp g.sets database unlocked o e is (at ∙ taken.seen))
      front rest now is led

  without : (front rest : Journal) (now : Database) → (let nothing : Journal = [] in nothing) ≡ front ++ rest → all_done d (joined front) database ≡ Ok now → StandsAt front now
  without front rest now is led =
      nothing_stops d (IsStanding d m keeps stamp g.sets database unlocked) stamp database (unheld d m keeps stamp g.sets database unlocked)
      (λ o e at. between d m keeps stamp g.sets database unlocked [] g.sets o e refl refl at) unlocked front rest now is led

  all_stand : (front rest : Journal) (now : Database) → (all_called d (update_calls d m stamp g database) (session_on database)).entries ≡ front ++ rest → all_done d (joined front) database ≡ Ok now → StandsAt front now
  all_stand front rest now is led = by (has_work g.sets database.rows && not (is_halt (own_choice g (contents_of database)))) is where
    by : (b : Bool) → (all_called d (if b then with_lock stamp database (sets_calls d m stamp g.sets (contents_of database)) else []) (session_on database)).entries ≡ front ++ rest → StandsAt front now
    by true q = with_turns front rest now q led
    by false q = without front rest now q led

-- at each front of its entries
pub update_fronts : {Key : Type 0} (m : Meaning Key) → IsKept m → UpdateFronts m
update_fronts m keeps d stamp g database now front rest sound read unlocked skip is led = all_stand m keeps d stamp g database sound read unlocked skip front rest now is led

pub update_stops : {Key : Type 0} (m : Meaning Key) → IsKept m → UpdateStops m
update_stops m keeps d stamp g database now front rest sound read unlocked skip is led held = elim (update_fronts m keeps d stamp g database now front rest sound read unlocked skip is led) as (λ _. UpdateStands d m stamp g.sets (contents_of database) (last_or None (joined front)) now) [
  | inl stands ↦ stands.1
  | inr rests ↦ never now.lock rests.0 held
]

-- a rollback

module _ (d : Dialect) (stamp : Stamp) where
  -- one turn more that finishes
  rolled_more : (turns : List Turn) (turn : Turn) (c e : Contents) → (all_rolled d turns c).stop ≡ None → ending d turn (all_rolled d turns c).contents ≡ Finished e
      → ((all_rolled d (turns ++ turn ∷ []) c).contents ≡ e) × ((all_rolled d (turns ++ turn ∷ []) c).stop ≡ None)
  rolled_more [] turn c e stop is = (ap (λ q. (followed (rolled_as turn q).stop (rolled_as turn q) (all_rolled d [])).contents) is, ap (λ q. (followed (rolled_as turn q).stop (rolled_as turn q) (all_rolled d [])).stop) is)
  rolled_more (t ∷ turns) turn c e stop is =
      (elim (ending d t c) as (λ q. (followed (rolled_as t q).stop (rolled_as t q) (all_rolled d turns)).stop ≡ None
      → ending d turn (followed (rolled_as t q).stop (rolled_as t q) (all_rolled d turns)).contents ≡ Finished e
      → ((followed (rolled_as t q).stop (rolled_as t q) (all_rolled d (turns ++ turn ∷ []))).contents ≡ e) × ((followed (rolled_as t q).stop (rolled_as t q) (all_rolled d (turns ++ turn ∷ []))).stop ≡ None)) [
        | Finished now ↦ λ on ends. rolled_more turns turn now e on ends
        | Refused now refusal ↦ λ on ends. Prim.cc
      ]) stop is

  module _ (all : List Turn) (database : Database) (unlocked : database.lock ≡ free) where
    abbrev origin : Contents
    origin = contents_of database

    abbrev IsStandingBack : Option Deed → Database → Type 0
    IsStandingBack o now = now.lock.locked ≡ true → RollbackStands d stamp all origin o now

    unheld_back : (o : Option Deed) (now : Database) → now.lock ≡ free → contents_of now ≡ contents_of database → IsStandingBack o now
    unheld_back o now is at held = never now.lock is held

    abbrev rolled : List Turn → Contents
    rolled turns = (all_rolled d turns origin).contents

    between_back : (turns rest : List Turn) (o : Option Deed) (now : Database) → all ≡ turns ++ rest → (all_rolled d turns origin).stop ≡ None → IsBetween stamp (rolled turns) now → IsStandingBack o now
    between_back turns rest o now are stop at held = record { turns = turns; rest = rest; are = are; goes_on = stop; stands = inl at }

    abbrev ReadyBack : Contents → Session → Type 0
    ReadyBack c s = IsReady d IsStandingBack stamp database unheld_back (λ o now at. between_back [] all o now refl refl at) unlocked c s

    one_back : (turns : List Turn) (turn : Turn) (more : List Turn) (s : Session) → all ≡ turns ++ turn ∷ more → (all_rolled d turns origin).stop ≡ None → ReadyBack (rolled turns) s
        → (over : Fine d IsStandingBack (session_on database) (all_called d (made d (turn_calls d stamp.who turn) (rolled turns)) s))
        × (((e : Contents) × (ending d turn (rolled turns) ≡ Finished e) × ReadyBack (rolled (turns ++ turn ∷ [])) (all_called d (made d (turn_calls d stamp.who turn) (rolled turns)) s)) ⊎ (is_finished (ending d turn (rolled turns)) ≡ false))
    one_back turns turn more s are stop ready =
        let over = turn_stops d IsStandingBack stamp turn (rolled turns)
        (λ o now within held. record { turns = turns; rest = turn ∷ more; are = are; goes_on = stop; stands = inr (turn, more, refl, within) })
        (λ o e now done at.
        let past = rolled_more turns turn origin e stop done in
        between_back (turns ++ turn ∷ []) more o now (are ∙ sym (append_assoc turns (turn ∷ []) more)) past.1 (record { contents = at.contents ∙ sym past.0; lock = at.lock }))
        (session_on database) s ready.fine ready.at.contents ready.at.lock in (
          over.fine,
          elim over.ended as (λ _. ((e : Contents) × (ending d turn (rolled turns) ≡ Finished e) × ReadyBack (rolled (turns ++ turn ∷ [])) (all_called d (made d (turn_calls d stamp.who turn) (rolled turns)) s)) ⊎ (is_finished (ending d turn (rolled turns)) ≡ false)) [
            | inl e ↦
                let past = rolled_more turns turn origin e.0 stop e.1 in
                inl (e.0, e.1, record { fine = over.fine; begun = over.begun; at = record { contents = e.2.contents ∙ sym past.0; lock = e.2.lock } })
            | inr refused ↦ inr refused
          ],
        )

    ended_calls : (calls : List Call) (e : Ending) (s : Session) → is_finished e ≡ false → all_called d (calls_if_finished calls e) s ≡ s
    ended_calls calls (Finished c) s is = Prim.cc
    ended_calls calls (Refused c refusal) s is = refl

    all_back : (turns rest : List Turn) (s : Session) → all ≡ turns ++ rest → (all_rolled d turns origin).stop ≡ None → ReadyBack (rolled turns) s
        → Fine d IsStandingBack (session_on database) (all_called d (turns_made d stamp.who rest (rolled turns)) s)
    all_back turns [] s are stop ready = ready.fine
    all_back turns (turn ∷ rest) s are stop ready =
        let one = one_back turns turn rest s are stop ready in
        let t = all_called d (made d (turn_calls d stamp.who turn) (rolled turns)) s in
        let q = ending d turn (rolled turns) in
        subst (λ (u : Session). Fine d IsStandingBack (session_on database) u) (sym (calls_both d (made d (turn_calls d stamp.who turn) (rolled turns)) (calls_if_finished (turns_made d stamp.who rest (contents_in q)) q) s))
        (elim one.1 as (λ _. Fine d IsStandingBack (session_on database) (all_called d (calls_if_finished (turns_made d stamp.who rest (contents_in q)) q) t)) [
          | inl e ↦
              let past = rolled_more turns turn origin e.0 stop e.1 in
              let more = all_back (turns ++ turn ∷ []) rest t (are ∙ sym (append_assoc turns (turn ∷ []) rest)) past.1 e.2 in
              subst (λ z. Fine d IsStandingBack (session_on database) (all_called d (calls_if_finished (turns_made d stamp.who rest (contents_in z)) z) t)) (sym e.1)
              (subst (λ c. Fine d IsStandingBack (session_on database) (all_called d (turns_made d stamp.who rest c) t)) past.0 more)
          | inr refused ↦ subst (λ (u : Session). Fine d IsStandingBack (session_on database) u) (sym (ended_calls (turns_made d stamp.who rest (contents_in q)) q t refused)) one.0
        ])

pub rollback_stops : RollbackStops
rollback_stops d stamp [] database now front rest unlocked is led held =
    nothing_stops d (IsStandingBack d stamp [] database unlocked) stamp database (unheld_back d stamp [] database unlocked) (λ o e at. between_back d stamp [] database unlocked [] [] o e refl refl at) unlocked front rest now is led held
rollback_stops d stamp (turn ∷ turns) database now front rest unlocked is led held =
    locked_stops d (IsStandingBack d stamp (turn ∷ turns) database unlocked) stamp database (unheld_back d stamp (turn ∷ turns) database unlocked)
    (λ o e at. between_back d stamp (turn ∷ turns) database unlocked [] (turn ∷ turns) o e refl refl at) unlocked (turns_made d stamp.who (turn ∷ turns) (contents_of database))
    (λ s ready. all_back d stamp (turn ∷ turns) database unlocked [] (turn ∷ turns) s refl refl ready) (λ o e is at held. never e.lock is held) front rest now is led held

-- a changelog-sync

module _ (d : Dialect) (stamp : Stamp) (all : List Tracked) (database : Database) (unlocked : database.lock ≡ free) where
  abbrev source : Contents
  source = contents_of database

  abbrev target : Contents
  target = with_rows source (all_inserted all database.rows)

  abbrev IsSynced : Option Deed → Database → Type 0
  IsSynced o now = now.lock.locked ≡ true → IsBetween stamp source now ⊎ IsBetween stamp target now

  abbrev inserts : List Tracked → List Call
  inserts rows = map (λ r. Execute (Rows (Inserted r))) rows ++ Commit ∷ []

  -- some rows are in, and are seen
  record IsPart (rows : List Tracked) (s : Session) : Type 0 where
    fine : Fine d IsSynced (session_on database) s
    users : s.seen.users ≡ database.users
    lock : s.seen.lock ≡ taken (pos stamp.reading) stamp.who
    leads : with_rows source (all_inserted rows s.seen.rows) ≡ target

  go_in : (rows : List Tracked) (s : Session) → IsPart rows s → Fine d IsSynced (session_on database) (all_called d (made d (inserts rows) (contents_of s.seen)) s)
  go_in [] s part = fine_closed d IsSynced (session_on database) s part.fine (λ held. inr (record { contents = ap (λ u. record (contents_of s.seen) { users = u }) part.users ∙ part.leads; lock = part.lock }))
  go_in (row ∷ rows) s part =
      let deed = Rows (Inserted row) in
      deed_taken d deed (inserts rows) s (Fine d IsSynced (session_on database)) false (row_not_own d (Inserted row))
      (λ now went.
      let r = if_ok (λ rows. record (contents_of s.seen) { rows = rows }) (rows_after (Inserted row) s.seen.rows) now went in
      let t = record s { seen = with_contents s.seen now; begun = s.begun ++ deed ∷ [] } in
      go_in rows t (record {
        fine = fine_deed d IsSynced deed (with_contents s.seen now) (session_on database) s (ap (if_accepted (with_contents s.seen)) went) part.fine;
        users = sym (ap (λ (e : Contents). e.users) r.2) ∙ part.users;
        lock = part.lock;
        leads = ap (λ (e : Contents). with_rows source (all_inserted rows e.rows)) (sym r.2) ∙ sym (ap (λ q. with_rows source (inserted_then (all_inserted rows) q)) r.1) ∙ part.leads;
      }))
      (λ reason went. fine_aborted d IsSynced (session_on database) s part.fine)

  unheld_sync : (o : Option Deed) (now : Database) → now.lock ≡ free → contents_of now ≡ contents_of database → IsSynced o now
  unheld_sync o now is at held = never now.lock is held

  between_sync : (o : Option Deed) (now : Database) → IsBetween stamp source now → IsSynced o now
  between_sync o now at held = inl at

  all_in : (s : Session) → IsReady d IsSynced stamp database unheld_sync between_sync unlocked source s → Fine d IsSynced (session_on database) (all_called d (made d (Begin ∷ inserts all) source) s)
  all_in s ready =
      let live = record s { is_open = true } in
      subst (λ e. Fine d IsSynced (session_on database) (all_called d (made d (inserts all) e) live)) ready.at.contents
      (go_in all live (record {
        fine = fine_open d IsSynced (session_on database) s ready.fine;
        users = ap (λ (e : Contents). e.users) ready.at.contents;
        lock = ready.at.lock;
        leads = ap (λ (e : Contents). with_rows source (all_inserted all e.rows)) ready.at.contents;
      }))

sync_by : (d : Dialect) (stamp : Stamp) (rows : List Tracked) (database now : Database) (front rest : Journal) (unlocked : database.lock ≡ free)
    → (all_called d (sync_of d stamp rows database) (session_on database)).entries ≡ front ++ rest → all_done d (joined front) database ≡ Ok now → IsSynced d stamp rows database unlocked (last_or None (joined front)) now
sync_by d stamp [] database now front rest unlocked is led =
    nothing_stops d (IsSynced d stamp [] database unlocked) stamp database (unheld_sync d stamp [] database unlocked) (between_sync d stamp [] database unlocked) unlocked front rest now is led
sync_by d stamp (row ∷ rows) database now front rest unlocked is led =
    locked_stops d (IsSynced d stamp (row ∷ rows) database unlocked) stamp database (unheld_sync d stamp (row ∷ rows) database unlocked) (between_sync d stamp (row ∷ rows) database unlocked) unlocked
    (made d (Begin ∷ inserts d stamp (row ∷ rows) database unlocked (row ∷ rows)) (contents_of database)) (all_in d stamp (row ∷ rows) database unlocked) (λ o e is at held. never e.lock is held) front rest now is led

pub sync_stops : (Key : Type 0) → SyncStops Key
sync_stops Key d stamp g database now front rest unlocked is led held = sync_by d stamp (rows_to_sync stamp.reading g.sets database.rows) database now front rest unlocked is led held
