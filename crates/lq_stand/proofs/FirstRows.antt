-- The rows that each command puts in are the first of their identities, and stand behind all others.
use Rattle.std.proofs.Common.{ap, rules, subst, sym, tests, ◌∙◌}
use Rattle.std.proofs.lemmas.List.{append_assoc}
use Rattle.std.specs.List.{list_all, list_any}
use Rattle.std.specs.Prelude.{Bool, Err, List, None, Ok, Option, Result, Some, [], false, if◌then◌else◌, length, map, nat_lt, not, option_and_then, option_map, refl, suc, true, ℕ, ◌&&◌, ◌+◌, ◌++◌, ◌∷◌, ◌≡◌}
use Rattle.lq_base.specs.declared.dialect.Dialect.{Dialect}
use Rattle.lq_base.specs.declared.identity.Identity.{Identity}
use Rattle.lq_base.specs.declared.reason.Reason.{Reason}
use Rattle.lq_base.specs.declared.reason.Reason.TheVariants.{TooManyRows, TooWide}
use Rattle.lq_base.specs.declared.run.OnFail.{OnFail}
use Rattle.lq_base.specs.declared.run.OnFail.TheVariants.{Continue, Halt, MarkRan, Warn}
use Rattle.lq_base.specs.declared.run.Why.TheVariants.{Error, Failed}
use Rattle.lq_base.specs.declared.tracking.Exec.{Exec}
use Rattle.lq_base.specs.declared.tracking.Exec.TheVariants as exec
use Rattle.lq_base.specs.declared.tracking.Tracked.{Tracked}
use Rattle.lq_model.proofs.Lists.{all-append, and_left, and_right, and_true, true_false}
use Rattle.lq_model.specs.Catalogue.{Catalogue, is_empty}
use Rattle.lq_model.specs.Step.{commits_itself, step}
use Rattle.lq_model.specs.Sound.{IsSound}
use Rattle.lq_model.specs.declared.caller.By.TheVariants.{User}
use Rattle.lq_model.specs.declared.statement.Statement.{Statement}
use Rattle.lq_track.specs.Database.{Database}
use Rattle.lq_track.specs.Log.{identity_of}
use Rattle.lq_turns.proofs.FirstRuns.{no_row}
use Rattle.lq_turns.proofs.Made.{At}
use Rattle.lq_turns.proofs.TurnLeft.{turn_taken, twice}
use Rattle.lq_turns.proofs.Updates.{opened, settled_is, sound_by, taken_by}
use Rattle.lq_turns.specs.Deed.{Contents, contents_of, with_contents, contents_after, done, has_place, if_accepted, is_of, lock_after, locked_after}
use Rattle.lq_turns.specs.Set.{undoing, IsKept, Meaning, Set, has_row, row_at}
use Rattle.lq_turns.specs.Laws.{AreRead}
use Rattle.lq_turns.specs.Script.{calls_if_finished, is_mark_ran, rollback_of, set_of, turns_made, undo_by, undo_turn, undo_turns, calls_of_turn, calls_unless, clearing, closing, has_work, last_row, opening, rows_to_sync, set_calls, sets_calls, sync_of, tag_of, turn_by, with_lock}
use Rattle.lq_turns.specs.Session.{Session, all_called, all_executed, before, called, closed, executed, executed_as, is_own, session_on, settled_if}
use Rattle.lq_turns.specs.Settle.{choice, choice_of, exec_of, fill_turn, greatest, is_halt, is_to_fill, mark_turn, own_choice, reacted, record_in, row_for, run_turn, runs_again, settle, tested, what, what_by}
use Rattle.lq_turns.specs.Turn.{Ending, Finished, Refused, apart, contents_in, ending, is_marked, made, made_on, mark, row_calls, statement_calls, turn_calls, unmark, within}
use Rattle.lq_turns.specs.declared.call.Call.{Call}
use Rattle.lq_turns.specs.declared.call.Call.TheVariants.{Abort, Alone, Begin, Commit, Execute}
use Rattle.lq_turns.specs.declared.choice.Choice.{Choice}
use Rattle.lq_turns.specs.declared.choice.Choice.TheVariants.{Fills, Halts, Marks, Passes, Runs, Skips}
use Rattle.lq_turns.specs.declared.choice.What.{What}
use Rattle.lq_turns.specs.declared.choice.What.TheVariants.{Again, Fill, New}
use Rattle.lq_turns.specs.declared.deed.Deed.{Deed}
use Rattle.lq_turns.specs.declared.deed.Deed.TheVariants.{Locks, Rows, Users}
use Rattle.lq_turns.specs.declared.deed.OnLock.{OnLock}
use Rattle.lq_turns.specs.declared.deed.OnLock.TheVariants.{Marked}
use Rattle.lq_turns.specs.declared.deed.OnRows.{OnRows}
use Rattle.lq_turns.specs.declared.deed.OnRows.TheVariants.{Cleared, Deleted, Filled, Inserted, Renewed, Tagged}
use Rattle.lq_turns.specs.declared.stamp.Stamp.{Stamp}
use Rattle.lq_turns.specs.declared.stop.Stop.{Stop}
use Rattle.lq_turns.specs.declared.turn.Turn.{Turn}
use Rattle.lq_beside.specs.Replays.{is_deleted}
use Rattle.lq_stand.specs.Stays.{call_is_first, calls_are_first, deed_is_first, deeds_are_first, is_first, ClearIsFirst, ReleaseIsFirst, RollbackIsFirst, SyncIsFirst, TagIsFirst, UpdateIsFirst}

ok_same : {A : Type 0} {x y : A} → (let r : Result A Reason = Ok x in r) ≡ Ok y → x ≡ y
ok_same e = Prim.cc

not_ok : {A : Type 0} {r : Reason} {y : A} → (let z : Result A Reason = Err r in z) ≡ Ok y → ⊥
not_ok e = Prim.cc

none_some : {A B : Type 0} {x : A} → (let o : Option A = None in o) ≡ Some x → B
none_some e = absurd (clash e) where
  clash : {A : Type 0} {x : A} → (let o : Option A = None in o) ≡ Some x → ⊥
  clash e = Prim.cc

next_place : (n : ℕ) → nat_lt n (n + 1) ≡ true
next_place n = search (rules, tests)

-- a call that does nothing to rows, and gives nothing up
abbrev leaves_rows : Call → Bool
leaves_rows (Execute (Users s)) = true
leaves_rows (Execute (Rows w)) = false
leaves_rows (Execute (Locks w)) = true
leaves_rows Begin = true
leaves_rows Commit = true
leaves_rows Abort = false
leaves_rows (Alone deeds room) = false

module _ (d : Dialect) where
  seen_if : (own : Bool) (s : Session) → (settled_if own s).seen ≡ s.seen
  seen_if true s = refl
  seen_if false s = refl

  -- what follows a deed is such, where it is from each session that sees what the deed leaves
  after_deed : (deed : Deed) (calls : List Call) (c : Contents) (s : Session) → contents_of s.seen ≡ c → deed_is_first deed s.seen ≡ true
      → ((now : Contents) (t : Session) → contents_after d deed c ≡ Ok now → contents_of t.seen ≡ now → calls_are_first d (made d calls now) t ≡ true)
      → calls_are_first d (made d (Execute deed ∷ calls) c) s ≡ true
  after_deed deed calls c s at first rest = and_true _ _ first (by (contents_after d deed c) refl) where
    same_done : done d deed s.seen ≡ if_accepted (with_contents (locked_after deed s.seen)) (contents_after d deed c)
    same_done = ap (λ x. if_accepted (with_contents (locked_after deed s.seen)) (contents_after d deed x)) at

    by : (q : Result Contents Reason) → contents_after d deed c ≡ q → calls_are_first d (made_on (made d calls) q) (executed d deed s) ≡ true
    by (Ok now) is =
        let now_done : done d deed s.seen ≡ Ok (with_contents (locked_after deed s.seen) now) = same_done ∙ ap (λ q. if_accepted (with_contents (locked_after deed s.seen)) q) is in
        let seen_now : (executed d deed s).seen ≡ with_contents (locked_after deed s.seen) now =
        ap (λ q. (executed_as d deed s q).seen) now_done ∙ seen_if (is_own d deed) (record (before d deed s) { seen = with_contents (locked_after deed s.seen) now; begun = (before d deed s).begun ++ deed ∷ [] }) in
        rest now (executed d deed s) is (ap contents_of seen_now)
    by (Err reason) is = refl

  users_rows : (s : Statement) (c now : Contents) → contents_after d (Users s) c ≡ Ok now → now.rows ≡ c.rows
  users_rows s c now is = by (step User d s c.users) is where
    by : (q : Result (Catalogue × ℕ) Reason) → if_accepted (λ (r : Catalogue × ℕ). record c { users = r.0 }) q ≡ Ok now → now.rows ≡ c.rows
    by (Ok r) e = ap (λ (x : Contents). x.rows) (sym (ok_same e))
    by (Err reason) e = absurd (not_ok e)

  locks_rows : (w : OnLock) (c now : Contents) → contents_after d (Locks w) c ≡ Ok now → now.rows ≡ c.rows
  locks_rows w c now is = ap (λ (x : Contents). x.rows) (sym (ok_same is))

  others_first : (calls : List Call) (c : Contents) (s : Session) → list_all leaves_rows calls ≡ true → contents_of s.seen ≡ c → calls_are_first d (made d calls c) s ≡ true
  others_first [] c s all at = refl
  others_first (Execute (Users statement) ∷ calls) c s all at = after_deed (Users statement) calls c s at refl (λ now t is still. others_first calls now t all still)
  others_first (Execute (Locks w) ∷ calls) c s all at = after_deed (Locks w) calls c s at refl (λ now t is still. others_first calls now t all still)
  others_first (Execute (Rows w) ∷ calls) c s all at = true_false all refl
  others_first (Begin ∷ calls) c s all at = others_first calls c (record s { is_open = true }) all at
  others_first (Commit ∷ calls) c s all at = others_first calls c (closed s) all at
  others_first (Abort ∷ calls) c s all at = true_false all refl
  others_first (Alone deeds room ∷ calls) c s all at = true_false all refl

  -- such calls, then the row, then such calls
  turn_like : (before after : List Call) (w : OnRows) (c : Contents) (s : Session) → list_all leaves_rows before ≡ true → list_all leaves_rows after ≡ true → is_first w c.rows ≡ true → contents_of s.seen ≡ c
      → calls_are_first d (made d (before ++ Execute (Rows w) ∷ after) c) s ≡ true
  turn_like [] after w c s first last new at = after_deed (Rows w) after c s at (ap (λ (x : Contents). is_first w x.rows) at ∙ new) (λ now t is still. others_first after now t last still)
  turn_like (Execute (Users statement) ∷ before) after w c s first last new at =
      after_deed (Users statement) (before ++ Execute (Rows w) ∷ after) c s at refl (λ now t is still. turn_like before after w now t first last (ap (is_first w) (users_rows statement c now is) ∙ new) still)
  turn_like (Execute (Locks l) ∷ before) after w c s first last new at =
      after_deed (Locks l) (before ++ Execute (Rows w) ∷ after) c s at refl (λ now t is still. turn_like before after w now t first last (ap (is_first w) (locks_rows l c now is) ∙ new) still)
  turn_like (Execute (Rows v) ∷ before) after w c s first last new at = true_false first refl
  turn_like (Begin ∷ before) after w c s first last new at = turn_like before after w c (record s { is_open = true }) first last new at
  turn_like (Commit ∷ before) after w c s first last new at = turn_like before after w c (closed s) first last new at
  turn_like (Abort ∷ before) after w c s first last new at = true_false first refl
  turn_like (Alone deeds room ∷ before) after w c s first last new at = true_false first refl

  statements_leave : (who : List ℕ) (turn : Turn) (k : ℕ) (ss : List Statement) → list_all leaves_rows (statement_calls d who turn k ss) ≡ true
  statements_leave who turn k [] = refl
  statements_leave who turn k (s ∷ ss) = all-append leaves_rows (if turn.in_transaction then within d who turn k s else apart who turn k s) (statement_calls d who turn (suc k) ss) (one turn.in_transaction (commits_itself d s)) (statements_leave who turn (suc k) ss) where
    one : (a b : Bool) → list_all leaves_rows (if a then (if b then mark who turn k ∷ Execute (Users s) ∷ [] else Execute (Users s) ∷ []) else apart who turn k s) ≡ true
    one true true = refl
    one true false = refl
    one false b = refl

  after_row : (who : List ℕ) (turn : Turn) → list_all leaves_rows (unmark d who turn ++ Commit ∷ []) ≡ true
  after_row who turn = elim (list_any (is_marked d turn) turn.statements) as (λ b. list_all leaves_rows ((if b then Execute (Locks (Marked who)) ∷ [] else []) ++ Commit ∷ []) ≡ true) [ true ↦ refl | false ↦ refl ]

  turn_first : (who : List ℕ) (turn : Turn) (c : Contents) (s : Session) → is_first turn.row c.rows ≡ true → contents_of s.seen ≡ c → calls_are_first d (made d (turn_calls d who turn) c) s ≡ true
  turn_first who turn c s new at = by turn.in_transaction where
    front : list_all leaves_rows (statement_calls d who turn 1 turn.statements) ≡ true
    front = statements_leave who turn 1 turn.statements

    by : (b : Bool) → calls_are_first d (made d (if b then Begin ∷ statement_calls d who turn 1 turn.statements ++ row_calls d who turn else statement_calls d who turn 1 turn.statements ++ Begin ∷ row_calls d who turn) c) s ≡ true
    by true = turn_like (Begin ∷ statement_calls d who turn 1 turn.statements) (unmark d who turn ++ Commit ∷ []) turn.row c s front (after_row who turn) new at
    by false = ap (λ calls. calls_are_first d (made d calls c) s) (sym (append_assoc (statement_calls d who turn 1 turn.statements) (Begin ∷ []) (row_calls d who turn)))
        ∙ turn_like (statement_calls d who turn 1 turn.statements ++ Begin ∷ []) (unmark d who turn ++ Commit ∷ []) turn.row c s (all-append leaves_rows (statement_calls d who turn 1 turn.statements) (Begin ∷ []) front refl) (after_row who turn) new at

  both_first : (before after : List Call) (s : Session) → calls_are_first d before s ≡ true → calls_are_first d after (all_called d before s) ≡ true → calls_are_first d (before ++ after) s ≡ true
  both_first [] after s a b = b
  both_first (call ∷ before) after s a b = and_true _ _ (and_left (call_is_first d call s) _ a) (both_first before after (called d call s) (and_right (call_is_first d call s) _ a) b)

  locks_first : (ws : List OnLock) (database : Database) → deeds_are_first d (map Locks ws) database ≡ true
  locks_first [] database = refl
  locks_first (w ∷ ws) database = locks_first ws (with_contents (lock_after w database) (contents_of database))

  -- a command's calls between those that take and free the lock
  locked_first : (stamp : Stamp) (database : Database) (calls : List Call) → ((s : Session) → At s (twice (contents_of database)) → calls_are_first d calls s ≡ true) → calls_are_first d (with_lock stamp database calls) (session_on database) ≡ true
  locked_first stamp database calls go =
      let held = all_executed d (map Locks (opening stamp database)) (session_on database) in
      and_true _ _ (locks_first (opening stamp database) database) (both_first calls (closing ∷ []) held (go held (opened d stamp database)) refl)

-- an update

module _ {Key : Type 0} (d : Dialect) (m : Meaning Key) (keeps : IsKept m) (stamp : Stamp) where
  -- a changeset is new where it has no row
  abbrev IsNew : What → Set Key → List Tracked → Type 0
  IsNew New x rows = row_at x.identity rows ≡ None
  IsNew Again x rows = Unit {0}
  IsNew Fill x rows = Unit {0}

  abbrev Chosen : Choice → Set Key → List Tracked → Type 0
  Chosen (Marks by) x rows = IsNew by x rows
  Chosen (Runs by why) x rows = IsNew by x rows
  Chosen Passes x rows = Unit {0}
  Chosen Fills x rows = Unit {0}
  Chosen Skips x rows = Unit {0}
  Chosen (Halts why) x rows = Unit {0}

  chosen_by : (w : What) (x : Set Key) (rows : List Tracked) (t : Result Bool Reason) → IsNew w x rows → Chosen (tested w x.condition t) x rows
  chosen_by w x rows (Ok true) new = new
  chosen_by w x rows (Ok false) new = by x.condition.on_fail where
    by : (f : OnFail) → Chosen (reacted w f Failed) x rows
    by Halt = tt
    by Continue = tt
    by MarkRan = new
    by Warn = new
  chosen_by w x rows (Err reason) new = by x.condition.on_error where
    by : (f : OnFail) → Chosen (reacted w f (Error reason)) x rows
    by Halt = tt
    by Continue = tt
    by MarkRan = new
    by Warn = new

  chosen_of : (x : Set Key) (c : Contents) (w : Option What) → what x c.rows ≡ w → Chosen (choice_of x c w) x c.rows
  chosen_of x c None is = tt
  chosen_of x c (Some Fill) is = tt
  chosen_of x c (Some Again) is = chosen_by Again x c.rows (x.condition.told c) tt
  chosen_of x c (Some New) is = chosen_by New x c.rows (x.condition.told c) (by x.selected (row_at x.identity c.rows) is) where
    by : (b : Bool) (o : Option Tracked) → (if b then what_by x o else None) ≡ Some New → o ≡ None
    by false o e = none_some e
    by true None e = refl
    by true (Some row) e = again (runs_again x row) (is_to_fill x row.md5sum) e where
      again : (p q : Bool) → (if p then Some Again else if q then Some Fill else None) ≡ Some New → (let o : Option Tracked = Some row in o) ≡ None
      again true q e = Prim.cc
      again false true e = Prim.cc
      again false false e = Prim.cc

  row_first : (w : What) (e : Exec) (x : Set Key) (rows : List Tracked) → IsNew w x rows → is_first (record_in stamp.reading w e x rows) rows ≡ true
  row_first New e x rows new = and_true _ _ (ap not (no_row (is_of x.identity) rows new)) (next_place (greatest rows))
  row_first Again e x rows new = next_place (greatest rows)
  row_first Fill e x rows new = next_place (greatest rows)

  set_first : (x : Set Key) (c : Contents) (q : Choice) (s : Session) → Chosen q x c.rows → contents_of s.seen ≡ c → calls_are_first d (calls_of_turn d m stamp (turn_by d m stamp x c.rows q) c) s ≡ true
  set_first x c Fills s chosen at = turn_first d stamp.who (fill_turn x) c s refl at
  set_first x c (Marks by) s chosen at = turn_first d stamp.who (mark_turn stamp.reading by x c.rows) c s (row_first by exec.MarkRan x c.rows chosen) at
  set_first x c (Runs by why) s chosen at = turn_first d stamp.who (run_turn d m stamp.reading by x c.rows) c s (row_first by (exec_of by) x c.rows chosen) at
  set_first x c Passes s chosen at = refl
  set_first x c Skips s chosen at = refl
  set_first x c (Halts why) s chosen at = refl

  sets_first : (xs : List (Set Key)) (c : Contents) (s : Session) → AreRead d m xs → IsSound d c.users → At s (twice c) → calls_are_first d (sets_calls d m stamp xs c) s ≡ true
  sets_first [] c s read sound at = refl
  sets_first (x ∷ xs) c s read sound at =
      let first = and_left _ (list_all (λ (y : Set Key). list_all (m.is_for d) y.changes) xs) read in
      let is = settled_is d m keeps stamp x c (choice x c) first sound in
      let now = subst (λ (e : Contents). At (all_called d (set_calls d m stamp x c) s) (twice e)) (sym is) (taken_by d m keeps stamp (turn_by d m stamp x c.rows (choice x c)) c s at) in
      let still = subst (λ (e : Contents). IsSound d e.users) (sym is) (sound_by d m keeps stamp x c (choice x c) first sound) in
      let more = sets_first xs (settle d m stamp.reading x c).contents (all_called d (set_calls d m stamp x c) s) (and_right (list_all (m.is_for d) x.changes) _ read) still now in
      both_first d (set_calls d m stamp x c) (calls_unless (settle d m stamp.reading x c).stop (sets_calls d m stamp xs (settle d m stamp.reading x c).contents)) s
      (set_first x c (choice x c) s (chosen_of x c (what x c.rows) refl) at.seen)
      (elim (settle d m stamp.reading x c).stop as (λ (q : Option Stop). calls_are_first d (calls_unless q (sets_calls d m stamp xs (settle d m stamp.reading x c).contents)) (all_called d (set_calls d m stamp x c) s) ≡ true) [
        | None ↦ more
        | Some stop ↦ refl
      ])

pub update_is_first : {Key : Type 0} (m : Meaning Key) → IsKept m → UpdateIsFirst m
update_is_first m keeps d stamp g database sound read = by (has_work g.sets database.rows && not (is_halt (own_choice g (contents_of database)))) where
  by : (b : Bool) → calls_are_first d (if b then with_lock stamp database (sets_calls d m stamp g.sets (contents_of database)) else []) (session_on database) ≡ true
  by false = refl
  by true = locked_first d stamp database (sets_calls d m stamp g.sets (contents_of database)) (λ s at. sets_first d m keeps stamp g.sets (contents_of database) s read sound at)

-- a changelog-sync: each row is the first of its identity among those before it

abbrev AllFirst : List Tracked → List Tracked → Type 0
AllFirst [] rows = Unit {0}
AllFirst (row ∷ more) rows = (is_first (Inserted row) rows ≡ true) × AllFirst more (rows ++ row ∷ [])

synced_first : {Key : Type 0} (reading : ℕ) (xs : List (Set Key)) (rows : List Tracked) → AllFirst (rows_to_sync reading xs rows) rows
synced_first reading [] rows = tt
synced_first {Key} reading (x ∷ xs) rows = by x.selected (has_row rows x.identity) refl (synced_first reading xs (rows ++ row_for reading (greatest rows + 1) exec.Executed x ∷ [])) (synced_first reading xs rows) where
  by : (a b : Bool) → has_row rows x.identity ≡ b → AllFirst (rows_to_sync reading xs (rows ++ row_for reading (greatest rows + 1) exec.Executed x ∷ [])) (rows ++ row_for reading (greatest rows + 1) exec.Executed x ∷ [])
      → AllFirst (rows_to_sync reading xs rows) rows
      → AllFirst (if a && not b then row_for reading (greatest rows + 1) exec.Executed x ∷ rows_to_sync reading xs (rows ++ row_for reading (greatest rows + 1) exec.Executed x ∷ []) else rows_to_sync reading xs rows) rows
  by true false is with_it without = (and_true _ _ (ap not is) (next_place (greatest rows)), with_it)
  by true true is with_it without = without
  by false b is with_it without = without

abbrev inserts : List Tracked → List Call
inserts rows = map (λ r. Execute (Rows (Inserted r))) rows ++ Commit ∷ []

inserted_is : (d : Dialect) (row : Tracked) (c now : Contents) → contents_after d (Rows (Inserted row)) c ≡ Ok now → now ≡ record c { rows = c.rows ++ row ∷ [] }
inserted_is d row c now is = by (has_place row) (nat_lt (length c.rows) 100000) is where
  by : (a b : Bool) → if_accepted (λ rows. record c { rows = rows }) (if a then (if b then Ok (c.rows ++ row ∷ []) else Err TooManyRows) else Err TooWide) ≡ Ok now → now ≡ record c { rows = c.rows ++ row ∷ [] }
  by true true e = sym (ok_same e)
  by true false e = absurd (not_ok e)
  by false b e = absurd (not_ok e)

inserts_first : (d : Dialect) (rows : List Tracked) (c : Contents) (s : Session) → AllFirst rows c.rows → contents_of s.seen ≡ c → calls_are_first d (made d (inserts rows) c) s ≡ true
inserts_first d [] c s all at = refl
inserts_first d (row ∷ rows) c s all at =
    after_deed d (Rows (Inserted row)) (inserts rows) c s at (ap (λ (x : Contents). is_first (Inserted row) x.rows) at ∙ all.0)
    (λ now t is still. inserts_first d rows now t (subst (λ (x : Contents). AllFirst rows x.rows) (sym (inserted_is d row c now is)) all.1) still)

sync_rows_first : (d : Dialect) (stamp : Stamp) (rows : List Tracked) (database : Database) → AllFirst rows database.rows → calls_are_first d (sync_of d stamp rows database) (session_on database) ≡ true
sync_rows_first d stamp [] database all = refl
sync_rows_first d stamp (row ∷ rows) database all = locked_first d stamp database (made d (Begin ∷ inserts (row ∷ rows)) (contents_of database))
    (λ s at. inserts_first d (row ∷ rows) (contents_of database) (record s { is_open = true }) all at.seen)

pub sync_is_first : (Key : Type 0) → SyncIsFirst Key
sync_is_first Key d stamp g database = sync_rows_first d stamp (rows_to_sync stamp.reading g.sets database.rows) database (synced_first stamp.reading g.sets database.rows)

-- a rollback

abbrev deletes : Turn → Bool
deletes turn = is_deleted turn.row

deleted_first : (w : OnRows) (rows : List Tracked) → is_deleted w ≡ true → is_first w rows ≡ true
deleted_first (Deleted of) rows is = refl
deleted_first (Inserted row) rows is = true_false is refl
deleted_first (Renewed row) rows is = true_false is refl
deleted_first (Filled of sum) rows is = refl
deleted_first (Tagged of tag) rows is = refl
deleted_first Cleared rows is = refl

turns_first : (d : Dialect) (who : List ℕ) (turns : List Turn) (c : Contents) (s : Session) → list_all deletes turns ≡ true → At s (twice c) → calls_are_first d (turns_made d who turns c) s ≡ true
turns_first d who [] c s all at = refl
turns_first d who (turn ∷ turns) c s all at =
    let calls = made d (turn_calls d who turn) c in
    both_first d calls (calls_if_finished (turns_made d who turns (contents_in (ending d turn c))) (ending d turn c)) s
    (turn_first d who turn c s (deleted_first turn.row c.rows (and_left (deletes turn) _ all)) at.seen)
    (by (λ now t at. turns_first d who turns now t (and_right (deletes turn) _ all) at) (ending d turn c) (all_called d calls s) (turn_taken d who turn c s at)) where
      by : ((now : Contents) (t : Session) → At t (twice now) → calls_are_first d (turns_made d who turns now) t ≡ true) → (e : Ending) (t : Session) → At t (twice (contents_in e))
          → calls_are_first d (calls_if_finished (turns_made d who turns (contents_in e)) e) t ≡ true
      by more (Finished now) t at = more now t at
      by more (Refused now refusal) t at = refl

pub rollback_is_first : RollbackIsFirst
rollback_is_first d stamp [] database all = refl
rollback_is_first d stamp (turn ∷ turns) database all = locked_first d stamp database (turns_made d stamp.who (turn ∷ turns) (contents_of database)) (λ s at. turns_first d stamp.who (turn ∷ turns) (contents_of database) s all at)

-- the turns that take rows back delete them, where there are such

abbrev Deletes : Option Turn → Type 0
Deletes None = Unit {0}
Deletes (Some turn) = deletes turn ≡ true

abbrev AllDelete : Option (List Turn) → Type 0
AllDelete None = Unit {0}
AllDelete (Some turns) = list_all deletes turns ≡ true

both_delete : (first : Option Turn) (more : Option (List Turn)) → Deletes first → AllDelete more → AllDelete (option_and_then (λ (turn : Turn). option_map (λ (turns : List Turn). turn ∷ turns) more) first)
both_delete None more one rest = tt
both_delete (Some turn) None one rest = tt
both_delete (Some turn) (Some turns) one rest = and_true _ _ one rest

module _ {Key : Type 0} (d : Dialect) (m : Meaning Key) where
  by_set : (of : Identity) (x : Set Key) (o : Option (List Statement))
      → Deletes (option_map (λ (statements : List Statement). record { identity = of; statements = statements; in_transaction = x.in_transaction; is_undo = true; row = Deleted of }) o)
  by_set of x None = tt
  by_set of x (Some statements) = refl

  by_found : (of : Identity) (o : Option (Set Key)) → Deletes (option_and_then (undo_by d m of) o)
  by_found of None = tt
  by_found of (Some x) = by_set of x (undoing d m x)

  undo_deletes : (xs : List (Set Key)) (row : Tracked) → Deletes (undo_turn d m xs row)
  undo_deletes xs row = by (is_mark_ran row.exec) where
    by : (b : Bool) → Deletes (if b then Some (record { identity = identity_of row; statements = []; in_transaction = true; is_undo = true; row = Deleted (identity_of row) }) else option_and_then (undo_by d m (identity_of row)) (set_of xs (identity_of row)))
    by true = refl
    by false = by_found (identity_of row) (set_of xs (identity_of row))

  undone_delete : (xs : List (Set Key)) (rows : List Tracked) → AllDelete (undo_turns d m xs rows)
  undone_delete xs [] = refl
  undone_delete xs (row ∷ rows) = both_delete (undo_turn d m xs row) (undo_turns d m xs rows) (undo_deletes xs row) (undone_delete xs rows)

  pub undone_is_first : (stamp : Stamp) (xs : List (Set Key)) (rows : List Tracked) (turns : List Turn) (database : Database) → undo_turns d m xs rows ≡ Some turns → calls_are_first d (rollback_of d stamp turns database) (session_on database) ≡ true
  undone_is_first stamp xs rows turns database is = rollback_is_first d stamp turns database (subst AllDelete is (undone_delete xs rows))

-- a tag, a clear-checksums and a release-locks

pub tag_is_first : TagIsFirst
tag_is_first d tag database = by (last_row database.rows) where
  by : (o : Option Tracked) → calls_are_first d (tag_of tag o) (session_on database) ≡ true
  by None = refl
  by (Some row) = refl

pub clear_is_first : ClearIsFirst
clear_is_first d database = by (is_empty database.rows) where
  by : (b : Bool) → calls_are_first d (if b then [] else clearing ∷ []) (session_on database) ≡ true
  by true = refl
  by false = refl

pub release_is_first : ReleaseIsFirst
release_is_first d database = by database.lock.locked where
  by : (b : Bool) → calls_are_first d (if b then closing ∷ [] else []) (session_on database) ≡ true
  by true = refl
  by false = refl
