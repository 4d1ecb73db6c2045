-- The calls of a changelog-sync, a rollback, a tag, a clear-checksums and a release-locks fit.
use Rattle.std.proofs.Common.{ap, rules, subst, sym, tests, ◌∙◌}
use Rattle.std.specs.List.{All, list_all}
use Rattle.std.specs.Prelude.{Bool, Err, List, None, Ok, Option, Result, Some, [], false, if◌then◌else◌, is_some, length, map, nat_le, nat_lt, not, option_and_then, option_map, refl, true, ℕ, ◌&&◌, ◌+◌, ◌++◌, ◌∷◌, ◌≡◌}
use Rattle.lq_base.specs.Number.{char_count}
use Rattle.lq_base.specs.declared.dialect.Dialect.{Dialect}
use Rattle.lq_base.specs.declared.reason.Reason.{Reason}
use Rattle.lq_base.specs.declared.reason.Reason.TheVariants.{TooManyRows, TooWide}
use Rattle.lq_base.specs.declared.tracking.Exec.TheVariants as exec
use Rattle.lq_base.specs.declared.tracking.Lock.{Lock}
use Rattle.lq_base.specs.declared.tracking.Tracked.{Tracked}
use Rattle.lq_base.specs.declared.value.Value.{Value}
use Rattle.lq_model.proofs.Lists.{and_left, and_right, and_true, true_false}
use Rattle.lq_model.specs.Catalogue.{Catalogue, Table, table_of, is_empty}
use Rattle.lq_model.specs.Step.{is_statement}
use Rattle.lq_track.specs.Database.{Database, database_of, has_rows, lock_from, lock_in_rows, lock_of, is_lock, rows_from, rows_of, users_of}
use Rattle.lq_track.specs.Lock.{lock_table}
use Rattle.lq_track.specs.Log.{log_table}
use Rattle.lq_turns.specs.Deed.{Contents, contents_of, contents_after, has_place, if_accepted}
use Rattle.lq_turns.specs.Schedule.{fits_rows}
use Rattle.lq_turns.specs.Script.{calls_if_finished, turns_made, clearing, closing, last_row, rows_to_sync, sync_of, tag_of}
use Rattle.lq_turns.specs.Session.{Session, all_called, session_on}
use Rattle.lq_turns.specs.Set.{Set, has_row}
use Rattle.lq_turns.specs.Settle.{greatest, row_for}
use Rattle.lq_turns.specs.Turn.{Ending, Finished, Refused, contents_in, ending, made, turn_calls}
use Rattle.lq_turns.specs.declared.call.Call.{Call}
use Rattle.lq_turns.specs.declared.call.Call.TheVariants.{Begin, Commit, Execute}
use Rattle.lq_turns.specs.declared.deed.Deed.TheVariants.{Rows}
use Rattle.lq_turns.specs.declared.deed.OnRows.{OnRows}
use Rattle.lq_turns.specs.declared.deed.OnRows.TheVariants.{Cleared, Deleted, Filled, Inserted, Renewed, Tagged}
use Rattle.lq_turns.specs.declared.stamp.Stamp.{Stamp}
use Rattle.lq_turns.specs.declared.turn.Turn.{Turn}
use Rattle.lq_turns.proofs.Made.{At}
use Rattle.lq_turns.proofs.TurnLeft.{turn_taken, twice}
use Rattle.lq_beside.specs.Replays.{ClearFits, HasTexts, IsTime, ReleaseFits, RollbackFits, SyncFits, TagFits, is_deleted, is_return, calls_fit}
use Rattle.lq_beside.proofs.Characters.{at_most}
use Rattle.lq_beside.proofs.Opened.{BothHave, calls_have, fits_both, locked_fits}
use Rattle.lq_beside.proofs.ShortRows.{first_has, others_have, row_is_short}
use Rattle.lq_beside.proofs.TurnFits.{IsReady, after_deed, turn_fits}

ok_same : {A : Type 0} {x y : A} → (let r : Result A Reason = Ok x in r) ≡ Ok y → x ≡ y
ok_same e = Prim.cc

not_ok : {A : Type 0} {r : Reason} {y : A} → (let z : Result A Reason = Err r in z) ≡ Ok y → ⊥
not_ok e = Prim.cc

-- a changelog-sync: each row stands after those before it

Follow : List Tracked → List Tracked → Type 0
Follow [] rows = Unit {0}
Follow (row ∷ more) rows = (fits_rows (Inserted row) rows ≡ true) × Follow more (rows ++ row ∷ [])

next_place : (n : ℕ) → nat_lt n (n + 1) ≡ true
next_place n = search (rules, tests)

rows_follow : {Key : Type 0} (reading : ℕ) → IsTime reading → (xs : List (Set Key)) (rows : List Tracked) → All HasTexts xs → Follow (rows_to_sync reading xs rows) rows
unfolding Follow
rows_follow reading time [] rows has = tt
rows_follow {Key} reading time (x ∷ xs) rows has =
    let row = row_for reading (greatest rows + 1) exec.Executed x in
    elim (x.selected && not (has_row rows x.identity)) as (λ (b : Bool). Follow (if b then row ∷ rows_to_sync reading xs (rows ++ row ∷ []) else rows_to_sync reading xs rows) rows) [
      | true ↦ (and_true _ _ (row_is_short reading (greatest rows + 1) exec.Executed x time (first_has x xs has)) (next_place (greatest rows)), rows_follow reading time xs (rows ++ row ∷ []) (others_have x xs has))
      | false ↦ rows_follow reading time xs rows (others_have x xs has)
    ]

abbrev inserts : List Tracked → List Call
inserts rows = map (λ r. Execute (Rows (Inserted r))) rows ++ Commit ∷ []

module _ (d : Dialect) where
  inserted_is : (row : Tracked) (c now : Contents) → contents_after d (Rows (Inserted row)) c ≡ Ok now → now ≡ record c { rows = c.rows ++ row ∷ [] }
  inserted_is row c now is = by (has_place row) (nat_lt (length c.rows) 100000) is where
    by : (a b : Bool) → if_accepted (λ rows. record c { rows = rows }) (if a then (if b then Ok (c.rows ++ row ∷ []) else Err TooManyRows) else Err TooWide) ≡ Ok now → now ≡ record c { rows = c.rows ++ row ∷ [] }
    by true true e = sym (ok_same e)
    by true false e = absurd (not_ok e)
    by false b e = absurd (not_ok e)

  inserts_fit : (rows : List Tracked) (c : Contents) (s : Session) → Follow rows c.rows → IsReady c s.seen → calls_fit d (made d (inserts rows) c) s ≡ true
  unfolding Follow
  inserts_fit [] c s follow ready = refl
  inserts_fit (row ∷ rows) c s follow ready =
      after_deed d (Rows (Inserted row)) (inserts rows) c s ready (and_true _ _ ready.log (ap (λ (x : Contents). fits_rows (Inserted row) x.rows) ready.contents ∙ follow.0)) (λ now is. record { contents = refl; log = ready.log; row = ready.row })
      (λ now t is ready_then. inserts_fit rows now t (subst (λ (x : Contents). Follow rows x.rows) (sym (inserted_is row c now is)) follow.1) ready_then)

  sync_fits_rows : (stamp : Stamp) (rows : List Tracked) (database : Database) → IsTime stamp.reading → Follow rows database.rows → calls_fit d (sync_of d stamp rows database) (session_on database) ≡ true
  sync_fits_rows stamp [] database time follow = refl
  sync_fits_rows stamp (row ∷ rows) database time follow = locked_fits d stamp database (made d (Begin ∷ inserts (row ∷ rows)) (contents_of database)) time
      (λ s at has. inserts_fit (row ∷ rows) (contents_of database) (record s { is_open = true }) follow (record { contents = at.seen; log = has.1.log; row = has.1.row }))

pub sync_fits : (Key : Type 0) → SyncFits Key
sync_fits Key d stamp g database time has = sync_fits_rows d stamp (rows_to_sync stamp.reading g.sets database.rows) database time (rows_follow stamp.reading time g.sets database.rows has)

-- a rollback

deleted_fits : (w : OnRows) (rows : List Tracked) → is_deleted w ≡ true → fits_rows w rows ≡ true
deleted_fits (Deleted of) rows is = refl
deleted_fits (Inserted row) rows is = true_false is refl
deleted_fits (Renewed row) rows is = true_false is refl
deleted_fits (Filled of sum) rows is = true_false is refl
deleted_fits (Tagged of tag) rows is = true_false is refl
deleted_fits Cleared rows is = true_false is refl

turns_fit : (d : Dialect) (who : List ℕ) (turns : List Turn) (c : Contents) (s : Session) → list_all (is_return d) turns ≡ true → At s (twice c) → BothHave d s → calls_fit d (turns_made d who turns c) s ≡ true
turns_fit d who [] c s all at has = refl
turns_fit d who (turn ∷ turns) c s all at has =
    let one = and_left (is_return d turn) _ all in
    let calls = made d (turn_calls d who turn) c in
    let still = calls_have d calls s has in
    fits_both d calls (calls_if_finished (turns_made d who turns (contents_in (ending d turn c))) (ending d turn c)) s
    (turn_fits d who turn c s (and_left _ (is_deleted turn.row) one) (deleted_fits turn.row c.rows (and_right (list_all (is_statement d) turn.statements) _ one)) (record { contents = at.seen; log = has.1.log; row = has.1.row }))
    (by (λ now t at have. turns_fit d who turns now t (and_right (is_return d turn) _ all) at have) (ending d turn c) (all_called d calls s) (turn_taken d who turn c s at) still) where
      by : ((now : Contents) (t : Session) → At t (twice now) → BothHave d t → calls_fit d (turns_made d who turns now) t ≡ true) → (e : Ending) (t : Session) → At t (twice (contents_in e)) → BothHave d t → calls_fit d (calls_if_finished (turns_made d who turns (contents_in e)) e) t ≡ true
      by more (Finished now) t at has = more now t at has
      by more (Refused now refusal) t at has = refl

pub rollback_fits : RollbackFits
rollback_fits d stamp [] database time all = refl
rollback_fits d stamp (turn ∷ turns) database time all = locked_fits d stamp database (turns_made d stamp.who (turn ∷ turns) (contents_of database)) time
    (λ s at has. turns_fit d stamp.who (turn ∷ turns) (contents_of database) s all at has)

-- a tag, a clear-checksums and a release-locks, on what a catalogue stands for

some_same : {A : Type 0} {x y : A} → (let o : Option A = Some x in o) ≡ Some y → x ≡ y
some_same e = Prim.cc

none_some : {A B : Type 0} {x : A} → (let o : Option A = None in o) ≡ Some x → B
none_some e = absurd (clash e) where
  clash : {A : Type 0} {x : A} → (let o : Option A = None in o) ≡ Some x → ⊥
  clash e = Prim.cc

-- each part of the database, read off its table
record Parts (d : Dialect) (c : Catalogue) (database : Database) : Type 0 where
  rows : rows_of c ≡ Some database.rows
  lock : lock_of d c ≡ Some database.lock
  has_log : database.has_log ≡ is_some (table_of c log_table)
  has_lock_row : database.has_lock_row ≡ has_rows (table_of c lock_table)

parts_of : (d : Dialect) (c : Catalogue) (database : Database) → database_of d c ≡ Some database → Parts d c database
parts_of d c database is = by (rows_of c) (lock_of d c) refl refl is where
  by : (rows : Option (List Tracked)) (lock : Option Lock) → rows_of c ≡ rows → lock_of d c ≡ lock
      → option_and_then (λ rows. option_map (λ lock. (let x : Database = record {
        users = users_of c;
        rows = rows;
        lock = lock;
        has_log = is_some (table_of c log_table);
        has_lock = is_some (table_of c lock_table);
        has_lock_row = has_rows (table_of c lock_table);
      } in x)) lock) rows ≡ Some database → Parts d c database
  by None lock p q e = none_some e
  by (Some rows) None p q e = none_some e
  by (Some rows) (Some lock) p q e = record {
    rows = p ∙ ap (λ (x : Database). Some x.rows) (some_same e);
    lock = q ∙ ap (λ (x : Database). Some x.lock) (some_same e);
    has_log = ap (λ (x : Database). x.has_log) (sym (some_same e));
    has_lock_row = ap (λ (x : Database). x.has_lock_row) (sym (some_same e));
  }

-- where there is a row, there is the table of rows
logged : (it : Option Table) (row : Tracked) (rows : List Tracked) → rows_from it ≡ Some (row ∷ rows) → is_some it ≡ true
logged None row rows is = absurd (clash is) where
  clash : (let o : Option (List Tracked) = Some [] in o) ≡ Some (row ∷ rows) → ⊥
  clash e = Prim.cc
logged (Some it) row rows is = refl

tag_fits_rows : (d : Dialect) (tag : List ℕ) (database : Database) (row : Tracked) → database.has_log ≡ true → nat_le (char_count tag) 255 ≡ true → calls_fit d (tag_of tag (Some row)) (session_on database) ≡ true
tag_fits_rows d tag database row log short = and_true _ _ (and_true _ _ (and_true _ _ log short) refl) refl

last_is : (rows : List Tracked) (row : Tracked) → last_row rows ≡ Some row → (first : Tracked) × (more : List Tracked) × (rows ≡ first ∷ more)
last_is [] row is = none_some is
last_is (first ∷ more) row is = (first, more, refl)

pub tag_fits : TagFits
tag_fits d tag c database stands short = by (last_row database.rows) refl where
  by : (o : Option Tracked) → last_row database.rows ≡ o → calls_fit d (tag_of tag o) (session_on database) ≡ true
  by None at = refl
  by (Some row) at =
      let parts = parts_of d c database stands.is in
      let first = last_is database.rows row at in
      tag_fits_rows d tag database row (parts.has_log ∙ logged (table_of c log_table) first.0 first.1 (parts.rows ∙ ap Some first.2)) (at_most (char_count tag) 255 short)

pub clear_fits : ClearFits
clear_fits d c database stands = by database.rows refl where
  by : (rows : List Tracked) → database.rows ≡ rows → calls_fit d (if is_empty rows then [] else clearing ∷ []) (session_on database) ≡ true
  by [] at = refl
  by (row ∷ rows) at =
      let parts = parts_of d c database stands.is in
      and_true _ _ (and_true _ _ (and_true _ _ (parts.has_log ∙ logged (table_of c log_table) row rows (parts.rows ∙ ap Some at)) refl) refl) refl

-- where the lock is held, it has its row
held_row : (d : Dialect) (it : Option Table) (lock : Lock) → lock_from d it ≡ Some lock → lock.locked ≡ true → has_rows it ≡ true
held_row d None lock is held = true_false held (ap (λ (l : Lock). l.locked) (sym (some_same is)))
held_row d (Some it) lock is held = by it.rows (is_lock d it) is where
  by : (rows : List (List Value)) (b : Bool) → (if b then lock_in_rows rows else None) ≡ Some lock → not (is_empty rows) ≡ true
  by [] true e = true_false held (ap (λ (l : Lock). l.locked) (sym (some_same e)))
  by [] false e = none_some e
  by (values ∷ rows) b e = refl

pub release_fits : ReleaseFits
release_fits d c database stands = by database.lock.locked refl where
  by : (b : Bool) → database.lock.locked ≡ b → calls_fit d (if b then closing ∷ [] else []) (session_on database) ≡ true
  by false at = refl
  by true at =
      let parts = parts_of d c database stands.is in
      and_true _ _ (and_true _ _ (parts.has_lock_row ∙ held_row d (table_of c lock_table) database.lock parts.lock at) refl) refl
