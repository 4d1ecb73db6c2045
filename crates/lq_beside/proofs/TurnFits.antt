-- The calls of a turn fit, where its statements are statements and its row fits the rows.
use Rattle.std.proofs.Common.{ap, subst, sym, ◌∙◌}
use Rattle.std.proofs.lemmas.List.{append_assoc}
use Rattle.std.specs.List.{list_all, list_any}
use Rattle.std.specs.Prelude.{Bool, Err, List, Ok, Result, [], false, if◌then◌else◌, refl, suc, true, ℕ, ◌++◌, ◌∷◌, ◌≡◌}
use Rattle.lq_base.specs.declared.dialect.Dialect.{Dialect}
use Rattle.lq_base.specs.declared.reason.Reason.{Reason}
use Rattle.lq_model.proofs.Lists.{all-append, and_left, and_right, and_true, true_false}
use Rattle.lq_model.specs.Catalogue.{Catalogue}
use Rattle.lq_model.specs.Step.{is_statement, step, commits_itself}
use Rattle.lq_model.specs.declared.caller.By.TheVariants.{User}
use Rattle.lq_model.specs.declared.statement.Statement.{Statement}
use Rattle.lq_track.specs.Database.{Database}
use Rattle.lq_turns.specs.Deed.{Contents, contents_of, with_contents, contents_after, done, if_accepted, locked_after}
use Rattle.lq_turns.specs.Schedule.{fits, fits_rows}
use Rattle.lq_turns.specs.Session.{Session, before, closed, executed, executed_as, is_own, settled_if}
use Rattle.lq_turns.specs.declared.call.Call.{Call}
use Rattle.lq_turns.specs.declared.call.Call.TheVariants.{Abort, Alone, Begin, Commit, Execute}
use Rattle.lq_turns.specs.declared.deed.Deed.{Deed}
use Rattle.lq_turns.specs.declared.deed.Deed.TheVariants.{Locks, Rows, Users}
use Rattle.lq_turns.specs.declared.deed.OnLock.TheVariants.{Freed, LockMade, LockRowMade, LogMade, Marked, Taken}
use Rattle.lq_turns.specs.declared.deed.OnRows.{OnRows}
use Rattle.lq_turns.specs.declared.turn.Turn.{Turn}
use Rattle.lq_turns.specs.Turn.{apart, is_marked, made, made_on, mark, row_calls, statement_calls, turn_calls, unmark, within}
use Rattle.lq_beside.specs.Replays.{calls_fit}

ok_same : {A : Type 0} {x y : A} → (let r : Result A Reason = Ok x in r) ≡ Ok y → x ≡ y
ok_same e = Prim.cc

not_ok : {A : Type 0} {r : Reason} {y : A} → (let z : Result A Reason = Err r in z) ≡ Ok y → ⊥
not_ok e = Prim.cc

-- the tables and the lock's row are there, and these are the contents
pub record IsReady (c : Contents) (database : Database) : Type 0 where
  pub contents : contents_of database ≡ c
  pub log : database.has_log ≡ true
  pub row : database.has_lock_row ≡ true

-- a statement, or a mark
abbrev is_plain_deed : Dialect → Deed → Bool
is_plain_deed d (Users s) = is_statement d s
is_plain_deed d (Rows w) = false
is_plain_deed d (Locks (Marked by)) = true
is_plain_deed d (Locks LogMade) = false
is_plain_deed d (Locks LockMade) = false
is_plain_deed d (Locks LockRowMade) = false
is_plain_deed d (Locks (Taken at by)) = false
is_plain_deed d (Locks Freed) = false

abbrev is_plain : Dialect → Call → Bool
is_plain d (Execute deed) = is_plain_deed d deed
is_plain d Begin = true
is_plain d Commit = true
is_plain d Abort = false
is_plain d (Alone deeds room) = false

module _ (d : Dialect) where
  seen_if : (own : Bool) (s : Session) → (settled_if own s).seen ≡ s.seen
  seen_if true s = refl
  seen_if false s = refl

  plain_ready : (deed : Deed) (c now : Contents) (database : Database) → is_plain_deed d deed ≡ true → IsReady c database → IsReady now (with_contents (locked_after deed database) now)
  plain_ready (Users s) c now database plain ready = record { contents = refl; log = ready.log; row = ready.row }
  plain_ready (Locks (Marked by)) c now database plain ready = record { contents = refl; log = ready.log; row = ready.row }
  plain_ready (Rows w) c now database plain ready = record { contents = refl; log = ready.log; row = ready.row }
  plain_ready (Locks LogMade) c now database plain ready = record { contents = refl; log = refl; row = ready.row }
  plain_ready (Locks LockMade) c now database plain ready = record { contents = refl; log = ready.log; row = ready.row }
  plain_ready (Locks LockRowMade) c now database plain ready = record { contents = refl; log = ready.log; row = refl }
  plain_ready (Locks (Taken at by)) c now database plain ready = record { contents = refl; log = ready.log; row = ready.row }
  plain_ready (Locks Freed) c now database plain ready = record { contents = refl; log = ready.log; row = ready.row }

  plain_fits : (deed : Deed) (c : Contents) (database : Database) → is_plain_deed d deed ≡ true → IsReady c database → fits d deed database ≡ true
  plain_fits (Users s) c database plain ready = plain
  plain_fits (Locks (Marked by)) c database plain ready = ready.row
  plain_fits (Rows w) c database plain ready = true_false plain refl
  plain_fits (Locks LogMade) c database plain ready = true_false plain refl
  plain_fits (Locks LockMade) c database plain ready = true_false plain refl
  plain_fits (Locks LockRowMade) c database plain ready = true_false plain refl
  plain_fits (Locks (Taken at by)) c database plain ready = true_false plain refl
  plain_fits (Locks Freed) c database plain ready = true_false plain refl

  -- what follows a deed fits, where it does from each session that is ready with what the deed leaves
  pub after_deed : (deed : Deed) (calls : List Call) (c : Contents) (s : Session) → IsReady c s.seen → fits d deed s.seen ≡ true
      → ((now : Contents) → contents_after d deed c ≡ Ok now → IsReady now (with_contents (locked_after deed s.seen) now))
      → ((now : Contents) (t : Session) → contents_after d deed c ≡ Ok now → IsReady now t.seen → calls_fit d (made d calls now) t ≡ true)
      → calls_fit d (made d (Execute deed ∷ calls) c) s ≡ true
  after_deed deed calls c s ready fit leaves rest = and_true _ _ fit (by (contents_after d deed c) refl) where
    same_done : done d deed s.seen ≡ if_accepted (with_contents (locked_after deed s.seen)) (contents_after d deed c)
    same_done = ap (λ x. if_accepted (with_contents (locked_after deed s.seen)) (contents_after d deed x)) ready.contents

    by : (q : Result Contents Reason) → contents_after d deed c ≡ q → calls_fit d (made_on (made d calls) q) (executed d deed s) ≡ true
    by (Ok now) is =
        let now_done : done d deed s.seen ≡ Ok (with_contents (locked_after deed s.seen) now) = same_done ∙ ap (λ q. if_accepted (with_contents (locked_after deed s.seen)) q) is in
        let seen_now : (executed d deed s).seen ≡ with_contents (locked_after deed s.seen) now =
        ap (λ q. (executed_as d deed s q).seen) now_done ∙ seen_if (is_own d deed) (record (before d deed s) { seen = with_contents (locked_after deed s.seen) now; begun = (before d deed s).begun ++ deed ∷ [] }) in
        rest now (executed d deed s) is (subst (IsReady now) (sym seen_now) (leaves now is))
    by (Err reason) is = refl

  plain_calls_fit : (calls : List Call) (c : Contents) (s : Session) → list_all (is_plain d) calls ≡ true → IsReady c s.seen → calls_fit d (made d calls c) s ≡ true
  plain_calls_fit [] c s plain ready = refl
  plain_calls_fit (Execute deed ∷ calls) c s plain ready =
      let one = and_left (is_plain_deed d deed) _ plain in
      after_deed deed calls c s ready (plain_fits deed c s.seen one ready) (λ now is. plain_ready deed c now s.seen one ready) (λ now t is ready_then. plain_calls_fit calls now t (and_right (is_plain_deed d deed) _ plain) ready_then)
  plain_calls_fit (Begin ∷ calls) c s plain ready = plain_calls_fit calls c (record s { is_open = true }) plain ready
  plain_calls_fit (Commit ∷ calls) c s plain ready = plain_calls_fit calls c (closed s) plain ready
  plain_calls_fit (Abort ∷ calls) c s plain ready = true_false plain refl
  plain_calls_fit (Alone deeds room ∷ calls) c s plain ready = true_false plain refl

  abbrev same_rows : Contents → Contents → Type 0
  same_rows a b = a.rows ≡ b.rows

  plain_rows : (deed : Deed) (c now : Contents) → is_plain_deed d deed ≡ true → contents_after d deed c ≡ Ok now → same_rows now c
  plain_rows (Users s) c now plain is = rows_of_users (step User d s c.users) is where
    rows_of_users : (q : Result (Catalogue × ℕ) Reason) → if_accepted (λ (r : Catalogue × ℕ). record c { users = r.0 }) q ≡ Ok now → now.rows ≡ c.rows
    rows_of_users (Ok r) e = ap (λ (x : Contents). x.rows) (sym (ok_same e))
    rows_of_users (Err reason) e = absurd (not_ok e)
  plain_rows (Locks w) c now plain is = ap (λ (x : Contents). x.rows) (sym (ok_same is))
  plain_rows (Rows w) c now plain is = true_false plain refl

  -- plain calls, then the row, then plain calls
  turn_like : (before after : List Call) (w : OnRows) (c : Contents) (s : Session) → list_all (is_plain d) before ≡ true → list_all (is_plain d) after ≡ true → fits_rows w c.rows ≡ true → IsReady c s.seen → calls_fit d (made d (before ++ Execute (Rows w) ∷ after) c) s ≡ true
  turn_like [] after w c s first last fit ready =
      after_deed (Rows w) after c s ready (and_true _ _ ready.log (ap (λ (x : Contents). fits_rows w x.rows) ready.contents ∙ fit)) (λ now is. record { contents = refl; log = ready.log; row = ready.row })
      (λ now t is ready_then. plain_calls_fit after now t last ready_then)
  turn_like (Execute deed ∷ before) after w c s first last fit ready =
      let one = and_left (is_plain_deed d deed) _ first in
      after_deed deed (before ++ Execute (Rows w) ∷ after) c s ready (plain_fits deed c s.seen one ready) (λ now is. plain_ready deed c now s.seen one ready)
      (λ now t is ready_then. turn_like before after w now t (and_right (is_plain_deed d deed) _ first) last (ap (fits_rows w) (plain_rows deed c now one is) ∙ fit) ready_then)
  turn_like (Begin ∷ before) after w c s first last fit ready = turn_like before after w c (record s { is_open = true }) first last fit ready
  turn_like (Commit ∷ before) after w c s first last fit ready = turn_like before after w c (closed s) first last fit ready
  turn_like (Abort ∷ before) after w c s first last fit ready = true_false first refl
  turn_like (Alone deeds room ∷ before) after w c s first last fit ready = true_false first refl

  statements_plain : (who : List ℕ) (turn : Turn) (k : ℕ) (ss : List Statement) → list_all (is_statement d) ss ≡ true → list_all (is_plain d) (statement_calls d who turn k ss) ≡ true
  statements_plain who turn k [] h = refl
  statements_plain who turn k (s ∷ ss) h = all-append (is_plain d) (if turn.in_transaction then within d who turn k s else apart who turn k s) (statement_calls d who turn (suc k) ss) (one turn.in_transaction (commits_itself d s)) (statements_plain who turn (suc k) ss (and_right (is_statement d s) _ h)) where
    one : (a b : Bool) → list_all (is_plain d) (if a then (if b then mark who turn k ∷ Execute (Users s) ∷ [] else Execute (Users s) ∷ []) else apart who turn k s) ≡ true
    one true true = and_true _ _ (and_left (is_statement d s) _ h) refl
    one true false = and_true _ _ (and_left (is_statement d s) _ h) refl
    one false b = and_true _ _ (and_left (is_statement d s) _ h) refl

  after_row : (who : List ℕ) (turn : Turn) → list_all (is_plain d) (unmark d who turn ++ Commit ∷ []) ≡ true
  after_row who turn = elim (list_any (is_marked d turn) turn.statements) as (λ b. list_all (is_plain d) ((if b then Execute (Locks (Marked who)) ∷ [] else []) ++ Commit ∷ []) ≡ true) [ true ↦ refl | false ↦ refl ]

  pub turn_fits : (who : List ℕ) (turn : Turn) (c : Contents) (s : Session) → list_all (is_statement d) turn.statements ≡ true → fits_rows turn.row c.rows ≡ true → IsReady c s.seen → calls_fit d (made d (turn_calls d who turn) c) s ≡ true
  turn_fits who turn c s stated fit ready = by turn.in_transaction where
    plain_front : list_all (is_plain d) (statement_calls d who turn 1 turn.statements) ≡ true
    plain_front = statements_plain who turn 1 turn.statements stated

    by : (b : Bool) → calls_fit d (made d (if b then Begin ∷ statement_calls d who turn 1 turn.statements ++ row_calls d who turn else statement_calls d who turn 1 turn.statements ++ Begin ∷ row_calls d who turn) c) s ≡ true
    by true = turn_like (Begin ∷ statement_calls d who turn 1 turn.statements) (unmark d who turn ++ Commit ∷ []) turn.row c s plain_front (after_row who turn) fit ready
    by false = ap (λ calls. calls_fit d (made d calls c) s) (sym (append_assoc (statement_calls d who turn 1 turn.statements) (Begin ∷ []) (row_calls d who turn)))
        ∙ turn_like (statement_calls d who turn 1 turn.statements ++ Begin ∷ []) (unmark d who turn ++ Commit ∷ []) turn.row c s (all-append (is_plain d) (statement_calls d who turn 1 turn.statements) (Begin ∷ []) plain_front refl) (after_row who turn) fit ready
