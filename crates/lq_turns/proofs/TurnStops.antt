-- What stands at each moment of a turn, whole or in parts, in both ways of committing.
use Rattle.std.proofs.Common.{ap, inl, inr, subst, sym, ◌∙◌}
use Rattle.std.proofs.lemmas.List.{append-nil, append_assoc}
use Rattle.std.specs.List.{last_or, list_any}
use Rattle.std.specs.Prelude.{Bool, Err, List, Ok, Option, Result, Some, [], false, if◌then◌else◌, length, not, pos, refl, suc, true, ℕ, ◌++◌, ◌||◌, ◌∷◌, ◌≡◌, ◌⊎◌}
use Rattle.lq_base.specs.declared.dialect.Dialect.{Dialect}
use Rattle.lq_base.specs.declared.reason.Reason.{Reason}
use Rattle.lq_base.specs.declared.tracking.Lock.{Lock}
use Rattle.lq_model.proofs.Lists.{any-append, named_itself, or_left, or_right, true_false}
use Rattle.lq_model.specs.Catalogue.{Catalogue}
use Rattle.lq_model.specs.Step.{run, step, commits_itself}
use Rattle.lq_model.specs.declared.caller.By.TheVariants.{User}
use Rattle.lq_model.specs.declared.statement.Statement.{Statement}
use Rattle.lq_track.specs.Database.{Database}
use Rattle.lq_track.specs.Lock.{taken}
use Rattle.lq_turns.specs.Deed.{Contents, contents_of, with_contents, contents_after, if_accepted, lock_after, locked_after, rows_after}
use Rattle.lq_turns.specs.Session.{Session, aborted, all_called, closed, is_own, settled_up}
use Rattle.lq_turns.specs.declared.call.Call.{Call}
use Rattle.lq_turns.specs.declared.call.Call.TheVariants.{Begin, Commit, Execute}
use Rattle.lq_turns.specs.declared.deed.Deed.{Deed}
use Rattle.lq_turns.specs.declared.deed.Deed.TheVariants.{Locks, Rows, Users}
use Rattle.lq_turns.specs.declared.deed.OnLock.TheVariants.{Marked}
use Rattle.lq_turns.specs.declared.stamp.Stamp.{Stamp}
use Rattle.lq_turns.specs.declared.turn.Turn.{Turn}
use Rattle.lq_turns.specs.Turn.{Finished, apart, ending, is_marked, made, mark, mark_text, row_calls, statement_calls, turn_calls, unmark}
use Rattle.lq_turns.specs.Within.{IsBetween, IsWithin, marks_last}
use Rattle.lq_turns.proofs.Effects.{run_both, then_run}
use Rattle.lq_turns.proofs.Entered.{is_finished}
use Rattle.lq_turns.proofs.Marks.{Fine, deed_taken, ends_by_row, ends_stuck, fine_aborted, fine_closed, fine_deed, fine_open, fine_up, last_or_push}
use Rattle.lq_turns.proofs.TurnLeft.{mark_not_own, row_not_own}

pub if_ok : {A B : Type 0} (f : A → B) (r : Result A Reason) (y : B) → if_accepted f r ≡ Ok y → (x : A) × (r ≡ Ok x) × (f x ≡ y)
if_ok f (Ok x) y is = (x, refl, Prim.cc)
if_ok f (Err reason) y is = Prim.cc

pub if_err : {A B : Type 0} (f : A → B) (r : Result A Reason) (reason : Reason) → if_accepted f r ≡ Err reason → r ≡ Err reason
if_err f (Ok x) reason is = Prim.cc
if_err f (Err other) reason is = Prim.cc

length_more : (first : List Statement) (s : Statement) → length (first ++ s ∷ []) ≡ suc (length first)
length_more [] s = refl
length_more (x ∷ first) s = ap suc (length_more first s)

module _ (d : Dialect) (P : Option Deed → Database → Type 0) (stamp : Stamp) (turn : Turn) (c : Contents)
    (within : (o : Option Deed) (now : Database) → IsWithin d stamp turn c o now → P o now)
    (after : (o : Option Deed) (e : Contents) (now : Database) → ending d turn c ≡ Finished e → IsBetween stamp e now → P o now) (start : Session) where
  -- some statements ran, and are seen; the lock has the mark of the last marked one, or none
  record Inside (first : List Statement) (s : Session) : Type 0 where
    fine : Fine d P start s
    ran : run User d first c.users ≡ Ok s.seen.users
    rows : s.seen.rows ≡ c.rows
    by : List ℕ
    lock : s.seen.lock ≡ taken (pos stamp.reading) by
    bare : list_any (is_marked d turn) first ≡ false → by ≡ stamp.who

  -- the turn is over: it finished and left no mark, or it was refused
  pub record IsOver (s : Session) : Type 0 where
    pub fine : Fine d P start s
    pub begun : s.begun ≡ []
    pub ended : ((e : Contents) × (ending d turn c ≡ Finished e) × IsBetween stamp e s.seen) ⊎ (is_finished (ending d turn c) ≡ false)

  -- its row

  abbrev row_now : Session → Contents → Session
  row_now s now = record s { seen = with_contents s.seen now; begun = s.begun ++ Rows turn.row ∷ [] }

  last_commit : (e : Contents) (s : Session) → Fine d P start s → ending d turn c ≡ Finished e → IsBetween stamp e s.seen → IsOver (closed s)
  last_commit e s fine is at = record { fine = fine_closed d P start s fine (after (last_or fine.last s.begun) e s.seen is at); begun = refl; ended = inl (e, is, at) }

  row_ends : (flag : Bool) (e : Contents) (s : Session) → Fine d P start s → ending d turn c ≡ Finished e → contents_of s.seen ≡ e → (by : List ℕ) → s.seen.lock ≡ taken (pos stamp.reading) by → (flag ≡ false → by ≡ stamp.who)
      → IsOver (all_called d (made d ((if flag then Execute (Locks (Marked stamp.who)) ∷ [] else []) ++ Commit ∷ []) (contents_of s.seen)) s)
  row_ends false e s fine is at by lock bare = last_commit e s fine is (record { contents = at; lock = lock ∙ ap (taken (pos stamp.reading)) (bare refl) })
  row_ends true e s fine is at by lock bare =
      let deed = Locks (Marked stamp.who) in
      let now = with_contents (lock_after (Marked stamp.who) s.seen) (contents_of s.seen) in
      deed_taken d deed (Commit ∷ []) s IsOver false (mark_not_own d stamp.who)
      (λ same went.
      let t = record s { seen = with_contents (lock_after (Marked stamp.who) s.seen) same; begun = s.begun ++ deed ∷ [] } in
      let is_same : contents_of s.seen ≡ same = Prim.cc in
      last_commit e t (fine_deed d P deed (with_contents (lock_after (Marked stamp.who) s.seen) same) start s (ap (if_accepted (with_contents (locked_after deed s.seen))) went) fine) is
      (record { contents = sym is_same ∙ at; lock = ap (λ (l : Lock). record l { by = Some stamp.who }) lock }))
      (λ reason went. Prim.cc)

  row_taken : (s : Session) → Inside turn.statements s → IsOver (all_called d (made d (row_calls d stamp.who turn) (contents_of s.seen)) s)
  row_taken s inside =
      let deed = Rows turn.row in
      deed_taken d deed (unmark d stamp.who turn ++ Commit ∷ []) s IsOver false (row_not_own d turn.row)
      (λ now went.
      let rows = if_ok (λ rows. record (contents_of s.seen) { rows = rows }) (rows_after turn.row s.seen.rows) now went in
      let t = row_now s now in
      row_ends (list_any (is_marked d turn) turn.statements) now t
      (fine_deed d P deed (with_contents s.seen now) start s (ap (if_accepted (with_contents (locked_after deed s.seen))) went) inside.fine)
      (ends_by_row d turn c s.seen.users (Ok rows.0) inside.ran (sym (ap (rows_after turn.row) inside.rows) ∙ rows.1) ∙ ap Finished rows.2)
      refl inside.by inside.lock inside.bare)
      (λ reason went. record {
        fine = fine_aborted d P start s inside.fine;
        begun = refl;
        ended = inr (ap is_finished (ends_by_row d turn c s.seen.users (Err reason) inside.ran (sym (ap (rows_after turn.row) inside.rows) ∙ if_err _ (rows_after turn.row s.seen.rows) reason went)));
      })

  -- a statement

  -- the statements that ran, and this one, run to where it leads
  ran_more : (first : List Statement) (s : Statement) (b e : Catalogue) (n : ℕ) → run User d first c.users ≡ Ok b → step User d s b ≡ Ok (e, n) → run User d (first ++ s ∷ []) c.users ≡ Ok e
  ran_more first s b e n ran is = run_both d first (s ∷ []) c.users ∙ ap (then_run d (s ∷ [])) ran ∙ ap (λ q. elim q as (λ _. Result Catalogue Reason) [ Ok r ↦ Ok r.0 | Err why ↦ Err why ]) is

  unmarked_before : (first : List Statement) (s : Statement) → list_any (is_marked d turn) (first ++ s ∷ []) ≡ false → list_any (is_marked d turn) first ≡ false
  unmarked_before first s none = or_left (list_any (is_marked d turn) first) _ (sym (any-append (is_marked d turn) first (s ∷ [])) ∙ none)

  never_marked : (first : List Statement) (s : Statement) → is_marked d turn s ≡ true → {A : Type 0} → list_any (is_marked d turn) (first ++ s ∷ []) ≡ false → A
  never_marked first s marked none = true_false marked (or_left (is_marked d turn s) false (or_right (list_any (is_marked d turn) first) _ (sym (any-append (is_marked d turn) first (s ∷ [])) ∙ none)))

  abbrev after_deed : Deed → Contents → Session → Session
  after_deed deed now s = record s { seen = with_contents (locked_after deed s.seen) now; begun = s.begun ++ deed ∷ [] }

  refused_over : (first rest : List Statement) (s : Statement) (t u : Session) (reason : Reason) → turn.statements ≡ first ++ s ∷ rest → run User d first c.users ≡ Ok t.seen.users → contents_after d (Users s) (contents_of t.seen) ≡ Err reason → Fine d P start u → IsOver (aborted u)
  refused_over first rest s t u reason are ran went fine = record { fine = fine_aborted d P start u fine; begun = refl; ended = inr (ends_stuck d turn c first s rest t.seen.users reason are ran (if_err _ (step User d s t.seen.users) reason went)) }

  -- one that is not marked
  plain_taken : (first rest : List Statement) (s : Statement) (calls : List Call) (t : Session) → turn.statements ≡ first ++ s ∷ rest → is_own d (Users s) ≡ false → Inside first t
      → ((u : Session) → Inside (first ++ s ∷ []) u → IsOver (all_called d (made d calls (contents_of u.seen)) u))
      → IsOver (all_called d (made d (Execute (Users s) ∷ calls) (contents_of t.seen)) t)
  plain_taken first rest s calls t are own inside more =
      deed_taken d (Users s) calls t IsOver false own
      (λ now went.
      let r = if_ok (λ r. record (contents_of t.seen) { users = r.0 }) (step User d s t.seen.users) now went in
      more (after_deed (Users s) now t) (record {
        fine = fine_deed d P (Users s) (with_contents t.seen now) start t (ap (if_accepted (with_contents t.seen)) went) inside.fine;
        ran = ran_more first s t.seen.users r.0.0 r.0.1 inside.ran r.1 ∙ ap (λ (e : Contents). Ok e.users) r.2;
        rows = sym (ap (λ (e : Contents). e.rows) r.2) ∙ inside.rows;
        by = inside.by;
        lock = inside.lock;
        bare = λ none. inside.bare (unmarked_before first s none);
      }))
      (λ reason went. refused_over first rest s t t reason are inside.ran went inside.fine)

  -- the mark before one
  record IsMarked (first : List Statement) (s : Session) : Type 0 where
    fine : Fine d P start s
    ran : run User d first c.users ≡ Ok s.seen.users
    rows : s.seen.rows ≡ c.rows
    lock : s.seen.lock ≡ taken (pos stamp.reading) (mark_text stamp.who turn (suc (length first)))
    last : (o : Option Deed) → last_or o s.begun ≡ Some (Locks (Marked (mark_text stamp.who turn (suc (length first)))))

  mark_taken : (first : List Statement) (calls : List Call) (t : Session) → Inside first t
      → ((u : Session) → IsMarked first u → IsOver (all_called d (made d calls (contents_of u.seen)) u))
      → IsOver (all_called d (made d (mark stamp.who turn (suc (length first)) ∷ calls) (contents_of t.seen)) t)
  mark_taken first calls t inside more =
      let text = mark_text stamp.who turn (suc (length first)) in
      deed_taken d (Locks (Marked text)) calls t IsOver false (mark_not_own d text)
      (λ now went.
      let same : contents_of t.seen ≡ now = Prim.cc in
      more (after_deed (Locks (Marked text)) now t) (record {
        fine = fine_deed d P (Locks (Marked text)) (with_contents (lock_after (Marked text) t.seen) now) start t (ap (if_accepted (with_contents (lock_after (Marked text) t.seen))) went) inside.fine;
        ran = inside.ran ∙ ap (λ (e : Contents). Ok e.users) same;
        rows = sym (ap (λ (e : Contents). e.rows) same) ∙ inside.rows;
        lock = ap (λ (l : Lock). record l { by = Some text }) inside.lock;
        last = λ o. last_or_push o t.begun (Locks (Marked text));
      }))
      (λ reason went. Prim.cc)

  within_before : (first rest : List Statement) (s : Statement) (t : Session) (o : Option Deed) → turn.statements ≡ first ++ s ∷ rest → IsMarked first t → P (last_or o t.begun) t.seen
  within_before first rest s t o are at =
      let text = mark_text stamp.who turn (suc (length first)) in
      within (last_or o t.begun) t.seen (record { before = first; marked = s; after = rest; are = are; lock = at.lock; users = inl (ap (marks_last text) (at.last o) ∙ named_itself text, at.ran); rows = at.rows })

  -- one that is marked, and committed by itself
  own_taken : (first rest : List Statement) (s : Statement) (calls : List Call) (t : Session) → turn.statements ≡ first ++ s ∷ rest → is_own d (Users s) ≡ true → is_marked d turn s ≡ true → IsMarked first t
      → ((u : Session) (inside : Inside (first ++ s ∷ []) u) → P (last_or inside.fine.last u.begun) u.seen → IsOver (all_called d (made d calls (contents_of u.seen)) u))
      → IsOver (all_called d (made d (Execute (Users s) ∷ calls) (contents_of t.seen)) t)
  own_taken first rest s calls t are own marked at more =
      let up = fine_up d P start t at.fine (within_before first rest s t at.fine.last are at) in
      deed_taken d (Users s) calls t IsOver true own
      (λ now went.
      let r = if_ok (λ r. record (contents_of t.seen) { users = r.0 }) (step User d s t.seen.users) now went in
      let u = after_deed (Users s) now (settled_up t) in
      let ran = ran_more first s t.seen.users r.0.0 r.0.1 at.ran r.1 ∙ ap (λ (e : Contents). Ok e.users) r.2 in
      let rows = sym (ap (λ (e : Contents). e.rows) r.2) ∙ at.rows in
      let here = within (Some (Users s)) u.seen (record { before = first; marked = s; after = rest; are = are; lock = at.lock; users = inr (refl, ran); rows = rows }) in
      more (settled_up u) (record {
        fine = fine_up d P start u (fine_deed d P (Users s) (with_contents t.seen now) start (settled_up t) (ap (if_accepted (with_contents t.seen)) went) up) here;
        ran = ran;
        rows = rows;
        by = mark_text stamp.who turn (suc (length first));
        lock = at.lock;
        bare = λ none. never_marked first s marked none;
      }) here)
      (λ reason went. refused_over first rest s t (settled_up t) reason are at.ran went up)

  -- and one that is marked, and committed by a call
  apart_taken : (first rest : List Statement) (s : Statement) (calls : List Call) (t : Session) → turn.statements ≡ first ++ s ∷ rest → is_own d (Users s) ≡ false → is_marked d turn s ≡ true → IsMarked first t
      → ((u : Session) (inside : Inside (first ++ s ∷ []) u) → P (last_or inside.fine.last u.begun) u.seen → IsOver (all_called d (made d calls (contents_of u.seen)) u))
      → IsOver (all_called d (made d (Execute (Users s) ∷ calls) (contents_of t.seen)) t)
  apart_taken first rest s calls t are own marked at more =
      deed_taken d (Users s) calls t IsOver false own
      (λ now went.
      let r = if_ok (λ r. record (contents_of t.seen) { users = r.0 }) (step User d s t.seen.users) now went in
      let u = after_deed (Users s) now t in
      let ran = ran_more first s t.seen.users r.0.0 r.0.1 at.ran r.1 ∙ ap (λ (e : Contents). Ok e.users) r.2 in
      let rows = sym (ap (λ (e : Contents). e.rows) r.2) ∙ at.rows in
      let text = mark_text stamp.who turn (suc (length first)) in
      more u (record {
        fine = fine_deed d P (Users s) (with_contents t.seen now) start t (ap (if_accepted (with_contents t.seen)) went) at.fine;
        ran = ran;
        rows = rows;
        by = mark_text stamp.who turn (suc (length first));
        lock = at.lock;
        bare = λ none. never_marked first s marked none;
      })
      (within (last_or at.fine.last u.begun) u.seen (record { before = first; marked = s; after = rest; are = are; lock = at.lock; users = inr (ap (marks_last text) (last_or_push at.fine.last t.begun (Users s)), ran); rows = rows })))
      (λ reason went. refused_over first rest s t t reason are at.ran went at.fine)

  -- all statements, and what comes after them

  inside_at : (first : List Statement) (t u : Session) → t.seen ≡ u.seen → Fine d P start u → Inside first t → Inside first u
  inside_at first t u same fine inside = record {
    fine = fine;
    ran = inside.ran ∙ ap (λ (x : Database). Ok x.users) same;
    rows = sym (ap (λ (x : Database). x.rows) same) ∙ inside.rows;
    by = inside.by;
    lock = sym (ap (λ (x : Database). x.lock) same) ∙ inside.lock;
    bare = inside.bare;
  }

  abbrev Goes : List Call → Session → Type 0
  Goes calls t = IsOver (all_called d (made d calls (contents_of t.seen)) t)

  all_taken : (first rest : List Statement) (tail : List Call) (t : Session) → turn.statements ≡ first ++ rest → ((u : Session) → Inside turn.statements u → Goes tail u) → Inside first t
      → Goes (statement_calls d stamp.who turn (suc (length first)) rest ++ tail) t
  all_taken first [] tail t are last inside = last t (subst (λ ss. Inside ss t) (sym (are ∙ append-nil first)) inside)
  all_taken first (s ∷ ss) tail t are last inside =
      one_taken turn.in_transaction (commits_itself d s) refl refl
      (λ u now. subst (λ k. Goes (statement_calls d stamp.who turn (suc k) ss ++ tail) u) (length_more first s) (all_taken (first ++ s ∷ []) ss tail u (are ∙ sym (append_assoc first (s ∷ []) ss)) last now)) where
        one_taken : (whole own : Bool) → turn.in_transaction ≡ whole → commits_itself d s ≡ own → ((u : Session) → Inside (first ++ s ∷ []) u → Goes (statement_calls d stamp.who turn (suc (suc (length first))) ss ++ tail) u)
            → Goes (((if whole then (if own then mark stamp.who turn (suc (length first)) ∷ Execute (Users s) ∷ [] else Execute (Users s) ∷ []) else apart stamp.who turn (suc (length first)) s) ++ statement_calls d stamp.who turn (suc (suc (length first))) ss) ++ tail) t
        one_taken true true whole own more =
            mark_taken first (Execute (Users s) ∷ (statement_calls d stamp.who turn (suc (suc (length first))) ss ++ tail)) t inside
            (λ u at. own_taken first ss s (statement_calls d stamp.who turn (suc (suc (length first))) ss ++ tail) u are own (ap (λ b. not b || commits_itself d s) whole ∙ own) at (λ v now here. more v now))
        one_taken true false whole own more = plain_taken first ss s (statement_calls d stamp.who turn (suc (suc (length first))) ss ++ tail) t are own inside more
        one_taken false true whole own more =
            let live = record t { is_open = true } in
            mark_taken first (Execute (Users s) ∷ Commit ∷ (statement_calls d stamp.who turn (suc (suc (length first))) ss ++ tail)) live (inside_at first t live refl (fine_open d P start t inside.fine) inside)
            (λ u at. own_taken first ss s (Commit ∷ (statement_calls d stamp.who turn (suc (suc (length first))) ss ++ tail)) u are own (ap (λ b. not b || commits_itself d s) whole) at
            (λ v now here. more (closed v) (inside_at (first ++ s ∷ []) v (closed v) refl (fine_closed d P start v now.fine here) now)))
        one_taken false false whole own more =
            let live = record t { is_open = true } in
            mark_taken first (Execute (Users s) ∷ Commit ∷ (statement_calls d stamp.who turn (suc (suc (length first))) ss ++ tail)) live (inside_at first t live refl (fine_open d P start t inside.fine) inside)
            (λ u at. apart_taken first ss s (Commit ∷ (statement_calls d stamp.who turn (suc (suc (length first))) ss ++ tail)) u are own (ap (λ b. not b || commits_itself d s) whole) at
            (λ v now here. more (closed v) (inside_at (first ++ s ∷ []) v (closed v) refl (fine_closed d P start v now.fine here) now)))

  -- a turn, from a session that sees its contents and holds the lock without a mark
  pub turn_stops : (s : Session) → Fine d P start s → contents_of s.seen ≡ c → s.seen.lock ≡ taken (pos stamp.reading) stamp.who → IsOver (all_called d (made d (turn_calls d stamp.who turn) c) s)
  turn_stops s fine at lock = subst (λ e. IsOver (all_called d (made d (turn_calls d stamp.who turn) e) s)) at (by turn.in_transaction) where
    first : (u : Session) → Fine d P start u → u.seen ≡ s.seen → Inside [] u
    first u fine same = record {
      fine = fine;
      ran = ap (λ (e : Contents). Ok e.users) (sym at ∙ ap contents_of (sym same));
      rows = ap (λ (x : Database). x.rows) same ∙ ap (λ (e : Contents). e.rows) at;
      by = stamp.who;
      lock = ap (λ (x : Database). x.lock) same ∙ lock;
      bare = λ none. refl;
    }

    by : (whole : Bool) → Goes (if whole then Begin ∷ statement_calls d stamp.who turn 1 turn.statements ++ row_calls d stamp.who turn else statement_calls d stamp.who turn 1 turn.statements ++ Begin ∷ row_calls d stamp.who turn) s
    by true = let live = record s { is_open = true } in all_taken [] turn.statements (row_calls d stamp.who turn) live refl row_taken (first live (fine_open d P start s fine) refl)
    by false = all_taken [] turn.statements (Begin ∷ row_calls d stamp.who turn) s refl (λ u inside. let live = record u { is_open = true } in row_taken live (inside_at turn.statements u live refl (fine_open d P start u inside.fine) inside)) (first s fine refl)
