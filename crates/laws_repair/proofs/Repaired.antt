-- What the calls of a repair leave, and what stands wherever they are stopped.
use Rattle.std.specs.List.{last_or}
use Rattle.std.proofs.Common.{ap, inl, inr, subst, sym, ◌∙◌}
use Rattle.std.proofs.lemmas.List.{append-nil, append_assoc}
use Rattle.std.specs.Option.{option_to_list}
use Rattle.std.specs.Prelude.{Bool, Err, List, None, Ok, Option, Result, Some, [], false, length, pos, refl, suc, true, ℕ, ◌++◌, ◌∷◌, ◌≡◌, ◌⊎◌}
use Rattle.lq_base.specs.declared.dialect.Dialect.{Dialect}
use Rattle.lq_base.specs.declared.dialect.Dialect.TheVariants.{Mysql, Postgresql}
use Rattle.lq_base.specs.declared.identity.Identity.{Identity}
use Rattle.lq_base.specs.declared.reason.Reason.{Reason}
use Rattle.lq_base.specs.declared.tracking.Lock.{Lock}
use Rattle.lq_model.proofs.Effects.{Ran, ran_first}
use Rattle.lq_model.proofs.Lists.{named_itself}
use Rattle.lq_model.specs.Catalogue.{Catalogue}
use Rattle.lq_model.specs.Step.{commits_itself, run, step}
use Rattle.lq_model.specs.declared.caller.By.TheVariants.{User}
use Rattle.lq_model.specs.declared.statement.Statement.{Statement}
use Rattle.lq_reverse.proofs.Parts.{backs_both}
use Rattle.lq_reverse.specs.Back.{back, backs}
use Rattle.lq_track.specs.Database.{Database}
use Rattle.lq_track.specs.Lock.{free, taken}
use Rattle.lq_turns.specs.Deed.{Contents, contents_of, with_contents, all_done, contents_after, if_accepted, lock_after, locked_after}
use Rattle.lq_turns.specs.Script.{closing}
use Rattle.lq_turns.specs.Session.{Session, all_called, all_executed, closed, is_own, left_by, session_on, settled_if, settled_up}
use Rattle.lq_turns.specs.Stops.{Journal, joined}
use Rattle.lq_turns.specs.Turn.{made}
use Rattle.lq_turns.specs.Within.{marks_last}
use Rattle.lq_turns.specs.declared.call.Call.{Call}
use Rattle.lq_turns.specs.declared.call.Call.TheVariants.{Begin, Commit, Execute}
use Rattle.lq_turns.specs.declared.deed.Deed.{Deed}
use Rattle.lq_turns.specs.declared.deed.Deed.TheVariants.{Locks, Users}
use Rattle.lq_turns.specs.declared.deed.OnLock.TheVariants.{Freed, Marked}
use Rattle.lq_turns.proofs.Marks.{Fine, deed_taken, fine_closed, fine_deed, fine_open, fine_up, last_or_push, Visits, visits_front, with_deed}
use Rattle.lq_turns.proofs.TurnLeft.{mark_not_own}
use Rattle.laws_repair.specs.Repair.{IsMended, IsPartly, IsWhole, RepairLeaves, RepairResumes, back_calls, marked_text, repair_calls, standing, undo_calls}

length_more : (first : List Statement) (s : Statement) → length (first ++ s ∷ []) ≡ suc (length first)
length_more [] s = refl
length_more (x ∷ first) s = ap suc (length_more first s)

freed_not_own : (d : Dialect) → is_own d (Locks Freed) ≡ false
freed_not_own Postgresql = refl
freed_not_own Mysql = refl

-- the last of two
abbrev or_last : Option Deed → Option Deed → Option Deed
or_last last None = last
or_last last (Some deed) = Some deed

some_last : (o : Deed) (deeds : List Deed) (last : Option Deed) → or_last last (last_or (Some o) deeds) ≡ last_or (Some o) deeds
some_last o [] last = refl
some_last o (deed ∷ deeds) last = some_last deed deeds last

or_last_is : (deeds : List Deed) (last : Option Deed) → or_last last (last_or None deeds) ≡ last_or last deeds
or_last_is [] last = refl
or_last_is (deed ∷ deeds) last = some_last deed deeds last

-- what a statement that is accepted makes of contents
users_after : (d : Dialect) (w : Statement) (c now : Contents) (e : Catalogue) (n : ℕ) → step User d w c.users ≡ Ok (e, n) → contents_after d (Users w) c ≡ Ok now → now ≡ record c { users = e }
users_after d w c now e n is went =
    let same : (let r : Result Contents Reason = Ok (record c { users = e }) in r) ≡ Ok now = sym (ap (if_accepted (λ (r : Catalogue × ℕ). record c { users = r.0 })) is) ∙ went in
    Prim.cc

not_refused : {A : Type 0} (d : Dialect) (w : Statement) (c : Contents) (e : Catalogue) (n : ℕ) (reason : Reason) → step User d w c.users ≡ Ok (e, n) → contents_after d (Users w) c ≡ Err reason → A
not_refused d w c e n reason is went =
    let same : (let r : Result Contents Reason = Ok (record c { users = e }) in r) ≡ Err reason = sym (ap (if_accepted (λ (r : Catalogue × ℕ). record c { users = r.0 })) is) ∙ went in
    absurd Prim.cc

module _ (d : Dialect) (at : ℕ) (who : List ℕ) (of : Identity) (statements : List Statement) (c : Contents) (last : Option Deed) (database : Database) where
  abbrev P : Option Deed → Database → Type 0
  P o now = IsWhole c now ⊎ IsPartly d at who of statements c (or_last last o) now

  abbrev start : Session
  start = session_on database

  -- these first statements stand, and nothing is begun
  record Inside (first : List Statement) (s : Session) : Type 0 where
    fine : Fine d P start s
    begun : s.begun ≡ []
    returns : run User d (backs d first) s.seen.users ≡ Ok c.users
    rows : s.seen.rows ≡ c.rows
    by : List ℕ
    lock : s.seen.lock ≡ taken (pos at) by

  record IsDone (s : Session) : Type 0 where
    fine : Fine d P start s
    whole : IsWhole c s.committed

  abbrev Goes : List Call → Session → Type 0
  Goes calls t = IsDone (all_called d (made d calls (contents_of t.seen)) t)

  -- the mark of a statement that is to be taken back is set: it stands
  at_mark : (pre rest : List Statement) (s : Statement) (o : Option Deed) (now : Database) → statements ≡ (pre ++ s ∷ []) ++ rest → o ≡ Some (Locks (Marked (marked_text true who of (suc (length pre)))))
      → now.lock ≡ taken (pos at) (marked_text true who of (suc (length pre))) → run User d (backs d (pre ++ s ∷ [])) now.users ≡ Ok c.users → now.rows ≡ c.rows → P o now
  at_mark pre rest s o now are is lock returns rows =
      let text = marked_text true who of (suc (length pre)) in
      inr (record {
        is_back = true;
        k = suc (length pre);
        first = pre ++ s ∷ [];
        rest = rest;
        are = are;
        place = (pre, s, rest, are ∙ append_assoc pre (s ∷ []) rest, refl);
        number = length_more pre s ∙ sym (ap (λ b. standing true b (suc (length pre))) (ap (λ l. marks_last text (or_last last l)) is ∙ named_itself text));
        lock = lock;
        returns = returns;
        rows = rows;
      })

  -- and what takes it back ran: it stands no more
  past_mark : (pre rest : List Statement) (s w : Statement) (o : Option Deed) (now : Database) → statements ≡ (pre ++ s ∷ []) ++ rest → o ≡ Some (Users w)
      → now.lock ≡ taken (pos at) (marked_text true who of (suc (length pre))) → run User d (backs d pre) now.users ≡ Ok c.users → now.rows ≡ c.rows → P o now
  past_mark pre rest s w o now are is lock returns rows =
      let text = marked_text true who of (suc (length pre)) in
      inr (record {
        is_back = true;
        k = suc (length pre);
        first = pre;
        rest = s ∷ rest;
        place = (pre, s, rest, are ∙ append_assoc pre (s ∷ []) rest, refl);
        are = are ∙ append_assoc pre (s ∷ []) rest;
        number = sym (ap (λ l. standing true (marks_last text (or_last last l)) (suc (length pre))) is);
        lock = lock;
        returns = returns;
        rows = rows;
      })

  taken_back : (pre rest : List Statement) (s w : Statement) (tail : List Call) (own : Bool) (u : Session) → is_own d (Users w) ≡ own → statements ≡ (pre ++ s ∷ []) ++ rest → back d s ≡ Some w → Inside (pre ++ s ∷ []) u
      → ((v : Session) → Inside pre v → Goes tail v) → Goes (back_calls who of (suc (length pre)) (Some w) ++ tail) u
  taken_back pre rest s w tail own u is are back_is inside more =
      let text = marked_text true who of (suc (length pre)) in
      let mark = Locks (Marked text) in
      let live = record u { is_open = true } in
      let goes_back : run User d (w ∷ backs d pre) u.seen.users ≡ Ok c.users
      = ap (λ us. run User d us u.seen.users) (sym (backs_both d pre (s ∷ []) ∙ ap (λ o. option_to_list o ++ backs d pre) back_is)) ∙ inside.returns in
      let r : Ran d w (backs d pre) u.seen.users c.users = ran_first d w (backs d pre) u.seen.users c.users goes_back in
      deed_taken d mark (Execute (Users w) ∷ Commit ∷ tail) live IsDone false (mark_not_own d text)
      (λ now went.
      let same : contents_of u.seen ≡ now = Prim.cc in
      let v = with_deed d P mark (with_contents (lock_after (Marked text) live.seen) now) live in
      let fine = fine_deed d P mark (with_contents (lock_after (Marked text) live.seen) now) start live (ap (if_accepted (with_contents (lock_after (Marked text) live.seen))) went) (fine_open d P start u inside.fine) in
      let users : u.seen.users ≡ v.seen.users = ap (λ (e : Contents). e.users) same in
      let rows : v.seen.rows ≡ c.rows = sym (ap (λ (e : Contents). e.rows) same) ∙ inside.rows in
      let lock : v.seen.lock ≡ taken (pos at) text = ap (λ (l : Lock). record l { by = Some text }) inside.lock in
      let stepped : step User d w v.seen.users ≡ Ok (r.mid, r.count) = ap (step User d w) (sym users) ∙ r.first in
      let marked = λ (o : Option Deed). at_mark pre rest s (last_or o v.begun) v.seen are (last_or_push o u.begun mark) lock (ap (run User d (backs d (pre ++ s ∷ []))) (sym users) ∙ inside.returns) rows in
      by own is v fine rows lock r stepped marked)
      (λ reason went. Prim.cc)
    where
      by : (own : Bool) → is_own d (Users w) ≡ own → (v : Session) → (fine : Fine d P start v) → v.seen.rows ≡ c.rows → v.seen.lock ≡ taken (pos at) (marked_text true who of (suc (length pre)))
          → (r : Ran d w (backs d pre) u.seen.users c.users) → step User d w v.seen.users ≡ Ok (r.mid, r.count) → ((o : Option Deed) → P (last_or o v.begun) v.seen)
          → Goes (Execute (Users w) ∷ Commit ∷ tail) v
      by true is v fine rows lock r stepped marked =
          deed_taken d (Users w) (Commit ∷ tail) v IsDone true is
          (λ now went.
          let up = fine_up d P start v fine (marked fine.last) in
          let x = with_deed d P (Users w) (with_contents v.seen now) (settled_up v) in
          let made_so = users_after d w (contents_of v.seen) now r.mid r.count stepped went in
          let returns = ap (λ (e : Contents). run User d (backs d pre) e.users) made_so ∙ r.others in
          let rows_so = ap (λ (e : Contents). e.rows) made_so ∙ rows in
          let here : P (Some (Users w)) x.seen = past_mark pre rest s w (Some (Users w)) x.seen are refl lock returns rows_so in
          let over = fine_up d P start x (fine_deed d P (Users w) (with_contents v.seen now) start (settled_up v) (ap (if_accepted (with_contents v.seen)) went) up) here in
          more (closed (settled_up x)) (record {
            fine = fine_closed d P start (settled_up x) over here;
            begun = refl;
            returns = returns;
            rows = rows_so;
            by = marked_text true who of (suc (length pre));
            lock = lock;
          }))
          (λ reason went. not_refused d w (contents_of v.seen) r.mid r.count reason stepped went)
      by false is v fine rows lock r stepped marked =
          deed_taken d (Users w) (Commit ∷ tail) v IsDone false is
          (λ now went.
          let x = with_deed d P (Users w) (with_contents v.seen now) v in
          let made_so = users_after d w (contents_of v.seen) now r.mid r.count stepped went in
          let returns = ap (λ (e : Contents). run User d (backs d pre) e.users) made_so ∙ r.others in
          let rows_so = ap (λ (e : Contents). e.rows) made_so ∙ rows in
          let here : P (last_or fine.last x.begun) x.seen = past_mark pre rest s w (last_or fine.last x.begun) x.seen are (last_or_push fine.last v.begun (Users w)) lock returns rows_so in
          more (closed x) (record {
            fine = fine_closed d P start x (fine_deed d P (Users w) (with_contents v.seen now) start v (ap (if_accepted (with_contents v.seen)) went) fine) here;
            begun = refl;
            returns = returns;
            rows = rows_so;
            by = marked_text true who of (suc (length pre));
            lock = lock;
          }))
          (λ reason went. not_refused d w (contents_of v.seen) r.mid r.count reason stepped went)

  one : (pre rest : List Statement) (s : Statement) (tail : List Call) (u : Session) → statements ≡ (pre ++ s ∷ []) ++ rest → Inside (pre ++ s ∷ []) u
      → ((v : Session) → Inside pre v → Goes tail v) → Goes (back_calls who of (suc (length pre)) (back d s) ++ tail) u
  one pre rest s tail u are inside more = by (back d s) refl where
    by : (o : Option Statement) → back d s ≡ o → Goes (back_calls who of (suc (length pre)) o ++ tail) u
    by None is = more u (record {
      fine = inside.fine;
      begun = inside.begun;
      returns = ap (λ us. run User d us u.seen.users) (sym (backs_both d pre (s ∷ []) ∙ ap (λ o. option_to_list o ++ backs d pre) is)) ∙ inside.returns;
      rows = inside.rows;
      by = inside.by;
      lock = inside.lock;
    })
    by (Some w) is = taken_back pre rest s w tail (is_own d (Users w)) u refl are is inside more

  loop : (pre ss rest : List Statement) (tail : List Call) (t : Session) → statements ≡ (pre ++ ss) ++ rest → Inside (pre ++ ss) t → ((u : Session) → Inside pre u → Goes tail u) → Goes (undo_calls d who of (suc (length pre)) ss ++ tail) t
  loop pre [] rest tail t are inside more = more t (subst (λ fs. Inside fs t) (append-nil pre) inside)
  loop pre (s ∷ ss) rest tail t are inside more =
      let k = suc (length pre) in
      let same = append_assoc pre (s ∷ []) ss in
      let all : statements ≡ (pre ++ s ∷ []) ++ (ss ++ rest) = are ∙ ap (λ fs. fs ++ rest) (sym same) ∙ append_assoc (pre ++ s ∷ []) ss rest in
      subst (λ calls. Goes calls t) (sym (append_assoc (undo_calls d who of (suc k) ss) (back_calls who of k (back d s)) tail))
      (subst (λ n. Goes (undo_calls d who of (suc n) ss ++ (back_calls who of k (back d s) ++ tail)) t) (length_more pre s)
      (loop (pre ++ s ∷ []) ss rest (back_calls who of k (back d s) ++ tail) t (are ∙ ap (λ fs. fs ++ rest) (sym same)) (subst (λ fs. Inside fs t) (sym same) inside)
      (λ u now. one pre (ss ++ rest) s tail u all now more)))

  ends : (u : Session) → Inside [] u → Goes (closing ∷ []) u
  ends u inside =
      let now = with_contents (lock_after Freed u.seen) (contents_of u.seen) in
      let users : u.seen.users ≡ c.users = Prim.cc in
      let whole : IsWhole c now = record { contents = ap (λ e. record (contents_of u.seen) { users = e }) users ∙ ap (λ r. record c { rows = r }) inside.rows; lock = refl } in
      subst (λ own. IsDone (all_executed d [] (settled_if own (with_deed d P (Locks Freed) now (settled_if own u))))) (sym (freed_not_own d))
      (record {
        fine = fine_closed d P start (with_deed d P (Locks Freed) now u) (fine_deed d P (Locks Freed) now start u refl inside.fine) (inl whole);
        whole = whole;
      })

pub repair_leaves : RepairLeaves
repair_leaves d at who of statements c last database partly =
    let inside : Inside d at who of statements c last database partly.first (session_on database) = record {
      fine = record { more = []; entries = refl; last = None; visits = (inr partly, refl, refl); leads = refl };
      begun = refl;
      returns = partly.returns;
      rows = partly.rows;
      by = marked_text partly.is_back who of partly.k;
      lock = partly.lock;
    } in
    let done = loop d at who of statements c last database [] partly.first partly.rest (closing ∷ []) (session_on database) partly.are inside (ends d at who of statements c last database) in (
      done.whole,
      λ front rest now is led.
          let end = all_called d (repair_calls d who of partly.first database) (session_on database) in
          let stands = visits_front d (P d at who of statements c last database) None database front rest done.fine.last end.committed now
          (subst (λ es. Visits d (P d at who of statements c last database) None database es done.fine.last end.committed) (sym done.fine.entries ∙ is) done.fine.visits) led in
          elim stands as (λ _. IsWhole c now ⊎ IsPartly d at who of statements c (last_or last (joined front)) now) [
            | inl whole ↦ inl whole
            | inr more ↦ inr (subst (λ l. IsPartly d at who of statements c l now) (or_last_is (joined front) last) more)
          ],
    )

resumed : (d : Dialect) (at : ℕ) (who : List ℕ) (of : Identity) (statements : List Statement) (c : Contents) (fronts : List Journal) (last : Option Deed) (database : Database) (end : Option Deed) (now : Database)
    → IsWhole c database ⊎ IsPartly d at who of statements c last database → IsMended d at who of statements c last database fronts end now → IsWhole c now ⊎ IsPartly d at who of statements c end now
resumed d at who of statements c [] last database end now stands mended =
    subst (λ l. IsWhole c now ⊎ IsPartly d at who of statements c l now) (sym mended.0) (subst (λ x. IsWhole c x ⊎ IsPartly d at who of statements c last x) (sym mended.1) stands)
resumed d at who of statements c (front ∷ fronts) last database end now stands mended =
    let partly = mended.0 in
    let next = (repair_leaves d at who of statements c last database partly).1 front mended.1 mended.2 mended.3 mended.4 in
    resumed d at who of statements c fronts (last_or last (joined front)) mended.2 end now next mended.5

pub repair_resumes : RepairResumes
repair_resumes d at who of statements c last database fronts end now partly mended =
    elim (resumed d at who of statements c fronts last database end now (inr partly) mended) as (λ _. IsWhole c now ⊎ ((partly : IsPartly d at who of statements c end now) × IsWhole c (left_by d (repair_calls d who of partly.first now) now))) [
      | inl whole ↦ inl whole
      | inr more ↦ inr (more, (repair_leaves d at who of statements c end now more).0)
    ]
