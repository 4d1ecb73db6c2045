-- The databases that the calls of a turn commit, one after another.
use Rattle.std.proofs.Common.{ap, subst, sym, ◌∙◌}
use Rattle.std.proofs.lemmas.List.{append_assoc}
use Rattle.std.specs.Prelude.{Bool, Err, List, None, Ok, Option, Result, Some, [], false, refl, true, ℕ, ◌++◌, ◌∷◌, ◌≡◌}
use Rattle.std.specs.List.{last_or}
use Rattle.lq_base.specs.declared.dialect.Dialect.{Dialect}
use Rattle.lq_base.specs.declared.reason.Reason.{Reason}
use Rattle.lq_base.specs.declared.tracking.Tracked.{Tracked}
use Rattle.lq_model.specs.Catalogue.{Catalogue}
use Rattle.lq_model.specs.Script.{if_any}
use Rattle.lq_model.specs.Step.{run, step}
use Rattle.lq_model.specs.declared.caller.By.TheVariants.{User}
use Rattle.lq_model.specs.declared.statement.Statement.{Statement}
use Rattle.lq_track.specs.Database.{Database}
use Rattle.lq_turns.specs.Deed.{Contents, contents_of, with_contents, all_done, contents_after, done, if_accepted, locked_after, rows_after}
use Rattle.lq_turns.specs.Session.{Session, aborted, all_called, closed, executed_as, is_own, settled_if, settled_up}
use Rattle.lq_turns.specs.Stops.{Journal, joined}
use Rattle.lq_turns.specs.declared.call.Call.{Call}
use Rattle.lq_turns.specs.declared.call.Call.TheVariants.{Execute}
use Rattle.lq_turns.specs.declared.deed.Deed.{Deed}
use Rattle.lq_turns.specs.declared.turn.Turn.{Turn}
use Rattle.lq_turns.specs.Turn.{Course, Ending, Finished, Stuck, Through, ending, is_marked, kept, led_by, made, made_on, refused, row_ending, course}
use Rattle.lq_turns.proofs.Effects.{course_through, ok_same}
use Rattle.lq_turns.proofs.Entered.{is_finished}
use Rattle.lq_turns.proofs.Journal.{done_both, next, same_ok}

pub last_or_both : (o : Option Deed) (xs ys : List Deed) → last_or o (xs ++ ys) ≡ last_or (last_or o xs) ys
last_or_both o [] ys = refl
last_or_both o (x ∷ xs) ys = last_or_both (Some x) xs ys

pub last_or_push : (o : Option Deed) (xs : List Deed) (x : Deed) → last_or o (xs ++ x ∷ []) ≡ Some x
last_or_push o xs x = last_or_both o xs (x ∷ [])

module _ (d : Dialect) (P : Option Deed → Database → Type 0) where
  -- The entries lead from one database to another, and each that is passed has the property, which is asked of the last deed before it too.
  abbrev pub Visits : Option Deed → Database → Journal → Option Deed → Database → Type 0
  Visits o database [] p last = P o database × (o ≡ p) × (database ≡ last)
  Visits o database (deeds ∷ entries) p last = P o database × ((now : Database) × (all_done d deeds database ≡ Ok now) × Visits (last_or o deeds) now entries p last)

  pub visits_both : (o : Option Deed) (database : Database) (entries more : Journal) (q : Option Deed) (mid : Database) (p : Option Deed) (last : Database) → Visits o database entries q mid → Visits q mid more p last → Visits o database (entries ++ more) p last
  visits_both o database [] more q mid p last first second = subst (λ x. Visits o x more p last) (sym first.2) (subst (λ z. Visits z mid more p last) (sym first.1) second)
  visits_both o database (deeds ∷ entries) more q mid p last first second = (first.0, (first.1.0, first.1.1, visits_both (last_or o deeds) first.1.0 entries more q mid p last first.1.2 second))

  pub visits_front : (o : Option Deed) (database : Database) (front rest : Journal) (p : Option Deed) (last now : Database) → Visits o database (front ++ rest) p last → all_done d (joined front) database ≡ Ok now → P (last_or o (joined front)) now
  visits_front o database [] [] p last now v led = subst (P o) (same_ok d led) v.0
  visits_front o database [] (e ∷ rest) p last now v led = subst (P o) (same_ok d led) v.0
  visits_front o database (deeds ∷ front) rest p last now v led =
      let parts = done_both d deeds (joined front) database in
      subst (λ l. P l now) (sym (last_or_both o deeds (joined front)))
      (visits_front (last_or o deeds) v.1.0 front rest p last now v.1.2 (sym (ap (next d (joined front)) v.1.1) ∙ sym parts ∙ led))

  pub visits_last : (o : Option Deed) (database : Database) (entries : Journal) (p : Option Deed) (last : Database) → Visits o database entries p last → P p last
  visits_last o database [] p last v = subst (λ l. P l last) v.1 (subst (P o) v.2 v.0)
  visits_last o database (deeds ∷ entries) p last v = visits_last (last_or o deeds) v.1.0 entries p last v.1.2

  -- from one session to another, each database that is committed has the property
  pub record Fine (s t : Session) : Type 0 where
    pub more : Journal
    pub entries : t.entries ≡ s.entries ++ more
    -- the last deed that was committed
    pub last : Option Deed
    pub visits : Visits None s.committed more last t.committed
    pub leads : all_done d t.begun t.committed ≡ Ok t.seen

  pub any_visits : (o : Option Deed) (deeds : List Deed) (database now : Database) → all_done d deeds database ≡ Ok now → P o database → P (last_or o deeds) now → Visits o database (if_any deeds) (last_or o deeds) now
  any_visits o [] database now led p q = (p, refl, same_ok d led)
  any_visits o (deed ∷ deeds) database now led p q = (p, (now, led, (q, refl, refl)))

  abbrev pub fine_up : (s t : Session) (fine : Fine s t) → P (last_or fine.last t.begun) t.seen → Fine s (settled_up t)
  fine_up s t fine p = record {
    more = fine.more ++ if_any t.begun;
    entries = ap (λ es. es ++ if_any t.begun) fine.entries ∙ append_assoc s.entries fine.more (if_any t.begun);
    last = last_or fine.last t.begun;
    visits = visits_both None s.committed fine.more (if_any t.begun) fine.last t.committed (last_or fine.last t.begun) t.seen fine.visits (any_visits fine.last t.begun t.committed t.seen fine.leads (visits_last None s.committed fine.more fine.last t.committed fine.visits) p);
    leads = refl;
  }

  abbrev pub fine_closed : (s t : Session) (fine : Fine s t) → P (last_or fine.last t.begun) t.seen → Fine s (closed t)
  fine_closed s t fine p = let it = fine_up s t fine p in record { more = it.more; entries = it.entries; last = it.last; visits = it.visits; leads = refl }

  abbrev pub fine_aborted : (s t : Session) → Fine s t → Fine s (aborted t)
  fine_aborted s t fine = record { more = fine.more; entries = fine.entries; last = fine.last; visits = fine.visits; leads = refl }

  abbrev pub fine_open : (s t : Session) → Fine s t → Fine s (record t { is_open = true })
  fine_open s t fine = record { more = fine.more; entries = fine.entries; last = fine.last; visits = fine.visits; leads = fine.leads }

  -- a deed that commits nothing
  abbrev pub with_deed : Deed → Database → Session → Session
  with_deed deed now t = record t { seen = now; begun = t.begun ++ deed ∷ [] }

  abbrev pub fine_deed : (deed : Deed) (now : Database) (s t : Session) → done d deed t.seen ≡ Ok now → Fine s t → Fine s (with_deed deed now t)
  fine_deed deed now s t is fine = record {
    more = fine.more;
    entries = fine.entries;
    last = fine.last;
    visits = fine.visits;
    leads = done_both d t.begun (deed ∷ []) t.committed ∙ ap (next d (deed ∷ [])) fine.leads ∙ ap (next d []) is;
  }

-- a deed, and what is made after it

module _ (d : Dialect) where
  pub deed_taken : (deed : Deed) (calls : List Call) (s : Session) (Q : Session → Type 0) (own : Bool) → is_own d deed ≡ own
      → ((now : Contents) → contents_after d deed (contents_of s.seen) ≡ Ok now
      → Q (all_called d (made d calls now) (settled_if own (record (settled_if own s) { seen = with_contents (locked_after deed s.seen) now; begun = (settled_if own s).begun ++ deed ∷ [] }))))
      → ((reason : Reason) → contents_after d deed (contents_of s.seen) ≡ Err reason → Q (aborted (settled_if own s)))
      → Q (all_called d (made d (Execute deed ∷ calls) (contents_of s.seen)) s)
  deed_taken deed calls s Q own is accept refuse = (elim (contents_after d deed (contents_of s.seen)) as (λ r. contents_after d deed (contents_of s.seen) ≡ r → Q (all_called d (made_on (made d calls) r) (executed_as d deed s (if_accepted (with_contents (locked_after deed s.seen)) r)))) [
    | Ok now ↦ λ at. subst (λ b. Q (all_called d (made d calls now) (settled_if b (record (settled_if b s) { seen = with_contents (locked_after deed s.seen) now; begun = (settled_if b s).begun ++ deed ∷ [] })))) (sym is) (accept now at)
    | Err reason ↦ λ at. subst (λ b. Q (aborted (settled_if b s))) (sym is) (refuse reason at)
  ]) refl

-- how a turn ends

abbrev course_by : Dialect → Statement → List Statement → Result (Catalogue × ℕ) Reason → Course
course_by d s ss (Ok r) = led_by s (course d ss r.0)
course_by d s ss (Err reason) = Stuck [] s reason

not_ok_is : {A : Type 0} {r : Reason} {y : Catalogue} → (let z : Result Catalogue Reason = Err r in z) ≡ Ok y → A
not_ok_is e = Prim.cc

course_stuck : (d : Dialect) (first : List Statement) (s : Statement) (rest : List Statement) (c b : Catalogue) (reason : Reason) → run User d first c ≡ Ok b → step User d s b ≡ Err reason → course d (first ++ s ∷ rest) c ≡ Stuck first s reason
course_stuck d [] s rest c b reason ran is = ap (course_by d s rest) (ap (step User d s) (ok_same ran) ∙ is)
course_stuck d (x ∷ first) s rest c b reason ran is = (elim (step User d x c) as (λ q. elim q as (λ _. Result Catalogue Reason) [ Ok r ↦ run User d first r.0 | Err why ↦ Err why ] ≡ Ok b → course_by d x (first ++ s ∷ rest) q ≡ Stuck (x ∷ first) s reason) [
  | Ok r ↦ λ go. ap (led_by x) (course_stuck d first s rest r.0 b reason go is)
  | Err why ↦ λ go. not_ok_is go
]) ran

module _ (d : Dialect) (turn : Turn) (c : Contents) where
  abbrev ended_by : Course → Ending
  ended_by (Through users) = row_ending d turn users c
  ended_by (Stuck first s reason) = refused d first (kept d turn first (is_marked d turn s)) reason c

  pub ends_stuck : (first : List Statement) (s : Statement) (rest : List Statement) (b : Catalogue) (reason : Reason) → turn.statements ≡ first ++ s ∷ rest → run User d first c.users ≡ Ok b → step User d s b ≡ Err reason → is_finished (ending d turn c) ≡ false
  ends_stuck first s rest b reason are ran is = ap (λ q. is_finished (ended_by q)) (ap (λ ss. course d ss c.users) are ∙ course_stuck d first s rest c.users b reason ran is)

  abbrev row_by : Catalogue → Result (List Tracked) Reason → Ending
  row_by users (Ok rows) = Finished (record { users = users; rows = rows })
  row_by users (Err reason) = refused d turn.statements (kept d turn turn.statements false) reason c

  pub ends_by_row : (users : Catalogue) (r : Result (List Tracked) Reason) → run User d turn.statements c.users ≡ Ok users → rows_after turn.row c.rows ≡ r → ending d turn c ≡ row_by users r
  ends_by_row users r ran is = ap ended_by (course_through d turn.statements c.users users ran) ∙ ap (row_by users) is
