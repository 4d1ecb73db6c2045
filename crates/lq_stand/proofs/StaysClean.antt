-- What any calls leave is clean, and what a stop of them leaves, where each new row is the first of its identity and stands behind all others.
use Rattle.std.proofs.Common.{ap, inl, inr, rules, subst, sym, tests, ◌∙◌}
use Rattle.std.specs.Prelude.{Bool, Err, List, Ok, Result, [], false, nat_lt, not, refl, true, ℕ, ◌++◌, ◌∷◌, ◌≡◌, ◌<◌}
use Rattle.lq_base.specs.declared.dialect.Dialect.{Dialect}
use Rattle.lq_base.specs.declared.reason.Reason.{Reason}
use Rattle.lq_base.specs.declared.tracking.Tracked.{Tracked}
use Rattle.lq_model.proofs.Lists.{and_left, and_right, and_true}
use Rattle.lq_model.specs.Catalogue.{Catalogue}
use Rattle.lq_model.specs.Script.{if_any}
use Rattle.lq_model.specs.Sound.{IsSound}
use Rattle.lq_model.specs.Step.{step}
use Rattle.lq_model.specs.declared.caller.By.TheVariants.{User}
use Rattle.lq_model.specs.declared.statement.Statement.{Statement}
use Rattle.lq_track.specs.Database.{Database, has_twin_rows}
use Rattle.lq_track.specs.Log.{identity_of}
use Rattle.lq_turns.proofs.Journal.{joined_any, joined_both, next}
use Rattle.lq_turns.proofs.Locked.{led_both}
use Rattle.lq_turns.specs.Deed.{contents_of, with_contents, all_done, done, if_accepted, lock_after, rows_after}
use Rattle.lq_turns.specs.Schedule.{StandsFor}
use Rattle.lq_turns.specs.Session.{Session, aborted, accepted, all_called, all_executed, all_executed_as, before, closed, executed, executed_as, is_own, left_by, session_on, settled_if, settled_up}
use Rattle.lq_turns.specs.Set.{has_row}
use Rattle.lq_turns.specs.Settle.{greatest}
use Rattle.lq_turns.specs.Stops.{Journal, joined}
use Rattle.lq_turns.specs.declared.call.Call.{Call}
use Rattle.lq_turns.specs.declared.call.Call.TheVariants.{Abort, Alone, Begin, Commit, Execute}
use Rattle.lq_turns.specs.declared.deed.Deed.{Deed}
use Rattle.lq_turns.specs.declared.deed.Deed.TheVariants.{Locks, Rows, Users}
use Rattle.lq_turns.specs.declared.deed.OnLock.TheVariants.{Freed}
use Rattle.lq_turns.specs.declared.deed.OnRows.{OnRows}
use Rattle.lq_turns.specs.declared.deed.OnRows.TheVariants.{Cleared, Deleted, Filled, Inserted, Renewed, Tagged}
use Rattle.lq_beside.proofs.TablesRead.{not_is}
use Rattle.lq_store.specs.Journal.{names_tracking}
use Rattle.lq_entries.specs.Load.{is_clean_database}
use Rattle.lq_stand.specs.Stays.{calls_are_first, deed_is_first, deeds_are_first, is_first, CallsStayClean, CleanIsFound, IsClean, StopsStayClean}
use Rattle.lq_stand.proofs.Differ.{Adds, differ_after}
use Rattle.lq_stand.proofs.StaysApart.{key_free, names_stay}

ok_same : {A : Type 0} {x y : A} → (let r : Result A Reason = Ok x in r) ≡ Ok y → x ≡ y
ok_same e = Prim.cc

not_ok : {A : Type 0} {r : Reason} {y : A} → (let z : Result A Reason = Err r in z) ≡ Ok y → ⊥
not_ok e = Prim.cc

pub clean_is_found : CleanIsFound
clean_is_found d c database stands clean = ap (is_clean_database d) stands.is ∙ clean

-- a database whose users' objects name no tracking table, and whose rows differ
pub record IsFine (x : Database) : Type 0 where
  pub unnamed : names_tracking x.users ≡ false
  pub differ : has_twin_rows x.rows ≡ false

-- and whose users' objects are sound
pub record IsGood (d : Dialect) (x : Database) : Type 0 where
  pub fine : IsFine x
  pub sound : IsSound d x.users

users_fine : (d : Dialect) (s : Statement) (x now : Database) → done d (Users s) x ≡ Ok now → IsFine x → IsFine now
users_fine d s x now is fine = by (step User d s x.users) refl is where
  by : (q : Result (Catalogue × ℕ) Reason) → step User d s x.users ≡ q → if_accepted (with_contents x) (if_accepted (λ (r : Catalogue × ℕ). record (contents_of x) { users = r.0 }) q) ≡ Ok now → IsFine now
  by (Ok r) made e =
      let it : IsFine (with_contents x (record (contents_of x) { users = r.0 })) = record { unnamed = names_stay d s x.users r.0 r.1 fine.unnamed made; differ = fine.differ } in
      subst IsFine (ok_same e) it
  by (Err reason) made e = absurd (not_ok e)

less : (a b : ℕ) → nat_lt a b ≡ true → a < b
less a b h = search (rules, tests)

adds_of : (w : OnRows) (rows : List Tracked) → is_first w rows ≡ true → Adds w rows
adds_of (Inserted row) rows first = (not_is (has_row rows (identity_of row)) (and_left (not (has_row rows (identity_of row))) _ first), less (greatest rows) row.order (and_right (not (has_row rows (identity_of row))) _ first))
adds_of (Renewed row) rows first = less (greatest rows) row.order first
adds_of (Deleted of) rows first = tt
adds_of (Filled of sum) rows first = tt
adds_of (Tagged of tag) rows first = tt
adds_of Cleared rows first = tt

pub deed_fine : (d : Dialect) (deed : Deed) (x now : Database) → deed_is_first deed x ≡ true → done d deed x ≡ Ok now → IsFine x → IsFine now
deed_fine d (Users s) x now first is fine = users_fine d s x now is fine
deed_fine d (Rows w) x now first is fine = by (rows_after w x.rows) refl is where
  by : (q : Result (List Tracked) Reason) → rows_after w x.rows ≡ q → if_accepted (with_contents x) (if_accepted (λ (rows : List Tracked). record (contents_of x) { rows = rows }) q) ≡ Ok now → IsFine now
  by (Ok rows) made e =
      let it : IsFine (with_contents x (record (contents_of x) { rows = rows })) = record { unnamed = fine.unnamed; differ = differ_after w x.rows rows (adds_of w x.rows first) fine.differ made } in
      subst IsFine (ok_same e) it
  by (Err reason) made e = absurd (not_ok e)
deed_fine d (Locks w) x now first is fine =
    let it : IsFine (with_contents (lock_after w x) (contents_of x)) = record { unnamed = fine.unnamed; differ = fine.differ } in
    subst IsFine (ok_same is) it

pub fine_of : (d : Dialect) (x : Database) → IsClean d x → IsFine x
fine_of d x clean = record {
  unnamed = not_is (names_tracking x.users) (and_left (not (names_tracking x.users)) _ (and_right (not (has_twin_rows x.rows)) _ clean));
  differ = not_is (has_twin_rows x.rows) (and_left (not (has_twin_rows x.rows)) _ clean);
}

pub clean_of : (d : Dialect) (c : Catalogue) (x : Database) → StandsFor d c x → IsFine x → IsClean d x
clean_of d c x stands fine = and_true _ _ (ap not fine.differ) (and_true _ _ (ap not fine.unnamed) (ap not (key_free d x.users stands.names)))

module _ (d : Dialect) where
  -- each of these deeds is such where those before it lead, and they lead to the database
  abbrev Goes : List Deed → Database → Database → Type 0
  Goes [] a b = a ≡ b
  Goes (deed ∷ deeds) a b = (mid : Database) × (deed_is_first deed a ≡ true) × (done d deed a ≡ Ok mid) × Goes deeds mid b

  goes_both : (deeds more : List Deed) (a b c : Database) → Goes deeds a b → Goes more b c → Goes (deeds ++ more) a c
  goes_both [] more a b c first then = subst (λ x. Goes more x c) (sym first) then
  goes_both (deed ∷ deeds) more a b c first then = (first.0, first.1, first.2, goes_both deeds more first.0 b c first.3 then)

  goes_front : (deeds more : List Deed) (a b : Database) → Goes (deeds ++ more) a b → (mid : Database) × Goes deeds a mid
  goes_front [] more a b go = (a, refl)
  goes_front (deed ∷ deeds) more a b go = let rest = goes_front deeds more go.0 b go.3 in (rest.0, (go.0, go.1, go.2, rest.1))

  goes_led : (deeds : List Deed) (a b : Database) → Goes deeds a b → all_done d deeds a ≡ Ok b
  goes_led [] a b go = ap Ok go
  goes_led (deed ∷ deeds) a b go = ap (next d deeds) go.2 ∙ goes_led deeds go.0 b go.3

  goes_fine : (deeds : List Deed) (a b : Database) → Goes deeds a b → IsFine a → IsFine b
  goes_fine [] a b go fine = subst IsFine go fine
  goes_fine (deed ∷ deeds) a b go fine = goes_fine deeds go.0 b go.3 (deed_fine d deed a go.0 go.1 go.2 fine)

  -- the entries lead from the start to what is committed, and what was begun to what is seen
  record Holds (start : Database) (s : Session) : Type 0 where
    committed : Goes (joined s.entries) start s.committed
    seen : Goes s.begun s.committed s.seen

  module _ (start : Database) where
    up : (s : Session) → Holds start s → Holds start (settled_up s)
    up s is = record {
      committed = subst (λ deeds. Goes deeds start s.seen) (sym (joined_both s.entries (if_any s.begun) ∙ ap (λ x. joined s.entries ++ x) (joined_any s.begun))) (goes_both (joined s.entries) s.begun start s.committed s.seen is.committed is.seen);
      seen = refl;
    }

    up_if : (own : Bool) (s : Session) → Holds start s → Holds start (settled_if own s)
    up_if true s is = up s is
    up_if false s is = is

    seen_if : (own : Bool) (s : Session) → (settled_if own s).seen ≡ s.seen
    seen_if true s = refl
    seen_if false s = refl

    with_deed : (deed : Deed) (now : Database) (s : Session) → deed_is_first deed s.seen ≡ true → done d deed s.seen ≡ Ok now → Holds start s → Holds start (record s { seen = now; begun = s.begun ++ deed ∷ [] })
    with_deed deed now s first is holds = record { committed = holds.committed; seen = goes_both s.begun (deed ∷ []) s.committed s.seen now holds.seen (now, first, is, refl) }

    accepts : (deed : Deed) (now : Database) (s : Session) → deed_is_first deed s.seen ≡ true → done d deed s.seen ≡ Ok now → Holds start s → Holds start (accepted d deed now s)
    accepts deed now s first is holds =
        let same = seen_if (is_own d deed) s in
        up_if (is_own d deed) (record (before d deed s) { seen = now; begun = (before d deed s).begun ++ deed ∷ [] })
        (with_deed deed now (before d deed s) (ap (deed_is_first deed) same ∙ first) (ap (done d deed) same ∙ is) (up_if (is_own d deed) s holds))

    gives_up : (s : Session) → Holds start s → Holds start (aborted s)
    gives_up s holds = record { committed = holds.committed; seen = refl }

    closes : (s : Session) → Holds start s → Holds start (closed s)
    closes s holds = let it = up s holds in record { committed = it.committed; seen = it.seen }

    executes : (deed : Deed) (s : Session) → deed_is_first deed s.seen ≡ true → Holds start s → Holds start (executed d deed s)
    executes deed s first holds = (elim (done d deed s.seen) as (λ q. done d deed s.seen ≡ q → Holds start (executed_as d deed s q)) [
      | Ok now ↦ λ is. accepts deed now s first is holds
      | Err reason ↦ λ is. up_if (is_own d deed) s holds
    ]) refl

    seen_after : (deed : Deed) (now : Database) (s : Session) → (accepted d deed now s).seen ≡ now
    seen_after deed now s = seen_if (is_own d deed) (record (before d deed s) { seen = now; begun = (before d deed s).begun ++ deed ∷ [] })

    abbrev first_next : List Deed → Result Database Reason → Bool
    first_next deeds q = elim q as (λ _. Bool) [ Ok x ↦ deeds_are_first d deeds x | Err reason ↦ true ]

    executes_all : (deeds : List Deed) (s : Session) → deeds_are_first d deeds s.seen ≡ true → Holds start s → Holds start (all_executed d deeds s)
    executes_all [] s first holds = closes s holds
    executes_all (deed ∷ deeds) s first holds = (elim (done d deed s.seen) as (λ q. done d deed s.seen ≡ q → first_next deeds q ≡ true → Holds start (all_executed_as d deed s (all_executed d deeds) q)) [
      | Ok now ↦ λ is rest. executes_all deeds (accepted d deed now s) (ap (deeds_are_first d deeds) (seen_after deed now s) ∙ rest) (accepts deed now s (and_left (deed_is_first deed s.seen) _ first) is holds)
      | Err reason ↦ λ is rest. gives_up (before d deed s) (up_if (is_own d deed) s holds)
    ]) refl (and_right (deed_is_first deed s.seen) _ first)

    calls_hold : (calls : List Call) (s : Session) → calls_are_first d calls s ≡ true → Holds start s → Holds start (all_called d calls s)
    calls_hold [] s first holds = holds
    calls_hold (Alone deeds room ∷ calls) s first holds =
        calls_hold calls (all_executed d deeds s) (and_right (deeds_are_first d deeds s.seen) _ first) (executes_all deeds s (and_left (deeds_are_first d deeds s.seen) _ first) holds)
    calls_hold (Begin ∷ calls) s first holds = calls_hold calls (record s { is_open = true }) first (record { committed = holds.committed; seen = holds.seen })
    calls_hold (Execute deed ∷ calls) s first holds =
        calls_hold calls (executed d deed s) (and_right (deed_is_first deed s.seen) _ first) (executes deed s (and_left (deed_is_first deed s.seen) _ first) holds)
    calls_hold (Commit ∷ calls) s first holds = calls_hold calls (closed s) first (closes s holds)
    calls_hold (Abort ∷ calls) s first holds = calls_hold calls (aborted s) first (gives_up s holds)

  module _ (calls : List Call) (database : Database) (first : calls_are_first d calls (session_on database) ≡ true) (fine : IsFine database) where
    all_go : Goes (joined (all_called d calls (session_on database)).entries) database (left_by d calls database)
    all_go = (calls_hold database calls (session_on database) first (record { committed = refl; seen = refl })).committed

    left_fine : IsFine (left_by d calls database)
    left_fine = goes_fine (joined (all_called d calls (session_on database)).entries) database (left_by d calls database) all_go fine

    -- where a front of the entries leads
    front_fine : (front rest : Journal) (now : Database) → (all_called d calls (session_on database)).entries ≡ front ++ rest → all_done d (joined front) database ≡ Ok now → IsFine now
    front_fine front rest now is led =
        let some = goes_front (joined front) (joined rest) database (left_by d calls database) (subst (λ deeds. Goes deeds database (left_by d calls database)) (ap joined is ∙ joined_both front rest) all_go) in
        subst IsFine (ok_same (sym (goes_led (joined front) database some.0 some.1) ∙ led)) (goes_fine (joined front) database some.0 some.1 fine)

pub calls_stay_clean : CallsStayClean
calls_stay_clean d calls database c clean first stands = clean_of d c (left_by d calls database) stands (left_fine d calls database first (fine_of d database clean))

pub stops_stay_clean : StopsStayClean
stops_stay_clean d calls database now written c clean first left led stands = clean_of d c now stands (elim left.is as (λ _. IsFine now) [
  | inl same ↦ front_fine d calls database first fine left.front left.rest now left.entries (subst (λ (es : Journal). all_done d (joined es) database ≡ Ok now) same led)
  | inr closed ↦
      let parts = led_both d left.front ((Locks Freed ∷ []) ∷ []) database now (subst (λ (es : Journal). all_done d (joined es) database ≡ Ok now) closed.0 led) in
      deed_fine d (Locks Freed) parts.0 now refl parts.2 (front_fine d calls database first fine left.front left.rest parts.0 left.entries parts.1)
]) where
  fine : IsFine database
  fine = fine_of d database clean
