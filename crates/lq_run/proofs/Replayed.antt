-- What a stop of calls leaves, run again from the beginning, leads to a database.
use Rattle.std.proofs.Common.{ap, arith, inl, inr, refl, subst, sym, ◌∙◌}
use Rattle.std.proofs.lemmas.Bool.{leb-true}
use Rattle.std.proofs.lemmas.List.{append-nil, append_assoc, map-append}
use Rattle.std.specs.Option.{option_and_then}
use Rattle.std.specs.Prelude.{Bool, Err, List, None, Ok, Option, Result, Some, [], false, if◌then◌else◌, nat_le, true, ℕ, ◌<◌, ◌^◌, ◌++◌, ◌∷◌, ◌≡◌, ◌≤◌, ◌⊎◌}
use Rattle.lq_base.specs.declared.dialect.Dialect.{Dialect}
use Rattle.lq_base.specs.declared.reason.Reason.{Reason}
use Rattle.lq_base.specs.declared.reason.Reason.TheVariants.{TooWide}
use Rattle.lq_beside.proofs.AllTold.{statements_tell}
use Rattle.lq_beside.proofs.OtherFits.{release_fits}
use Rattle.lq_beside.specs.Replays.{calls_fit}
use Rattle.lq_model.proofs.Lists.{and_left, and_right}
use Rattle.lq_model.proofs.ProgramMay.{by_program}
use Rattle.lq_model.specs.Catalogue.{Catalogue, no_objects}
use Rattle.lq_model.specs.Script.{if_any}
use Rattle.lq_model.specs.SqlText.{statement_in}
use Rattle.lq_model.specs.Step.{is_statement, step}
use Rattle.lq_model.specs.declared.caller.By.TheVariants.{Program}
use Rattle.lq_statement.specs.Laws.{StatementsReadBack}
use Rattle.lq_store.specs.Journal.{Entry, accepted as accepted_by, database as run_to, run_entries, run_entry, run_text, run_texts}
use Rattle.lq_track.specs.Database.{Database}
use Rattle.lq_turns.proofs.Growing.{fronts_are_left}
use Rattle.lq_turns.proofs.Journal.{calls_lead, done_both, joined_both, next, same_ok}
use Rattle.lq_turns.specs.Deed.{contents_of, with_contents, all_done, done, has_place, if_accepted, lock_after, made_of}
use Rattle.lq_turns.specs.Schedule.{Agrees, StandsFor, all_fit, fits}
use Rattle.lq_turns.specs.Script.{closing, release_calls}
use Rattle.lq_turns.specs.Session.{Session, aborted, accepted, all_called, all_executed, all_executed_as, before, called, closed, executed, executed_as, is_own, session_on, settled_if, settled_up}
use Rattle.lq_turns.specs.Stops.{IsLeft, Journal, has_mark, joined}
use Rattle.lq_turns.specs.declared.call.Call.{Call}
use Rattle.lq_turns.specs.declared.call.Call.TheVariants.{Abort, Alone, Begin, Commit, Execute}
use Rattle.lq_turns.specs.declared.deed.Deed.{Deed}
use Rattle.lq_turns.specs.declared.deed.Deed.TheVariants.{Locks, Rows, Users}
use Rattle.lq_turns.specs.declared.deed.OnLock.TheVariants.{Freed, LockMade, LockRowMade, LogMade, Marked, Taken}
use Rattle.lq_turns.specs.declared.deed.OnRows.TheVariants.{Cleared, Deleted, Filled, Inserted, Renewed, Tagged}
use Rattle.lq_run.proofs.Grows.{closing_entry}
use Rattle.lq_run.proofs.Stated.{stated_again, stated_cleared, stated_deleted, stated_filled, stated_freed, stated_inserted, stated_lock, stated_lock_row, stated_log, stated_marked, stated_tagged, stated_taken}
use Rattle.lq_run.specs.Crashes.{LeftInCommand}
use Rattle.lq_run.specs.Ends.{CameFrom, IsBefore}
use Rattle.lq_run.specs.Left.{ClosesHeld, HasClosing}
use Rattle.lq_run.specs.Stands.{deed_text, entries_of, entry_of, entry_texts}

err_ok : {A B : Type 0} {reason : Reason} {x : A} → (let r : Result A Reason = Err reason in r) ≡ Ok x → B
err_ok e = absurd (clash e) where
  clash : {A : Type 0} {reason : Reason} {x : A} → (let r : Result A Reason = Err reason in r) ≡ Ok x → ⊥
  clash e = Prim.cc

some_same : {A : Type 0} {x y : A} → (let o : Option A = Some x in o) ≡ Some y → x ≡ y
some_same e = Prim.cc

none_some : {A B : Type 0} {x : A} → (let o : Option A = None in o) ≡ Some x → B
none_some e = absurd (clash e) where
  clash : {A : Type 0} {x : A} → (let o : Option A = None in o) ≡ Some x → ⊥
  clash e = Prim.cc

-- a row that goes in has a place of 31 bits

in_bits : (n : ℕ) → nat_le n 2147483647 ≡ true → n < 2 ^ 32
in_bits n is = let few : n ≤ 2147483647 = leb-true n 2147483647 is in omega arith

goes_in : {A B C : Type 0} (f : B → C) (g : A → B) (b : Bool) (r : Result A Reason) (now : C) → if_accepted f (if_accepted g (if b then r else Err TooWide)) ≡ Ok now → b ≡ true
goes_in f g true r now is = refl
goes_in f g false r now is = err_ok is

module _ (d : Dialect) where
  -- a deed that fits and is done has a statement of the dialect
  is_stated : (deed : Deed) (a b : Database) → fits d deed a ≡ true → done d deed a ≡ Ok b → is_statement d (made_of d deed).1 ≡ true
  is_stated (Users s) a b fit is = fit
  is_stated (Rows (Inserted row)) a b fit is = stated_inserted d row (in_bits row.order (goes_in _ _ (has_place row) _ b is))
  is_stated (Rows (Renewed row)) a b fit is = stated_again d row (in_bits row.order (goes_in _ _ (has_place row) _ b is))
  is_stated (Rows (Deleted of)) a b fit is = stated_deleted d of
  is_stated (Rows (Filled of sum)) a b fit is = stated_filled d of sum
  is_stated (Rows (Tagged of tag)) a b fit is = stated_tagged d of tag
  is_stated (Rows Cleared) a b fit is = stated_cleared d
  is_stated (Locks LogMade) a b fit is = stated_log d
  is_stated (Locks LockMade) a b fit is = stated_lock d
  is_stated (Locks LockRowMade) a b fit is = stated_lock_row d
  is_stated (Locks (Taken at by)) a b fit is = stated_taken d _ by
  is_stated (Locks (Marked by)) a b fit is = stated_marked d by
  is_stated (Locks Freed) a b fit is = stated_freed d

  -- the deeds fit, each is done, and they lead from a database to another
  abbrev Goes : List Deed → Database → Database → Type 0
  Goes [] a b = a ≡ b
  Goes (deed ∷ deeds) a b = (mid : Database) × (fits d deed a ≡ true) × (done d deed a ≡ Ok mid) × Goes deeds mid b

  goes_both : (deeds more : List Deed) (a b c : Database) → Goes deeds a b → Goes more b c → Goes (deeds ++ more) a c
  goes_both [] more a b c first second = subst (λ x. Goes more x c) (sym first) second
  goes_both (deed ∷ deeds) more a b c first second = (first.0, first.1, first.2, goes_both deeds more first.0 b c first.3 second)

  goes_done : (deeds : List Deed) (a b : Database) → Goes deeds a b → all_done d deeds a ≡ Ok b
  goes_done [] a b go = ap Ok go
  goes_done (deed ∷ deeds) a b go = ap (next d deeds) go.2 ∙ goes_done deeds go.0 b go.3

  -- so those of entries
  abbrev AllGo : Journal → Database → Database → Type 0
  AllGo [] a b = a ≡ b
  AllGo (deeds ∷ entries) a b = (mid : Database) × Goes deeds a mid × AllGo entries mid b

  all_both : (entries more : Journal) (a b c : Database) → AllGo entries a b → AllGo more b c → AllGo (entries ++ more) a c
  all_both [] more a b c first second = subst (λ x. AllGo more x c) (sym first) second
  all_both (deeds ∷ entries) more a b c first second = (first.0, first.1, all_both entries more first.0 b c first.2 second)

  all_go_done : (entries : Journal) (a b : Database) → AllGo entries a b → all_done d (joined entries) a ≡ Ok b
  all_go_done [] a b go = ap Ok go
  all_go_done (deeds ∷ entries) a b go = done_both d deeds (joined entries) a ∙ ap (next d (joined entries)) (goes_done deeds a go.0 go.1) ∙ all_go_done entries go.0 b go.2

  -- a front of them
  record Parted (front rest : Journal) (a b : Database) : Type 0 where
    mid : Database
    first : AllGo front a mid
    second : AllGo rest mid b

  all_parted : (front rest : Journal) (a b : Database) → AllGo (front ++ rest) a b → Parted front rest a b
  all_parted [] rest a b go = record { mid = a; first = refl; second = go }
  all_parted (deeds ∷ front) rest a b go =
      let more = all_parted front rest go.0 b go.2 in
      record { mid = more.mid; first = (go.0, go.1, more.first); second = more.second }

  -- what is begun becomes an entry
  all_settled : (begun : List Deed) (entries : Journal) (a b c : Database) → AllGo entries a b → Goes begun b c → AllGo (entries ++ if_any begun) a c
  all_settled [] entries a b c all go = subst (λ es. AllGo es a c) (sym (append-nil entries)) (subst (AllGo entries a) go all)
  all_settled (deed ∷ begun) entries a b c all go = all_both entries ((deed ∷ begun) ∷ []) a b c all (c, go, refl)

  -- the entries of a session lead from the start to what is committed, and what was begun to what is seen
  record Holds (start : Database) (s : Session) : Type 0 where
    committed : AllGo s.entries start s.committed
    seen : Goes s.begun s.committed s.seen

  module _ (start : Database) where
    up : (s : Session) → Holds start s → Holds start (settled_up s)
    up s is = record { committed = all_settled s.begun s.entries start s.committed s.seen is.committed is.seen; seen = refl }

    up_if : (own : Bool) (s : Session) → Holds start s → Holds start (settled_if own s)
    up_if true s is = up s is
    up_if false s is = is

    seen_if : (own : Bool) (s : Session) → (settled_if own s).seen ≡ s.seen
    seen_if true s = refl
    seen_if false s = refl

    with_deed : (deed : Deed) (now : Database) (s : Session) → fits d deed s.seen ≡ true → done d deed s.seen ≡ Ok now → Holds start s → Holds start (record s { seen = now; begun = s.begun ++ deed ∷ [] })
    with_deed deed now s fit is holds = record { committed = holds.committed; seen = goes_both s.begun (deed ∷ []) s.committed s.seen now holds.seen (now, fit, is, refl) }

    accepts : (deed : Deed) (now : Database) (s : Session) → fits d deed s.seen ≡ true → done d deed s.seen ≡ Ok now → Holds start s → Holds start (accepted d deed now s)
    accepts deed now s fit is holds =
        let first = up_if (is_own d deed) s holds in
        let same = seen_if (is_own d deed) s in
        up_if (is_own d deed) (record (before d deed s) { seen = now; begun = (before d deed s).begun ++ deed ∷ [] }) (with_deed deed now (before d deed s) (ap (fits d deed) same ∙ fit) (ap (done d deed) same ∙ is) first)

    gives_up : (s : Session) → Holds start s → Holds start (aborted s)
    gives_up s holds = record { committed = holds.committed; seen = refl }

    closes : (s : Session) → Holds start s → Holds start (closed s)
    closes s holds = let it = up s holds in record { committed = it.committed; seen = it.seen }

    executes : (deed : Deed) (s : Session) → fits d deed s.seen ≡ true → Holds start s → Holds start (executed d deed s)
    executes deed s fit holds = (elim (done d deed s.seen) as (λ q. done d deed s.seen ≡ q → Holds start (executed_as d deed s q)) [
      | Ok now ↦ λ is. accepts deed now s fit is holds
      | Err reason ↦ λ is. up_if (is_own d deed) s holds
    ]) refl

    seen_after : (deed : Deed) (now : Database) (s : Session) → (accepted d deed now s).seen ≡ now
    seen_after deed now s = seen_if (is_own d deed) (record (before d deed s) { seen = now; begun = (before d deed s).begun ++ deed ∷ [] })

    abbrev all_next : List Deed → Result Database Reason → Bool
    all_next deeds q = elim q as (λ _. Bool) [ Ok x ↦ all_fit d deeds x | Err reason ↦ true ]

    executes_all : (deeds : List Deed) (s : Session) → all_fit d deeds s.seen ≡ true → Holds start s → Holds start (all_executed d deeds s)
    executes_all [] s fit holds = closes s holds
    executes_all (deed ∷ deeds) s fit holds = (elim (done d deed s.seen) as (λ q. done d deed s.seen ≡ q → all_next deeds q ≡ true → Holds start (all_executed_as d deed s (all_executed d deeds) q)) [
      | Ok now ↦ λ is rest. executes_all deeds (accepted d deed now s) (ap (all_fit d deeds) (seen_after deed now s) ∙ rest) (accepts deed now s (and_left (fits d deed s.seen) _ fit) is holds)
      | Err reason ↦ λ is rest. gives_up (before d deed s) (up_if (is_own d deed) s holds)
    ]) refl (and_right (fits d deed s.seen) _ fit)

    calls_hold : (calls : List Call) (s : Session) → calls_fit d calls s ≡ true → Holds start s → Holds start (all_called d calls s)
    calls_hold [] s fit holds = holds
    calls_hold (Alone deeds room ∷ calls) s fit holds = calls_hold calls (all_executed d deeds s) (and_right (all_fit d deeds s.seen) _ fit) (executes_all deeds s (and_left (all_fit d deeds s.seen) _ fit) holds)
    calls_hold (Begin ∷ calls) s fit holds = calls_hold calls (record s { is_open = true }) fit (record { committed = holds.committed; seen = holds.seen })
    calls_hold (Execute deed ∷ calls) s fit holds = calls_hold calls (executed d deed s) (and_right (fits d deed s.seen) _ fit) (executes deed s (and_left (fits d deed s.seen) _ fit) holds)
    calls_hold (Commit ∷ calls) s fit holds = calls_hold calls (closed s) fit (closes s holds)
    calls_hold (Abort ∷ calls) s fit holds = calls_hold calls (aborted s) fit (gives_up s holds)

-- the texts, run as the program's

run_more : (d : Dialect) (es fs : List Entry) (o : Option Catalogue) → run_entries d (es ++ fs) o ≡ run_entries d fs (run_entries d es o)
run_more d [] fs o = refl
run_more d (e ∷ es) fs o = run_more d es fs (run_entry d e o)

run_both : (d : Dialect) (es fs : List Entry) (a : Option Catalogue) (c : Catalogue) → run_entries d es a ≡ Some c → run_entries d (es ++ fs) a ≡ run_entries d fs (Some c)
run_both d es fs a c ran = run_more d es fs a ∙ ap (run_entries d fs) ran

-- from a catalogue to one that stands for the database
abbrev RunsTo : Dialect → Option Catalogue → Database → Type 0
RunsTo d ran now = (e : Catalogue) × (ran ≡ Some e) × StandsFor d e now

module _ (read : StatementsReadBack) (d : Dialect) where
  deed_runs : (deed : Deed) (a b : Database) (c : Catalogue) → fits d deed a ≡ true → done d deed a ≡ Ok b → StandsFor d c a → RunsTo d (run_text d (deed_text d deed) c) b
  deed_runs deed a b c fit is stands = by (done d deed a) (step (made_of d deed).0 d (made_of d deed).1 c) refl is (statements_tell d deed c a stands fit) where
    back : statement_in d (deed_text d deed) ≡ Some (made_of d deed).1
    back = read d (made_of d deed).1 (is_stated d deed a b fit is)

    by : (q : Result Database Reason) (r : Result (Catalogue × ℕ) Reason) → step (made_of d deed).0 d (made_of d deed).1 c ≡ r → q ≡ Ok b → Agrees d q r → RunsTo d (run_text d (deed_text d deed) c) b
    by (Ok now) (Ok x) ran same agrees = (
      x.0,
      ap (option_and_then (λ s. accepted_by (step Program d s c))) back ∙ ap accepted_by (by_program (made_of d deed).0 d (made_of d deed).1 c x ran),
      subst (StandsFor d x.0) (same_ok d same) agrees,
    )
    by (Ok now) (Err other) ran same agrees = absurd agrees
    by (Err reason) r ran same agrees = err_ok same

  deeds_run : (deeds : List Deed) (a b : Database) (c : Catalogue) → Goes d deeds a b → StandsFor d c a → RunsTo d (run_texts d (entry_texts d deeds) c) b
  deeds_run [] a b c go stands = (c, refl, subst (StandsFor d c) go stands)
  deeds_run (deed ∷ deeds) a b c go stands =
      let first = deed_runs deed a go.0 c go.1 go.2 stands in
      let more = deeds_run deeds go.0 b first.0 go.3 first.2 in
      (more.0, ap (option_and_then (run_texts d (entry_texts d deeds))) first.1 ∙ more.1, more.2)

  entries_run : (entries : Journal) (a b : Database) (c : Catalogue) → AllGo d entries a b → StandsFor d c a → RunsTo d (run_entries d (entries_of d entries) (Some c)) b
  entries_run [] a b c go stands = (c, refl, subst (StandsFor d c) go stands)
  entries_run (deeds ∷ entries) a b c go stands =
      let first = deeds_run deeds a go.0 c go.1 stands in
      let more = entries_run entries go.0 b first.0 go.2 first.2 in
      (more.0, ap (run_entries d (entries_of d entries)) first.1 ∙ more.1, more.2)

abbrev freed : Journal
freed = (Locks Freed ∷ []) ∷ []

-- a front of what ends with one more is all of it, or a front of what stands before

head_is : {A : Type 0} {x y : A} {xs ys : List A} → x ∷ xs ≡ y ∷ ys → x ≡ y
head_is h = Prim.cc

tail_is : {A : Type 0} {x y : A} {xs ys : List A} → x ∷ xs ≡ y ∷ ys → xs ≡ ys
tail_is h = Prim.cc

nil_cons : {A : Type 0} {x : A} {xs : List A} → (let l : List A = [] in l) ≡ x ∷ xs → ⊥
nil_cons h = Prim.cc

abbrev IsCut : {A : Type 0} → List A → A → List A → Type 0
IsCut {A} xs x ys = (ys ≡ xs ++ x ∷ []) ⊎ ((more : List A) × (xs ≡ ys ++ more))

only_one : {A : Type 0} (x y : A) (ys zs : List A) → x ≡ y → [] ≡ ys ++ zs → IsCut [] x (y ∷ ys)
only_one x y [] zs same none = inl (ap (λ z. z ∷ []) (sym same))
only_one x y (other ∷ ys) zs same none = absurd (nil_cons none)

one_more : {A : Type 0} (a x y : A) (xs ys : List A) → a ≡ y → IsCut xs x ys → IsCut (a ∷ xs) x (y ∷ ys)
one_more a x y xs ys same (inl all) = inl (ap (λ z. z ∷ ys) (sym same) ∙ ap (λ zs. a ∷ zs) all)
one_more a x y xs ys same (inr front) = inr (front.0, ap (λ z. z ∷ xs) same ∙ ap (λ zs. y ∷ zs) front.1)

cut_last : {A : Type 0} (xs : List A) (x : A) (ys zs : List A) → xs ++ x ∷ [] ≡ ys ++ zs → IsCut xs x ys
cut_last xs x [] zs is = inr (xs, refl)
cut_last [] x (y ∷ ys) zs is = only_one x y ys zs (head_is is) (tail_is is)
cut_last (a ∷ xs) x (y ∷ ys) zs is = one_more a x y xs ys (head_is is) (cut_last xs x ys zs (tail_is is))

-- a store to which nothing was written
pub none_in : (d : Dialect) (calls : List Call) (database : Database) (there : List Entry) → LeftInCommand d calls database there there
none_in d calls database there = record {
  written = [];
  stops = fronts_are_left d calls database [] [] (all_called d calls (session_on database)).entries refl;
  closes = inl ((all_called d calls (session_on database)).entries, refl);
  is = sym (append-nil there);
  now = database;
  led = refl;
  replays = λ c ran stands. (c, ran, stands);
}

module _ (read : StatementsReadBack) (d : Dialect) (calls : List Call) (database : Database) (fit : calls_fit d calls (session_on database) ≡ true) where
  abbrev last : Session
  last = all_called d calls (session_on database)

  -- what is written leads to a database, run again from each catalogue that stands for the one before
  record Replays (written : Journal) (now : Database) : Type 0 where
    led : all_done d (joined written) database ≡ Ok now
    runs : (c : Catalogue) → StandsFor d c database → RunsTo d (run_entries d (entries_of d written) (Some c)) now

  left_so : (written : Journal) (now : Database) → IsLeft d calls database [] written → ClosesHeld d calls database written → Replays written now → (there left : List Entry) → left ≡ there ++ entries_of d written → LeftInCommand d calls database there left
  left_so written now stops closes it there left left_is = record {
    written = written;
    stops = stops;
    closes = closes;
    is = left_is;
    now = now;
    led = it.led;
    replays = λ c ran stands.
        let more = it.runs c stands in
        (more.0, ap (λ es. run_to d es) left_is ∙ run_both d there (entries_of d written) (Some no_objects) c ran ∙ more.1, more.2);
  }

  all_go : AllGo d last.entries database last.committed
  all_go = (calls_hold d database calls (session_on database) fit (record { committed = refl; seen = refl })).committed

  front_replays : (front rest : Journal) → last.entries ≡ front ++ rest → (now : Database) × Replays front now
  front_replays front rest is =
      let parts = all_parted d front rest database last.committed (subst (λ es. AllGo d es database last.committed) is all_go) in
      (parts.mid, record { led = all_go_done d front database parts.mid parts.first; runs = λ c stands. entries_run read d front database parts.mid c parts.first stands })

  -- a front of what the calls write leads to a database, and so does what has it behind other entries
  pub front_leads : (front rest : Journal) → last.entries ≡ front ++ rest
      → (now : Database) × (all_done d (joined front) database ≡ Ok now) × ((there : List Entry) (c : Catalogue) → run_to d there ≡ Some c → StandsFor d c database → (e : Catalogue) × (run_to d (there ++ entries_of d front) ≡ Some e) × StandsFor d e now)
  front_leads front rest is =
      let it = front_replays front rest is in
      (it.0, it.1.led, λ there c ran stands. (let more = it.1.runs c stands in (more.0, run_both d there (entries_of d front) (Some no_objects) c ran ∙ more.1, more.2)))

  -- a front of what the calls write
  pub in_front : (there left : List Entry) (front rest : Journal) → last.entries ≡ front ++ rest → left ≡ there ++ entries_of d front → LeftInCommand d calls database there left
  in_front there left front rest is left_is =
      let it = front_replays front rest is in
      left_so front it.0 (fronts_are_left d calls database [] front rest is) (inl (rest, is)) it.1 there left left_is

  -- the lock that is held is freed behind it
  abbrev freed_on : Database → Database
  freed_on now = with_contents (lock_after Freed now) (contents_of now)

  freed_fits : (now : Database) (c : Catalogue) → StandsFor d c now → now.lock.locked ≡ true → fits d (Locks Freed) now ≡ true
  freed_fits now c stands locked =
      let calls_are : release_calls now ≡ closing ∷ [] = ap (λ b. if b then closing ∷ [] else []) locked in
      and_left (fits d (Locks Freed) now) true (and_left (all_fit d (Locks Freed ∷ []) now) true (subst (λ cs. calls_fit d cs (session_on now) ≡ true) calls_are (release_fits d c now stands)))

  freed_replays : (front : Journal) (now : Database) → Replays front now → now.lock.locked ≡ true → Replays (front ++ freed) (freed_on now)
  freed_replays front now it locked = record {
    led = ap (λ deeds. all_done d deeds database) (joined_both front freed) ∙ done_both d (joined front) (joined freed) database ∙ ap (next d (joined freed)) it.led;
    runs = λ c stands.
        let first = it.runs c stands in
        let more = entries_run read d freed now (freed_on now) first.0 (freed_on now, (freed_on now, freed_fits now first.0 first.2 locked, refl, refl), refl) first.2 in
        (more.0, ap (λ es. run_entries d es (Some c)) (map-append (entry_of d) front freed) ∙ run_both d (entries_of d front) (entries_of d freed) (Some c) first.0 first.1 ∙ more.1, more.2);
  }

  module _ (s : Session) (came : CameFrom d (session_on database) s) (before : IsBefore s last) (locked : s.committed.lock.locked ≡ true) (unmarked : has_mark s.committed.lock ≡ false) (none : s.begun ≡ []) (one : HasClosing calls) where
    led : all_done d (joined s.entries) database ≡ Ok s.committed
    led = subst (λ (t : Session). all_done d (joined t.entries) database ≡ Ok t.committed) (sym came.is) (calls_lead d database came.calls (session_on database) (record { committed = refl; seen = refl })).committed

    entries_are : (called d closing s).entries ≡ s.entries ++ freed
    entries_are = closing_entry d s none

    -- what a session on the way has written, and the entry that frees a lock without a mark
    pub in_closed : (there left : List Entry) → left ≡ there ++ entries_of d (called d closing s).entries → LeftInCommand d calls database there left
    in_closed there left left_is =
        let it = front_replays s.entries before.more before.entries in
        let same : it.0 ≡ s.committed = same_ok d (sym it.1.led ∙ led) in
        let stops : IsLeft d calls database [] (called d closing s).entries = record { front = s.entries; rest = before.more; entries = before.entries; now = s.committed; led = led; is = inr (entries_are, unmarked) } in
        let closes : ClosesHeld d calls database (called d closing s).entries = inr (record { closes = one; front = s.entries; is_front = (before.more, before.entries); now = s.committed; led = led; held = locked; unmarked = unmarked; is = entries_are }) in
        left_so (called d closing s).entries (freed_on s.committed) stops closes
        (subst (λ es. Replays es (freed_on s.committed)) (sym entries_are) (freed_replays s.entries s.committed (subst (Replays s.entries) same it.1) locked)) there left left_is

    -- and a front of both
    pub in_closing : (there left : List Entry) (front rest : Journal) → (called d closing s).entries ≡ front ++ rest → left ≡ there ++ entries_of d front → LeftInCommand d calls database there left
    in_closing there left front rest is left_is = by (cut_last s.entries (Locks Freed ∷ []) front rest (sym entries_are ∙ is)) where
      by : IsCut s.entries (Locks Freed ∷ []) front → LeftInCommand d calls database there left
      by (inl all) = in_closed there left (left_is ∙ ap (λ es. there ++ entries_of d es) (all ∙ sym entries_are))
      by (inr begun) = in_front there left front (begun.0 ++ before.more) (before.entries ∙ ap (λ es. es ++ before.more) begun.1 ∙ append_assoc front begun.0 before.more) left_is

-- the texts of what a stop leaves are read back

abbrev pub IsRead : Dialect → Deed → Type 0
IsRead d deed = statement_in d (deed_text d deed) ≡ Some (made_of d deed).1

abbrev pub AreRead : Dialect → List Deed → Type 0
AreRead d [] = Unit {0}
AreRead d (deed ∷ deeds) = IsRead d deed × AreRead d deeds

read_both : (d : Dialect) (deeds more : List Deed) → AreRead d deeds → AreRead d more → AreRead d (deeds ++ more)
read_both d [] more first second = second
read_both d (deed ∷ deeds) more first second = (first.0, read_both d deeds more first.1 second)

module _ (read : StatementsReadBack) (d : Dialect) where
  deeds_read : (deeds : List Deed) (a b : Database) → Goes d deeds a b → AreRead d deeds
  deeds_read [] a b go = tt
  deeds_read (deed ∷ deeds) a b go = (read d (made_of d deed).1 (is_stated d deed a go.0 go.1 go.2), deeds_read deeds go.0 b go.3)

  entries_read : (entries : Journal) (a b : Database) → AllGo d entries a b → AreRead d (joined entries)
  entries_read [] a b go = tt
  entries_read (deeds ∷ entries) a b go = read_both d deeds (joined entries) (deeds_read deeds a go.0 go.1) (entries_read entries go.0 b go.2)

  -- what a mark's deed sets, and what frees the lock
  pub mark_read : (by : List ℕ) → IsRead d (Locks (Marked by))
  mark_read by = read d (made_of d (Locks (Marked by))).1 (stated_marked d by)

  freed_read : AreRead d (joined freed)
  freed_read = (read d (made_of d (Locks Freed)).1 (stated_freed d), tt)

  pub left_read : (calls : List Call) (database : Database) → calls_fit d calls (session_on database) ≡ true → (written : Journal) → IsLeft d calls database [] written → AreRead d (joined written)
  left_read calls database fit written left = elim left.is as (λ _. AreRead d (joined written)) [
    | inl front ↦ subst (λ es. AreRead d (joined es)) (sym front) of_front
    | inr closed ↦ subst (λ es. AreRead d (joined es)) (sym closed.0) (subst (AreRead d) (sym (joined_both left.front freed)) (read_both d (joined left.front) (joined freed) of_front freed_read))
  ] where
    of_front : AreRead d (joined left.front)
    of_front =
        let all = all_go read d calls database fit in
        let parts = all_parted d left.front left.rest database (all_called d calls (session_on database)).committed (subst (λ es. AllGo d es database (all_called d calls (session_on database)).committed) left.entries all) in
        entries_read left.front database parts.mid parts.first
