-- Deeds that fit where they are executed fit where they are run again from the journal.
use Rattle.std.proofs.Common.{ap, subst, sym, ◌∙◌}
use Rattle.std.proofs.lemmas.List.{append-nil, append_assoc}
use Rattle.std.specs.List.{flat_map}
use Rattle.std.specs.Prelude.{Bool, Err, List, Ok, Result, [], false, refl, true, ◌++◌, ◌∷◌, ◌≡◌}
use Rattle.lq_base.specs.declared.dialect.Dialect.{Dialect}
use Rattle.lq_base.specs.declared.reason.Reason.{Reason}
use Rattle.lq_model.proofs.Lists.{and_left, and_right, and_true}
use Rattle.lq_model.specs.Script.{if_any}
use Rattle.lq_track.specs.Database.{Database}
use Rattle.lq_turns.specs.Deed.{done}
use Rattle.lq_turns.specs.Schedule.{all_fit, fits}
use Rattle.lq_turns.specs.declared.call.Call.{Call}
use Rattle.lq_turns.specs.declared.call.Call.TheVariants.{Abort, Alone, Begin, Commit, Execute}
use Rattle.lq_turns.specs.declared.deed.Deed.{Deed}
use Rattle.lq_turns.specs.Session.{Session, aborted, accepted, all_called, all_executed, all_executed_as, before, closed, executed, executed_as, is_own, session_on, settled_if, settled_up}
use Rattle.lq_turns.proofs.Journal.{journal_holds}
use Rattle.lq_beside.specs.Replays.{JournalReplays, calls_fit}
use Rattle.lq_beside.proofs.AllTold.{statements_tell}

abbrev joined : List (List Deed) → List Deed
joined entries = flat_map (λ (deeds : List Deed). deeds) entries

joined_both : (entries more : List (List Deed)) → joined (entries ++ more) ≡ joined entries ++ joined more
joined_both [] more = refl
joined_both (deeds ∷ entries) more = ap (λ x. deeds ++ x) (joined_both entries more) ∙ sym (append_assoc deeds (joined entries) (joined more))

joined_any : (deeds : List Deed) → joined (if_any deeds) ≡ deeds
joined_any [] = refl
joined_any (deed ∷ deeds) = append-nil (deed ∷ deeds)

module _ (d : Dialect) where
  -- they fit, and lead to the database
  abbrev Goes : List Deed → Database → Database → Type 0
  Goes [] a b = a ≡ b
  Goes (deed ∷ deeds) a b = (mid : Database) × (fits d deed a ≡ true) × (done d deed a ≡ Ok mid) × Goes deeds mid b

  goes_both : (deeds more : List Deed) (a b c : Database) → Goes deeds a b → Goes more b c → Goes (deeds ++ more) a c
  goes_both [] more a b c first then = subst (λ x. Goes more x c) (sym first) then
  goes_both (deed ∷ deeds) more a b c first then = (first.0, first.1, first.2, goes_both deeds more first.0 b c first.3 then)

  fits_so : (deeds : List Deed) (a b : Database) → Goes deeds a b → all_fit d deeds a ≡ true
  fits_so [] a b go = refl
  fits_so (deed ∷ deeds) a b go = and_true _ _ go.1 (ap (λ q. elim q as (λ _. Bool) [ Ok x ↦ all_fit d deeds x | Err reason ↦ true ]) go.2 ∙ fits_so deeds go.0 b go.3)

  -- the entries lead from the start to what is committed, and what was begun to what is seen
  record Holds (start : Database) (s : Session) : Type 0 where
    committed : Goes (joined s.entries) start s.committed
    seen : Goes s.begun s.committed s.seen

  module _ (start : Database) where
    up : (s : Session) → Holds start s → Holds start (settled_up s)
    up s is = record {
      committed = subst (λ deeds. Goes deeds start s.seen) (sym (joined_both s.entries (if_any s.begun) ∙ ap (λ x. joined s.entries ++ x) (joined_any s.begun))) (goes_both (joined s.entries) s.begun start s.committed s.seen is.committed is.seen);
      seen = refl;
    }

    up_if : (own : Bool) (s : Session) → Holds start s → Holds start (settled_if own s)
    up_if true s is = up s is
    up_if false s is = is

    seen_if : (own : Bool) (s : Session) → (settled_if own s).seen ≡ s.seen
    seen_if true s = refl
    seen_if false s = refl

    with_deed : (deed : Deed) (now : Database) (s : Session) → fits d deed s.seen ≡ true → done d deed s.seen ≡ Ok now → Holds start s → Holds start (record s { seen = now; begun = s.begun ++ deed ∷ [] })
    with_deed deed now s fit is holds = record { committed = holds.committed; seen = goes_both s.begun (deed ∷ []) s.committed s.seen now holds.seen (now, fit, is, refl) }

    accepts : (deed : Deed) (now : Database) (s : Session) → fits d deed s.seen ≡ true → done d deed s.seen ≡ Ok now → Holds start s → Holds start (accepted d deed now s)
    accepts deed now s fit is holds =
        let first = up_if (is_own d deed) s holds in
        let same = seen_if (is_own d deed) s in
        up_if (is_own d deed) (record (before d deed s) { seen = now; begun = (before d deed s).begun ++ deed ∷ [] }) (with_deed deed now (before d deed s) (ap (fits d deed) same ∙ fit) (ap (done d deed) same ∙ is) first)

    gives_up : (s : Session) → Holds start s → Holds start (aborted s)
    gives_up s holds = record { committed = holds.committed; seen = refl }

    closes : (s : Session) → Holds start s → Holds start (closed s)
    closes s holds = let it = up s holds in record { committed = it.committed; seen = it.seen }

    executes : (deed : Deed) (s : Session) → fits d deed s.seen ≡ true → Holds start s → Holds start (executed d deed s)
    executes deed s fit holds = (elim (done d deed s.seen) as (λ q. done d deed s.seen ≡ q → Holds start (executed_as d deed s q)) [
      | Ok now ↦ λ is. accepts deed now s fit is holds
      | Err reason ↦ λ is. up_if (is_own d deed) s holds
    ]) refl

    seen_after : (deed : Deed) (now : Database) (s : Session) → (accepted d deed now s).seen ≡ now
    seen_after deed now s = seen_if (is_own d deed) (record (before d deed s) { seen = now; begun = (before d deed s).begun ++ deed ∷ [] })

    abbrev all_next : List Deed → Result Database Reason → Bool
    all_next deeds q = elim q as (λ _. Bool) [ Ok x ↦ all_fit d deeds x | Err reason ↦ true ]

    executes_all : (deeds : List Deed) (s : Session) → all_fit d deeds s.seen ≡ true → Holds start s → Holds start (all_executed d deeds s)
    executes_all [] s fit holds = closes s holds
    executes_all (deed ∷ deeds) s fit holds = (elim (done d deed s.seen) as (λ q. done d deed s.seen ≡ q → all_next deeds q ≡ true → Holds start (all_executed_as d deed s (all_executed d deeds) q)) [
      | Ok now ↦ λ is rest. executes_all deeds (accepted d deed now s) (ap (all_fit d deeds) (seen_after deed now s) ∙ rest) (accepts deed now s (and_left (fits d deed s.seen) _ fit) is holds)
      | Err reason ↦ λ is rest. gives_up (before d deed s) (up_if (is_own d deed) s holds)
    ]) refl (and_right (fits d deed s.seen) _ fit)

    calls_hold : (calls : List Call) (s : Session) → calls_fit d calls s ≡ true → Holds start s → Holds start (all_called d calls s)
    calls_hold [] s fit holds = holds
    calls_hold (Alone deeds room ∷ calls) s fit holds = calls_hold calls (all_executed d deeds s) (and_right (all_fit d deeds s.seen) _ fit) (executes_all deeds s (and_left (all_fit d deeds s.seen) _ fit) holds)
    calls_hold (Begin ∷ calls) s fit holds = calls_hold calls (record s { is_open = true }) fit (record { committed = holds.committed; seen = holds.seen })
    calls_hold (Execute deed ∷ calls) s fit holds = calls_hold calls (executed d deed s) (and_right (fits d deed s.seen) _ fit) (executes deed s (and_left (fits d deed s.seen) _ fit) holds)
    calls_hold (Commit ∷ calls) s fit holds = calls_hold calls (closed s) fit (closes s holds)
    calls_hold (Abort ∷ calls) s fit holds = calls_hold calls (aborted s) fit (gives_up s holds)

pub journal_replays : JournalReplays
journal_replays d calls database c stands fit = journal_holds d calls database c (statements_tell d) stands
    (fits_so d _ database _ (calls_hold d database calls (session_on database) fit (record { committed = refl; seen = refl })).committed)
