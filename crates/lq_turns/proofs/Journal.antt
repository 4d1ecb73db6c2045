-- What the calls of a session leave in the journal leads to what they have committed.
use Rattle.std.proofs.Common.{ap, subst, sym, ◌∙◌}
use Rattle.std.specs.List.{flat_map}
use Rattle.std.specs.Prelude.{Bool, Err, List, Ok, Result, [], false, map, refl, true, ℕ, ◌++◌, ◌∷◌, ◌≡◌}
use Rattle.std.proofs.lemmas.List.{append-nil, append_assoc}
use Rattle.lq_base.specs.declared.dialect.Dialect.{Dialect}
use Rattle.lq_base.specs.declared.reason.Reason.{Reason}
use Rattle.lq_model.proofs.Lists.{and_left, and_right}
use Rattle.lq_model.specs.Catalogue.{Catalogue}
use Rattle.lq_model.specs.Script.{if_any}
use Rattle.lq_model.specs.Step.{step}
use Rattle.lq_track.specs.Database.{Database}
use Rattle.lq_turns.specs.Deed.{all_done, done, made_of}
use Rattle.lq_turns.specs.Schedule.{Agrees, JournalHolds, JournalLeads, StandsFor, StatementsTell, all_fit, entry_deeds, fits, run_made}
use Rattle.lq_turns.specs.declared.call.Call.{Call}
use Rattle.lq_turns.specs.declared.call.Call.TheVariants.{Abort, Alone, Begin, Commit, Execute}
use Rattle.lq_turns.specs.declared.deed.Deed.{Deed}
use Rattle.lq_turns.specs.Session.{Session, aborted, accepted, all_called, all_executed, all_executed_as, before, closed, executed, executed_as, is_own, left_by, session_on, settled_if, settled_up}

abbrev pub joined : List (List Deed) → List Deed
joined entries = flat_map (λ (deeds : List Deed). deeds) entries

pub joined_both : (entries more : List (List Deed)) → joined (entries ++ more) ≡ joined entries ++ joined more
joined_both [] more = refl
joined_both (deeds ∷ entries) more = ap (λ x. deeds ++ x) (joined_both entries more) ∙ sym (append_assoc deeds (joined entries) (joined more))

pub joined_any : (deeds : List Deed) → joined (if_any deeds) ≡ deeds
joined_any [] = refl
joined_any (deed ∷ deeds) = append-nil (deed ∷ deeds)

module _ (d : Dialect) where
  abbrev pub next : List Deed → Result Database Reason → Result Database Reason
  next deeds (Ok now) = all_done d deeds now
  next deeds (Err reason) = Err reason

  pub same_ok : {x y : Database} → (let r : Result Database Reason = Ok x in r) ≡ Ok y → x ≡ y
  same_ok e = Prim.cc

  err_ok : {A : Type 0} {r : Reason} {y : Database} → (let z : Result Database Reason = Err r in z) ≡ Ok y → A
  err_ok e = Prim.cc

  pub done_both : (deeds more : List Deed) (database : Database) → all_done d (deeds ++ more) database ≡ next more (all_done d deeds database)
  done_both [] more database = refl
  done_both (deed ∷ deeds) more database = elim (done d deed database) as (λ q. next (deeds ++ more) q ≡ next more (next deeds q)) [
    | Ok now ↦ done_both deeds more now
    | Err reason ↦ refl
  ]

  -- the entries lead from the start to what is committed, and what was begun to what is seen
  pub record Leads (start : Database) (s : Session) : Type 0 where
    pub committed : all_done d (joined s.entries) start ≡ Ok s.committed
    pub seen : all_done d s.begun s.committed ≡ Ok s.seen

  module _ (start : Database) where
    up : (s : Session) → Leads start s → Leads start (settled_up s)
    up s is = record {
      committed = ap (λ deeds. all_done d deeds start) (joined_both s.entries (if_any s.begun) ∙ ap (λ x. joined s.entries ++ x) (joined_any s.begun)) ∙ done_both (joined s.entries) s.begun start ∙ ap (next s.begun) is.committed ∙ is.seen;
      seen = refl;
    }

    up_if : (own : Bool) (s : Session) → Leads start s → Leads start (settled_if own s)
    up_if true s is = up s is
    up_if false s is = is

    seen_if : (own : Bool) (s : Session) → (settled_if own s).seen ≡ s.seen
    seen_if true s = refl
    seen_if false s = refl

    with_deed : (deed : Deed) (now : Database) (s : Session) → done d deed s.seen ≡ Ok now → Leads start s → Leads start (record s { seen = now; begun = s.begun ++ deed ∷ [] })
    with_deed deed now s is leads = record {
      committed = leads.committed;
      seen = done_both s.begun (deed ∷ []) s.committed ∙ ap (next (deed ∷ [])) leads.seen ∙ ap (next []) is;
    }

    accepts : (deed : Deed) (now : Database) (s : Session) → done d deed s.seen ≡ Ok now → Leads start s → Leads start (accepted d deed now s)
    accepts deed now s is leads =
        let first = up_if (is_own d deed) s leads in
        up_if (is_own d deed) (record (before d deed s) { seen = now; begun = (before d deed s).begun ++ deed ∷ [] }) (with_deed deed now (before d deed s) (ap (done d deed) (seen_if (is_own d deed) s) ∙ is) first)

    gives_up : (s : Session) → Leads start s → Leads start (aborted s)
    gives_up s leads = record { committed = leads.committed; seen = refl }

    closes : (s : Session) → Leads start s → Leads start (closed s)
    closes s leads = let it = up s leads in record { committed = it.committed; seen = it.seen }

    executes : (deed : Deed) (s : Session) → Leads start s → Leads start (executed d deed s)
    executes deed s leads = (elim (done d deed s.seen) as (λ q. done d deed s.seen ≡ q → Leads start (executed_as d deed s q)) [
      | Ok now ↦ λ is. accepts deed now s is leads
      | Err reason ↦ λ is. up_if (is_own d deed) s leads
    ]) refl

    executes_all : (deeds : List Deed) (s : Session) → Leads start s → Leads start (all_executed d deeds s)
    executes_all [] s leads = closes s leads
    executes_all (deed ∷ deeds) s leads = (elim (done d deed s.seen) as (λ q. done d deed s.seen ≡ q → Leads start (all_executed_as d deed s (all_executed d deeds) q)) [
      | Ok now ↦ λ is. executes_all deeds (accepted d deed now s) (accepts deed now s is leads)
      | Err reason ↦ λ is. gives_up (before d deed s) (up_if (is_own d deed) s leads)
    ]) refl

    pub calls_lead : (calls : List Call) (s : Session) → Leads start s → Leads start (all_called d calls s)
    calls_lead [] s leads = leads
    calls_lead (Alone deeds room ∷ calls) s leads = calls_lead calls (all_executed d deeds s) (executes_all deeds s leads)
    calls_lead (Begin ∷ calls) s leads = calls_lead calls (record s { is_open = true }) (record { committed = leads.committed; seen = leads.seen })
    calls_lead (Execute deed ∷ calls) s leads = calls_lead calls (executed d deed s) (executes deed s leads)
    calls_lead (Commit ∷ calls) s leads = calls_lead calls (closed s) (closes s leads)
    calls_lead (Abort ∷ calls) s leads = calls_lead calls (aborted s) (gives_up s leads)

  abbrev run_next : List Deed → Result (Catalogue × ℕ) Reason → Result Catalogue Reason
  run_next deeds (Ok r) = run_made d (map (made_of d) deeds) r.0
  run_next deeds (Err reason) = Err reason

  abbrev Held : List Deed → Result Catalogue Reason → Database → Type 0
  Held deeds ran now = (e : Catalogue) × (ran ≡ Ok e) × StandsFor d e now

  holds_by : (deed : Deed) (deeds : List Deed) (database now : Database) (q : Result Database Reason) (r : Result (Catalogue × ℕ) Reason) → Agrees d q r → next deeds q ≡ Ok now
      → ((mid : Database) (c : Catalogue) → q ≡ Ok mid → StandsFor d c mid → all_done d deeds mid ≡ Ok now → Held deeds (run_made d (map (made_of d) deeds) c) now) → Held deeds (run_next deeds r) now
  holds_by deed deeds database now (Ok mid) (Ok r) agrees is more = more mid r.0 refl agrees is
  holds_by deed deeds database now (Ok mid) (Err other) agrees is more = absurd agrees
  holds_by deed deeds database now (Err reason) r agrees is more = err_ok is

  holds : StatementsTell d → (deeds : List Deed) (database now : Database) (c : Catalogue) → StandsFor d c database → all_fit d deeds database ≡ true → all_done d deeds database ≡ Ok now → Held deeds (run_made d (map (made_of d) deeds) c) now
  holds tell [] database now c stands fit is = (c, refl, subst (StandsFor d c) (same_ok is) stands)
  holds tell (deed ∷ deeds) database now c stands fit is =
      holds_by deed deeds database now (done d deed database) (step (made_of d deed).0 d (made_of d deed).1 c) (tell deed c database stands (and_left _ (elim (done d deed database) as (λ _. Bool) [ Ok x ↦ all_fit d deeds x | Err reason ↦ true ]) fit)) is
      (λ mid e at stand go. holds tell deeds mid now e stand (sym (ap (λ q. elim q as (λ _. Bool) [ Ok x ↦ all_fit d deeds x | Err reason ↦ true ]) at) ∙ and_right (fits d deed database) _ fit) go)

pub journal_leads : JournalLeads
journal_leads d calls database = (calls_lead d database calls (session_on database) (record { committed = refl; seen = refl })).committed

pub journal_holds : JournalHolds
journal_holds d calls database c tell stands fit = holds d tell (entry_deeds d calls database) database (left_by d calls database) c stands fit (journal_leads d calls database)
