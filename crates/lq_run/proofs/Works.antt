-- The work of a call on a store, as deeds of a session.
use Rattle.std.proofs.Common.{ap, subst, sym, ◌∙◌}
use Rattle.std.proofs.lemmas.List.{append_assoc, map-append}
use Rattle.std.specs.Prelude.{Bool, Err, List, Ok, Result, [], false, refl, true, ℕ, ◌++◌, ◌∷◌, ◌≡◌}
use Rattle.lq_base.specs.declared.dialect.Dialect.{Dialect}
use Rattle.lq_base.specs.declared.reason.Reason.{Reason}
use Rattle.lq_model.specs.Catalogue.{Catalogue}
use Rattle.lq_model.specs.Script.{if_any}
use Rattle.lq_model.specs.Step.{step}
use Rattle.lq_store.specs.Journal.{of_texts}
use Rattle.lq_store.specs.Work.{End, Outcome, Ran, Stopped, Work, committed, outcome, outcome_by, outcome_of, refused, taken}
use Rattle.lq_track.specs.Database.{Database}
use Rattle.lq_turns.specs.Deed.{Contents, contents_of, with_contents, contents_after, if_accepted, locked_after, made_of}
use Rattle.lq_turns.specs.Schedule.{Agrees, StandsFor, StatementsTell, fits}
use Rattle.lq_turns.specs.Session.{Session, executed_as, is_own, settled_if, settled_up}
use Rattle.lq_turns.specs.declared.deed.Deed.{Deed}
use Rattle.lq_run.specs.Does.{IsRead}
use Rattle.lq_run.specs.Stands.{deed_text, entries_of, entry_of, entry_texts}

-- the session had these entries when the call began
pub record Works (d : Dialect) (first : List (List Deed)) (w : Work) (s : Session) : Type 0 where
  pub committed : StandsFor d w.committed s.committed
  pub now : StandsFor d w.now s.seen
  pub texts : w.texts ≡ entry_texts d s.begun
  pub more : List (List Deed)
  pub entries : s.entries ≡ first ++ more
  pub written : w.written ≡ entries_of d more

any_map : (d : Dialect) (xs : List Deed) → of_texts (if_any (entry_texts d xs)) ≡ entries_of d (if_any xs)
any_map d [] = refl
any_map d (x ∷ xs) = refl

module _ (d : Dialect) (first : List (List Deed)) where
  -- what was begun is committed
  pub settles : (w : Work) (s : Session) → Works d first w s → Works d first (committed w) (settled_up s)
  settles w s is = record {
    committed = is.now;
    now = is.now;
    texts = refl;
    more = is.more ++ if_any s.begun;
    entries = ap (λ e. e ++ if_any s.begun) is.entries ∙ append_assoc first is.more (if_any s.begun);
    written = ap (λ e. e ++ of_texts (if_any w.texts)) is.written ∙ ap (λ t. entries_of d is.more ++ of_texts (if_any t)) is.texts ∙ ap (λ e. entries_of d is.more ++ e) (any_map d s.begun)
        ∙ sym (map-append (entry_of d) is.more (if_any s.begun));
  }

  -- one more deed of the transaction
  adds : (deed : Deed) (c : Catalogue) (now : Database) (w : Work) (s : Session) → Works d first w s → StandsFor d c now
      → Works d first (taken false (deed_text d deed) c w) (record s { seen = now; begun = s.begun ++ deed ∷ [] })
  adds deed c now w s is stands = record {
    committed = is.committed;
    now = stands;
    texts = ap (λ t. t ++ deed_text d deed ∷ []) is.texts ∙ sym (map-append (deed_text d) s.begun (deed ∷ []));
    more = is.more;
    entries = is.entries;
    written = is.written;
  }

  takes : (own : Bool) (deed : Deed) (c : Catalogue) (now : Database) (w : Work) (s : Session) → Works d first w s → StandsFor d c now
      → Works d first (taken own (deed_text d deed) c w) (settled_if own (record (settled_if own s) { seen = now; begun = (settled_if own s).begun ++ deed ∷ [] }))
  takes true deed c now w s is stands = settles (taken false (deed_text d deed) c (committed w)) (record (settled_up s) { seen = now; begun = (settled_up s).begun ++ deed ∷ [] }) (adds deed c now (committed w) (settled_up s) (settles w s is) stands)
  takes false deed c now w s is stands = adds deed c now w s is stands

  refuses : (own : Bool) (w : Work) (s : Session) → Works d first w s → Works d first (refused own w) (settled_if own s)
  refuses true w s is = settles w s is
  refuses false w s is = is

-- a deed is accepted or refused as its text is
abbrev pub EndsAs : Result Contents Reason → End → Type 0
EndsAs (Ok now) (Ran n) = Unit {0}
EndsAs (Err reason) (Stopped other) = reason ≡ other
EndsAs _ _ = ⊥

pub record Did (d : Dialect) (first : List (List Deed)) (deed : Deed) (q : Result Contents Reason) (o : Outcome) (s : Session) : Type 0 where
  pub ends : EndsAs q o.end
  pub works : Works d first o.work (executed_as d deed s (if_accepted (with_contents (locked_after deed s.seen)) q))

module _ (d : Dialect) (first : List (List Deed)) (deed : Deed) (w : Work) (s : Session) (is : Works d first w s) where
  by_result : (q : Result Contents Reason) (r : Result (Catalogue × ℕ) Reason) → Agrees d (if_accepted (with_contents (locked_after deed s.seen)) q) r
      → Did d first deed q (outcome_by d (is_own d deed) (deed_text d deed) r w) s
  by_result (Ok now) (Ok x) agrees = record { ends = tt; works = takes d first (is_own d deed) deed x.0 (with_contents (locked_after deed s.seen) now) w s is agrees }
  by_result (Err reason) (Err other) agrees = record { ends = agrees; works = refuses d first (is_own d deed) w s is }
  by_result (Ok now) (Err other) agrees = absurd agrees
  by_result (Err reason) (Ok x) agrees = absurd agrees

  pub did : IsRead d deed → StatementsTell d → fits d deed s.seen ≡ true
      → Did d first deed (contents_after d deed (contents_of s.seen)) (outcome d (made_of d deed).0 (deed_text d deed) w) s
  did read tells fit =
      subst (λ o. Did d first deed (contents_after d deed (contents_of s.seen)) (outcome_of d (made_of d deed).0 (deed_text d deed) o w) s) (sym read)
      (by_result (contents_after d deed (contents_of s.seen)) (step (made_of d deed).0 d (made_of d deed).1 w.now) (tells deed w.now s.seen is.now fit))
