-- A deed that is accepted, or refused, was the next call of the script.
use Rattle.std.proofs.Common.{ap, sym, ◌∙◌}
use Rattle.std.specs.Prelude.{Bool, Err, List, Ok, false, refl, true, ◌∷◌, ◌≡◌}
use Rattle.lq_base.specs.declared.dialect.Dialect.{Dialect}
use Rattle.lq_base.specs.declared.reason.Reason.{Reason}
use Rattle.lq_turns.proofs.Made.{At, after_ok}
use Rattle.lq_turns.proofs.Steps.{goes, stops}
use Rattle.lq_turns.specs.Deed.{Contents, contents_of, with_contents, contents_after, if_accepted, locked_after}
use Rattle.lq_turns.specs.Session.{Both, accepted_by, are_accepted, committed_if, went, went_by, Session, accepted, called, executed_as, is_own, settled_if}
use Rattle.lq_turns.specs.Rest.{GivingUp, Inside, Turns, if_goes_on, rest, Went, both_of}
use Rattle.lq_turns.specs.Set.{Meaning}
use Rattle.lq_turns.specs.declared.call.Call.{Call}
use Rattle.lq_turns.specs.declared.call.Call.TheVariants.{Execute}
use Rattle.lq_turns.specs.declared.deed.Deed.{Deed}
use Rattle.lq_turns.specs.declared.stamp.Stamp.{Stamp}
use Rattle.lq_hand.specs.Way.{coming_of, with_accepted, refused_by, refused_in, seen_after, sights}
use Rattle.lq_run.specs.Moves.{BreaksOff, Continues}

module _ (d : Dialect) (deed : Deed) (s : Session) where
  pair : (t : Session) (a b : Contents) → At t (a, b) → both_of t ≡ (a, b)
  pair t a b at = ap (λ x. (x, contents_of t.seen)) at.committed ∙ ap (λ x. (a, x)) at.seen

  both_ok : (now : Contents) → contents_after d deed (contents_of s.seen) ≡ Ok now → both_of (called d (Execute deed) s) ≡ (committed_if (is_own d deed) (contents_of s.committed) now, now)
  both_ok now is = ap (λ r. both_of (executed_as d deed s (if_accepted (with_contents (locked_after deed s.seen)) r))) is
      ∙ pair (accepted d deed (with_contents (locked_after deed s.seen) now) s) (committed_if (is_own d deed) (contents_of s.committed) now) now (after_ok d (is_own d deed) deed (contents_of s.committed) now s refl refl)

  both_if : (own : Bool) → both_of (settled_if own s) ≡ (committed_if own (contents_of s.committed) (contents_of s.seen), contents_of s.seen)
  both_if true = refl
  both_if false = refl

  both_err : (reason : Reason) → contents_after d deed (contents_of s.seen) ≡ Err reason → both_of (called d (Execute deed) s) ≡ (committed_if (is_own d deed) (contents_of s.committed) (contents_of s.seen), contents_of s.seen)
  both_err reason is = ap (λ r. both_of (executed_as d deed s (if_accepted (with_contents (locked_after deed s.seen)) r))) is ∙ both_if (is_own d deed)

  pub continues : (now : Contents) → contents_after d deed (contents_of s.seen) ≡ Ok now → (calls : List Call) → Continues d (Execute deed ∷ calls) calls s (called d (Execute deed) s)
  continues now is calls = record {
    contents = ap (went_by d deed (went d calls) (both_of s)) is ∙ ap (went d calls) (sym (both_ok now is));
    accepted = ap (accepted_by d (are_accepted d calls)) is ∙ ap (λ (x : Both). are_accepted d calls x.1) (sym (both_ok now is));
    seen = ap (seen_after d (sights d calls)) is ∙ ap (λ (x : Both). sights d calls x.1) (sym (both_ok now is));
    counted = λ p. ap (refused_by d deed (refused_in d calls) p) is ∙ ap (λ (x : Both). refused_in d calls (with_accepted (coming_of d (Execute deed)) p) x.1) (sym (both_ok now is));
  }

  pub breaks_off : (reason : Reason) → contents_after d deed (contents_of s.seen) ≡ Err reason → (calls : List Call) → BreaksOff d (Execute deed ∷ calls) reason s (called d (Execute deed) s)
  breaks_off reason is calls = record {
    contents = ap (λ r. (went_by d deed (went d calls) (both_of s) r).0) is ∙ ap (λ (x : Both). x.0) (sym (both_err reason is));
    counted = λ p. ap (refused_by d deed (refused_in d calls) p) is;
  }

module _ {Key : Type 0} (d : Dialect) (m : Meaning Key) (stamp : Stamp) (deed : Deed) (s t : Session) where
  pub goes_on : (now : Contents) → contents_after d deed (contents_of s.seen) ≡ Ok now → t ≡ called d (Execute deed) s → (calls : List Call) (on : Bool) (turns : Turns Key)
      → Went d m stamp (Inside (Execute deed ∷ calls) on turns) (Inside calls on turns) s t
  goes_on now is after calls on turns = record {
    call = Execute deed;
    next = goes d m stamp deed calls on turns (both_of s) now is ∙ ap (λ x. Execute deed ∷ rest d m stamp (Inside calls on turns) x) (sym (ap both_of after ∙ both_ok d deed s now is));
    is = after;
  }

  pub gives_up : (reason : Reason) → contents_after d deed (contents_of s.seen) ≡ Err reason → t ≡ called d (Execute deed) s → (calls : List Call) (on : Bool) (turns : Turns Key)
      → Went d m stamp (Inside (Execute deed ∷ calls) on turns) (GivingUp (if_goes_on on turns)) s t
  gives_up reason is after calls on turns = record {
    call = Execute deed;
    next = stops d m stamp deed calls on turns (both_of s) reason is ∙ ap (λ x. Execute deed ∷ rest d m stamp (GivingUp (if_goes_on on turns)) x) (sym (ap both_of after ∙ both_err d deed s reason is));
    is = after;
  }
