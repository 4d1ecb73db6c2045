-- What a crash leaves at each moment of calls on the way to the last session.
use Rattle.std.proofs.Common.{ap, subst, sym, ◌∙◌}
use Rattle.std.proofs.lemmas.List.{append_assoc, map-append}
use Rattle.std.specs.Option.{option_map}
use Rattle.std.specs.Prelude.{List, ℕ, ◌++◌, ◌∷◌, ◌≡◌}
use Rattle.lq_base.specs.declared.dialect.Dialect.{Dialect}
use Rattle.lq_hand.specs.Hand.{calls_left, hand_place}
use Rattle.lq_hand.specs.declared.hand.Hand.{Hand}
use Rattle.lq_run.proofs.Since.{leave_from}
use Rattle.lq_run.specs.Crashing.{CrashesTaken, LeftAlone, LeftInCall, LeftInNext}
use Rattle.lq_run.specs.Ends.{IsBefore}
use Rattle.lq_run.specs.Stands.{no_changes, Stands, entries_of, entry_of}
use Rattle.lq_store.specs.Journal.{Crashes, CrashesLeave, Entry, State}
use Rattle.lq_turns.specs.Rest.{NoMore, rest, both_of}
use Rattle.lq_turns.specs.Session.{Session, called}
use Rattle.lq_turns.specs.Stops.{Journal}
use Rattle.lq_turns.specs.declared.call.Call.{Call}
use Rattle.lq_turns.specs.declared.stamp.Stamp.{Stamp}
use Rattle.lq_mending.proofs.Onward.{before_end, is_first}
use Rattle.lq_mending.specs.Comes.{LeftOf, Reached, at_end}

regrouped : (a b c e : Journal) → (a ++ (b ++ c)) ++ e ≡ (a ++ b) ++ (c ++ e)
regrouped a b c e = ap (λ z. z ++ e) (sym (append_assoc a b c)) ∙ append_assoc (a ++ b) c e

module _ (d : Dialect) (number : ℕ) (start x : State) (s last : Session) (dialect : start.dialect ≡ d) (stands : Stands start number x s) where
  abbrev here : List Entry
  here = entries_of d s.entries

  entries_are : x.entries ≡ option_map (λ (entries : List Entry). entries ++ here) start.entries
  entries_are = subst (λ e. x.entries ≡ option_map (λ (entries : List Entry). entries ++ entries_of e s.entries) start.entries) dialect stands.entries

  -- in a call on the way
  in_call : (call : Call) → IsBefore (called d call s) last → (there left : List Entry) → LeftInCall d call s (there ++ here) left → LeftOf d last there left
  in_call call before there left it = record {
    written = s.entries ++ it.front;
    more = it.more ++ before.more;
    entries = before.entries ∙ ap (λ es. es ++ before.more) it.appends ∙ regrouped s.entries it.front it.more before.more;
    is = it.is ∙ append_assoc there here (entries_of d it.front) ∙ ap (λ z. there ++ z) (sym (map-append (entry_of d) s.entries it.front));
  }

  pub call_crash : (call : Call) → IsBefore (called d call s) last → (a b : Crashes) → CrashesLeave x.entries (LeftInCall d call s) a b → CrashesLeave start.entries (LeftOf d last) a b
  call_crash call before a b crash = leave_from x.entries start.entries here (LeftInCall d call s) (LeftOf d last) a b entries_are (in_call call before) crash

  -- in one that writes nothing
  pub alone_crash : IsBefore s last → (a b : Crashes) → CrashesLeave x.entries LeftAlone a b → CrashesLeave start.entries (LeftOf d last) a b
  alone_crash before a b crash = leave_from x.entries start.entries here LeftAlone (LeftOf d last) a b entries_are
      (λ there left is. record { written = s.entries; more = before.more; entries = before.entries; is = is }) crash

-- in the next one in hand
pub taken_crash : (d : Dialect) (stamp : Stamp) (number : ℕ) (start : State) (s : Session) (calls tail : List Call) (hand : Hand) (x : State) (k : Reached d stamp number start s calls hand x) (a b : Crashes)
    → CrashesTaken d no_changes stamp number hand x a b → CrashesLeave start.entries (LeftOf d (at_end d calls tail s)) a b
taken_crash d stamp number start s calls tail hand x k a b crash =
    leave_from x.entries start.entries (entries_of d k.session.entries) (LeftInNext d no_changes stamp number (hand_place hand.phase (calls_left hand) hand.goes_on NoMore) k.session) (LeftOf d (at_end d calls tail s)) a b
    (entries_are d number start x k.session (at_end d calls tail s) k.at.dialect k.at.stands) each (crash NoMore start k.session k.at)
  where
    each : (there left : List Entry) → LeftInNext d no_changes stamp number (hand_place hand.phase (calls_left hand) hand.goes_on NoMore) k.session (there ++ entries_of d k.session.entries) left → LeftOf d (at_end d calls tail s) there left
    each there left it =
        let next = subst (λ p. rest d no_changes stamp (hand_place p (calls_left hand) hand.goes_on NoMore) (both_of k.session) ≡ it.call ∷ it.others) k.inside it.next in
        let first = is_first d stamp (calls_left hand) hand.goes_on (both_of k.session) it.call it.others next it.by in
        in_call d number start x k.session (at_end d calls tail s) k.at.dialect k.at.stands it.call
        (subst (IsBefore (called d it.call k.session)) (sym (k.are_made.ends tail)) (before_end d (calls_left hand) first.0 tail it.call k.session first.1)) there left it.is
