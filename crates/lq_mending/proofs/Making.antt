-- A call that is accepted is the first of those to come, and the others come behind it.
use Rattle.std.proofs.Common.{ap, arith, refl, subst, sym, ◌∙◌}
use Rattle.std.specs.Prelude.{Bool, Err, List, None, Ok, Option, Result, [], length, suc, true, ℕ, Some, ◌<◌, ◌++◌, ◌∷◌, ◌≡◌}
use Rattle.lq_base.specs.declared.dialect.Dialect.{Dialect}
use Rattle.lq_base.specs.declared.reason.Reason.{Reason}
use Rattle.lq_turns.proofs.Made.{after_ok}
use Rattle.lq_turns.specs.Deed.{Contents, contents_of, with_contents, contents_after, if_accepted, locked_after}
use Rattle.lq_turns.specs.Session.{Session, all_called, called, executed_as, is_own}
use Rattle.lq_turns.specs.Turn.{made as made_by, made_on}
use Rattle.lq_turns.specs.declared.call.Call.{Call}
use Rattle.lq_turns.specs.declared.call.Call.TheVariants.{Abort, Alone, Begin, Commit, Execute}
use Rattle.lq_turns.specs.declared.deed.Deed.{Deed}
use Rattle.lq_hand.specs.Hand.{AreTurns, IsNext, IsReady, calls_left, hand_place}
use Rattle.lq_hand.specs.declared.hand.Hand.{Hand}
use Rattle.lq_hand.specs.declared.hand.Phase.TheVariants as phase
use Rattle.lq_run.proofs.Grows.{came_on}
use Rattle.lq_run.specs.Ends.{CameFrom}
use Rattle.lq_run.specs.Stands.{no_changes}
use Rattle.lq_run.specs.declared.hand.Moved.TheVariants as moved
use Rattle.lq_store.specs.Journal.{State}
use Rattle.lq_turns.specs.Rest.{NoMore}
use Rattle.lq_turns.specs.declared.stamp.Stamp.{Stamp}
use Rattle.lq_run.specs.Moves.{TakesAs, reason_in, refusal_of}
use Rattle.lq_run.specs.Steps.{is_disk}
use Rattle.lq_model.specs.declared.fault.StoreFault.{StoreFault}
use Rattle.lq_model.specs.declared.fault.StoreFault.TheVariants as fault
use Rattle.lq_mending.specs.declared.all.Made.TheVariants as made
use Rattle.lq_mending.specs.Comes.{AreMade, At, EndsAs, Reached, at_end, first_reason, made_of, reason_by}

pub shorter : (call : Call) (xs ys : List Call) → xs ≡ call ∷ ys → length ys < length xs
shorter call xs ys is = subst (λ zs. length ys < length zs) (sym is) (next (length ys)) where
  next : (n : ℕ) → n < suc n
  next n = omega arith

some_reason : {A : Type 0} (reason : Reason) → (let r : Result Contents Reason = Err reason in reason_in r) ≡ None → A
some_reason reason is = Prim.cc

no_reason : {A : Type 0} {reason : Reason} → (let o : Option Reason = None in o) ≡ Some reason → A
no_reason is = Prim.cc

-- a fault of the store

pub is_disk_made : (fault : StoreFault) → made_of fault ≡ made.Disk → is_disk fault ≡ true
is_disk_made fault.Disk is = refl
is_disk_made (fault.Full used next) is = Prim.cc
is_disk_made fault.OutOfMemory is = Prim.cc
is_disk_made (fault.Busy n) is = Prim.cc
is_disk_made fault.NotSql is = Prim.cc
is_disk_made (fault.Refused reason) is = Prim.cc

pub met : (d : Dialect) (stamp : Stamp) (number : ℕ) (start : State) (hand new : Hand) (x y : State) (t : Session) (fault : StoreFault) → TakesAs d no_changes stamp number hand NoMore start t x (moved.Failed fault) new y
    → EndsAs d stamp number start hand x t (made_of fault) new y
met d stamp number start hand new x y t fault.Disk took = took.0
met d stamp number start hand new x y t (fault.Full used next) took = took
met d stamp number start hand new x y t fault.OutOfMemory took = (took.0.faults, took.1)
met d stamp number start hand new x y t (fault.Busy n) took = absurd took.0.faults
met d stamp number start hand new x y t fault.NotSql took = absurd took.0.faults
met d stamp number start hand new x y t (fault.Refused reason) took = absurd took.0.faults

module _ (d : Dialect) where
  deed_made : (deed : Deed) (s : Session) (rest : List Call) → reason_in (contents_after d deed (contents_of s.seen)) ≡ None
      → all_called d (made_by d (Execute deed ∷ rest) (contents_of s.seen)) s ≡ all_called d (made_by d rest (contents_of (called d (Execute deed) s).seen)) (called d (Execute deed) s)
  deed_made deed s rest none = by (contents_after d deed (contents_of s.seen)) refl none where
    by : (r : Result Contents Reason) → contents_after d deed (contents_of s.seen) ≡ r → reason_in r ≡ None
        → all_called d (made_by d (Execute deed ∷ rest) (contents_of s.seen)) s ≡ all_called d (made_by d rest (contents_of (called d (Execute deed) s).seen)) (called d (Execute deed) s)
    by (Err reason) is none = some_reason reason none
    by (Ok now) is none =
        let seen : contents_of (called d (Execute deed) s).seen ≡ now
        = ap (λ r. contents_of (executed_as d deed s (if_accepted (with_contents (locked_after deed s.seen)) r)).seen) is
        ∙ (after_ok d (is_own d deed) deed (contents_of s.committed) now s refl refl).seen in
        ap (λ r. all_called d (made_on (made_by d rest) r) (called d (Execute deed) s)) is
        ∙ ap (λ c. all_called d (made_by d rest c) (called d (Execute deed) s)) (sym seen)

  one_made : (call : Call) (opened : Bool) (s : Session) (rest : List Call) → IsNext d opened call → refusal_of d call s ≡ None
      → all_called d (made_by d (call ∷ rest) (contents_of s.seen)) s ≡ all_called d (made_by d rest (contents_of (called d call s).seen)) (called d call s)
  one_made Begin opened s rest next none = refl
  one_made Commit opened s rest next none = refl
  one_made Abort opened s rest next none = absurd next
  one_made (Alone deeds room) opened s rest next none = absurd next
  one_made (Execute deed) opened s rest next none = deed_made deed s rest none

  made_on_way : (before after : List Call) (call : Call) (opened : Bool) (s t : Session) → before ≡ call ∷ after → AreTurns d opened before → refusal_of d call s ≡ None → t ≡ called d call s
      → (tail : List Call) → at_end d before tail s ≡ at_end d after tail t
  made_on_way before after call opened s t first turns none is tail =
      ap (λ cs. all_called d (made_by d (cs ++ tail) (contents_of s.seen)) s) first
      ∙ one_made call opened s (after ++ tail) (subst (AreTurns d opened) first turns).0 none
      ∙ ap (λ (u : Session). all_called d (made_by d (after ++ tail) (contents_of u.seen)) u) (sym is)

  -- why those to come are refused

  deed_reason : (deed : Deed) (s : Session) (rest : List Call) → reason_in (contents_after d deed (contents_of s.seen)) ≡ None
      → first_reason d (Execute deed ∷ rest) (contents_of s.seen) ≡ first_reason d rest (contents_of (called d (Execute deed) s).seen)
  deed_reason deed s rest none = by (contents_after d deed (contents_of s.seen)) refl none where
    by : (r : Result Contents Reason) → contents_after d deed (contents_of s.seen) ≡ r → reason_in r ≡ None
        → first_reason d (Execute deed ∷ rest) (contents_of s.seen) ≡ first_reason d rest (contents_of (called d (Execute deed) s).seen)
    by (Err reason) is none = some_reason reason none
    by (Ok now) is none =
        let seen : contents_of (called d (Execute deed) s).seen ≡ now
        = ap (λ r. contents_of (executed_as d deed s (if_accepted (with_contents (locked_after deed s.seen)) r)).seen) is
        ∙ (after_ok d (is_own d deed) deed (contents_of s.committed) now s refl refl).seen in
        ap (reason_by (first_reason d rest)) is ∙ ap (first_reason d rest) (sym seen)

  one_reason : (call : Call) (opened : Bool) (s : Session) (rest : List Call) → IsNext d opened call → refusal_of d call s ≡ None
      → first_reason d (call ∷ rest) (contents_of s.seen) ≡ first_reason d rest (contents_of (called d call s).seen)
  one_reason Begin opened s rest next none = refl
  one_reason Commit opened s rest next none = refl
  one_reason Abort opened s rest next none = absurd next
  one_reason (Alone deeds room) opened s rest next none = absurd next
  one_reason (Execute deed) opened s rest next none = deed_reason deed s rest none

  reason_on_way : (before after : List Call) (call : Call) (opened : Bool) (s t : Session) → before ≡ call ∷ after → AreTurns d opened before → refusal_of d call s ≡ None → t ≡ called d call s
      → first_reason d before (contents_of s.seen) ≡ first_reason d after (contents_of t.seen)
  reason_on_way before after call opened s t first turns none is =
      ap (λ cs. first_reason d cs (contents_of s.seen)) first
      ∙ one_reason call opened s after (subst (AreTurns d opened) first turns).0 none
      ∙ ap (λ (u : Session). first_reason d after (contents_of u.seen)) (sym is)

  pub turns_at : (stamp : Stamp) (number : ℕ) (start x : State) (hand : Hand) (s : Session) → hand.phase ≡ phase.Inside → At d stamp number hand x start s → AreTurns d s.is_open (calls_left hand)
  turns_at stamp number start x hand s inside at = subst (λ p. IsReady {Key = Unit {0}} d s.is_open (hand_place p (calls_left hand) hand.goes_on NoMore)) inside at.ready

  -- one more
  pub reaches : (stamp : Stamp) (number : ℕ) (start : State) (s : Session) (calls : List Call) (hand new : Hand) (x y : State) (k : Reached d stamp number start s calls hand x)
      → new.phase ≡ phase.Inside → TakesAs d no_changes stamp number hand NoMore start k.session x moved.On new y → Reached d stamp number start s calls new y
  reaches stamp number start s calls hand new x y k inside took =
      let turns = turns_at stamp number start x hand k.session k.inside k.at in
      record {
        session = took.goes.after;
        inside = inside;
        at = took.goes.at;
        are_made = record {
          ends = λ tail. k.are_made.ends tail ∙ made_on_way (calls_left hand) (calls_left new) took.goes.went.call k.session.is_open k.session took.goes.after took.first turns took.none took.goes.went.is tail;
          leads = k.are_made.leads ∙ took.continues.contents;
          reason = k.are_made.reason ∙ reason_on_way (calls_left hand) (calls_left new) took.goes.went.call k.session.is_open k.session took.goes.after took.first turns took.none took.goes.went.is;
          came = subst (CameFrom d s) (sym took.goes.went.is) (came_on d s k.session took.goes.went.call k.are_made.came);
        };
      }

  pub here : (calls : List Call) (s : Session) → AreMade d calls calls s s
  here calls s = record { ends = λ tail. refl; leads = refl; reason = refl; came = record { calls = []; is = refl } }

  -- where the next one is refused, an abort is all that comes behind it
  refused_deed : (deed : Deed) (s : Session) (reason : Reason) (rest : List Call) → reason_in (contents_after d deed (contents_of s.seen)) ≡ Some reason
      → all_called d (made_by d (Execute deed ∷ rest) (contents_of s.seen)) s ≡ called d Abort (called d (Execute deed) s)
  refused_deed deed s reason rest why = by (contents_after d deed (contents_of s.seen)) refl why where
    by : (r : Result Contents Reason) → contents_after d deed (contents_of s.seen) ≡ r → reason_in r ≡ Some reason
        → all_called d (made_by d (Execute deed ∷ rest) (contents_of s.seen)) s ≡ called d Abort (called d (Execute deed) s)
    by (Ok now) is why = no_reason why
    by (Err other) is why = ap (λ r. all_called d (made_on (made_by d rest) r) (called d (Execute deed) s)) is

  refused_one : (call : Call) (s : Session) (reason : Reason) (rest : List Call) → refusal_of d call s ≡ Some reason
      → all_called d (made_by d (call ∷ rest) (contents_of s.seen)) s ≡ called d Abort (called d call s)
  refused_one Begin s reason rest why = no_reason why
  refused_one Commit s reason rest why = no_reason why
  refused_one Abort s reason rest why = no_reason why
  refused_one (Alone deeds room) s reason rest why = no_reason why
  refused_one (Execute deed) s reason rest why = refused_deed deed s reason rest why

  refused_reason : (call : Call) (s : Session) (reason : Reason) (rest : List Call) → refusal_of d call s ≡ Some reason → first_reason d (call ∷ rest) (contents_of s.seen) ≡ Some reason
  refused_reason Begin s reason rest why = no_reason why
  refused_reason Commit s reason rest why = no_reason why
  refused_reason Abort s reason rest why = no_reason why
  refused_reason (Alone deeds room) s reason rest why = no_reason why
  refused_reason (Execute deed) s reason rest why = by (contents_after d deed (contents_of s.seen)) refl why where
    by : (r : Result Contents Reason) → contents_after d deed (contents_of s.seen) ≡ r → reason_in r ≡ Some reason → first_reason d (Execute deed ∷ rest) (contents_of s.seen) ≡ Some reason
    by (Ok now) is why = no_reason why
    by (Err other) is why = ap (reason_by (first_reason d rest)) is ∙ why

  -- so the whole script is what was made, and the abort
  pub refused_ends : (stamp : Stamp) (number : ℕ) (start : State) (s : Session) (calls tail : List Call) (hand new : Hand) (x y : State) (reason : Reason) (k : Reached d stamp number start s calls hand x)
      → (took : TakesAs d no_changes stamp number hand NoMore start k.session x (moved.Refused reason) new y)
      → at_end d calls tail s ≡ called d Abort took.goes.after
  refused_ends stamp number start s calls tail hand new x y reason k took =
      k.are_made.ends tail
      ∙ ap (λ cs. all_called d (made_by d (cs ++ tail) (contents_of k.session.seen)) k.session) took.first
      ∙ refused_one took.goes.went.call k.session reason (took.more ++ tail) took.why
      ∙ ap (called d Abort) (sym took.goes.went.is)

  pub refused_why : (stamp : Stamp) (number : ℕ) (start : State) (s : Session) (calls : List Call) (hand new : Hand) (x y : State) (reason : Reason) (k : Reached d stamp number start s calls hand x)
      → (took : TakesAs d no_changes stamp number hand NoMore start k.session x (moved.Refused reason) new y)
      → first_reason d calls (contents_of s.seen) ≡ Some reason
  refused_why stamp number start s calls hand new x y reason k took =
      k.are_made.reason
      ∙ ap (λ cs. first_reason d cs (contents_of k.session.seen)) took.first
      ∙ refused_reason took.goes.went.call k.session reason took.more took.why
