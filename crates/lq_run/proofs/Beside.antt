-- What each call of a store leaves to the other sessions.
use Rattle.std.proofs.Common.{ap, arith, rules, subst, sym, ◌∙◌}
use Rattle.std.proofs.lemmas.Bool.Decides.{nat_tests}
use Rattle.std.proofs.lemmas.List.{append-nil}
use Rattle.std.specs.Option.{option_map}
use Rattle.std.specs.Prelude.{Bool, Err, List, None, Ok, Option, Result, Some, [], cond, false, nat_eq, not, refl, reverse, true, ℕ, ◌==◌, ◌++◌, ◌∷◌, ◌≡◌}
use Rattle.lq_base.specs.declared.dialect.Dialect.{Dialect}
use Rattle.lq_hand.proofs.InHand.{last_first}
use Rattle.lq_hand.specs.Hand.{AreTurns, calls_left, opens}
use Rattle.lq_hand.specs.declared.hand.Hand.{Hand}
use Rattle.lq_hand.specs.declared.hand.Phase.{Phase}
use Rattle.lq_hand.specs.declared.hand.Phase.TheVariants as phase
use Rattle.lq_model.specs.declared.caller.By.{By}
use Rattle.lq_model.specs.declared.caller.ByText.{ByText}
use Rattle.lq_model.specs.declared.caller.Room.{Room}
use Rattle.lq_model.specs.declared.caller.Room.TheVariants.{Ordinary}
use Rattle.lq_model.specs.declared.fault.StoreFault.{StoreFault}
use Rattle.lq_model.specs.declared.fault.StoreFault.TheVariants as fault
use Rattle.lq_run.proofs.Counting.{end_disk}
use Rattle.lq_run.specs.Beside.{Asks, Beside, is_disk_result, open_after, is_disk_end, is_disk_move, is_disk_step}
use Rattle.lq_run.specs.Ends.{disk_failed}
use Rattle.lq_run.specs.Moves.{moved_of, FailsFirst}
use Rattle.lq_run.specs.Steps.{FailsAs, FailsTo, end_of, is_disk, last_end, no_turn}
use Rattle.lq_run.specs.declared.hand.Moved.{Moved}
use Rattle.lq_run.specs.declared.hand.Moved.TheVariants as moved
use Rattle.lq_run.specs.declared.runner.End.{End}
use Rattle.lq_run.specs.declared.runner.Step.{Step}
use Rattle.lq_store.specs.Calls.{Fails, MayAlone, MayBegin, MayCommit, MayEnd, MayExecute, aborted, done_alone, executed, finished, ran_alone}
use Rattle.lq_store.specs.Journal.{Entry, State, Transaction, is_open, other, other_in}
use Rattle.lq_store.specs.Work.{NoStatement, Ran, Stopped, Work, closed, kept_open, still_open, End as Ending}
use Rattle.lq_turns.specs.declared.call.Call.{Call}
use Rattle.lq_turns.specs.declared.call.Call.TheVariants.{Begin, Commit, Execute}
use Rattle.lq_turns.specs.declared.deed.Deed.{Deed}
use Rattle.lq_turns.specs.declared.stop.Refusal.{Refusal}

not_true : false ≡ true → ⊥
not_true h = Prim.cc

nothing_more : (entries : Option (List Entry)) → entries ≡ option_map (λ e. e ++ []) entries
nothing_more None = refl
nothing_more (Some e) = ap (λ l. Some l) (sym (append-nil e))

pub stays : (session : ℕ) (x : State) → x.live ≡ true → Beside session false x x
stays session x live = record { live = live; dialect = refl; limit = refl; more = []; entries = nothing_more x.entries; others = λ lives other apart. refl }

-- where nothing was changed
pub stays_as : (session : ℕ) (failed : Bool) (x y : State) → failed ≡ false → x.live ≡ true → y ≡ x → Beside session failed x y
stays_as session failed x y is live same = subst (λ b. Beside session b x y) (sym is) (subst (λ z. Beside session false x z) (sym same) (stays session x live))

-- what sessions have open

apart_from : (a session other : ℕ) → (a == session) ≡ true → nat_eq session other ≡ false → (a == other) ≡ false
apart_from a session other own apart = grind (arith, nat_tests, own, apart)

its_own : (session : ℕ) → (session == session) ≡ true
its_own session = Prim.search rules

not_its : (session other : ℕ) → nat_eq session other ≡ false → (session == other) ≡ false
not_its session other apart = grind (arith, nat_tests, apart)

others_shut : (session : ℕ) (o : Option Transaction) → is_open session o ≡ true → (other : ℕ) → nat_eq session other ≡ false → is_open other o ≡ false
others_shut session None opened other apart = refl
others_shut session (Some t) opened other apart = apart_from t.session session other opened apart

none_begun : (session : ℕ) (o : Option Transaction) → is_open session o ≡ false → other_in session o ≡ None → o ≡ None
none_begun session None shut none = refl
none_begun session (Some t) shut none = by (t.session == session) shut none where
  by : (b : Bool) → b ≡ false → cond b None (Some t.session) ≡ None → Some t ≡ None
  by true shut none = absurd (not_true (sym shut))
  by false shut none = Prim.cc

-- where the session has its own transaction open no other has
pub own_alone : (session : ℕ) (o : Option Transaction) → is_open session o ≡ true → other_in session o ≡ None
own_alone session None opened = refl
own_alone session (Some t) opened = ap (λ b. cond b None (Some t.session)) opened

still : (session : ℕ) (w : Work) (o : Option Transaction) → is_open session (still_open w o) ≡ is_open session o
still session w None = refl
still session w (Some t) = refl

none_some : (n : ℕ) (o : Option ℕ) → o ≡ None → o ≡ Some n → ⊥
none_some n o none some = Prim.cc

-- what a call leaves of its work

keeps : (session : ℕ) (w : Work) (x : State) → x.live ≡ true → Beside session false x (kept_open w x)
keeps session w x live = record { live = live; dialect = refl; limit = refl; more = w.written; entries = refl; others = λ lives other apart. still other w x.begun }

closes : (session : ℕ) (w : Work) (x : State) → x.live ≡ true → ((other : ℕ) → nat_eq session other ≡ false → is_open other x.begun ≡ false) → Beside session false x (closed w x)
closes session w x live none = record { live = live; dialect = refl; limit = refl; more = w.written; entries = refl; others = λ lives other apart. sym (none other apart) }

breaks : (session : ℕ) (written : List Entry) (x y : State) → Fails written x y → Beside session true x y
breaks session written x y fails = record { live = fails.dead; dialect = fails.dialect_is; limit = fails.limit_is; more = fails.front; entries = fails.entries_are; others = λ lives other apart. absurd (not_true (sym fails.dead ∙ lives)) }

by_end : (session : ℕ) (room : Room) (e : Ending) (written : List Entry) (left x y : State) (result : Result ℕ StoreFault) → x.live ≡ true → Beside session false x left → MayEnd room e written left x result y → Beside session (is_disk_result result) x y
by_end session room e written left x y (Ok n) live is may = subst (λ z. Beside session false x z) (sym may.1.1) is
by_end session room e written left x y (Err (fault.Refused reason)) live is may = subst (λ z. Beside session false x z) (sym may.1.1) is
by_end session room e written left x y (Err fault.NotSql) live is may = stays_as session false x y refl live may.1
by_end session room e written left x y (Err (fault.Busy n)) live is may = absurd may
by_end session room e written left x y (Err fault.Disk) live is may = breaks session written x y may
by_end session room e written left x y (Err (fault.Full used next)) live is may = stays_as session false x y refl live may.1
by_end session room e written left x y (Err fault.OutOfMemory) live is may = stays_as session false x y refl live may

open_by_end : (session : ℕ) (opened : Bool) (room : Room) (e : Ending) (written : List Entry) (left x y : State) (result : Result ℕ StoreFault) → is_open session left.begun ≡ opened → is_open session x.begun ≡ opened → MayEnd room e written left x result y
    → y.live ≡ true → is_open session y.begun ≡ opened
open_by_end session opened room e written left x y (Ok n) after before may live = subst (λ (z : State). is_open session z.begun ≡ opened) (sym may.1.1) after
open_by_end session opened room e written left x y (Err (fault.Refused reason)) after before may live = subst (λ (z : State). is_open session z.begun ≡ opened) (sym may.1.1) after
open_by_end session opened room e written left x y (Err fault.NotSql) after before may live = subst (λ (z : State). is_open session z.begun ≡ opened) (sym may.1) before
open_by_end session opened room e written left x y (Err (fault.Busy n)) after before may live = absurd may
open_by_end session opened room e written left x y (Err fault.Disk) after before may live = absurd (not_true (sym may.dead ∙ live))
open_by_end session opened room e written left x y (Err (fault.Full used next)) after before may live = subst (λ (z : State). is_open session z.begun ≡ opened) (sym may.1) before
open_by_end session opened room e written left x y (Err fault.OutOfMemory) after before may live = subst (λ (z : State). is_open session z.begun ≡ opened) (sym may) before

-- each call

module _ (session : ℕ) (x y : State) (live : x.live ≡ true) where
  pub begin_beside : (result : Result (Unit {0}) StoreFault) → is_open session x.begun ≡ false → MayBegin session x result y → Beside session (is_disk_result result) x y
  begin_beside (Ok u) shut may = subst (λ z. Beside session false x z) (sym may.1) (record {
    live = live;
    dialect = refl;
    limit = refl;
    more = [];
    entries = nothing_more x.entries;
    others = λ lives other apart. not_its session other apart ∙ sym (ap (is_open other) (none_begun session x.begun shut may.0));
  })
  begin_beside (Err (fault.Busy n)) shut may = stays_as session false x y refl live may.1
  begin_beside (Err (fault.Refused reason)) shut may = absurd may.0
  begin_beside (Err fault.NotSql) shut may = absurd may.0
  begin_beside (Err fault.Disk) shut may = absurd may.0
  begin_beside (Err (fault.Full used next)) shut may = absurd may.0
  begin_beside (Err fault.OutOfMemory) shut may = absurd may.0

  pub begin_opens : (result : Result (Unit {0}) StoreFault) → MayBegin session x result y → other session x ≡ None → is_open session y.begun ≡ true
  begin_opens (Ok u) may none = subst (λ (z : State). is_open session z.begun ≡ true) (sym may.1) (its_own session)
  begin_opens (Err (fault.Busy n)) may none = absurd (none_some n (other session x) none may.0)
  begin_opens (Err (fault.Refused reason)) may none = absurd may.0
  begin_opens (Err fault.NotSql) may none = absurd may.0
  begin_opens (Err fault.Disk) may none = absurd may.0
  begin_opens (Err (fault.Full used next)) may none = absurd may.0
  begin_opens (Err fault.OutOfMemory) may none = absurd may.0

  pub deed_beside : (by : By) (text : List ℕ) (result : Result ℕ StoreFault) → MayExecute by text x result y → Beside session (is_disk_result result) x y
  deed_beside by text result may =
      let w = (executed by text x).work in
      by_end session Ordinary (executed by text x).end w.written (kept_open w x) x y result live (keeps session w x live) may

  pub deed_opens : (by : By) (text : List ℕ) (result : Result ℕ StoreFault) → is_open session x.begun ≡ true → MayExecute by text x result y → y.live ≡ true → is_open session y.begun ≡ true
  deed_opens by text result opened may =
      let w = (executed by text x).work in
      open_by_end session true Ordinary (executed by text x).end w.written (kept_open w x) x y result (still session w x.begun ∙ opened) opened may

  pub commit_beside : (result : Result (Unit {0}) StoreFault) → is_open session x.begun ≡ true → MayCommit x result y → Beside session (is_disk_result result) x y
  commit_beside (Ok u) opened may = subst (λ z. Beside session false x z) (sym may.1) (closes session (finished x) x live (others_shut session x.begun opened))
  commit_beside (Err fault.Disk) opened may = breaks session (finished x).written x y may
  commit_beside (Err (fault.Full used next)) opened may = stays_as session false x y refl live may.1
  commit_beside (Err (fault.Refused reason)) opened may = absurd may
  commit_beside (Err fault.NotSql) opened may = absurd may
  commit_beside (Err (fault.Busy n)) opened may = absurd may
  commit_beside (Err fault.OutOfMemory) opened may = absurd may

  pub commit_opens : (result : Result (Unit {0}) StoreFault) → is_open session x.begun ≡ true → MayCommit x result y → y.live ≡ true → is_open session y.begun ≡ open_after (moved_of result) Commit
  commit_opens (Ok u) opened may lives = ap (λ (z : State). is_open session z.begun) may.1
  commit_opens (Err fault.Disk) opened may lives = absurd (not_true (sym may.dead ∙ lives))
  commit_opens (Err (fault.Full used next)) opened may lives = ap (λ (z : State). is_open session z.begun) may.1 ∙ opened
  commit_opens (Err (fault.Refused reason)) opened may lives = absurd may
  commit_opens (Err fault.NotSql) opened may lives = absurd may
  commit_opens (Err (fault.Busy n)) opened may lives = absurd may
  commit_opens (Err fault.OutOfMemory) opened may lives = absurd may

  pub abort_beside : is_open session x.begun ≡ true → y ≡ aborted x → Beside session false x y
  abort_beside opened after = subst (λ z. Beside session false x z) (sym after) (record {
    live = live;
    dialect = refl;
    limit = refl;
    more = [];
    entries = nothing_more x.entries;
    others = λ lives other apart. sym (others_shut session x.begun opened other apart);
  })

  pub abort_opens : y ≡ aborted x → is_open session y.begun ≡ false
  abort_opens after = ap (λ (z : State). is_open session z.begun) after

  module _ (texts : List ByText) (room : Room) (shut : is_open session x.begun ≡ false) where
    abbrev left : State
    left = closed (done_alone texts x).work x

    closes_alone : other session x ≡ None → Beside session false x left
    closes_alone none = closes session (done_alone texts x).work x live (λ other apart. ap (is_open other) (none_begun session x.begun shut none))

    ends_alone : (result : Result ℕ StoreFault) → other session x ≡ None → MayEnd room (done_alone texts x).end (done_alone texts x).work.written left x result y → Beside session (is_disk_result result) x y
    ends_alone result none may = by_end session room (done_alone texts x).end (done_alone texts x).work.written left x y result live (closes_alone none) may

    shut_alone : (result : Result ℕ StoreFault) → MayEnd room (done_alone texts x).end (done_alone texts x).work.written left x result y → y.live ≡ true → is_open session y.begun ≡ false
    shut_alone result may lives = open_by_end session false room (done_alone texts x).end (done_alone texts x).work.written left x y result refl shut may lives

    ran_left : (e : Ending) (u : Unit {0}) → MayEnd room e (done_alone texts x).work.written left x (ran_alone (Ok u) e) y → y ≡ left
    ran_left (Ran n) u may = may.1.1
    ran_left (Stopped reason) u may = may.1.1
    ran_left NoStatement u may = may.1.1

    pub alone_beside : (result : Result (Unit {0}) StoreFault) → MayAlone session texts room x result y → Beside session (is_disk_result result) x y
    alone_beside (Err (fault.Busy n)) may = stays_as session false x y refl live may.1
    alone_beside (Ok u) may = subst (λ z. Beside session false x z) (sym (ran_left (done_alone texts x).end u may.1)) (closes_alone may.0)
    alone_beside (Err fault.Disk) may = ends_alone (Err fault.Disk) may.0 may.1
    alone_beside (Err (fault.Full used next)) may = ends_alone (Err (fault.Full used next)) may.0 may.1
    alone_beside (Err fault.OutOfMemory) may = ends_alone (Err fault.OutOfMemory) may.0 may.1
    alone_beside (Err (fault.Refused reason)) may = ends_alone (Err (fault.Refused reason)) may.0 may.1
    alone_beside (Err fault.NotSql) may = ends_alone (Err fault.NotSql) may.0 may.1

    pub alone_shuts : (result : Result (Unit {0}) StoreFault) → MayAlone session texts room x result y → y.live ≡ true → is_open session y.begun ≡ false
    alone_shuts (Err (fault.Busy n)) may lives = ap (λ (z : State). is_open session z.begun) may.1 ∙ shut
    alone_shuts (Ok u) may lives = ap (λ (z : State). is_open session z.begun) (ran_left (done_alone texts x).end u may.1)
    alone_shuts (Err fault.Disk) may lives = shut_alone (Err fault.Disk) may.1 lives
    alone_shuts (Err (fault.Full used next)) may lives = shut_alone (Err (fault.Full used next)) may.1 lives
    alone_shuts (Err fault.OutOfMemory) may lives = shut_alone (Err fault.OutOfMemory) may.1 lives
    alone_shuts (Err (fault.Refused reason)) may lives = shut_alone (Err (fault.Refused reason)) may.1 lives
    alone_shuts (Err fault.NotSql) may lives = shut_alone (Err fault.NotSql) may.1 lives

-- what became of a call of a turn

move_disk : (result : Result (Unit {0}) StoreFault) → is_disk_move (moved_of result) ≡ is_disk_result result
move_disk (Ok u) = refl
move_disk (Err (fault.Refused reason)) = refl
move_disk (Err fault.NotSql) = refl
move_disk (Err (fault.Busy n)) = refl
move_disk (Err fault.Disk) = refl
move_disk (Err (fault.Full used next)) = refl
move_disk (Err fault.OutOfMemory) = refl

pub move_beside : (session : ℕ) (x y : State) (result : Result (Unit {0}) StoreFault) (to : Moved) → to ≡ moved_of result → Beside session (is_disk_result result) x y → Beside session (is_disk_move to) x y
move_beside session x y result to is beside = subst (λ b. Beside session b x y) (sym (ap is_disk_move is ∙ move_disk result)) beside

begin_after : (to : Moved) → open_after to Begin ≡ true
begin_after moved.On = refl
begin_after (moved.Refused reason) = refl
begin_after (moved.Failed why) = refl
begin_after moved.Lack = refl

deed_after : (to : Moved) (deed : Deed) → open_after to (Execute deed) ≡ true
deed_after moved.On deed = refl
deed_after (moved.Refused reason) deed = refl
deed_after (moved.Failed why) deed = refl
deed_after moved.Lack deed = refl

pub opens_begin : (session : ℕ) (y : State) (to : Moved) (call : Call) → call ≡ Begin → is_open session y.begun ≡ true → is_open session y.begun ≡ open_after to call
opens_begin session y to call is opened = opened ∙ sym (ap (open_after to) is ∙ begin_after to)

pub opens_deed : (session : ℕ) (y : State) (to : Moved) (call : Call) (deed : Deed) → call ≡ Execute deed → is_open session y.begun ≡ true → is_open session y.begun ≡ open_after to call
opens_deed session y to call deed is opened = opened ∙ sym (ap (open_after to) is ∙ deed_after to deed)

pub opens_commit : (session : ℕ) (y : State) (to : Moved) (call : Call) (result : Result (Unit {0}) StoreFault) → call ≡ Commit → to ≡ moved_of result → is_open session y.begun ≡ open_after (moved_of result) Commit
    → is_open session y.begun ≡ open_after to call
opens_commit session y to call result is same opened = opened ∙ sym (ap (λ m. open_after m call) same ∙ ap (open_after (moved_of result)) is)

-- the first of the calls in hand was made
pub next_on : (d : Dialect) (opened now : Bool) (calls left : List Call) (call : Call) → calls ≡ left ++ call ∷ [] → AreTurns d opened (reverse calls) → now ≡ opens call → AreTurns d now (reverse left)
next_on d opened now calls left call is turns same = subst (λ o. AreTurns d o (reverse left)) (sym same) (subst (AreTurns d opened) (last_first calls left call is) turns).1

-- of a step

pub set_inside : (d : Dialect) (at : Phase) (calls : List Call) (opened : Bool) → at ≡ phase.Inside → AreTurns d opened calls → Asks d at calls opened
set_inside d at calls opened is turns = subst (λ p. Asks d p calls opened) (sym is) turns

pub set_back : (d : Dialect) (at : Phase) (calls : List Call) (opened : Bool) → at ≡ phase.GivingUp → opened ≡ true → Asks d at calls opened
set_back d at calls opened is there = subst (λ p. Asks d p calls opened) (sym is) there

pub set_none : (d : Dialect) (hand : Hand) (opened : Bool) → hand ≡ no_turn → opened ≡ false → Asks d hand.phase (calls_left hand) opened
set_none d hand opened is shut = subst (λ (h : Hand). Asks d h.phase (calls_left h) opened) (sym is) shut

pub set_over : (d : Dialect) (at : Phase) (calls : List Call) (opened : Bool) → at ≡ phase.Over → opened ≡ false → Asks d at calls opened
set_over d at calls opened is shut = subst (λ p. Asks d p calls opened) (sym is) shut

-- after a fault
pub set_failed : (d : Dialect) (why : StoreFault) (at : Phase) (calls : List Call) (after : Option StoreFault) (result : Step) (opened lives : Bool) → FailsTo why at after result → lives ≡ not (is_disk why) → lives ≡ true → opened ≡ true → Asks d at calls opened
set_failed d why at calls after result opened lives fails told live there = by (is_disk why) fails told where
  by : (b : Bool) → FailsAs b why at after result → lives ≡ not b → Asks d at calls opened
  by true failed told = absurd (not_true (sym told ∙ live))
  by false failed told = set_back d at calls opened failed.1 there

pub failed_beside : (session : ℕ) (x y : State) (why : StoreFault) (result : Step) → is_disk_step result ≡ is_disk why → Beside session (is_disk why) x y → Beside session (is_disk_step result) x y
failed_beside session x y why result is beside = subst (λ b. Beside session b x y) (sym is) beside

last_disk : (f : Option StoreFault) (r : Option Refusal) → disk_failed f ≡ false → is_disk_end (last_end f r) ≡ false
last_disk None None healthy = refl
last_disk None (Some refusal) healthy = refl
last_disk (Some why) r healthy = end_disk why ∙ healthy

-- at the end of a command
pub ended_beside : (session : ℕ) (x y : State) (f : Option StoreFault) (r : Option Refusal) (e : End) → disk_failed f ≡ false → e ≡ last_end f r → Beside session false x y → Beside session (is_disk_end e) x y
ended_beside session x y f r e healthy is beside = subst (λ b. Beside session b x y) (sym (ap is_disk_end is ∙ last_disk f r healthy)) beside

pub fault_beside : (session : ℕ) (x y : State) (why : StoreFault) (e : End) → e ≡ end_of why → Beside session (is_disk why) x y → Beside session (is_disk_end e) x y
fault_beside session x y why e is beside = subst (λ b. Beside session b x y) (sym (ap is_disk_end is ∙ end_disk why)) beside

pub fault_stays : (session : ℕ) (x : State) (f : Option StoreFault) (why : StoreFault) (e : End) → x.live ≡ true → f ≡ Some why → disk_failed f ≡ false → e ≡ end_of why → Beside session (is_disk_end e) x x
fault_stays session x f why e live some healthy is = stays_as session (is_disk_end e) x x (ap is_disk_end is ∙ end_disk why ∙ sym (ap disk_failed some) ∙ healthy) live refl

-- before the lock is taken the disk is not asked
pub first_beside : (session : ℕ) (x : State) (why : StoreFault) → x.live ≡ true → FailsFirst session x why → Beside session (is_disk why) x x
first_beside session x fault.OutOfMemory live fails = stays session x live
first_beside session x (fault.Busy n) live fails = stays session x live
first_beside session x fault.Disk live fails = absurd fails
first_beside session x fault.NotSql live fails = absurd fails
first_beside session x (fault.Full used next) live fails = absurd fails
first_beside session x (fault.Refused reason) live fails = absurd fails
