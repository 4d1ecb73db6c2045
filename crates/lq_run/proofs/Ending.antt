-- Step after step to the end.
use Rattle.std.proofs.Common.{ap, inl, inr, rules, subst, sym, ◌∙◌}
use Rattle.std.specs.Prelude.{Bool, List, None, Option, Some, [], false, refl, true, ℕ, ◌==◌, ◌++◌, ◌||◌, ◌∷◌, ◌≡◌, ◌≢◌, ◌⊎◌}
use Rattle.lq_base.specs.declared.dialect.Dialect.{Dialect}
use Rattle.lq_model.specs.declared.caller.Room.{Room}
use Rattle.lq_model.specs.declared.caller.Room.TheVariants.{Ordinary, Release}
use Rattle.lq_model.specs.declared.fault.StoreFault.{StoreFault}
use Rattle.lq_model.specs.declared.fault.StoreFault.TheVariants as fault
use Rattle.lq_store.specs.Journal.{State, Transaction, is_open}
use Rattle.lq_turns.specs.Deed.{Contents}
use Rattle.lq_turns.specs.Session.{Both, are_accepted, went, Session, all_called, called, room_of}
use Rattle.lq_turns.specs.Rest.{GivingUp, Inside, NoMore, Over, Place, Turns, between, if_goes_on, rest, turns_calls, both_of}
use Rattle.lq_turns.specs.Script.{closing}
use Rattle.lq_turns.specs.Set.{Meaning}
use Rattle.lq_turns.specs.declared.call.Call.{Call}
use Rattle.lq_turns.specs.declared.call.Call.TheVariants.{Abort, Alone, Begin, Commit, Execute}
use Rattle.lq_turns.specs.declared.deed.Deed.{Deed}
use Rattle.lq_turns.specs.declared.stamp.Stamp.{Stamp}
use Rattle.lq_turns.specs.declared.stop.Refusal.{Refusal}
use Rattle.lq_turns.specs.Turn.{made}
use Rattle.lq_hand.specs.Hand.{AreTurns, IsReady, calls_left, hand_place}
use Rattle.lq_hand.specs.declared.hand.Phase.{Phase}
use Rattle.lq_hand.specs.declared.hand.Phase.TheVariants as phase
use Rattle.lq_run.proofs.Full.{full_before}
use Rattle.lq_run.proofs.Grows.{calls_grow, came_on}
use Rattle.lq_run.proofs.Keeping.{call_holds}
use Rattle.lq_run.specs.Does.{Breaks, Faults}
use Rattle.lq_run.specs.Ends.{AllHoldOn, AreLast, BreaksBefore, CameFrom, EndsAs, GoesOnBy, HoldsOn, IsBefore, IsFullSince, IsLastCall, IsOnWay, IsRunning, IsToCome, KeepsFull, KeepsLock, LetsGo, Reaches, RestsAs, RestsBefore, RestsShort, RestsShortAs, StandsBefore, StaysFull, at_end, disk_failed}
use Rattle.lq_run.specs.Stands.{IsBare, IsHeld, IsBegun, Stands}
use Rattle.lq_run.specs.Moves.{Goes, IsAt, Meets}
use Rattle.lq_run.specs.Steps.{Advances, Closes, Ends, EndsStep, Falls, Standing, Steps, StepsAs, TakesBack, TellsAs, end_of, is_disk, is_over, last_end, place, turns_of}
use Rattle.lq_run.specs.declared.runner.End.{End}
use Rattle.lq_run.specs.declared.runner.Step.TheVariants as step

self_eq : (n : ℕ) → (n == n) ≡ true
self_eq n = Prim.search rules

not_true : false ≡ true → ⊥
not_true h = Prim.cc

some_none : {why : StoreFault} → (let o : Option StoreFault = Some why in o) ≡ None → ⊥
some_none h = Prim.cc

no_memory : {used more : ℕ} → fault.OutOfMemory ≡ fault.Full used more → ⊥
no_memory h = Prim.cc

same_some : {a b : StoreFault} → (let o : Option StoreFault = Some a in o) ≡ Some b → a ≡ b
same_some h = Prim.cc

not_healthy : (f : Option StoreFault) (why : StoreFault) → f ≡ Some why → f ≡ None → ⊥
not_healthy f why is none = some_none (sym is ∙ none)

head_is : {c k : Call} {cs ks : List Call} → c ∷ cs ≡ k ∷ ks → c ≡ k
head_is h = Prim.cc

tail_is : {c k : Call} {cs ks : List Call} → c ∷ cs ≡ k ∷ ks → cs ≡ ks
tail_is h = Prim.cc

not_nil : {c : Call} {cs : List Call} → c ∷ cs ≡ [] → ⊥
not_nil h = Prim.cc

rooms_differ : (let room : Room = Ordinary in room) ≡ Release → ⊥
rooms_differ h = Prim.cc

not_executed : {deed : Deed} → Execute deed ≡ closing → ⊥
not_executed h = Prim.cc

not_committed : Commit ≡ closing → ⊥
not_committed h = Prim.cc

not_aborted : Abort ≡ closing → ⊥
not_aborted h = Prim.cc

pub some_last : (calls : List Call) → calls ++ closing ∷ [] ≢ []
some_last [] h = not_nil h
some_last (call ∷ calls) h = not_nil h

-- the call that frees the lock is the last
pub only_last : (front : List Call) (call : Call) → call ∷ [] ≡ front ++ closing ∷ [] → call ≡ closing
only_last [] call is = head_is is
only_last (c ∷ front) call is = absurd (some_last front (sym (tail_is is)))

pub keeps_split : (who : List ℕ) (call : Call) (more front : List Call) → call ∷ more ≡ front ++ closing ∷ [] → more ≢ [] → AllHoldOn who front → HoldsOn who call × KeepsLock who more
keeps_split who call more [] is some all = absurd (some (tail_is is))
keeps_split who call more (c ∷ front) is some all = (subst (HoldsOn who) (sym (head_is is)) all.0, record { front = front; is = tail_is is; holds = all.1 })

-- of the calls of a turn none has room to free the lock
holds_ordinary : (who : List ℕ) (call : Call) → HoldsOn who call → room_of call ≡ Release → ⊥
holds_ordinary who Begin on room = rooms_differ room
holds_ordinary who (Execute deed) on room = rooms_differ room
holds_ordinary who Commit on room = rooms_differ room
holds_ordinary who Abort on room = rooms_differ room
holds_ordinary who (Alone deeds r) on room = on

frees_last : (who : List ℕ) (front : List Call) (call : Call) (more : List Call) → call ∷ more ≡ front ++ closing ∷ [] → AllHoldOn who front → room_of call ≡ Release → call ≡ closing
frees_last who [] call more is all room = head_is is
frees_last who (c ∷ front) call more is all room = absurd (holds_ordinary who c all.0 (sym (ap room_of (head_is is)) ∙ room))

module _ {Key : Type 0} (d : Dialect) (m : Meaning Key) (stamp : Stamp) (number : ℕ) where
  pub opened_is : (start x : State) (s : Session) → Stands start number x s → is_open number x.begun ≡ s.is_open
  opened_is start x s stands = by x.begun stands.begun where
    by : (o : Option Transaction) → IsBegun start.dialect number s o → is_open number o ≡ s.is_open
    by None begun = sym begun.0
    by (Some t) begun = subst (λ n. (t.session == n) ≡ true) begun.1 (self_eq t.session) ∙ sym begun.0

  pub ready_at : (p : Place Key) (start x : State) (s : Session) → IsAt d m stamp number p x start s → IsReady d (is_open number x.begun) p
  ready_at p start x s is = subst (λ o. IsReady d o p) (sym (opened_is start x s is.stands)) is.ready

  rest_left : (at : Phase) (calls : List Call) (goes_on : Bool) (turns : Turns Key) (x : Both) → is_over at ≡ false → rest d m stamp (hand_place at calls goes_on turns) x ≢ []
  rest_left phase.Inside calls goes_on turns x h = some_last (made d calls x.1 ++ turns_calls d m stamp (if_goes_on (are_accepted d calls x.1 || goes_on) turns) (went d calls x).0)
  rest_left phase.GivingUp calls goes_on turns x h = λ e. not_nil e
  rest_left phase.Over calls goes_on turns x h = absurd (not_true (sym h))

  -- at the call that frees the lock no transaction is open
  shut_inside : (calls : List Call) (opened : Bool) (c : Contents) (others more : List Call) → AreTurns d opened calls → made d calls c ++ others ++ closing ∷ [] ≡ closing ∷ more → opened ≡ false
  shut_inside [] opened c others more turns is = turns
  shut_inside (Begin ∷ calls) opened c others more turns is = turns.0
  shut_inside (Execute deed ∷ calls) opened c others more turns is = absurd (not_executed (head_is is))
  shut_inside (Commit ∷ calls) opened c others more turns is = absurd (not_committed (head_is is))
  shut_inside (Abort ∷ calls) opened c others more turns is = absurd turns.0
  shut_inside (Alone deeds room ∷ calls) opened c others more turns is = absurd turns.0

  shut_at : (p : Place Key) (opened : Bool) (x : Both) (more : List Call) → IsReady d opened p → rest d m stamp p x ≡ closing ∷ more → opened ≡ false
  shut_at (Inside calls goes_on turns) opened x more ready is = shut_inside calls opened x.1 (turns_calls d m stamp (if_goes_on (are_accepted d calls x.1 || goes_on) turns) (went d calls x).0) more ready is
  shut_at (GivingUp turns) opened x more ready is = absurd (not_aborted (head_is is))
  shut_at Over opened x more ready is = ready

  -- a call of the way
  along : (p q : Place Key) (start : State) (s : Session) (y : State) (is : Goes d m stamp number p q start s y) → at_end d m stamp number q is.after ≡ at_end d m stamp number p s
  along p q start s y is = ap (λ z. all_called d (rest d m stamp q (both_of is.after)) z) is.went.is ∙ sym (ap (λ calls. all_called d calls s) is.went.next)

  -- a fault that is not the disk's

  still_live : (why : StoreFault) (call : Call) (start : State) (s : Session) (x y : State) (room : Room) → Faults start number x s room call why y → y.live ≡ true → is_disk why ≡ false
  still_live fault.Disk call start s x y room faults live = absurd (not_true (sym faults.fails.dead ∙ live))
  still_live (fault.Full used next) call start s x y room faults live = refl
  still_live fault.OutOfMemory call start s x y room faults live = refl
  still_live (fault.Busy n) call start s x y room faults live = refl
  still_live fault.NotSql call start s x y room faults live = refl
  still_live (fault.Refused reason) call start s x y room faults live = refl

  -- the end

  module _ (start : State) (first last : Session) (met : Option StoreFault) (s : Session) (x y : State) (stands : Stands start number x s) (same_dialect : start.dialect ≡ d) (came : CameFrom d first s) (way : IsBefore s last) where
    begun_none : s.is_open ≡ false → s.begun ≡ []
    begun_none = by x.begun stands.begun where
      by : (o : Option Transaction) → IsBegun start.dialect number s o → s.is_open ≡ false → s.begun ≡ []
      by None begun shut = begun.2
      by (Some t) begun shut = absurd (not_true (sym shut ∙ begun.0))

    stands_still : y ≡ x → StandsBefore d m stamp number start first last y
    stands_still is = (s, came, way, inl (subst (λ z. Stands start number z s) (sym is) stands))

    rests_there : (used more : ℕ) → s.is_open ≡ false → RestsAs d m stamp number start first last true met used more s y → RestsBefore d m stamp number start first last true met used more y
    rests_there used more shut rests = record { s = s; came = came; before = way; shut = (shut, begun_none shut); rests = rests }

    short_there : s.is_open ≡ false → RestsShortAs d m stamp number start first last true s y → RestsShort d m stamp number start first last true y
    short_there shut rests = record { s = s; came = came; before = way; shut = (shut, begun_none shut); rests = rests }

    -- there was no memory for the call that frees the lock
    short_held : IsHeld stamp s.committed.lock → y ≡ x → RestsShortAs d m stamp number start first last true s y
    short_held held is = by held where
      still : Stands start number y s
      still = subst (λ z. Stands start number z s) (sym is) stands

      by : IsHeld stamp s.committed.lock → RestsShortAs d m stamp number start first last true s y
      by (inl bare) = inr (still, inl bare)
      by (inr marked) = inl (inr (marked, still))

    -- the disk failed at a call on the way, or at the one that frees a lock without a mark
    breaks : (p : Place Key) (room : Room) (is : Meets d m stamp number p start s x room fault.Disk y) → IsToCome d m stamp number start first last is.call s → BreaksBefore d m stamp number start first last y
    breaks p room is next = record { s = s; x = x; stands = stands; came = came; call = is.call; breaks = subst (λ e. Breaks e is.call s x y) same_dialect is.faults; before = next }

    -- the call that frees the lock met a fault
    meets : (p : Place Key) (why : StoreFault) (is : Meets d m stamp number p start s x Release why y) → IsHeld stamp s.committed.lock → is.call ≡ closing → s.is_open ≡ false → IsToCome d m stamp number start first last is.call s → GoesOnBy d m stamp number start first last is.call s
        → EndsAs d m stamp number start first last true met (end_of why) y
    meets p fault.Disk is held closes shut next goes_on = breaks p Release is next
    meets p (fault.Full used more) is held closes shut next goes_on =
        let full = full_before d m stamp number start first last s x stands same_dialect came is.call Release used more is.by (inr (closes, begun_none shut)) next goes_on is.faults.0 in (
          stands_still is.faults.1,
          rests_there used more shut (inr (subst (λ z. Stands start number z s) (sym is.faults.1) stands, ((full.0, ap (λ (t : Session). t.entries) (sym full.1)), inl (full.2 ∙ closes)))),
        )
    meets p fault.OutOfMemory is held closes shut next goes_on = (stands_still is.faults, short_there shut (short_held held is.faults))
    meets p (fault.Busy n) is held closes shut next goes_on = absurd is.faults
    meets p fault.NotSql is held closes shut next goes_on = absurd is.faults
    meets p (fault.Refused reason) is held closes shut next goes_on = absurd is.faults

    -- after a fault the lock is freed, or has a mark
    lets_go : (calls : List Call) (why : StoreFault) → is_disk why ≡ false → KeepsFull d m stamp number start first last met s calls (Some why) → s.is_open ≡ false → StandsBefore d m stamp number start first last y
        → LetsGo d m stamp number start first last s y → EndsAs d m stamp number start first last true met (end_of why) y
    lets_go calls fault.Disk other kept shut is lock = absurd (not_true (sym other))
    lets_go calls (fault.Full used more) other kept shut is lock = (is, rests_there used more shut (inl (since (kept used more refl), lock))) where
      since : (StaysFull d m stamp number start first last used more s × AreLast calls) ⊎ (met ≡ Some (fault.Full used more)) → IsFullSince d m stamp number start first last met used more s
      since (inl full) = inl full.0
      since (inr before) = inr before
    lets_go calls fault.OutOfMemory other kept shut is lock = (is, short_there shut (inl lock))
    lets_go calls (fault.Busy n) other kept shut is lock = (is, short_there shut (inl lock))
    lets_go calls fault.NotSql other kept shut is lock = (is, short_there shut (inl lock))
    lets_go calls (fault.Refused reason) other kept shut is lock = (is, short_there shut (inl lock))

    closes_bare : (p : Place Key) (calls : List Call) (why : StoreFault) (e : End) → is_disk why ≡ false → KeepsFull d m stamp number start first last met s calls (Some why) → IsBare stamp s.committed.lock
        → ((call : Call) (more : List Call) → rest d m stamp p (both_of s) ≡ call ∷ more → room_of call ≡ Release → (call ≡ closing))
        → ((call : Call) → rest d m stamp p (both_of s) ≡ call ∷ [] → call ≡ closing)
        → ((call : Call) (more : List Call) → rest d m stamp p (both_of s) ≡ call ∷ more → call ≡ closing → s.is_open ≡ false)
        → Closes d m stamp number p (end_of why) start s x e y → EndsAs d m stamp number start first last true met e y
    closes_bare p calls why e other kept bare at_room only shut (inl went) =
        let is = went.0 in
        let closed = shut is.went.call [] is.went.next (only is.went.call is.went.next) in
        let ends : is.after ≡ called d closing s = is.went.is ∙ ap (λ c. called d c s) (only is.went.call is.went.next) in
        let there : Stands start number y (called d closing s) = subst (Stands start number y) ends is.at.stands in
        subst (λ a. EndsAs d m stamp number start first last true met a y) (sym went.1) (lets_go calls why other kept closed (s, came, way, inr (bare, begun_none closed, there)) (inl (bare, there)))
    closes_bare p calls why e other kept bare at_room only shut (inr failed) =
        let it = failed.1 in
        let frees_it = at_room it.call it.more it.next it.by in
        let closed = shut it.call it.more it.next frees_it in
        subst (λ a. EndsAs d m stamp number start first last true met a y) (sym failed.2) (meets p failed.0 it (inl bare) frees_it closed (inr (frees_it, bare, begun_none closed, way)) (inr (inr frees_it)))

    ends_bare : (p : Place Key) (calls : List Call) (why : StoreFault) (refused : Option Refusal) (e : End) → is_disk why ≡ false → KeepsFull d m stamp number start first last met s calls (Some why) → s.is_open ≡ false
        → ((call : Call) (more : List Call) → rest d m stamp p (both_of s) ≡ call ∷ more → room_of call ≡ Release → (call ≡ closing))
        → ((call : Call) → rest d m stamp p (both_of s) ≡ call ∷ [] → call ≡ closing)
        → ((call : Call) (more : List Call) → rest d m stamp p (both_of s) ≡ call ∷ more → call ≡ closing → s.is_open ≡ false)
        → Ends d m stamp number p (Some why) refused start s x e y → EndsAs d m stamp number start first last true met e y
    ends_bare p calls why refused e other kept closed at_room only shut (inl bare) = closes_bare p calls why e other kept bare.0 at_room only shut bare.1
    ends_bare p calls why refused e other kept closed at_room only shut (inr marked) =
        subst (λ a. EndsAs d m stamp number start first last true met a y) (sym marked.2) (lets_go calls why other kept closed (stands_still marked.1) (inr (marked.0, subst (λ z. Stands start number z s) (sym marked.1) stands)))

module _ {Key Told : Type 0} (d : Dialect) (m : Meaning Key) (stamp : Stamp) (number : ℕ) where
  pub left_after : (r : Standing Key Told) (x : Both) → is_over r.hand.phase ≡ false → rest d m stamp (place r) x ≢ []
  left_after r x = rest_left d m stamp number r.hand.phase (calls_left r.hand) r.hand.goes_on (turns_of r) x

  pub before_last : (r : Standing Key Told) (s last : Session) → IsOnWay d m stamp number r s last → IsBefore s last
  before_last r s last (inl same) = subst (IsBefore s) same (calls_grow d (rest d m stamp (place r) (both_of s)) s)
  before_last r s last (inr fell) = fell.3

  -- after the last call but one

  module _ (start : State) (last : Session) (told : Told) (before after : Standing Key Told) (s : Session) (y : State) (more : is_over after.hand.phase ≡ false) (on : Advances d m stamp number before after told start s y) where
    abbrev goes : Goes d m stamp number (place before) (place after) start s y
    goes = on.goes

    goes_last : (why : StoreFault) → before.fault ≡ Some why → IsBefore s last → AreLast (rest d m stamp (place before) (both_of s)) → IsOnWay d m stamp number after goes.after last
    goes_last why is way (inl closes) = absurd (left_after after (both_of goes.after) more (tail_is (sym goes.went.next ∙ closes)))
    goes_last why is way (inr aborts) =
        let next = sym goes.went.next ∙ aborts in
        let ends : goes.after ≡ called d Abort s = goes.went.is ∙ ap (λ c. called d c s) (head_is next) in
        inr (why, on.fault ∙ is, inl (tail_is next), subst (λ z. IsBefore z last) (sym ends) (record { more = way.more; entries = way.entries }))

    goes_on_way : IsOnWay d m stamp number before s last → IsOnWay d m stamp number after goes.after last
    goes_on_way (inl same) = inl (along d m stamp number (place before) (place after) start s y goes ∙ same)
    goes_on_way (inr fell) = goes_last fell.0 fell.1 fell.3 fell.2

    goes_on : (x : State) (first : Session) → CameFrom d first s → IsRunning d m stamp number before x start s told → IsOnWay d m stamp number before s last → (there : Reaches d m stamp number after y start first last told) × (there.session ≡ goes.after)
    goes_on x first came is way =
        let split = keeps_split stamp.who goes.went.call (rest d m stamp (place after) (both_of goes.after)) is.keeps.front (sym goes.went.next ∙ is.keeps.is) (left_after after (both_of goes.after) more) is.keeps.holds in
        let held = call_holds stamp d goes.went.call s split.0 (is.committed, is.seen) in (
          record {
            session = goes.after;
            came = subst (CameFrom d first) (sym goes.went.is) (came_on d first s goes.went.call came);
            is = record {
              there = record { at = goes.at; known = on.known };
              committed = subst (λ z. IsHeld stamp z.committed.lock) (sym goes.went.is) held.0;
              seen = subst (λ z. IsHeld stamp z.seen.lock) (sym goes.went.is) held.1;
              keeps = split.1;
              disk = ap disk_failed on.fault ∙ is.disk;
            };
            way = goes_on_way way;
          },
          refl,
        )

    -- after a full journal only what was begun is taken back
    goes_full : (first : Session) (met : Option StoreFault) → KeepsFull d m stamp number start first last met s (rest d m stamp (place before) (both_of s)) before.fault
        → KeepsFull d m stamp number start first last met goes.after (rest d m stamp (place after) (both_of goes.after)) after.fault
    goes_full first met kept = λ used next same. by used next (kept used next (sym on.fault ∙ same)) where
      stays : (used next : ℕ) (full : StaysFull d m stamp number start first last used next s) → AreLast (rest d m stamp (place before) (both_of s))
          → StaysFull d m stamp number start first last used next goes.after × AreLast (rest d m stamp (place after) (both_of goes.after))
      stays used next full (inl closes) = absurd (left_after after (both_of goes.after) more (tail_is (sym goes.went.next ∙ closes)))
      stays used next full (inr aborts) =
          let calls = sym goes.went.next ∙ aborts in
          let ends : goes.after ≡ called d Abort s = goes.went.is ∙ ap (λ c. called d c s) (head_is calls) in
          ((full.0, ap (λ (t : Session). t.entries) ends ∙ full.1), inl (tail_is calls))

      by : (used next : ℕ) → (StaysFull d m stamp number start first last used next s × AreLast (rest d m stamp (place before) (both_of s))) ⊎ (met ≡ Some (fault.Full used next))
          → (StaysFull d m stamp number start first last used next goes.after × AreLast (rest d m stamp (place after) (both_of goes.after))) ⊎ (met ≡ Some (fault.Full used next))
      by used next (inl full) = inl (stays used next full.0 full.1)
      by used next (inr said) = inr said

  falls : (before after : Standing Key Told) (told : Told) (start : State) (first last s : Session) (x y : State) → Falls d m stamp number before after start s x y → CameFrom d first s → IsRunning d m stamp number before x start s told → IsBefore s last → (there : Reaches d m stamp number after y start first last told) × (there.session ≡ s)
  falls before after told start first last s x y fell came is way =
      let left : rest d m stamp (place after) (both_of s) ≡ Abort ∷ closing ∷ [] = ap (λ p. rest d m stamp p (both_of s)) fell.gives_up in (
        record {
          session = s;
          came = came;
          is = record {
            there = record { at = fell.at; known = λ healthy. absurd (not_healthy after.fault fell.why fell.fault healthy) };
            committed = is.committed;
            seen = is.seen;
            keeps = record { front = Abort ∷ []; is = left; holds = (tt, tt) };
            disk = ap disk_failed fell.fault ∙ still_live d m stamp number fell.why fell.meets.call start s x y Ordinary fell.meets.faults fell.at.stands.live;
          };
          way = inr (fell.why, fell.fault, inr left, way);
        },
        refl,
      )

  pub takes_back : (before after : Standing Key Told) (told : Told) (start : State) (first last s : Session) (x y : State) → TakesBack d m stamp number after start s y → CameFrom d first s → IsRunning d m stamp number before x start s told → IsBefore s last → (there : Reaches d m stamp number after y start first last told) × (there.session ≡ called d Abort s)
  takes_back before after told start first last s x y back came is way =
      let left : rest d m stamp (place after) (both_of (called d Abort s)) ≡ closing ∷ [] = ap (λ p. rest d m stamp p (both_of (called d Abort s))) back.ends_turns in (
        record {
          session = called d Abort s;
          came = came_on d first s Abort came;
          is = record {
            there = record { at = back.at; known = λ healthy. absurd (not_healthy after.fault fault.OutOfMemory back.fault healthy) };
            committed = is.committed;
            seen = is.committed;
            keeps = record { front = []; is = left; holds = tt };
            disk = ap disk_failed back.fault;
          };
          way = inr (fault.OutOfMemory, back.fault, inl left, record { more = way.more; entries = way.entries });
        },
        refl,
      )

  module _ (before : Standing Key Told) (told : Told) (start : State) (first last : Session) (x y : State) (is : Reaches d m stamp number before x start first last told) where
    abbrev s : Session
    s = is.session

    here : IsRunning d m stamp number before x start s told
    here = is.is

    abbrev calls : List Call
    calls = rest d m stamp (place before) (both_of s)

    way : IsBefore s last
    way = before_last before s last is.way

    pub on_way : (call : Call) (more : List Call) → calls ≡ call ∷ more → room_of call ≡ Ordinary → IsBefore (called d call s) last
    on_way call more next room = by is.way where
      by : IsOnWay d m stamp number before s last → IsBefore (called d call s) last
      by (inl same) = subst (IsBefore (called d call s)) (sym (ap (λ cs. all_called d cs s) next) ∙ same) (calls_grow d more (called d call s))
      by (inr fell) = by_last fell.2 where
        by_last : AreLast calls → IsBefore (called d call s) last
        by_last (inl closes) = absurd (rooms_differ (sym room ∙ ap room_of (head_is (sym next ∙ closes))))
        by_last (inr aborts) = subst (λ c. IsBefore (called d c s) last) (sym (head_is (sym next ∙ aborts))) (record { more = way.more; entries = way.entries })

    goes_on_by : (call : Call) (more : List Call) → calls ≡ call ∷ more → GoesOnBy d m stamp number start first last call s
    goes_on_by call more next = elim is.way [
      | inl same ↦ inl (more, sym (ap (λ cs. all_called d cs s) next) ∙ same)
      | inr fell ↦ inr (by_last fell.2)
    ] where
      by_last : AreLast calls → IsLastCall call
      by_last (inl closes) = inr (head_is (sym next ∙ closes))
      by_last (inr aborts) = inl (head_is (sym next ∙ aborts))

    -- without a fault so far
    pub at_last : before.fault ≡ None → at_end d m stamp number (place before) s ≡ last
    at_last none = by is.way where
      by : IsOnWay d m stamp number before s last → at_end d m stamp number (place before) s ≡ last
      by (inl same) = same
      by (inr fell) = absurd (some_none (sym fell.1 ∙ none))

    -- where it ends its source has told all
    pub tells : (after : Standing Key Told) (e : End) → Steps d m stamp number before after x (step.Ended e) y → TellsAs (after.way d stamp told) e
    tells after e steps = (steps start s told here.there (λ there. here.committed)).1

    -- a call with the room that frees the lock does so, and no transaction is open there

    frees_it : (call : Call) (more : List Call) → calls ≡ call ∷ more → room_of call ≡ Release → call ≡ closing
    frees_it call more next room = frees_last stamp.who here.keeps.front call more (sym next ∙ here.keeps.is) here.keeps.holds room

    shut_there : (call : Call) (more : List Call) → calls ≡ call ∷ more → call ≡ closing → s.is_open ≡ false
    shut_there call more next frees = shut_at d m stamp number (place before) s.is_open (both_of s) more here.there.at.ready (next ∙ ap (λ c. c ∷ more) frees)

    -- with the fault that was met before the first session
    module _ (met : Option StoreFault) (kept : KeepsFull d m stamp number start first last met s calls before.fault) where
      ends_last : (refused : Option Refusal) → Stands start number y last → EndsAs d m stamp number start first last true met (last_end None refused) y
      ends_last None stands = stands
      ends_last (Some refusal) stands = stands

      ends_none : (refused : Option Refusal) (e : End) → before.fault ≡ None → Closes d m stamp number (place before) (last_end None refused) start s x e y → EndsAs d m stamp number start first last true met e y
      ends_none refused e none (inl went) =
          subst (λ a. EndsAs d m stamp number start first last true met a y) (sym went.1)
          (ends_last refused (subst (Stands start number y) (along d m stamp number (place before) Over start s y went.0 ∙ at_last none) went.0.at.stands))
      ends_none refused e none (inr failed) =
          let it = failed.1 in
          let frees = frees_it it.call it.more it.next it.by in
          subst (λ a. EndsAs d m stamp number start first last true met a y) (sym failed.2)
          (meets d m stamp number start first last met s x y here.there.at.stands here.there.at.dialect is.came way (place before) failed.0 it here.committed frees (shut_there it.call it.more it.next frees)
          (inl (subst (IsBefore (called d it.call s)) (sym (ap (λ cs. all_called d cs s) it.next) ∙ at_last none) (calls_grow d it.more (called d it.call s)))) (goes_on_by it.call it.more it.next))

      ends_by : (f : Option StoreFault) (e : End) → before.fault ≡ f → s.is_open ≡ false → Ends d m stamp number (place before) f before.refused start s x e y → EndsAs d m stamp number start first last true met e y
      ends_by None e none closed ends = ends_none before.refused e none ends
      ends_by (Some why) e some closed ends =
          ends_bare d m stamp number start first last met s x y here.there.at.stands here.there.at.dialect is.came way (place before) calls why before.refused e (sym (ap disk_failed some) ∙ here.disk)
          (subst (KeepsFull d m stamp number start first last met s calls) some kept) closed frees_it (λ call next. only_last here.keeps.front call (sym next ∙ here.keeps.is)) shut_there ends

      by_end : (e : End) → EndsStep d m stamp number before start s x e y → EndsAs d m stamp number start first last true met e y
      by_end e (inl ends) = ends_by before.fault e refl ends.0 ends.1
      by_end e (inr (inl short)) =
          ends_bare d m stamp number start first last met s x y here.there.at.stands here.there.at.dialect is.came way (between NoMore) [] fault.OutOfMemory before.refused e refl
          (λ used more same. absurd (no_memory (same_some same))) short.0 (λ call more next room. sym (head_is next)) (λ call next. sym (head_is next)) (λ call more next frees. short.0) short.1
      by_end e (inr (inr failed)) =
          let it = failed.0 in
          subst (λ a. EndsAs d m stamp number start first last true met a y) (sym failed.1)
          (breaks d m stamp number start first last met s x y here.there.at.stands here.there.at.dialect is.came way (place before) Ordinary it (inl (on_way it.call it.more it.next it.by)))

      pub ends : (after : Standing Key Told) (e : End) → Steps d m stamp number before after x (step.Ended e) y → EndsAs d m stamp number start first last true met e y
      ends after e steps = by_end e (steps start s told here.there (λ there. here.committed)).0

      abbrev KeepsAt : Standing Key Told → Session → Type 0
      KeepsAt after t = KeepsFull d m stamp number start first last met t (rest d m stamp (place after) (both_of t)) after.fault

      -- a step that goes on keeps how full it was
      pub reaches : (after : Standing Key Told) → is_over after.hand.phase ≡ false → Steps d m stamp number before after x step.Going y
          → (there : Reaches d m stamp number after y start first last told) × KeepsAt after there.session
      reaches after more steps = by (steps start s told here.there (λ there. here.committed)) where
        full_now : (fell : Falls d m stamp number before after start s x y) → KeepsAt after s
        full_now fell = λ used next same.
            let it : Meets d m stamp number (place before) start s x Ordinary (fault.Full used next) y = subst (λ why. Meets d m stamp number (place before) start s x Ordinary why y) (same_some (sym fell.fault ∙ same)) fell.meets in
            let full = full_before d m stamp number start first last s x here.there.at.stands here.there.at.dialect is.came it.call Ordinary used next it.by (inl it.by) (inl (on_way it.call it.more it.next it.by)) (goes_on_by it.call it.more it.next) it.faults.0 in
            inl ((full.0, ap (λ (t : Session). t.entries) (sym full.1)), inr (ap (λ p. rest d m stamp p (both_of s)) fell.gives_up))

        by : StepsAs d m stamp number before after told start s x step.Going y → (there : Reaches d m stamp number after y start first last told) × KeepsAt after there.session
        by (inl on) =
            let it = goes_on start last told before after s y more on x first is.came here is.way in
            (it.0, subst (KeepsAt after) (sym it.1) (goes_full start last told before after s y more on first met kept))
        by (inr (inl fell)) = let it = falls before after told start first last s x y fell is.came here way in (it.0, subst (KeepsAt after) (sym it.1) (full_now fell))
        by (inr (inr back)) =
            let it = takes_back before after told start first last s x y back is.came here way in
            (it.0, λ used next same. absurd (no_memory (same_some (sym back.fault ∙ same))))
