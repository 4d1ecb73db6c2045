-- A player's step that answers a fault of the store, which it owed or met.
use Rattle.std.proofs.Common.{ap, inl, inr, subst, sym, ◌∙◌}
use Rattle.std.specs.Prelude.{Bool, Err, List, None, Option, Some, [], false, is_some, refl, true, ℕ, ◌++◌, ◌∷◌, ◌≡◌, ◌⊎◌}
use Rattle.lq_base.specs.declared.dialect.Dialect.{Dialect}
use Rattle.lq_base.specs.declared.tracking.Lock.{Lock}
use Rattle.lq_drill.proofs.FreedOnce.{frees_lock}
use Rattle.lq_drill.specs.Faults.{Falls, HasCause, Meets, last_calls, Shows}
use Rattle.lq_drill.specs.Player.{IsDue, Moves, MovesAs, Plays, Rests, Standing, answer_of as told_by}
use Rattle.lq_drill.specs.declared.fault.DrillFault.{DrillFault}
use Rattle.lq_drill.specs.declared.fault.DrillFault.TheVariants as drill
use Rattle.lq_hand.specs.Way.{Way}
use Rattle.lq_model.specs.declared.caller.Room.TheVariants.{Ordinary, Release}
use Rattle.lq_model.specs.declared.caller.Room.{Room}
use Rattle.lq_model.specs.declared.fault.StoreFault.{StoreFault}
use Rattle.lq_model.specs.declared.fault.StoreFault.TheVariants as fault
use Rattle.lq_playing.proofs.Falling.{brings_all, brings_fault, brings_none, cause, fallen, given, given_is, given_shows, given_with, no_room}
use Rattle.lq_playing.proofs.Laters.{IsHolder, answer_is, answers_last, falls, fell_before, is_holder, left_to_call, open_not, rests_all, rests_begun, shows_last, to_call, to_call_last}
use Rattle.lq_playing.proofs.Laters.{there as is_there}
use Rattle.lq_playing.proofs.Machines.{Held, IsToCall, Runs, next_called}
use Rattle.lq_playing.proofs.Marks.{bare_none, last_shut, not_both, shut_next}
use Rattle.lq_playing.proofs.Shown.{shut_none}
use Rattle.lq_playing.specs.Answers.{FailsAs, fault_of, as_busy, as_failed, as_locked}
use Rattle.lq_playing.specs.Checked.{Work}
use Rattle.lq_playing.specs.Under.{IsFree, IsPlain, IsUnder, bare}
use Rattle.lq_playing.specs.declared.came.Came.{Came}
use Rattle.lq_run.specs.Does.{Faults}
use Rattle.lq_run.specs.Ends.{AllHoldOn, HoldsOn}
use Rattle.lq_run.specs.Stands.{IsBare, IsHeld, IsMarked}
use Rattle.lq_run.specs.Moves.{Goes, Meets as MeetsFault}
use Rattle.lq_run.specs.Steps.{Closes, Ends, EndsStep, IsThere, Steps, end_of, last_end, place, Standing as Command}
use Rattle.lq_run.specs.declared.runner.End.{End}
use Rattle.lq_run.specs.declared.runner.Step.TheVariants as step
use Rattle.lq_store.specs.Journal.{State, is_open}
use Rattle.lq_track.specs.Lock.{free as free_lock}
use Rattle.lq_turns.specs.Rest.{NoMore, Over, between, rest, both_of}
use Rattle.lq_turns.specs.Schedule.{moved}
use Rattle.lq_turns.specs.Script.{closing}
use Rattle.lq_turns.specs.Session.{Session, called, room_of}
use Rattle.lq_turns.specs.Set.{Meaning}
use Rattle.lq_turns.specs.declared.call.Call.{Call}
use Rattle.lq_turns.specs.declared.call.Call.TheVariants.{Abort, Alone, Begin, Commit, Execute}
use Rattle.lq_turns.specs.declared.stamp.Stamp.{Stamp}
use Rattle.lq_turns.specs.declared.stop.Refusal.{Refusal}

no_disk : {used next : ℕ} {X : Type 0} → fault.Full used next ≡ fault.Disk → X
no_disk is = Prim.cc

-- which fault an end answers

fails_with : (f : StoreFault) (why : DrillFault) → FailsAs (end_of f) why → why ≡ fault_of f
fails_with fault.Disk why is = is
fails_with (fault.Full used next) why is = is
fails_with fault.OutOfMemory why is = is
fails_with (fault.Busy n) why is = is
fails_with fault.NotSql why is = is
fails_with (fault.Refused reason) why is = is

fails_by : (f : StoreFault) (e : End) (why : DrillFault) → FailsAs e why → e ≡ end_of f → why ≡ fault_of f
fails_by f e why fails is = fails_with f why (subst (λ k. FailsAs k why) is fails)

fails_last : (refused : Option Refusal) (e : End) (why : DrillFault) → FailsAs e why → e ≡ last_end None refused → why ≡ drill.OutOfMemory
fails_last None e why fails is = subst (λ k. FailsAs k why) is fails
fails_last (Some refusal) e why fails is = subst (λ k. FailsAs k why) is fails

-- there was no memory in the step
pub lack_due : (jobs : ℕ → Work) (n : ℕ) (before : Standing Came as_locked as_busy) (origin : State) (x : Runs) → IsDue as_failed jobs n before origin x drill.OutOfMemory
lack_due jobs n before origin x = inr meets where
  meets : Meets as_failed origin.dialect jobs origin.used origin.limit n x drill.OutOfMemory
  meets = record { at = x; is = inl refl; cause = tt }

-- no call was made
pub stops_still : (n : ℕ) (before after : Standing Came as_locked as_busy) (w : State) (why : DrillFault) → ((jobs : ℕ → Work) (origin : State) (x : Runs) → origin.dialect ≡ before.dialect → Shows origin w x → Plays jobs n before x → why ≡ drill.OutOfMemory) → Moves as_failed n before after w (Err why) w
stops_still n before after w why lacks jobs origin x dialect shows plays = subst (λ k. MovesAs as_failed jobs n before after origin w w x (Err k)) (sym (lacks jobs origin x dialect shows plays)) ((moved Came as_locked as_busy origin.dialect jobs n x, inl refl, brings_none origin.dialect jobs n x w w refl), lack_due jobs n before origin x, inr refl)

-- of the calls of a turn none has room to free the lock
holds_ordinary : (who : List ℕ) (call : Call) → HoldsOn who call → room_of call ≡ Release → ⊥
holds_ordinary who Begin on room = Prim.cc
holds_ordinary who (Execute deed) on room = Prim.cc
holds_ordinary who Commit on room = Prim.cc
holds_ordinary who Abort on room = Prim.cc
holds_ordinary who (Alone deeds r) on room = on

head_is : {a b : Call} {xs ys : List Call} → a ∷ xs ≡ b ∷ ys → a ≡ b
head_is h = Prim.cc

nothing_is : {A X : Type 0} (front : List A) (last : A) → [] ≡ front ++ last ∷ [] → X
nothing_is [] last is = Prim.cc
nothing_is (first ∷ front) last is = Prim.cc

tail_of : {a b : Call} {xs ys : List Call} → a ∷ xs ≡ b ∷ ys → xs ≡ ys
tail_of h = Prim.cc

-- the last call frees the lock
last_is : (front : List Call) (call : Call) → call ∷ [] ≡ front ++ closing ∷ [] → call ≡ closing
last_is [] call is = head_is is
last_is (first ∷ front) call is = nothing_is front closing (tail_of is)

-- so that it is the last call
frees_it : (who : List ℕ) (front : List Call) (call : Call) (more : List Call) → call ∷ more ≡ front ++ closing ∷ [] → AllHoldOn who front → room_of call ≡ Release → call ≡ closing
frees_it who [] call more is all room = head_is is
frees_it who (c ∷ front) call more is all room = absurd (holds_ordinary who call (subst (HoldsOn who) (sym (head_is is)) all.0) room)

module _ {Key Told T : Type 0} (m : Meaning Key) (stamp : Stamp) (way : T → Dialect → Stamp → Told → Way) (answer_of : T → Option Refusal → Came) (n : ℕ) (before after : Standing Came as_locked as_busy) (w : State) (r : Command Key Told) (none : before.answer ≡ None) (begun : before.begun ≡ true)
    (under : (h : Held) → before.is_at h → IsUnder before.dialect m stamp r way answer_of h) (owns : (lock : Lock) → IsHeld stamp lock → before.owns lock) (plain : IsPlain stamp) (z : State) (within : Bool) (opened : is_open n w.begun ≡ within) (free : IsFree before.dialect stamp n within w) (q : Command Key Told) where
  module _ (jobs : ℕ → Work) (origin : State) (x : Runs) (dialect : origin.dialect ≡ before.dialect) (shows : Shows origin w x) (plays : Plays jobs n before x) (why : DrillFault) (faulted : after.faulted ≡ true) (owed_before : (f : StoreFault) → r.fault ≡ Some f → before.owes (fault_of f)) (shut : z.live ≡ true → is_open n z.begun ≡ false) where
    abbrev d : Dialect
    d = origin.dialect

    it : IsHolder m stamp way answer_of n before after w r none begun under owns plain within opened free jobs origin x dialect shows plays
    it = is_holder m stamp way answer_of n before after w r none begun under owns plain within opened free jobs origin x dialect shows plays

    abbrev s : Session
    s = bare it.h.session

    here : IsThere d m stamp n r w w s it.on.told
    here = is_there m stamp way answer_of n before after w r none begun under owns plain within opened free jobs origin x dialect shows plays it

    abbrev Stops : Type 0
    Stops = MovesAs as_failed jobs n before after origin w z x (Err why)

    abbrev Due : DrillFault → Type 0
    Due k = IsDue as_failed jobs n before origin x k

    -- the fault is due of which the end tells
    due_as : (k : DrillFault) → why ≡ k → Due k → Due why
    due_as k is due = subst (λ l. Due l) (sym is) due

    owed : (f : StoreFault) → r.fault ≡ Some f → why ≡ fault_of f → Due why
    owed f met is = due_as (fault_of f) is (inl (owed_before f met))

    lacks : why ≡ drill.OutOfMemory → Due why
    lacks is = due_as drill.OutOfMemory is (lack_due jobs n before origin x)

    -- nothing was called, for want of memory
    still : z ≡ w → why ≡ drill.OutOfMemory → Stops
    still same is = subst (λ k. MovesAs as_failed jobs n before after origin w z x (Err k)) (sym is) ((moved Came as_locked as_busy d jobs n x, inl refl, brings_none d jobs n x w z same), lack_due jobs n before origin x, inr same)

    -- a call met a fault, which left the store as it was
    abbrev Rested : DrillFault → Type 0
    Rested k = Rests as_failed jobs n (after.faulted ≡ true) origin w z x k

    -- at its next call

    own_made : Goes d m stamp n (place r) Over w s z → Due why → (why ≡ drill.OutOfMemory) ⊎ (it.h.answer ≡ as_failed why) → Stops
    own_made goes due answers = (
      (to, inl refl, brings_all origin w jobs n x x it.h goes.went.call [] refl shows own z goes.after goes.went.is goes.at.stands),
      due,
      elim answers [
        | inl lack ↦ subst (λ k. Rested k) (sym lack) (inl (to, inl refl, shown, ap is_some told))
        | inr its ↦ rests_all m stamp way answer_of n before after w r none begun under owns plain within opened free jobs origin x dialect shows plays it z why (to, inl refl, shown, told ∙ ap (λ a. Some a) its, inl freed)
      ],
    ) where
      to : Runs
      to = moved Came as_locked as_busy d jobs n x

      own : IsToCall n x it.h goes.went.call []
      own = to_call_last m stamp way answer_of n before after w r none begun under owns plain within opened free jobs origin x dialect shows plays it goes.went.call goes.went.next

      -- its last call frees the lock
      freed : to.committed.lock ≡ free_lock
      freed =
          ap (λ (y : Runs). y.committed.lock) (next_called d jobs n x it.h goes.went.call [] own)
          ∙ ap (λ c. (called d c it.h.session).committed.lock) (last_is it.on.on.keeps.front goes.went.call (sym goes.went.next ∙ it.on.on.keeps.is))
          ∙ frees_lock d it.h.session

      shown : Shows origin z to
      shown = shows_last m stamp way answer_of n after origin w z jobs x x it.h goes.went.call [] shows own goes.after goes.went.is goes.at.stands refl (shut_none w.dialect n goes.after z.begun goes.at.stands.begun goes.at.ready)

      told : told_by n to.answers ≡ Some it.h.answer
      told = answers_last m stamp way answer_of n after origin w z jobs x x it.h goes.went.call [] shows own goes.after goes.went.is goes.at.stands refl

    own_met : (room : Room) (f : StoreFault) → room ≡ Release ⊎ (f ≡ fault.Disk) → MeetsFault d m stamp n (place r) w s w room f z → why ≡ fault_of f → Stops
    own_met room f may met is = subst (λ k. MovesAs as_failed jobs n before after origin w z x (Err k)) (sym is) ((moved Came as_locked as_busy d jobs n x, inl refl, brings_fault origin w jobs n x x it.h met.call own.0 refl shows own.1 z room f met.faults), inr meets, by f may met.faults) where
      own : (more : List Call) × IsToCall n x it.h met.call more
      own = to_call m stamp way answer_of n before after w r none begun under owns plain within opened free jobs origin x dialect shows plays it met.call met.more met.next

      -- only the call that frees the lock may use all of the journal
      which : (room_of met.call ≡ Ordinary) ⊎ ((met.call ≡ closing) × (it.h.session.begun ≡ []))
      which = by_room (room_of met.call) refl where
        by_room : (k : Room) → room_of met.call ≡ k → (room_of met.call ≡ Ordinary) ⊎ ((met.call ≡ closing) × (it.h.session.begun ≡ []))
        by_room Ordinary is = inl is
        by_room Release is =
            let frees : met.call ≡ closing = frees_it stamp.who it.on.on.keeps.front met.call met.more (sym met.next ∙ it.on.on.keeps.is) it.on.on.keeps.holds is in
            inr (frees, rests_begun m stamp way answer_of n before after w r none begun under owns plain within opened free jobs origin x dialect shows plays it (shut_next d m stamp (place r) it.h.session.is_open (both_of s) met.more it.on.on.ready (met.next ∙ ap (λ c. c ∷ met.more) frees)))

      meets : Meets as_failed d jobs origin.used origin.limit n x (fault_of f)
      meets = record { at = x; is = inl refl; cause = cause origin w jobs n x x it.h met.call own.0 refl shows own.1 z room f met.by which met.faults }

      by : (g : StoreFault) → room ≡ Release ⊎ (g ≡ fault.Disk) → Faults w n w s room met.call g z → Rested (fault_of g)
      by fault.Disk may faults = tt
      by (fault.Full used next) (inl frees) faults =
          let found = no_room origin w jobs n x x it.h met.call own.0 refl shows own.1 room used next met.by which faults.0 in
          inr (faults.1, (record { at = x; is = inl refl; cause = found.0 }, inr (found.1 ∙ frees_it stamp.who it.on.on.keeps.front met.call met.more (sym met.next ∙ it.on.on.keeps.is) it.on.on.keeps.holds (met.by ∙ frees))))
      by (fault.Full used next) (inr disk) faults = no_disk disk
      by fault.OutOfMemory may faults = inr faults
      by (fault.Busy k) may faults = absurd faults
      by fault.NotSql may faults = absurd faults
      by (fault.Refused reason) may faults = absurd faults

    closes : (last : End) → (e : End) → FailsAs e why → (e ≡ last → Due why × ((why ≡ drill.OutOfMemory) ⊎ (it.h.answer ≡ as_failed why))) → Closes d m stamp n (place r) last w s w e z → Stops
    closes last e fails due (inl went) = let both = due went.1 in own_made went.0 both.0 both.1
    closes last e fails due (inr failed) = own_met Release failed.0 (inl refl) failed.1 (fails_by failed.0 e why fails failed.2)

    -- a lock that has a mark stays held, where no transaction is open
    not_marked : (f : StoreFault) → r.fault ≡ Some f → IsMarked stamp s.committed.lock → z ≡ w → ⊥
    not_marked f met marked same = elim (fell_before m stamp way answer_of n before after w r none begun under owns plain within opened free jobs origin x dialect shows plays it f met).1 [
      | inl aborts ↦ open_not w.dialect n s w.begun here.at.stands.begun aborts.0 (subst (λ (v : State). is_open n v.begun ≡ false) same (shut (ap (λ (v : State). v.live) same ∙ shows.live)))
      | inr closes ↦ not_both stamp s.committed.lock plain closes.2 marked
    ]

    ends : (f : Option StoreFault) → r.fault ≡ f → (e : End) → FailsAs e why → Ends d m stamp n (place r) f r.refused w s w e z → Stops
    ends None healthy e fails closed = closes (last_end None r.refused) e fails (λ is. (lacks (fails_last r.refused e why fails is), inl (fails_last r.refused e why fails is))) closed
    ends (Some f) met e fails (inl bare_lock) = closes (end_of f) e fails (λ is. (owed f met (fails_by f e why fails is), inr (answer_is m stamp way answer_of n before after w r none begun under owns plain within opened free jobs origin x dialect shows plays it f met ∙ ap as_failed (sym (fails_by f e why fails is))))) bare_lock.1
    ends (Some f) met e fails (inr marked) = absurd (not_marked f met marked.0 marked.1)

    -- or, after want of memory in this step, at the call that frees the lock

    module _ (closed : it.h.session.is_open ≡ false) (bare_lock : IsBare stamp it.h.session.committed.lock) where
      abbrev at : Runs
      at = given_with drill.OutOfMemory (closing ∷ []) it.h x

      abbrev k : Held
      k = fallen drill.OutOfMemory (closing ∷ []) it.h

      abbrev to : Runs
      to = moved Came as_locked as_busy d jobs n at

      last : last_calls it.h.session ≡ closing ∷ []
      last = last_shut it.h.session false closed (bare_none stamp it.h.session.committed.lock plain bare_lock)

      same_at : at ≡ given drill.OutOfMemory it.h x
      same_at = given_is drill.OutOfMemory it.h x closing [] last

      shows_at : Shows origin w at
      shows_at = given_shows origin w n x it.h drill.OutOfMemory (closing ∷ []) it.held shows

      left : IsToCall n at k closing []
      left = left_to_call m stamp way answer_of n before after w r none begun under owns plain within opened free jobs origin x dialect shows plays it drill.OutOfMemory closing []

      falls_so : Falls as_failed d jobs n x to
      falls_so = falls m stamp way answer_of n before after w r none begun under owns plain within opened free jobs origin x dialect shows plays it drill.OutOfMemory to (inr (ap (λ v. moved Came as_locked as_busy d jobs n v) same_at))

      left_made : Goes d m stamp n (between NoMore) Over w s z → why ≡ drill.OutOfMemory → Stops
      left_made goes is = subst (λ k. MovesAs as_failed jobs n before after origin w z x (Err k)) (sym is) ((to, inr (faulted, falls_so), brings_all origin w jobs n x at k closing [] refl shows_at left z goes.after made goes.at.stands), lack_due jobs n before origin x, inl (to, inr (faulted, falls_so), shown, ap is_some told)) where
        made : goes.after ≡ called d closing s
        made = goes.went.is ∙ ap (λ c. called d c s) (sym (head_is goes.went.next))

        shown : Shows origin z to
        shown = shows_last m stamp way answer_of n after origin w z jobs x at k closing [] shows_at left goes.after made goes.at.stands refl (shut_none w.dialect n goes.after z.begun goes.at.stands.begun goes.at.ready)

        told : told_by n to.answers ≡ Some (as_failed drill.OutOfMemory)
        told = answers_last m stamp way answer_of n after origin w z jobs x at k closing [] shows_at left goes.after made goes.at.stands refl

      left_met : (f : StoreFault) → MeetsFault d m stamp n (between NoMore) w s w Release f z → why ≡ fault_of f → Stops
      left_met f met is = subst (λ k. MovesAs as_failed jobs n before after origin w z x (Err k)) (sym is) ((to, inr (faulted, falls_so), brings_fault origin w jobs n x at k closing [] refl shows_at left z Release f faults), inr (meets_at (cause origin w jobs n x at k closing [] refl shows_at left z Release f refl frees_none faults)), by f faults) where
        frees_none : (room_of closing ≡ Ordinary) ⊎ ((closing ≡ closing) × (k.session.begun ≡ []))
        frees_none = inr (refl, rests_begun m stamp way answer_of n before after w r none begun under owns plain within opened free jobs origin x dialect shows plays it closed)

        faults : Faults w n w s Release closing f z
        faults = subst (λ c. Faults w n w s Release c f z) (sym (head_is met.next)) met.faults

        meets_at : {why : DrillFault} → HasCause as_failed d jobs origin.used origin.limit n at why → Meets as_failed d jobs origin.used origin.limit n x why
        meets_at why_so = record { at = at; is = inr (drill.OutOfMemory, it.h, it.held, rests_begun m stamp way answer_of n before after w r none begun under owns plain within opened free jobs origin x dialect shows plays it, same_at); cause = why_so }

        by : (g : StoreFault) → Faults w n w s Release closing g z → Rested (fault_of g)
        by fault.Disk faults = tt
        by (fault.Full used next) faults =
            let found = no_room origin w jobs n x at k closing [] refl shows_at left Release used next refl frees_none faults.0 in
            inr (faults.1, (record { at = at; is = inr (drill.OutOfMemory, it.h, it.held, rests_begun m stamp way answer_of n before after w r none begun under owns plain within opened free jobs origin x dialect shows plays it, same_at); cause = found.0 }, inr found.1))
        by fault.OutOfMemory faults = inr faults
        by (fault.Busy k) faults = absurd faults
        by fault.NotSql faults = absurd faults
        by (fault.Refused reason) faults = absurd faults

    lack_ends : s.is_open ≡ false → (e : End) → FailsAs e why → Ends d m stamp n (between NoMore) (Some fault.OutOfMemory) r.refused w s w e z → Stops
    lack_ends closed e fails (inl (bare_lock, inl went)) = left_made closed bare_lock went.0 (fails_by fault.OutOfMemory e why fails went.1)
    lack_ends closed e fails (inl (bare_lock, inr failed)) = left_met closed bare_lock failed.0 failed.1 (fails_by failed.0 e why fails failed.2)
    lack_ends closed e fails (inr marked) = still marked.1 (fails_by fault.OutOfMemory e why fails marked.2)

    ends_step : (e : End) → FailsAs e why → EndsStep d m stamp n r w s w e z → Stops
    ends_step e fails (inl ended) = ends r.fault refl e fails ended.1
    ends_step e fails (inr (inl short)) = lack_ends short.0 e fails short.1
    ends_step e fails (inr (inr broke)) = own_met Ordinary fault.Disk (inr refl) broke.0 (fails_by fault.Disk e why fails broke.1)

  -- it ended by a fault, or there was no memory for its answer
  pub stops_last : (e : End) (why : DrillFault) → FailsAs e why → after.faulted ≡ true → ((f : StoreFault) → r.fault ≡ Some f → before.owes (fault_of f)) → (z.live ≡ true → is_open n z.begun ≡ false) → Steps before.dialect m stamp n r q w (step.Ended e) z → Moves as_failed n before after w (Err why) z
  stops_last e why fails faulted owed_before shut steps jobs origin x dialect shows plays =
      ends_step jobs origin x dialect shows plays why faulted owed_before shut e fails
      ((subst (λ k. Steps k m stamp n r q w (step.Ended e) z) (sym dialect) steps) w (s jobs origin x dialect shows plays why faulted owed_before shut) (it jobs origin x dialect shows plays why faulted owed_before shut).on.told
      (is_there m stamp way answer_of n before after w r none begun under owns plain within opened free jobs origin x dialect shows plays (it jobs origin x dialect shows plays why faulted owed_before shut)) (λ between. (it jobs origin x dialect shows plays why faulted owed_before shut).on.on.committed)).0
