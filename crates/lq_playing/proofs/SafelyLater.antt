-- What a crash in a player's later step leaves is a front of what the machine's step brings, or that of one that gives up.
use Rattle.std.proofs.Common.{ap, inl, inr, subst, sym}
use Rattle.std.specs.Prelude.{Bool, List, None, Option, [], false, if◌then◌else◌, is_some, refl, true, ℕ, ◌∷◌, ◌≡◌}
use Rattle.lq_base.specs.declared.dialect.Dialect.{Dialect}
use Rattle.lq_base.specs.declared.tracking.Lock.{Lock}
use Rattle.lq_drill.specs.Faults.{last_calls, LeftBetween, Shows}
use Rattle.lq_drill.specs.Player.{LeftInStep, MovesSafely, Plays, Standing}
use Rattle.lq_drill.specs.declared.fault.DrillFault.TheVariants as drill
use Rattle.lq_hand.specs.Way.{Way}
use Rattle.lq_model.specs.declared.fault.StoreFault.{StoreFault}
use Rattle.lq_playing.proofs.Falling.{fallen, given_is, given_shows, given_with, leaves_call}
use Rattle.lq_playing.proofs.Laters.{IsHolder, falls, is_holder, left_to_call, to_call}
use Rattle.lq_playing.proofs.Laters.{there as is_there}
use Rattle.lq_playing.proofs.Machines.{Held, Runs}
use Rattle.lq_playing.proofs.Marks.{bare_none, last_shut}
use Rattle.lq_playing.specs.Answers.{is_failed_end, as_busy, as_failed, as_locked}
use Rattle.lq_playing.specs.Checked.{Work}
use Rattle.lq_playing.specs.Under.{IsFree, IsPlain, IsUnder, bare}
use Rattle.lq_playing.specs.declared.came.Came.{Came}
use Rattle.lq_run.proofs.Since.{leave_wider}
use Rattle.lq_run.specs.Crashing.{CrashesStep, LeftInCall, MayFree, LeftInStep as LeftInRunner}
use Rattle.lq_run.specs.Beside.{StopsAs}
use Rattle.lq_run.specs.Stands.{IsBare, IsHeld}
use Rattle.lq_run.specs.Steps.{place, Standing as Command}
use Rattle.lq_run.specs.declared.runner.End.{End}
use Rattle.lq_run.specs.declared.runner.End.TheVariants as end
use Rattle.lq_run.specs.declared.runner.Step.TheVariants as step
use Rattle.lq_store.specs.Journal.{Crashes, Entry, State, is_open}
use Rattle.lq_turns.specs.Rest.{rest, both_of}
use Rattle.lq_turns.specs.Schedule.{moved}
use Rattle.lq_turns.specs.Script.{closing}
use Rattle.lq_turns.specs.Session.{Session}
use Rattle.lq_turns.specs.Set.{Meaning}
use Rattle.lq_turns.specs.declared.call.Call.{Call}
use Rattle.lq_turns.specs.declared.call.Call.TheVariants.{Abort}
use Rattle.lq_turns.specs.declared.stamp.Stamp.{Stamp}
use Rattle.lq_turns.specs.declared.stop.Refusal.{Refusal}

not_true : false ≡ true → ⊥
not_true h = Prim.cc

-- at an end that is no fault's none was met in the step
pub met_before : (was met : Option StoreFault) (how : End) → is_failed_end how ≡ false → (is_some met ≡ true → StopsAs was (step.Ended how)) → is_some met ≡ true → is_some was ≡ true
met_before was met end.Done whole stops is = absurd (stops is)
met_before was met (end.Refused refusal) whole stops is = absurd (stops is)
met_before was met (end.Locked lock) whole stops is = stops is
met_before was met end.Disk whole stops is = absurd (not_true (sym whole))
met_before was met (end.Full used next) whole stops is = absurd (not_true (sym whole))
met_before was met end.OutOfMemory whole stops is = absurd (not_true (sym whole))

module _ {Key Told T : Type 0} (m : Meaning Key) (stamp : Stamp) (way : T → Dialect → Stamp → Told → Way) (answer_of : T → Option Refusal → Came) (n : ℕ) (before after : Standing Came as_locked as_busy) (w : State) (r : Command Key Told) (none : before.answer ≡ None) (begun : before.begun ≡ true)
    (under : (h : Held) → before.is_at h → IsUnder before.dialect m stamp r way answer_of h) (owns : (lock : Lock) → IsHeld stamp lock → before.owns lock) (plain : IsPlain stamp) (within : Bool) (opened : is_open n w.begun ≡ within) (free : IsFree before.dialect stamp n within w) (met : Option StoreFault) (c e : Crashes) where
  module _ (flag : is_some met ≡ true → after.faulted ≡ true) (jobs : ℕ → Work) (origin : State) (x : Runs) (dialect : origin.dialect ≡ before.dialect) (shows : Shows origin w x) (plays : Plays jobs n before x) where
    abbrev d : Dialect
    d = origin.dialect

    it : IsHolder m stamp way answer_of n before after w r none begun under owns plain within opened free jobs origin x dialect shows plays
    it = is_holder m stamp way answer_of n before after w r none begun under owns plain within opened free jobs origin x dialect shows plays

    abbrev s : Session
    s = bare it.h.session

    abbrev Leaves : List Entry → List Entry → Type 0
    Leaves there left = LeftInStep as_failed d jobs (after.faulted ≡ true) n x there left

    -- in its next call
    own_leaves : (call : Call) (calls : List Call) → rest d m stamp (place r) (both_of s) ≡ call ∷ calls → (there left : List Entry) → LeftInCall d call s there left → Leaves there left
    own_leaves call calls next there left is = record {
      to = moved Came as_locked as_busy d jobs n x;
      steps = inl refl;
      leaves = let own = to_call m stamp way answer_of n before after w r none begun under owns plain within opened free jobs origin x dialect shows plays it call calls next in leaves_call origin w jobs n x x it.h call own.0 refl shows own.1 there left is;
    }

    -- or in the one that frees the lock after a fault of this step
    left_leaves : is_some met ≡ true → IsBare stamp it.h.session.committed.lock → it.h.session.is_open ≡ false → (there left : List Entry) → LeftInCall d closing s there left → Leaves there left
    left_leaves some bare_lock shut there left is = record { to = to; steps = inr (flag some, falls m stamp way answer_of n before after w r none begun under owns plain within opened free jobs origin x dialect shows plays it drill.OutOfMemory to (inr (ap (λ v. moved Came as_locked as_busy d jobs n v) (given_is drill.OutOfMemory it.h x closing [] last)))); leaves = leaves } where
      at : Runs
      at = given_with drill.OutOfMemory (closing ∷ []) it.h x

      to : Runs
      to = moved Came as_locked as_busy d jobs n at

      last : last_calls it.h.session ≡ closing ∷ []
      last = last_shut it.h.session false shut (bare_none stamp it.h.session.committed.lock plain bare_lock)

      leaves : LeftBetween d x to there left
      leaves =
          leaves_call origin w jobs n x at (fallen drill.OutOfMemory (closing ∷ []) it.h) closing [] refl (given_shows origin w n x it.h drill.OutOfMemory (closing ∷ []) it.held shows)
          (left_to_call m stamp way answer_of n before after w r none begun under owns plain within opened free jobs origin x dialect shows plays it drill.OutOfMemory closing []) there left is

    freeing : (there left : List Entry) → MayFree d m stamp n r met s → LeftInCall d closing s there left → Leaves there left
    freeing there left (inl only) is = own_leaves closing [] only.1 there left is
    freeing there left (inr after_fault) is = left_leaves after_fault.0 after_fault.1.0 after_fault.1.1 there left is

    in_step : (there left : List Entry) → LeftInRunner d m stamp n r met s there left → Leaves there left
    in_step there left (inl next) = own_leaves next.call next.others next.next there left next.is
    in_step there left (inr frees) = freeing there left frees.0 frees.1

  safe_later : (is_some met ≡ true → after.faulted ≡ true) → CrashesStep before.dialect m stamp n r met w c e → MovesSafely as_failed n before after w c e
  safe_later flag crash jobs origin x dialect shows plays =
      leave_wider w.entries (LeftInRunner origin.dialect m stamp n r met here) (LeftInStep as_failed origin.dialect jobs (after.faulted ≡ true) n x) c e (in_step flag jobs origin x dialect shows plays)
      ((subst (λ k. CrashesStep k m stamp n r met w c e) (sym dialect) crash) w here holder.on.told (is_there m stamp way answer_of n before after w r none begun under owns plain within opened free jobs origin x dialect shows plays holder) (λ between. holder.on.on.committed)) where
        holder : IsHolder m stamp way answer_of n before after w r none begun under owns plain within opened free jobs origin x dialect shows plays
        holder = it flag jobs origin x dialect shows plays

        here : Session
        here = s flag jobs origin x dialect shows plays

  -- it goes on
  pub safe_going : (is_some met ≡ true → after.faulted ≡ true) → CrashesStep before.dialect m stamp n r met w c e → MovesSafely as_failed n before after w c e
  safe_going flag crash = safe_later flag crash

  -- or it has ended
  pub safe_ended : (is_some met ≡ true → after.faulted ≡ true) → CrashesStep before.dialect m stamp n r met w c e → MovesSafely as_failed n before after w c e
  safe_ended flag crash = safe_later flag crash
