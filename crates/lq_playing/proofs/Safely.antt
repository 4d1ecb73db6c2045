-- What a crash in a player's first step leaves is a front of what the machine's step appends.
use Rattle.std.proofs.Common.{ap, inl, subst, sym, ◌∙◌}
use Rattle.std.specs.Prelude.{List, None, Option, [], false, map, refl, true, ℕ, ◌++◌, ◌∷◌, ◌≡◌}
use Rattle.lq_base.specs.declared.dialect.Dialect.{Dialect}
use Rattle.lq_drill.specs.Player.{LeftInStep, MovesSafely, Plays, Standing}
use Rattle.lq_drill.specs.Faults.{LeftBetween, Shows}
use Rattle.lq_hand.specs.Hand.{place_of}
use Rattle.lq_hand.specs.Way.{Way}
use Rattle.lq_hand.specs.declared.hand.Hand.{Hand}
use Rattle.lq_model.specs.declared.caller.Room.TheVariants.{Ordinary}
use Rattle.lq_playing.proofs.FirstFaults.{first_came}
use Rattle.lq_playing.proofs.Machines.{Runs}
use Rattle.lq_playing.proofs.Shown.{stands_first}
use Rattle.lq_playing.proofs.Told.{none_begun}
use Rattle.lq_playing.specs.Answers.{as_busy, as_failed, as_locked}
use Rattle.lq_playing.specs.Checked.{MakesOne, MakesTurns, Work, MayCall, OnIts}
use Rattle.lq_playing.specs.Under.{bare}
use Rattle.lq_playing.specs.declared.came.Came.{Came}
use Rattle.lq_playing.specs.declared.came.Report.{Report}
use Rattle.lq_playing.specs.declared.checks.OneCall.{OneCall}
use Rattle.lq_run.proofs.Since.{leave_none, leave_wider}
use Rattle.lq_run.specs.Commands.{both_on}
use Rattle.lq_run.specs.Crashing.{CrashesFor, CrashesOpening, LeftInCall}
use Rattle.lq_store.specs.Journal.{Crashes, CrashesLeave, Entry, State, is_open}
use Rattle.lq_turns.specs.Schedule.{StandsFor, appended, moved}
use Rattle.lq_turns.specs.Rest.{Turns, rest}
use Rattle.lq_turns.specs.Script.{opening}
use Rattle.lq_turns.specs.Session.{Session, session_on}
use Rattle.lq_turns.specs.Set.{Meaning}
use Rattle.lq_turns.specs.declared.call.Call.{Call}
use Rattle.lq_turns.specs.declared.call.Call.TheVariants.{Alone}
use Rattle.lq_turns.specs.declared.deed.Deed.TheVariants.{Locks}
use Rattle.lq_turns.specs.declared.stamp.Stamp.{Stamp}
use Rattle.lq_turns.specs.declared.stop.Refusal.{Refusal}

-- a front of what a call appends
pub between : (d : Dialect) (call : Call) (s : Session) (x y : Runs) → y.entries ≡ x.entries ++ appended d call s → (there left : List Entry) → LeftInCall d call (bare s) there left → LeftBetween d x y there left
between d call s x y came there left it = record { front = it.front; more = it.more; came = came ∙ ap (λ entries. x.entries ++ entries) it.appends; is = it.is }

-- a step without a call
pub safe_told : (n : ℕ) (before after : Standing Came as_locked as_busy) (w : State) (c : Crashes) → MovesSafely as_failed n before after w c c
safe_told n before after w c jobs origin x dialect shows plays = leave_none w.entries (LeftInStep as_failed origin.dialect jobs (after.faulted ≡ true) n x) c

-- the first step

module _ (n : ℕ) (before after : Standing Came as_locked as_busy) (w : State) (none : before.answer ≡ None) (fresh : before.begun ≡ false) (shut : is_open n w.begun ≡ false) (c e : Crashes) where
  module _ (jobs : ℕ → Work) (origin : State) (x : Runs) (shows : Shows origin w x) (plays : Plays jobs n before x) where
    abbrev Left : List Entry → List Entry → Type 0
    Left = LeftInStep as_failed origin.dialect jobs (after.faulted ≡ true) n x

    first_safe : (call : Call) (calls : List Call) → MayCall n w before.job x.committed → (jobs n).refuses x.committed ≡ None → (jobs n).script x.committed ≡ call ∷ calls
        → CrashesLeave w.entries (LeftInCall origin.dialect call (session_on x.committed)) c e → CrashesLeave w.entries Left c e
    first_safe call calls may passes script_is leave =
        let d = origin.dialect in
        let first = session_on x.committed in
        let came = first_came n before after w none fresh shut jobs origin x shows plays call calls may passes script_is in
        leave_wider w.entries (LeftInCall d call first) Left c e
        (λ there left it. record { to = moved Came as_locked as_busy d jobs n x; steps = inl refl; leaves = between d call first x (moved Came as_locked as_busy d jobs n x) came there left it }) leave

  -- a command of one call
  pub safe_once : (report : Report) (call : OneCall) → OnIts before.dialect w (λ database. MayCall n w before.job database × MakesOne before.dialect before.job report call database) → CrashesFor before.dialect n (Alone call.deeds call.room) w c e → MovesSafely as_failed n before after w c e
  safe_once report call may crash jobs origin x dialect shows plays =
      let both = may (shows.dialect ∙ dialect) x.committed (subst (λ k. StandsFor k w.committed x.committed) dialect shows.committed) in
      let one : MakesOne origin.dialect (jobs n) report call x.committed = subst (λ k. MakesOne k (jobs n) report call x.committed) (sym dialect) (subst (λ j. MakesOne before.dialect j report call x.committed) (sym (plays.waits none fresh)) both.1) in
      let crashes : CrashesFor origin.dialect n (Alone call.deeds call.room) w c e = subst (λ k. CrashesFor k n (Alone call.deeds call.room) w c e) (sym dialect) crash in
      first_safe jobs origin x shows plays (Alone call.deeds call.room) [] both.0 one.passes one.script_is
      (crashes w (session_on x.committed) shows.dialect (stands_first origin w x shows n (none_begun n w.begun shut both.0.0)) one.fits)

  -- one that takes the lock
  pub safe_begun : {Key Told T : Type 0} (m : Meaning Key) (stamp : Stamp) (way : T → Dialect → Stamp → Told → Way) (ends : T → Option Refusal → Came) (turns : Turns Key) (source : T) (hand : Hand)
      → OnIts before.dialect w (λ database. MayCall n w before.job database × MakesTurns before.dialect m stamp way ends before.job turns source hand database) → CrashesOpening before.dialect stamp n w c e → MovesSafely as_failed n before after w c e
  safe_begun m stamp way ends turns source hand may crash jobs origin x dialect shows plays =
      let both = may (shows.dialect ∙ dialect) x.committed (subst (λ k. StandsFor k w.committed x.committed) dialect shows.committed) in
      let makes : MakesTurns origin.dialect m stamp way ends (jobs n) turns source hand x.committed
      = subst (λ k. MakesTurns k m stamp way ends (jobs n) turns source hand x.committed) (sym dialect)
      (subst (λ j. MakesTurns before.dialect m stamp way ends j turns source hand x.committed) (sym (plays.waits none fresh)) both.1) in
      let crashes : CrashesOpening origin.dialect stamp n w c e = subst (λ k. CrashesOpening k stamp n w c e) (sym dialect) crash in
      first_safe jobs origin x shows plays (Alone (map Locks (opening stamp x.committed)) Ordinary) (rest origin.dialect m stamp (place_of hand turns) (both_on x.committed)) both.0 makes.passes makes.script_is
      (crashes w (session_on x.committed) shows.dialect (stands_first origin w x shows n (none_begun n w.begun shut both.0.0)))
