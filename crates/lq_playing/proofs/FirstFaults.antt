-- A player's first step that answers a fault of the store.
use Rattle.std.proofs.Common.{ap, inl, inr, subst, sym, ◌∙◌}
use Rattle.std.proofs.lemmas.List.{append-nil}
use Rattle.std.specs.Option.{option_map}
use Rattle.std.specs.Prelude.{Err, List, None, Ok, Option, Result, [], false, map, refl, true, ℕ, ◌++◌, ◌∷◌, ◌≡◌, ◌⊎◌}
use Rattle.lq_base.specs.declared.dialect.Dialect.{Dialect}
use Rattle.lq_base.specs.declared.reason.Reason.{Reason}
use Rattle.lq_drill.specs.Faults.{HasNoRoom, Meets, Shows, entries_of, entry_of}
use Rattle.lq_drill.specs.Player.{Brings, IsDue, Moves, MovesAs, Plays, Standing}
use Rattle.lq_drill.specs.declared.fault.DrillFault.{DrillFault}
use Rattle.lq_drill.specs.declared.fault.DrillFault.TheVariants as drill
use Rattle.lq_hand.specs.Hand.{place_of}
use Rattle.lq_hand.specs.Way.{Way}
use Rattle.lq_hand.specs.declared.hand.Hand.{Hand}
use Rattle.lq_model.specs.declared.caller.Room.TheVariants.{Ordinary}
use Rattle.lq_model.specs.declared.caller.Room.{Room}
use Rattle.lq_model.specs.declared.fault.StoreFault.{StoreFault}
use Rattle.lq_model.specs.declared.fault.StoreFault.TheVariants as fault
use Rattle.lq_playing.proofs.Failing.{lack_due}
use Rattle.lq_playing.proofs.Falling.{brings_none}
use Rattle.lq_playing.proofs.Machines.{Runs, first_calls, is_first, makes_its_first}
use Rattle.lq_playing.proofs.Shown.{stands_first}
use Rattle.lq_playing.proofs.Told.{none_begun}
use Rattle.lq_playing.specs.Answers.{fault_of, as_busy, as_failed, as_locked}
use Rattle.lq_playing.specs.Checked.{IsLetIn, MakesOne, MakesTurns, Work, CallsOnce, MayCall, OnIts}
use Rattle.lq_playing.specs.declared.came.Came.{Came}
use Rattle.lq_playing.specs.declared.came.Report.{Report}
use Rattle.lq_playing.specs.declared.checks.OneCall.{OneCall}
use Rattle.lq_run.proofs.Since.{front_of_map}
use Rattle.lq_run.specs.Commands.{both_on}
use Rattle.lq_run.specs.Does.{Breaks, DoesAlone, HasNoRoom as NoRoom}
use Rattle.lq_run.specs.Moves.{TakesLock}
use Rattle.lq_run.specs.Stands.{Stands, entries_of as written_of}
use Rattle.lq_store.specs.Journal.{Entry, end_of, is_full, size_of_all, State, is_open}
use Rattle.lq_track.specs.Database.{Database}
use Rattle.lq_turns.specs.Deed.{contents_of, with_contents, all_done, lock_after}
use Rattle.lq_turns.specs.Schedule.{StandsFor, after_call, appended, moved}
use Rattle.lq_turns.specs.Rest.{Turns, rest}
use Rattle.lq_turns.specs.Script.{closing, opening}
use Rattle.lq_turns.specs.Session.{Session, called, room_of, session_on}
use Rattle.lq_turns.specs.Set.{Meaning}
use Rattle.lq_turns.specs.declared.call.Call.{Call}
use Rattle.lq_turns.specs.declared.call.Call.TheVariants.{Alone}
use Rattle.lq_turns.specs.declared.deed.Deed.{Deed}
use Rattle.lq_turns.specs.declared.deed.Deed.TheVariants.{Locks}
use Rattle.lq_turns.specs.declared.deed.OnLock.{OnLock}
use Rattle.lq_turns.specs.declared.stamp.Stamp.{Stamp}
use Rattle.lq_turns.specs.declared.stop.Refusal.{Refusal}

ok_err : {now : Database} {reason : Reason} → (let r : Result Database Reason = Ok now in r) ≡ Err reason → ⊥
ok_err h = Prim.cc

-- deeds on the lock are accepted
all_taken : (d : Dialect) (ws : List OnLock) (database : Database) → (now : Database) × (all_done d (map Locks ws) database ≡ Ok now)
all_taken d [] database = (database, refl)
all_taken d (w ∷ ws) database = all_taken d ws (with_contents (lock_after w database) (contents_of database))

-- how a call's runner stands then is no matter to the entries
entries_after : (n : ℕ) (s : Session) (calls : List Call) (a : Came) (y : Runs) → (after_call Came as_locked as_busy n s calls a y).entries ≡ y.entries
entries_after n s [] a y = refl
entries_after n s (call ∷ calls) a y = refl

module _ (n : ℕ) (before after : Standing Came as_locked as_busy) (w : State) (none : before.answer ≡ None) (fresh : before.begun ≡ false) (shut : is_open n w.begun ≡ false) where
  module _ (jobs : ℕ → Work) (origin : State) (x : Runs) (shows : Shows origin w x) (plays : Plays jobs n before x) where
    abbrev d : Dialect
    d = origin.dialect

    abbrev first : Session
    first = session_on x.committed

    abbrev to : Runs
    to = moved Came as_locked as_busy d jobs n x

    module _ (call : Call) (calls : List Call) (may : MayCall n w before.job x.committed) (passes : (jobs n).refuses x.committed ≡ None) (script_is : (jobs n).script x.committed ≡ call ∷ calls) where
      -- the machine's runner makes the call
      pub first_came : to.entries ≡ x.entries ++ appended d call first
      first_came =
          let y : Runs = record x { entries = x.entries ++ appended d call first } in
          let let_in : IsLetIn (jobs n) x.committed = subst (λ j. IsLetIn j x.committed) (sym (plays.waits none fresh)) may.1 in
          let same : to ≡ after_call Came as_locked as_busy n (called d call first) calls ((jobs n).answer x.committed) y
          = is_first d jobs n x (plays.answer ∙ none) (plays.begun none ∙ fresh) ∙ first_calls d jobs n x w.begun shut shows.begun call calls ((jobs n).answer x.committed) let_in may.0 passes script_is refl in
          ap (λ (z : Runs). z.entries) same ∙ entries_after n (called d call first) calls ((jobs n).answer x.committed) y

      module _ (z : State) where
        -- a front of it was written
        leaves_front : Breaks d call first w z → Brings d x to w z
        leaves_front broke =
            let parts = front_of_map (entry_of d) broke.appends.more broke.fails.front broke.fails.is_front.0 (sym broke.appends.texts ∙ broke.fails.is_front.1) in
            record {
              front = parts.0;
              more = parts.1;
              came = first_came ∙ ap (λ entries. x.entries ++ entries) (broke.appends.entries ∙ parts.2);
              entries = broke.fails.entries_are ∙ ap (λ (l : List Entry). option_map (λ entries. entries ++ l) w.entries) (sym parts.3);
            }

        -- it does not go in
        no_room : (used next : ℕ) → ((room_of call ≡ Ordinary) ⊎ (call ≡ closing)) → NoRoom d (room_of call) call first w used next → Meets as_failed d jobs origin.used origin.limit n x (drill.Full used next)
        no_room used next which it =
            let let_in : IsLetIn (jobs n) x.committed = subst (λ j. IsLetIn j x.committed) (sym (plays.waits none fresh)) may.1 in
            let written_is : it.written ≡ entries_of d (appended d call first) = it.appends.texts ∙ ap (entries_of d) (sym it.appends.entries) in
            let full : is_full (end_of (room_of call) origin.limit) used (entries_of d (appended d call first)) ≡ true
            = ap (λ (l : List Entry). is_full (end_of (room_of call) origin.limit) used l) (sym written_is) ∙ ap (λ u. is_full (end_of (room_of call) origin.limit) u it.written) it.full.1.0
            ∙ ap (λ l. is_full (end_of (room_of call) l) w.used it.written) (sym shows.limit) ∙ it.full.0 in
            let cause : HasNoRoom as_failed d jobs origin.used origin.limit n x used next = record {
              call = call;
              session = first;
              is_next = inr (calls, makes_its_first d jobs n x w.begun shut shows.begun call calls let_in may.0 passes script_is (plays.answer ∙ none) (plays.begun none ∙ fresh), script_is, refl);
              used_is = it.full.1.0 ∙ shows.used;
              next_is = it.full.1.1 ∙ ap size_of_all written_is;
              full = full;
              which = elim which [ inl ordinary ↦ inl ordinary | inr frees ↦ inr (frees, refl) ];
            } in
            record { at = x; is = inl refl; cause = cause }

    module _ (deeds : List Deed) (room : Room) (calls : List Call) (may : MayCall n w before.job x.committed) (passes : (jobs n).refuses x.committed ≡ None) (script_is : (jobs n).script x.committed ≡ Alone deeds room ∷ calls) (accepted : (now : Database) × (all_done w.dialect deeds x.committed ≡ Ok now)) (which : (room ≡ Ordinary) ⊎ (Alone deeds room ≡ closing)) (z : State) where
      abbrev call : Call
      call = Alone deeds room

      stops_by : (why : StoreFault) → DoesAlone w n w first deeds room (Err why) z → MovesAs as_failed jobs n before after origin w z x (Err (fault_of why))
      stops_by fault.Disk broke =
          let meets : Meets as_failed d jobs origin.used origin.limit n x drill.Disk = record { at = x; is = inl refl; cause = tt } in
          ((to, inl refl, leaves_front call calls may passes script_is z (subst (λ k. Breaks k call first w z) shows.dialect broke)), inr meets, tt)
      stops_by (fault.Full used next) full =
          let meets = no_room call calls may passes script_is z used next which (subst (λ k. NoRoom k room call first w used next) shows.dialect full.0) in
          ((to, inl refl, brings_none d jobs n x w z full.1), inr meets, inr (full.1, (meets, inl (plays.begun none ∙ fresh))))
      stops_by fault.OutOfMemory same = ((to, inl refl, brings_none d jobs n x w z same), lack_due jobs n before origin x, inr same)
      stops_by (fault.Refused reason) refused = absurd (ok_err (sym accepted.1 ∙ refused.0))
      stops_by fault.NotSql none = absurd none
      stops_by (fault.Busy k) none = absurd none

  module _ (z : State) (why : DrillFault) where
    -- a command of one call
    pub stops_once : (report : Report) (call : OneCall) → OnIts before.dialect w (λ database. MayCall n w before.job database × MakesOne before.dialect before.job report call database) → CallsOnce before.dialect n call w (Err why) z → Moves as_failed n before after w (Err why) z
    stops_once report call may calls jobs origin x dialect shows plays =
        let both = may (shows.dialect ∙ dialect) x.committed (subst (λ k. StandsFor k w.committed x.committed) dialect shows.committed) in
        let one : MakesOne before.dialect (jobs n) report call x.committed = subst (λ j. MakesOne before.dialect j report call x.committed) (sym (plays.waits none fresh)) both.1 in
        subst (λ (f : DrillFault). MovesAs as_failed jobs n before after origin w z x (Err f)) calls.1
        (stops_by jobs origin x shows plays call.deeds call.room [] both.0 one.passes one.script_is (one.accepted.0, subst (λ k. all_done k call.deeds x.committed ≡ Ok one.accepted.0) (sym (shows.dialect ∙ dialect)) one.accepted.1) one.which z calls.0
        (calls.2 w (session_on x.committed) (shows.dialect ∙ dialect) (stands_first origin w x shows n (none_begun n w.begun shut both.0.0)) one.fits))

    -- one that takes the lock
    pub stops_begun : {Key Told T : Type 0} (m : Meaning Key) (stamp : Stamp) (way : T → Dialect → Stamp → Told → Way) (ends : T → Option Refusal → Came) (turns : Turns Key) (source : T) (hand : Hand)
        → OnIts before.dialect w (λ database. MayCall n w before.job database × MakesTurns before.dialect m stamp way ends before.job turns source hand database)
        → ((met : StoreFault) × (fault_of met ≡ why) × TakesLock before.dialect stamp n w (Err met) z) → Moves as_failed n before after w (Err why) z
    stops_begun m stamp way ends turns source hand may takes jobs origin x dialect shows plays =
        let both = may (shows.dialect ∙ dialect) x.committed (subst (λ k. StandsFor k w.committed x.committed) dialect shows.committed) in
        let makes : MakesTurns origin.dialect m stamp way ends (jobs n) turns source hand x.committed
        = subst (λ k. MakesTurns k m stamp way ends (jobs n) turns source hand x.committed) (sym dialect)
        (subst (λ j. MakesTurns before.dialect m stamp way ends j turns source hand x.committed) (sym (plays.waits none fresh)) both.1) in
        subst (λ (f : DrillFault). MovesAs as_failed jobs n before after origin w z x (Err f)) takes.1
        (stops_by jobs origin x shows plays (map Locks (opening stamp x.committed)) Ordinary (rest origin.dialect m stamp (place_of hand turns) (both_on x.committed)) both.0 makes.passes makes.script_is (all_taken w.dialect (opening stamp x.committed) x.committed) (inl refl) z takes.0
        (takes.2 w (session_on x.committed) (shows.dialect ∙ dialect) (stands_first origin w x shows n (none_begun n w.begun shut both.0.0))))
