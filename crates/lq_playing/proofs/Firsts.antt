-- A player's first step is the machine's.
use Rattle.std.proofs.Common.{ap, inl, inr, subst, sym, ◌∙◌}
use Rattle.std.specs.List.{list_any}
use Rattle.std.specs.Prelude.{List, None, Ok, Option, Some, [], false, if◌then◌else◌, map, nat_eq, refl, true, ℕ, ◌&&◌, ◌++◌, ◌||◌, ◌∷◌, ◌≡◌, ◌≢◌}
use Rattle.lq_base.specs.declared.dialect.Dialect.{Dialect}
use Rattle.lq_base.specs.declared.tracking.Lock.{Lock}
use Rattle.lq_beside.specs.Replays.{calls_fit}
use Rattle.lq_drill.specs.Player.{Arrives, GoesOn, Moves, Standing}
use Rattle.lq_drill.specs.Faults.{Shows}
use Rattle.lq_drill.specs.declared.fault.DrillFault.{DrillFault}
use Rattle.lq_hand.specs.Way.{no_progress, Way}
use Rattle.lq_hand.specs.Hand.{calls_left, place_of}
use Rattle.lq_model.specs.declared.caller.Room.TheVariants.{Ordinary}
use Rattle.lq_playing.proofs.Erased.{fit_bare}
use Rattle.lq_playing.proofs.Machines.{Held, Runs, first_calls, first_told, held_after, is_first, own_number}
use Rattle.lq_playing.proofs.Shown.{arrives_last, arrives_told, holds_now, none_open, shows_now, stands_first}
use Rattle.lq_playing.proofs.Told.{none_begun}
use Rattle.lq_playing.specs.Answers.{as_busy, as_failed, as_locked, came}
use Rattle.lq_playing.specs.Checked.{IsLetIn, MakesOne, MakesTurns, Work, AnswersFirst, MayCall}
use Rattle.lq_playing.specs.Under.{IsUnder, ToCome, WillAnswer}
use Rattle.lq_playing.specs.declared.came.Came.{Came}
use Rattle.lq_playing.specs.declared.came.Report.{Report}
use Rattle.lq_playing.specs.declared.checks.OneCall.{OneCall}
use Rattle.lq_run.proofs.Begins.{first_session, new_keeps, opened}
use Rattle.lq_run.proofs.Ending.{some_last}
use Rattle.lq_run.proofs.Whole.{is_taken}
use Rattle.lq_run.specs.Commands.{IsNew, MayRun, both_on, script}
use Rattle.lq_run.specs.Ends.{IsRunning}
use Rattle.lq_run.specs.Stands.{IsHeld, Stands}
use Rattle.lq_run.specs.Moves.{TakesLock}
use Rattle.lq_run.specs.Steps.{KnownIn, enters_turns, place, Standing as Command}
use Rattle.lq_store.specs.Journal.{State, is_open, other}
use Rattle.lq_track.specs.Database.{Database}
use Rattle.lq_turns.specs.Schedule.{StandsFor, all_fit, answers_with, appended, moved}
use Rattle.lq_turns.specs.Rest.{if_goes_on, rest, both_of}
use Rattle.lq_turns.specs.Script.{opening}
use Rattle.lq_turns.specs.Session.{Session, called, session_on}
use Rattle.lq_turns.specs.Set.{Meaning}
use Rattle.lq_turns.specs.declared.call.Call.{Call}
use Rattle.lq_turns.specs.declared.call.Call.TheVariants.{Alone}
use Rattle.lq_turns.specs.declared.deed.Deed.TheVariants.{Locks}
use Rattle.lq_turns.specs.declared.stamp.Stamp.{Stamp}
use Rattle.lq_turns.specs.declared.stop.Refusal.{Refusal}

not_true : false ≡ true → ⊥
not_true h = Prim.cc

module _ (n : ℕ) (before after : Standing Came as_locked as_busy) (w : State) (none : before.answer ≡ None) (fresh : before.begun ≡ false) (shut : is_open n w.begun ≡ false) where
  abbrev d : Dialect
  d = before.dialect

  -- an answer without a call
  pub moves_told : (a : Came) → after.answer ≡ Some a → ((why : DrillFault) → after.owes why → before.owes why)
      → (w.dialect ≡ d → (database : Database) → StandsFor d w.committed database → AnswersFirst (before.job.needs_lock && database.lock.locked) (other n w) before.job a database) → Moves as_failed n before after w (Ok tt) w
  moves_told a its owes answers jobs origin x dialect shows plays =
      let told = subst (λ j. AnswersFirst (j.needs_lock && x.committed.lock.locked) (other n w) j a x.committed) (sym (plays.waits none fresh))
      (answers (shows.dialect ∙ dialect) x.committed (subst (λ k. StandsFor k w.committed x.committed) dialect shows.committed)) in
      let same : moved Came as_locked as_busy origin.dialect jobs n x ≡ answers_with Came as_locked as_busy n a x
      = is_first origin.dialect jobs n x (plays.answer ∙ none) (plays.begun none ∙ fresh) ∙ first_told origin.dialect jobs n x w.begun shut shows.begun a told in
      ((moved Came as_locked as_busy origin.dialect jobs n x, inl refl, subst (λ y. Arrives jobs n after origin w x y) (sym same) (arrives_told jobs n after origin w a its x shows)), λ why owed. inl (owes why owed))

  module _ (z : State) where
    -- a command of one call
    pub moves_once : (report : Report) (call : OneCall) → after.answer ≡ Some (came report call.answer) → ((why : DrillFault) → after.owes why → before.owes why) → (z.live ≡ true → is_open n z.begun ≡ false)
        → (w.dialect ≡ d → (database : Database) → StandsFor d w.committed database → MayCall n w before.job database × MakesOne d before.job report call database)
        → ((start : State) (s : Session) → start.dialect ≡ d → Stands start n w s → all_fit d call.deeds s.seen ≡ true → Stands start n z (called d (Alone call.deeds call.room) s))
        → Moves as_failed n before after w (Ok tt) z
    moves_once report call its owes shuts may does jobs origin x dialect shows plays =
        let e = origin.dialect in
        let first = session_on x.committed in
        let made : Call = Alone call.deeds call.room in
        let both = may (shows.dialect ∙ dialect) x.committed (subst (λ k. StandsFor k w.committed x.committed) dialect shows.committed) in
        let one : MakesOne e (jobs n) report call x.committed = subst (λ k. MakesOne k (jobs n) report call x.committed) (sym dialect) (subst (λ j. MakesOne d j report call x.committed) (sym (plays.waits none fresh)) both.1) in
        let let_in : IsLetIn (jobs n) x.committed = subst (λ j. IsLetIn j x.committed) (sym (plays.waits none fresh)) both.0.1 in
        let stands : Stands w n z (called e made first) = subst (λ k. Stands w n z (called k made first)) (sym dialect)
        (does w first (shows.dialect ∙ dialect) (stands_first origin w x shows n (none_begun n w.begun shut both.0.0)) both.1.fits) in
        let y : Runs = record x { committed = (called e made first).committed; holder = None; begun = n ∷ x.begun; entries = x.entries ++ appended e made first } in
        let same : moved Came as_locked as_busy e jobs n x ≡ answers_with Came as_locked as_busy n (came report call.answer) y
        = is_first e jobs n x (plays.answer ∙ none) (plays.begun none ∙ fresh) ∙ first_calls e jobs n x w.begun shut shows.begun made [] (came report call.answer) let_in both.0.0 one.passes one.script_is one.answer_is in
        let arrives : Arrives jobs n after origin z x (moved Came as_locked as_busy e jobs n x)
        = subst (λ v. Arrives jobs n after origin z x v) (sym same)
        (arrives_last jobs n after origin z (came report call.answer) its x y
        (shows_now origin w x shows n z (called e made first) y stands refl refl (none_open w.dialect n (called e made first) z.begun stands.begun (shuts stands.live))) one.free) in
        ((moved Came as_locked as_busy e jobs n x, inl refl, arrives), λ why owed. inl (owes why owed))

-- a command that takes the lock

at_new : {Key Told : Type 0} (r : Command Key Told) → r.fault ≡ None → r.refused ≡ None → place r ≡ place_of r.hand r.turns
at_new r healthy going = ap (λ g. place_of r.hand (if_goes_on (enters_turns g r.refused) r.turns)) healthy ∙ ap (λ g. place_of r.hand (if_goes_on (enters_turns None g) r.turns)) going

module _ {Key Told T : Type 0} (m : Meaning Key) (stamp : Stamp) (way : T → Dialect → Stamp → Told → Way) (ends : T → Option Refusal → Came) (source : T) (n : ℕ) (w z : State) (r : Command Key Told) (origin : State) (x : Runs) (shows : Shows origin w x) where
  abbrev e : Dialect
  e = origin.dialect

  abbrev first : Session
  first = first_session e m stamp n x.committed []

  module _ (none : w.begun ≡ None) (new : IsNew e m stamp r) (started : r.progress ≡ no_progress) (job : Work) (from : r.way ≡ way source) (makes : MakesTurns e m stamp way ends job r.turns source r.hand x.committed) (takes : TakesLock e stamp n w (Ok tt) z) where
    at : place r ≡ place_of r.hand r.turns
    at = at_new r new.fault new.refused

    may_run : MayRun e m stamp n r w w (session_on x.committed) makes.told
    may_run = record {
      dialect = shows.dialect;
      stands = stands_first origin w x shows n none;
      shut = refl;
      known = subst (λ p. KnownIn e (r.way e stamp makes.told) r.hand.goes_on (calls_left r.hand) p (both_on x.committed)) (sym started)
          (subst (λ v. KnownIn e (v e stamp makes.told) r.hand.goes_on (calls_left r.hand) no_progress (both_on x.committed)) (sym from) makes.knows);
      fits = subst (λ p. calls_fit e (script e m stamp p x.committed) (session_on x.committed) ≡ true) (sym at) makes.fits;
    }

    pub running : IsRunning e m stamp n r z w first makes.told
    running = is_taken e m stamp n r w w z (session_on x.committed) makes.told may_run new takes

    abbrev pub to_come : List Call
    to_come = rest e m stamp (place r) (both_on x.committed)

    pub some_to_come : to_come ≢ []
    some_to_come is = let keeps = new_keeps e m stamp r new (both_on x.committed) in some_last keeps.front (sym keeps.is ∙ is)

    abbrev pub holder : Held
    holder = record { runner = n; session = first; rest = to_come; answer = job.answer x.committed }

    pub is_under : IsUnder e m stamp r way ends holder
    is_under =
        let it = running in record {
          told = makes.told;
          on = record {
            ready = it.there.at.ready;
            fits = fit_bare e (rest e m stamp (place r) (both_of first)) first it.there.at.fits;
            row = it.there.at.row;
            known = it.there.known;
            committed = it.committed;
            seen = it.seen;
            keeps = it.keeps;
          };
          to_come = subst (λ f. ToCome stamp f first (rest e m stamp (place r) (both_of first)) to_come) (sym new.fault) (ap (λ b. rest e m stamp (place r) b) (sym (opened e m stamp n x.committed []).both));
          answers = subst (λ f. WillAnswer e m stamp r way ends makes.told f (job.answer x.committed)) (sym new.fault) makes.answers;
        }

    pub script_is : job.script x.committed ≡ Alone (map Locks (opening stamp x.committed)) Ordinary ∷ to_come
    script_is = makes.script_is ∙ ap (λ p. script e m stamp p x.committed) (sym at)

    abbrev pub next : Runs
    next = record x { committed = first.committed; holder = Some holder; begun = n ∷ x.begun; entries = x.entries ++ appended e (Alone (map Locks (opening stamp x.committed)) Ordinary) (session_on x.committed) }

    pub shows_next : Shows origin z next
    shows_next =
        let stands = running.there.at.stands in
        shows_now origin w x shows n z first next stands refl refl (refl, holds_now origin w x shows n z first first first.entries stands refl)

module _ {Key Told T : Type 0} (m : Meaning Key) (stamp : Stamp) (way : T → Dialect → Stamp → Told → Way) (ends : T → Option Refusal → Came) (source : T) (n : ℕ) (before after : Standing Came as_locked as_busy) (w z : State) (r : Command Key Told)
    (none : before.answer ≡ None) (fresh : before.begun ≡ false) (shut : is_open n w.begun ≡ false) where
  pub moves_begun : after.answer ≡ None → after.begun ≡ true → ((h : Held) → IsUnder before.dialect m stamp r way ends h → after.is_at h) → ((lock : Lock) → IsHeld stamp lock → after.owns lock) → ((why : DrillFault) → after.owes why → before.owes why)
      → IsNew before.dialect m stamp r → r.progress ≡ no_progress → r.way ≡ way source
      → (w.dialect ≡ before.dialect → (database : Database) → StandsFor before.dialect w.committed database → MayCall n w before.job database × MakesTurns before.dialect m stamp way ends before.job r.turns source r.hand database)
      → TakesLock before.dialect stamp n w (Ok tt) z → Moves as_failed n before after w (Ok tt) z
  moves_begun unanswered began under owns owes new started from may takes jobs origin x dialect shows plays =
      let e = origin.dialect in
      let both = may (shows.dialect ∙ dialect) x.committed (subst (λ k. StandsFor k w.committed x.committed) dialect shows.committed) in
      let shut_all = none_begun n w.begun shut both.0.0 in
      let new_e : IsNew e m stamp r = subst (λ k. IsNew k m stamp r) (sym dialect) new in
      let takes_e : TakesLock e stamp n w (Ok tt) z = subst (λ k. TakesLock k stamp n w (Ok tt) z) (sym dialect) takes in
      let makes : MakesTurns e m stamp way ends (jobs n) r.turns source r.hand x.committed
      = subst (λ k. MakesTurns k m stamp way ends (jobs n) r.turns source r.hand x.committed) (sym dialect)
      (subst (λ j. MakesTurns before.dialect m stamp way ends j r.turns source r.hand x.committed) (sym (plays.waits none fresh)) both.1) in
      let let_in : IsLetIn (jobs n) x.committed = subst (λ j. IsLetIn j x.committed) (sym (plays.waits none fresh)) both.0.1 in
      let held : Held = holder m stamp way ends source n w z r origin x shows shut_all new_e started (jobs n) from makes takes_e in
      let y : Runs = next m stamp way ends source n w z r origin x shows shut_all new_e started (jobs n) from makes takes_e in
      let made : Call = Alone (map Locks (opening stamp x.committed)) Ordinary in
      let it = running m stamp way ends source n w z r origin x shows shut_all new_e started (jobs n) from makes takes_e in
      let same : moved Came as_locked as_busy e jobs n x ≡ y
      = is_first e jobs n x (plays.answer ∙ none) (plays.begun none ∙ fresh)
      ∙ first_calls e jobs n x w.begun shut shows.begun made held.rest held.answer let_in both.0.0 makes.passes (script_is m stamp way ends source n w z r origin x shows shut_all new_e started (jobs n) from makes takes_e) refl
      ∙ held_after n held.session held.rest held.answer (record x { entries = x.entries ++ appended e made (session_on x.committed) }) (some_to_come m stamp way ends source n w z r origin x shows shut_all new_e started (jobs n) from makes takes_e) in
      let arrives : Arrives jobs n after origin z x y = record {
        shows = shows_next m stamp way ends source n w z r origin x shows shut_all new_e started (jobs n) from makes takes_e;
        plays = record {
          answer = plays.answer ∙ none ∙ sym unanswered;
          begun = λ yet. ap (λ b. b || list_any (nat_eq n) x.begun) (own_number n) ∙ sym began;
          waits = λ yet waits. absurd (not_true (sym waits ∙ began));
          goes_on = λ yet goes. subst (λ o. GoesOn after o y.committed.lock) (sym (ap (λ b. if b then Some held else None) (own_number n)))
              (under held (subst (λ k. IsUnder k m stamp r way ends held) dialect (is_under m stamp way ends source n w z r origin x shows shut_all new_e started (jobs n) from makes takes_e)));
        };
        lock = inr (inr (owns held.session.committed.lock it.committed));
      } in
      ((moved Came as_locked as_busy e jobs n x, inl refl, subst (λ v. Arrives jobs n after origin z x v) (sym same) arrives), λ why owed. inl (owes why owed))
