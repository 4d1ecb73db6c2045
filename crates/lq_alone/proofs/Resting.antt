-- How a full journal leaves one runner.
use Rattle.std.proofs.Common.{ap, append-nil, inl, inr, subst, sym, ◌∙◌}
use Rattle.std.specs.Option.{option_map}
use Rattle.std.specs.Prelude.{Bool, List, None, Ok, Option, Some, [], false, refl, true, ℕ, ◌+◌, ◌++◌, ◌∷◌, ◌≡◌, ◌⊎◌}
use Rattle.lq_alone.proofs.Along.{stands}
use Rattle.lq_alone.proofs.Course.{steps}
use Rattle.lq_alone.proofs.Behind.{FullIn, before_last, before_met, came_met, full_in}
use Rattle.lq_alone.proofs.Leaving.{frees_entries, freed_left, front_left, full_at, no_mark, same_entries, unmarked_there}
use Rattle.lq_alone.proofs.Since.{unwritten_since}
use Rattle.lq_alone.specs.One.{AnswersOwn, HasGivenUp, StandsAt, Stops, after, over}
use Rattle.lq_alone.specs.Stopped.{MayStop}
use Rattle.lq_base.specs.declared.dialect.Dialect.{Dialect}
use Rattle.lq_base.specs.declared.tracking.Lock.{Lock}
use Rattle.lq_drill.specs.Faults.{IsLetGo, Shows, answer_of, entries_of, freed, has_bar}
use Rattle.lq_drill.specs.Player.{Standing}
use Rattle.lq_drill.specs.declared.fault.DrillFault.{DrillFault}
use Rattle.lq_drill.specs.declared.fault.DrillFault.TheVariants as fault
use Rattle.lq_run.specs.Ends.{CameFrom}
use Rattle.lq_run.specs.Left.{ClosesHeld, IsAtMostFreed, IsFullIn, LeavesLock, RestsIn}
use Rattle.lq_store.specs.Journal.{Entry, State, size_of_all}
use Rattle.lq_track.specs.Database.{Database}
use Rattle.lq_turns.proofs.Journal.{Leads, calls_lead}
use Rattle.lq_turns.proofs.Made.{calls_both}
use Rattle.lq_turns.specs.Deed.{all_done}
use Rattle.lq_turns.specs.Schedule.{Job, Machine, StandsFor, has_begun}
use Rattle.lq_turns.specs.Script.{closing}
use Rattle.lq_turns.specs.Session.{Session, all_called, called, session_on}
use Rattle.lq_turns.specs.Stops.{IsLeft, Journal, joined}
use Rattle.lq_turns.specs.declared.call.Call.{Call}

module _ (Answer : Type 0) (locked : Lock → Answer) (busy : ℕ → Answer) (failed : DrillFault → Answer) (job : Job Answer locked busy) (x z : State) (database : Database) (used next : ℕ) (may : MayStop x.dialect (job.script database) database) where
  abbrev Runs : Type 0
  Runs = Machine Answer locked busy

  abbrev d : Dialect
  d = x.dialect

  abbrev calls : List Call
  calls = job.script database

  abbrev last : Session
  last = all_called d calls (session_on database)

  abbrev ran : List Call → Session
  ran made = after failed d job database made

  abbrev Rests : Type 0
  Rests = RestsIn d calls database x z used next

  leads : (t : Session) → CameFrom d (session_on database) t → all_done d (joined t.entries) database ≡ Ok t.committed
  leads t came = (subst (Leads d database) (sym came.is) (calls_lead d database came.calls (session_on database) (record { committed = refl; seen = refl }))).committed

  -- the store shows a machine that stands where a session stands
  rests_at : (t : Session) → CameFrom d (session_on database) t → IsLeft d calls database [] t.entries → ClosesHeld d calls database t.entries → (y : Runs) → Shows x z y → y.committed ≡ t.committed → y.entries ≡ t.entries → z.begun ≡ None
      → (full : IsFullIn d calls database x used next) → IsAtMostFreed full.written t.entries → LeavesLock t.committed.lock full.more t.entries → Rests
  rests_at t came left closes y shows committed entries shut full behind lock = record {
    stops = record {
      written = t.entries;
      left = left;
      closes = closes;
      now = t.committed;
      led = leads t came;
      database_is = record { dialect = shows.dialect; live = shows.live; shut = refl; committed = subst (StandsFor d z.committed) committed shows.committed };
      limit = shows.limit;
      entries = shows.entries ∙ ap (λ (es : Journal). option_map (λ (there : List Entry). there ++ entries_of d es) x.entries) entries;
      used = shows.used ∙ ap (λ (es : Journal). x.used + size_of_all (entries_of d es)) entries;
    };
    full = full;
    behind = behind;
    shut = shut;
    lock = lock;
  }

  -- its last calls are made
  module _ (met : Type 0) (y : Runs) (shows : Shows x z y) (let_go : IsLetGo y.committed.lock) (es : Journal) (call : Call) (full : FullIn Answer locked busy failed d job database x used next may es call) (since : (y.entries ≡ es) ⊎ (y.entries ≡ es ++ freed)) where
    behind_of : (t : Session) → y.entries ≡ t.entries → IsAtMostFreed full.full.written t.entries
    behind_of t same = elim since [
      | inl none ↦ inl (sym same ∙ none ∙ sym full.wrote)
      | inr once ↦ inr (sym same ∙ once ∙ ap (λ (l : Journal). l ++ freed) (sym full.wrote))
    ]

    gave_up : HasGivenUp failed d job database y → Rests
    gave_up p = elim p.by [
      | inl is ↦ marked is.1.0 is.1.1
      | inr is ↦ bare is.0 is.1.0 is.1.1
    ] where
      s : Session
      s = p.session

      made : List Call
      made = p.met.cut.first ∷ p.met.cut.more

      same : s.entries ≡ (ran made).entries
      same = same_entries Answer locked busy failed d job database s p.met

      came : CameFrom d (session_on database) s
      came = came_met Answer locked busy failed d job database s p.met

      front : ClosesHeld d calls database s.entries
      front = let before = before_met Answer locked busy failed d job database s p.met in inl (before.more, before.entries)

      marked : (older : List ℕ) → y ≡ over s (failed p.met.why) older → Rests
      marked older is = rests_at s came (front_left d calls made (p.met.cut.next ∷ p.met.cut.rest) database s.entries [] p.met.cut.is (sym same ∙ sym (append-nil s.entries))) front y shows (ap (λ (w : Runs). w.committed) is) (ap (λ (w : Runs). w.entries) is) (subst (Shows x z) is shows).begun
          full.full (behind_of s (ap (λ (w : Runs). w.entries) is)) (inl (subst (λ (w : Runs). IsLetGo w.committed.lock) is let_go))

      wrote : (called d closing s).entries ≡ s.entries ++ freed
      wrote = frees_entries d s (p.met.idle p.shut)

      closed : has_bar s.committed.lock ≡ false → ClosesHeld d calls database (called d closing s).entries
      closed unmarked = let before = before_met Answer locked busy failed d job database s p.met in inr (record {
        closes = may.closes p.met.cut;
        front = s.entries;
        is_front = (before.more, before.entries);
        now = s.committed;
        led = leads s came;
        held = p.held;
        unmarked = no_mark s.committed.lock unmarked;
        is = wrote;
      })

      bare : has_bar s.committed.lock ≡ false → (older : List ℕ) → y ≡ over (called d closing s) (failed p.met.why) older → Rests
      bare unmarked older is = rests_at (called d closing s) (record { calls = came.calls ++ closing ∷ []; is = ap (called d closing) came.is ∙ sym (calls_both d came.calls (closing ∷ []) (session_on database)) })
          (subst (IsLeft d calls database []) (ap (λ (l : Journal). l ++ freed) (sym same) ∙ sym wrote) (freed_left d calls made (p.met.cut.next ∷ p.met.cut.rest) database p.met.cut.is (unmarked_there Answer locked busy failed d job database s p.met unmarked)))
          (closed unmarked) y shows (ap (λ (w : Runs). w.committed) is) (ap (λ (w : Runs). w.entries) is) (subst (Shows x z) is shows).begun full.full (behind_of (called d closing s) (ap (λ (w : Runs). w.entries) is)) (inl (subst (λ (w : Runs). IsLetGo w.committed.lock) is let_go))

    silent : (A : Type 0) (a : Answer) (o : Option Answer) → o ≡ None → o ≡ Some a → A
    silent A a None none some = cc
    silent A a (Some b) none some = cc

    same_answer : (a b : Answer) (o : Option Answer) → o ≡ Some a → o ≡ Some b → a ≡ b
    same_answer a b o one other = cc

    rests_made : AnswersOwn failed job database → StandsAt failed d job database met y → answer_of 1 y.answers ≡ Some (failed (fault.Full used next)) → Rests
    rests_made own (inl is) told = silent _ (failed (fault.Full used next)) (answer_of 1 y.answers) (ap (λ (w : Runs). answer_of 1 w.answers) is) told
    rests_made own (inr (inl p)) told = absurd ((own (fault.Full used next)).1 (p.is ∙ ap (λ a. Some a) (same_answer p.answer (failed (fault.Full used next)) (answer_of 1 y.answers) (ap (λ (w : Runs). answer_of 1 w.answers) p.ended.1) told)))
    rests_made own (inr (inr (inl p))) told = silent _ (failed (fault.Full used next)) (answer_of 1 y.answers) (ap (λ (w : Runs). answer_of 1 w.answers) p.is) told
    rests_made own (inr (inr (inr (inl p)))) told = absurd ((own (fault.Full used next)).0 (same_answer (job.answer database) (failed (fault.Full used next)) (answer_of 1 y.answers) (ap (λ (w : Runs). answer_of 1 w.answers) p.ended.1) told))
    rests_made own (inr (inr (inr (inr (inl q))))) told = silent _ (failed (fault.Full used next)) (answer_of 1 y.answers) (ap (λ (w : Runs). answer_of 1 w.answers) q.1.is) told
    rests_made own (inr (inr (inr (inr (inr q))))) told = gave_up q.1

  -- its first call has no room, or the one that frees the lock, and the store is as it was
  module _ (met : Type 0) (y : Runs) (shows : Shows x z y) (none : answer_of 1 y.answers ≡ None) (shut : z.begun ≡ None) (call : Call) (full : FullIn Answer locked busy failed d job database x used next may y.entries call) (which : (has_begun Answer locked busy 1 y ≡ false) ⊎ (call ≡ closing)) where
    answered : (A : Type 0) (a : Answer) (o : Option Answer) → o ≡ None → o ≡ Some a → A
    answered A a None none some = cc
    answered A a (Some b) none some = cc

    never : (A : Type 0) (b : Bool) → b ≡ true → b ≡ false → A
    never A true on off = cc
    never A false on off = cc

    -- one that has begun had no room to free the lock
    frees_it : has_begun Answer locked busy 1 y ≡ true → full.full.more ≡ freed
    frees_it begun = elim which [
      | inl fresh ↦ never _ (has_begun Answer locked busy 1 y) begun fresh
      | inr frees ↦ full.frees frees
    ]

    -- behind some of its calls
    on_way : (made rest : List Call) → calls ≡ made ++ rest → (s : Session) → CameFrom d (session_on database) s → s.entries ≡ (ran made).entries → y.committed ≡ s.committed → y.entries ≡ s.entries → has_begun Answer locked busy 1 y ≡ true → Rests
    on_way made rest is s came same committed entries begun =
        let before = before_last Answer locked busy failed d job database made rest is s same in
        rests_at s came (front_left d calls made rest database s.entries [] is (sym same ∙ sym (append-nil s.entries))) (inl (before.more, before.entries)) y shows committed entries shut full.full (inl (sym (full.wrote ∙ entries))) (inr (inl (frees_it begun)))

    rests_still : StandsAt failed d job database met y → Rests
    rests_still (inl is) =
        rests_at (session_on database) (record { calls = []; is = refl }) (front_left d calls [] calls database [] [] refl refl) (inl (last.entries, refl)) y shows (ap (λ (w : Runs). w.committed) is) (ap (λ (w : Runs). w.entries) is) shut
        full.full (inl (sym (full.wrote ∙ ap (λ (w : Runs). w.entries) is))) (inr (inr refl))
    rests_still (inr (inl p)) = answered _ p.answer (answer_of 1 y.answers) none (ap (λ (w : Runs). answer_of 1 w.answers) p.ended.1)
    rests_still (inr (inr (inl p))) =
        on_way (p.cut.first ∷ p.cut.more) (p.cut.next ∷ p.cut.rest) p.cut.is (ran (p.cut.first ∷ p.cut.more)) (record { calls = p.cut.first ∷ p.cut.more; is = refl }) refl (ap (λ (w : Runs). w.committed) p.is) (ap (λ (w : Runs). w.entries) p.is) (ap (has_begun Answer locked busy 1) p.is)
    rests_still (inr (inr (inr (inl p)))) = answered _ (job.answer database) (answer_of 1 y.answers) none (ap (λ (w : Runs). answer_of 1 w.answers) p.ended.1)
    rests_still (inr (inr (inr (inr (inl q))))) =
        let p = q.1 in
        on_way (p.met.cut.first ∷ p.met.cut.more) (p.met.cut.next ∷ p.met.cut.rest) p.met.cut.is p.session (came_met Answer locked busy failed d job database p.session p.met) (same_entries Answer locked busy failed d job database p.session p.met)
        (ap (λ (w : Runs). w.committed) p.is) (ap (λ (w : Runs). w.entries) p.is) (ap (has_begun Answer locked busy 1) p.is)
    rests_still (inr (inr (inr (inr (inr q))))) = elim q.1.by [
      | inl is ↦ answered _ (failed q.1.met.why) (answer_of 1 y.answers) none (ap (λ (w : Runs). answer_of 1 w.answers) is.1.1)
      | inr is ↦ answered _ (failed q.1.met.why) (answer_of 1 y.answers) none (ap (λ (w : Runs). answer_of 1 w.answers) is.1.1)
    ]

  -- so it does where its steps ended
  pub rests_in : AnswersOwn failed job database → (r : Standing Answer locked busy) → Stops failed job x database r z (fault.Full used next) → z.begun ≡ None ⊎ (z.live ≡ false) → Rests
  rests_in own r s shut = elim s.rests [
    | inl made ↦
        rests_made Met made.0 made.2 made.4 at.entries s.met.meets.cause.call its_cause (elim (unwritten_since Answer locked busy failed d job database Met own (fault.Full used next) s.now made.0 here s.silent made.1 made.3) [
          | inl same ↦ inl (same ∙ s.met.since own)
          | inr once ↦ inr (once ∙ ap (λ (l : Journal). l ++ freed) (s.met.since own))
        ]) own (inr (steps Answer locked busy failed d job database Met s.now made.0 here made.1)) made.3
    | inr same ↦
        rests_still Met s.now (subst (λ (w : State). Shows x w s.now) (sym same.0) s.shows) s.silent (lives same.0 shut) same.1.0.cause.call (full_in Answer locked busy failed d job database x used next may s.now.entries same.1.0.cause.call (full_at Answer locked busy failed d job database x.used x.limit used next Met s.now here same.1.0)) same.1.1 here
  ] where
    Met : Type 0
    Met = r.faulted ≡ true

    at : Runs
    at = s.met.at

    here : StandsAt failed d job database Met s.now
    here = stands Answer locked busy failed job x database Met s.steps s.now s.came

    its_cause : FullIn Answer locked busy failed d job database x used next may at.entries s.met.meets.cause.call
    its_cause = full_in Answer locked busy failed d job database x used next may at.entries s.met.meets.cause.call (full_at Answer locked busy failed d job database x.used x.limit used next Met at (stands Answer locked busy failed job x database Met s.met.steps at s.met.came) s.met.meets)

    dead : (A : Type 0) → true ≡ false → A
    dead A is = cc

    lives : z ≡ s.before → z.begun ≡ None ⊎ (z.live ≡ false) → z.begun ≡ None
    lives same (inl none) = none
    lives same (inr gone) = dead _ (sym s.shows.live ∙ ap (λ (w : State). w.live) (sym same) ∙ gone)
