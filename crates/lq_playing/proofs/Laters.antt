-- A player's later steps are the machine's, or those of one that gives up after a fault.
use Rattle.std.proofs.Common.{ap, inl, inr, subst, sym, ◌∙◌}
use Rattle.std.specs.List.{list_any}
use Rattle.std.specs.Prelude.{Bool, Err, List, None, Ok, Option, Some, [], false, if◌then◌else◌, is_some, nat_eq, refl, true, ℕ, ◌++◌, ◌||◌, ◌∷◌, ◌≡◌, ◌≢◌, ◌⊎◌}
use Rattle.lq_base.specs.declared.dialect.Dialect.{Dialect}
use Rattle.lq_base.specs.declared.tracking.Lock.{Lock}
use Rattle.lq_drill.specs.Faults.{Falls, Meets, frees, has_bar, last_calls, IsHolders, IsOpenAs, Shows}
use Rattle.lq_drill.specs.Player.{Arrives, Brings, GoesOn, IsDue, MakesLast, Moves, MovesAs, Plays, Rests, Standing, held_by, answer_of as told_by}
use Rattle.lq_drill.specs.declared.fault.DrillFault.{DrillFault}
use Rattle.lq_drill.specs.declared.fault.DrillFault.TheVariants as drill
use Rattle.lq_hand.specs.Hand.{IsReady}
use Rattle.lq_hand.specs.Way.{Way}
use Rattle.lq_model.specs.declared.caller.Room.TheVariants.{Ordinary}
use Rattle.lq_model.specs.declared.caller.Room.{Room}
use Rattle.lq_model.specs.declared.fault.StoreFault.{StoreFault}
use Rattle.lq_model.specs.declared.fault.StoreFault.TheVariants as fault
use Rattle.lq_playing.proofs.Erased.{call_with, fit_bare, with_entries}
use Rattle.lq_playing.proofs.Falling.{brings_all, cause, fallen, fallen_held, given, given_calls, given_is, given_shows, given_with}
use Rattle.lq_playing.proofs.Machines.{Held, IsToCall, Runs, held_after, holder_is, is_later, later_lost, next_called, not_open, not_other, own_number, some_is}
use Rattle.lq_playing.proofs.Marks.{bare_none, last_open, last_shut, next_left}
use Rattle.lq_playing.proofs.Shown.{arrives_last, arrives_told, holds_now, none_open, shows_now, shut_begun, shut_none, stands_for}
use Rattle.lq_playing.specs.Answers.{fault_of, is_failed_end, is_told_end, refusal_in, tells_locked, as_busy, as_failed, as_locked, came}
use Rattle.lq_playing.specs.Checked.{Work}
use Rattle.lq_playing.specs.Under.{IsFree, IsHindered, IsOn, IsPlain, IsUnder, ToCome, WillAnswer, bare}
use Rattle.lq_playing.specs.Playing.{is_locked}
use Rattle.lq_playing.specs.declared.came.Came.{Came}
use Rattle.lq_playing.specs.declared.came.Report.{Report}
use Rattle.lq_run.proofs.Ending.{keeps_split, left_after, only_last}
use Rattle.lq_run.proofs.Keeping.{call_holds}
use Rattle.lq_run.proofs.Resting.{marked_some}
use Rattle.lq_run.specs.Does.{Faults}
use Rattle.lq_run.specs.Ends.{disk_failed}
use Rattle.lq_run.specs.Beside.{StopsAs}
use Rattle.lq_run.specs.Stands.{IsBare, IsHeld, IsMarked, IsBegun, Stands}
use Rattle.lq_run.specs.Moves.{Goes, IsAt}
use Rattle.lq_run.specs.Steps.{Advances, Ends, EndsStep, IsThere, Steps, StepsAs, TakesBack, TellsAs, end_of, is_disk, is_over, last_end, place, Falls as MetFault, Standing as Command}
use Rattle.lq_run.specs.declared.runner.End.{End}
use Rattle.lq_run.specs.declared.runner.End.TheVariants as end
use Rattle.lq_run.specs.declared.runner.Step.TheVariants as step
use Rattle.lq_store.specs.Journal.{State, Transaction, is_open, other}
use Rattle.lq_track.specs.Database.{Database}
use Rattle.lq_turns.proofs.Made.{committed_last}
use Rattle.lq_turns.specs.Deed.{contents_of, with_contents, lock_after}
use Rattle.lq_turns.specs.Schedule.{StandsFor, after_call, answers_with, appended, has_begun, moved}
use Rattle.lq_turns.specs.Rest.{NoMore, Over, between, rest, both_of}
use Rattle.lq_turns.specs.Script.{closing}
use Rattle.lq_turns.specs.Session.{Session, called}
use Rattle.lq_turns.specs.Set.{Meaning}
use Rattle.lq_turns.specs.declared.answer.Answer.{Answer}
use Rattle.lq_turns.specs.declared.answer.Answer.TheVariants.{Locked}
use Rattle.lq_turns.specs.declared.call.Call.{Call}
use Rattle.lq_turns.specs.declared.call.Call.TheVariants.{Abort}
use Rattle.lq_turns.specs.declared.deed.Deed.{Deed}
use Rattle.lq_turns.specs.declared.deed.Deed.TheVariants.{Locks}
use Rattle.lq_turns.specs.declared.deed.OnLock.TheVariants.{Freed}
use Rattle.lq_turns.specs.declared.stamp.Stamp.{Stamp}
use Rattle.lq_turns.specs.declared.stop.Refusal.{Refusal}

not_true : false ≡ true → ⊥
not_true h = Prim.cc

faulted_not : (why : StoreFault) (f : Option StoreFault) → f ≡ Some why → f ≡ None → ⊥
faulted_not why f some none = Prim.cc

not_nil : {c : Call} {cs : List Call} → c ∷ cs ≡ [] → ⊥
not_nil h = Prim.cc

-- how a command ends

failed_end : (why : StoreFault) → is_failed_end (end_of why) ≡ true
failed_end fault.Disk = refl
failed_end (fault.Full used next) = refl
failed_end fault.OutOfMemory = refl
failed_end (fault.Busy n) = refl
failed_end fault.NotSql = refl
failed_end (fault.Refused reason) = refl

not_failed : (why : StoreFault) (e : End) → is_failed_end e ≡ false → e ≡ end_of why → ⊥
not_failed why e whole is = not_true (sym whole ∙ ap is_failed_end is ∙ failed_end why)

told_end : (r : Option Refusal) → is_told_end (last_end None r) ≡ true
told_end None = refl
told_end (Some refusal) = refl

tells_refusal : (it : Way) (e : End) → is_told_end e ≡ true → TellsAs it e → it.tells (refusal_in e)
tells_refusal it end.Done is tells = tells
tells_refusal it (end.Refused refusal) is tells = tells
tells_refusal it (end.Locked lock) is tells = absurd (not_true is)
tells_refusal it end.Disk is tells = absurd (not_true is)
tells_refusal it (end.Full used next) is tells = absurd (not_true is)
tells_refusal it end.OutOfMemory is tells = absurd (not_true is)

-- with a fault a command does not come to its end
not_stopped : (was : Option StoreFault) (refused : Option Refusal) (e : End) → e ≡ last_end None refused → StopsAs was (step.Ended e) → ⊥
not_stopped was None e is stops = subst (λ k. StopsAs was (step.Ended k)) is stops
not_stopped was (Some refusal) e is stops = subst (λ k. StopsAs was (step.Ended k)) is stops

module _ {Key Told : Type 0} (d : Dialect) (m : Meaning Key) (stamp : Stamp) (n : ℕ) (r : Command Key Told) (start : State) (s : Session) (x y : State) (e : End) (whole : is_failed_end e ≡ false) where
  -- its last call was made, and it had met no fault
  pub record IsLast : Type 0 where
    pub healthy : r.fault ≡ None
    pub goes : Goes d m stamp n (place r) Over start s y
    pub ends : e ≡ last_end None r.refused

  last_made : EndsStep d m stamp n r start s x e y → IsLast
  last_made (inl ends) = by r.fault refl ends.1 where
    by : (f : Option StoreFault) → r.fault ≡ f → Ends d m stamp n (place r) f r.refused start s x e y → IsLast
    by None healthy (inl went) = record { healthy = healthy; goes = went.0; ends = went.1 }
    by None healthy (inr failed) = absurd (not_failed failed.0 e whole failed.2)
    by (Some why) met (inl (bare, inl went)) = absurd (not_failed why e whole went.1)
    by (Some why) met (inl (bare, inr failed)) = absurd (not_failed failed.0 e whole failed.2)
    by (Some why) met (inr marked) = absurd (not_failed why e whole marked.2)
  last_made (inr (inl short)) = by short.1 where
    by : Ends d m stamp n (between NoMore) (Some fault.OutOfMemory) r.refused start s x e y → IsLast
    by (inl (bare, inl went)) = absurd (not_failed fault.OutOfMemory e whole went.1)
    by (inl (bare, inr failed)) = absurd (not_failed failed.0 e whole failed.2)
    by (inr marked) = absurd (not_failed fault.OutOfMemory e whole marked.2)
  last_made (inr (inr failed)) = absurd (not_failed fault.Disk e whole failed.1)

-- the lock is free after the last call
freed : (d : Dialect) (s : Session) → (called d closing s).committed.lock.locked ≡ false
freed d s = ap (λ (b : Database). b.lock.locked) (committed_last d (Locks Freed) (with_contents (lock_after Freed s.seen) (contents_of s.seen)) s)

-- a session that holds the lock does so whatever was written
forgets : {Key Told : Type 0} (d : Dialect) (m : Meaning Key) (stamp : Stamp) (r : Command Key Told) (told : Told) (s : Session) (entries : List (List Deed)) → IsOn d m stamp r told (with_entries s entries) → IsOn d m stamp r told s
forgets d m stamp r told s entries on = record { ready = on.ready; fits = on.fits; row = on.row; known = on.known; committed = on.committed; seen = on.seen; keeps = on.keeps }

-- nor does what is left to it
kept_so : (stamp : Stamp) (f : Option StoreFault) (s : Session) (entries : List (List Deed)) (calls left : List Call) → ToCome stamp f (with_entries s entries) calls left → ToCome stamp f s calls left
kept_so stamp None s entries calls left is = is
kept_so stamp (Some why) s entries calls left is = is

head_is : {a b : Call} {xs ys : List Call} → a ∷ xs ≡ b ∷ ys → a ≡ b
head_is h = Prim.cc

tail_is : {a b : Call} {xs ys : List Call} → a ∷ xs ≡ b ∷ ys → xs ≡ ys
tail_is h = Prim.cc

-- a session that has a transaction open has it in the store
pub open_not : (d : Dialect) (n : ℕ) (s : Session) (t : Option Transaction) → IsBegun d n s t → s.is_open ≡ true → is_open n t ≡ false → ⊥
open_not d n s t is opened shut =
    let none : (s.is_open ≡ false) × (s.seen ≡ s.committed) × (s.begun ≡ []) = subst (IsBegun d n s) (none_open d n s t is shut) is in
    not_true (sym none.0 ∙ opened)

-- only a fault of the disk leaves something
unchanged : (start x z : State) (n : ℕ) (s : Session) (room : Room) (call : Call) (why : StoreFault) → is_disk why ≡ false → Faults start n x s room call why z → z ≡ x
unchanged start x z n s room call fault.Disk other faults = absurd (not_true (sym other))
unchanged start x z n s room call (fault.Full used next) other faults = faults.1
unchanged start x z n s room call fault.OutOfMemory other faults = faults
unchanged start x z n s room call (fault.Busy k) other faults = absurd faults
unchanged start x z n s room call fault.NotSql other faults = absurd faults
unchanged start x z n s room call (fault.Refused reason) other faults = absurd faults

-- after a call of the holder
module _ {Key Told T : Type 0} (m : Meaning Key) (stamp : Stamp) (way : T → Dialect → Stamp → Told → Way) (ends : T → Option Refusal → Came) (n : ℕ) (after : Standing Came as_locked as_busy) (origin w z : State) (jobs : ℕ → Work) (first x : Runs) (h : Held) (call : Call) (calls : List Call) (shows : Shows origin w x) (it : IsToCall n x h call calls) (now : Session) (made : now ≡ called origin.dialect call (bare h.session)) (stands_now : Stands w n z now) where
  abbrev t : Session
  t = called origin.dialect call h.session

  abbrev es : List (List Deed)
  es = (call_with origin.dialect call h.session []).0

  as_made : now ≡ with_entries t es
  as_made = made ∙ (call_with origin.dialect call h.session []).1

  abbrev left : Option Held → Runs
  left o = record x { committed = t.committed; holder = o; begun = n ∷ x.begun; entries = x.entries ++ appended origin.dialect call h.session }

  shows_left : (o : Option Held) → IsHolders origin.dialect t.committed o z.begun → Shows origin z (left o)
  shows_left o held = shows_now origin w x shows n z now (left o) stands_now (sym (ap (λ (q : Session). q.committed) as_made)) (ap (λ (q : Session). x.entries ++ q.entries) (sym made)) held

  -- another is to come
  called_on : (q : Command Key Told) (told : Told) → after.answer ≡ None → after.begun ≡ true → ((k : Held) → IsUnder origin.dialect m stamp q way ends k → after.is_at k) → ((lock : Lock) → IsHeld stamp lock → after.owns lock)
      → calls ≢ [] → ToCome stamp q.fault now (rest origin.dialect m stamp (place q) (both_of now)) calls → IsOn origin.dialect m stamp q told now → WillAnswer origin.dialect m stamp q way ends told q.fault h.answer → Arrives jobs n after origin z first (moved Came as_locked as_busy origin.dialect jobs n x)
  called_on q told unanswered began places keeps some rest_of on answers =
      let on_it : IsOn origin.dialect m stamp q told t = forgets origin.dialect m stamp q told t es (subst (λ v. IsOn origin.dialect m stamp q told v) as_made on) in
      let k : Held = record { runner = n; session = t; rest = calls; answer = h.answer } in
      let same : moved Came as_locked as_busy origin.dialect jobs n x ≡ left (Some k)
      = next_called origin.dialect jobs n x h call calls it ∙ held_after n t calls h.answer (record x { entries = x.entries ++ appended origin.dialect call h.session }) some in
      subst (λ v. Arrives jobs n after origin z first v) (sym same) (record {
        shows = shows_left (Some k) (refl, holds_now origin w x shows n z now t es stands_now as_made);
        plays = record {
          answer = it.unanswered ∙ sym unanswered;
          begun = λ yet. ap (λ b. b || list_any (nat_eq n) x.begun) (own_number n) ∙ sym began;
          waits = λ yet waits. absurd (not_true (sym waits ∙ began));
          goes_on = λ yet goes. subst (λ o. GoesOn after o (left (Some k)).committed.lock) (sym (ap (λ b. if b then Some k else None) (own_number n)))
              (places k (record {
                told = told;
                on = on_it;
                to_come = kept_so stamp q.fault t es (rest origin.dialect m stamp (place q) (both_of t)) calls (subst (λ (v : Session). ToCome stamp q.fault v (rest origin.dialect m stamp (place q) (both_of v)) calls) as_made rest_of);
                answers = answers;
              }));
        };
        lock = inr (inr (keeps t.committed.lock on_it.committed));
      })

  -- or it was the last
  last_is : calls ≡ [] → moved Came as_locked as_busy origin.dialect jobs n x ≡ answers_with Came as_locked as_busy n h.answer (left None)
  last_is no_more = next_called origin.dialect jobs n x h call calls it ∙ ap (λ l. after_call Came as_locked as_busy n t l h.answer (record x { entries = x.entries ++ appended origin.dialect call h.session })) no_more

  pub shows_last : calls ≡ [] → z.begun ≡ None → Shows origin z (moved Came as_locked as_busy origin.dialect jobs n x)
  shows_last no_more shut =
      let shown : Shows origin z (left None) = shows_left None shut in
      subst (Shows origin z) (sym (last_is no_more)) (record { dialect = shown.dialect; limit = shown.limit; live = shown.live; committed = shown.committed; begun = shown.begun; entries = shown.entries; used = shown.used; room = shown.room })

  pub answers_last : calls ≡ [] → told_by n (moved Came as_locked as_busy origin.dialect jobs n x).answers ≡ Some h.answer
  answers_last no_more = ap (λ (y : Runs). told_by n y.answers) (last_is no_more) ∙ ap (λ b. if b then Some h.answer else told_by n x.answers) (own_number n)

  called_last : (a : Came) → after.answer ≡ Some a → calls ≡ [] → a ≡ h.answer → call ≡ closing → z.begun ≡ None → Arrives jobs n after origin z first (moved Came as_locked as_busy origin.dialect jobs n x)
  called_last a its no_more is frees shut =
      let same : moved Came as_locked as_busy origin.dialect jobs n x ≡ answers_with Came as_locked as_busy n a (left None)
      = next_called origin.dialect jobs n x h call calls it ∙ ap (λ l. after_call Came as_locked as_busy n t l h.answer (record x { entries = x.entries ++ appended origin.dialect call h.session })) no_more ∙ ap (λ b. answers_with Came as_locked as_busy n b (left None)) (sym is) in
      subst (λ v. Arrives jobs n after origin z first v) (sym same)
      (arrives_last jobs n after origin z a its first (left None) (shows_left None shut) (subst (λ (k : Call). (called origin.dialect k h.session).committed.lock.locked ≡ false) (sym frees) (freed origin.dialect h.session)))

-- what it is to answer does not hang on its place
answers_as : {Key Told T : Type 0} (d : Dialect) (m : Meaning Key) (stamp : Stamp) (r q : Command Key Told) (way : T → Dialect → Stamp → Told → Way) (ends : T → Option Refusal → Came) (told : Told) (f : Option StoreFault) (a : Came)
    → WillAnswer d m stamp r way ends told f a → WillAnswer d m stamp q way ends told f a
answers_as d m stamp r q way ends told None a is = is
answers_as d m stamp r q way ends told (Some why) a is = is

module _ {Key Told T : Type 0} (m : Meaning Key) (stamp : Stamp) (way : T → Dialect → Stamp → Told → Way) (answer_of : T → Option Refusal → Came) (n : ℕ) (before after : Standing Came as_locked as_busy) (w : State) (r : Command Key Told) (none : before.answer ≡ None) (begun : before.begun ≡ true)
    (under : (h : Held) → before.is_at h → IsUnder before.dialect m stamp r way answer_of h) (owns : (lock : Lock) → IsHeld stamp lock → before.owns lock) (plain : IsPlain stamp) where
  abbrev d : Dialect
  d = before.dialect

  -- what keeps it from its next call it answers
  pub moves_hindered : (report : Report) (a : Answer) → after.answer ≡ Some (came report a) → IsHindered d stamp n w a → ((why : DrillFault) → after.owes why → before.owes why) → Moves as_failed n before after w (Ok tt) w
  moves_hindered report a its hindered owes jobs origin x dialect shows plays =
      ((moved Came as_locked as_busy origin.dialect jobs n x, inl refl, by (held_by n x.holder) refl (plays.goes_on none begun)), λ why owed. inl (owes why owed)) where
        why : ((IsHeld stamp x.committed.lock → ⊥) × (a ≡ Locked x.committed.lock)) ⊎ (IsHeld stamp x.committed.lock × ((k : ℕ) × (other n w ≡ Some k)))
        why = hindered (shows.dialect ∙ dialect) x.committed (subst (λ k. StandsFor k w.committed x.committed) dialect shows.committed)

        by : (o : Option Held) → held_by n x.holder ≡ o → GoesOn before o x.committed.lock → Arrives jobs n after origin w x (moved Came as_locked as_busy origin.dialect jobs n x)
        by None gone lost = elim why [
          | inl it ↦
              let same : moved Came as_locked as_busy origin.dialect jobs n x ≡ answers_with Came as_locked as_busy n (came report a) x
              = is_later origin.dialect jobs n x (plays.answer ∙ none) (plays.begun none ∙ begun) ∙ later_lost origin.dialect jobs n x gone ∙ ap (λ b. answers_with Came as_locked as_busy n (came report b) x) (sym it.1) in
              subst (λ y. Arrives jobs n after origin w x y) (sym same) (arrives_told jobs n after origin w (came report a) its x shows)
          | inr it ↦ absurd (lost (owns x.committed.lock it.0))
        ]
        by (Some h) held at =
            let its_holder = holder_is n x.holder h held in
            let holders : IsHolders origin.dialect x.committed (Some h) w.begun = subst (λ o. IsHolders origin.dialect x.committed o w.begun) its_holder.0 shows.begun in
            elim why [
              | inl it ↦ absurd (it.0 (subst (λ (b : Database). IsHeld stamp b.lock) holders.0 (under h at).on.committed))
              | inr it ↦ absurd (not_other origin.dialect n it.1.0 h.session w.begun (subst (λ j. IsOpenAs origin.dialect j h.session w.begun) its_holder.1 holders.1) it.1.1)
            ]

  -- where the store shows the machine no other session has a transaction open between its calls
  pub not_busy : (a : Answer) → tells_locked a ≡ false → IsHindered d stamp n w a → (jobs : ℕ → Work) (origin : State) (x : Runs) → origin.dialect ≡ before.dialect → Shows origin w x → Plays jobs n before x → ⊥
  not_busy a own hindered jobs origin x dialect shows plays = by (held_by n x.holder) refl (plays.goes_on none begun) where
    why : ((IsHeld stamp x.committed.lock → ⊥) × (a ≡ Locked x.committed.lock)) ⊎ (IsHeld stamp x.committed.lock × ((k : ℕ) × (other n w ≡ Some k)))
    why = hindered (shows.dialect ∙ dialect) x.committed (subst (λ k. StandsFor k w.committed x.committed) dialect shows.committed)

    by : (o : Option Held) → held_by n x.holder ≡ o → GoesOn before o x.committed.lock → ⊥
    by None gone lost = elim why [
      | inl it ↦ not_true (sym own ∙ ap tells_locked it.1)
      | inr it ↦ lost (owns x.committed.lock it.0)
    ]
    by (Some h) held at =
        let its_holder = holder_is n x.holder h held in
        let holders : IsHolders origin.dialect x.committed (Some h) w.begun = subst (λ o. IsHolders origin.dialect x.committed o w.begun) its_holder.0 shows.begun in
        elim why [
          | inl it ↦ not_true (sym own ∙ ap tells_locked it.1)
          | inr it ↦ not_other origin.dialect n it.1.0 h.session w.begun (subst (λ j. IsOpenAs origin.dialect j h.session w.begun) its_holder.1 holders.1) it.1.1
        ]

  module _ (within : Bool) (opened : is_open n w.begun ≡ within) (free : IsFree d stamp n within w) (jobs : ℕ → Work) (origin : State) (x : Runs) (dialect : origin.dialect ≡ before.dialect) (shows : Shows origin w x) (plays : Plays jobs n before x) where
    -- the machine's holder is this command
    pub record IsHolder : Type 0 where
      pub h : Held
      pub held : held_by n x.holder ≡ Some h
      pub on : IsUnder origin.dialect m stamp r way answer_of h

    pub is_holder : IsHolder
    is_holder = by (held_by n x.holder) refl (plays.goes_on none begun) where
      by : (o : Option Held) → held_by n x.holder ≡ o → GoesOn before o x.committed.lock → IsHolder
      by None gone lost = at within refl where
        at : (b : Bool) → within ≡ b → IsHolder
        at true is = absurd (not_open origin.dialect n x.committed x.holder w.begun gone shows.begun (opened ∙ is))
        at false is = absurd (lost (owns x.committed.lock (free.held is (shows.dialect ∙ dialect) x.committed (subst (λ k. StandsFor k w.committed x.committed) dialect shows.committed))))
      by (Some h) held at = record { h = h; held = held; on = subst (λ k. IsUnder k m stamp r way answer_of h) (sym dialect) (under h at) }

    module _ (it : IsHolder) where
      abbrev pub s : Session
      s = bare it.h.session

      holders : IsHolders origin.dialect x.committed (Some it.h) w.begun
      holders = subst (λ o. IsHolders origin.dialect x.committed o w.begun) (holder_is n x.holder it.h it.held).0 shows.begun

      stands : Stands w n w s
      stands = stands_for origin w x shows n it.h.session holders.0 (subst (λ j. IsOpenAs origin.dialect j it.h.session w.begun) (holder_is n x.holder it.h it.held).1 holders.1)

      pub there : IsThere origin.dialect m stamp n r w w s it.on.told
      there = record {
        at = record { dialect = shows.dialect; stands = stands; ready = it.on.on.ready; fits = it.on.on.fits; row = it.on.on.row };
        known = it.on.on.known;
      }

      unanswered_yet : told_by n x.answers ≡ None
      unanswered_yet = plays.answer ∙ none

      begun_there : has_begun Came as_locked as_busy n x ≡ true
      begun_there = plays.begun none ∙ begun

      -- the lock is its own
      lock_held : IsHeld stamp x.committed.lock
      lock_held = subst (λ (b : Database). IsHeld stamp b.lock) holders.0 it.on.on.committed

      -- its next call is the machine's; where it gives up, the first of those that are left to it

      pub to_call : (call : Call) (calls : List Call) → rest origin.dialect m stamp (place r) (both_of s) ≡ call ∷ calls → (more : List Call) × IsToCall n x it.h call more
      to_call call calls next =
          let left = next_left stamp r.fault it.h.session (rest origin.dialect m stamp (place r) (both_of it.h.session)) it.h.rest plain it.on.to_come call calls next in
          (left.0, record { unanswered = unanswered_yet; begun = begun_there; held = it.held; next = left.1 })

      own_next : (call : Call) (calls : List Call) → it.h.rest ≡ call ∷ calls → IsToCall n x it.h call calls
      own_next call calls next = record { unanswered = unanswered_yet; begun = begun_there; held = it.held; next = next }

      -- where it met no fault
      to_call_on : r.fault ≡ None → (call : Call) (calls : List Call) → rest origin.dialect m stamp (place r) (both_of s) ≡ call ∷ calls → IsToCall n x it.h call calls
      to_call_on healthy call calls next =
          let left : it.h.rest ≡ rest origin.dialect m stamp (place r) (both_of s) = subst (λ f. ToCome stamp f it.h.session (rest origin.dialect m stamp (place r) (both_of s)) it.h.rest) healthy it.on.to_come in
          own_next call calls (left ∙ next)

      -- or where it met one
      pub fell_before : (why : StoreFault) → r.fault ≡ Some why → ToCome stamp (Some why) it.h.session (rest origin.dialect m stamp (place r) (both_of s)) it.h.rest
      fell_before why met = subst (λ f. ToCome stamp f it.h.session (rest origin.dialect m stamp (place r) (both_of s)) it.h.rest) met it.on.to_come

      pub answer_is : (why : StoreFault) → r.fault ≡ Some why → it.h.answer ≡ as_failed (fault_of why)
      answer_is why met = subst (λ f. WillAnswer origin.dialect m stamp r way answer_of it.on.told f it.h.answer) met it.on.answers

      -- its last call
      pub to_call_last : (call : Call) → rest origin.dialect m stamp (place r) (both_of s) ≡ call ∷ [] → IsToCall n x it.h call []
      to_call_last call next = by r.fault refl where
        by : (f : Option StoreFault) → r.fault ≡ f → IsToCall n x it.h call []
        by None healthy = to_call_on healthy call [] next
        by (Some why) met = let left = fell_before why met in elim left.1 [
          | inl aborts ↦ absurd (not_nil (tail_is (sym aborts.1 ∙ next)))
          | inr closes ↦ own_next call [] (left.0 ∙ last_shut it.h.session false closes.0 (bare_none stamp it.h.session.committed.lock plain closes.2) ∙ sym closes.1 ∙ next)
        ]

      pub left_to_call : (why : DrillFault) (call : Call) (calls : List Call) → IsToCall n (given_with why (call ∷ calls) it.h x) (fallen why (call ∷ calls) it.h) call calls
      left_to_call why call calls = given_calls n x it.h why call calls unanswered_yet begun_there it.held

      -- all calls that are left to it are made
      pub rests_all : (z : State) (why : DrillFault) → MakesLast as_failed jobs n (after.faulted ≡ true) origin z x why → Rests as_failed jobs n (after.faulted ≡ true) origin w z x why
      rests_all z drill.Disk made = tt
      rests_all z (drill.Full used next) made = inl made
      rests_all z drill.OutOfMemory made = inl (made.0, made.1, made.2, ap is_some made.3)

      pub rests_begun : it.h.session.is_open ≡ false → it.h.session.begun ≡ []
      rests_begun = shut_begun origin.dialect it.h.runner it.h.session w.begun holders.1

      pub falls : (why : DrillFault) (y : Runs) → (y ≡ given why it.h x) ⊎ (y ≡ moved Came as_locked as_busy origin.dialect jobs n (given why it.h x)) → Falls as_failed origin.dialect jobs n x y
      falls why y is = record { why = why; holder = it.h; held = it.held; locked = is_locked stamp x.committed.lock lock_held; rests = rests_begun; is = is }

      -- its abort after a fault
      module _ (z : State) (q : Command Key Told) (f : StoreFault) (met : q.fault ≡ Some f) (at : IsAt origin.dialect m stamp n (place q) z w (called origin.dialect Abort s)) (left : rest origin.dialect m stamp (place q) (both_of (called origin.dialect Abort s)) ≡ closing ∷ []) where
        abbrev now : Session
        now = called origin.dialect Abort s

        aborted_on : IsOn origin.dialect m stamp q it.on.told now
        aborted_on = record {
          ready = at.ready;
          fits = fit_bare origin.dialect (rest origin.dialect m stamp (place q) (both_of now)) now at.fits;
          row = at.row;
          known = λ healthy. absurd (faulted_not f q.fault met healthy);
          committed = it.on.on.committed;
          seen = it.on.on.committed;
          keeps = record { front = []; is = left; holds = tt };
        }

        aborted_left : IsBare stamp it.h.session.committed.lock → ToCome stamp q.fault now (rest origin.dialect m stamp (place q) (both_of now)) (closing ∷ [])
        aborted_left bare_lock = subst (λ g. ToCome stamp g now (rest origin.dialect m stamp (place q) (both_of now)) (closing ∷ [])) (sym met)
            (sym (last_shut now false refl (bare_none stamp it.h.session.committed.lock plain bare_lock)), inr (refl, left, bare_lock))

        aborted_will : (a : Came) → a ≡ as_failed (fault_of f) → WillAnswer origin.dialect m stamp q way answer_of it.on.told q.fault a
        aborted_will a is = subst (λ g. WillAnswer origin.dialect m stamp q way answer_of it.on.told g a) (sym met) is

        aborted_shut : z.begun ≡ None
        aborted_shut = shut_none w.dialect n now z.begun at.stands.begun refl

        -- how its lock stands is seen in the store
        its_dialect : z.dialect ≡ d
        its_dialect = at.stands.dialect ∙ shows.dialect ∙ dialect

        stands_so : StandsFor d z.committed now.committed
        stands_so = subst (λ k. StandsFor k z.committed now.committed) (shows.dialect ∙ dialect) at.stands.committed

        bare_here : (z.dialect ≡ d → (database : Database) → StandsFor d z.committed database → IsHeld stamp database.lock → IsBare stamp database.lock) → IsBare stamp it.h.session.committed.lock
        bare_here seen = seen its_dialect now.committed stands_so it.on.on.committed

        marked_here : (z.dialect ≡ d → (database : Database) → StandsFor d z.committed database → IsMarked stamp database.lock) → IsMarked stamp it.h.session.committed.lock
        marked_here seen = seen its_dialect now.committed stands_so

      -- the abort of one that met a fault before
      module _ (z : State) (q : Command Key Told) (f : StoreFault) (met : r.fault ≡ Some f) (more : is_over q.hand.phase ≡ false) (on : Advances origin.dialect m stamp n r q it.on.told w s z) where
        pub record Aborts : Type 0 where
          pub was_open : it.h.session.is_open ≡ true
          pub at : IsAt origin.dialect m stamp n (place q) z w (called origin.dialect Abort s)
          pub left : rest origin.dialect m stamp (place q) (both_of (called origin.dialect Abort s)) ≡ closing ∷ []

        aborts_so : Aborts
        aborts_so =
            let goes = on.goes in
            let some = left_after origin.dialect m stamp n q (both_of goes.after) more in
            elim (fell_before f met).1 [
              | inl it_is ↦
                  let next = sym goes.went.next ∙ it_is.1 in
                  let ends : goes.after ≡ called origin.dialect Abort s = goes.went.is ∙ ap (λ c. called origin.dialect c s) (head_is next) in
                  record {
                    was_open = it_is.0;
                    at = subst (λ (v : Session). IsAt origin.dialect m stamp n (place q) z w v) ends goes.at;
                    left = subst (λ (v : Session). rest origin.dialect m stamp (place q) (both_of v) ≡ closing ∷ []) ends (tail_is next);
                  }
              | inr closes ↦ absurd (some (tail_is (sym goes.went.next ∙ closes.1)))
            ]

      module _ (z : State) (q : Command Key Told) (unanswered : after.answer ≡ None) (began : after.begun ≡ true) (places : (h : Held) → IsUnder d m stamp q way answer_of h → after.is_at h) (keeps : (lock : Lock) → IsHeld stamp lock → after.owns lock) (flag : is_some q.fault ≡ true → after.faulted ≡ true)
          (owes : (why : DrillFault) → after.owes why → (f : StoreFault) × (q.fault ≡ Some f) × (fault_of f ≡ why)) where
        places_it : (h : Held) → IsUnder origin.dialect m stamp q way answer_of h → after.is_at h
        places_it h is = places h (subst (λ k. IsUnder k m stamp q way answer_of h) dialect is)

        -- what it owes now it met now
        owes_met : (f : StoreFault) → q.fault ≡ Some f → IsDue as_failed jobs n before origin x (fault_of f) → (why : DrillFault) → after.owes why → IsDue as_failed jobs n before origin x why
        owes_met f met due why owed =
            let it_owes = owes why owed in
            let same : f ≡ it_owes.0 = some_is (sym met ∙ it_owes.1) in
            subst (λ k. IsDue as_failed jobs n before origin x k) (ap fault_of same ∙ it_owes.2) due

        -- it made its next call
        advances : is_over q.hand.phase ≡ false → ((f : StoreFault) → r.fault ≡ Some f → before.owes (fault_of f)) → ((f : StoreFault) → q.fault ≡ Some f → is_open n z.begun ≡ false → z.dialect ≡ d → (database : Database) → StandsFor d z.committed database → IsHeld stamp database.lock → IsBare stamp database.lock) → Advances origin.dialect m stamp n r q it.on.told w s z → MovesAs as_failed jobs n before after origin w z x (Ok tt)
        advances more owed_before unmarked on = by r.fault refl where
          by : (f : Option StoreFault) → r.fault ≡ f → MovesAs as_failed jobs n before after origin w z x (Ok tt)
          by (Some f) met =
              let fell : q.fault ≡ Some f = on.fault ∙ met in
              let it_is = aborts_so z q f met more on in
              let bare_lock : IsBare stamp it.h.session.committed.lock = bare_here z q f fell it_is.at it_is.left (unmarked f fell (ap (is_open n) (aborted_shut z q f fell it_is.at it_is.left))) in
              let calls : IsToCall n x it.h Abort (closing ∷ []) = own_next Abort (closing ∷ []) ((fell_before f met).0 ∙ last_open it.h.session false it_is.was_open (bare_none stamp it.h.session.committed.lock plain bare_lock)) in (
                (
                  moved Came as_locked as_busy origin.dialect jobs n x,
                  inl refl,
                  called_on m stamp way answer_of n after origin w z jobs x x it.h Abort (closing ∷ []) shows calls (called origin.dialect Abort s) refl it_is.at.stands q it.on.told unanswered began places_it keeps not_nil (aborted_left z q f fell it_is.at it_is.left bare_lock) (aborted_on z q f fell it_is.at it_is.left) (aborted_will z q f fell it_is.at it_is.left it.h.answer (answer_is f met)),
                ),
                λ why owed. let it_owes = owes why owed in inl (subst (λ k. before.owes k) it_owes.2 (owed_before it_owes.0 (sym on.fault ∙ it_owes.1))),
              )
          by None healthy =
              let goes = on.goes in
              let to_come : List Call = rest origin.dialect m stamp (place q) (both_of goes.after) in
              let some : to_come ≢ [] = left_after origin.dialect m stamp n q (both_of goes.after) more in
              let split = keeps_split stamp.who goes.went.call to_come it.on.on.keeps.front (sym goes.went.next ∙ it.on.on.keeps.is) some it.on.on.keeps.holds in
              let held = call_holds stamp origin.dialect goes.went.call s split.0 (it.on.on.committed, it.on.on.seen) in
              let on_it : IsOn origin.dialect m stamp q it.on.told goes.after = record {
                ready = goes.at.ready;
                fits = fit_bare origin.dialect to_come goes.after goes.at.fits;
                row = goes.at.row;
                known = on.known;
                committed = subst (λ (v : Session). IsHeld stamp v.committed.lock) (sym goes.went.is) held.0;
                seen = subst (λ (v : Session). IsHeld stamp v.seen.lock) (sym goes.went.is) held.1;
                keeps = split.1;
              } in
              let will : WillAnswer origin.dialect m stamp q way answer_of it.on.told q.fault it.h.answer
              = subst (λ f. WillAnswer origin.dialect m stamp q way answer_of it.on.told f it.h.answer) (sym on.fault) (answers_as origin.dialect m stamp r q way answer_of it.on.told r.fault it.h.answer it.on.answers) in
              let arrives : Arrives jobs n after origin z x (moved Came as_locked as_busy origin.dialect jobs n x)
              = called_on m stamp way answer_of n after origin w z jobs x x it.h goes.went.call to_come shows (to_call_on healthy goes.went.call to_come goes.went.next) goes.after goes.went.is goes.at.stands q it.on.told unanswered began places_it keeps some (subst (λ f. ToCome stamp f goes.after to_come to_come) (sym (on.fault ∙ healthy)) refl) on_it will in
              ((moved Came as_locked as_busy origin.dialect jobs n x, inl refl, arrives), λ why owed. let it_owes = owes why owed in inl (subst (λ k. before.owes k) it_owes.2 (owed_before it_owes.0 (sym on.fault ∙ it_owes.1))))

        -- it met a fault there, and takes its transaction back next
        met_fault : disk_failed q.fault ≡ false → MetFault origin.dialect m stamp n r q w s w z → MovesAs as_failed jobs n before after origin w z x (Ok tt)
        met_fault disk fell = ((y, inr (flag (ap is_some fell.fault), falls (fault_of fell.why) y (inl (given_is (fault_of fell.why) it.h x Abort (frees (has_bar it.h.session.committed.lock)) last))), arrives), owes_met fell.why fell.fault (inr meets)) where
          k : Held
          k = fallen (fault_of fell.why) (Abort ∷ frees (has_bar it.h.session.committed.lock)) it.h

          y : Runs
          y = given_with (fault_of fell.why) (Abort ∷ frees (has_bar it.h.session.committed.lock)) it.h x

          other : is_disk fell.why ≡ false
          other = sym (ap disk_failed fell.fault) ∙ disk

          still : z ≡ w
          still = unchanged w w z n s Ordinary fell.meets.call fell.why other fell.meets.faults

          left : rest origin.dialect m stamp (place q) (both_of s) ≡ Abort ∷ closing ∷ []
          left = ap (λ p. rest origin.dialect m stamp p (both_of s)) fell.gives_up

          has_open : it.h.session.is_open ≡ true
          has_open = subst (λ p. IsReady origin.dialect it.h.session.is_open p) fell.gives_up fell.at.ready

          last : last_calls it.h.session ≡ Abort ∷ frees (has_bar it.h.session.committed.lock)
          last = last_open it.h.session (has_bar it.h.session.committed.lock) has_open refl

          on_it : IsOn origin.dialect m stamp q it.on.told it.h.session
          on_it = record {
            ready = fell.at.ready;
            fits = fell.at.fits;
            row = fell.at.row;
            known = λ healthy. absurd (faulted_not fell.why q.fault fell.fault healthy);
            committed = it.on.on.committed;
            seen = it.on.on.seen;
            keeps = record { front = Abort ∷ []; is = left; holds = (tt, tt) };
          }

          under_it : IsUnder origin.dialect m stamp q way answer_of k
          under_it = record { told = it.on.told; on = on_it; to_come = subst (λ g. ToCome stamp g it.h.session (rest origin.dialect m stamp (place q) (both_of s)) (Abort ∷ frees (has_bar it.h.session.committed.lock))) (sym fell.fault) (sym last, inl (has_open, left)); answers = subst (λ f. WillAnswer origin.dialect m stamp q way answer_of it.on.told f (as_failed (fault_of fell.why))) (sym fell.fault) refl }

          arrives : Arrives jobs n after origin z x y
          arrives = record {
            shows = subst (λ v. Shows origin v y) (sym still) (given_shows origin w n x it.h (fault_of fell.why) (Abort ∷ frees (has_bar it.h.session.committed.lock)) it.held shows);
            plays = record {
              answer = plays.answer ∙ none ∙ sym unanswered;
              begun = λ yet. begun_there ∙ sym began;
              waits = λ yet waits. absurd (not_true (sym waits ∙ began));
              goes_on = λ yet goes. subst (λ o. GoesOn after o x.committed.lock) (sym (fallen_held n x.holder it.h (fault_of fell.why) (Abort ∷ frees (has_bar it.h.session.committed.lock)) it.held)) (places_it k under_it);
            };
            lock = inr (inr (keeps x.committed.lock lock_held));
          }

          meets : Meets as_failed origin.dialect jobs origin.used origin.limit n x (fault_of fell.why)
          meets = record { at = x; is = inl refl; cause = let own = to_call fell.meets.call fell.meets.more fell.meets.next in cause origin w jobs n x x it.h fell.meets.call own.0 refl shows own.1 z Ordinary fell.why fell.meets.by (inl fell.meets.by) fell.meets.faults }

        -- there was no memory, and it took its transaction back
        took_back : ((f : StoreFault) → q.fault ≡ Some f → is_open n z.begun ≡ false → z.dialect ≡ d → (database : Database) → StandsFor d z.committed database → IsHeld stamp database.lock → IsBare stamp database.lock) → TakesBack origin.dialect m stamp n q w s z → MovesAs as_failed jobs n before after origin w z x (Ok tt)
        took_back unmarked back = ((y, inr (flag (ap is_some back.fault), falls drill.OutOfMemory y (inr (ap (λ v. moved Came as_locked as_busy origin.dialect jobs n v) (given_is drill.OutOfMemory it.h x Abort (closing ∷ []) last)))), arrives), owes_met fault.OutOfMemory back.fault (inr (record { at = x; is = inl refl; cause = tt }))) where
          y : Runs
          y = moved Came as_locked as_busy origin.dialect jobs n (given_with drill.OutOfMemory (Abort ∷ closing ∷ []) it.h x)

          left : rest origin.dialect m stamp (place q) (both_of (called origin.dialect Abort s)) ≡ closing ∷ []
          left = ap (λ p. rest origin.dialect m stamp p (both_of (called origin.dialect Abort s))) back.ends_turns

          bare_lock : IsBare stamp it.h.session.committed.lock
          bare_lock = bare_here z q fault.OutOfMemory back.fault back.at left (unmarked fault.OutOfMemory back.fault (ap (is_open n) (aborted_shut z q fault.OutOfMemory back.fault back.at left)))

          last : last_calls it.h.session ≡ Abort ∷ closing ∷ []
          last = last_open it.h.session false back.opened (bare_none stamp it.h.session.committed.lock plain bare_lock)

          arrives : Arrives jobs n after origin z x y
          arrives =
              called_on m stamp way answer_of n after origin w z jobs x (given_with drill.OutOfMemory (Abort ∷ closing ∷ []) it.h x) (fallen drill.OutOfMemory (Abort ∷ closing ∷ []) it.h) Abort (closing ∷ []) (given_shows origin w n x it.h drill.OutOfMemory (Abort ∷ closing ∷ []) it.held shows) (left_to_call drill.OutOfMemory Abort (closing ∷ []))
              (called origin.dialect Abort s) refl back.at.stands q it.on.told unanswered began places_it keeps not_nil (aborted_left z q fault.OutOfMemory back.fault back.at left bare_lock) (aborted_on z q fault.OutOfMemory back.fault back.at left) (aborted_will z q fault.OutOfMemory back.fault back.at left (as_failed drill.OutOfMemory) refl)

      -- its lock has a mark, and the abort was its last call
      module _ (z : State) (q : Command Key Told) (f : StoreFault) (fell : q.fault ≡ Some f) (faulted : after.faulted ≡ true) (marked : z.dialect ≡ d → (database : Database) → StandsFor d z.committed database → IsMarked stamp database.lock) where
        -- of the fault that it met before
        stays_on : is_over q.hand.phase ≡ false → ((g : StoreFault) → r.fault ≡ Some g → before.owes (fault_of g)) → Advances origin.dialect m stamp n r q it.on.told w s z → MovesAs as_failed jobs n before after origin w z x (Err (fault_of f))
        stays_on more owed_before on =
            let met : r.fault ≡ Some f = sym on.fault ∙ fell in
            let it_is = aborts_so z q f met more on in
            let has : IsMarked stamp it.h.session.committed.lock = marked_here z q f fell it_is.at it_is.left marked in
            let calls : IsToCall n x it.h Abort [] = own_next Abort [] ((fell_before f met).0 ∙ last_open it.h.session true it_is.was_open (marked_some stamp it.h.session.committed.lock has)) in
            let y : Runs = moved Came as_locked as_busy origin.dialect jobs n x in
            let shown : Shows origin z y = shows_last m stamp way answer_of n after origin w z jobs x x it.h Abort [] shows calls (called origin.dialect Abort s) refl it_is.at.stands refl (aborted_shut z q f fell it_is.at it_is.left) in
            let stays : has_bar y.committed.lock ≡ true = ap (λ (v : Runs). has_bar v.committed.lock) (next_called origin.dialect jobs n x it.h Abort [] calls) ∙ marked_some stamp it.h.session.committed.lock has in
            let told : told_by n y.answers ≡ Some (as_failed (fault_of f)) = answers_last m stamp way answer_of n after origin w z jobs x x it.h Abort [] shows calls (called origin.dialect Abort s) refl it_is.at.stands refl ∙ ap (λ a. Some a) (answer_is f met) in
            ((y, inl refl, brings_all origin w jobs n x x it.h Abort [] refl shows calls z (called origin.dialect Abort s) refl it_is.at.stands), inl (owed_before f met), rests_all z (fault_of f) (y, inl refl, shown, told, inr stays))

        -- or for want of memory in this step
        stays_back : TakesBack origin.dialect m stamp n q w s z → MovesAs as_failed jobs n before after origin w z x (Err (fault_of f))
        stays_back back = subst (λ g. MovesAs as_failed jobs n before after origin w z x (Err (fault_of g))) (some_is (sym back.fault ∙ fell)) ((y, steps, brings), inr (record { at = x; is = inl refl; cause = tt }), inl (y, steps, shown, ap is_some told)) where
          left : rest origin.dialect m stamp (place q) (both_of (called origin.dialect Abort s)) ≡ closing ∷ []
          left = ap (λ p. rest origin.dialect m stamp p (both_of (called origin.dialect Abort s))) back.ends_turns

          has : IsMarked stamp it.h.session.committed.lock
          has = marked_here z q fault.OutOfMemory back.fault back.at left marked

          last : last_calls it.h.session ≡ Abort ∷ []
          last = last_open it.h.session true back.opened (marked_some stamp it.h.session.committed.lock has)

          at : Runs
          at = given_with drill.OutOfMemory (Abort ∷ []) it.h x

          y : Runs
          y = moved Came as_locked as_busy origin.dialect jobs n at

          steps : (y ≡ moved Came as_locked as_busy origin.dialect jobs n x) ⊎ ((after.faulted ≡ true) × Falls as_failed origin.dialect jobs n x y)
          steps = inr (faulted, falls drill.OutOfMemory y (inr (ap (λ v. moved Came as_locked as_busy origin.dialect jobs n v) (given_is drill.OutOfMemory it.h x Abort [] last))))

          shows_at : Shows origin w at
          shows_at = given_shows origin w n x it.h drill.OutOfMemory (Abort ∷ []) it.held shows

          brings : Brings origin.dialect x y w z
          brings = brings_all origin w jobs n x at (fallen drill.OutOfMemory (Abort ∷ []) it.h) Abort [] refl shows_at (left_to_call drill.OutOfMemory Abort []) z (called origin.dialect Abort s) refl back.at.stands

          shown : Shows origin z y
          shown = shows_last m stamp way answer_of n after origin w z jobs x at (fallen drill.OutOfMemory (Abort ∷ []) it.h) Abort [] shows_at (left_to_call drill.OutOfMemory Abort []) (called origin.dialect Abort s) refl back.at.stands refl (aborted_shut z q fault.OutOfMemory back.fault back.at left)

          told : told_by n y.answers ≡ Some (as_failed drill.OutOfMemory)
          told = answers_last m stamp way answer_of n after origin w z jobs x at (fallen drill.OutOfMemory (Abort ∷ []) it.h) Abort [] shows_at (left_to_call drill.OutOfMemory Abort []) (called origin.dialect Abort s) refl back.at.stands refl

        -- after the fault itself its transaction is still open
        stays_not : is_open n z.begun ≡ false → MetFault origin.dialect m stamp n r q w s w z → ⊥
        stays_not shut met = open_not w.dialect n s z.begun met.at.stands.begun (subst (λ p. IsReady origin.dialect it.h.session.is_open p) met.gives_up met.at.ready) shut

  module _ (z : State) (within : Bool) (opened : is_open n w.begun ≡ within) (free : IsFree d stamp n within w) (q : Command Key Told) where
    -- it made a call, or gives up, and another is to come
    pub moves_on : after.answer ≡ None → after.begun ≡ true → ((h : Held) → IsUnder d m stamp q way answer_of h → after.is_at h) → ((lock : Lock) → IsHeld stamp lock → after.owns lock) → (is_some q.fault ≡ true → after.faulted ≡ true)
        → ((why : DrillFault) → after.owes why → (f : StoreFault) × (q.fault ≡ Some f) × (fault_of f ≡ why)) → ((f : StoreFault) → r.fault ≡ Some f → before.owes (fault_of f)) → is_over q.hand.phase ≡ false → disk_failed q.fault ≡ false
        → ((f : StoreFault) → q.fault ≡ Some f → is_open n z.begun ≡ false → z.dialect ≡ d → (database : Database) → StandsFor d z.committed database → IsHeld stamp database.lock → IsBare stamp database.lock)
        → Steps d m stamp n r q w step.Going z → Moves as_failed n before after w (Ok tt) z
    moves_on unanswered began places keeps flag owes owed_before more disk unmarked steps jobs origin x dialect shows plays = by ((subst (λ k. Steps k m stamp n r q w step.Going z) (sym dialect) steps) w (s within opened free jobs origin x dialect shows plays it) it.on.told (there within opened free jobs origin x dialect shows plays it) (λ between. it.on.on.committed)) where
      it : IsHolder within opened free jobs origin x dialect shows plays
      it = is_holder within opened free jobs origin x dialect shows plays

      by : StepsAs origin.dialect m stamp n r q it.on.told w (s within opened free jobs origin x dialect shows plays it) w step.Going z → MovesAs as_failed jobs n before after origin w z x (Ok tt)
      by (inl on) = advances within opened free jobs origin x dialect shows plays it z q unanswered began places keeps flag owes more owed_before unmarked on
      by (inr (inl fell)) = met_fault within opened free jobs origin x dialect shows plays it z q unanswered began places keeps flag owes disk fell
      by (inr (inr back)) = took_back within opened free jobs origin x dialect shows plays it z q unanswered began places keeps flag owes unmarked back

    -- it gives up, and no other call is to come
    pub moves_stayed : (f : StoreFault) → q.fault ≡ Some f → after.faulted ≡ true → (z.dialect ≡ d → (database : Database) → StandsFor d z.committed database → IsMarked stamp database.lock) → is_open n z.begun ≡ false → is_over q.hand.phase ≡ false
        → ((g : StoreFault) → r.fault ≡ Some g → before.owes (fault_of g)) → Steps d m stamp n r q w step.Going z → Moves as_failed n before after w (Err (fault_of f)) z
    moves_stayed f fell faulted marked shut more owed_before steps jobs origin x dialect shows plays = by ((subst (λ k. Steps k m stamp n r q w step.Going z) (sym dialect) steps) w (s within opened free jobs origin x dialect shows plays it) it.on.told (there within opened free jobs origin x dialect shows plays it) (λ between. it.on.on.committed)) where
      it : IsHolder within opened free jobs origin x dialect shows plays
      it = is_holder within opened free jobs origin x dialect shows plays

      by : StepsAs origin.dialect m stamp n r q it.on.told w (s within opened free jobs origin x dialect shows plays it) w step.Going z → MovesAs as_failed jobs n before after origin w z x (Err (fault_of f))
      by (inl on) = stays_on within opened free jobs origin x dialect shows plays it z q f fell faulted marked more owed_before on
      by (inr (inl met)) = absurd (stays_not within opened free jobs origin x dialect shows plays it z q f fell faulted marked shut met)
      by (inr (inr back)) = stays_back within opened free jobs origin x dialect shows plays it z q f fell faulted marked back

    -- it made its last call
    pub moves_last : (a : Came) (e : End) → after.answer ≡ Some a → is_failed_end e ≡ false → (source : T) → (is_told_end e ≡ true → a ≡ answer_of source (refusal_in e)) → ((k : Dialect) (told : Told) → TellsAs (q.way k stamp told) e → TellsAs (way source k stamp told) e)
        → (is_some q.fault ≡ true → StopsAs r.fault (step.Ended e)) → ((why : DrillFault) → after.owes why → (f : StoreFault) × (q.fault ≡ Some f) × (fault_of f ≡ why))
        → Steps d m stamp n r q w (step.Ended e) z → Moves as_failed n before after w (Ok tt) z
    moves_last a e its whole source is_its tells stops owes steps jobs origin x dialect shows plays = by ((subst (λ k. Steps k m stamp n r q w (step.Ended e) z) (sym dialect) steps) w (s within opened free jobs origin x dialect shows plays it) it.on.told (there within opened free jobs origin x dialect shows plays it) (λ between. it.on.on.committed)) where
      it : IsHolder within opened free jobs origin x dialect shows plays
      it = is_holder within opened free jobs origin x dialect shows plays

      by : StepsAs origin.dialect m stamp n r q it.on.told w (s within opened free jobs origin x dialect shows plays it) w (step.Ended e) z → MovesAs as_failed jobs n before after origin w z x (Ok tt)
      by stepped =
          let last = last_made origin.dialect m stamp n r w (s within opened free jobs origin x dialect shows plays it) w z e whole stepped.0 in
          let goes = last.goes in
          let is_told : is_told_end e ≡ true = ap is_told_end last.ends ∙ told_end r.refused in
          let will : WillAnswer origin.dialect m stamp r way answer_of it.on.told None it.h.answer = subst (λ f. WillAnswer origin.dialect m stamp r way answer_of it.on.told f it.h.answer) last.healthy it.on.answers in
          let same : a ≡ it.h.answer = is_its is_told ∙ will source (refusal_in e) (tells_refusal (way source origin.dialect stamp it.on.told) e is_told (tells origin.dialect it.on.told stepped.1)) in
          let arrives : Arrives jobs n after origin z x (moved Came as_locked as_busy origin.dialect jobs n x)
          = called_last m stamp way answer_of n after origin w z jobs x x it.h goes.went.call [] shows (to_call_last within opened free jobs origin x dialect shows plays it goes.went.call goes.went.next) goes.after goes.went.is goes.at.stands
          a its refl same (only_last it.on.on.keeps.front goes.went.call (sym goes.went.next ∙ it.on.on.keeps.is)) (shut_none w.dialect n goes.after z.begun goes.at.stands.begun goes.at.ready) in
          ((moved Came as_locked as_busy origin.dialect jobs n x, inl refl, arrives), λ why owed. let it_owes = owes why owed in absurd (not_stopped r.fault r.refused e last.ends (stops (ap is_some it_owes.1))))
