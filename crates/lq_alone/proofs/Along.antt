-- A runner by itself follows the machine, step after step.
use Rattle.std.proofs.Common.{ap, append-nil, append_assoc, arith, inl, inr, subst, sym, ◌∙◌}
use Rattle.std.proofs.lemmas.Bool.Decides.{nat_tests}
use Rattle.std.proofs.lemmas.List.{map-append}
use Rattle.std.specs.Option.{option_map}
use Rattle.std.specs.Prelude.{Bool, Err, List, None, Ok, Option, Some, [], false, is_some, nat_eq, refl, suc, true, zero, ℕ, ◌+◌, ◌++◌, ◌∷◌, ◌≡◌, ◌≤◌, ◌⊎◌}
use Rattle.lq_base.specs.declared.tracking.Lock.{Lock}
use Rattle.lq_drill.specs.Drill.{IsNew}
use Rattle.lq_drill.specs.Faults.{answer_of, Meets, Steps, Grows, entries_of, entry_of}
use Rattle.lq_drill.specs.Player.{EndsBy, GoesOn, Standing, LeavesAll, LeftInStep, MakesNone, Moves, MovesAs, MovesSafely, refusal}
use Rattle.lq_drill.specs.declared.fault.DrillFault.{DrillFault}
use Rattle.lq_alone.proofs.Course.{steps}
use Rattle.lq_alone.proofs.Since.{holding, unwritten_yet}
use Rattle.lq_drill.proofs.Machines.{own_number}
use Rattle.lq_drill.proofs.Crashed.{leave_both, leave_from, leave_none}
use Rattle.lq_alone.specs.One.{AnswersOwn, CameTo, Follows, LeftAlone, MetAt, Stops, IsCut, StandsAt}
use Rattle.lq_outside.specs.Forms.{Rose}
use Rattle.lq_store.specs.Journal.{Crashes, CrashesLeave, Entry, State, Transaction, is_open}
use Rattle.lq_track.specs.Database.{Database}
use Rattle.lq_turns.specs.Schedule.{Holder, StandsFor, Job, Machine, has_begun, start}
use Rattle.lq_turns.specs.declared.call.Call.{Call}

pub rose_later : (a b c : ℕ) → a ≤ b → Rose b c → Rose a c
rose_later a b c later rose = omega arith

pub none_of : {A : Type 0} (o : Option A) → is_some o ≡ false → o ≡ None
none_of None is = refl
none_of (Some a) is = cc

pub some_of : {A : Type 0} (o : Option A) → is_some o ≡ true → (a : A) × (o ≡ Some a)
some_of None is = cc
some_of (Some a) is = (a, refl)

none_is_some : {A B : Type 0} (o : Option A) (a : A) → o ≡ None → o ≡ Some a → B
none_is_some None a none is = cc
none_is_some (Some b) a none is = cc

nothing_behind : (entries : Option (List Entry)) → entries ≡ option_map (λ e. e ++ []) entries
nothing_behind None = refl
nothing_behind (Some e) = ap (λ l. Some l) (sym (append-nil e))

no_entry : {A : Type 0} (front : List A) (entry : A) (rest : List A) → [] ≡ front ++ entry ∷ rest → ⊥
no_entry [] entry rest is = cc
no_entry (first ∷ front) entry rest is = cc

none_used : (n : ℕ) → n ≡ n + 0
none_used n = omega arith

never_both : {B : Type 0} (b : Bool) → b ≡ true → b ≡ false → B
never_both true on off = cc
never_both false on off = cc

-- no session has a transaction open
pub none_open : (t : Option Transaction) → is_open 1 t ≡ false → ((n : ℕ) → nat_eq 1 n ≡ false → is_open n t ≡ false) → t ≡ None
none_open None own others = refl
none_open (Some t) own others = by (nat_eq 1 t.session) refl where
  by : (b : Bool) → nat_eq 1 t.session ≡ b → Some t ≡ None
  by true is = absurd (never_both (nat_eq t.session 1) (same_number is) own) where
    same_number : nat_eq 1 t.session ≡ true → nat_eq t.session 1 ≡ true
    same_number same = grind (arith, nat_tests, same)
  by false is = absurd (never_both (nat_eq t.session t.session) (own_number t.session) (others t.session is))

module _ (Answer : Type 0) (locked : Lock → Answer) (busy : ℕ → Answer) (failed : DrillFault → Answer) (job : Job Answer locked busy) (origin : State) (database : Database) where
  abbrev Runs : Type 0
  Runs = Machine Answer locked busy

  abbrev Runner : Type 1
  Runner = Standing Answer locked busy

  abbrev jobs : ℕ → Job Answer locked busy
  jobs n = job

  abbrev Followed : Runner → State → Type 0
  Followed r y = Follows failed job origin database r y

  abbrev Came : Type 0 → ℕ → Runs → Type 0
  Came met k x = CameTo failed job origin database met k x

  -- with a fault that was met since
  wider : (met more : Type 0) (still : met → more) (k : ℕ) (x : Runs) → Came met k x → Came more k x
  wider met more still zero x came = came
  wider met more still (suc k) x came = (came.0, wider met more still k came.0 came.1, came.2, still_steps came.3) where
    still_steps : Steps failed origin.dialect jobs met 1 came.0 x → Steps failed origin.dialect jobs more 1 came.0 x
    still_steps (inl is) = inl is
    still_steps (inr f) = inr (still f.0, f.1)

  -- and with a machine that has the same entries
  met_wider : (met more : Type 0) (still : met → more) (now next : Runs) (why : DrillFault) → (AnswersOwn failed job database → next.entries ≡ now.entries) → MetAt failed job origin database met now why → MetAt failed job origin database more next why
  met_wider met more still now next why same m = record { steps = m.steps; at = m.at; came = wider met more still m.steps m.at m.came; meets = m.meets; since = λ own. same own ∙ m.since own }

  -- the machine stands at one of its places
  pub stands : (met : Type 0) (k : ℕ) (x : Runs) → Came met k x → StandsAt failed origin.dialect job database met x
  stands met zero x is = inl is
  stands met (suc k) x came = inr (steps Answer locked busy failed origin.dialect job database met came.0 x (stands met k came.0 came.1) came.3)

  -- before its first step
  pub begun_with : (r : Runner) → origin.live ≡ true → origin.begun ≡ None → IsNew 1 r → job ≡ r.job → StandsFor origin.dialect origin.committed database → Followed r origin
  begun_with r live closed new own stands_for = record {
    steps = 0;
    now = start Answer locked busy database;
    came = refl;
    going = λ why is. none_is_some None (failed why) refl is;
    shows = record {
      dialect = refl;
      limit = refl;
      live = live;
      committed = stands_for;
      begun = closed;
      entries = nothing_behind origin.entries;
      used = none_used origin.used;
      room = λ front deeds rest is. absurd (no_entry front deeds rest is);
    };
    plays = record {
      answer = sym new.answer;
      begun = λ none. sym new.begun;
      waits = λ none waits. own;
      goes_on = λ none begun. never_both r.begun begun new.begun;
    };
    owed = λ none why owes. absurd (new.owes why owes);
  }

  -- a step
  module _ (old new : Runner) (w z : State) (dialect : origin.dialect ≡ old.dialect) (stays : old.faulted ≡ true → new.faulted ≡ true) (f : Followed old w) where
    -- what it owes, or meets in the step from here, to one with these entries
    due : old.answer ≡ None → (y : Runs) (why : DrillFault) → (AnswersOwn failed job database → y.entries ≡ f.now.entries) → old.owes why ⊎ Meets failed origin.dialect jobs origin.used origin.limit 1 f.now why → MetAt failed job origin database (new.faulted ≡ true) y why
    due none y why same (inl owes) = met_wider (old.faulted ≡ true) (new.faulted ≡ true) stays f.now y why same (f.owed none why owes)
    due none y why same (inr meets) = record { steps = f.steps; at = f.now; came = wider (old.faulted ≡ true) (new.faulted ≡ true) stays f.steps f.now f.came; meets = meets; since = same }

    -- where it stands before the step
    here : StandsAt failed origin.dialect job database (new.faulted ≡ true) f.now
    here = stands (new.faulted ≡ true) f.steps f.now (wider (old.faulted ≡ true) (new.faulted ≡ true) stays f.steps f.now f.came)

    pub goes_on : old.answer ≡ None → ((why : DrillFault) (h : Holder Answer locked busy) → new.owes why → new.is_at h → h.answer ≡ failed why) → Moves failed 1 old new w (Ok tt) z → EndsBy failed new (Ok tt) → Followed new z
    goes_on none answers moves ends = by (moves jobs origin f.now dialect f.shows f.plays) where
      by : MovesAs failed jobs 1 old new origin w z f.now (Ok tt) → Followed new z
      by it = record {
        steps = suc f.steps;
        now = it.0.0;
        came = (f.now, wider (old.faulted ≡ true) (new.faulted ≡ true) stays f.steps f.now f.came, f.going, it.0.1);
        going = λ why is. ends why (sym it.0.2.plays.answer ∙ is);
        shows = it.0.2.shows;
        plays = it.0.2.plays;
        owed = λ yet why owes. due none it.0.0 why (same yet why owes) (it.1 why owes);
      } where
        -- while it is the holder it has written nothing since
        same : new.answer ≡ None → (why : DrillFault) → new.owes why → AnswersOwn failed job database → it.0.0.entries ≡ f.now.entries
        same yet why owes own =
            let held = holding Answer locked busy failed origin.dialect job database (new.faulted ≡ true) it.0.0 (steps Answer locked busy failed origin.dialect job database (new.faulted ≡ true) f.now it.0.0 here it.0.1) (it.0.2.plays.answer ∙ yet) in
            unwritten_yet Answer locked busy failed origin.dialect job database (new.faulted ≡ true) own why f.now it.0.0 here (f.plays.answer ∙ none) it.0.1 held.holder held.held
            (answers why held.holder owes (subst (λ o. GoesOn new o it.0.0.committed.lock) held.held (it.0.2.plays.goes_on yet (sym (it.0.2.plays.begun yet) ∙ held.begun))))

    pub stops_at : (why : DrillFault) → old.answer ≡ None → Moves failed 1 old new w (Err why) z → EndsBy failed new (Err why) → Grows w z → Stops failed job origin database new z why
    stops_at why none moves ends grows = by (moves jobs origin f.now dialect f.shows f.plays) where
      by : MovesAs failed jobs 1 old new origin w z f.now (Err why) → Stops failed job origin database new z why
      by it = record {
        steps = f.steps;
        now = f.now;
        came = wider (old.faulted ≡ true) (new.faulted ≡ true) stays f.steps f.now f.came;
        going = f.going;
        silent = f.plays.answer ∙ none;
        before = w;
        shows = f.shows;
        to = it.0.0;
        steps_to = it.0.1;
        brings = it.0.2;
        same = (grows.dialect, grows.limit);
        answer = ends.0;
        met = due none f.now why (λ own. refl) it.1;
        rests = it.2;
      }

    -- what a crash leaves, before the step and in it
    pub crashes_on : (a b c : Crashes) → CrashesLeave origin.entries (LeftAlone failed job origin database (old.faulted ≡ true)) a b → MovesSafely failed 1 old new w b c → CrashesLeave origin.entries (LeftAlone failed job origin database (new.faulted ≡ true)) a c
    crashes_on a b c earlier moves =
        leave_both origin.entries (LeftAlone failed job origin database (old.faulted ≡ true)) (LeftAlone failed job origin database (new.faulted ≡ true)) (LeftAlone failed job origin database (new.faulted ≡ true)) a b c
        (λ there left l. record { steps = l.steps; now = l.now; came = wider (old.faulted ≡ true) (new.faulted ≡ true) stays l.steps l.now l.came; leaves = l.leaves }) (λ there left l. l) earlier
        (leave_from origin.entries w.entries (entries_of origin.dialect f.now.entries) (LeftInStep failed origin.dialect jobs (new.faulted ≡ true) 1 f.now) (LeftAlone failed job origin database (new.faulted ≡ true)) b c f.shows.entries in_step (moves jobs origin f.now dialect f.shows f.plays)) where
          in_step : (there left : List Entry) → LeftInStep failed origin.dialect jobs (new.faulted ≡ true) 1 f.now (there ++ entries_of origin.dialect f.now.entries) left → LeftAlone failed job origin database (new.faulted ≡ true) there left
          in_step there left l = record {
            steps = suc f.steps;
            now = l.to;
            came = (f.now, wider (old.faulted ≡ true) (new.faulted ≡ true) stays f.steps f.now f.came, f.going, l.steps);
            leaves = record {
              front = f.now.entries ++ l.leaves.front;
              more = l.leaves.more;
              came = l.leaves.came ∙ sym (append_assoc f.now.entries l.leaves.front l.leaves.more);
              is = l.leaves.is ∙ append_assoc there (entries_of origin.dialect f.now.entries) (entries_of origin.dialect l.leaves.front) ∙ ap (λ es. there ++ es) (sym (map-append (entry_of origin.dialect) f.now.entries l.leaves.front));
            };
          }

  -- nothing was called by then
  pub crashes_none : (met : Type 0) (a : Crashes) → CrashesLeave origin.entries (LeftAlone failed job origin database met) a a
  crashes_none met a = leave_none origin.entries (LeftAlone failed job origin database met) a

  -- one that makes no call has made none
  module _ (r : Runner) (y : State) (f : Followed r y) (none : r.answer ≡ None) (makes : MakesNone job database) where
    no_cut : (A : Type 0) → refusal job database ≡ None → IsCut (job.script database) → A
    no_cut A passes cut = elim makes [
      | inl is ↦ none_is_some (refusal job database) is.0 passes is.1
      | inr is ↦ empty (job.script database) is cut.is
    ] where
      empty : (calls : List Call) → calls ≡ [] → calls ≡ (cut.first ∷ cut.more) ++ cut.next ∷ cut.rest → A
      empty [] is other = cc
      empty (call ∷ calls) is other = cc

    silent : answer_of 1 f.now.answers ≡ None
    silent = f.plays.answer ∙ none

    not_begun : has_begun Answer locked busy 1 f.now ≡ false
    not_begun = by (stands (r.faulted ≡ true) f.steps f.now f.came) where
      answered : (a : Answer) (A : Type 0) → answer_of 1 f.now.answers ≡ Some a → A
      answered a A is = none_is_some (answer_of 1 f.now.answers) a silent is

      by : StandsAt failed origin.dialect job database (r.faulted ≡ true) f.now → has_begun Answer locked busy 1 f.now ≡ false
      by (inl is) = ap (has_begun Answer locked busy 1) is
      by (inr (inl p)) = answered p.answer _ (ap (λ (x : Runs). answer_of 1 x.answers) p.ended.1)
      by (inr (inr (inl p))) = no_cut _ p.passes p.cut
      by (inr (inr (inr (inl p)))) = answered (job.answer database) _ (ap (λ (x : Runs). answer_of 1 x.answers) p.ended.1)
      by (inr (inr (inr (inr (inl q))))) = no_cut _ q.1.met.passes q.1.met.cut
      by (inr (inr (inr (inr (inr q))))) = no_cut _ q.1.met.passes q.1.met.cut

    -- so its next step leaves the store as it is
    pub leaves_all : (S : Type 0) (old new : S) → y.dialect ≡ r.dialect → StandsFor y.dialect y.committed database → LeavesAll r y old new → new ≡ old
    leaves_all S old new same stands_for leaves =
        let fresh : r.begun ≡ false = sym (f.plays.begun none) ∙ not_begun in
        leaves fresh same database stands_for (subst (λ (j : Job Answer locked busy). MakesNone j database) (f.plays.waits none fresh) makes)
