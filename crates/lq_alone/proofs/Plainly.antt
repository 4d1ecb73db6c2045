-- What a command by itself comes to.
use Rattle.std.proofs.Common.{ap, append-nil, append_assoc, inl, inr, subst, sym, ◌∙◌}
use Rattle.std.proofs.lemmas.List.{map-append}
use Rattle.std.specs.Option.{option_map}
use Rattle.std.specs.Prelude.{Bool, Err, List, None, Ok, Option, Result, Some, [], false, is_some, refl, replicate, suc, true, zero, ℕ, ◌++◌, ◌∷◌, ◌≡◌, ◌⊎◌}
use Rattle.lq_base.specs.declared.tracking.Lock.{Lock}
use Rattle.lq_drill.specs.Faults.{Steps, answer_of, Shows, entries_of, entry_of}
use Rattle.lq_alone.proofs.Along.{stands}
use Rattle.lq_alone.proofs.Behind.{behind_by, left_in}
use Rattle.lq_alone.proofs.Resting.{rests_in}
use Rattle.lq_drill.proofs.Crashed.{leave_wider}
use Rattle.lq_alone.specs.One.{AnswersOwn, CameTo, Follows, LeftAlone, RanAlone, Stops, StandsAt, over}
use Rattle.lq_store.specs.Journal.{Crashes, CrashesLeave, Entry, end_of, is_full, size_of_all, State}
use Rattle.lq_drill.specs.Player.{Brings, Rests, Standing}
use Rattle.lq_drill.specs.declared.fault.DrillFault.{DrillFault}
use Rattle.lq_drill.specs.declared.fault.DrillFault.TheVariants as fault
use Rattle.lq_alone.proofs.Course.{steps}
use Rattle.lq_drill.proofs.Machines.{moved_last}
use Rattle.lq_alone.proofs.Leaving.{one_is_full, one_leaves}
use Rattle.lq_alone.specs.Plain.{IsFullBy, EndsAlone, EndsAs, IsLeftBehind, LeavesFront, LeavesLock, OneEnds, OneRests, OneSteps, OneStops}
use Rattle.lq_alone.specs.Stopped.{MayStop}
use Rattle.lq_run.specs.Commands.{Leaves}
use Rattle.lq_run.specs.Crashes.{LeftBehind, LeftInCommand}
use Rattle.lq_run.specs.Left.{RestsIn}
use Rattle.lq_statement.specs.Laws.{StatementsReadBack}
use Rattle.lq_track.specs.Database.{Database}
use Rattle.lq_turns.specs.Schedule.{Job, Machine, all_moved, appended, has_begun, moved, start}
use Rattle.lq_turns.specs.Session.{all_called, room_of, session_on}
use Rattle.lq_turns.specs.declared.call.Call.{Call}

both_behind : (first more : List Entry) (entries : Option (List Entry)) → option_map (λ e. e ++ more) (option_map (λ e. e ++ first) entries) ≡ option_map (λ e. e ++ (first ++ more)) entries
both_behind first more None = refl
both_behind first more (Some e) = ap (λ l. Some l) (append_assoc e first more)

module _ (Answer : Type 0) (locked : Lock → Answer) (busy : ℕ → Answer) (failed : DrillFault → Answer) (job : Job Answer locked busy) (origin y : State) (database : Database) where
  abbrev Runs : Type 0
  Runs = Machine Answer locked busy

  -- a store that shows a runner that has answered
  leaves : (calls : List Call) (a : Answer) (older : List ℕ) → Shows {locked = locked} {busy = busy} origin y (over (all_called origin.dialect calls (session_on database)) a older) → Leaves origin.dialect calls database origin y
  leaves calls a older shows = record {
    database_is = record { dialect = shows.dialect; live = shows.live; shut = shows.begun; committed = shows.committed };
    limit = shows.limit;
    entries = shows.entries;
    used = shows.used;
    room = shows.room;
  }

  -- its answer
  same_answer : (a b : Answer) (o : Option Answer) → o ≡ Some a → o ≡ Some b → a ≡ b
  same_answer a b o one other = cc

  silent : (A : Type 0) (a : Answer) (o : Option Answer) → o ≡ None → o ≡ Some a → A
  silent A a None none some = cc
  silent A a (Some b) none some = cc

  ends : (met : Type 0) (x : Runs) (a : Answer) → StandsAt failed origin.dialect job database met x → answer_of 1 x.answers ≡ Some a → ((why : DrillFault) → answer_of 1 x.answers ≡ Some (failed why) → ⊥) → Shows origin y x → EndsAs job origin database a y
  ends met x a (inl is) said own shows = silent _ a (answer_of 1 x.answers) (ap (λ (w : Runs). answer_of 1 w.answers) is) said
  ends met x a (inr (inl p)) said own shows =
      let it : p.answer ≡ a = same_answer p.answer a (answer_of 1 x.answers) (ap (λ (w : Runs). answer_of 1 w.answers) p.ended.1) said in
      inl (p.is ∙ ap (λ b. Some b) it, leaves [] p.answer p.ended.0 (subst (Shows origin y) p.ended.1 shows))
  ends met x a (inr (inr (inl p))) said own shows = silent _ a (answer_of 1 x.answers) (ap (λ (w : Runs). answer_of 1 w.answers) p.is) said
  ends met x a (inr (inr (inr (inl p)))) said own shows =
      inr (p.passes, sym (same_answer (job.answer database) a (answer_of 1 x.answers) (ap (λ (w : Runs). answer_of 1 w.answers) p.ended.1) said), leaves (job.script database) (job.answer database) p.ended.0 (subst (Shows origin y) p.ended.1 shows))
  ends met x a (inr (inr (inr (inr (inl q))))) said own shows = silent _ a (answer_of 1 x.answers) (ap (λ (w : Runs). answer_of 1 w.answers) q.1.is) said
  ends met x a (inr (inr (inr (inr (inr q))))) said own shows = elim q.1.by [
    | inl is ↦ absurd (own q.1.met.why (ap (λ (w : Runs). answer_of 1 w.answers) is.1.1))
    | inr is ↦ absurd (own q.1.met.why (ap (λ (w : Runs). answer_of 1 w.answers) is.1.1))
  ]

  -- a step that ended by a fault
  stops : (met : Bool) (w : State) (x z : Runs) → StandsAt failed origin.dialect job database (met ≡ true) x → Shows origin w x → Steps failed origin.dialect (λ n. job) (met ≡ true) 1 x z → Brings origin.dialect x z w y → y.dialect ≡ w.dialect → y.limit ≡ w.limit
      → LeavesFront (job.script database) database origin y
  stops met w x z stands shows goes brings same_dialect same_limit = record {
    dialect = same_dialect ∙ shows.dialect;
    limit = same_limit ∙ shows.limit;
    written = x.entries ++ brings.front;
    stops = one_leaves Answer locked busy failed origin.dialect job database met z (inr (steps Answer locked busy failed origin.dialect job database (met ≡ true) x z stands goes)) (x.entries ++ brings.front) brings.more
        (brings.came ∙ sym (append_assoc x.entries brings.front brings.more));
    entries = brings.entries ∙ ap (option_map (λ (es : List Entry). es ++ entries_of origin.dialect brings.front)) shows.entries
        ∙ both_behind (entries_of origin.dialect x.entries) (entries_of origin.dialect brings.front) origin.entries
        ∙ ap (λ (more : List Entry). option_map (λ (es : List Entry). es ++ more) origin.entries) (sym (map-append (entry_of origin.dialect) x.entries brings.front));
  }

  -- nothing was called
  starts : (w : State) → Shows {locked = locked} {busy = busy} origin w (start Answer locked busy database) → y ≡ w → Leaves origin.dialect [] database origin y
  starts w shows same = subst (Leaves origin.dialect [] database origin) (sym same) (record {
    database_is = record { dialect = shows.dialect; live = shows.live; shut = shows.begun; committed = shows.committed };
    limit = shows.limit;
    entries = shows.entries;
    used = shows.used;
    room = shows.room;
  })

  not_begun : (met : Type 0) (w : State) (x : Runs) → StandsAt failed origin.dialect job database met x → answer_of 1 x.answers ≡ None → has_begun Answer locked busy 1 x ≡ false → Shows origin w x → y ≡ w → Leaves origin.dialect [] database origin y
  not_begun met w x (inl is) none fresh shows same = starts w (subst (Shows origin w) is shows) same
  not_begun met w x (inr (inl p)) none fresh shows same = silent _ p.answer (answer_of 1 x.answers) none (ap (λ (v : Runs). answer_of 1 v.answers) p.ended.1)
  not_begun met w x (inr (inr (inl p))) none fresh shows same = begun (sym (ap (has_begun Answer locked busy 1) p.is) ∙ fresh) where
    begun : true ≡ false → Leaves origin.dialect [] database origin y
    begun is = cc
  not_begun met w x (inr (inr (inr (inl p)))) none fresh shows same = silent _ (job.answer database) (answer_of 1 x.answers) none (ap (λ (v : Runs). answer_of 1 v.answers) p.ended.1)
  not_begun met w x (inr (inr (inr (inr (inl q))))) none fresh shows same = begun (sym (ap (has_begun Answer locked busy 1) q.1.is) ∙ fresh) where
    begun : true ≡ false → Leaves origin.dialect [] database origin y
    begun is = cc
  not_begun met w x (inr (inr (inr (inr (inr q))))) none fresh shows same = elim q.1.by [
    | inl is ↦ silent _ (failed q.1.met.why) (answer_of 1 x.answers) none (ap (λ (v : Runs). answer_of 1 v.answers) is.1.1)
    | inr is ↦ silent _ (failed q.1.met.why) (answer_of 1 x.answers) none (ap (λ (v : Runs). answer_of 1 v.answers) is.1.1)
  ]

  rests : (met : Bool) (w : State) (x : Runs) (used next : ℕ) → StandsAt failed origin.dialect job database (met ≡ true) x → answer_of 1 x.answers ≡ None → Shows origin w x
      → Rests failed (λ n. job) 1 (met ≡ true) origin w y x (fault.Full used next) → LeavesLock origin database y used next
  rests met w x used next stands none shows (inl made) = inl (made.0.committed, made.2.committed, made.4)
  rests met w x used next stands none shows (inr same) = elim same.1.1 [
    | inl fresh ↦ inr (inr (not_begun (met ≡ true) w x stands none fresh shows same.0))
    | inr last ↦ inr (inl (
      same.1.0.cause.session,
      same.1.0.cause.next_is ∙ ap (λ c. size_of_all (entries_of origin.dialect (appended origin.dialect c same.1.0.cause.session))) last,
      subst (λ c. is_full (end_of (room_of c) origin.limit) used (entries_of origin.dialect (appended origin.dialect c same.1.0.cause.session)) ≡ true) last same.1.0.cause.full,
    ))
  ]

pub one_ends : (Answer : Type 0) → OneEnds Answer
one_ends Answer locked busy failed job origin y database met x a stands said own shows = ends Answer locked busy failed job origin y database (met ≡ true) x a stands said own shows

pub one_stops : (Answer : Type 0) → OneStops Answer
one_stops Answer locked busy failed job origin w y database met x z stands shows goes brings d l = stops Answer locked busy failed job origin y database met w x z stands shows goes brings d l

pub one_rests : (Answer : Type 0) → OneRests Answer
one_rests Answer locked busy failed job origin w y database met x used next stands none shows r = rests Answer locked busy failed job origin y database met w x used next stands none shows r

-- by how its steps ended
module _ (Answer : Type 0) (locked : Lock → Answer) (busy : ℕ → Answer) (failed : DrillFault → Answer) (job : Job Answer locked busy) (origin y : State) (database : Database) (r : Standing Answer locked busy) where
  follows_ends : (a : Answer) → r.answer ≡ Some a → Follows failed job origin database r y → EndsAs job origin database a y
  follows_ends a said f = one_ends Answer locked busy failed job origin y database r.faulted f.now a (stands Answer locked busy failed job origin database (r.faulted ≡ true) f.steps f.now f.came) (f.plays.answer ∙ said) f.going f.shows

  follows_leaves : Follows failed job origin database r y → LeavesFront (job.script database) database origin y
  follows_leaves f = record {
    dialect = f.shows.dialect;
    limit = f.shows.limit;
    written = f.now.entries;
    stops = one_leaves Answer locked busy failed origin.dialect job database r.faulted f.now (stands Answer locked busy failed job origin database (r.faulted ≡ true) f.steps f.now f.came) f.now.entries [] (sym (append-nil f.now.entries));
    entries = f.shows.entries;
  }

  stops_leaves : (why : DrillFault) → Stops failed job origin database r y why → LeavesFront (job.script database) database origin y
  stops_leaves why s = one_stops Answer locked busy failed job origin s.before y database r.faulted s.now s.to (stands Answer locked busy failed job origin database (r.faulted ≡ true) s.steps s.now s.came) s.shows s.steps_to s.brings s.same.0 s.same.1

  stops_full : (used next : ℕ) → Stops failed job origin database r y (fault.Full used next) → IsFullBy origin.dialect (job.script database) database origin.used origin.limit used next
  stops_full used next s = one_is_full Answer locked busy failed origin.dialect job database r.faulted s.met.at origin.used origin.limit used next (stands Answer locked busy failed job origin database (r.faulted ≡ true) s.met.steps s.met.at s.met.came) s.met.meets

  other_fault : (A : Type 0) (used next : ℕ) → fault.Full used next ≡ fault.OutOfMemory → A
  other_fault A used next is = cc

  pub stops_lock : (used next : ℕ) → Stops failed job origin database r y (fault.Full used next) → LeavesLock origin database y used next
  stops_lock used next s = one_rests Answer locked busy failed job origin s.before y database r.faulted s.now used next (stands Answer locked busy failed job origin database (r.faulted ≡ true) s.steps s.now s.came) s.silent s.shows s.rests

  pub lock_alone : (used next : ℕ) (result : Result (Unit {0}) DrillFault) → result ≡ Err (fault.Full used next) → RanAlone failed job origin database r result y → LeavesLock origin database y used next
  lock_alone used next result is ran = by (subst (λ q. RanAlone failed job origin database r q y) is ran) where
    by : RanAlone failed job origin database r (Err (fault.Full used next)) y → LeavesLock origin database y used next
    by (inl s) = stops_lock used next s
    by (inr f) = other_fault _ used next f.0

  pub ends_alone : (result : Result (Unit {0}) DrillFault) → RanAlone failed job origin database r result y → EndsAlone job origin database r.answer result y
  ends_alone (Ok u) ran = (ran.0.0, ran.0.1, follows_ends ran.0.0 ran.0.1 ran.1)
  ends_alone (Err fault.Disk) (inl s) = stops_leaves fault.Disk s
  ends_alone (Err fault.Disk) (inr f) = follows_leaves f.1
  ends_alone (Err (fault.Full used next)) (inl s) = (stops_leaves (fault.Full used next) s, stops_full used next s)
  ends_alone (Err (fault.Full used next)) (inr f) = other_fault _ used next f.0
  ends_alone (Err fault.OutOfMemory) (inl s) = stops_leaves fault.OutOfMemory s
  ends_alone (Err fault.OutOfMemory) (inr f) = follows_leaves f.1

  -- at any moment
  left_behind : (there left : List Entry) → LeftAlone failed job origin database (r.faulted ≡ true) there left → IsLeftBehind origin.dialect (job.script database) database there left
  left_behind there left l = record {
    written = l.leaves.front;
    stops = one_leaves Answer locked busy failed origin.dialect job database r.faulted l.now (stands Answer locked busy failed job origin database (r.faulted ≡ true) l.steps l.now l.came) l.leaves.front l.leaves.more l.leaves.came;
    is = l.leaves.is;
  }

  pub crashes_alone : (a b : Crashes) → CrashesLeave origin.entries (LeftAlone failed job origin database (r.faulted ≡ true)) a b → CrashesLeave origin.entries (IsLeftBehind origin.dialect (job.script database) database) a b
  crashes_alone a b leave = leave_wider origin.entries (LeftAlone failed job origin database (r.faulted ≡ true)) (IsLeftBehind origin.dialect (job.script database) database) a b left_behind leave

-- in words of its script, run again
module _ (read : StatementsReadBack) (Answer : Type 0) (locked : Lock → Answer) (busy : ℕ → Answer) (failed : DrillFault → Answer) (job : Job Answer locked busy) (origin y : State) (database : Database) (r : Standing Answer locked busy) (may : MayStop origin.dialect (job.script database) database) where
  abbrev Behind : Type 0
  Behind = LeftBehind origin.dialect (job.script database) database origin y

  follows_behind : Follows failed job origin database r y → Behind
  follows_behind f = behind_by origin.dialect (job.script database) database origin y (entries_of origin.dialect f.now.entries) f.shows.dialect f.shows.limit f.shows.entries
      (λ there. left_in Answer locked busy failed origin.dialect job database read may (r.faulted ≡ true) f.now (stands Answer locked busy failed job origin database (r.faulted ≡ true) f.steps f.now f.came) there f.now.entries [] (sym (append-nil f.now.entries)))

  stops_behind : (why : DrillFault) → Stops failed job origin database r y why → Behind
  stops_behind why s = behind_by origin.dialect (job.script database) database origin y (entries_of origin.dialect (s.now.entries ++ s.brings.front)) (s.same.0 ∙ s.shows.dialect) (s.same.1 ∙ s.shows.limit)
      (s.brings.entries ∙ ap (option_map (λ (es : List Entry). es ++ entries_of origin.dialect s.brings.front)) s.shows.entries
      ∙ both_behind (entries_of origin.dialect s.now.entries) (entries_of origin.dialect s.brings.front) origin.entries
      ∙ ap (λ (more : List Entry). option_map (λ (es : List Entry). es ++ more) origin.entries) (sym (map-append (entry_of origin.dialect) s.now.entries s.brings.front)))
      (λ there. left_in Answer locked busy failed origin.dialect job database read may (r.faulted ≡ true) s.to
      (inr (steps Answer locked busy failed origin.dialect job database (r.faulted ≡ true) s.now s.to (stands Answer locked busy failed job origin database (r.faulted ≡ true) s.steps s.now s.came) s.steps_to))
      there (s.now.entries ++ s.brings.front) s.brings.more (s.brings.came ∙ sym (append_assoc s.now.entries s.brings.front s.brings.more)))

  pub behind_alone : (result : Result (Unit {0}) DrillFault) → RanAlone failed job origin database r result y → Behind
  behind_alone (Ok u) ran = follows_behind ran.1
  behind_alone (Err why) (inl s) = stops_behind why s
  behind_alone (Err why) (inr f) = follows_behind f.1

  pub moments_alone : (a b : Crashes) → CrashesLeave origin.entries (LeftAlone failed job origin database (r.faulted ≡ true)) a b → CrashesLeave origin.entries (LeftInCommand origin.dialect (job.script database) database) a b
  moments_alone a b leave = leave_wider origin.entries (LeftAlone failed job origin database (r.faulted ≡ true)) (LeftInCommand origin.dialect (job.script database) database) a b
      (λ there left l. subst (LeftInCommand origin.dialect (job.script database) database there) (sym l.leaves.is)
      (left_in Answer locked busy failed origin.dialect job database read may (r.faulted ≡ true) l.now (stands Answer locked busy failed job origin database (r.faulted ≡ true) l.steps l.now l.came) there l.leaves.front l.leaves.more l.leaves.came)) leave

module _ (Answer : Type 0) (locked : Lock → Answer) (busy : ℕ → Answer) (failed : DrillFault → Answer) (job : Job Answer locked busy) (origin y : State) (database : Database) (r : Standing Answer locked busy) (may : MayStop origin.dialect (job.script database) database) where
  pub rests_alone : AnswersOwn failed job database → (is_some r.answer ≡ true → y.live ≡ true → y.begun ≡ None) → (used next : ℕ) (result : Result (Unit {0}) DrillFault) → result ≡ Err (fault.Full used next) → RanAlone failed job origin database r result y
      → RestsIn origin.dialect (job.script database) database origin y used next
  rests_alone own shut used next result is ran = by (subst (λ q. RanAlone failed job origin database r q y) is ran) where
    shut_by : (b : Bool) → y.live ≡ b → is_some r.answer ≡ true → (y.begun ≡ None) ⊎ (y.live ≡ false)
    shut_by true live some = inl (shut some live)
    shut_by false live some = inr live

    by : RanAlone failed job origin database r (Err (fault.Full used next)) y → RestsIn origin.dialect (job.script database) database origin y used next
    by (inl s) = rests_in Answer locked busy failed job origin y database used next may own r s (shut_by y.live refl (ap is_some s.answer))
    by (inr f) = other f.0 where
      other : fault.Full used next ≡ fault.OutOfMemory → RestsIn origin.dialect (job.script database) database origin y used next
      other is = cc

-- one step more at the end, or in front

one : ℕ
one = 1

ones : (k : ℕ) → replicate k one ++ one ∷ [] ≡ one ∷ replicate k one
ones zero = refl
ones (suc k) = ap (λ l. one ∷ l) (ones k)

module _ (Answer : Type 0) (locked : Lock → Answer) (busy : ℕ → Answer) (failed : DrillFault → Answer) (job : Job Answer locked busy) (origin : State) (database : Database) where
  abbrev after : List ℕ → Machine Answer locked busy
  after ns = all_moved Answer locked busy origin.dialect (λ n. job) ns (start Answer locked busy database)

  never : {A : Type 0} → false ≡ true → A
  never is = cc

  one_more : (k : ℕ) (y x : Machine Answer locked busy) → y ≡ after (replicate k 1) → Steps failed origin.dialect (λ n. job) (false ≡ true) 1 y x → x ≡ after (1 ∷ replicate k 1)
  unfolding one ones
  one_more k y x before (inl is) = is ∙ ap (moved Answer locked busy origin.dialect (λ n. job) 1) before ∙ sym (moved_last Answer locked busy origin.dialect (λ n. job) (replicate k 1) 1 (start Answer locked busy database)) ∙ ap after (ones k)
  one_more k y x before (inr fell) = never fell.0

  steps_of : (k : ℕ) (x : Machine Answer locked busy) → CameTo failed job origin database (false ≡ true) k x → x ≡ after (replicate k 1)
  steps_of zero x is = is
  steps_of (suc k) x came = one_more k came.0 x (steps_of k came.0 came.1) came.3

pub one_steps : (Answer : Type 0) → OneSteps Answer
one_steps Answer locked busy failed job origin database k x came = steps_of Answer locked busy failed job origin database k x came
