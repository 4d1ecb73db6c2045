-- The entries of a machine of runners are those of calls from its database, also where they met faults, if the calls of each fit.
use Rattle.std.proofs.Common.{ap, inl, inr, refl, subst, sym, ◌∙◌}
use Rattle.std.proofs.lemmas.List.{append-nil}
use Rattle.std.specs.Prelude.{Bool, List, None, Ok, Option, Result, Some, [], false, if◌then◌else◌, nat_eq, true, ℕ, ◌&&◌, ◌++◌, ◌∷◌, ◌≡◌, ◌⊎◌}
use Rattle.lq_base.specs.declared.dialect.Dialect.{Dialect}
use Rattle.lq_base.specs.declared.reason.Reason.{Reason}
use Rattle.lq_base.specs.declared.tracking.Lock.{Lock}
use Rattle.lq_beside.proofs.Opened.{fits_both}
use Rattle.lq_beside.proofs.OtherFits.{release_fits}
use Rattle.lq_beside.proofs.Replays.{journal_replays}
use Rattle.lq_beside.specs.Replays.{call_fits, calls_fit}
use Rattle.lq_commands.proofs.Sequenced.{behind, call_behind}
use Rattle.lq_drill.proofs.Machines.{held_is}
use Rattle.lq_drill.specs.Faults.{Comes, Falls, FallsFirst, Steps, frees, gives_up, has_bar, last_calls, left_with}
use Rattle.lq_drill.specs.declared.fault.DrillFault.{DrillFault}
use Rattle.lq_model.proofs.Lists.{and_left, and_right, and_true}
use Rattle.lq_model.specs.Catalogue.{Catalogue}
use Rattle.lq_stand.proofs.StaysClean.{IsGood, calls_stay_clean, fine_of}
use Rattle.lq_stand.specs.Stays.{call_is_first, calls_are_first, IsClean}
use Rattle.lq_track.specs.Database.{Database}
use Rattle.lq_turns.proofs.Journal.{calls_lead}
use Rattle.lq_turns.proofs.Made.{calls_both}
use Rattle.lq_turns.specs.Deed.{all_done}
use Rattle.lq_turns.specs.Schedule.{StandsFor, Holder, Job, Machine, all_moved, answers_with, appended, begins, first_step, has_answered, has_begun, later_step, makes, moved, start}
use Rattle.lq_turns.specs.Script.{closing, release_calls}
use Rattle.lq_turns.specs.Session.{Session, aborted, all_called, called, session_on}
use Rattle.lq_turns.specs.Stops.{Journal}
use Rattle.lq_turns.specs.declared.call.Call.{Call}
use Rattle.lq_turns.specs.declared.call.Call.TheVariants.{Abort, Alone, Begin, Commit, Execute}

ok_same : {a b : Database} → (let r : Result Database Reason = Ok a in r) ≡ Ok b → a ≡ b
ok_same h = Prim.cc

-- a session that has written these entries, and no others
abbrev wrote : Journal → Session → Session
wrote entries s = record s { entries = entries }

-- calls whose deeds fit, and whose new rows are the first of their identities and stand behind all others
abbrev pub KeepFit : Dialect → List Call → Session → Type 0
KeepFit d calls s = (calls_fit d calls s ≡ true) × (calls_are_first d calls s ≡ true)

module _ (d : Dialect) where
  -- what a session had written is no matter to its calls

  fit_wrote : (call : Call) (entries : Journal) (s : Session) → call_fits d call (wrote entries s) ≡ call_fits d call s
  fit_wrote (Alone deeds room) entries s = refl
  fit_wrote Begin entries s = refl
  fit_wrote (Execute deed) entries s = refl
  fit_wrote Commit entries s = refl
  fit_wrote Abort entries s = refl

  first_wrote : (call : Call) (entries : Journal) (s : Session) → call_is_first d call (wrote entries s) ≡ call_is_first d call s
  first_wrote (Alone deeds room) entries s = refl
  first_wrote Begin entries s = refl
  first_wrote (Execute deed) entries s = refl
  first_wrote Commit entries s = refl
  first_wrote Abort entries s = refl

  both_first : (calls others : List Call) (s : Session) → calls_are_first d calls s ≡ true → calls_are_first d others (all_called d calls s) ≡ true → calls_are_first d (calls ++ others) s ≡ true
  both_first [] others s a b = b
  both_first (call ∷ calls) others s a b = and_true _ _ (and_left (call_is_first d call s) _ a) (both_first calls others (called d call s) (and_right (call_is_first d call s) _ a) b)

  behind_bare : (entries : Journal) (s : Session) → wrote entries s ≡ behind entries (wrote [] s)
  behind_bare entries s = ap (λ (es : Journal). wrote es s) (sym (append-nil entries))

  -- it writes what it appends
  call_wrote : (call : Call) (entries : Journal) (s : Session) → called d call (wrote entries s) ≡ wrote (entries ++ appended d call s) (called d call s)
  call_wrote call entries s =
      ap (called d call) (behind_bare entries s) ∙ call_behind d entries call (wrote [] s)
      ∙ sym (ap (wrote (entries ++ appended d call s)) (ap (called d call) (behind_bare s.entries s) ∙ call_behind d s.entries call (wrote [] s)))

  module _ (database : Database) where
    -- Calls from the database lead to this session, but for what it has written, and have written these entries.
    pub record Came (s : Session) (entries : Journal) : Type 0 where
      pub calls : List Call
      pub is : all_called d calls (session_on database) ≡ wrote entries s
      pub fit : calls_fit d calls (session_on database) ≡ true
      pub first : calls_are_first d calls (session_on database) ≡ true

    came_on : (call : Call) (entries : Journal) (s : Session) → Came s entries → call_fits d call s ≡ true → call_is_first d call s ≡ true → Came (called d call s) (entries ++ appended d call s)
    came_on call entries s came fit first = record {
      calls = came.calls ++ call ∷ [];
      is = calls_both d came.calls (call ∷ []) (session_on database) ∙ ap (called d call) came.is ∙ call_wrote call entries s;
      fit = fits_both d came.calls (call ∷ []) (session_on database) came.fit (and_true _ _ (ap (call_fits d call) came.is ∙ fit_wrote call entries s ∙ fit) refl);
      first = both_first came.calls (call ∷ []) (session_on database) came.first (and_true _ _ (ap (call_is_first d call) came.is ∙ first_wrote call entries s ∙ first) refl);
    }

    -- with nothing open
    came_shut : (entries : Journal) (s : Session) → Came s entries → Came (session_on s.committed) entries
    came_shut entries s came = record {
      calls = came.calls ++ Abort ∷ [];
      is = calls_both d came.calls (Abort ∷ []) (session_on database) ∙ ap aborted came.is;
      fit = fits_both d came.calls (Abort ∷ []) (session_on database) came.fit refl;
      first = both_first came.calls (Abort ∷ []) (session_on database) came.first refl;
    }

    -- where nothing is begun it sees what is committed
    sees_committed : (entries : Journal) (s : Session) → Came s entries → s.begun ≡ [] → s.committed ≡ s.seen
    sees_committed entries s came none =
        let leads = (calls_lead d database came.calls (session_on database) (record { committed = refl; seen = refl })).seen in
        let here : all_done d s.begun s.committed ≡ Ok s.seen = subst (λ (t : Session). all_done d t.begun t.committed ≡ Ok t.seen) came.is leads in
        ok_same (sym (ap (λ deeds. all_done d deeds s.committed) none) ∙ here)

    -- what calls lead to is sound and clean, and a catalogue stands for it
    module _ (c : Catalogue) (stands : StandsFor d c database) (clean : IsClean d database) where
      pub stands_at : (entries : Journal) (s : Session) → Came s entries → (e : Catalogue) × StandsFor d e s.committed
      stands_at entries s came =
          let ran = journal_replays d came.calls database c stands came.fit in
          (ran.0, subst (λ (t : Session). StandsFor d ran.0 t.committed) came.is ran.2)

      pub good_at : (entries : Journal) (s : Session) → Came s entries → IsGood d s.committed
      good_at entries s came =
          let ran = journal_replays d came.calls database c stands came.fit in
          let stays : IsClean d s.committed = subst (λ (t : Session). IsClean d t.committed) came.is (calls_stay_clean d came.calls database ran.0 clean came.first ran.2) in
          record { fine = fine_of d s.committed stays; sound = (stands_at entries s came).1.sound }

module _ (Answer : Type 0) (locked : Lock → Answer) (busy : ℕ → Answer) (failed : DrillFault → Answer) (d : Dialect) (jobs : ℕ → Job Answer locked busy) where
  abbrev Runs : Type 0
  Runs = Machine Answer locked busy

  -- the calls of this runner's job fit a database that is sound and clean, and for which a catalogue stands
  abbrev pub IsFitJob : ℕ → Type 0
  IsFitJob n = (x : Database) (c : Catalogue) → StandsFor d c x → IsGood d x → KeepFit d ((jobs n).script x) (session_on x)

  abbrev pub AreFit : List ℕ → Type 0
  AreFit [] = Unit {0}
  AreFit (n ∷ ns) = IsFitJob n × AreFit ns

  parts_fit : (ns more : List ℕ) → AreFit (ns ++ more) → AreFit ns × AreFit more
  parts_fit [] more fit = (tt, fit)
  parts_fit (n ∷ ns) more fit = let rest = parts_fit ns more fit.1 in ((fit.0, rest.0), rest.1)

  module _ (database : Database) (c : Catalogue) (stands : StandsFor d c database) (clean : IsClean d database) where
    -- the holder's session came so, and its calls to come fit
    record HoldsOn (h : Holder Answer locked busy) (x : Runs) : Type 0 where
      came : Came d database h.session x.entries
      committed : h.session.committed ≡ x.committed
      rest : KeepFit d h.rest h.session

    abbrev HolderOn : Option (Holder Answer locked busy) → Runs → Type 0
    HolderOn None x = Unit {0}
    HolderOn (Some h) x = HoldsOn h x

    record IsOn (x : Runs) : Type 0 where
      came : Came d database (session_on x.committed) x.entries
      holder : HolderOn x.holder x

    starts_on : IsOn (start Answer locked busy database)
    starts_on = record { came = record { calls = []; is = refl; fit = refl; first = refl }; holder = tt }

    -- what was answered is no matter
    holder_answered : (n : ℕ) (a : Answer) (x : Runs) (o : Option (Holder Answer locked busy)) → HolderOn o x → HolderOn o (answers_with Answer locked busy n a x)
    holder_answered n a x None on = tt
    holder_answered n a x (Some h) on = record { came = on.came; committed = on.committed; rest = on.rest }

    answered_on : (n : ℕ) (a : Answer) (x : Runs) → IsOn x → IsOn (answers_with Answer locked busy n a x)
    answered_on n a x on = record { came = on.came; holder = holder_answered n a x x.holder on.holder }

    makes_on : (n : ℕ) (s : Session) (calls : List Call) (a : Answer) (x : Runs) → Came d database s x.entries → KeepFit d calls s → IsOn x → IsOn (makes Answer locked busy d jobs n s calls a x)
    makes_on n s [] a x came keeps on = answered_on n a x on
    makes_on n s (call ∷ calls) a x came keeps on = by calls (and_right (call_fits d call s) _ keeps.0, and_right (call_is_first d call s) _ keeps.1) where
      next : Came d database (called d call s) (x.entries ++ appended d call s)
      next = came_on d database call x.entries s came (and_left (call_fits d call s) _ keeps.0) (and_left (call_is_first d call s) _ keeps.1)

      shut : Came d database (session_on (called d call s).committed) (x.entries ++ appended d call s)
      shut = came_shut d database (x.entries ++ appended d call s) (called d call s) next

      by : (calls : List Call) → KeepFit d calls (called d call s) → IsOn (makes Answer locked busy d jobs n s (call ∷ calls) a x)
      by [] rest = record { came = shut; holder = tt }
      by (more ∷ calls) rest = record { came = shut; holder = record { came = next; committed = refl; rest = rest } }

    -- one step of the machine
    module _ (n : ℕ) (x : Runs) (job : IsFitJob n) (on : IsOn x) where
      told : (a : Answer) → IsOn (answers_with Answer locked busy n a x)
      told a = answered_on n a x on

      script_fits : KeepFit d ((jobs n).script x.committed) (session_on x.committed)
      script_fits =
          let there = stands_at d database c stands clean x.entries (session_on x.committed) on.came in
          job x.committed there.0 there.1 (good_at d database c stands clean x.entries (session_on x.committed) on.came)

      by_begins : (o : Option Answer) → IsOn (begins Answer locked busy d jobs n o x)
      by_begins (Some a) = told a
      by_begins None = makes_on n (session_on x.committed) ((jobs n).script x.committed) ((jobs n).answer x.committed) x on.came script_fits on

      by_opens : (is_open : Bool) (a : Answer) → IsOn (if is_open then answers_with Answer locked busy n a x else begins Answer locked busy d jobs n ((jobs n).refuses x.committed) x)
      by_opens true a = told a
      by_opens false a = by_begins ((jobs n).refuses x.committed)

      by_first : (waits : Bool) (o : Option (Holder Answer locked busy))
          → IsOn (if waits then answers_with Answer locked busy n (locked x.committed.lock) x else elim o as (λ _. Runs) [ None ↦ begins Answer locked busy d jobs n ((jobs n).refuses x.committed) x | Some h ↦ if h.session.is_open then answers_with Answer locked busy n (busy h.runner) x else begins Answer locked busy d jobs n ((jobs n).refuses x.committed) x ])
      by_first true o = told (locked x.committed.lock)
      by_first false None = by_begins ((jobs n).refuses x.committed)
      by_first false (Some h) = by_opens h.session.is_open (busy h.runner)

      by_holds : (own : Bool) (h : Holder Answer locked busy) → HoldsOn h x → IsOn (if own then makes Answer locked busy d jobs n h.session h.rest h.answer x else answers_with Answer locked busy n (locked x.committed.lock) x)
      by_holds true h holds = makes_on n h.session h.rest h.answer x holds.came holds.rest on
      by_holds false h holds = told (locked x.committed.lock)

      by_later : (o : Option (Holder Answer locked busy)) → HolderOn o x
          → IsOn (elim o as (λ _. Runs) [ None ↦ answers_with Answer locked busy n (locked x.committed.lock) x | Some h ↦ if nat_eq h.runner n then makes Answer locked busy d jobs n h.session h.rest h.answer x else answers_with Answer locked busy n (locked x.committed.lock) x ])
      by_later None holds = told (locked x.committed.lock)
      by_later (Some h) holds = by_holds (nat_eq h.runner n) h holds

      by_goes : (begun : Bool) → IsOn (if begun then later_step Answer locked busy d jobs n x else first_step Answer locked busy d jobs n x)
      by_goes true = by_later x.holder on.holder
      by_goes false = by_first ((jobs n).needs_lock && x.committed.lock.locked) x.holder

      by_moves : (answered : Bool) → IsOn (if answered then x else if has_begun Answer locked busy n x then later_step Answer locked busy d jobs n x else first_step Answer locked busy d jobs n x)
      by_moves true = on
      by_moves false = by_goes (has_begun Answer locked busy n x)

      moved_on : IsOn (moved Answer locked busy d jobs n x)
      moved_on = by_moves (has_answered Answer locked busy n x)

    -- a holder that gives up

    frees_fits : (entries : Journal) (s : Session) → Came d database s entries → s.committed.lock.locked ≡ true → calls_fit d (closing ∷ []) (session_on s.committed) ≡ true
    frees_fits entries s came held =
        let there = stands_at d database c stands clean entries s came in
        let calls_are : release_calls s.committed ≡ closing ∷ [] = ap (λ b. if b then closing ∷ [] else []) held in
        subst (λ calls. calls_fit d calls (session_on s.committed) ≡ true) calls_are (release_fits d there.0 s.committed there.1)

    last_fit : (entries : Journal) (s : Session) → Came d database s entries → s.committed.lock.locked ≡ true → (s.is_open ≡ false → s.begun ≡ []) → KeepFit d (last_calls s) s
    last_fit entries s came held rests = by s.is_open refl (has_bar s.committed.lock) where
      shut : s.is_open ≡ false → calls_fit d (closing ∷ []) s ≡ true
      shut is = subst (λ (x : Database). calls_fit d (closing ∷ []) (record s { seen = x }) ≡ true) (sees_committed d database entries s came (rests is)) (frees_fits entries s came held)

      by : (b : Bool) → s.is_open ≡ b → (m : Bool) → KeepFit d (if b then Abort ∷ frees m else frees m) s
      by true is true = (refl, refl)
      by true is false = (frees_fits entries s came held, refl)
      by false is true = (refl, refl)
      by false is false = (shut is, refl)

    left_on : (calls : List Call) (why : DrillFault) (h : Holder Answer locked busy) (x : Runs) → KeepFit d calls h.session → HoldsOn h x → IsOn x → IsOn (left_with failed calls why h x)
    left_on [] why h x keeps holds on = record { came = on.came; holder = tt }
    left_on (call ∷ calls) why h x keeps holds on = record { came = on.came; holder = record { came = holds.came; committed = holds.committed; rest = keeps } }

    falls_on : (n : ℕ) (x z : Runs) → IsFitJob n → Falls failed d jobs n x z → IsOn x → IsOn z
    falls_on n x z job falls on = elim falls.is [
      | inl is ↦ subst IsOn (sym is) given
      | inr is ↦ subst IsOn (sym is) (moved_on n (gives_up failed falls.why falls.holder x) job given)
    ] where
      holds : HoldsOn falls.holder x
      holds = subst (λ o. HolderOn o x) (held_is Answer locked busy n x.holder falls.holder falls.held).0 on.holder

      is_held : falls.holder.session.committed.lock.locked ≡ true
      is_held = ap (λ (e : Database). e.lock.locked) holds.committed ∙ falls.locked

      given : IsOn (gives_up failed falls.why falls.holder x)
      given = left_on (last_calls falls.holder.session) falls.why falls.holder x (last_fit x.entries falls.holder.session holds.came is_held falls.rests) holds on

    steps_on : (met : Type 0) (n : ℕ) (x z : Runs) → IsFitJob n → Steps failed d jobs met n x z → IsOn x → IsOn z
    steps_on met n x z job (inl is) on = subst IsOn (sym is) (moved_on n x job on)
    steps_on met n x z job (inr falls) on = falls_on n x z job falls.1 on

    comes_on : (met : ℕ → Type 0) (ns : List ℕ) (x z : Runs) → AreFit ns → Comes failed d jobs met ns x z → IsOn x → IsOn z
    comes_on met [] x z fit came on = subst IsOn came on
    comes_on met (n ∷ ns) x z fit came on = comes_on met ns came.1.0 z fit.1 came.1.2 (steps_on (met n) n x came.1.0 fit.0 came.1.1 on)

    all_moved_on : (ns : List ℕ) (x : Runs) → AreFit ns → IsOn x → IsOn (all_moved Answer locked busy d jobs ns x)
    all_moved_on [] x fit on = on
    all_moved_on (n ∷ ns) x fit on = all_moved_on ns (moved Answer locked busy d jobs n x) fit.1 (moved_on n x fit.0 on)

    -- from the start

    abbrev begin : Runs
    begin = start Answer locked busy database

    pub came_by_calls : (met : ℕ → Type 0) (ns more : List ℕ) (z : Runs) → AreFit (ns ++ more) → Comes failed d jobs met ns begin z → Came d database (session_on z.committed) z.entries
    came_by_calls met ns more z fit came = (comes_on met ns begin z (parts_fit ns more fit).0 came starts_on).came

    -- what is committed is sound and clean

    good_on : (x : Runs) → IsOn x → IsGood d x.committed
    good_on x on = good_at d database c stands clean x.entries (session_on x.committed) on.came

    pub moved_good : (ns : List ℕ) → AreFit ns → IsGood d (all_moved Answer locked busy d jobs ns begin).committed
    moved_good ns fit = good_on (all_moved Answer locked busy d jobs ns begin) (all_moved_on ns begin fit starts_on)

    pub came_good : (met : ℕ → Type 0) (ns more : List ℕ) (z : Runs) → AreFit (ns ++ more) → (z ≡ all_moved Answer locked busy d jobs ns begin) ⊎ FallsFirst failed d jobs met ns begin z → IsGood d z.committed
    came_good met ns more z fit (inl all) = subst (λ (x : Runs). IsGood d x.committed) (sym all) (moved_good ns (parts_fit ns more fit).0)
    came_good met ns more z fit (inr fell) =
        let parts = parts_fit fell.front (fell.next ∷ fell.later) (subst AreFit fell.is (parts_fit ns more fit).0) in
        let there = all_moved_on fell.front begin parts.0 starts_on in
        good_on z (comes_on met fell.later fell.given_up z parts.1.1 fell.goes_on (falls_on fell.next (all_moved Answer locked busy d jobs fell.front begin) fell.given_up parts.1.0 fell.falls there))

    -- of a machine to which some of the steps led, and of the one after the next step
    pub then_good : (met : ℕ → Type 0) (front rest : List ℕ) (n : ℕ) (y z : Runs) → AreFit (front ++ n ∷ rest) → Comes failed d jobs met front begin y → (z ≡ y) ⊎ Steps failed d jobs (met n) n y z → IsGood d z.committed
    then_good met front rest n y z fit came step = good_on z (by step) where
      parts : AreFit front × AreFit (n ∷ rest)
      parts = parts_fit front (n ∷ rest) fit

      there : IsOn y
      there = comes_on met front begin y parts.0 came starts_on

      by : (z ≡ y) ⊎ Steps failed d jobs (met n) n y z → IsOn z
      by (inl same) = subst IsOn (sym same) there
      by (inr steps) = steps_on (met n) n y z parts.1.0 steps there
