-- A runner that met a fault frees the lock at most once, unless another began while it still had it.
use Rattle.std.proofs.Common.{ap, inl, inr, subst, sym, ◌∙◌}
use Rattle.std.proofs.lemmas.List.{append-nil, append_assoc}
use Rattle.std.specs.List.{list_any}
use Rattle.std.specs.Prelude.{Bool, List, None, Option, Some, [], false, if◌then◌else◌, is_none, is_some, nat_eq, not, refl, true, ℕ, ◌&&◌, ◌++◌, ◌∷◌, ◌≡◌, ◌⊎◌}
use Rattle.lq_base.specs.declared.dialect.Dialect.{Dialect}
use Rattle.lq_base.specs.declared.dialect.Dialect.TheVariants.{Mysql, Postgresql}
use Rattle.lq_base.specs.declared.tracking.Lock.{Lock}
use Rattle.lq_drill.proofs.Falling.{comes_more}
use Rattle.lq_drill.proofs.Machines.{IsSound, held_is, moved_last, own_number, sound_of, stays, steps_sound}
use Rattle.lq_drill.specs.Faults.{Comes, Falls, FreesAtMostOnce, FreesEarly, IsGoing, Steps, answer_of, freed, frees, has_bar, last_calls, left_with}
use Rattle.lq_drill.specs.declared.fault.DrillFault.{DrillFault}
use Rattle.lq_model.specs.Script.{if_any}
use Rattle.lq_track.specs.Database.{Database}
use Rattle.lq_track.specs.Lock.{free}
use Rattle.lq_turns.specs.Deed.{contents_of, with_contents, lock_after}
use Rattle.lq_turns.specs.Schedule.{Holder, Job, Machine, all_moved, answers_with, appended, begins, first_step, has_answered, has_begun, later_step, makes, moved, start}
use Rattle.lq_turns.specs.Script.{closing}
use Rattle.lq_turns.specs.Serial.{at_once, is_early, open_by, unless_called, unless_open, unless_refused}
use Rattle.lq_turns.specs.Session.{Session, called, is_own, session_on, settled_if}
use Rattle.lq_turns.specs.declared.call.Call.{Call}
use Rattle.lq_turns.specs.declared.call.Call.TheVariants.{Abort}
use Rattle.lq_turns.specs.declared.deed.Deed.{Deed}
use Rattle.lq_turns.specs.declared.deed.Deed.TheVariants.{Locks}
use Rattle.lq_turns.specs.declared.deed.OnLock.TheVariants.{Freed}

-- the last call of one that met a fault appends the entry that frees the lock

freed_not_own : (d : Dialect) → is_own d (Locks Freed) ≡ false
freed_not_own Postgresql = refl
freed_not_own Mysql = refl

pub closing_frees : (d : Dialect) (s : Session) → s.begun ≡ [] → appended d closing s ≡ freed
closing_frees d s idle =
    ap (λ own. settled_entries (settled_if own (record (settled_if own bare) { seen = now; begun = (settled_if own bare).begun ++ Locks Freed ∷ [] }))) (freed_not_own d)
    ∙ ap (λ b. if_any (b ++ Locks Freed ∷ [])) idle where
      bare : Session
      bare = record s { entries = [] }

      now : Database
      now = with_contents (lock_after Freed s.seen) (contents_of s.seen)

      settled_entries : Session → List (List Deed)
      settled_entries t = t.entries ++ if_any t.begun

-- and the lock is free behind it
pub frees_lock : (d : Dialect) (s : Session) → (called d closing s).committed.lock ≡ free
frees_lock Postgresql s = refl
frees_lock Mysql s = refl

-- what is left to one that met a fault
abbrev LeftCalls : Session → List Call → Type 0
LeftCalls s calls = ((freeing : List Call) × (calls ≡ Abort ∷ freeing) × ((freeing ≡ []) ⊎ (freeing ≡ closing ∷ []))) ⊎ ((calls ≡ closing ∷ []) × (s.begun ≡ []))

calls_left : (s : Session) → (s.is_open ≡ false → s.begun ≡ []) → (call : Call) (calls : List Call) → last_calls s ≡ call ∷ calls → LeftCalls s (call ∷ calls)
calls_left s rests call calls is = by s.is_open (has_bar s.committed.lock) refl is where
  frees_so : (m : Bool) → (frees m ≡ []) ⊎ (frees m ≡ closing ∷ [])
  frees_so true = inl refl
  frees_so false = inr refl

  by : (b m : Bool) → s.is_open ≡ b → (if b then Abort ∷ frees m else frees m) ≡ call ∷ calls → LeftCalls s (call ∷ calls)
  by true m at same = inl (frees m, sym same, frees_so m)
  by false true at same = cc
  by false false at same = inr (sym same, rests at)

left_false : (a b : Bool) → (a && b) ≡ false → b ≡ true → a ≡ false
left_false true b both right = sym right ∙ both
left_false false b both right = refl

module _ (Answer : Type 0) (locked : Lock → Answer) (busy : ℕ → Answer) (failed : DrillFault → Answer) (d : Dialect) (jobs : ℕ → Job Answer locked busy) where
  abbrev Runs : Type 0
  Runs = Machine Answer locked busy

  abbrev Holds : Type 0
  Holds = Holder Answer locked busy

  -- The holder met a fault and still has the lock. The entries are these.
  record GaveUp (entries : List (List Deed)) (x : Runs) : Type 0 where
    holder : Holds
    held : x.holder ≡ Some holder
    why : DrillFault
    answer : holder.answer ≡ failed why
    rest : LeftCalls holder.session holder.rest
    is_locked : x.committed.lock.locked ≡ true
    same : x.entries ≡ entries

  -- it has answered the fault, and may have freed the lock
  record HasEnded (entries : List (List Deed)) (x : Runs) : Type 0 where
    number : ℕ
    why : DrillFault
    answered : answer_of number x.answers ≡ Some (failed why)
    tail : List (List Deed)
    once : (tail ≡ []) ⊎ (tail ≡ freed)
    with_tail : x.entries ≡ entries ++ tail

  abbrev Left : List (List Deed) → Runs → Type 0
  Left entries x = GaveUp entries x ⊎ HasEnded entries x

  -- a first step: it answers at once, or makes a call

  module _ (n : ℕ) (x : Runs) where
    abbrev Told : Option Answer → Runs → Type 0
    Told at y = (at ≡ None) ⊎ ((a : Answer) × (y ≡ answers_with Answer locked busy n a x))

    script_told : (calls : List Call) → Told (unless_called Answer locked busy d jobs calls ((jobs n).answer x.committed)) (makes Answer locked busy d jobs n (session_on x.committed) calls ((jobs n).answer x.committed) x)
    script_told [] = inr ((jobs n).answer x.committed, refl)
    script_told (call ∷ more) = inl refl

    refused_told : (o : Option Answer) → Told (unless_refused Answer locked busy d jobs o (unless_called Answer locked busy d jobs ((jobs n).script x.committed) ((jobs n).answer x.committed))) (begins Answer locked busy d jobs n o x)
    refused_told (Some a) = inr (a, refl)
    refused_told None = script_told ((jobs n).script x.committed)

    busy_told : (is_open : Bool) (runner : ℕ)
        → Told (unless_open Answer locked busy d jobs (if is_open then Some runner else None) (unless_refused Answer locked busy d jobs ((jobs n).refuses x.committed) (unless_called Answer locked busy d jobs ((jobs n).script x.committed) ((jobs n).answer x.committed))))
        (if is_open then answers_with Answer locked busy n (busy runner) x else begins Answer locked busy d jobs n ((jobs n).refuses x.committed) x)
    busy_told true runner = inr (busy runner, refl)
    busy_told false runner = refused_told ((jobs n).refuses x.committed)

    open_told : (o : Option Holds) → Told (unless_open Answer locked busy d jobs (open_by Answer locked busy d jobs o) (unless_refused Answer locked busy d jobs ((jobs n).refuses x.committed) (unless_called Answer locked busy d jobs ((jobs n).script x.committed) ((jobs n).answer x.committed))))
        (elim o as (λ _. Runs) [ None ↦ begins Answer locked busy d jobs n ((jobs n).refuses x.committed) x | Some h ↦ if h.session.is_open then answers_with Answer locked busy n (busy h.runner) x else begins Answer locked busy d jobs n ((jobs n).refuses x.committed) x ])
    open_told None = refused_told ((jobs n).refuses x.committed)
    open_told (Some h) = busy_told h.session.is_open h.runner

    waits_told : (waits : Bool) → Told
        (if waits then Some (locked x.committed.lock) else unless_open Answer locked busy d jobs (open_by Answer locked busy d jobs x.holder) (unless_refused Answer locked busy d jobs ((jobs n).refuses x.committed) (unless_called Answer locked busy d jobs ((jobs n).script x.committed) ((jobs n).answer x.committed))))
        (if waits then answers_with Answer locked busy n (locked x.committed.lock) x else elim x.holder as (λ _. Runs) [ None ↦ begins Answer locked busy d jobs n ((jobs n).refuses x.committed) x | Some h ↦ if h.session.is_open then answers_with Answer locked busy n (busy h.runner) x else begins Answer locked busy d jobs n ((jobs n).refuses x.committed) x ])
    waits_told true = inr (locked x.committed.lock, refl)
    waits_told false = open_told x.holder

    first_told : Told (at_once Answer locked busy d jobs n x) (first_step Answer locked busy d jobs n x)
    first_told = waits_told ((jobs n).needs_lock && x.committed.lock.locked)

    -- one that makes a call though the lock is held does not need it
    needs_none : at_once Answer locked busy d jobs n x ≡ None → x.committed.lock.locked ≡ true → (jobs n).needs_lock ≡ false
    needs_none none is_locked = left_false (jobs n).needs_lock x.committed.lock.locked (by ((jobs n).needs_lock && x.committed.lock.locked) none) is_locked where
      by : (waits : Bool)
          → (if waits then Some (locked x.committed.lock) else unless_open Answer locked busy d jobs (open_by Answer locked busy d jobs x.holder) (unless_refused Answer locked busy d jobs ((jobs n).refuses x.committed) (unless_called Answer locked busy d jobs ((jobs n).script x.committed) ((jobs n).answer x.committed)))) ≡ None
          → waits ≡ false
      by true not_so = cc
      by false not_so = refl

  early_is : (gone there : Bool) (at : Option Answer) (o : Option Holds) (h : Holds) → gone ≡ false → there ≡ false → at ≡ None → o ≡ Some h → ((not gone && (not there && is_none at)) && is_some o) ≡ true
  early_is true there at o h silent fresh none held = cc
  early_is false true at o h silent fresh none held = cc
  early_is false false (Some a) o h silent fresh none held = cc
  early_is false false None None h silent fresh none held = cc
  early_is false false None (Some k) h silent fresh none held = refl

  -- a step while one that met a fault has the lock

  module _ (entries : List (List Deed)) (n : ℕ) (x : Runs) (g : GaveUp entries x) (sound : IsSound Answer locked busy d jobs x) where
    told_stays : (a : Answer) → GaveUp entries (answers_with Answer locked busy n a x)
    told_stays a = record { holder = g.holder; held = g.held; why = g.why; answer = g.answer; rest = g.rest; is_locked = g.is_locked; same = g.same }

    own_call : Left entries (makes Answer locked busy d jobs n g.holder.session g.holder.rest g.holder.answer x)
    own_call = elim g.rest [
      | inl is ↦ subst (λ calls. Left entries (makes Answer locked busy d jobs n g.holder.session calls g.holder.answer x)) (sym is.1) (aborts is.0 is.2)
      | inr is ↦ subst (λ calls. Left entries (makes Answer locked busy d jobs n g.holder.session calls g.holder.answer x)) (sym is.0) (inr (record {
        number = n;
        why = g.why;
        answered = ap (λ b. if b then Some g.holder.answer else answer_of n x.answers) (own_number n) ∙ ap (λ a. Some a) g.answer;
        tail = freed;
        once = inr refl;
        with_tail = ap (λ e. e ++ appended d closing g.holder.session) g.same ∙ ap (λ e. entries ++ e) (closing_frees d g.holder.session is.1);
      }))
    ] where
      aborts : (freeing : List Call) → (freeing ≡ []) ⊎ (freeing ≡ closing ∷ []) → Left entries (makes Answer locked busy d jobs n g.holder.session (Abort ∷ freeing) g.holder.answer x)
      aborts freeing (inl none) = subst (λ calls. Left entries (makes Answer locked busy d jobs n g.holder.session (Abort ∷ calls) g.holder.answer x)) (sym none) (inr (record {
        number = n;
        why = g.why;
        answered = ap (λ b. if b then Some g.holder.answer else answer_of n x.answers) (own_number n) ∙ ap (λ a. Some a) g.answer;
        tail = [];
        once = inl refl;
        with_tail = ap (λ e. e ++ []) g.same;
      }))
      aborts freeing (inr one) = subst (λ calls. Left entries (makes Answer locked busy d jobs n g.holder.session (Abort ∷ calls) g.holder.answer x)) (sym one) (inl (record {
        holder = record { runner = n; session = called d Abort g.holder.session; rest = closing ∷ []; answer = g.holder.answer };
        held = refl;
        why = g.why;
        answer = g.answer;
        rest = inr (refl, refl);
        is_locked = ap (λ (e : Database). e.lock.locked) (sound_of Answer locked busy d jobs x g.holder g.held sound).0 ∙ g.is_locked;
        same = append-nil x.entries ∙ g.same;
      }))

    later_left : Left entries (later_step Answer locked busy d jobs n x)
    later_left = subst (λ o. Left entries (elim o as (λ _. Runs) [ None ↦ answers_with Answer locked busy n (locked x.committed.lock) x | Some h ↦ if nat_eq h.runner n then makes Answer locked busy d jobs n h.session h.rest h.answer x else answers_with Answer locked busy n (locked x.committed.lock) x ])) (sym g.held)
        (by (nat_eq g.holder.runner n)) where
          by : (own : Bool) → Left entries (if own then makes Answer locked busy d jobs n g.holder.session g.holder.rest g.holder.answer x else answers_with Answer locked busy n (locked x.committed.lock) x)
          by true = own_call
          by false = inl (told_stays (locked x.committed.lock))

    -- of one that has begun
    begun_left : has_begun Answer locked busy n x ≡ true → Left entries (moved Answer locked busy d jobs n x)
    begun_left begun = by (has_answered Answer locked busy n x) (has_begun Answer locked busy n x) begun where
      by : (gone there : Bool) → there ≡ true → Left entries (if gone then x else if there then later_step Answer locked busy d jobs n x else first_step Answer locked busy d jobs n x)
      by true there is = inl g
      by false true is = later_left
      by false false is = cc

    abbrev Begins : Type 0
    Begins = (is_early Answer locked busy d jobs n x ≡ true) × ((jobs n).needs_lock ≡ false)

    -- of any
    moved_left : Begins ⊎ Left entries (moved Answer locked busy d jobs n x)
    moved_left = by (has_answered Answer locked busy n x) (has_begun Answer locked busy n x) refl refl where
      by : (gone there : Bool) → has_answered Answer locked busy n x ≡ gone → has_begun Answer locked busy n x ≡ there → Begins ⊎ Left entries (if gone then x else if there then later_step Answer locked busy d jobs n x else first_step Answer locked busy d jobs n x)
      by true there silent fresh = inr (inl g)
      by false true silent fresh = inr later_left
      by false false silent fresh = elim (first_told n x) [
        | inl none ↦ inl (early_is (has_answered Answer locked busy n x) (has_begun Answer locked busy n x) (at_once Answer locked busy d jobs n x) x.holder g.holder silent fresh none g.held, needs_none n x none g.is_locked)
        | inr told ↦ inr (inl (subst (GaveUp entries) (sym told.1) (told_stays told.0)))
      ]

  -- a step in which the holder meets a fault
  fell : (entries : List (List Deed)) (n : ℕ) (x z : Runs) → x.entries ≡ entries → IsSound Answer locked busy d jobs x → Falls failed d jobs n x z → Left entries z
  fell entries n x z same sound falls = by (last_calls falls.holder.session) refl falls.is where
    it : (x.holder ≡ Some falls.holder) × (falls.holder.runner ≡ n)
    it = held_is Answer locked busy n x.holder falls.holder falls.held

    begun : list_any (nat_eq n) x.begun ≡ true
    begun = subst (λ k. list_any (nat_eq k) x.begun ≡ true) it.1 (sound_of Answer locked busy d jobs x falls.holder it.0 sound).1

    by : (calls : List Call) → last_calls falls.holder.session ≡ calls → (z ≡ left_with failed calls falls.why falls.holder x) ⊎ (z ≡ moved Answer locked busy d jobs n (left_with failed calls falls.why falls.holder x)) → Left entries z
    by [] none is = inr (elim is [
      | inl same_as ↦ subst (HasEnded entries) (sym same_as) ended
      | inr same_as ↦ subst (HasEnded entries) (sym (same_as ∙ stays Answer locked busy d jobs n (left_with failed [] falls.why falls.holder x) gone)) ended
    ]) where
      its : answer_of n ((falls.holder.runner, failed falls.why) ∷ x.answers) ≡ Some (failed falls.why)
      its = ap (λ k. answer_of n ((k, failed falls.why) ∷ x.answers)) it.1 ∙ ap (λ b. if b then Some (failed falls.why) else answer_of n x.answers) (own_number n)

      gone : is_some (answer_of n ((falls.holder.runner, failed falls.why) ∷ x.answers)) ≡ true
      gone = ap is_some its

      ended : HasEnded entries (left_with failed [] falls.why falls.holder x)
      ended = record { number = n; why = falls.why; answered = its; tail = []; once = inl refl; with_tail = same ∙ sym (append-nil entries) }
    by (call ∷ calls) some is = elim is [
      | inl same_as ↦ subst (Left entries) (sym same_as) (inl given)
      | inr same_as ↦ subst (Left entries) (sym same_as) (begun_left entries n (left_with failed (call ∷ calls) falls.why falls.holder x) given (sound_of Answer locked busy d jobs x falls.holder it.0 sound) begun)
    ] where
      given : GaveUp entries (left_with failed (call ∷ calls) falls.why falls.holder x)
      given = record {
        holder = record (falls.holder) { rest = call ∷ calls; answer = failed falls.why };
        held = refl;
        why = falls.why;
        answer = refl;
        rest = calls_left falls.holder.session falls.rests call calls some;
        is_locked = falls.locked;
        same = same;
      }

  -- from the start

  module _ (database : Database) (met : ℕ → Type 0) where
    abbrev at : List ℕ → Runs
    at ns = all_moved Answer locked busy d jobs ns (start Answer locked busy database)

    abbrev Came : List ℕ → Runs → Type 0
    Came ns x = Comes failed d jobs met ns (start Answer locked busy database) x

    abbrev Once : List ℕ → Runs → Type 0
    Once ns z = FreesEarly failed d jobs met ns (start Answer locked busy database) z ⊎ FreesAtMostOnce failed d jobs ns (start Answer locked busy database) z

    -- no runner met a fault, or the first that did still has the lock, or has freed it
    abbrev Way : List ℕ → Runs → Type 0
    Way ns x = (x ≡ at ns) ⊎ ((front : List ℕ) × (rest : List ℕ) × (ns ≡ front ++ rest) × Left (at front).entries x)

    way_end : (ns : List ℕ) (x : Runs) → Way ns x → Once ns x
    way_end ns x (inl is) = inr (record { front = ns; rest = []; is = sym (append-nil ns); tail = []; once = inl refl; entries = ap (λ (y : Runs). y.entries) is ∙ sym (append-nil (at ns).entries) })
    way_end ns x (inr way) = elim way.3 [
      | inl g ↦ inr (record { front = way.0; rest = way.1; is = way.2; tail = []; once = inl refl; entries = g.same ∙ sym (append-nil (at way.0).entries) })
      | inr e ↦ inr (record { front = way.0; rest = way.1; is = way.2; tail = e.tail; once = e.once; entries = e.with_tail })
    ]

    longer : (ns : List ℕ) (n : ℕ) (front rest : List ℕ) → ns ≡ front ++ rest → ns ++ n ∷ [] ≡ front ++ (rest ++ n ∷ [])
    longer ns n front rest is = ap (λ l. l ++ n ∷ []) is ∙ append_assoc front rest (n ∷ [])

    way_on : (ns : List ℕ) (n : ℕ) (ks : List ℕ) (x y z : Runs) → Came ns x → IsSound Answer locked busy d jobs x → IsGoing failed x → Steps failed d jobs (met n) n x y → Comes failed d jobs met ks y z → Way ns x → Once (ns ++ n ∷ ks) z ⊎ Way (ns ++ n ∷ []) y
    way_on ns n ks x y z came sound going (inl is) goes (inl here) = inr (inl (is ∙ ap (moved Answer locked busy d jobs n) here ∙ sym (moved_last Answer locked busy d jobs ns n (start Answer locked busy database))))
    way_on ns n ks x y z came sound going (inr falls) goes (inl here) = inr (inr (ns, n ∷ [], refl, fell (at ns).entries n x y (ap (λ (w : Runs). w.entries) here) sound falls.1))
    way_on ns n ks x y z came sound going step goes (inr way) = by step way.3 where
      by : Steps failed d jobs (met n) n x y → Left (at way.0).entries x → Once (ns ++ n ∷ ks) z ⊎ Way (ns ++ n ∷ []) y
      by steps (inr e) = absurd (going e.number e.why e.answered)
      by (inr falls) (inl g) = inr (inr (way.0, way.1 ++ n ∷ [], longer ns n way.0 way.1 way.2, fell (at way.0).entries n x y g.same sound falls.1))
      by (inl is) (inl g) = elim (moved_left (at way.0).entries n x g sound) [
        | inl begins ↦ inl (inl (record {
          before = ns;
          next = n;
          later = ks;
          is = refl;
          now = x;
          came = came;
          holder = g.holder;
          held = g.held;
          gave_up = (g.why, g.answer);
          early = begins.0;
          unlocked = begins.1;
          goes_on = (going, (y, inl is, goes));
        }))
        | inr left ↦ inr (inr (way.0, way.1 ++ n ∷ [], longer ns n way.0 way.1 way.2, subst (Left (at way.0).entries) (sym is) left))
      ]

    all_ways : (ns ks : List ℕ) (x z : Runs) → Came ns x → IsSound Answer locked busy d jobs x → Way ns x → Comes failed d jobs met ks x z → Once (ns ++ ks) z
    all_ways ns [] x z came sound way goes = subst (λ l. Once l z) (sym (append-nil ns)) (subst (Once ns) goes (way_end ns x way))
    all_ways ns (n ∷ ks) x z came sound way goes = elim (way_on ns n ks x goes.1.0 z came sound goes.0 goes.1.1 goes.1.2 way) [
      | inl once ↦ once
      | inr next ↦ subst (λ l. Once l z) (append_assoc ns (n ∷ []) ks)
          (all_ways (ns ++ n ∷ []) ks goes.1.0 z (comes_more Answer locked busy failed d jobs met ns n (start Answer locked busy database) x goes.1.0 came goes.0 goes.1.1) (steps_sound Answer locked busy d jobs failed (met n) n x goes.1.0 goes.1.1 sound) next goes.1.2)
    ]

    pub frees_once : (ns : List ℕ) (z : Runs) → Came ns z → Once ns z
    frees_once ns z came = all_ways [] ns (start Answer locked busy database) z refl tt (inl refl) came
