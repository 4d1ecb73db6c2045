-- A runner's step in the machine.
use Rattle.std.proofs.Common.{ap, arith, inl, inr, subst, sym, ◌∙◌}
use Rattle.std.proofs.lemmas.Bool.Decides.{nat_tests}
use Rattle.std.proofs.lemmas.List.{append-nil}
use Rattle.std.specs.Prelude.{Bool, List, None, Option, Some, [], cond, false, if◌then◌else◌, is_none, is_some, nat_eq, not, refl, true, ℕ, ◌==◌, ◌&&◌, ◌++◌, ◌∷◌, ◌≡◌, ◌≢◌}
use Rattle.lq_base.specs.declared.dialect.Dialect.{Dialect}
use Rattle.lq_drill.proofs.Machines.{answered_is}
use Rattle.lq_drill.specs.Player.{answer_of, held_by}
use Rattle.lq_drill.specs.Faults.{IsHolders, IsOpenAs}
use Rattle.lq_playing.specs.Answers.{as_busy, as_locked}
use Rattle.lq_playing.specs.Checked.{AnswersAtOnce, IsLetIn, Work, AnswersFirst}
use Rattle.lq_playing.specs.declared.came.Came.{Came}
use Rattle.lq_store.specs.Journal.{Transaction, is_open, other_in}
use Rattle.lq_track.specs.Database.{Database}
use Rattle.lq_turns.specs.Schedule.{Holder, Machine, after_call, answers_with, appended, begins, first_step, has_answered, has_begun, later_step, makes, moved}
use Rattle.lq_turns.specs.Serial.{at_once, makes_first, open_by, unless_called, unless_open, unless_refused}
use Rattle.lq_turns.specs.Session.{Session, called, session_on}
use Rattle.lq_turns.specs.declared.call.Call.{Call}
use Rattle.lq_turns.specs.declared.deed.Deed.{Deed}

abbrev pub Runs : Type 0
Runs = Machine Came as_locked as_busy

abbrev pub Held : Type 0
Held = Holder Came as_locked as_busy

pub own_number : (n : ℕ) → nat_eq n n ≡ true
own_number n = grind (arith, nat_tests)

pub its_number : (n : ℕ) → (n == n) ≡ true
its_number n = grind (arith, nat_tests)

same_number : (a b : ℕ) → nat_eq a b ≡ true → a ≡ b
same_number a b is = grind (arith, nat_tests, is)

pub own_open : (a b n : ℕ) → a ≡ b → (a == n) ≡ true → nat_eq b n ≡ true
own_open a b n same is = grind (arith, nat_tests, same, is)

not_true : false ≡ true → ⊥
not_true h = Prim.cc

some_none : {A : Type 0} (a : A) → Some a ≡ None → ⊥
some_none a h = Prim.cc

none_some : {A : Type 0} (a : A) → None ≡ Some a → ⊥
none_some a h = Prim.cc

pub some_is : {A : Type 0} {a b : A} → Some a ≡ Some b → a ≡ b
some_is h = Prim.cc

-- the runner's own holder is the machine's
pub holder_is : (n : ℕ) (o : Option Held) (h : Held) → held_by n o ≡ Some h → (o ≡ Some h) × (h.runner ≡ n)
holder_is n None h is = absurd (none_some h is)
holder_is n (Some k) h is = by (nat_eq k.runner n) refl is where
  by : (b : Bool) → nat_eq k.runner n ≡ b → (if b then Some k else None) ≡ Some h → (Some k ≡ Some h) × (h.runner ≡ n)
  by true its is = (is, subst (λ (j : Held). j.runner ≡ n) (some_is is) (same_number k.runner n its))
  by false its is = absurd (none_some h is)

-- after a call that was not the last
pub held_after : (n : ℕ) (s : Session) (calls : List Call) (a : Came) (y : Runs) → calls ≢ []
    → after_call Came as_locked as_busy n s calls a y ≡ record y { committed = s.committed; holder = Some (record { runner = n; session = s; rest = calls; answer = a }); begun = n ∷ y.begun }
held_after n s [] a y some = absurd (some refl)
held_after n s (call ∷ calls) a y some = refl

module _ (d : Dialect) (jobs : ℕ → Work) (n : ℕ) (x : Runs) where
  abbrev pub told : Came → Runs
  told a = answers_with Came as_locked as_busy n a x

  pub is_first : answer_of n x.answers ≡ None → has_begun Came as_locked as_busy n x ≡ false → moved Came as_locked as_busy d jobs n x ≡ first_step Came as_locked as_busy d jobs n x
  is_first none fresh =
      ap (λ b. if b then x else if has_begun Came as_locked as_busy n x then later_step Came as_locked as_busy d jobs n x else first_step Came as_locked as_busy d jobs n x) (answered_is Came as_locked as_busy n x.answers ∙ ap is_some none)
      ∙ ap (λ b. if b then later_step Came as_locked as_busy d jobs n x else first_step Came as_locked as_busy d jobs n x) fresh

  pub is_later : answer_of n x.answers ≡ None → has_begun Came as_locked as_busy n x ≡ true → moved Came as_locked as_busy d jobs n x ≡ later_step Came as_locked as_busy d jobs n x
  is_later none begun =
      ap (λ b. if b then x else if has_begun Came as_locked as_busy n x then later_step Came as_locked as_busy d jobs n x else first_step Came as_locked as_busy d jobs n x) (answered_is Came as_locked as_busy n x.answers ∙ ap is_some none)
      ∙ ap (λ b. if b then later_step Came as_locked as_busy d jobs n x else first_step Came as_locked as_busy d jobs n x) begun

  -- the first step

  abbrev began : Runs
  began = begins Came as_locked as_busy d jobs n ((jobs n).refuses x.committed) x

  abbrev goes : Option Held → Runs
  goes o = elim o as (λ _. Runs) [ None ↦ began | Some h ↦ if h.session.is_open then told (as_busy h.runner) else began ]

  abbrev by_other : Option ℕ → Runs
  by_other None = began
  by_other (Some k) = told (as_busy k)

  -- by what the store shows of the holder
  by_holder : (o : Option Held) (t : Option Transaction) → is_open n t ≡ false → IsHolders d x.committed o t → goes o ≡ by_other (other_in n t)
  by_holder None t shut is = sym (ap (λ s. by_other (other_in n s)) is)
  by_holder (Some h) None shut is = ap (λ b. if b then told (as_busy h.runner) else began) is.1.0
  by_holder (Some h) (Some t) shut is = ap (λ b. if b then told (as_busy h.runner) else began) is.1.0 ∙ ap (λ k. told (as_busy k)) (sym is.1.1) ∙ ap (λ b. by_other (cond b None (Some t.session))) (sym shut)

  module _ (t : Option Transaction) (shut : is_open n t ≡ false) (holders : IsHolders d x.committed x.holder t) where
    first_out : ((jobs n).needs_lock && x.committed.lock.locked) ≡ true → first_step Came as_locked as_busy d jobs n x ≡ told (as_locked x.committed.lock)
    first_out is = ap (λ b. if b then told (as_locked x.committed.lock) else goes x.holder) is

    first_in : IsLetIn (jobs n) x.committed → first_step Came as_locked as_busy d jobs n x ≡ by_other (other_in n t)
    first_in is = ap (λ b. if b then told (as_locked x.committed.lock) else goes x.holder) is ∙ by_holder x.holder t shut holders

    begins_told : (a : Came) → AnswersAtOnce (jobs n) a x.committed → began ≡ told a
    begins_told a (inl refuses) = ap (λ o. begins Came as_locked as_busy d jobs n o x) refuses
    begins_told a (inr none) =
        ap (λ o. begins Came as_locked as_busy d jobs n o x) none.passes ∙ ap (λ calls. makes Came as_locked as_busy d jobs n (session_on x.committed) calls ((jobs n).answer x.committed) x) none.script_is
        ∙ ap (λ b. told b) none.answer_is

    -- an answer at once
    pub first_told : (a : Came) → AnswersFirst ((jobs n).needs_lock && x.committed.lock.locked) (other_in n t) (jobs n) a x.committed → first_step Came as_locked as_busy d jobs n x ≡ told a
    first_told a it = by ((jobs n).needs_lock && x.committed.lock.locked) refl (other_in n t) refl it where
      by : (b : Bool) → ((jobs n).needs_lock && x.committed.lock.locked) ≡ b → (o : Option ℕ) → other_in n t ≡ o → AnswersFirst b o (jobs n) a x.committed → first_step Came as_locked as_busy d jobs n x ≡ told a
      by true is o other it = first_out is ∙ ap (λ b. told b) (sym it)
      by false is (Some k) other it = first_in is ∙ ap by_other other ∙ ap (λ b. told b) (sym it)
      by false is None other it = first_in is ∙ ap by_other other ∙ begins_told a it

    -- or a first call
    pub first_calls : (call : Call) (rest : List Call) (a : Came) → IsLetIn (jobs n) x.committed → other_in n t ≡ None → (jobs n).refuses x.committed ≡ None → (jobs n).script x.committed ≡ call ∷ rest → (jobs n).answer x.committed ≡ a
        → first_step Came as_locked as_busy d jobs n x ≡ after_call Came as_locked as_busy n (called d call (session_on x.committed)) rest a (record x { entries = x.entries ++ appended d call (session_on x.committed) })
    first_calls call rest a is other passes script_is answer_is =
        first_in is ∙ ap by_other other ∙ ap (λ o. begins Came as_locked as_busy d jobs n o x) passes ∙ ap (λ calls. makes Came as_locked as_busy d jobs n (session_on x.committed) calls ((jobs n).answer x.committed) x) script_is
        ∙ ap (λ b. makes Came as_locked as_busy d jobs n (session_on x.committed) (call ∷ rest) b x) answer_is

    -- which it makes at its first step
    open_none : (o : Option Held) (t : Option Transaction) → is_open n t ≡ false → IsHolders d x.committed o t → other_in n t ≡ None → open_by Came as_locked as_busy d jobs o ≡ None
    open_none None t shut is other = refl
    open_none (Some h) None shut is other = ap (λ b. if b then Some h.runner else None) is.1.0
    open_none (Some h) (Some t) shut is other = absurd (some_none t.session (sym (ap (λ b. cond b None (Some t.session)) shut) ∙ other))

    module _ (call : Call) (rest : List Call) (is : IsLetIn (jobs n) x.committed) (other : other_in n t ≡ None) (passes : (jobs n).refuses x.committed ≡ None) (script_is : (jobs n).script x.committed ≡ call ∷ rest) where
      not_at_once : at_once Came as_locked as_busy d jobs n x ≡ None
      not_at_once =
          ap (λ b. if b then Some (as_locked x.committed.lock) else unless_open Came as_locked as_busy d jobs (open_by Came as_locked as_busy d jobs x.holder)
          (unless_refused Came as_locked as_busy d jobs ((jobs n).refuses x.committed) (unless_called Came as_locked as_busy d jobs ((jobs n).script x.committed) ((jobs n).answer x.committed)))) is
          ∙ ap (λ o. unless_open Came as_locked as_busy d jobs o (unless_refused Came as_locked as_busy d jobs ((jobs n).refuses x.committed) (unless_called Came as_locked as_busy d jobs ((jobs n).script x.committed) ((jobs n).answer x.committed))))
          (open_none x.holder t shut holders other)
          ∙ ap (λ r. unless_refused Came as_locked as_busy d jobs r (unless_called Came as_locked as_busy d jobs ((jobs n).script x.committed) ((jobs n).answer x.committed))) passes
          ∙ ap (λ calls. unless_called Came as_locked as_busy d jobs calls ((jobs n).answer x.committed)) script_is

      pub makes_its_first : answer_of n x.answers ≡ None → has_begun Came as_locked as_busy n x ≡ false → makes_first Came as_locked as_busy d jobs n x ≡ true
      makes_its_first none fresh =
          ap (λ b. not b && (not (has_begun Came as_locked as_busy n x) && is_none (at_once Came as_locked as_busy d jobs n x))) (answered_is Came as_locked as_busy n x.answers ∙ ap is_some none)
          ∙ ap (λ b. not b && is_none (at_once Came as_locked as_busy d jobs n x)) fresh ∙ ap is_none not_at_once

  -- a later step

  abbrev goes_later : Option Held → Runs
  goes_later o = elim o as (λ _. Runs) [ None ↦ told (as_locked x.committed.lock) | Some h ↦ if nat_eq h.runner n then makes Came as_locked as_busy d jobs n h.session h.rest h.answer x else told (as_locked x.committed.lock) ]

  lost_by : (o : Option Held) → held_by n o ≡ None → goes_later o ≡ told (as_locked x.committed.lock)
  lost_by None none = refl
  lost_by (Some h) none = by (nat_eq h.runner n) none where
    by : (b : Bool) → (if b then Some h else None) ≡ None → (if b then makes Came as_locked as_busy d jobs n h.session h.rest h.answer x else told (as_locked x.committed.lock)) ≡ told (as_locked x.committed.lock)
    by true none = absurd (some_none h none)
    by false none = refl

  pub later_lost : held_by n x.holder ≡ None → later_step Came as_locked as_busy d jobs n x ≡ told (as_locked x.committed.lock)
  later_lost none = lost_by x.holder none

  makes_by : (o : Option Held) (h : Held) → held_by n o ≡ Some h → goes_later o ≡ makes Came as_locked as_busy d jobs n h.session h.rest h.answer x
  makes_by None h is = absurd (none_some h is)
  makes_by (Some k) h is = by (nat_eq k.runner n) is where
    by : (b : Bool) → (if b then Some k else None) ≡ Some h → (if b then makes Came as_locked as_busy d jobs n k.session k.rest k.answer x else told (as_locked x.committed.lock)) ≡ makes Came as_locked as_busy d jobs n h.session h.rest h.answer x
    by true is = ap (λ (j : Held). makes Came as_locked as_busy d jobs n j.session j.rest j.answer x) (some_is is)
    by false is = absurd (none_some h is)

  pub later_makes : (h : Held) (call : Call) (rest : List Call) → held_by n x.holder ≡ Some h → h.rest ≡ call ∷ rest
      → later_step Came as_locked as_busy d jobs n x ≡ after_call Came as_locked as_busy n (called d call h.session) rest h.answer (record x { entries = x.entries ++ appended d call h.session })
  later_makes h call rest is next = makes_by x.holder h is ∙ ap (λ calls. makes Came as_locked as_busy d jobs n h.session calls h.answer x) next

-- who has a transaction open

pub not_other : (d : Dialect) (n k : ℕ) (s : Session) (t : Option Transaction) → IsOpenAs d n s t → other_in n t ≡ Some k → ⊥
not_other d n k s None is other = none_some k other
not_other d n k s (Some t) is other = none_some k (sym (ap (λ b. cond b None (Some t.session)) (own_it t.session is.1)) ∙ other) where
  own_it : (a : ℕ) → a ≡ n → (a == n) ≡ true
  own_it a same = grind (arith, nat_tests, same)

-- where it is not the holder it has none open
pub not_open : (d : Dialect) (n : ℕ) (committed : Database) (o : Option Held) (t : Option Transaction) → held_by n o ≡ None → IsHolders d committed o t → is_open n t ≡ true → ⊥
not_open d n committed None t none is opened = not_true (sym (ap (is_open n) is) ∙ opened)
not_open d n committed (Some h) None none is opened = not_true opened
not_open d n committed (Some h) (Some t) none is opened = some_none h (sym (ap (λ b. if b then Some h else None) (own_open t.session h.runner n is.1.1 opened)) ∙ none)

-- a call of the lock's holder

-- how its runner stands then is no matter to the entries
entries_after : (n : ℕ) (s : Session) (calls : List Call) (a : Came) (y : Runs) → (after_call Came as_locked as_busy n s calls a y).entries ≡ y.entries
entries_after n s [] a y = refl
entries_after n s (call ∷ calls) a y = refl

-- the runner holds the lock, and this is its next call
pub record IsToCall (n : ℕ) (x : Runs) (h : Held) (call : Call) (calls : List Call) : Type 0 where
  pub unanswered : answer_of n x.answers ≡ None
  pub begun : has_begun Came as_locked as_busy n x ≡ true
  pub held : held_by n x.holder ≡ Some h
  pub next : h.rest ≡ call ∷ calls

module _ (d : Dialect) (jobs : ℕ → Work) (n : ℕ) (x : Runs) (h : Held) (call : Call) (calls : List Call) (it : IsToCall n x h call calls) where
  pub next_called : moved Came as_locked as_busy d jobs n x ≡ after_call Came as_locked as_busy n (called d call h.session) calls h.answer (record x { entries = x.entries ++ appended d call h.session })
  next_called = is_later d jobs n x it.unanswered it.begun ∙ later_makes d jobs n x h call calls it.held it.next

  pub next_appended : (moved Came as_locked as_busy d jobs n x).entries ≡ x.entries ++ appended d call h.session
  next_appended = ap (λ (y : Runs). y.entries) next_called ∙ entries_after n (called d call h.session) calls h.answer (record x { entries = x.entries ++ appended d call h.session })

-- whatever step a runner takes, the entries that were there stay in front

pub record IsAdded (x y : Runs) : Type 0 where
  pub more : List (List Deed)
  pub is : y.entries ≡ x.entries ++ more

none_added : (x y : Runs) → y.entries ≡ x.entries → IsAdded x y
none_added x y same = record { more = []; is = same ∙ sym (append-nil x.entries) }

module _ (d : Dialect) (jobs : ℕ → Work) (n : ℕ) (x : Runs) where
  told_adds : (a : Came) → IsAdded x (answers_with Came as_locked as_busy n a x)
  told_adds a = none_added x (answers_with Came as_locked as_busy n a x) refl

  makes_adds : (s : Session) (calls : List Call) (a : Came) → IsAdded x (makes Came as_locked as_busy d jobs n s calls a x)
  makes_adds s [] a = told_adds a
  makes_adds s (call ∷ []) a = record { more = appended d call s; is = refl }
  makes_adds s (call ∷ next ∷ calls) a = record { more = appended d call s; is = refl }

  begins_adds : (o : Option Came) → IsAdded x (begins Came as_locked as_busy d jobs n o x)
  begins_adds (Some a) = told_adds a
  begins_adds None = makes_adds (session_on x.committed) ((jobs n).script x.committed) ((jobs n).answer x.committed)

  opens_adds : (opened : Bool) (a : Came) → IsAdded x (if opened then answers_with Came as_locked as_busy n a x else begins Came as_locked as_busy d jobs n ((jobs n).refuses x.committed) x)
  opens_adds true a = told_adds a
  opens_adds false a = begins_adds ((jobs n).refuses x.committed)

  first_adds : (waits : Bool) (o : Option Held)
      → IsAdded x (if waits then answers_with Came as_locked as_busy n (as_locked x.committed.lock) x else elim o as (λ _. Runs) [ None ↦ begins Came as_locked as_busy d jobs n ((jobs n).refuses x.committed) x | Some h ↦ if h.session.is_open then answers_with Came as_locked as_busy n (as_busy h.runner) x else begins Came as_locked as_busy d jobs n ((jobs n).refuses x.committed) x ])
  first_adds true o = told_adds (as_locked x.committed.lock)
  first_adds false None = begins_adds ((jobs n).refuses x.committed)
  first_adds false (Some h) = opens_adds h.session.is_open (as_busy h.runner)

  holds_adds : (own : Bool) (h : Held) → IsAdded x (if own then makes Came as_locked as_busy d jobs n h.session h.rest h.answer x else answers_with Came as_locked as_busy n (as_locked x.committed.lock) x)
  holds_adds true h = makes_adds h.session h.rest h.answer
  holds_adds false h = told_adds (as_locked x.committed.lock)

  later_adds : (o : Option Held)
      → IsAdded x (elim o as (λ _. Runs) [ None ↦ answers_with Came as_locked as_busy n (as_locked x.committed.lock) x | Some h ↦ if nat_eq h.runner n then makes Came as_locked as_busy d jobs n h.session h.rest h.answer x else answers_with Came as_locked as_busy n (as_locked x.committed.lock) x ])
  later_adds None = told_adds (as_locked x.committed.lock)
  later_adds (Some h) = holds_adds (nat_eq h.runner n) h

  goes_adds : (begun : Bool) → IsAdded x (if begun then later_step Came as_locked as_busy d jobs n x else first_step Came as_locked as_busy d jobs n x)
  goes_adds true = later_adds x.holder
  goes_adds false = first_adds ((jobs n).needs_lock && x.committed.lock.locked) x.holder

  moves_adds : (answered : Bool) → IsAdded x (if answered then x else if has_begun Came as_locked as_busy n x then later_step Came as_locked as_busy d jobs n x else first_step Came as_locked as_busy d jobs n x)
  moves_adds true = none_added x x refl
  moves_adds false = goes_adds (has_begun Came as_locked as_busy n x)

  pub moved_adds : IsAdded x (moved Came as_locked as_busy d jobs n x)
  moved_adds = moves_adds (has_answered Came as_locked as_busy n x)
