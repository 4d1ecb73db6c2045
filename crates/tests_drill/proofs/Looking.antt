-- A look is a step of the machine.
use Rattle.std.proofs.Common.{ap, arith, inl, subst, sym, ◌∙◌}
use Rattle.std.proofs.lemmas.Bool.Decides.{nat_tests}
use Rattle.std.proofs.lemmas.List.{append-nil}
use Rattle.std.specs.Option.{option_map}
use Rattle.std.specs.Prelude.{Bool, List, None, Ok, Option, Some, [], cond, false, if◌then◌else◌, is_some, nat_eq, refl, true, ℕ, ◌&&◌, ◌++◌, ◌≡◌}
use Rattle.lq_base.specs.declared.dialect.Dialect.{Dialect}
use Rattle.lq_base.specs.declared.tracking.Lock.{Lock}
use Rattle.lq_drill.proofs.Machines.{answered_is}
use Rattle.lq_drill.specs.Player.{Moves, answer_of}
use Rattle.lq_drill.specs.Faults.{IsHolders, LetsBe}
use Rattle.lq_store.specs.Journal.{Entry, State, Transaction, is_open, other, other_in}
use Rattle.lq_turns.specs.Schedule.{Holder, Job, Machine, answers_with, begins, first_step, has_begun, later_step, makes, moved}
use Rattle.lq_turns.specs.Session.{session_on}
use Rattle.tests_drill.specs.Looks.{looked, looks, stands}
use Rattle.tests_drill.specs.declared.looker.Looked.{Looked}
use Rattle.tests_drill.specs.declared.looker.Looked.TheVariants.{Alone, Busy, Failed, Locked}
use Rattle.tests_drill.specs.declared.looker.Looker.{Looker}
use Rattle.lq_drill.specs.declared.fault.DrillFault.{DrillFault}

abbrev as_locked : Lock → Looked
as_locked lock = Locked

abbrev as_busy : ℕ → Looked
as_busy number = Busy number

abbrev Runs : Type 0
Runs = Machine Looked (λ lock. Locked) (λ number. Busy number)

abbrev Held : Type 0
Held = Holder Looked (λ lock. Locked) (λ number. Busy number)

abbrev told : ℕ → Looked → Runs → Runs
told n a x = answers_with Looked (λ lock. Locked) (λ number. Busy number) n a x

nothing_more : (entries : Option (List Entry)) → entries ≡ option_map (λ e. e ++ []) entries
nothing_more None = refl
nothing_more (Some e) = ap (λ l. Some l) (sym (append-nil e))

-- the store stays as it was
pub lets_be : (session : ℕ) (x : State) → LetsBe session x x
lets_be session x = record { grows = record { dialect = refl; limit = refl; more = []; entries = nothing_more x.entries }; others = λ live other apart. refl }

pub no_fault : (o : Option ℕ) (why : DrillFault) → Some (looked o) ≡ Some (Failed why) → ⊥
no_fault None why is = cc
no_fault (Some n) why is = cc

pub no_fault_met : {A : Type 0} → (let no_fault : Bool = false in no_fault) ≡ true → A
no_fault_met met = cc

own_number : (n : ℕ) → nat_eq n n ≡ true
own_number n = grind (arith, nat_tests)

module _ (d : Dialect) (n : ℕ) (jobs : ℕ → Job Looked (λ lock. Locked) (λ number. Busy number)) (x : Runs) (its : jobs n ≡ looks) where
  abbrev began : Runs
  began = begins Looked (λ lock. Locked) (λ number. Busy number) d jobs n ((jobs n).refuses x.committed) x

  begun_is : began ≡ told n Alone x
  begun_is = subst (λ o. begins Looked (λ lock. Locked) (λ number. Busy number) d jobs n o x ≡ told n Alone x) (sym (ap (λ j. j.refuses x.committed) its))
      (subst (λ calls. makes Looked (λ lock. Locked) (λ number. Busy number) d jobs n (session_on x.committed) calls ((jobs n).answer x.committed) x ≡ told n Alone x) (sym (ap (λ j. j.script x.committed) its)) (ap (λ j. told n (j.answer x.committed) x) its))

  abbrev goes : Option Held → Runs
  goes o = elim o as (λ _. Runs) [ None ↦ began | Some h ↦ if h.session.is_open then told n (Busy h.runner) x else began ]

  -- what the store shows of the holder
  by_holder : (o : Option Held) (t : Option Transaction) → is_open n t ≡ false → IsHolders d x.committed o t → goes o ≡ told n (looked (other_in n t)) x
  by_holder None t shut is = begun_is ∙ ap (λ s. told n (looked (other_in n s)) x) (sym is)
  by_holder (Some h) None shut is = ap (λ b. if b then told n (Busy h.runner) x else began) is.1.0 ∙ begun_is
  by_holder (Some h) (Some t) shut is = ap (λ b. if b then told n (Busy h.runner) x else began) is.1.0 ∙ ap (λ k. told n (Busy k) x) (sym is.1.1) ∙ ap (λ b. told n (looked (cond b None (Some t.session))) x) (sym shut)

  first_is : (t : Option Transaction) → is_open n t ≡ false → IsHolders d x.committed x.holder t → first_step Looked (λ lock. Locked) (λ number. Busy number) d jobs n x ≡ told n (looked (other_in n t)) x
  first_is t shut is = ap (λ b. if b && x.committed.lock.locked then told n Locked x else goes x.holder) (ap (λ j. j.needs_lock) its) ∙ by_holder x.holder t shut is

  moved_is : (t : Option Transaction) → is_open n t ≡ false → IsHolders d x.committed x.holder t → answer_of n x.answers ≡ None → has_begun Looked (λ lock. Locked) (λ number. Busy number) n x ≡ false
      → moved Looked (λ lock. Locked) (λ number. Busy number) d jobs n x ≡ told n (looked (other_in n t)) x
  moved_is t shut is none fresh =
      ap (λ b. if b then x else if has_begun Looked (λ lock. Locked) (λ number. Busy number) n x then later_step Looked (λ lock. Locked) (λ number. Busy number) d jobs n x else first_step Looked (λ lock. Locked) (λ number. Busy number) d jobs n x)
      (answered_is Looked (λ lock. Locked) (λ number. Busy number) n x.answers ∙ ap is_some none)
      ∙ ap (λ b. if b then later_step Looked (λ lock. Locked) (λ number. Busy number) d jobs n x else first_step Looked (λ lock. Locked) (λ number. Busy number) d jobs n x) fresh
      ∙ first_is t shut is

pub moves : (n : ℕ) (before after : Looker) (w : State) → before.answer ≡ None → after.answer ≡ Some (looked (other n w)) → is_open n w.begun ≡ false → Moves (λ why. Failed why) n (stands before) (stands after) w (Ok tt) w
moves n before after w none answers shut jobs origin x dialect shows plays =
    let a = looked (other n w) in
    let same : moved Looked (λ lock. Locked) (λ number. Busy number) origin.dialect jobs n x ≡ told n a x = moved_is origin.dialect n jobs x (plays.waits none refl) w.begun shut shows.begun (plays.answer ∙ none) (plays.begun none) in (
      (
        told n a x,
        inl (sym same),
        record {
          shows = record { dialect = shows.dialect; limit = shows.limit; live = shows.live; committed = shows.committed; begun = shows.begun; entries = shows.entries; used = shows.used; room = shows.room };
          plays = record {
            answer = ap (λ b. if b then Some a else answer_of n x.answers) (own_number n) ∙ sym answers;
            begun = λ unanswered. absurd (never a (sym answers ∙ unanswered));
            waits = λ unanswered. absurd (never a (sym answers ∙ unanswered));
            goes_on = λ unanswered. absurd (never a (sym answers ∙ unanswered));
          };
          lock = inl (refl, refl);
        },
      ),
      λ why owes. absurd owes,
    ) where
      never : (a : Looked) → Some a ≡ None → ⊥
      never a is = cc
