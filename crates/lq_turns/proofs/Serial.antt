-- Every schedule is serial.
use Rattle.std.proofs.Common.{ap, arith, inl, inr, subst, sym, ◌∙◌}
use Rattle.std.proofs.lemmas.Bool.Decides.{nat_tests}
use Rattle.std.proofs.lemmas.List.{append-nil, append_assoc}
use Rattle.std.specs.List.{list_any}
use Rattle.std.specs.Prelude.{Bool, List, None, Option, Some, [], false, if◌then◌else◌, is_none, is_some, nat_eq, not, refl, true, ℕ, ◌&&◌, ◌++◌, ◌||◌, ◌∷◌, ◌≡◌, ◌⊎◌}
use Rattle.lq_base.specs.declared.dialect.Dialect.{Dialect}
use Rattle.lq_base.specs.declared.tracking.Lock.{Lock}
use Rattle.lq_model.proofs.Lists.{and_left, and_right, any-append, or_false, or_left, or_right, true_false}
use Rattle.lq_track.specs.Database.{Database}
use Rattle.lq_turns.specs.Schedule.{Holder, Job, Machine, after_call, all_moved, answers_with, appended, begins, first_step, has_answered, has_begun, later_step, makes, moved, start}
use Rattle.lq_turns.specs.Serial.{Gave, IsAtOnce, IsSerial, SchedulesAreSerial, Stands, at_once, if_first, is_early, makes_first, none_early, order_of, open_by, serial, unless_called, unless_open, unless_refused}
use Rattle.lq_turns.specs.declared.call.Call.{Call}
use Rattle.lq_turns.specs.Session.{Session, all_called, called, left_by, session_on}
use Rattle.lq_turns.proofs.Made.{calls_both}

same_number : (a b : ℕ) → nat_eq a b ≡ true → a ≡ b
same_number a b is = grind (arith, nat_tests, is)

own_number : (a : ℕ) → nat_eq a a ≡ true
own_number a = grind (arith, nat_tests)

other_way_number : (a b : ℕ) → nat_eq a b ≡ false → nat_eq b a ≡ false
other_way_number a b is = grind (arith, nat_tests, is)

module _ (Answer : Type 0) (locked : Lock → Answer) (busy : ℕ → Answer) (d : Dialect) (jobs : ℕ → Job Answer locked busy) (database : Database) where
  abbrev Runs : Type 0
  Runs = Machine Answer locked busy

  abbrev Holds : Type 0
  Holds = Holder Answer locked busy

  abbrev answered : ℕ → Runs → Bool
  answered n x = has_answered Answer locked busy n x

  abbrev begun : ℕ → Runs → Bool
  begun n x = has_begun Answer locked busy n x

  abbrev in_order : List ℕ → Database
  in_order ns = serial Answer locked busy d jobs ns database

  abbrev gave : List ℕ → List ℕ → ℕ → Answer → Type 0
  gave order schedule n answer = Gave Answer locked busy d jobs database order schedule n answer

  abbrev is_holder : ℕ → Option Holds → Bool
  is_holder n None = false
  is_holder n (Some h) = nat_eq h.runner n

  record Good (schedule : List ℕ) (x : Runs) : Type 0 where
    is : IsSerial Answer locked busy d jobs database schedule x
    same : (n : ℕ) → list_any (nat_eq n) is.order ≡ begun n x
    waits : (n : ℕ) → begun n x ≡ true → answered n x ≡ false → is_holder n x.holder ≡ true

  -- one more in the serial run
  serial_more : (ns : List ℕ) (n : ℕ) (e : Database) → serial Answer locked busy d jobs (ns ++ n ∷ []) e ≡ left_by d ((jobs n).script (serial Answer locked busy d jobs ns e)) (serial Answer locked busy d jobs ns e)
  serial_more [] n e = refl
  serial_more (k ∷ ks) n e = serial_more ks n (left_by d ((jobs k).script e) e)

  -- what was answered stays so

  has_gone : (n : ℕ) (answer : Answer) (all newer older : List (ℕ × Answer)) → all ≡ newer ++ (n, answer) ∷ older → list_any (λ a. nat_eq a.0 n) all ≡ true
  has_gone n answer all newer older is = ap (list_any (λ a. nat_eq a.0 n)) is ∙ any-append (λ a. nat_eq a.0 n) newer ((n, answer) ∷ older)
      ∙ ap (λ b. list_any (λ a. nat_eq a.0 n) newer || (b || list_any (λ a. nat_eq a.0 n) older)) (own_number n) ∙ or_true (list_any (λ a. nat_eq a.0 n) newer) where
        or_true : (b : Bool) → (b || true) ≡ true
        or_true true = refl
        or_true false = refl

  at_longer : (schedule : List ℕ) (k n : ℕ) (answer : Answer) → IsAtOnce Answer locked busy d jobs database schedule n answer → IsAtOnce Answer locked busy d jobs database (schedule ++ k ∷ []) n answer
  at_longer schedule k n answer at = record { before = at.before; after = at.after ++ k ∷ []; schedule_is = ap (λ ns. ns ++ k ∷ []) at.schedule_is ∙ append_assoc at.before (n ∷ at.after) (k ∷ []); is = at.is }

  longer : (order schedule : List ℕ) (k n : ℕ) (answer : Answer) → gave order schedule n answer → gave order (schedule ++ k ∷ []) n answer
  longer order schedule k n answer (inl s) = inl s
  longer order schedule k n answer (inr at) = inr (at.0, at_longer schedule k n answer at.1)

  -- another begins
  ordered : (order schedule : List ℕ) (k n : ℕ) (answer : Answer) → nat_eq n k ≡ false → gave order schedule n answer → gave (order ++ k ∷ []) schedule n answer
  ordered order schedule k n answer apart (inl s) = inl (record { before = s.before; after = s.after ++ k ∷ []; order_is = ap (λ ns. ns ++ k ∷ []) s.order_is ∙ append_assoc s.before (n ∷ s.after) (k ∷ []); is = s.is })
  ordered order schedule k n answer apart (inr at) = inr (any-append (nat_eq n) order (k ∷ []) ∙ or_false _ _ at.0 (or_false _ _ apart refl), at.1)

  abbrev AllGave : List ℕ → List ℕ → List (ℕ × Answer) → Type 0
  AllGave order schedule all = (n : ℕ) (answer : Answer) (newer older : List (ℕ × Answer)) → all ≡ newer ++ (n, answer) ∷ older → gave order schedule n answer

  one_gave : (order schedule : List ℕ) (k : ℕ) (its : Answer) (all : List (ℕ × Answer)) → gave order schedule k its → AllGave order schedule all → AllGave order schedule ((k, its) ∷ all)
  one_gave order schedule k its all first others n answer [] older is =
      let same : (k, its) ≡ (n, answer) = Prim.cc in
      subst (λ (z : ℕ × Answer). gave order schedule z.0 z.1) same first
  one_gave order schedule k its all first others n answer (z ∷ newer) older is =
      let rest : all ≡ newer ++ (n, answer) ∷ older = Prim.cc in
      others n answer newer older rest

  -- a call is made

  module _ (n : ℕ) (schedule order before : List ℕ) (made : List Call) (session : Session) (call : Call) (answer : Answer) (x : Runs)
      (ordered : order ≡ order_of Answer locked busy d jobs schedule (start Answer locked busy database)) (order_is : order ≡ before ++ n ∷ []) (session_is : session ≡ all_called d made (session_on (in_order before))) (answer_is : answer ≡ (jobs n).answer (in_order before))
      (others : AllGave order schedule x.answers) (same : (m : ℕ) → list_any (nat_eq m) order ≡ (nat_eq m n || begun m x)) (Alone : (m : ℕ) → nat_eq m n ≡ false → begun m x ≡ true → answered m x ≡ false → ⊥) where
    now : called d call session ≡ all_called d (made ++ call ∷ []) (session_on (in_order before))
    now = ap (called d call) session_is ∙ sym (calls_both d made (call ∷ []) (session_on (in_order before)))

    call_made : (more : List Call) → (jobs n).script (in_order before) ≡ made ++ call ∷ more → Good schedule (after_call Answer locked busy n (called d call session) more answer x)
    call_made [] script = record {
      is = record {
        order = order;
        ordered = ordered;
        stands = ap (λ (s : Session). s.committed) now ∙ sym (ap (λ calls. left_by d calls (in_order before)) script) ∙ sym (serial_more before n database) ∙ sym (ap in_order order_is);
        answers = one_gave order schedule n answer x.answers (inl (record { before = before; after = []; order_is = order_is; is = answer_is })) others;
      };
      same = same;
      waits = λ m there still. by m (nat_eq m n) refl there still;
    } where
      by : (m : ℕ) (b : Bool) → nat_eq m n ≡ b → (nat_eq m n || begun m x) ≡ true → (nat_eq n m || answered m x) ≡ false → false ≡ true
      by m true is there still = absurd (true_false (ap (λ k. nat_eq n k) (same_number m n is) ∙ own_number n) (or_left (nat_eq n m) _ still))
      by m false is there still = absurd (Alone m is (sym (ap (λ b. b || begun m x) is) ∙ there) (or_right (nat_eq n m) _ still))
    call_made (next ∷ more) script = record {
      is = record {
        order = order;
        ordered = ordered;
        stands = record { before = before; order_is = order_is; made = made ++ call ∷ []; script = script ∙ sym (append_assoc made (call ∷ []) (next ∷ more)); session = now; committed_is = refl; answer = answer_is; first = one_made made; comes = (next, more, refl) };
        answers = others;
      };
      same = same;
      waits = λ m there still. by m (nat_eq m n) refl there still;
    } where
      one_made : (calls : List Call) → (first : Call) × (more : List Call) × (calls ++ call ∷ [] ≡ first ∷ more)
      one_made [] = (call, [], refl)
      one_made (c ∷ calls) = (c, calls ++ call ∷ [], refl)

      by : (m : ℕ) (b : Bool) → nat_eq m n ≡ b → (nat_eq m n || begun m x) ≡ true → answered m x ≡ false → nat_eq n m ≡ true
      by m true is there still = ap (λ k. nat_eq n k) (same_number m n is) ∙ own_number n
      by m false is there still = absurd (Alone m is (sym (ap (λ b. b || begun m x) is) ∙ there) still)

  -- a first step: it answers at once, or makes a call

  module _ (n : ℕ) (x : Runs) where
    its : Answer
    its = (jobs n).answer x.committed

    abbrev First : Option Answer → Runs → Type 0
    First at y = ((a : Answer) × (at ≡ Some a) × (y ≡ answers_with Answer locked busy n a x))
        ⊎ ((at ≡ None) × ((call : Call) × (more : List Call) × ((jobs n).script x.committed ≡ call ∷ more) × (y ≡ makes Answer locked busy d jobs n (session_on x.committed) (call ∷ more) ((jobs n).answer x.committed) x)))

    script_first : (calls : List Call) → (jobs n).script x.committed ≡ calls → First (unless_called Answer locked busy d jobs calls ((jobs n).answer x.committed)) (makes Answer locked busy d jobs n (session_on x.committed) calls ((jobs n).answer x.committed) x)
    script_first [] is = inl ((jobs n).answer x.committed, refl, refl)
    script_first (call ∷ more) is = inr (refl, (call, more, is, refl))

    refused_first : (o : Option Answer) → First (unless_refused Answer locked busy d jobs o (unless_called Answer locked busy d jobs ((jobs n).script x.committed) ((jobs n).answer x.committed))) (begins Answer locked busy d jobs n o x)
    refused_first (Some a) = inl (a, refl, refl)
    refused_first None = script_first ((jobs n).script x.committed) refl

    open_first : (o : Option Holds) → First (unless_open Answer locked busy d jobs (open_by Answer locked busy d jobs o) (unless_refused Answer locked busy d jobs ((jobs n).refuses x.committed) (unless_called Answer locked busy d jobs ((jobs n).script x.committed) ((jobs n).answer x.committed))))
        (elim o as (λ _. Runs) [ None ↦ begins Answer locked busy d jobs n ((jobs n).refuses x.committed) x | Some h ↦ if h.session.is_open then answers_with Answer locked busy n (busy h.runner) x else begins Answer locked busy d jobs n ((jobs n).refuses x.committed) x ])
    open_first None = refused_first ((jobs n).refuses x.committed)
    open_first (Some h) = elim h.session.is_open as (λ b. First (unless_open Answer locked busy d jobs (if b then Some h.runner else None) (unless_refused Answer locked busy d jobs ((jobs n).refuses x.committed) (unless_called Answer locked busy d jobs ((jobs n).script x.committed) ((jobs n).answer x.committed))))
        (if b then answers_with Answer locked busy n (busy h.runner) x else begins Answer locked busy d jobs n ((jobs n).refuses x.committed) x)) [
          | true ↦ inl (busy h.runner, refl, refl)
          | false ↦ refused_first ((jobs n).refuses x.committed)
        ]

    first_is : First (at_once Answer locked busy d jobs n x) (first_step Answer locked busy d jobs n x)
    first_is = elim ((jobs n).needs_lock && x.committed.lock.locked) as (λ b. First
        (if b then Some (locked x.committed.lock) else unless_open Answer locked busy d jobs (open_by Answer locked busy d jobs x.holder) (unless_refused Answer locked busy d jobs ((jobs n).refuses x.committed) (unless_called Answer locked busy d jobs ((jobs n).script x.committed) ((jobs n).answer x.committed))))
        (if b then answers_with Answer locked busy n (locked x.committed.lock) x else elim x.holder as (λ _. Runs) [ None ↦ begins Answer locked busy d jobs n ((jobs n).refuses x.committed) x | Some h ↦ if h.session.is_open then answers_with Answer locked busy n (busy h.runner) x else begins Answer locked busy d jobs n ((jobs n).refuses x.committed) x ])) [
          | true ↦ inl (locked x.committed.lock, refl, refl)
          | false ↦ open_first x.holder
        ]

  or_swap : (a b : Bool) → (a || (b || false)) ≡ (b || a)
  or_swap true true = refl
  or_swap true false = refl
  or_swap false true = refl
  or_swap false false = refl

  none_is : {A : Type 0} (o : Option A) → is_some o ≡ false → o ≡ None
  none_is None is = refl
  none_is (Some a) is = Prim.cc

  abbrev taken_order : List ℕ → List ℕ
  taken_order schedule = order_of Answer locked busy d jobs schedule (start Answer locked busy database)

  order_more : (schedule : List ℕ) (n : ℕ) (x : Runs) → order_of Answer locked busy d jobs (schedule ++ n ∷ []) x ≡ order_of Answer locked busy d jobs schedule x ++ if_first Answer locked busy d jobs n (all_moved Answer locked busy d jobs schedule x)
  order_more [] n x = append-nil (if_first Answer locked busy d jobs n x)
  order_more (k ∷ schedule) n x = ap (λ ns. if_first Answer locked busy d jobs k x ++ ns) (order_more schedule n (moved Answer locked busy d jobs k x)) ∙ sym (append_assoc (if_first Answer locked busy d jobs k x) (order_of Answer locked busy d jobs schedule (moved Answer locked busy d jobs k x)) _)

  order_with : (schedule : List ℕ) (n : ℕ) (x : Runs) (first : Bool) → x ≡ all_moved Answer locked busy d jobs schedule (start Answer locked busy database) → makes_first Answer locked busy d jobs n x ≡ first
      → taken_order (schedule ++ n ∷ []) ≡ taken_order schedule ++ (if first then n ∷ [] else [])
  order_with schedule n x first here is = order_more schedule n (start Answer locked busy database) ∙ ap (λ y. taken_order schedule ++ if_first Answer locked busy d jobs n y) (sym here) ∙ ap (λ b. taken_order schedule ++ (if b then n ∷ [] else [])) is

  same_order : (schedule : List ℕ) (n : ℕ) (x : Runs) (order : List ℕ) → x ≡ all_moved Answer locked busy d jobs schedule (start Answer locked busy database) → makes_first Answer locked busy d jobs n x ≡ false → order ≡ taken_order schedule → order ≡ taken_order (schedule ++ n ∷ [])
  same_order schedule n x order here is ordered = ordered ∙ sym (append-nil (taken_order schedule)) ∙ sym (order_with schedule n x false here is)

  first_when : (n : ℕ) (x : Runs) (gone there none : Bool) → answered n x ≡ gone → begun n x ≡ there → is_none (at_once Answer locked busy d jobs n x) ≡ none → makes_first Answer locked busy d jobs n x ≡ (not gone && (not there && none))
  first_when n x gone there none p q r = ap (λ b. not b && (not (begun n x) && is_none (at_once Answer locked busy d jobs n x))) p ∙ ap (λ b. not gone && (not b && is_none (at_once Answer locked busy d jobs n x))) q ∙ ap (λ b. not gone && (not there && b)) r

  stay : (n : ℕ) (schedule : List ℕ) (x : Runs) → x ≡ all_moved Answer locked busy d jobs schedule (start Answer locked busy database) → answered n x ≡ true → Good schedule x → Good (schedule ++ n ∷ []) x
  stay n schedule x here gone good = record {
    is = record { order = good.is.order; ordered = same_order schedule n x good.is.order here (first_when n x true (begun n x) _ gone refl refl) good.is.ordered; stands = good.is.stands; answers = λ m a newer older at. longer good.is.order schedule n m a (good.is.answers m a newer older at) };
    same = good.same;
    waits = good.waits;
  }

  -- it answers at once
  at_once_good : (n : ℕ) (schedule : List ℕ) (x : Runs) (a : Answer) → answered n x ≡ false → x ≡ all_moved Answer locked busy d jobs schedule (start Answer locked busy database) → begun n x ≡ false → at_once Answer locked busy d jobs n x ≡ Some a
      → Good schedule x → Good (schedule ++ n ∷ []) (answers_with Answer locked busy n a x)
  at_once_good n schedule x a silent here fresh at good = record {
    is = record {
      order = good.is.order;
      ordered = same_order schedule n x good.is.order here (first_when n x false false false silent fresh (ap (λ o. is_none o) at)) good.is.ordered;
      stands = good.is.stands;
      answers = one_gave good.is.order (schedule ++ n ∷ []) n a x.answers
          (inr (good.same n ∙ fresh, record { before = schedule; after = []; schedule_is = refl; is = ap (at_once Answer locked busy d jobs n) (sym here) ∙ at }))
          (λ m b newer older is. longer good.is.order schedule n m b (good.is.answers m b newer older is));
    };
    same = good.same;
    waits = λ m there still. good.waits m there (or_right (nat_eq n m) _ still);
  }

  -- it makes its first call, and no other is under way
  first_call_good : (n : ℕ) (schedule : List ℕ) (x : Runs) (call : Call) (more : List Call) → x ≡ all_moved Answer locked busy d jobs schedule (start Answer locked busy database) → at_once Answer locked busy d jobs n x ≡ None → answered n x ≡ false → begun n x ≡ false → x.holder ≡ None → (jobs n).script x.committed ≡ call ∷ more
      → Good schedule x → Good (schedule ++ n ∷ []) (makes Answer locked busy d jobs n (session_on x.committed) (call ∷ more) ((jobs n).answer x.committed) x)
  first_call_good n schedule x call more here none silent fresh free script good =
      let order = good.is.order in
      let at : x.committed ≡ in_order order = subst (λ o. Stands Answer locked busy d jobs database order o x.committed) free good.is.stands in
      call_made n (schedule ++ n ∷ []) (order ++ n ∷ []) order [] (session_on x.committed) call ((jobs n).answer x.committed) (record x { entries = x.entries ++ appended d call (session_on x.committed) })
      (ap (λ ns. ns ++ n ∷ []) good.is.ordered ∙ sym (order_with schedule n x true here (first_when n x false false true silent fresh (ap (λ o. is_none o) none)))) refl (ap session_on at) (ap (jobs n).answer at)
      (λ m a newer older is. ordered order (schedule ++ n ∷ []) n m a (apart m (has_gone m a x.answers newer older is)) (longer order schedule n m a (good.is.answers m a newer older is)))
      (λ m. any-append (nat_eq m) order (n ∷ []) ∙ or_swap (list_any (nat_eq m) order) (nat_eq m n) ∙ ap (λ b. nat_eq m n || b) (good.same m))
      (λ m other there still. true_false (sym (ap (is_holder m) free) ∙ good.waits m there still) refl)
      more (sym (ap (jobs n).script at) ∙ script) where
        apart : (m : ℕ) → answered m x ≡ true → nat_eq m n ≡ false
        apart m gone = by (nat_eq m n) refl where
          by : (b : Bool) → nat_eq m n ≡ b → nat_eq m n ≡ false
          by false is = is
          by true is = true_false (sym (ap (λ k. answered k x) (same_number m n is)) ∙ gone) silent

  -- it goes on
  next_call_good : (n : ℕ) (schedule : List ℕ) (x : Runs) (h : Holds) → x ≡ all_moved Answer locked busy d jobs schedule (start Answer locked busy database) → answered n x ≡ false → begun n x ≡ true → x.holder ≡ Some h → nat_eq h.runner n ≡ true → Good schedule x
      → Good (schedule ++ n ∷ []) (makes Answer locked busy d jobs n h.session h.rest h.answer x)
  next_call_good n schedule x h here silent there held own good =
      let order = good.is.order in
      let way = subst (λ o. Stands Answer locked busy d jobs database order o x.committed) held good.is.stands in
      let runner = same_number h.runner n own in
      subst (λ calls. Good (schedule ++ n ∷ []) (makes Answer locked busy d jobs n h.session calls h.answer x)) (sym way.comes.2)
      (call_made n (schedule ++ n ∷ []) order way.before way.made h.session way.comes.0 h.answer (record x { entries = x.entries ++ appended d way.comes.0 h.session })
      (same_order schedule n x order here (first_when n x false true _ silent there refl) good.is.ordered) (way.order_is ∙ ap (λ k. way.before ++ k ∷ []) runner) way.session (way.answer ∙ ap (λ k. (jobs k).answer (in_order way.before)) runner)
      (λ m a newer older is. longer order schedule n m a (good.is.answers m a newer older is))
      (λ m. good.same m ∙ begun_more m (nat_eq m n) refl)
      (λ m other begins still. true_false (sym (ap (λ k. nat_eq k m) runner) ∙ sym (ap (is_holder m) held) ∙ good.waits m begins still) (other_way_number m n other))
      way.comes.1 (sym (ap (λ k. (jobs k).script (in_order way.before)) runner) ∙ way.script ∙ ap (λ calls. way.made ++ calls) way.comes.2)) where
        begun_more : (m : ℕ) (b : Bool) → nat_eq m n ≡ b → begun m x ≡ (nat_eq m n || begun m x)
        begun_more m true is = ap (λ k. begun k x) (same_number m n is) ∙ there ∙ sym (ap (λ b. b || begun m x) is)
        begun_more m false is = sym (ap (λ b. b || begun m x) is)

  later_good : (n : ℕ) (schedule : List ℕ) (x : Runs) (o : Option Holds) → x ≡ all_moved Answer locked busy d jobs schedule (start Answer locked busy database) → x.holder ≡ o → answered n x ≡ false → begun n x ≡ true → Good schedule x
      → Good (schedule ++ n ∷ []) (elim o as (λ _. Runs) [ None ↦ answers_with Answer locked busy n (locked x.committed.lock) x | Some h ↦ if nat_eq h.runner n then makes Answer locked busy d jobs n h.session h.rest h.answer x else answers_with Answer locked busy n (locked x.committed.lock) x ])
  later_good n schedule x None here held silent there good = true_false (sym (ap (is_holder n) held) ∙ good.waits n there silent) refl
  later_good n schedule x (Some h) here held silent there good =
      let own : nat_eq h.runner n ≡ true = sym (ap (is_holder n) held) ∙ good.waits n there silent in
      subst (λ b. Good (schedule ++ n ∷ []) (if b then makes Answer locked busy d jobs n h.session h.rest h.answer x else answers_with Answer locked busy n (locked x.committed.lock) x)) (sym own) (next_call_good n schedule x h here silent there held own good)

  first_good : (n : ℕ) (schedule : List ℕ) (x : Runs) → x ≡ all_moved Answer locked busy d jobs schedule (start Answer locked busy database) → answered n x ≡ false → begun n x ≡ false
      → (is_none (at_once Answer locked busy d jobs n x) && is_some x.holder) ≡ false → Good schedule x → Good (schedule ++ n ∷ []) (first_step Answer locked busy d jobs n x)
  first_good n schedule x here silent fresh timely good = elim (first_is n x) as (λ _. Good (schedule ++ n ∷ []) (first_step Answer locked busy d jobs n x)) [
    | inl a ↦ subst (Good (schedule ++ n ∷ [])) (sym a.2) (at_once_good n schedule x a.0 silent here fresh a.1 good)
    | inr call ↦ subst (Good (schedule ++ n ∷ [])) (sym call.1.3) (first_call_good n schedule x call.1.0 call.1.1 here call.0 silent fresh (none_is x.holder (sym (ap (λ o. is_none o && is_some x.holder) call.0) ∙ timely)) call.1.2 good)
  ]

  one_good : (n : ℕ) (schedule : List ℕ) (x : Runs) → x ≡ all_moved Answer locked busy d jobs schedule (start Answer locked busy database) → is_early Answer locked busy d jobs n x ≡ false
      → Good schedule x → Good (schedule ++ n ∷ []) (moved Answer locked busy d jobs n x)
  one_good n schedule x here timely good = by (answered n x) (begun n x) refl refl timely where
    by : (gone there : Bool) → answered n x ≡ gone → begun n x ≡ there → ((not gone && (not there && is_none (at_once Answer locked busy d jobs n x))) && is_some x.holder) ≡ false
        → Good (schedule ++ n ∷ []) (if gone then x else if there then later_step Answer locked busy d jobs n x else first_step Answer locked busy d jobs n x)
    by true there is begins timely = stay n schedule x here is good
    by false true is begins timely = later_good n schedule x x.holder here refl is begins good
    by false false is begins timely = first_good n schedule x here is begins timely good

  moved_more : (schedule : List ℕ) (n : ℕ) (x : Runs) → all_moved Answer locked busy d jobs (schedule ++ n ∷ []) x ≡ moved Answer locked busy d jobs n (all_moved Answer locked busy d jobs schedule x)
  moved_more [] n x = refl
  moved_more (k ∷ schedule) n x = moved_more schedule n (moved Answer locked busy d jobs k x)

  all_good : (schedule rest : List ℕ) (x : Runs) → x ≡ all_moved Answer locked busy d jobs schedule (start Answer locked busy database) → none_early Answer locked busy d jobs rest x ≡ true
      → Good schedule x → Good (schedule ++ rest) (all_moved Answer locked busy d jobs rest x)
  all_good schedule [] x here timely good = subst (λ ns. Good ns x) (sym (append-nil schedule)) good
  all_good schedule (n ∷ rest) x here timely good =
      let now = not_true_is (is_early Answer locked busy d jobs n x) (and_left _ (none_early Answer locked busy d jobs rest (moved Answer locked busy d jobs n x)) timely) in
      let one = one_good n schedule x here now good in
      subst (λ ns. Good ns (all_moved Answer locked busy d jobs rest (moved Answer locked busy d jobs n x))) (append_assoc schedule (n ∷ []) rest)
      (all_good (schedule ++ n ∷ []) rest (moved Answer locked busy d jobs n x) (ap (moved Answer locked busy d jobs n) here ∙ sym (moved_more schedule n (start Answer locked busy database)))
      (and_right (not (is_early Answer locked busy d jobs n x)) _ timely) one) where
        not_true_is : (b : Bool) → not b ≡ true → b ≡ false
        not_true_is true q = sym q
        not_true_is false q = refl

  none_gone : AllGave [] [] []
  none_gone n answer [] older is = Prim.cc
  none_gone n answer (z ∷ newer) older is = Prim.cc

  start_good : Good [] (start Answer locked busy database)
  start_good = record { is = record { order = []; ordered = refl; stands = refl; answers = none_gone }; same = λ n. refl; waits = λ n there still. Prim.cc }

pub schedules_are_serial : (Answer : Type 0) → SchedulesAreSerial Answer
schedules_are_serial Answer locked busy d jobs database schedule timely =
    (all_good Answer locked busy d jobs database [] schedule (start Answer locked busy database) refl timely (start_good Answer locked busy d jobs database)).is
