-- What a plan tells of the changesets to come.
use Rattle.std.proofs.Common.{ap, arith, sym, refl, ◌≡◌, ◌∙◌, ◌+◌, ◌∷◌, ◌++◌, false, List, [], None, Option, Some, drop, suc, zero, ℕ}
use Rattle.std.proofs.lemmas.List.{drop-drop}
use Rattle.std.specs.List.{list_any, slice_get}
use Rattle.lq_base.specs.declared.dialect.Dialect.{Dialect}
use Rattle.lq_base.specs.declared.identity.Identity.{Identity}
use Rattle.lq_base.specs.declared.tracking.Tracked.{Tracked}
use Rattle.lq_expr.specs.declared.options.Options.{Options}
use Rattle.lq_kinds.specs.declared.change_set.ChangeSet.{ChangeSet}
use Rattle.lq_model.proofs.Lists.{or_left, or_right}
use Rattle.lq_model.specs.declared.statement.Statement.{Statement}
use Rattle.lq_plan.specs.Told.{item_at, work_from}
use Rattle.lq_plan.specs.declared.turns.Item.{Item}
use Rattle.lq_sets.specs.SetTurns.{ArePlanned}
use Rattle.lq_seen.specs.View.{any_meaning, view, views}
use Rattle.lq_turns.specs.Stops.{are_twins, is_twin}
use Rattle.lq_turns.specs.Deed.{Contents}
use Rattle.lq_turns.specs.Printed.{printed, printed_of}
use Rattle.lq_turns.specs.Script.{calls_of_turn, calls_unless, sets_calls, turn_by}
use Rattle.lq_turns.specs.Set.{Meaning, Set}
use Rattle.lq_turns.specs.Settle.{Settled, all_settled, and_then, choice_of, nothing_done, settled_by, unless_stopped, what}
use Rattle.lq_turns.specs.declared.call.Call.{Call}
use Rattle.lq_turns.specs.declared.choice.Choice.{Choice}
use Rattle.lq_turns.specs.declared.choice.What.{What}
use Rattle.lq_turns.specs.declared.stamp.Stamp.{Stamp}
use Rattle.lq_turns.specs.declared.stop.Stop.{Stop}

-- a changeset without a turn makes no call
module _ {Key : Type 0} (d : Dialect) (m : Meaning Key) (stamp : Stamp) (x : Set Key) (xs : List (Set Key)) (c : Contents) where
  abbrev calls_by : Choice → List Call
  calls_by q = calls_of_turn d m stamp (turn_by d m stamp x c.rows q) c ++ calls_unless (settled_by d m stamp.reading x c q).stop (sets_calls d m stamp xs (settled_by d m stamp.reading x c q).contents)

  nothing_first : (s : Settled) → and_then (nothing_done c) s ≡ s
  nothing_first s = let e : 0 + s.not_fresh ≡ s.not_fresh = omega arith in ap (λ (n : ℕ). record s { not_fresh = n }) e

  -- and settles nothing
  pub passes_settled : (rows : List Tracked) → c.rows ≡ rows → what x rows ≡ None → all_settled d m stamp.reading (x ∷ xs) c ≡ all_settled d m stamp.reading xs c
  passes_settled rows same none = ap (λ w. unless_stopped (settled_by d m stamp.reading x c (choice_of x c w)) (all_settled d m stamp.reading xs)) (ap (what x) same ∙ none) ∙ nothing_first (all_settled d m stamp.reading xs c)

  abbrev then_printed : Contents → Option Stop → List (Identity × List Statement)
  then_printed e None = printed d m stamp.reading xs e
  then_printed e (Some stop) = []

  abbrev printed_by : Settled → List (Identity × List Statement)
  printed_by s = printed_of d m stamp.reading x s ++ then_printed s.contents s.stop

  -- and prints nothing
  pub passes_printed : (rows : List Tracked) → c.rows ≡ rows → what x rows ≡ None → printed d m stamp.reading (x ∷ xs) c ≡ printed d m stamp.reading xs c
  passes_printed rows same none = ap (λ w. printed_by (settled_by d m stamp.reading x c (choice_of x c w))) (ap (what x) same ∙ none)

  pub passes : (rows : List Tracked) → c.rows ≡ rows → what x rows ≡ None → sets_calls d m stamp (x ∷ xs) c ≡ sets_calls d m stamp xs c
  passes rows same none = ap (λ w. calls_by (choice_of x c w)) (ap (what x) same ∙ none)

-- the changeset of the next item, where the changesets to come are these
pub record IsNext (options : Options) (rows : List Tracked) (ys : List ChangeSet) (n : ℕ) (item : Item) (items : List Item) : Type 0 where
  pub k : ℕ
  pub place : item.index ≡ n + k
  pub x : ChangeSet
  pub at : slice_get ys k ≡ Some x
  pub has : what (view options x) rows ≡ Some item.what
  pub more : work_from (suc (n + k)) (views options (drop (suc k) ys)) rows ≡ items
  pub apart : are_twins (views options ys) ≡ false → are_twins (view options x ∷ views options (drop (suc k) ys)) ≡ false
  pub calls : (d : Dialect) (stamp : Stamp) (c : Contents) → c.rows ≡ rows → sets_calls d any_meaning stamp (views options ys) c ≡ sets_calls d any_meaning stamp (view options x ∷ views options (drop (suc k) ys)) c
  pub settled : (d : Dialect) (stamp : Stamp) (c : Contents) → c.rows ≡ rows → all_settled d any_meaning stamp.reading (views options ys) c ≡ all_settled d any_meaning stamp.reading (view options x ∷ views options (drop (suc k) ys)) c
  pub prints : (d : Dialect) (stamp : Stamp) (c : Contents) → c.rows ≡ rows → printed d any_meaning stamp.reading (views options ys) c ≡ printed d any_meaning stamp.reading (view options x ∷ views options (drop (suc k) ys)) c

module _ (options : Options) (rows : List Tracked) where
  later : (y : ChangeSet) (ys : List ChangeSet) (n : ℕ) (item : Item) (items : List Item) → what (view options y) rows ≡ None → IsNext options rows ys (suc n) item items → IsNext options rows (y ∷ ys) n item items
  later y ys n item items none next =
      let on : suc n + next.k ≡ n + suc next.k = omega arith in
      record {
        k = suc next.k;
        place = next.place ∙ on;
        x = next.x;
        at = next.at;
        has = next.has;
        more = ap (λ i. work_from (suc i) (views options (drop (suc next.k) ys)) rows) (sym on) ∙ next.more;
        apart = λ apart. next.apart (or_right (list_any (is_twin (view options y)) (views options ys)) _ apart);
        calls = λ d stamp c same. passes d any_meaning stamp (view options y) (views options ys) c rows same none ∙ next.calls d stamp c same;
        settled = λ d stamp c same. passes_settled d any_meaning stamp (view options y) (views options ys) c rows same none ∙ next.settled d stamp c same;
        prints = λ d stamp c same. passes_printed d any_meaning stamp (view options y) (views options ys) c rows same none ∙ next.prints d stamp c same;
      }

  here : (y : ChangeSet) (ys : List ChangeSet) (n : ℕ) (item : Item) (items : List Item) (w : What) → what (view options y) rows ≡ Some w → (let one : Item = record { index = n; what = w } in one) ∷ work_from (suc n) (views options ys) rows ≡ item ∷ items
      → IsNext options rows (y ∷ ys) n item items
  here y ys n item items w is same =
      let first : (let one : Item = record { index = n; what = w } in one) ≡ item = Prim.cc in
      let rest : work_from (suc n) (views options ys) rows ≡ items = Prim.cc in
      let none : n ≡ n + 0 = omega arith in
      record {
        k = 0;
        place = ap (λ (i : Item). i.index) (sym first) ∙ none;
        x = y;
        at = refl;
        has = is ∙ ap (λ (i : Item). Some i.what) first;
        more = ap (λ i. work_from (suc i) (views options ys) rows) (sym none) ∙ rest;
        apart = λ apart. apart;
        calls = λ d stamp c same. refl;
        settled = λ d stamp c same. refl;
        prints = λ d stamp c same. refl;
      }

  no_item : {A : Type 0} {item : Item} {items : List Item} → (let none : List Item = [] in none) ≡ item ∷ items → A
  no_item e = Prim.cc

  pub next_in : (ys : List ChangeSet) (n : ℕ) (item : Item) (items : List Item) → work_from n (views options ys) rows ≡ item ∷ items → IsNext options rows ys n item items
  next_in [] n item items is = no_item is
  next_in (y ∷ ys) n item items is =
      (elim (what (view options y) rows) as (λ w. what (view options y) rows ≡ w → item_at n w ++ work_from (suc n) (views options ys) rows ≡ item ∷ items → IsNext options rows (y ∷ ys) n item items) [
        | None ↦ λ at q. later y ys n item items at (next_in ys (suc n) item items q)
        | Some w ↦ λ at q. here y ys n item items w at q
      ]) refl is

  -- without an item no call is to come
  pub none_left : (d : Dialect) (stamp : Stamp) (c : Contents) → c.rows ≡ rows → (ys : List ChangeSet) (n : ℕ) → work_from n (views options ys) rows ≡ [] → sets_calls d any_meaning stamp (views options ys) c ≡ []
  none_left d stamp c same [] n is = refl
  none_left d stamp c same (y ∷ ys) n is =
      (elim (what (view options y) rows) as (λ w. what (view options y) rows ≡ w → item_at n w ++ work_from (suc n) (views options ys) rows ≡ [] → sets_calls d any_meaning stamp (views options (y ∷ ys)) c ≡ []) [
        | None ↦ λ at q. passes d any_meaning stamp (view options y) (views options ys) c rows same at ∙ none_left d stamp c same ys (suc n) q
        | Some w ↦ λ at q. no_item (sym q)
      ]) refl is

  -- and nothing is settled
  pub none_settled : (d : Dialect) (stamp : Stamp) (c : Contents) → c.rows ≡ rows → (ys : List ChangeSet) (n : ℕ) → work_from n (views options ys) rows ≡ [] → all_settled d any_meaning stamp.reading (views options ys) c ≡ nothing_done c
  none_settled d stamp c same [] n is = refl
  none_settled d stamp c same (y ∷ ys) n is =
      (elim (what (view options y) rows) as (λ w. what (view options y) rows ≡ w → item_at n w ++ work_from (suc n) (views options ys) rows ≡ [] → all_settled d any_meaning stamp.reading (views options (y ∷ ys)) c ≡ nothing_done c) [
        | None ↦ λ at q. passes_settled d any_meaning stamp (view options y) (views options ys) c rows same at ∙ none_settled d stamp c same ys (suc n) q
        | Some w ↦ λ at q. no_item (sym q)
      ]) refl is

  -- or printed
  pub none_printed : (d : Dialect) (stamp : Stamp) (c : Contents) → c.rows ≡ rows → (ys : List ChangeSet) (n : ℕ) → work_from n (views options ys) rows ≡ [] → printed d any_meaning stamp.reading (views options ys) c ≡ []
  none_printed d stamp c same [] n is = refl
  none_printed d stamp c same (y ∷ ys) n is =
      (elim (what (view options y) rows) as (λ w. what (view options y) rows ≡ w → item_at n w ++ work_from (suc n) (views options ys) rows ≡ [] → printed d any_meaning stamp.reading (views options (y ∷ ys)) c ≡ []) [
        | None ↦ λ at q. passes_printed d any_meaning stamp (view options y) (views options ys) c rows same at ∙ none_printed d stamp c same ys (suc n) q
        | Some w ↦ λ at q. no_item (sym q)
      ]) refl is

pub get_after : {A : Type 0} (n k : ℕ) (xs : List A) → slice_get (drop n xs) k ≡ slice_get xs (n + k)
get_after zero k xs = let on : k ≡ zero + k = omega arith in ap (slice_get xs) on
get_after (suc n) k [] = refl
get_after (suc n) k (x ∷ xs) = let on : suc (n + k) ≡ suc n + k = omega arith in get_after n k xs ∙ ap (slice_get (x ∷ xs)) on

-- What the changelog has at the next item, and what comes after that.
pub record Comes (options : Options) (sets : List ChangeSet) (n : ℕ) (item : Item) (items : List Item) (last : ℕ) (rows : List Tracked) : Type 0 where
  pub x : ChangeSet
  pub at : slice_get sets item.index ≡ Some x
  pub has : what (view options x) rows ≡ Some item.what
  pub twins : list_any (is_twin (view options x)) (views options (drop (item.index + 1) sets)) ≡ false
  pub planned : ArePlanned (item.index + 1) (views options (drop (item.index + 1) sets)) items last rows
  pub calls : (d : Dialect) (stamp : Stamp) (c : Contents) → c.rows ≡ rows
      → sets_calls d any_meaning stamp (views options (drop n sets)) c ≡ sets_calls d any_meaning stamp (view options x ∷ views options (drop (item.index + 1) sets)) c
  pub settled : (d : Dialect) (stamp : Stamp) (c : Contents) → c.rows ≡ rows
      → all_settled d any_meaning stamp.reading (views options (drop n sets)) c ≡ all_settled d any_meaning stamp.reading (view options x ∷ views options (drop (item.index + 1) sets)) c
  pub prints : (d : Dialect) (stamp : Stamp) (c : Contents) → c.rows ≡ rows
      → printed d any_meaning stamp.reading (views options (drop n sets)) c ≡ printed d any_meaning stamp.reading (view options x ∷ views options (drop (item.index + 1) sets)) c

pub comes : (options : Options) (sets : List ChangeSet) (n : ℕ) (item : Item) (items : List Item) (last : ℕ) (rows : List Tracked) → ArePlanned n (views options (drop n sets)) (item ∷ items) last rows → Comes options sets n item items last rows
comes options sets n item items last rows plan =
    let next = next_in options rows (drop n sets) n item items plan.work in
    let place : suc (n + next.k) ≡ item.index + 1 = let is = next.place in omega arith in
    let behind : n + suc next.k ≡ item.index + 1 = let is = next.place in omega arith in
    let after : drop (suc next.k) (drop n sets) ≡ drop (item.index + 1) sets = drop-drop (suc next.k) n sets ∙ ap (λ i. drop i sets) behind in
    let apart : are_twins (view options next.x ∷ views options (drop (item.index + 1) sets)) ≡ false = ap (λ ys. are_twins (view options next.x ∷ views options ys)) (sym after) ∙ next.apart plan.apart in
    record {
      x = next.x;
      at = ap (slice_get sets) next.place ∙ (sym (get_after n next.k sets) ∙ next.at);
      has = next.has;
      twins = or_left _ (are_twins (views options (drop (item.index + 1) sets))) apart;
      planned = record {
        work = ap (λ i. work_from i (views options (drop (item.index + 1) sets)) rows) (sym place) ∙ (ap (λ ys. work_from (suc (n + next.k)) (views options ys) rows) (sym after) ∙ next.more);
        apart = or_right (list_any (is_twin (view options next.x)) (views options (drop (item.index + 1) sets))) _ apart;
        last_is = plan.last_is;
        small = plan.small;
      };
      calls = λ d stamp c same. next.calls d stamp c same ∙ ap (λ ys. sets_calls d any_meaning stamp (view options next.x ∷ views options ys) c) after;
      settled = λ d stamp c same. next.settled d stamp c same ∙ ap (λ ys. all_settled d any_meaning stamp.reading (view options next.x ∷ views options ys) c) after;
      prints = λ d stamp c same. next.prints d stamp c same ∙ ap (λ ys. printed d any_meaning stamp.reading (view options next.x ∷ views options ys) c) after;
    }
