-- The refusal that the calls of a turn come to is the one in how the turn ends.
use Rattle.std.proofs.Common.{ap, arith, subst, sym, ◌∙◌}
use Rattle.std.proofs.Math.Nat.{min-eq_left}
use Rattle.std.proofs.lemmas.List.{append_assoc, length-reverse}
use Rattle.std.specs.List.{list_any}
use Rattle.std.specs.Prelude.{Bool, Err, List, None, Ok, Option, Result, Some, [], false, if◌then◌else◌, length, not, refl, reverse, suc, true, ℕ, ◌+◌, ◌++◌, ◌-◌, ◌<◌, ◌^◌, ◌||◌, ◌∷◌, ◌≡◌, ◌≤◌}
use Rattle.lq_base.specs.declared.dialect.Dialect.{Dialect}
use Rattle.lq_base.specs.declared.reason.Reason.{Reason}
use Rattle.lq_base.specs.declared.tracking.Tracked.{Tracked}
use Rattle.lq_model.specs.Catalogue.{Catalogue}
use Rattle.lq_model.specs.Step.{commits_itself, step}
use Rattle.lq_model.specs.declared.caller.By.TheVariants.{User}
use Rattle.lq_model.specs.declared.statement.Statement.{Statement}
use Rattle.lq_turns.specs.Deed.{Contents, if_accepted, rows_after}
use Rattle.lq_turns.specs.Turn.{Course, Ending, Finished, Refused, Stuck, Through, apart, course, ending, is_marked, kept, led_by, mark, refused, row_calls, row_ending, statement_calls, turn_calls, unmark, up_to_last, within}
use Rattle.lq_turns.specs.declared.call.Call.{Call}
use Rattle.lq_turns.specs.declared.call.Call.TheVariants.{Begin, Commit, Execute}
use Rattle.lq_turns.specs.declared.deed.Deed.TheVariants.{Locks, Rows, Users}
use Rattle.lq_turns.specs.declared.deed.OnLock.TheVariants.{Marked}
use Rattle.lq_turns.specs.declared.stop.Refusal.{Refusal}
use Rattle.lq_turns.specs.declared.turn.Turn.{Turn}
use Rattle.lq_hand.specs.Way.{no_progress, one_more, refusal_at, with_accepted, with_refused, refusal_at_end, refused_by, refused_in}
use Rattle.lq_hand.specs.declared.progress.Coming.TheVariants as coming
use Rattle.lq_hand.specs.declared.progress.Progress.{Progress}

abbrev so_far : ℕ → ℕ → Progress
so_far n k = record { statement = n; kept = k }

abbrev refusal : ℕ → ℕ → Reason → Refusal
refusal n k reason = record { statement = n; kept = k; reason = reason }

abbrev with_users : Catalogue → List Tracked → Contents
with_users users rows = record { users = users; rows = rows }

-- a count that is in reach grows by one
grows : (n : ℕ) → n < 2 ^ 64 - 1 → one_more n ≡ suc n
grows n few =
    let small : n + 1 ≤ 2 ^ 64 - 1 = omega arith in
    let next : n + 1 ≡ suc n = omega arith in
    min-eq_left small ∙ next

counts_on : (own : Bool) (n k : ℕ) → n < 2 ^ 64 - 1 → with_accepted (coming.Statement own) (so_far n k) ≡ so_far (suc n) (if own then suc n else k)
counts_on own n k few = ap (λ m. so_far m (if own then m else k)) (grows n few)

counts_off : (own : Bool) (n k : ℕ) (reason : Reason) → n < 2 ^ 64 - 1 → refusal_at (with_refused (coming.Statement own) (so_far n k)) reason ≡ refusal (suc n) (if own then n else k) reason
counts_off true n k reason few = ap (λ m. refusal m n reason) (grows n few)
counts_off false n k reason few = ap (λ m. refusal m k reason) (grows n few)

less_by : (n m : ℕ) → n + suc m < 2 ^ 64 - 1 → n < 2 ^ 64 - 1
less_by n m few = omega arith

less_next : (n m : ℕ) → n + suc m < 2 ^ 64 - 1 → suc n + m < 2 ^ 64 - 1
less_next n m few = omega arith

fewer : (n : ℕ) (s : Statement) (ss : List Statement) → n + length (s ∷ ss) < 2 ^ 64 - 1 → (n < 2 ^ 64 - 1) × (suc n + length ss < 2 ^ 64 - 1)
fewer n s ss few = (less_by n (length ss) few, less_next n (length ss) few)

none_more : (n : ℕ) → n + 0 < 2 ^ 64 - 1 → n < 2 ^ 64 - 1
none_more n few = omega arith

-- the row, where n statements were accepted and k of them are kept
abbrev row_told : ℕ → ℕ → Result (List Tracked) Reason → Option Refusal
row_told n k (Ok rows) = None
row_told n k (Err reason) = Some (refusal (suc n) k reason)

module _ (d : Dialect) (row : Result (List Tracked) Reason) (marked : Statement → Bool) where
  abbrev counted_by : Statement → (ℕ → ℕ → Catalogue → Option Refusal) → ℕ → ℕ → Result (Catalogue × ℕ) Reason → Option Refusal
  counted_by s more n k (Ok r) = more (suc n) (if marked s then suc n else k) r.0
  counted_by s more n k (Err reason) = Some (refusal (suc n) (if marked s then n else k) reason)

  -- statement by statement, where n were accepted and k of them are kept
  abbrev counted : List Statement → ℕ → ℕ → Catalogue → Option Refusal
  counted [] n k users = row_told n k row
  counted (s ∷ ss) n k users = counted_by s (counted ss) n k (step User d s users)

-- the calls are counted so

module _ (d : Dialect) (who : List ℕ) (turn : Turn) (rows : List Tracked) where
  abbrev result : Result (List Tracked) Reason
  result = rows_after turn.row rows

  ends_well : (flag : Bool) (p : Progress) (c : Contents) → refused_in d ((if flag then Execute (Locks (Marked who)) ∷ [] else []) ++ Commit ∷ []) p c ≡ None
  ends_well true p c = refl
  ends_well false p c = refl

  row_counted : (n k : ℕ) (users : Catalogue) → n < 2 ^ 64 - 1 → refused_in d (row_calls d who turn) (so_far n k) (with_users users rows) ≡ row_told n k result
  row_counted n k users few = elim result as (λ r. refused_by d (Rows turn.row) (refused_in d (unmark d who turn ++ Commit ∷ [])) (so_far n k) (if_accepted (λ z. with_users users z) r) ≡ row_told n k r) [
    | Ok now ↦ ends_well (list_any (is_marked d turn) turn.statements) (so_far n k) (with_users users now)
    | Err reason ↦ ap (λ m. Some (refusal m k reason)) (grows n few)
  ]

  -- a statement, and what comes after it
  one_counted : (s : Statement) (marked : Statement → Bool) (calls : List Call) (more : ℕ → ℕ → Catalogue → Option Refusal) (n k : ℕ) (users : Catalogue) → n < 2 ^ 64 - 1
      → ((reason : Reason) → refusal (suc n) (if commits_itself d s then n else k) reason ≡ refusal (suc n) (if marked s then n else k) reason)
      → ((r : Catalogue) → refused_in d calls (so_far (suc n) (if commits_itself d s then suc n else k)) (with_users r rows) ≡ more (suc n) (if marked s then suc n else k) r)
      → refused_in d (Execute (Users s) ∷ calls) (so_far n k) (with_users users rows) ≡ counted_by d result marked s more n k (step User d s users)
  one_counted s marked calls more n k users few off on = elim (step User d s users) as (λ r. refused_by d (Users s) (refused_in d calls) (so_far n k) (if_accepted (λ z. with_users z.0 rows) r) ≡ counted_by d result marked s more n k r) [
    | Ok r ↦ ap (λ p. refused_in d calls p (with_users r.0 rows)) (counts_on (commits_itself d s) n k few) ∙ on r.0
    | Err reason ↦ ap Some (counts_off (commits_itself d s) n k reason few ∙ off reason)
  ]

  within_counted : (own : Bool) (j : ℕ) (s : Statement) (calls : List Call) (p : Progress) (c : Contents)
      → refused_in d ((if own then mark who turn j ∷ Execute (Users s) ∷ [] else Execute (Users s) ∷ []) ++ calls) p c ≡ refused_in d (Execute (Users s) ∷ calls) p c
  within_counted true j s calls p c = refl
  within_counted false j s calls p c = refl

  -- in one transaction those that commit by themselves are kept
  whole_counted : turn.in_transaction ≡ true → (j : ℕ) (ss : List Statement) (n k : ℕ) (users : Catalogue) → n + length ss < 2 ^ 64 - 1
      → refused_in d (statement_calls d who turn j ss ++ row_calls d who turn) (so_far n k) (with_users users rows) ≡ counted d result (commits_itself d) ss n k users
  whole_counted is j [] n k users few = row_counted n k users (none_more n few)
  whole_counted is j (s ∷ ss) n k users few =
      let left = fewer n s ss few in
      let more = statement_calls d who turn (suc j) ss ++ row_calls d who turn in
      ap (λ calls. refused_in d calls (so_far n k) (with_users users rows))
      (ap (λ b. ((if b then within d who turn j s else apart who turn j s) ++ statement_calls d who turn (suc j) ss) ++ row_calls d who turn) is
      ∙ append_assoc (within d who turn j s) (statement_calls d who turn (suc j) ss) (row_calls d who turn))
      ∙ within_counted (commits_itself d s) j s more (so_far n k) (with_users users rows)
      ∙ one_counted s (commits_itself d) more (counted d result (commits_itself d) ss) n k users left.0 (λ reason. refl) (λ r. whole_counted is (suc j) ss (suc n) (if commits_itself d s then suc n else k) r left.1)

  same_if : (b : Bool) (n : ℕ) → (if b then n else n) ≡ n
  same_if true n = refl
  same_if false n = refl

  -- each in a transaction of its own, all are kept
  parts_counted : turn.in_transaction ≡ false → (j : ℕ) (ss : List Statement) (n : ℕ) (users : Catalogue) → n + length ss < 2 ^ 64 - 1
      → refused_in d (statement_calls d who turn j ss ++ Begin ∷ row_calls d who turn) (so_far n n) (with_users users rows) ≡ counted d result (λ s. true) ss n n users
  parts_counted is j [] n users few = row_counted n n users (none_more n few)
  parts_counted is j (s ∷ ss) n users few =
      let left = fewer n s ss few in
      let more = statement_calls d who turn (suc j) ss ++ Begin ∷ row_calls d who turn in
      ap (λ calls. refused_in d calls (so_far n n) (with_users users rows))
      (ap (λ b. ((if b then within d who turn j s else apart who turn j s) ++ statement_calls d who turn (suc j) ss) ++ Begin ∷ row_calls d who turn) is
      ∙ append_assoc (apart who turn j s) (statement_calls d who turn (suc j) ss) (Begin ∷ row_calls d who turn))
      ∙ one_counted s (λ z. true) (Commit ∷ more) (counted d result (λ z. true) ss) n n users left.0
      (λ reason. ap (λ k. refusal (suc n) k reason) (same_if (commits_itself d s) n))
      (λ r. parts_counted is (suc j) ss (suc n) r left.1)

-- and so is the ending

none_up : (test : Statement → Bool) (ss : List Statement) → list_any test ss ≡ false → up_to_last test ss ≡ []
none_up test [] none = refl
none_up test (s ∷ ss) none = ap (λ b. if b then s ∷ up_to_last test ss else []) none

next_plus : (n m : ℕ) → suc n + m ≡ n + suc m
next_plus n m = omega arith

next_length : (n : ℕ) (s : Statement) (ss : List Statement) → suc n + length ss ≡ n + length (s ∷ ss)
next_length n s ss = next_plus n (length ss)

zero_more : (n : ℕ) → n + 0 ≡ n
zero_more n = omega arith

zero_first : (n : ℕ) → 0 + n ≡ n
zero_first n = omega arith

module _ (d : Dialect) (row : Result (List Tracked) Reason) (marked : Statement → Bool) where
  -- how many are kept, where k were before these
  abbrev keeps : ℕ → ℕ → List Statement → Bool → ℕ
  keeps n k before true = n + length before
  keeps n k before false = if list_any marked before then n + length (up_to_last marked before) else k

  abbrev told : ℕ → ℕ → List Statement → Course → Option Refusal
  told n k ss (Through users) = row_told (n + length ss) (keeps n k ss false) row
  told n k ss (Stuck before s reason) = Some (refusal (suc (n + length before)) (keeps n k before (marked s)) reason)

  keeps_by : (n k : ℕ) (s : Statement) (before : List Statement) (m any : Bool) → list_any marked before ≡ any
      → (if any then suc n + length (up_to_last marked before) else if m then suc n else k) ≡ (if m || any then n + length (if m || any then s ∷ up_to_last marked before else []) else k)
  keeps_by n k s before true true is = next_length n s (up_to_last marked before)
  keeps_by n k s before false true is = next_length n s (up_to_last marked before)
  keeps_by n k s before true false is = sym (ap (λ (ss : List Statement). n + length (s ∷ ss)) (none_up marked before is) ∙ sym (next_length n s []) ∙ zero_more (suc n))
  keeps_by n k s before false false is = refl

  keeps_next : (n k : ℕ) (s : Statement) (before : List Statement) (own : Bool) → keeps (suc n) (if marked s then suc n else k) before own ≡ keeps n k (s ∷ before) own
  keeps_next n k s before true = next_length n s before
  keeps_next n k s before false = keeps_by n k s before (marked s) (list_any marked before) refl

  led : (n k : ℕ) (s : Statement) (ss : List Statement) (q : Course) → told (suc n) (if marked s then suc n else k) ss q ≡ told n k (s ∷ ss) (led_by s q)
  led n k s ss (Through users) = ap (λ m. row_told m (keeps (suc n) (if marked s then suc n else k) ss false) row) (next_length n s ss)
      ∙ ap (λ m. row_told (n + length (s ∷ ss)) m row) (keeps_next n k s ss false)
  led n k s ss (Stuck before z reason) = ap (λ m. Some (refusal (suc m) (keeps (suc n) (if marked s then suc n else k) before (marked z)) reason)) (next_length n s before)
      ∙ ap (λ m. Some (refusal (suc (n + length (s ∷ before))) m reason)) (keeps_next n k s before (marked z))

  stuck_first : (n k : ℕ) (own : Bool) → (if own then n else k) ≡ keeps n k [] own
  stuck_first n k true = sym (zero_more n)
  stuck_first n k false = refl

  counted_is : (ss : List Statement) (n k : ℕ) (users : Catalogue) → counted d row marked ss n k users ≡ told n k ss (course d ss users)
  counted_is [] n k users = ap (λ m. row_told m k row) (sym (zero_more n))
  counted_is (s ∷ ss) n k users = elim (step User d s users) as (λ q. counted_by d row marked s (counted d row marked ss) n k q ≡ told n k (s ∷ ss) (elim q as (λ _. Course) [ Ok r ↦ led_by s (course d ss r.0) | Err reason ↦ Stuck [] s reason ])) [
    | Ok r ↦ counted_is ss (suc n) (if marked s then suc n else k) r.0 ∙ led n k s ss (course d ss r.0)
    | Err reason ↦ ap (λ m. Some (refusal (suc m) (if marked s then n else k) reason)) (sym (zero_more n)) ∙ ap (λ m. Some (refusal (suc (n + 0)) m reason)) (stuck_first n k (marked s))
  ]

module _ (d : Dialect) (turn : Turn) (c : Contents) where
  abbrev marks : Statement → Bool
  marks = is_marked d turn

  abbrev row_result : Result (List Tracked) Reason
  row_result = rows_after turn.row c.rows

  kept_by : (before : List Statement) (any : Bool) → list_any marks before ≡ any → (if any then 0 + length (up_to_last marks before) else 0) ≡ length (up_to_last marks before)
  kept_by before true is = zero_first (length (up_to_last marks before))
  kept_by before false is = sym (ap (λ (ss : List Statement). length ss) (none_up marks before is))

  kept_is : (before : List Statement) (own : Bool) → keeps d row_result marks 0 0 before own ≡ length (kept d turn before own)
  kept_is before true = zero_first (length before)
  kept_is before false = kept_by before (list_any marks before) refl

  row_is : (users : Catalogue) (r : Result (List Tracked) Reason) → row_told (0 + length turn.statements) (keeps d row_result marks 0 0 turn.statements false) r
      ≡ refusal_at_end (elim r as (λ _. Ending) [ Ok rows ↦ Finished (record { users = users; rows = rows }) | Err reason ↦ refused d turn.statements (kept d turn turn.statements false) reason c ])
  row_is users (Ok rows) = refl
  row_is users (Err reason) = ap (λ m. Some (refusal (suc m) (keeps d row_result marks 0 0 turn.statements false) reason)) (zero_first (length turn.statements))
      ∙ ap (λ k. Some (refusal (suc (length turn.statements)) k reason)) (kept_is turn.statements false)

  told_is : (q : Course) → told d row_result marks 0 0 turn.statements q ≡ refusal_at_end (elim q as (λ _. Ending) [ Through users ↦ row_ending d turn users c | Stuck before s reason ↦ refused d before (kept d turn before (is_marked d turn s)) reason c ])
  told_is (Through users) = row_is users row_result
  told_is (Stuck before s reason) = ap (λ m. Some (refusal (suc m) (keeps d row_result marks 0 0 before (is_marked d turn s)) reason)) (zero_first (length before))
      ∙ ap (λ k. Some (refusal (suc (length before)) k reason)) (kept_is before (is_marked d turn s))

  ends : counted d row_result marks turn.statements 0 0 c.users ≡ refusal_at_end (ending d turn c)
  ends = counted_is d row_result marks turn.statements 0 0 c.users ∙ told_is (course d turn.statements c.users)

from_none : (n : ℕ) → n < 2 ^ 64 - 1 → 0 + n < 2 ^ 64 - 1
from_none n few = omega arith

-- the calls of a turn that has fewer statements than can be counted
pub turn_refused : (d : Dialect) (who : List ℕ) (turn : Turn) (c : Contents) → length turn.statements < 2 ^ 64 - 1 → refused_in d (turn_calls d who turn) no_progress c ≡ refusal_at_end (ending d turn c)
turn_refused d who turn c few = elim turn.in_transaction as (λ b. refused_in d (turn_calls d who (record turn { in_transaction = b })) no_progress c ≡ refusal_at_end (ending d (record turn { in_transaction = b }) c)) [
  | true ↦ whole_counted d who (record turn { in_transaction = true }) c.rows refl 1 turn.statements 0 0 c.users (from_none (length turn.statements) few) ∙ ends d (record turn { in_transaction = true }) c
  | false ↦ parts_counted d who (record turn { in_transaction = false }) c.rows refl 1 turn.statements 0 c.users (from_none (length turn.statements) few) ∙ ends d (record turn { in_transaction = false }) c
]

-- that few it has where its calls are

one_more_call : (a b c : ℕ) → a + b ≤ c → suc a + b ≤ suc c
one_more_call a b c less = omega arith

two_more_calls : (a b c : ℕ) → a + b ≤ c → suc a + b ≤ suc (suc c)
two_more_calls a b c less = omega arith

four_more_calls : (a b c : ℕ) → a + b ≤ c → suc a + b ≤ suc (suc (suc (suc c)))
four_more_calls a b c less = omega arith

none_at_least : (a : ℕ) → 0 + a ≤ a
none_at_least a = omega arith

two_at_least : (a : ℕ) → 2 ≤ suc (suc a)
two_at_least a = omega arith

with_begin : (a row all : ℕ) → 2 ≤ row → a + row ≤ all → a + 2 ≤ suc all
with_begin a row all two less = omega arith

before_begin : (a row all : ℕ) → 2 ≤ row → a + suc row ≤ all → a + 2 ≤ all
before_begin a row all two less = omega arith

in_reach : (a count : ℕ) → a + 2 ≤ count → count < 2 ^ 64 → a < 2 ^ 64 - 1
in_reach a count most range = omega arith

module _ (d : Dialect) (who : List ℕ) (turn : Turn) where
  more_calls : (j : ℕ) (ss : List Statement) (tail : List Call) → length ss + length tail ≤ length (statement_calls d who turn j ss ++ tail)
  more_calls j [] tail = none_at_least (length tail)
  more_calls j (s ∷ ss) tail = by turn.in_transaction (commits_itself d s) (more_calls (suc j) ss tail) where
    by : (whole own : Bool) → length ss + length tail ≤ length (statement_calls d who turn (suc j) ss ++ tail)
        → length (s ∷ ss) + length tail ≤ length (((if whole then (if own then mark who turn j ∷ Execute (Users s) ∷ [] else Execute (Users s) ∷ []) else apart who turn j s) ++ statement_calls d who turn (suc j) ss) ++ tail)
    by true true more = two_more_calls (length ss) (length tail) _ more
    by true false more = one_more_call (length ss) (length tail) _ more
    by false own more = four_more_calls (length ss) (length tail) _ more

  row_two : (flag : Bool) → 2 ≤ length (Execute (Rows turn.row) ∷ (if flag then Execute (Locks (Marked who)) ∷ [] else []) ++ Commit ∷ [])
  row_two true = two_at_least 1
  row_two false = two_at_least 0

  fewer_than_calls : length turn.statements + 2 ≤ length (turn_calls d who turn)
  fewer_than_calls = by turn.in_transaction where
    by : (whole : Bool) → length turn.statements + 2 ≤ length (if whole then Begin ∷ statement_calls d who turn 1 turn.statements ++ row_calls d who turn else statement_calls d who turn 1 turn.statements ++ Begin ∷ row_calls d who turn)
    by true = with_begin (length turn.statements) (length (row_calls d who turn)) _ (row_two (list_any (is_marked d turn) turn.statements)) (more_calls 1 turn.statements (row_calls d who turn))
    by false = before_begin (length turn.statements) (length (row_calls d who turn)) _ (row_two (list_any (is_marked d turn) turn.statements)) (more_calls 1 turn.statements (Begin ∷ row_calls d who turn))

  pub few_statements : (calls : List Call) (count : ℕ) → reverse calls ≡ turn_calls d who turn → count ≡ length calls → count < 2 ^ 64 → length turn.statements < 2 ^ 64 - 1
  few_statements calls count is counts range =
      let as_many : length (turn_calls d who turn) ≡ count = sym (ap (λ (cs : List Call). length cs) is) ∙ length-reverse calls ∙ sym counts in
      in_reach (length turn.statements) count (subst (λ n. length turn.statements + 2 ≤ n) as_many fewer_than_calls) range
