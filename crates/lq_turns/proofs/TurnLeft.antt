-- What the calls of a turn leave is its ending, in each way of committing.
use Rattle.std.proofs.Common.{ap, subst, sym, ◌∙◌}
use Rattle.std.proofs.lemmas.List.{append_assoc}
use Rattle.std.specs.List.{list_all, list_any}
use Rattle.std.specs.Prelude.{Bool, Err, List, Ok, Result, [], false, if◌then◌else◌, refl, suc, true, ℕ, ◌++◌, ◌||◌, ◌∷◌, ◌≡◌}
use Rattle.lq_base.specs.declared.dialect.Dialect.{Dialect}
use Rattle.lq_base.specs.declared.dialect.Dialect.TheVariants.{Mysql, Postgresql}
use Rattle.lq_base.specs.declared.reason.Reason.{Reason}
use Rattle.lq_base.specs.declared.tracking.Tracked.{Tracked}
use Rattle.lq_model.proofs.KeepsSound.{statement_keeps}
use Rattle.lq_model.proofs.Lists.{and_left, and_right}
use Rattle.lq_model.specs.Catalogue.{Catalogue}
use Rattle.lq_model.specs.Sound.{IsSound}
use Rattle.lq_model.specs.Step.{is_statement, step, commits_itself}
use Rattle.lq_model.specs.declared.caller.By.TheVariants.{User}
use Rattle.lq_model.specs.declared.statement.Statement.{Statement}
use Rattle.lq_turns.specs.Deed.{Contents, if_accepted, rows_after}
use Rattle.lq_turns.specs.Session.{Session, all_called, is_own, Both, committed_if, went, went_by}
use Rattle.lq_turns.specs.declared.call.Call.{Call}
use Rattle.lq_turns.specs.declared.call.Call.TheVariants.{Begin, Commit, Execute}
use Rattle.lq_turns.specs.declared.deed.Deed.TheVariants.{Locks, Rows, Users}
use Rattle.lq_turns.specs.declared.deed.OnLock.TheVariants.{Marked}
use Rattle.lq_turns.specs.declared.deed.OnRows.{OnRows}
use Rattle.lq_turns.specs.declared.deed.OnRows.TheVariants.{Cleared, Deleted, Filled, Inserted, Renewed, Tagged}
use Rattle.lq_turns.specs.declared.turn.Turn.{Turn}
use Rattle.lq_turns.specs.Turn.{Course, Ending, Finished, Stuck, Through, apart, contents_in, course, ending, is_marked, kept, led_by, made, mark, mark_text, refused, row_calls, row_ending, run_on, statement_calls, turn_calls, unmark, up_to_last, within}
use Rattle.lq_turns.proofs.Made.{At, is_turns, takes, with_users}

abbrev pub twice : Contents → Both
twice c = (c, c)

pub mark_not_own : (d : Dialect) (by : List ℕ) → is_own d (Locks (Marked by)) ≡ false
mark_not_own Postgresql by = refl
mark_not_own Mysql by = refl

pub row_not_own : (d : Dialect) (w : OnRows) → is_own d (Rows w) ≡ false
row_not_own Postgresql w = refl
row_not_own Mysql (Inserted row) = refl
row_not_own Mysql (Renewed row) = refl
row_not_own Mysql (Deleted of) = refl
row_not_own Mysql (Filled of sum) = refl
row_not_own Mysql (Tagged of tag) = refl
row_not_own Mysql Cleared = refl

abbrev kept_if : Bool → Catalogue → Catalogue → Catalogue
kept_if true a b = b
kept_if false a b = a

module _ (d : Dialect) (row : OnRows) (rows : List Tracked) (marked : Statement → Bool) where
  abbrev end : Catalogue → Catalogue → Result (List Tracked) Reason → Contents
  end a b (Ok now) = with_users b now
  end a b (Err reason) = with_users a rows

  abbrev left_by : Statement → (Catalogue → Catalogue → Contents) → Catalogue → Catalogue → Result (Catalogue × ℕ) Reason → Contents
  left_by s go a b (Ok r) = go (kept_if (marked s) a r.0) r.0
  left_by s go a b (Err reason) = with_users (kept_if (marked s) a b) rows

  -- what stays where a is committed and b is seen
  abbrev left : List Statement → Catalogue → Catalogue → Contents
  left [] a b = end a b (rows_after row rows)
  left (s ∷ ss) a b = left_by s (left ss) a b (step User d s b)

kept_is : (m : Bool) (a b : Catalogue) (rows : List Tracked) → committed_if m (with_users a rows) (with_users b rows) ≡ with_users (kept_if m a b) rows
kept_is true a b rows = refl
kept_is false a b rows = refl

unmarked : (d : Dialect) (who : List ℕ) (flag : Bool) (x : Both) → went d ((if flag then Execute (Locks (Marked who)) ∷ [] else []) ++ Commit ∷ []) x ≡ twice x.1
unmarked d who true x = refl
unmarked d who false x = refl

module _ (d : Dialect) (who : List ℕ) (rows : List Tracked) where
  row_part : (turn : Turn) (a b : Catalogue) → went d (row_calls d who turn) (with_users a rows, with_users b rows) ≡ twice (end d turn.row rows (λ s. true) a b (rows_after turn.row rows))
  row_part turn a b = elim (rows_after turn.row rows) as (λ r. went_by d (Rows turn.row) (went d (unmark d who turn ++ Commit ∷ [])) (with_users a rows, with_users b rows) (if_accepted (λ z. with_users b z) r) ≡ twice (end d turn.row rows (λ s. true) a b r)) [
    | Ok now ↦ unmarked d who (list_any (is_marked d turn) turn.statements) (committed_if (is_own d (Rows turn.row)) (with_users a rows) (with_users b now), with_users b now)
    | Err reason ↦ ap (λ o. twice (committed_if o (with_users a rows) (with_users b rows))) (row_not_own d turn.row)
  ]

  module _ (turn : Turn) where
    abbrev whole : Turn
    whole = record turn { in_transaction = true }

    abbrev parted : Turn
    parted = record turn { in_transaction = false }

    -- a statement of the turn's transaction, and what comes after it
    exec : (s : Statement) (ss : List Statement) (calls : List Call) (a b : Catalogue)
        → ((x y : Catalogue) → went d calls (with_users x rows, with_users y rows) ≡ twice (left d turn.row rows (commits_itself d) ss x y))
        → went d (Execute (Users s) ∷ calls) (with_users a rows, with_users b rows) ≡ twice (left d turn.row rows (commits_itself d) (s ∷ ss) a b)
    exec s ss calls a b more = elim (step User d s b) as (λ r. went_by d (Users s) (went d calls) (with_users a rows, with_users b rows) (if_accepted (λ z. with_users z.0 rows) r) ≡ twice (left_by d turn.row rows (commits_itself d) s (left d turn.row rows (commits_itself d) ss) a b r)) [
      | Ok r ↦ ap (λ c. went d calls (c, with_users r.0 rows)) (kept_is (commits_itself d s) a r.0 rows) ∙ more (kept_if (commits_itself d s) a r.0) r.0
      | Err reason ↦ ap twice (kept_is (commits_itself d s) a b rows)
    ]

    within_whole : (k : ℕ) (s : Statement) (ss : List Statement) (calls : List Call) (a b : Catalogue) (flag : Bool)
        → ((x y : Catalogue) → went d (calls ++ row_calls d who whole) (with_users x rows, with_users y rows) ≡ twice (left d turn.row rows (commits_itself d) ss x y))
        → went d (((if flag then mark who whole k ∷ Execute (Users s) ∷ [] else Execute (Users s) ∷ []) ++ calls) ++ row_calls d who whole) (with_users a rows, with_users b rows) ≡ twice (left d turn.row rows (commits_itself d) (s ∷ ss) a b)
    within_whole k s ss calls a b true more = ap (λ o. went d (Execute (Users s) ∷ (calls ++ row_calls d who whole)) (committed_if o (with_users a rows) (with_users b rows), with_users b rows)) (mark_not_own d _) ∙ exec s ss (calls ++ row_calls d who whole) a b more
    within_whole k s ss calls a b false more = exec s ss (calls ++ row_calls d who whole) a b more

    in_whole : (k : ℕ) (ss : List Statement) (a b : Catalogue) → went d (statement_calls d who whole k ss ++ row_calls d who whole) (with_users a rows, with_users b rows) ≡ twice (left d turn.row rows (commits_itself d) ss a b)
    in_whole k [] a b = row_part whole a b
    in_whole k (s ∷ ss) a b = within_whole k s ss (statement_calls d who whole (suc k) ss) a b (commits_itself d s) (in_whole (suc k) ss)

    -- a statement in a transaction of its own
    exec_apart : (s : Statement) (ss : List Statement) (calls : List Call) (x : Contents) (a : Catalogue)
        → ((y : Catalogue) → went d calls (with_users y rows, with_users y rows) ≡ twice (left d turn.row rows (λ z. true) ss y y))
        → committed_if (is_own d (Users s)) x (with_users a rows) ≡ with_users a rows
        → went d (Execute (Users s) ∷ Commit ∷ calls) (x, with_users a rows) ≡ twice (left d turn.row rows (λ z. true) (s ∷ ss) a a)
    exec_apart s ss calls x a more same = elim (step User d s a) as (λ r. went_by d (Users s) (went d (Commit ∷ calls)) (x, with_users a rows) (if_accepted (λ z. with_users z.0 rows) r) ≡ twice (left_by d turn.row rows (λ z. true) s (left d turn.row rows (λ z. true) ss) a a r)) [
      | Ok r ↦ more r.0
      | Err reason ↦ ap twice same
    ]

    same_if : (o : Bool) (c : Contents) → committed_if o c c ≡ c
    same_if true c = refl
    same_if false c = refl

    in_parts : (k : ℕ) (ss : List Statement) (a : Catalogue) → went d (statement_calls d who parted k ss ++ Begin ∷ row_calls d who parted) (with_users a rows, with_users a rows) ≡ twice (left d turn.row rows (λ z. true) ss a a)
    in_parts k [] a = row_part parted a a
    in_parts k (s ∷ ss) a = exec_apart s ss (statement_calls d who parted (suc k) ss ++ Begin ∷ row_calls d who parted) (committed_if (is_own d (Locks (Marked (mark_text who parted k)))) (with_users a rows) (with_users a rows)) a (in_parts (suc k) ss) (ap (λ o. committed_if (is_own d (Users s)) o (with_users a rows)) (same_if _ (with_users a rows)) ∙ same_if (is_own d (Users s)) (with_users a rows))

-- which statements stay, told by number

or_true : (b : Bool) → (b || true) ≡ true
or_true true = refl
or_true false = refl

none_up : (test : Statement → Bool) (ss : List Statement) → list_any test ss ≡ false → up_to_last test ss ≡ []
none_up test [] none = refl
none_up test (s ∷ ss) none = ap (λ b. if b then s ∷ up_to_last test ss else []) none

module _ (d : Dialect) (turn : Turn) (rows : List Tracked) where
  abbrev marked : Statement → Bool
  marked = is_marked d turn

  -- the users' objects that stay where a is committed, b is seen, and of these statements those that passed the test were committed by themselves
  abbrev staying : List Statement → Bool → Catalogue → Catalogue → Catalogue
  staying before own a b = kept_if (own || list_any marked before) a (run_on d (kept d turn before own) b)

  abbrev told : List Statement → Catalogue → Catalogue → Course → Contents
  told ss a b (Through users) = end d turn.row rows marked (staying ss false a b) users (rows_after turn.row rows)
  told ss a b (Stuck before s reason) = with_users (staying before (marked s) a b) rows

  -- a statement that was accepted, before the others
  first : (s : Statement) (ss : List Statement) (b : Catalogue) (r : Catalogue × ℕ) → step User d s b ≡ Ok r → run_on d (s ∷ ss) b ≡ run_on d ss r.0
  first s ss b r is = ap (λ q. elim q as (λ _. Catalogue) [ Ok x ↦ run_on d ss x.0 | Err reason ↦ b ]) is

  stays_by : (s : Statement) (before : List Statement) (a b : Catalogue) (r : Catalogue × ℕ) → step User d s b ≡ Ok r → (m o : Bool) → list_any marked before ≡ o
      → kept_if o (kept_if m a r.0) (run_on d (up_to_last marked before) r.0) ≡ kept_if (m || o) a (run_on d (if m || o then s ∷ up_to_last marked before else []) b)
  stays_by s before a b r is true true any = sym (first s (up_to_last marked before) b r is)
  stays_by s before a b r is true false any = sym (ap (λ ss. run_on d ss r.0) (none_up marked before any)) ∙ sym (first s (up_to_last marked before) b r is)
  stays_by s before a b r is false true any = sym (first s (up_to_last marked before) b r is)
  stays_by s before a b r is false false any = refl

  stays_before : (s : Statement) (before : List Statement) (own : Bool) (a b : Catalogue) (r : Catalogue × ℕ) → step User d s b ≡ Ok r
      → staying before own (kept_if (marked s) a r.0) r.0 ≡ staying (s ∷ before) own a b
  stays_before s before true a b r is = sym (first s before b r is)
  stays_before s before false a b r is = stays_by s before a b r is (marked s) (list_any marked before) refl

  led : (s : Statement) (ss : List Statement) (a b : Catalogue) (r : Catalogue × ℕ) → step User d s b ≡ Ok r → (q : Course)
      → told ss (kept_if (marked s) a r.0) r.0 q ≡ told (s ∷ ss) a b (led_by s q)
  led s ss a b r is (Through users) = ap (λ x. end d turn.row rows marked x users (rows_after turn.row rows)) (stays_before s ss false a b r is)
  led s ss a b r is (Stuck before z reason) = ap (λ x. with_users x rows) (stays_before s before (marked z) a b r is)

  none_before : (o : Bool) (a b : Catalogue) → kept_if o a b ≡ kept_if (o || false) a (run_on d (if o then [] else []) b)
  none_before true a b = refl
  none_before false a b = refl

  left_is : (ss : List Statement) (a b : Catalogue) → left d turn.row rows marked ss a b ≡ told ss a b (course d ss b)
  left_is [] a b = refl
  left_is (s ∷ ss) a b = elim (step User d s b) as (λ q. step User d s b ≡ q → left_by d turn.row rows marked s (left d turn.row rows marked ss) a b q ≡ told (s ∷ ss) a b (elim q as (λ _. Course) [ Ok r ↦ led_by s (course d ss r.0) | Err reason ↦ Stuck [] s reason ])) [
    | Ok r ↦ λ is. left_is ss (kept_if (marked s) a r.0) r.0 ∙ led s ss a b r is (course d ss r.0)
    | Err reason ↦ λ is. ap (λ x. with_users x rows) (none_before (marked s) a b)
  ] refl

  all_stays : (before : List Statement) (u : Catalogue) (own any : Bool) → list_any marked before ≡ any → kept_if (own || any) u (run_on d (kept d turn before own) u) ≡ run_on d (kept d turn before own) u
  all_stays before u true any is = refl
  all_stays before u false true is = refl
  all_stays before u false false is = sym (ap (λ ss. run_on d ss u) (none_up marked before is))

module _ (d : Dialect) (turn : Turn) (c : Contents) where
  told_row : (users : Catalogue) (r : Result (List Tracked) Reason) → end d turn.row c.rows (is_marked d turn) (staying d turn c.rows turn.statements false c.users c.users) users r
      ≡ contents_in (elim r as (λ _. Ending) [ Ok rows ↦ Finished (record { users = users; rows = rows }) | Err reason ↦ refused d turn.statements (kept d turn turn.statements false) reason c ])
  told_row users (Ok now) = refl
  told_row users (Err reason) = ap (λ x. with_users x c.rows) (all_stays d turn c.rows turn.statements c.users false (list_any (is_marked d turn) turn.statements) refl)

  told_is : (q : Course) → told d turn c.rows turn.statements c.users c.users q ≡ contents_in (elim q as (λ _. Ending) [ Through users ↦ row_ending d turn users c | Stuck before s reason ↦ refused d before (kept d turn before (is_marked d turn s)) reason c ])
  told_is (Through users) = told_row users (rows_after turn.row c.rows)
  told_is (Stuck before s reason) = ap (λ x. with_users x c.rows) (all_stays d turn c.rows before c.users (is_marked d turn s) (list_any (is_marked d turn) before) refl)

  ends : left d turn.row c.rows (is_marked d turn) turn.statements c.users c.users ≡ contents_in (ending d turn c)
  ends = left_is d turn c.rows turn.statements c.users c.users ∙ told_is (course d turn.statements c.users)

-- the calls of a turn leave its ending
pub turn_goes : (d : Dialect) (who : List ℕ) (turn : Turn) (c : Contents) → went d (turn_calls d who turn) (c, c) ≡ twice (contents_in (ending d turn c))
turn_goes d who turn c = elim turn.in_transaction as (λ b. went d (turn_calls d who (record turn { in_transaction = b })) (c, c) ≡ twice (contents_in (ending d (record turn { in_transaction = b }) c))) [
  | true ↦ in_whole d who c.rows turn 1 turn.statements c.users c.users ∙ ap twice (ends d (record turn { in_transaction = true }) c)
  | false ↦ in_parts d who c.rows turn 1 turn.statements c.users ∙ ap twice (ends d (record turn { in_transaction = false }) c)
]

-- and are a turn's

module _ (d : Dialect) (who : List ℕ) (turn : Turn) where
  within_turns : (k : ℕ) (s : Statement) (own whole : Bool) (more : List Call) → list_all is_turns more ≡ true
      → list_all is_turns ((if whole then (if own then mark who turn k ∷ Execute (Users s) ∷ [] else Execute (Users s) ∷ []) else apart who turn k s) ++ more) ≡ true
  within_turns k s true true more all = all
  within_turns k s false true more all = all
  within_turns k s own false more all = all

  statements_turns : (k : ℕ) (ss : List Statement) (more : List Call) → list_all is_turns more ≡ true → list_all is_turns (statement_calls d who turn k ss ++ more) ≡ true
  statements_turns k [] more all = all
  statements_turns k (s ∷ ss) more all = ap (list_all is_turns) (append_assoc (if turn.in_transaction then within d who turn k s else apart who turn k s) (statement_calls d who turn (suc k) ss) more)
      ∙ within_turns k s (commits_itself d s) turn.in_transaction (statement_calls d who turn (suc k) ss ++ more) (statements_turns (suc k) ss more all)

  row_turns : (flag : Bool) → list_all is_turns ((if flag then Execute (Locks (Marked who)) ∷ [] else []) ++ Commit ∷ []) ≡ true
  row_turns true = refl
  row_turns false = refl

  turn_turns : (whole : Bool) → list_all is_turns (if whole then Begin ∷ statement_calls d who turn 1 turn.statements ++ row_calls d who turn else statement_calls d who turn 1 turn.statements ++ Begin ∷ row_calls d who turn) ≡ true
  turn_turns true = statements_turns 1 turn.statements (row_calls d who turn) (row_turns (list_any (is_marked d turn) turn.statements))
  turn_turns false = statements_turns 1 turn.statements (Begin ∷ row_calls d who turn) (row_turns (list_any (is_marked d turn) turn.statements))

-- a session on some contents takes a turn to its ending
pub turn_taken : (d : Dialect) (who : List ℕ) (turn : Turn) (c : Contents) (s : Session) → At s (c, c) → At (all_called d (made d (turn_calls d who turn) c) s) (twice (contents_in (ending d turn c)))
turn_taken d who turn c s at = subst (At (all_called d (made d (turn_calls d who turn) c) s)) (turn_goes d who turn c) (takes d (turn_calls d who turn) (c, c) s (turn_turns d who turn turn.in_transaction) at)

-- and it is sound

kept_sound : (d : Dialect) (m : Bool) (a b : Catalogue) → IsSound d a → IsSound d b → IsSound d (kept_if m a b)
kept_sound d true a b first second = second
kept_sound d false a b first second = first

module _ (d : Dialect) (row : OnRows) (rows : List Tracked) (marked : Statement → Bool) where
  end_sound : (a b : Catalogue) (r : Result (List Tracked) Reason) → IsSound d a → IsSound d b → IsSound d (end d row rows marked a b r).users
  end_sound a b (Ok now) first second = second
  end_sound a b (Err reason) first second = first

  left_sound : (ss : List Statement) (a b : Catalogue) → list_all (is_statement d) ss ≡ true → IsSound d a → IsSound d b → IsSound d (left d row rows marked ss a b).users
  left_sound [] a b all first second = end_sound a b (rows_after row rows) first second
  left_sound (s ∷ ss) a b all first second = elim (step User d s b) as (λ q. step User d s b ≡ q → IsSound d (left_by d row rows marked s (left d row rows marked ss) a b q).users) [
    | Ok r ↦ λ is.
        let now = statement_keeps d s User b r.0 r.1 (and_left _ (list_all (is_statement d) ss) all) second is in
        left_sound ss (kept_if (marked s) a r.0) r.0 (and_right (is_statement d s) _ all) (kept_sound d (marked s) a r.0 first now) now
    | Err reason ↦ λ is. kept_sound d (marked s) a b first second
  ] refl

pub ending_sound : (d : Dialect) (turn : Turn) (c : Contents) → list_all (is_statement d) turn.statements ≡ true → IsSound d c.users → IsSound d (contents_in (ending d turn c)).users
ending_sound d turn c all sound = subst (λ (x : Contents). IsSound d x.users) (ends d turn c) (left_sound d turn.row c.rows (is_marked d turn) turn.statements c.users c.users all sound sound)
