-- What the statements of a turn see.
use Rattle.std.proofs.Common.{ap, ◌∙◌}
use Rattle.std.proofs.lemmas.List.{append_assoc}
use Rattle.std.specs.List.{list_any}
use Rattle.std.specs.Prelude.{Bool, Err, List, Ok, Result, [], false, if◌then◌else◌, refl, suc, true, ℕ, ◌++◌, ◌∷◌, ◌≡◌}
use Rattle.lq_base.specs.declared.dialect.Dialect.{Dialect}
use Rattle.lq_base.specs.declared.reason.Reason.{Reason}
use Rattle.lq_base.specs.declared.tracking.Tracked.{Tracked}
use Rattle.lq_model.specs.Catalogue.{Catalogue}
use Rattle.lq_model.specs.Step.{commits_itself, step}
use Rattle.lq_model.specs.declared.caller.By.TheVariants.{User}
use Rattle.lq_model.specs.declared.statement.Statement.{Statement}
use Rattle.lq_turns.specs.Deed.{Contents, if_accepted, rows_after}
use Rattle.lq_turns.specs.Turn.{apart, is_marked, mark, row_calls, statement_calls, turn_calls, unmark, within}
use Rattle.lq_turns.specs.declared.call.Call.{Call}
use Rattle.lq_turns.specs.declared.call.Call.TheVariants.{Begin, Commit, Execute}
use Rattle.lq_turns.specs.declared.deed.Deed.TheVariants.{Locks, Users}
use Rattle.lq_turns.specs.declared.deed.OnLock.TheVariants.{Marked}
use Rattle.lq_turns.specs.declared.turn.Turn.{Turn}
use Rattle.lq_hand.specs.Way.{seen_after, seen_along, sights}

module _ (d : Dialect) (who : List ℕ) (turn : Turn) (rows : List Tracked) where
  abbrev with_users : Catalogue → Contents
  with_users users = record { users = users; rows = rows }

  row_unseen : (flag : Bool) (c : Contents) → sights d ((if flag then Execute (Locks (Marked who)) ∷ [] else []) ++ Commit ∷ []) c ≡ []
  row_unseen true c = refl
  row_unseen false c = refl

  row_seen : (c : Contents) → sights d (row_calls d who turn) c ≡ []
  row_seen c = elim (rows_after turn.row c.rows) as (λ r. seen_after d (sights d (unmark d who turn ++ Commit ∷ [])) (if_accepted (λ z. record c { rows = z }) r) ≡ []) [
    | Ok now ↦ row_unseen (list_any (is_marked d turn) turn.statements) (record c { rows = now })
    | Err reason ↦ refl
  ]

  one_seen : (whole own : Bool) (j : ℕ) (s : Statement) (ss : List Statement) (more tail : List Call) (users : Catalogue) → ((e : Catalogue) → sights d (more ++ tail) (with_users e) ≡ seen_along d ss e)
      → sights d (((if whole then (if own then mark who turn j ∷ Execute (Users s) ∷ [] else Execute (Users s) ∷ []) else apart who turn j s) ++ more) ++ tail) (with_users users) ≡ seen_along d (s ∷ ss) users
  one_seen true true j s ss more tail users rest = elim (step User d s users) as (λ q. users ∷ seen_after d (sights d (more ++ tail)) (if_accepted (λ z. with_users z.0) q) ≡ users ∷ elim q as (λ _. List Catalogue) [ Ok r ↦ seen_along d ss r.0 | Err reason ↦ [] ]) [ Ok r ↦ ap (λ cs. users ∷ cs) (rest r.0) | Err reason ↦ refl ]
  one_seen true false j s ss more tail users rest = elim (step User d s users) as (λ q. users ∷ seen_after d (sights d (more ++ tail)) (if_accepted (λ z. with_users z.0) q) ≡ users ∷ elim q as (λ _. List Catalogue) [ Ok r ↦ seen_along d ss r.0 | Err reason ↦ [] ]) [ Ok r ↦ ap (λ cs. users ∷ cs) (rest r.0) | Err reason ↦ refl ]
  one_seen false own j s ss more tail users rest = elim (step User d s users) as (λ q. users ∷ seen_after d (sights d (Commit ∷ (more ++ tail))) (if_accepted (λ z. with_users z.0) q) ≡ users ∷ elim q as (λ _. List Catalogue) [ Ok r ↦ seen_along d ss r.0 | Err reason ↦ [] ]) [ Ok r ↦ ap (λ cs. users ∷ cs) (rest r.0) | Err reason ↦ refl ]

  all_seen : (j : ℕ) (ss : List Statement) (tail : List Call) (users : Catalogue) → ((e : Catalogue) → sights d tail (with_users e) ≡ []) → sights d (statement_calls d who turn j ss ++ tail) (with_users users) ≡ seen_along d ss users
  all_seen j [] tail users rest = rest users
  all_seen j (s ∷ ss) tail users rest = one_seen turn.in_transaction (commits_itself d s) j s ss (statement_calls d who turn (suc j) ss) tail users (λ e. all_seen (suc j) ss tail e rest)

pub turn_seen : (d : Dialect) (who : List ℕ) (turn : Turn) (c : Contents) → sights d (turn_calls d who turn) c ≡ seen_along d turn.statements c.users
turn_seen d who turn c = by turn.in_transaction where
  by : (whole : Bool) → sights d (if whole then Begin ∷ statement_calls d who turn 1 turn.statements ++ row_calls d who turn else statement_calls d who turn 1 turn.statements ++ Begin ∷ row_calls d who turn) c ≡ seen_along d turn.statements c.users
  by true = all_seen d who turn c.rows 1 turn.statements (row_calls d who turn) c.users (λ e. row_seen d who turn c.rows (record { users = e; rows = c.rows }))
  by false = all_seen d who turn c.rows 1 turn.statements (Begin ∷ row_calls d who turn) c.users (λ e. row_seen d who turn c.rows (record { users = e; rows = c.rows }))
