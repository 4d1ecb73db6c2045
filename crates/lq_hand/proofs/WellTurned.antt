-- The calls of a turn open and close its transactions by turns.
use Rattle.std.proofs.Common.{subst, sym}
use Rattle.std.proofs.lemmas.List.{append_assoc}
use Rattle.std.specs.List.{list_all, list_any}
use Rattle.std.specs.Prelude.{Bool, List, [], false, if◌then◌else◌, refl, suc, true, ℕ, ◌++◌, ◌∷◌, ◌≡◌}
use Rattle.lq_base.specs.declared.dialect.Dialect.{Dialect}
use Rattle.lq_model.proofs.Lists.{and_left, and_right}
use Rattle.lq_model.specs.Step.{commits_itself, is_statement}
use Rattle.lq_model.specs.declared.statement.Statement.{Statement}
use Rattle.lq_turns.specs.Turn.{apart, is_marked, mark, row_calls, statement_calls, turn_calls, within}
use Rattle.lq_turns.specs.declared.call.Call.{Call}
use Rattle.lq_turns.specs.declared.call.Call.TheVariants.{Begin, Commit, Execute}
use Rattle.lq_turns.specs.declared.deed.Deed.TheVariants.{Locks, Rows, Users}
use Rattle.lq_turns.specs.declared.deed.OnLock.TheVariants.{Marked}
use Rattle.lq_turns.specs.declared.turn.Turn.{Turn}
use Rattle.lq_hand.specs.Hand.{IsWritable, AreTurns}

module _ (d : Dialect) (who : List ℕ) (turn : Turn) where
  step_well : (whole own : Bool) (k : ℕ) (s : Statement) (more : List Call) → is_statement d s ≡ true → AreTurns d whole more
      → AreTurns d whole ((if whole then (if own then mark who turn k ∷ Execute (Users s) ∷ [] else Execute (Users s) ∷ []) else apart who turn k s) ++ more)
  step_well true true k s more is well = ((refl, tt), ((refl, is), well))
  step_well true false k s more is well = ((refl, is), well)
  step_well false own k s more is well = (refl, ((refl, tt), ((refl, is), (refl, well))))

  all_well : (whole : Bool) → turn.in_transaction ≡ whole → (k : ℕ) (ss : List Statement) (more : List Call) → list_all (is_statement d) ss ≡ true → AreTurns d whole more → AreTurns d whole (statement_calls d who turn k ss ++ more)
  all_well whole is k [] more all well = well
  all_well whole is k (s ∷ ss) more all well =
      subst (λ b. AreTurns d whole (((if b then within d who turn k s else apart who turn k s) ++ statement_calls d who turn (suc k) ss) ++ more)) (sym is)
      (subst (AreTurns d whole) (sym (append_assoc (if whole then within d who turn k s else apart who turn k s) (statement_calls d who turn (suc k) ss) more))
      (step_well whole (commits_itself d s) k s (statement_calls d who turn (suc k) ss ++ more) (and_left (is_statement d s) _ all) (all_well whole is (suc k) ss more (and_right (is_statement d s) _ all) well)))

  row_well : (flag : Bool) → AreTurns d true ((if flag then Execute (Locks (Marked who)) ∷ [] else []) ++ Commit ∷ [])
  row_well true = ((refl, tt), (refl, refl))
  row_well false = (refl, refl)

  pub turn_well : list_all (is_statement d) turn.statements ≡ true → IsWritable d (Rows turn.row) → AreTurns d false (turn_calls d who turn)
  turn_well all row = by turn.in_transaction refl where
    last : AreTurns d true (row_calls d who turn)
    last = ((refl, row), row_well (list_any (is_marked d turn) turn.statements))

    by : (whole : Bool) → turn.in_transaction ≡ whole
        → AreTurns d false (if whole then Begin ∷ statement_calls d who turn 1 turn.statements ++ row_calls d who turn else statement_calls d who turn 1 turn.statements ++ Begin ∷ row_calls d who turn)
    by true is = (refl, all_well true is 1 turn.statements (row_calls d who turn) all last)
    by false is = all_well false is 1 turn.statements (Begin ∷ row_calls d who turn) all (refl, last)
