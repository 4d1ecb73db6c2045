-- A turn's calls in hand.
use Rattle.std.proofs.Common.{ap, subst, sym, ◌∙◌}
use Rattle.std.proofs.lemmas.List.{reverse-append}
use Rattle.std.specs.List.{list_all}
use Rattle.std.specs.Prelude.{Bool, List, [], false, if◌then◌else◌, refl, reverse, true, ℕ, ◌++◌, ◌∷◌, ◌≡◌}
use Rattle.lq_base.specs.declared.dialect.Dialect.{Dialect}
use Rattle.lq_model.specs.Step.{is_statement}
use Rattle.lq_turns.specs.Turn.{row_calls, statement_calls, turn_calls}
use Rattle.lq_turns.specs.declared.call.Call.{Call}
use Rattle.lq_turns.specs.declared.call.Call.TheVariants.{Begin}
use Rattle.lq_turns.specs.declared.deed.Deed.TheVariants.{Rows}
use Rattle.lq_turns.specs.declared.turn.Turn.{Turn}
use Rattle.lq_hand.specs.Way.{IsTurn}
use Rattle.lq_hand.specs.Hand.{AreTurns, IsWritable}
use Rattle.lq_hand.specs.declared.hand.Phase.TheVariants.{Inside}
use Rattle.lq_hand.proofs.WellTurned.{turn_well}

-- the last in the list is the first call
pub last_first : (calls left : List Call) (call : Call) → calls ≡ left ++ call ∷ [] → reverse calls ≡ call ∷ reverse left
last_first calls left call is = ap reverse is ∙ reverse-append left (call ∷ [])

has_one : (calls more : List Call) (call : Call) → calls ++ call ∷ more ≡ [] → ⊥
has_one [] more call none = Prim.cc
has_one (first ∷ calls) more call none = Prim.cc

module _ (d : Dialect) (who : List ℕ) (turn : Turn) where
  has_calls : turn_calls d who turn ≡ [] → ⊥
  has_calls none = by turn.in_transaction none where
    by : (whole : Bool) → (if whole then Begin ∷ statement_calls d who turn 1 turn.statements ++ row_calls d who turn else statement_calls d who turn 1 turn.statements ++ Begin ∷ row_calls d who turn) ≡ [] → ⊥
    by true none = has_one [] (statement_calls d who turn 1 turn.statements ++ row_calls d who turn) Begin none
    by false none = has_one (statement_calls d who turn 1 turn.statements) (row_calls d who turn) Begin none

  pub in_hand : (calls : List Call) (goes_on : Bool) → list_all (is_statement d) turn.statements ≡ true → IsWritable d (Rows turn.row) → reverse calls ≡ turn_calls d who turn
      → IsTurn d (record { phase = Inside; calls = calls; goes_on = goes_on })
  in_hand calls goes_on all row is = record { inside = refl; left = λ none. has_calls (sym is ∙ ap reverse none); turn = subst (AreTurns d false) (sym is) (turn_well d who turn all row) }
