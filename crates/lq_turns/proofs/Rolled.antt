-- What the calls of any rollback leave.
use Rattle.std.proofs.Common.{subst, sym}
use Rattle.std.specs.Prelude.{List, [], refl, ℕ, ◌∷◌}
use Rattle.lq_base.specs.declared.dialect.Dialect.{Dialect}
use Rattle.lq_turns.specs.Deed.{Contents, contents_of}
use Rattle.lq_turns.specs.Laws.{RollbackLeaves}
use Rattle.lq_turns.specs.Script.{all_rolled, calls_if_finished, rolled_as, turns_made}
use Rattle.lq_turns.specs.Session.{Session, all_called}
use Rattle.lq_turns.specs.Settle.{unless_stopped}
use Rattle.lq_turns.specs.declared.turn.Turn.{Turn}
use Rattle.lq_turns.specs.Turn.{Ending, Finished, Refused, contents_in, ending, made, turn_calls}
use Rattle.lq_turns.proofs.Made.{At, calls_both}
use Rattle.lq_turns.proofs.TurnLeft.{turn_taken, twice}
use Rattle.lq_turns.proofs.Updates.{locked_leaves}

module _ (d : Dialect) where
  rolled_by : (who : List ℕ) (turn : Turn) (turns : List Turn) (e : Ending) (s : Session) → At s (twice (contents_in e))
      → ((c : Contents) (t : Session) → At t (twice c) → At (all_called d (turns_made d who turns c) t) (twice (all_rolled d turns c).contents))
      → At (all_called d (calls_if_finished (turns_made d who turns (contents_in e)) e) s) (twice (unless_stopped (rolled_as turn e) (all_rolled d turns)).contents)
  rolled_by who turn turns (Finished c) s at more = more c s at
  rolled_by who turn turns (Refused c refusal) s at more = at

  rolled_taken : (who : List ℕ) (turns : List Turn) (c : Contents) (s : Session) → At s (twice c) → At (all_called d (turns_made d who turns c) s) (twice (all_rolled d turns c).contents)
  rolled_taken who [] c s at = at
  rolled_taken who (turn ∷ turns) c s at =
      subst (λ (t : Session). At t (twice (all_rolled d (turn ∷ turns) c).contents)) (sym (calls_both d (made d (turn_calls d who turn) c) (calls_if_finished (turns_made d who turns (contents_in (ending d turn c))) (ending d turn c)) s))
      (rolled_by who turn turns (ending d turn c) (all_called d (made d (turn_calls d who turn) c) s) (turn_taken d who turn c s at) (rolled_taken who turns))

pub rollback_leaves : RollbackLeaves
rollback_leaves d stamp [] database unlocked = record { users = refl; rows = refl; lock = unlocked }
rollback_leaves d stamp (turn ∷ turns) database unlocked =
    locked_leaves d stamp database (turns_made d stamp.who (turn ∷ turns) (contents_of database)) (all_rolled d (turn ∷ turns) (contents_of database)).contents (λ s at. rolled_taken d stamp.who (turn ∷ turns) (contents_of database) s at)
