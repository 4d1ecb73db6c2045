-- What a turn in hand asks for.
use Rattle.std.proofs.Common.{ap, sym, ◌∙◌}
use Rattle.std.specs.Prelude.{Bool, List, [], ◌∷◌, ◌≡◌}
use Rattle.lq_base.specs.declared.dialect.Dialect.{Dialect}
use Rattle.lq_hand.specs.declared.hand.Phase.{Phase}
use Rattle.lq_hand.specs.declared.hand.Phase.TheVariants as phase
use Rattle.lq_resting.specs.Asking.{asks_open_at}
use Rattle.lq_run.specs.Beside.{Asks}
use Rattle.lq_turns.specs.declared.call.Call.{Call}
use Rattle.lq_turns.specs.declared.call.Call.TheVariants.{Abort, Alone, Begin, Commit, Execute}

-- what is asked for is what is open
pub asks_is : (d : Dialect) (at : Phase) (calls : List Call) (opened : Bool) → Asks d at calls opened → opened ≡ asks_open_at at calls
asks_is d phase.Inside [] opened asks = asks
asks_is d phase.Inside (Begin ∷ calls) opened asks = asks.0
asks_is d phase.Inside (Execute deed ∷ calls) opened asks = asks.0.0
asks_is d phase.Inside (Commit ∷ calls) opened asks = asks.0
asks_is d phase.Inside (Abort ∷ calls) opened asks = absurd asks.0
asks_is d phase.Inside (Alone deeds room ∷ calls) opened asks = absurd asks.0
asks_is d phase.GivingUp calls opened asks = asks
asks_is d phase.Over calls opened asks = asks

pub asks_at : (at to : Phase) (calls : List Call) (b : Bool) → at ≡ to → b ≡ asks_open_at to calls → b ≡ asks_open_at at calls
asks_at at to calls b is same = same ∙ sym (ap (λ p. asks_open_at p calls) is)
