-- Whether the next call of a turn comes in a transaction.
use Rattle.std.specs.Prelude.{Bool, List, [], false, true, ◌∷◌}
use Rattle.lq_hand.specs.Hand.{calls_left}
use Rattle.lq_hand.specs.declared.hand.Hand.{Hand}
use Rattle.lq_hand.specs.declared.hand.Phase.{Phase}
use Rattle.lq_hand.specs.declared.hand.Phase.TheVariants as phase
use Rattle.lq_turns.specs.declared.call.Call.{Call}
use Rattle.lq_turns.specs.declared.call.Call.TheVariants.{Abort, Alone, Begin, Commit, Execute}

abbrev pub is_within : Call → Bool
is_within Begin = false
is_within (Execute deed) = true
is_within Commit = true
is_within Abort = false
is_within (Alone deeds room) = false

abbrev pub first_within : List Call → Bool
first_within [] = false
first_within (call ∷ calls) = is_within call

abbrev pub asks_open_at : Phase → List Call → Bool
asks_open_at phase.Inside calls = first_within calls
asks_open_at phase.GivingUp calls = true
asks_open_at phase.Over calls = false

-- whether the turn in hand asks for an open transaction
abbrev pub asks_open : Hand → Bool
asks_open hand = asks_open_at hand.phase (calls_left hand)
