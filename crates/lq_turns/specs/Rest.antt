-- Where a command stands that holds the lock, and the calls that it has still to make.
use Rattle.std.specs.Prelude.{Bool, List, None, Option, Some, [], false, if◌then◌else◌, not, true, ℕ, ◌++◌, ◌||◌, ◌∷◌, ◌≡◌}
use Rattle.lq_base.specs.declared.dialect.Dialect.{Dialect}
use Rattle.lq_turns.specs.Deed.{Contents, contents_of}
use Rattle.lq_turns.specs.Script.{closing, sets_calls, turn_by, turns_made}
use Rattle.lq_turns.specs.Session.{Both, Session, are_accepted, called, went}
use Rattle.lq_turns.specs.Set.{Meaning, Set}
use Rattle.lq_turns.specs.Settle.{choice}
use Rattle.lq_turns.specs.Turn.{made, turn_calls}
use Rattle.lq_turns.specs.declared.answer.Answer.{Answer}
use Rattle.lq_turns.specs.declared.answer.Answer.TheVariants as answer
use Rattle.lq_turns.specs.declared.call.Call.{Call}
use Rattle.lq_turns.specs.declared.call.Call.TheVariants.{Abort}
use Rattle.lq_turns.specs.declared.choice.Choice.{Choice}
use Rattle.lq_turns.specs.declared.choice.Choice.TheVariants.{Fills, Halts, Marks, Passes, Runs, Skips}
use Rattle.lq_turns.specs.declared.stamp.Stamp.{Stamp}
use Rattle.lq_turns.specs.declared.stop.Stop.{Stop}
use Rattle.lq_turns.specs.declared.stop.Stop.TheVariants.{Halted, Refused}
use Rattle.lq_turns.specs.declared.turn.Turn.{Turn}

-- the turns to come: those of changesets, or those that take rows back
pub data Turns (Key : Type 0) : Type 0 where
  OfSets : List (Set Key) → Turns Key
  OfRows : List Turn → Turns Key
  NoMore : Turns Key

pub data Place (Key : Type 0) : Type 0 where
  -- in a turn: its calls to come, whether the command goes on where it is refused, and the turns to come
  Inside : List Call → Bool → Turns Key → Place Key
  -- a statement of the turn was refused
  GivingUp : Turns Key → Place Key
  -- the lock is free again
  Over : Place Key

-- between two turns
abbrev pub between : {Key : Type 0} → Turns Key → Place Key
between turns = Inside [] true turns

abbrev pub if_goes_on : {Key : Type 0} → Bool → Turns Key → Turns Key
if_goes_on goes_on turns = if goes_on then turns else NoMore

module _ {Key : Type 0} (d : Dialect) (m : Meaning Key) (stamp : Stamp) where
  abbrev pub turns_calls : Turns Key → Contents → List Call
  turns_calls (OfSets xs) c = sets_calls d m stamp xs c
  turns_calls (OfRows turns) c = turns_made d stamp.who turns c
  turns_calls NoMore c = []

  -- the calls still to make from a place, where so much is committed and seen
  abbrev pub rest : Place Key → Both → List Call
  rest (Inside calls goes_on turns) x = made d calls x.1 ++ turns_calls (if_goes_on (are_accepted d calls x.1 || goes_on) turns) (went d calls x).0 ++ closing ∷ []
  rest (GivingUp turns) x = Abort ∷ turns_calls turns x.0 ++ closing ∷ []
  rest Over x = []

-- at a turn, where there is one, and then at those that come
abbrev pub at_turn : {Key : Type 0} → Dialect → List ℕ → Bool → Turns Key → Option Turn → Place Key
at_turn d who goes_on turns None = between turns
at_turn d who goes_on turns (Some turn) = Inside (turn_calls d who turn) goes_on turns

-- after a changeset that halts there are no more
abbrev pub turns_after : {Key : Type 0} → Choice → List (Set Key) → Turns Key
turns_after (Halts why) xs = NoMore
turns_after Passes xs = OfSets xs
turns_after Fills xs = OfSets xs
turns_after Skips xs = OfSets xs
turns_after (Marks by) xs = OfSets xs
turns_after (Runs by why) xs = OfSets xs

module _ {Key : Type 0} (d : Dialect) (m : Meaning Key) (stamp : Stamp) where
  -- what a changeset does at its turn, as a place
  abbrev pub chosen : Set Key → List (Set Key) → Contents → Place Key
  chosen x xs c = at_turn d stamp.who (not x.fail_on_error) (turns_after (choice x c) xs) (turn_by d m stamp x c.rows (choice x c))

  -- the place of the next turn
  abbrev pub next : Turns Key → Contents → Place Key
  next (OfSets []) c = between NoMore
  next (OfSets (x ∷ xs)) c = chosen x xs c
  next (OfRows []) c = between NoMore
  next (OfRows (turn ∷ turns)) c = Inside (turn_calls d stamp.who turn) false (OfRows turns)
  next NoMore c = between NoMore

-- What a step of a runner makes, told by its places, and what a command answers at its end.

abbrev pub both_of : Session → Both
both_of s = (contents_of s.committed, contents_of s.seen)

module _ {Key : Type 0} (d : Dialect) (m : Meaning Key) (stamp : Stamp) where
  -- the step made the next call of the script
  pub record Went (p q : Place Key) (s t : Session) : Type 0 where
    pub call : Call
    pub next : rest d m stamp p (both_of s) ≡ call ∷ rest d m stamp q (both_of t)
    pub is : t ≡ called d call s

-- what a command that ran to its end answers, by what stopped its turns
abbrev pub last_answer : Option Stop → Answer
last_answer None = answer.Done
last_answer (Some (Halted of why)) = answer.Halted of why
last_answer (Some (Refused of refusal)) = answer.Refused of refusal.statement refusal.kept refusal.reason
