-- Which deeds can be written.
use Rattle.std.specs.Prelude.{Bool, List, [], false, reverse, true, ◌∷◌, ◌≡◌, ◌≤◌}
use Rattle.lq_base.specs.Moment.{IsMoment}
use Rattle.lq_base.specs.declared.dialect.Dialect.{Dialect}
use Rattle.lq_hand.specs.declared.hand.Hand.{Hand}
use Rattle.lq_hand.specs.declared.hand.Phase.{Phase}
use Rattle.lq_hand.specs.declared.hand.Phase.TheVariants as phase
use Rattle.lq_model.specs.Step.{is_statement}
use Rattle.lq_turns.specs.Rest.{GivingUp, Inside, Over, Place, Turns}
use Rattle.lq_turns.specs.declared.call.Call.{Call}
use Rattle.lq_turns.specs.declared.call.Call.TheVariants.{Abort, Alone, Begin, Commit, Execute}
use Rattle.lq_turns.specs.declared.deed.Deed.{Deed}
use Rattle.lq_turns.specs.declared.deed.Deed.TheVariants.{Locks, Rows, Users}
use Rattle.lq_turns.specs.declared.deed.OnLock.TheVariants.{Taken}
use Rattle.lq_turns.specs.declared.deed.OnRows.TheVariants.{Inserted, Renewed}

-- its statement can be written: a user's is of the dialect, and the program's has moments of the calendar
abbrev pub IsWritable : Dialect → Deed → Type 0
IsWritable d (Users s) = is_statement d s ≡ true
IsWritable d (Rows (Inserted row)) = IsMoment row.date
IsWritable d (Rows (Renewed row)) = IsMoment row.date
IsWritable d (Locks (Taken at by)) = at ≤ 253402300799999
IsWritable d _ = Unit {0}

-- The turn in hand, and what its calls ask of a session.

-- a call of a turn may come: one that opens a transaction where none is open, and others in one; and it can be written
abbrev pub IsNext : Dialect → Bool → Call → Type 0
IsNext d opened Begin = opened ≡ false
IsNext d opened (Execute deed) = (opened ≡ true) × IsWritable d deed
IsNext d opened Commit = opened ≡ true
IsNext d opened Abort = ⊥
IsNext d opened (Alone deeds room) = ⊥

-- whether a transaction is open after it
abbrev pub opens : Call → Bool
opens Begin = true
opens (Execute deed) = true
opens Commit = false
opens Abort = false
opens (Alone deeds room) = false

-- the calls of a turn, of which the last closes its transaction
abbrev pub AreTurns : Dialect → Bool → List Call → Type 0
AreTurns d opened [] = opened ≡ false
AreTurns d opened (call ∷ calls) = IsNext d opened call × AreTurns d (opens call) calls

abbrev pub hand_place : {Key : Type 0} → Phase → List Call → Bool → Turns Key → Place Key
hand_place phase.Inside calls goes_on turns = Inside calls goes_on turns
hand_place phase.GivingUp calls goes_on turns = GivingUp turns
hand_place phase.Over calls goes_on turns = Over

-- its calls in order: the last in the list is made first
abbrev pub calls_left : Hand → List Call
calls_left hand = reverse hand.calls

-- where a command stands that has this turn in hand
abbrev pub place_of : {Key : Type 0} → Hand → Turns Key → Place Key
place_of hand turns = hand_place hand.phase (calls_left hand) hand.goes_on turns

-- a transaction is open where the place asks for one
abbrev pub IsReady : {Key : Type 0} → Dialect → Bool → Place Key → Type 0
IsReady d opened (Inside calls goes_on turns) = AreTurns d opened calls
IsReady d opened (GivingUp turns) = opened ≡ true
IsReady d opened Over = opened ≡ false
