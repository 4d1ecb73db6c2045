-- What each kind of step leaves still to make.
use Rattle.std.proofs.Common.{ap}
use Rattle.std.specs.Prelude.{Bool, Err, List, Ok, Result, [], refl, ◌++◌, ◌||◌, ◌∷◌, ◌≡◌}
use Rattle.lq_base.specs.declared.dialect.Dialect.{Dialect}
use Rattle.lq_base.specs.declared.reason.Reason.{Reason}
use Rattle.lq_turns.specs.Deed.{Contents, contents_after}
use Rattle.lq_turns.specs.Session.{Both, accepted_by, are_accepted, committed_if, went, went_by, is_own}
use Rattle.lq_turns.specs.Rest.{GivingUp, Inside, NoMore, Over, Place, Turns, between, if_goes_on, rest, turns_calls}
use Rattle.lq_turns.specs.Script.{closing}
use Rattle.lq_turns.specs.Set.{Meaning}
use Rattle.lq_turns.specs.declared.call.Call.{Call}
use Rattle.lq_turns.specs.declared.call.Call.TheVariants.{Abort, Begin, Commit, Execute}
use Rattle.lq_turns.specs.declared.deed.Deed.{Deed}
use Rattle.lq_turns.specs.declared.stamp.Stamp.{Stamp}
use Rattle.lq_turns.specs.Turn.{made, made_on}

module _ {Key : Type 0} (d : Dialect) (m : Meaning Key) (stamp : Stamp) where
  abbrev left_to : Place Key → Both → List Call
  left_to p x = rest d m stamp p x

  -- a transaction of a turn is begun, or committed
  pub begins : (calls : List Call) (on : Bool) (turns : Turns Key) (x : Both) → left_to (Inside (Begin ∷ calls) on turns) x ≡ Begin ∷ left_to (Inside calls on turns) x
  begins calls on turns x = refl

  pub commits : (calls : List Call) (on : Bool) (turns : Turns Key) (x : Both) → left_to (Inside (Commit ∷ calls) on turns) x ≡ Commit ∷ left_to (Inside calls on turns) (x.1, x.1)
  commits calls on turns x = refl

  abbrev after : List Call → Bool → Turns Key → Deed → Both → Result Contents Reason → List Call
  after calls on turns deed x r = made_on (made d calls) r ++ turns_calls d m stamp (if_goes_on (accepted_by d (are_accepted d calls) r || on) turns) (went_by d deed (went d calls) x r).0 ++ closing ∷ []

  -- a statement is accepted
  pub goes : (deed : Deed) (calls : List Call) (on : Bool) (turns : Turns Key) (x : Both) (now : Contents) → contents_after d deed x.1 ≡ Ok now
      → left_to (Inside (Execute deed ∷ calls) on turns) x ≡ Execute deed ∷ left_to (Inside calls on turns) (committed_if (is_own d deed) x.0 now, now)
  goes deed calls on turns x now is = ap (λ r. Execute deed ∷ after calls on turns deed x r) is

  -- or refused
  pub stops : (deed : Deed) (calls : List Call) (on : Bool) (turns : Turns Key) (x : Both) (reason : Reason) → contents_after d deed x.1 ≡ Err reason
      → left_to (Inside (Execute deed ∷ calls) on turns) x ≡ Execute deed ∷ left_to (GivingUp (if_goes_on on turns)) (committed_if (is_own d deed) x.0 x.1, x.1)
  stops deed calls on turns x reason is = ap (λ r. Execute deed ∷ after calls on turns deed x r) is

  pub gives_up : (turns : Turns Key) (x : Both) → left_to (GivingUp turns) x ≡ Abort ∷ left_to (between turns) (x.0, x.0)
  gives_up turns x = refl

  pub closes : (x : Both) → left_to (between NoMore) x ≡ closing ∷ left_to Over x
  closes x = refl
