-- What a session sees of the others, and a command that has made no call.
use Rattle.std.proofs.Common.{arith, subst, sym}
use Rattle.std.proofs.lemmas.Bool.Decides.{nat_tests}
use Rattle.std.specs.Prelude.{Bool, None, Option, Some, cond, false, refl, true, ℕ, ◌==◌, ◌≡◌}
use Rattle.lq_base.specs.declared.dialect.Dialect.{Dialect}
use Rattle.lq_hand.specs.Hand.{IsReady, place_of}
use Rattle.lq_hand.specs.declared.hand.Hand.{Hand}
use Rattle.lq_run.specs.Steps.{no_turn}
use Rattle.lq_store.specs.Journal.{Transaction, is_open, other_in}
use Rattle.lq_turns.specs.Rest.{Turns}
use Rattle.tests_runner.specs.Open.{is_its}

-- a session with another number than 0 has open what that one sees
pub its_open : (t : Option Transaction) (session : ℕ) → (0 == session) ≡ false → is_its session (other_in 0 t) ≡ is_open session t
its_open None session numbered = refl
its_open (Some t) session numbered = by (t.session == 0) refl where
  by : (b : Bool) → (t.session == 0) ≡ b → is_its session (cond b None (Some t.session)) ≡ (t.session == session)
  by true is = grind (arith, nat_tests)
  by false is = refl

-- between two turns a command is ready where its session has nothing open
pub is_ready : {Key : Type 0} (d : Dialect) (opened : Bool) (turns : Turns Key) (hand : Hand) → hand ≡ no_turn → opened ≡ false → IsReady d opened (place_of hand turns)
is_ready d opened turns hand fresh shut = subst (λ h. IsReady d opened (place_of h turns)) (sym fresh) shut
