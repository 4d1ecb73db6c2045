-- What a command answers at its end.
use Rattle.std.proofs.Common.{ap, refl, subst, sym, ◌∙◌}
use Rattle.std.specs.Prelude.{IfOk, None, Option, Result, Some, ◌≡◌}
use Rattle.lq_base.specs.declared.identity.Identity.{Identity}
use Rattle.lq_base.specs.declared.memory.NoMemory.{NoMemory}
use Rattle.lq_players.specs.Updating.{end_answer, halt_answer, refusal_answer}
use Rattle.lq_players.specs.Syncing.{stop_at}
use Rattle.lq_players.specs.Tasks.{answer_by}
use Rattle.lq_seen.specs.Telling.{stop_told}
use Rattle.lq_seen.specs.declared.outcome.Halt.{Halt}
use Rattle.lq_seen.specs.declared.outcome.Outcome.{Outcome}
use Rattle.lq_turns.specs.declared.answer.Answer.{Answer}
use Rattle.lq_turns.specs.declared.stop.Refusal.{Refusal}

pub answers_so : (r : Result Answer NoMemory) (x y : Answer) → x ≡ y → IfOk r (λ (a : Answer). a ≡ x) → IfOk r (λ (a : Answer). a ≡ y)
answers_so r x y same is = subst (λ (z : Answer). IfOk r (λ (a : Answer). a ≡ z)) same is

pub halt_ends : (o : Outcome) (refused : Option Refusal) → refused ≡ None → halt_answer o.halted ≡ end_answer o refused
halt_ends o refused none = by o.halted ∙ ap (end_answer o) (sym none) where
  by : (h : Option Halt) → halt_answer h ≡ answer_by (stop_told (record o { halted = h }) None)
  by None = refl
  by (Some halt) = refl

pub refusal_ends : (o : Outcome) (refused : Option Refusal) (refusal : Refusal) → refused ≡ Some refusal → refusal_answer refusal o.stopped_at ≡ end_answer o refused
refusal_ends o refused refusal is = by o.stopped_at ∙ ap (end_answer o) (sym is) where
  by : (at : Option Identity) → refusal_answer refusal at ≡ answer_by (stop_told (record o { stopped_at = at }) (Some refusal))
  by None = refl
  by (Some of) = refl

-- of a changelog-sync
pub refusal_stops : (refusal : Refusal) (of : Option Identity) → refusal_answer refusal of ≡ answer_by (stop_at (Some refusal) of)
refusal_stops refusal None = refl
refusal_stops refusal (Some it) = refl
