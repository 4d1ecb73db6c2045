use Rattle.std.proofs.Common.{Some, refl, subst, sym, ◌∙◌}
use Rattle.lq_seen.proofs.Told.{none_told}
use Rattle.lq_seen.specs.Telling.{IsTakenBack}
use Rattle.lq_seen.proofs.telling.take_back.Goals as goal

pub returns-then-stops : goal.returns-then-stops
returns-then-stops c = λ yes. subst (λ b. IsTakenBack c.args.identity b c.args.outcome.now (record (c.args.outcome.now) { happened = c.forget.new.happened; stopped_at = Some c.args.identity })) (sym c.if-stops.true)
    (record { happened = λ front last is. c.forget.ensures yes front last is ∙ none_told front; warned = refl; not_fresh = refl; printed = refl; halted = refl; stopped_at = refl })

pub returns-else-stops : goal.returns-else-stops
returns-else-stops c = λ yes. subst (λ b. IsTakenBack c.args.identity b c.args.outcome.now (record (c.args.outcome.now) { happened = c.skip.new.happened })) (sym c.if-stops.false)
    (record { happened = λ front last is. c.skip.ensures yes front last is; warned = refl; not_fresh = refl; printed = refl; halted = refl; stopped_at = refl })
