-- A source that has told all has noted what its command does.
use Rattle.std.proofs.Common.{ap, ◌∙◌}
use Rattle.std.specs.Prelude.{Option, ◌≡◌}
use Rattle.lq_players.specs.Reports.{of_account, of_outcome}
use Rattle.lq_playing.specs.Answers.{nothing}
use Rattle.lq_seen.specs.Telling.{Account, Reports, bounded}
use Rattle.lq_seen.specs.declared.outcome.Outcome.{Outcome}
use Rattle.lq_turns.specs.declared.stop.Refusal.{Refusal}

pub reports_so : (o : Outcome) (told : Account) (refused : Option Refusal) → Reports o told refused → of_outcome o ≡ of_account told
reports_so o told refused is =
    ap (λ h. record nothing { happened = h; not_fresh = o.not_fresh; warned = o.warned; printed = o.printed }) is.tells.happened
    ∙ ap (λ n. record nothing { happened = told.settled.happened; not_fresh = n; warned = o.warned; printed = o.printed }) is.tells.not_fresh
    ∙ ap (λ w. record nothing { happened = told.settled.happened; not_fresh = bounded told.settled.not_fresh; warned = w; printed = o.printed }) is.tells.warned
    ∙ ap (λ p. record nothing { happened = told.settled.happened; not_fresh = bounded told.settled.not_fresh; warned = told.settled.warned; printed = p }) is.prints
