use Rattle.std.proofs.Common.{ap, sym, ◌∙◌}
use Rattle.lq_players.specs.AtOnce.{releasing}
use Rattle.lq_playing.specs.declared.checks.Verdict.TheVariants.{OneCall}
use Rattle.lq_players.proofs.at_once.releasing.Goals as goal

pub returns-then-not-held : goal.returns-then-not-held
returns-then-not-held c = sym (ap releasing c.if-not-held.true)

pub returns : goal.returns
returns c = ap (λ call. OneCall call) c.in_ok-call.ensures ∙ sym (ap releasing c.if-not-held.false)
