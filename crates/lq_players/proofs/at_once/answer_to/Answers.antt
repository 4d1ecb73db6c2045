use Rattle.std.proofs.Common.{ap, sym, ◌∙◌}
use Rattle.lq_players.proofs.OneStepChecked.{some_invalid, true_not}
use Rattle.lq_players.specs.AtOnce.{answer_to}
use Rattle.lq_players.proofs.at_once.answer_to.Goals as goal

pub returns-then-is_empty : goal.returns-then-is_empty
returns-then-is_empty c = sym (ap answer_to (c.is_empty.ensures.0 c.if-is_empty.true))

pub returns : goal.returns
returns c = some_invalid c.args.found (λ none. true_not (sym (c.is_empty.ensures.1 none) ∙ c.if-is_empty.false))
