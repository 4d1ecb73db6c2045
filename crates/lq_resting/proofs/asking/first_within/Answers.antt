use Rattle.std.proofs.Common.{ap, rules, sym, ◌∙◌}
use Rattle.std.specs.Prelude.{[], ◌++◌, ◌∷◌, ◌≡◌}
use Rattle.lq_hand.proofs.InHand.{last_first}
use Rattle.lq_resting.specs.Asking.{first_within}
use Rattle.lq_resting.proofs.asking.first_within.Goals as goal

pub returns-in-Some : goal.returns-in-Some
returns-in-Some c =
    let is : c.args.hand.now.calls ≡ c.in-Some._before.now ++ c.in-Some.call.now ∷ [] = search rules in
    c.is_within.ensures ∙ ap first_within (sym (last_first c.args.hand.now.calls c.in-Some._before.now c.in-Some.call.now is))
