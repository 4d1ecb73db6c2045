use Rattle.std.proofs.Common.{ap, rules, sym, ◌∙◌}
use Rattle.std.specs.Prelude.{[], ◌++◌, ◌∷◌, ◌≡◌}
use Rattle.lq_hand.proofs.InHand.{last_first}
use Rattle.lq_hand.specs.Way.{first_coming}
use Rattle.lq_hand.proofs.progress.next_coming.Goals as goal

pub returns-in-Some : goal.returns-in-Some
returns-in-Some c =
    let is : c.args.hand.now.calls ≡ c.in-Some._before.now ++ c.in-Some.call.now ∷ [] = search rules in
    c.coming_of.ensures ∙ ap (first_coming c.args.dialect) (sym (last_first c.args.hand.now.calls c.in-Some._before.now c.in-Some.call.now is))
