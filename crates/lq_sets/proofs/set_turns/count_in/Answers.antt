use Rattle.std.proofs.Common.{ap, None, Option, rules, Some, sym, ◌≡◌, ◌∙◌}
use Rattle.lq_sets.proofs.set_turns.count_in.Goals as goal
use Rattle.lq_sets.specs.Counting.{counted_in}
use Rattle.lq_sets.specs.declared.in_hand.InHand.{InHand}

pub returns-in-Some-clause-counted : goal.returns-in-Some-clause-counted
returns-in-Some-clause-counted c =
    let is : c.args.turn.now ≡ Some c.in-Some.turn = search rules in
    c.counted-all.ensures ∙ ap (λ (t : Option InHand). counted_in t c.args.not_fresh.now) (sym is)

pub returns-in-None-clause-counted : goal.returns-in-None-clause-counted
returns-in-None-clause-counted c =
    let is : c.args.turn.now ≡ None = search rules in
    ap (λ (t : Option InHand). counted_in t c.args.not_fresh.now) (sym is)
