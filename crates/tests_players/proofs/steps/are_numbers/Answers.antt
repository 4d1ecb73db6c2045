use Rattle.std.proofs.Common.{length, rules, subst, ◌<◌, ◌≤◌}
use Rattle.std.specs.Prelude.{get_or}
use Rattle.std.proofs.lemmas.List.{take_all}
use Rattle.std.proofs.lemmas.List.Elements.{All-more}
use Rattle.std.specs.List.{All}
use Rattle.tests_players.proofs.steps.are_numbers.Goals as goal

pub loop-step-preserved : goal.loop-step-preserved
loop-step-preserved c =
    let less : c.loop-step.step-index < length c.args.steps.now = search rules in
    let fits : (1 ≤ get_or c.args.steps.now c.loop-step.step-index 0) × (get_or c.args.steps.now c.loop-step.step-index 0 ≤ c.args.count) = search rules in
    All-more (λ n. (1 ≤ n) × (n ≤ c.args.count)) c.args.steps.now c.loop-step.step-index 0 less c.loop-step.invariant fits

pub returns : goal.returns
returns c _ =
    let over : length c.args.steps.now ≤ c.loop-step.step-index = search rules in
    subst (λ ns. All (λ n. (1 ≤ n) × (n ≤ c.args.count)) ns) (take_all c.loop-step.step-index c.args.steps.now over) c.loop-step.invariant
