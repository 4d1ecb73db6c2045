use Rattle.std.proofs.Common.{rules, ◌≡◌, [], ◌∷◌, Some, None, option_map, ap, ◌∙◌}
use Rattle.lq_yaml.specs.Line.{double, with_front}
use Rattle.lq_yaml.specs.Laws.{one}
use Rattle.lq_yaml.proofs.Fronts.{front_more, double_one, after}
use Rattle.lq_yaml.proofs.quoted.double_of.Goals as goal

pub loop-c-preserved : goal.loop-c-preserved
loop-c-preserved c =
    let w = c.in-Some-Some-default in
    let meant : one c.loop-c.rest.now ≡ Some (Some w.c, w.more.now) = search rules in
    let step : double c.loop-c.rest.now ≡ option_map (with_front (w.c ∷ [])) (double w.more.now) = double_one c.loop-c.rest.now ∙ ap after meant in
    rw c.in_ok-push-in-Some-Some-default.ensures.items (front_more c.loop-c.value.items w.c (double w.more.now) _ (double c.loop-c.rest.now) c.loop-c.invariant step)

pub returns-in-None : goal.returns-in-None
returns-in-None c =
    let meant : one c.loop-c.rest.now ≡ None = search rules in
    c.loop-c.invariant ∙ ap (option_map (with_front c.loop-c.value.items)) (double_one c.loop-c.rest.now ∙ ap after meant)
