use Rattle.std.proofs.Common.{List, Some, ap, get_or, rules, sym, true, ◌∙◌, ◌≡◌}
use Rattle.lq_plan.specs.declared.turns.Item.{Item}
use Rattle.lq_portion.proofs.Places.{first_reached, none_left, place_in, place_is}
use Rattle.lq_portion.proofs.counting.place_in.Goals as goal
use Rattle.lq_turns.specs.Stops.{is_to_run}
use Rattle.lq_turns.specs.declared.choice.What.TheVariants.{New}

pub returns-then-left-eq1 : goal.returns-then-left-eq1
returns-then-left-eq1 c = λ xs rows is all.
    let d : Item = record { index = 0; what = New } in
    let one : c.loop-rest.left ≡ 1 = search rules in
    let runs : is_to_run (Some (get_or c.loop-rest.rest.now 0 d).what) ≡ true = search rules in
    c.behind.ensures
    ∙ (sym (first_reached c.loop-rest.left c.loop-rest.rest.now d c.args.all one c.in-len1-up.len_at_least runs)
    ∙ (sym c.loop-rest.invariant.1
    ∙ (ap (λ (items : List Item). place_in c.args.count items c.args.all) is
    ∙ place_is c.args.count xs rows c.args.all all)))

pub returns : goal.returns
returns c = λ xs rows is all.
    sym (none_left c.loop-rest.left c.args.all c.loop-rest.rest.now c.loop-rest.invariant.0 c.in_default.len_below)
    ∙ (sym c.loop-rest.invariant.1
    ∙ (ap (λ (items : List Item). place_in c.args.count items c.args.all) is
    ∙ place_is c.args.count xs rows c.args.all all))
