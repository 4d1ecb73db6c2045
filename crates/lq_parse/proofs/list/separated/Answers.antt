use Rattle.std.proofs.Common.{◌-◌, ◌∙◌, rules, arith}
use Rattle.std.proofs.lemmas.Grind.{common_steps}
use Rattle.lq_model.specs.SqlParser.{led_by, many_of, separated}
use Rattle.lq_parse.proofs.Steps.{list_begins, list_ends, list_from, list_goes_on, list_stops}
use Rattle.lq_parse.proofs.Turns.{one_more, no_more}
use Rattle.lq_parse.proofs.list.separated.Goals as goal

pub returns-in_err-item : goal.returns-in_err-item
unfolding separated
returns-in_err-item g c =
    let it = c.requires.1.1.1.reads _ _ _ _ c.item.ensures in
    first_of (search rules, grind (arith, common_steps))

pub loop-turn-init : goal.loop-turn-init
loop-turn-init g c =
    let it = c.requires.1.1.1.reads _ _ _ _ c.item.ensures in
    list_begins g.p (c.left-turn-end.result - 0) c.push.new.self c.in_ok-item.field-0 c.args.words.now c.item.new.arg3 (search rules) (search rules) (omega (arith, c.left-turn-end.ensures))

pub returns-then-not-eat : goal.returns-then-not-eat
returns-then-not-eat g c =
    rw (one_more (λ n. list_from g.p n c.loop-turn.found c.loop-turn.words) _ c.loop-turn._turn c.loop-turn-test.true c.loop-turn.invariant)
    (first_of (search rules, grind (arith, common_steps, list_stops)))

pub returns-in_err-item-2 : goal.returns-in_err-item-2
unfolding many_of led_by
returns-in_err-item-2 g c =
    let it = c.requires.1.1.1.reads _ _ _ _ c.item-in-loop-turn.ensures in
    rw (one_more (λ n. list_from g.p n c.loop-turn.found c.loop-turn.words) _ c.loop-turn._turn c.loop-turn-test.true c.loop-turn.invariant)
    (first_of (search rules, grind (arith, common_steps)))

pub loop-turn-preserved : goal.loop-turn-preserved
loop-turn-preserved g c =
    let it = c.requires.1.1.1.reads _ _ _ _ c.item-in-loop-turn.ensures in
    one_more (λ n. list_from g.p n c.loop-turn.found c.loop-turn.words) _ c.loop-turn._turn c.loop-turn-test.true c.loop-turn.invariant
    ∙ list_goes_on g.p _ c.loop-turn.found c.push-in-loop-turn.new.self c.in_ok-item-2.field-0 c.loop-turn.words c.item-in-loop-turn.new.arg3 (search rules) (search rules) (search rules)

pub returns : goal.returns
returns g c =
    no_more (λ n. list_from g.p n c.loop-turn.found c.loop-turn.words) _ c.loop-turn._turn c.loop-turn-test.false c.loop-turn.invariant
    ∙ list_ends g.p c.loop-turn.found c.loop-turn.words
