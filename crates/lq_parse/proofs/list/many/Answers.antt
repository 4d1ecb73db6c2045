use Rattle.std.proofs.Common.{◌+◌, ◌-◌, ◌∙◌, rules, arith}
use Rattle.std.proofs.lemmas.Grind.{common_steps}
use Rattle.lq_model.specs.SqlParser.{many, many_of}
use Rattle.lq_parse.proofs.Found.{behind, behind_none, found_end, found_more, none_behind}
use Rattle.lq_parse.proofs.Turns.{one_more, no_more}
use Rattle.lq_parse.proofs.list.many.Goals as goal

pub loop-turn-init : goal.loop-turn-init
unfolding many
loop-turn-init g c = first_of (search (rules, behind_none), grind (arith, common_steps, behind_none))

pub returns-in_err-it : goal.returns-in_err-it
unfolding many_of
returns-in_err-it g c =
    let it = c.requires.1.1.1.reads _ _ _ _ c.item.ensures in
    rw (one_more (λ n. behind c.loop-turn.found (many_of g.p n c.loop-turn.words)) _ c.loop-turn._turn c.loop-turn-test.true c.loop-turn.invariant)
    (first_of (search rules, grind (arith, common_steps)))

pub returns-in-None : goal.returns-in-None
returns-in-None g c =
    let it = c.requires.1.1.1.reads _ _ _ _ c.item.ensures in
    one_more (λ n. behind c.loop-turn.found (many_of g.p n c.loop-turn.words)) _ c.loop-turn._turn c.loop-turn-test.true c.loop-turn.invariant
    ∙ found_end g.p _ c.loop-turn.found c.loop-turn.words _ (search rules)

pub loop-turn-preserved : goal.loop-turn-preserved
loop-turn-preserved g c =
    let it = c.requires.1.1.1.reads _ _ _ _ c.item.ensures in
    let more = found_more g.p (c.left-turn-end.result - (c.loop-turn._turn + 1)) c.loop-turn.found c.in-Some.it c.loop-turn.words c.item.new.arg3 (search rules) in
    rw (one_more (λ n. behind c.loop-turn.found (many_of g.p n c.loop-turn.words)) _ c.loop-turn._turn c.loop-turn-test.true c.loop-turn.invariant ∙ more)
    (first_of (search rules, grind (arith, common_steps)))

pub returns : goal.returns
unfolding many_of
returns g c =
    no_more (λ n. behind c.loop-turn.found (many_of g.p n c.loop-turn.words)) _ c.loop-turn._turn c.loop-turn-test.false c.loop-turn.invariant
    ∙ none_behind c.loop-turn.found c.loop-turn.words
