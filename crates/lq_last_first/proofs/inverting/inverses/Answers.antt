use Rattle.std.proofs.Common.{None, Some, [], refl, rules, ◌++◌, ◌∷◌, ◌≡◌}
use Rattle.std.specs.List.{list_all}
use Rattle.lq_last_first.proofs.Inverted.{all_undone, has, is_passed, lost, of_front, of_last, one_undone, there}
use Rattle.lq_last_first.proofs.inverting.inverses.Goals as goal

pub loop-thing-init : goal.loop-thing-init
loop-thing-init g c = (search rules, refl, c.requires)

pub invert-requires : goal.invert-requires
invert-requires g c =
    let is : c.loop-thing.rest.now ≡ c.in-Some.front.now ++ c.in-Some.thing.now ∷ [] = search rules in
    of_last (g.B.Inverts.knows c.args.by.now) c.loop-thing.rest.now c.in-Some.front.now c.in-Some.thing.now is c.loop-thing.invariant.2

pub returns-in_default-2 : goal.returns-in_default-2
returns-in_default-2 g c =
    let is : c.loop-thing.rest.now ≡ c.in-Some.front.now ++ c.in-Some.thing.now ∷ [] = search rules in
    let none : None ≡ g.B.Inverts.inverse c.args.by.now c.in-Some.thing.now = search rules in
    lost (g.B.Inverts.inverse c.args.by.now) c.args.things.now c.loop-thing.rest.now c.in-Some.front.now c.in-Some.thing.now is none c.loop-thing.invariant.1

pub loop-thing-preserved : goal.loop-thing-preserved
loop-thing-preserved g c =
    let inverse = g.B.Inverts.inverse c.args.by.now in
    let is : c.loop-thing.rest.now ≡ c.in-Some.front.now ++ c.in-Some.thing.now ∷ [] = search rules in
    let some : Some c.in-Some-2.more ≡ g.B.Inverts.inverse c.args.by.now c.in-Some.thing.now = search rules in (
      one_undone inverse c.args.things.now c.loop-thing.rest.now c.in-Some.front.now c.in-Some.thing.now c.loop-thing.steps c.append.new.self c.in-Some-2.more is some c.in_ok-append.ensures c.loop-thing.invariant.0,
      is_passed (has inverse) c.loop-thing.rest.now c.in-Some.front.now c.in-Some.thing.now is {b = list_all (has inverse) c.args.things.now} (there inverse c.in-Some.thing.now c.in-Some-2.more some) c.loop-thing.invariant.1,
      of_front (g.B.Inverts.knows c.args.by.now) c.loop-thing.rest.now c.in-Some.front.now c.in-Some.thing.now is c.loop-thing.invariant.2,
    )

pub returns : goal.returns
returns g c = all_undone (g.B.Inverts.inverse c.args.by.now) c.args.things.now c.loop-thing.rest.now c.loop-thing.steps (search rules) c.loop-thing.invariant.1 c.loop-thing.invariant.0
