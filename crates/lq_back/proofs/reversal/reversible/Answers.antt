use Rattle.std.proofs.Common.{rules, sym, ◌≡◌, ◌++◌, ◌∷◌, [], None}
use Rattle.lq_back.proofs.Ways.{more_ways, none_left, one_lost, one_passed, refused}
use Rattle.lq_back.proofs.reversal.reversible.Goals as goal
use Rattle.lq_back.specs.Reversal.{HasSets}

pub returns-in_default-way_found-clause-reversed : goal.returns-in_default-way_found-clause-reversed
returns-in_default-way_found-clause-reversed c = λ o.
    let none : c.way_found.result ≡ None = search rules in
    let has : HasSets c.args.changelog.now.sets c.in_ok-index.index = rw c.as_slice.ensures at c.in_ok-index.ensures in
    let is : c.loop-row.rest.now ≡ c.in-Some.front.now ++ c.in-Some.row.now ∷ [] = search rules in
    refused _ c.in-Some.row.now c.refusal.result
    (one_lost o c.args.changelog.now.sets c.loop-row.rest.now c.in-Some.front.now c.in-Some.row.now is (rw none at (c.way_found.ensures.none c.args.changelog.now.sets o has)) (c.loop-row.invariant.1 o)) c.refusal.ensures

pub loop-row-preserved : goal.loop-row-preserved
loop-row-preserved c =
    let has : HasSets c.args.changelog.now.sets c.in_ok-index.index = rw c.as_slice.ensures at c.in_ok-index.ensures in
    let is : c.loop-row.rest.now ≡ c.in-Some.front.now ++ c.in-Some.row.now ∷ [] = search rules in (
      more_ways c.args.changelog.now.sets c.loop-row.rest.now c.in-Some.front.now c.in-Some.row.now c.loop-row.ways c.push.new.self c.in-Some-way_found.way _ is (sym (c.in-Some-way_found.ensures.way c.args.changelog.now.sets has)) c.in_ok-push.ensures.ok c.loop-row.invariant.0,
      λ o. one_passed o c.args.changelog.now.sets c.loop-row.rest.now c.in-Some.front.now c.in-Some.row.now is (rw c.in-Some-way_found.is at (c.way_found.ensures.none c.args.changelog.now.sets o has)) (c.loop-row.invariant.1 o),
    )

pub returns-clause-reversed : goal.returns-clause-reversed
returns-clause-reversed c = λ o. none_left o c.args.changelog.now.sets c.loop-row.rest.now (search rules) (c.loop-row.invariant.1 o)
