use Rattle.std.proofs.Common.{rules, true, ◌∷◌, ◌≡◌}
use Rattle.lq_track.proofs.ByPlace.{in_order_on}
use Rattle.lq_track.proofs.run_order.are_in_order.Goals as goal

pub loop-row-init : goal.loop-row-init
loop-row-init c = λ so. so

pub loop-row-preserved : goal.loop-row-preserved
loop-row-preserved c =
    let is : c.loop-row.rest.now ≡ c.in-Some.row.now ∷ c.in-Some.after.now = search rules in
    let stands : c.stands_before.result ≡ true = search rules in
    λ so. c.loop-row.invariant (in_order_on c.loop-row.rest.now c.in-Some.after.now c.in-Some.row.now is (c.stands_before.ensures stands) so)
