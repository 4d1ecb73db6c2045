use Rattle.std.proofs.Common.{◌∙◌, ◌^◌, ◌<◌, ◌-◌, ap, arith, sym}
use Rattle.std.proofs.lemmas.Int.{ints, to_z-of_z}
use Rattle.std.specs.Ordering.{int_cmp}
use Rattle.lq_query.proofs.Scaled.{above_all, below_all, tenfold}
use Rattle.lq_query.proofs.order.+scaled_cmp.Goals as goal
use lib.IntN.{pos, ◌*ℤ◌}
use lib.Signed.{◌<ℤ◌, ◌≤ℤ◌}
use mir.Syntax.{w128}
use mir.Val.{SFits}

pub returns-in-Some : goal.returns-in-Some
returns-in-Some t c =
    let first : SFits w128 c.args.a = c.ranges.a in
    let other : SFits w128 c.args.b = c.ranges.b in
    let some : 0 < c.args.more = omega arith in
    let product = simp to_z-of_z at c.in-Some.ensures in
    let ten : SFits w128 c.in-Some.tenfold = rw product.1 product.0 in
    let found = simp to_z-of_z at c.scaled_cmp.ensures in
    found ∙ ap (λ a. int_cmp (a *ℤ pos (10 ^ (c.args.more - 1))) c.args.b) product.1 ∙ ap (λ a. int_cmp a c.args.b) (tenfold c.args.a c.args.more some)

pub returns-in-None : goal.returns-in-None
returns-in-None t c =
    let first : SFits w128 c.args.a = c.ranges.a in
    let none = simp to_z-of_z at c.in-None.ensures in
    let under : c.args.a <ℤ pos 0 = omega (arith, ints) in
    sym (below_all c.args.a c.args.b c.args.more (omega arith) none c.ranges.b under)

pub returns-in-None-2 : goal.returns-in-None-2
returns-in-None-2 t c =
    let first : SFits w128 c.args.a = c.ranges.a in
    let none = simp to_z-of_z at c.in-None-2.ensures in
    let least : pos 0 ≤ℤ c.args.a = omega (arith, ints) in
    sym (above_all c.args.a c.args.b c.args.more (omega arith) none c.ranges.b least)
