use Rattle.std.proofs.Common.{◌∙◌, ap, arith}
use Rattle.std.proofs.lemmas.Int.{to_z-of_z}
use Rattle.std.specs.Ordering.{ordering_reverse}
use Rattle.lq_query.proofs.Scaled.{by_other_scale, by_scale}
use Rattle.lq_query.proofs.order.decimal_cmp.Goals as goal
use mir.Syntax.{w128}
use mir.Val.{SFits}

pub returns-then-s-t : goal.returns-then-s-t
returns-then-s-t c =
    let first : SFits w128 c.args.a = c.ranges.a in
    let other : SFits w128 c.args.b = c.ranges.b in
    let found = simp to_z-of_z at c.scaled_cmp.ensures in
    found ∙ by_scale c.args.a c.args.s c.args.b c.args.t c.if-s-t.true

pub returns-else-s-t : goal.returns-else-s-t
returns-else-s-t c =
    let first : SFits w128 c.args.a = c.ranges.a in
    let other : SFits w128 c.args.b = c.ranges.b in
    let found = simp to_z-of_z at c.scaled_cmp-else-s-t.ensures in
    c.reverse.ensures ∙ ap ordering_reverse found ∙ by_other_scale c.args.a c.args.s c.args.b c.args.t (omega arith)
