use Rattle.std.proofs.Common.{◌≡◌, ◌++◌, ◌+◌, ◌*◌, option_map}
use Rattle.lq_expr.specs.Cuts.{rest_of}
use Rattle.lq_expr.specs.Grammar as spec
use Rattle.lq_expr.proofs.Measure.{looseness, words_left}
use Rattle.lq_expr.proofs.reading.+expression.Given as goal

abbrev pub decreases-factor : goal.decreases-factor
decreases-factor l = l.levels * 10

abbrev pub decreases-negation : goal.decreases-negation
decreases-negation l = l.levels * 10 + 1

abbrev pub decreases-part_of : goal.decreases-part_of
decreases-part_of l = l.levels * 10 + looseness l.operator + 1

abbrev pub decreases-joined : goal.decreases-joined
decreases-joined l = l.levels * 10 + looseness l.operator + 2

abbrev pub invariant-joined-loop-left : goal.invariant-joined-loop-left
invariant-joined-loop-left l =
    spec.each (spec.tighter l.operator (spec.factor l.levels)) (spec.cut l.operator 0 l.words)
    ≡ option_map (λ more. l.parts ++ more) (spec.each (spec.tighter l.operator (spec.factor l.levels)) (rest_of l.operator (option_map (λ ws. ws.now) l.left)))

abbrev pub decreases-joined-loop-left : goal.decreases-joined-loop-left
decreases-joined-loop-left l = words_left (option_map (λ ws. ws.now) l.left)
