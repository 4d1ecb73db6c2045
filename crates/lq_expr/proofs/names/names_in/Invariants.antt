use Rattle.std.proofs.Common.{◌≡◌, ◌++◌, option_map}
use Rattle.lq_operators.specs.declared.operator.Operator.TheVariants.{Comma}
use Rattle.lq_expr.specs.Cuts.{rest_of}
use Rattle.lq_expr.specs.Grammar.{each, label_name, names_in}
use Rattle.lq_expr.proofs.Measure.{words_left}
use Rattle.lq_expr.proofs.names.names_in.Given as goal

abbrev pub invariant-loop-left : goal.invariant-loop-left
invariant-loop-left l = names_in l.words ≡ option_map (λ more. l.names ++ more) (each label_name (rest_of Comma (option_map (λ ws. ws.now) l.left)))

abbrev pub decreases-loop-left : goal.decreases-loop-left
decreases-loop-left l = words_left (option_map (λ ws. ws.now) l.left)
