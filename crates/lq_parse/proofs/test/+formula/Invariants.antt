use Rattle.std.proofs.Common.{◌+◌, ◌*◌}
use Rattle.lq_parse.proofs.test.+formula.Given as goal

abbrev pub decreases-primary : goal.decreases-primary
decreases-primary l = l.parentheses * 1000

abbrev pub decreases-negation : goal.decreases-negation
decreases-negation l = l.parentheses * 1000 + l.nots + 1

abbrev pub decreases-conjunction : goal.decreases-conjunction
decreases-conjunction l = l.parentheses * 1000 + l.turns + 100

abbrev pub decreases-product : goal.decreases-product
decreases-product l = l.parentheses * 1000 + 200

abbrev pub decreases-disjunction : goal.decreases-disjunction
decreases-disjunction l = l.parentheses * 1000 + l.turns + 300

abbrev pub decreases-sum : goal.decreases-sum
decreases-sum l = l.parentheses * 1000 + 400
