use Rattle.std.proofs.Common.{◌≡◌, ◌++◌, length}
use Rattle.lq_model.specs.SqlWord.{inside}
use Rattle.lq_parse.proofs.quoted.inside.Given as goal

abbrev pub invariant-loop-rest : goal.invariant-loop-rest
invariant-loop-rest l = l.out ++ inside l.escaping l.quote l.rest ≡ inside l.escaping l.quote l.text

abbrev pub decreases-loop-rest : goal.decreases-loop-rest
decreases-loop-rest l = length l.rest
