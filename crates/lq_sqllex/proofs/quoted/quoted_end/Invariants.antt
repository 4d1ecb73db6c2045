use Rattle.std.proofs.Common.{◌≡◌, ◌+◌, length}
use Rattle.lq_base.specs.Sql.{after, quoted_end}
use Rattle.lq_sqllex.proofs.quoted.quoted_end.Given as goal

abbrev pub invariant-loop-rest : goal.invariant-loop-rest
invariant-loop-rest l = record {
  whole : quoted_end l.escaping l.quote l.text ≡ after l.passed (quoted_end l.escaping l.quote l.rest);
  count : l.passed + length l.rest ≡ length l.text;
}

abbrev pub decreases-loop-rest : goal.decreases-loop-rest
decreases-loop-rest l = length l.rest
