use Rattle.std.proofs.Common.{drop, map, ◌++◌, ◌≡◌}
use Rattle.lq_fields.specs.Literals.{literal_in}
use Rattle.lq_fields.proofs.literals.literals_of.Given as goal

abbrev pub invariant-loop-field : goal.invariant-loop-field
invariant-loop-field l = map literal_in l.row ≡ l.literals ++ map literal_in (drop l.field-index l.row)
