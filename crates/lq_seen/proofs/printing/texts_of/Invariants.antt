use Rattle.std.proofs.Common.{length, map, true, ◌≡◌, ◌++◌}
use Rattle.std.specs.List.{list_all}
use Rattle.lq_model.specs.Step.{is_statement}
use Rattle.lq_model.specs.StatementText.{text_of}
use Rattle.lq_seen.proofs.printing.texts_of.Given as goal

abbrev pub invariant-loop-statement : goal.invariant-loop-statement
invariant-loop-statement g l = (l.texts ++ map (text_of g.P.SqlText.dialect) l.rest ≡ map (text_of g.P.SqlText.dialect) l.statements) × (list_all (is_statement g.P.SqlText.dialect) l.rest ≡ true)

abbrev pub decreases-loop-statement : goal.decreases-loop-statement
decreases-loop-statement g l = length l.rest
