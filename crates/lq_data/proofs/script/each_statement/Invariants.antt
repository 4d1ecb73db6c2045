use Rattle.std.proofs.Common.{drop, option_map, true, ◌++◌, ◌≡◌}
use Rattle.std.specs.List.{list_all}
use Rattle.lq_model.specs.Step.{is_statement}
use Rattle.lq_data.specs.Script.{all_spelled}
use Rattle.lq_data.proofs.script.each_statement.Given as goal

abbrev pub invariant-loop-piece : goal.invariant-loop-piece
invariant-loop-piece g l = (all_spelled g.P.SqlText.dialect l.pieces ≡ option_map (λ more. l.found ++ more) (all_spelled g.P.SqlText.dialect (drop l.piece-index l.pieces))) × (list_all (is_statement g.P.SqlText.dialect) l.found ≡ true)
