use Rattle.lq_base.specs.Name.{is_named}
use Rattle.lq_model.specs.Tables.{with_column_renamed}
use Rattle.lq_renames.proofs.Places.{IsPartly}
use Rattle.lq_renames.proofs.shapes.rename_in_all.Given as goal

abbrev pub invariant-loop-at : goal.invariant-loop-at
invariant-loop-at l = IsPartly (λ n. with_column_renamed l.table (is_named l.table n) l.from l.to) l.at l.initial.parts l.parts
