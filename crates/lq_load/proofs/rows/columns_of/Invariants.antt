use Rattle.std.proofs.Common.{◌≡◌}
use Rattle.csv.specs.Records.{fields_of}
use Rattle.lq_load.specs.Rows.{is_column}
use Rattle.lq_load.proofs.Fields.{Found}
use Rattle.lq_load.proofs.rows.columns_of.Given as goal

abbrev pub invariant-loop-field : goal.invariant-loop-field
invariant-loop-field l = (l.field-iterator.row.now ≡ l.heading) × Found is_column (fields_of l.heading) l.columns l.field-iterator.at
