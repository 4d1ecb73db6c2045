use Rattle.std.proofs.Common.{◌≡◌}
use Rattle.std.specs.Str.{is_utf8}
use Rattle.csv.specs.Records.{fields_of}
use Rattle.lq_load.proofs.Fields.{Found}
use Rattle.lq_load.proofs.rows.texts_of.Given as goal

abbrev pub invariant-loop-field : goal.invariant-loop-field
invariant-loop-field l = (l.field-iterator.row.now ≡ l.fields) × Found is_utf8 (fields_of l.fields) l.texts l.field-iterator.at
