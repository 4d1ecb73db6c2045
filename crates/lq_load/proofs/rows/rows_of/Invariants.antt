use Rattle.std.proofs.Common.{◌≡◌, drop, map, take}
use Rattle.std.specs.List.{list_all}
use Rattle.csv.specs.Records.{fields_of}
use Rattle.lq_load.specs.Rows.{is_row}
use Rattle.lq_load.proofs.rows.rows_of.Given as goal

abbrev pub invariant-loop-fields : goal.invariant-loop-fields
invariant-loop-fields l =
    (l.rows ≡ map fields_of (take l.fields-index l.records))
    × (list_all (is_row l.width) (map fields_of l.records) ≡ list_all (is_row l.width) (map fields_of (drop l.fields-index l.records)))
