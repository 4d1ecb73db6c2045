use Rattle.std.proofs.Common.{◌≡◌, length}
use Rattle.lq_model.specs.Catalogue.{by_name}
use Rattle.tests_track.proofs.one_table.is_null_at.Given as goal

abbrev pub invariant-loop-column : goal.invariant-loop-column
invariant-loop-column l = by_name l.columns l.values l.fn.name ≡ by_name l.fn.columns l.fn.values l.fn.name

abbrev pub decreases-loop-column : goal.decreases-loop-column
decreases-loop-column l = length l.columns
