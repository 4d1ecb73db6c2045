use Rattle.std.proofs.Common.{rules, List, [], ◌∷◌}
use Rattle.std.specs.Prelude.{codes}
use Rattle.lq_model.specs.Changes.{atom, CanonicalChange, decimal_digits, no_pairs, numeral, pair, text}
use Rattle.tests_sql.proofs.canonical.sums_of_one_change.Goals as goal

-- the table `t` is dropped
abbrev dropped : List CanonicalChange
dropped = record { name = codes "dropTable"; pairs = pair (codes "tableName") (text (codes "t")) no_pairs } ∷ []

pub both_sums-requires : goal.both_sums-requires
unfolding atom numeral decimal_digits
both_sums-requires c = record { changes = dropped; whole = search rules; closed = search rules }
