use Rattle.std.proofs.Common.{◌≡◌, ◌++◌, length}
use Rattle.std.specs.List.{flat_map}
use Rattle.lq_model.specs.SqlTable.{columns_in, keys_in, uniques_in, foreign_in}
use Rattle.lq_statement.proofs.gather.table_of.Given as goal

abbrev pub invariant-loop-rest : goal.invariant-loop-rest
invariant-loop-rest l = record {
  columns : l.columns ++ flat_map columns_in l.rest ≡ flat_map columns_in l.items;
  keys : l.keys ++ flat_map keys_in l.rest ≡ flat_map keys_in l.items;
  uniques : l.uniques ++ flat_map uniques_in l.rest ≡ flat_map uniques_in l.items;
  foreign : l.foreign ++ flat_map foreign_in l.rest ≡ flat_map foreign_in l.items;
}

abbrev pub decreases-loop-rest : goal.decreases-loop-rest
decreases-loop-rest l = length l.rest
