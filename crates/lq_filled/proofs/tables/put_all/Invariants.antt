use Rattle.std.proofs.Common.{length, reverse, true, ◌++◌, ◌≡◌}
use Rattle.std.specs.FinMap.Entries.{is_sorted}
use Rattle.lq_base.specs.Name.{name_cmp}
use Rattle.lq_filled.specs.With.{with_tables}
use Rattle.lq_filled.proofs.tables.put_all.Given as goal

abbrev pub invariant-loop-name : goal.invariant-loop-name
invariant-loop-name l = record {
  sorted : is_sorted name_cmp (l.parts.now.tables ++ reverse l.left) ≡ true;
  all : with_tables (l.parts.now.tables ++ reverse l.left) l.parts.now
      ≡ with_tables (l.fn.parts.now.tables ++ reverse l.fn.tables) l.fn.parts.now;
}

abbrev pub decreases-loop-name : goal.decreases-loop-name
decreases-loop-name l = length l.left
