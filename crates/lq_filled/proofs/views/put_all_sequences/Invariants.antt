use Rattle.std.proofs.Common.{length, reverse, true, ◌++◌, ◌≡◌}
use Rattle.std.specs.FinMap.Entries.{is_sorted}
use Rattle.lq_base.specs.Name.{name_cmp}
use Rattle.lq_filled.specs.With.{with_sequences}
use Rattle.lq_filled.proofs.views.put_all_sequences.Given as goal

abbrev pub invariant-loop-name : goal.invariant-loop-name
invariant-loop-name l = record {
  sorted : is_sorted name_cmp (l.parts.now.sequences ++ reverse l.left) ≡ true;
  all : with_sequences (l.parts.now.sequences ++ reverse l.left) l.parts.now
      ≡ with_sequences (l.fn.parts.now.sequences ++ reverse l.fn.sequences) l.fn.parts.now;
}

abbrev pub decreases-loop-name : goal.decreases-loop-name
decreases-loop-name l = length l.left
