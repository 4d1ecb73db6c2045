use Rattle.std.proofs.Common.{length, reverse, true, ◌++◌, ◌≡◌}
use Rattle.std.specs.FinMap.Entries.{is_sorted}
use Rattle.lq_base.specs.Name.{name_cmp}
use Rattle.lq_filled.specs.With.{with_views}
use Rattle.lq_filled.proofs.views.put_all_views.Given as goal

abbrev pub invariant-loop-name : goal.invariant-loop-name
invariant-loop-name l = record {
  sorted : is_sorted name_cmp (l.parts.now.views ++ reverse l.left) ≡ true;
  all : with_views (l.parts.now.views ++ reverse l.left) l.parts.now
      ≡ with_views (l.fn.parts.now.views ++ reverse l.fn.views) l.fn.parts.now;
}

abbrev pub decreases-loop-name : goal.decreases-loop-name
decreases-loop-name l = length l.left
