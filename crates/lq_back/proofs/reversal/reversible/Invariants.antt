use Rattle.std.proofs.Common.{length, map, ◌≡◌, ◌++◌}
use Rattle.std.specs.Prelude.{reverse}
use Rattle.lq_expr.specs.declared.options.Options.{Options}
use Rattle.lq_back.proofs.Ways.{some_way}
use Rattle.lq_back.proofs.reversal.reversible.Given as goal
use Rattle.lq_back.specs.Reversal.{taken_back}
use Rattle.lq_seen.specs.View.{any_meaning, views}
use Rattle.lq_turns.specs.Script.{not_reversible}

abbrev pub invariant-loop-row : goal.invariant-loop-row
invariant-loop-row l = (map some_way l.ways ++ map (taken_back l.changelog.sets) (reverse l.rest) ≡ map (taken_back l.changelog.sets) (reverse l.rows))
    × ((o : Options) → not_reversible o.dialect any_meaning (views o l.changelog.sets) (reverse l.rest) ≡ not_reversible o.dialect any_meaning (views o l.changelog.sets) (reverse l.rows))

abbrev pub decreases-loop-row : goal.decreases-loop-row
decreases-loop-row l = length l.rest
