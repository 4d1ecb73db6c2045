use Rattle.lq_sets.proofs.set_turns.SetTurns.new.Goals as goal

pub returns-clause-knows : goal.returns-clause-knows
returns-clause-knows c = λ d stamp z rows small.
    rw c.in_ok-options.ensures at (rw c.in_ok-changelog.ensures at (c.in_ok-turns.ensures.knows d stamp z rows small))
