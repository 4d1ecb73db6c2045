use Rattle.std.proofs.Common.{◌≡◌, ◌≤◌}
use Rattle.lq_links.specs.State.{spot_at, state_of, spots}
use Rattle.lq_chain.proofs.find.walk_on.Given as goal

abbrev pub invariant-loop : goal.invariant-loop
invariant-loop g l = (l.counter ≤ l.to) × (spot_at (spots (state_of l.links)) l.counter ≡ l.cur)
