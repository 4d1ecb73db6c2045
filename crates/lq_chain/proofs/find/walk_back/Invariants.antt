use Rattle.std.proofs.Common.{◌≡◌, ◌≤◌, ◌+◌, ◌-◌}
use Rattle.lq_links.specs.State.{spot_at, state_of, spots}
use Rattle.lq_chain.proofs.find.walk_back.Given as goal

abbrev pub invariant-loop : goal.invariant-loop
invariant-loop g l = (l.to ≤ l.counter) × (l.counter ≤ l.fn.from.at) × (spot_at (spots (state_of l.links)) (l.fn.from.at + l.to - l.counter) ≡ l.cur)
