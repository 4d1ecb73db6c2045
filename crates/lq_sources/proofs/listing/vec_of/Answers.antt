use Rattle.std.proofs.Common.{rules, ◌≡◌, []}
use Rattle.lq_sources.proofs.Listings.{reversed}
use Rattle.lq_sources.proofs.listing.vec_of.Goals as goal

pub returns : goal.returns
returns c =
    let none : c.loop-path.paths ≡ [] = search rules in
    reversed c.args.paths c.loop-path.moved.items c.loop-path.paths c.loop-path.invariant none
