use Rattle.lq_sources.proofs.Listings.{under_is}
use Rattle.lq_sources.proofs.listing.paths_under.Goals as goal

pub returns-clause-found : goal.returns-clause-found
returns-clause-found g c = under_is _ c.args.folder.now c.in_ok-paths.paths c.in_ok-in_order.field-0.items c.in_ok-paths.ensures.listing c.in_ok-in_order.ensures.moved c.in_ok-in_order.ensures.order
