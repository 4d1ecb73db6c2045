use Rattle.std.proofs.lemmas.List.Sorted.{IsPermutation-trans}
use Rattle.lq_sources.proofs.listing.in_order.Goals as goal

pub returns-clause-moved : goal.returns-clause-moved
returns-clause-moved c = IsPermutation-trans _ _ _ c.in_ok-sorted.ensures c.sort_unstable.ensures.permutation
