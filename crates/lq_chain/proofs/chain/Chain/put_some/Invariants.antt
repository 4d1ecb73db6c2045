use Rattle.std.proofs.Common.{◌≡◌, ◌+◌, length}
use Rattle.std.specs.Vec.Iter.{into_iter_items, into_iter_len}
use Rattle.lq_chain.specs.Marks.{replaced}
use Rattle.lq_chain.proofs.KeepLemmas.{replaced_from}
use Rattle.lq_chain.proofs.chain.Chain.put_some.Given as goal

abbrev pub invariant-loop-new : goal.invariant-loop-new
invariant-loop-new g l =
    let left = into_iter_items l.by in
    (replaced_from l.at left l.self.now ≡ replaced l.fn.by.items l.fn.self.now)
    × (l.self.past ≡ l.fn.self.past)
    × (length l.self.now ≡ l.at + length left)
    × (length left ≡ into_iter_len l.by)

abbrev pub decreases-loop-new : goal.decreases-loop-new
decreases-loop-new g l = into_iter_len l.by
