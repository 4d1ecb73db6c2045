use Rattle.std.proofs.Common.{◌≡◌, ◌+◌, length, drop}
use Rattle.lq_chain.specs.Marks.{kept_rows}
use Rattle.lq_chain.proofs.KeepLemmas.{kept_from}
use Rattle.lq_chain.proofs.chain.Chain.keep_marked.Given as goal

abbrev pub invariant-loop-mark : goal.invariant-loop-mark
invariant-loop-mark g l =
    let left = drop l.mark-index l.marks in
    (kept_from l.at left l.self.now ≡ kept_rows l.fn.marks l.fn.self.now)
    × (l.self.past ≡ l.fn.self.past)
    × (length l.self.now ≡ l.at + length left)
