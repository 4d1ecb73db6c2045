use Rattle.std.proofs.Common.{arith, sym, ◌∙◌}
use Rattle.lq_expr.proofs.Parts.{found_at, found_later, found_none, depth_after_le}
use Rattle.lq_expr.proofs.reading.place_of.Goals as goal

pub returns-then-is_cut : goal.returns-then-is_cut
returns-then-is_cut c = found_at c.args.operator c.loop-i.depth _ c.args.words.now c.loop-i.i _ c.loop-i-test.true c.index-words-i.is (sym c.is_cut.ensures ∙ c.if-is_cut.true) c.loop-i.invariant.0

pub loop-i-preserved : goal.loop-i-preserved
loop-i-preserved c = (
  found_later c.args.operator c.loop-i.depth _ _ c.args.words.now c.loop-i.i _ c.loop-i-test.true c.index-words-i.is (sym c.is_cut.ensures ∙ c.if-is_cut.false) c.depth_after-depth.ensures c.loop-i.invariant.0,
  depth_after_le _ c.loop-i.depth _ c.loop-i.i c.depth_after-depth.ensures c.loop-i.invariant.1,
)

pub returns : goal.returns
returns c = found_none c.args.operator c.loop-i.depth c.args.words.now c.loop-i.i _ (omega arith) c.loop-i.invariant.0
