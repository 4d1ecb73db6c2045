use Rattle.std.proofs.Common.{◌≡◌, ◌≤◌, ◌+◌, arith, inr, refl, rules}
use Rattle.lq_expr.specs.Words.{words}
use Rattle.lq_expr.proofs.Levels.{answers}
use Rattle.lq_expr.proofs.Shallow.{behind_close, behind_open, behind_other, none_read}
use Rattle.lq_expr.proofs.reading.parse.Goals as goal

pub returns : goal.returns
returns c = let all : words c.args.text.now ≡ c.as_slice.result.now = search rules in answers _ c.joined.result (rw all c.joined.ensures)

pub returns-then-depth-gt-LEVELS : goal.returns-then-depth-gt-LEVELS
returns-then-depth-gt-LEVELS c =
    inr (rw (none_read 64 (words c.args.text.now) (λ whole.
    let more = behind_open 64 c.loop-byte.depth (c.loop-byte.depth + 1) c.as_bytes-byte-items.result.now c.args.text.now c.loop-byte.byte-index c.as_bytes-byte-items.ensures.value c.loop-byte-test.true c.if-byte-eq40.true (search (arith)) c.loop-byte.invariant.0 whole in
    omega arith)) refl)

pub loop-byte-preserved-then-byte-eq40 : goal.loop-byte-preserved-then-byte-eq40
loop-byte-preserved-then-byte-eq40 c =
    (λ whole. (behind_open 64 c.loop-byte.depth (c.loop-byte.depth + 1) c.as_bytes-byte-items.result.now c.args.text.now c.loop-byte.byte-index c.as_bytes-byte-items.ensures.value c.loop-byte-test.true c.if-byte-eq40.true (search (arith)) c.loop-byte.invariant.0 whole).1, c.if-depth-gt-LEVELS.false)

pub loop-byte-preserved-then-byte-eq41 : goal.loop-byte-preserved-then-byte-eq41
loop-byte-preserved-then-byte-eq41 c = (
  behind_close 64 c.loop-byte.depth _ c.as_bytes-byte-items.result.now c.args.text.now c.loop-byte.byte-index c.as_bytes-byte-items.ensures.value c.loop-byte-test.true c.if-byte-eq41.true c.saturating_sub-depth.ensures c.loop-byte.invariant.0,
  let low : c.loop-byte.depth ≤ 64 = c.loop-byte.invariant.1 in omega arith,
)

pub loop-byte-preserved : goal.loop-byte-preserved
loop-byte-preserved c =
    (behind_other 64 c.loop-byte.depth c.as_bytes-byte-items.result.now c.args.text.now c.loop-byte.byte-index c.as_bytes-byte-items.ensures.value c.loop-byte-test.true c.loop-byte.invariant.1 c.if-byte-eq40.false c.if-byte-eq41.false c.loop-byte.invariant.0, c.loop-byte.invariant.1)
