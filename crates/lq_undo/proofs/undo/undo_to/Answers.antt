use Rattle.std.proofs.Common.{arith, subst, ◌+◌, ◌<◌, ◌∙◌, ◌≡◌}
use Rattle.lq_undo.proofs.Steps.{step_ago}
use Rattle.lq_undo.proofs.undo.undo_to.Goals as goal

pub loop-held-preserved : goal.loop-held-preserved
loop-held-preserved g c =
    let changes = g.H.Undo.changes in
    let before = g.H.Undo.before in
    let it = c.loop-held.held in
    let mark = c.args.mark in
    let less : mark < changes it = subst (λ n. mark < n) c.mark.ensures c.loop-held-test.true in
    let some : 0 < changes it = omega (arith, less) in
    let one : changes (before it) + 1 ≡ changes it = g.met.H.Undo.one_less it some in
    rw (c.step_back.ensures) (omega (arith, less, one), step_ago before changes it mark less one ∙ c.loop-held.invariant.1)
