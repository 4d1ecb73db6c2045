use Rattle.std.proofs.Common.{ap, arith, drop, length, map, subst, suc, sym, ◌+◌, ◌∙◌, ◌∷◌, ◌≡◌}
use Rattle.std.proofs.Math.Seq.{drop-cons}
use Rattle.lq_rows.proofs.Continued.{goes_one_further}
use Rattle.lq_rows.specs.Stored.{Continues}
use Rattle.lq_deletes.specs.Places.{AreMarked, marks_of, with_thinned}
use Rattle.lq_deletes.proofs.Thinned.{marked_step, thin_step}
use Rattle.lq_deletes.proofs.loss.thin.Goals as goal

pub keep-requires-clause-there : goal.keep-requires-clause-there
keep-requires-clause-there c =
    let i = c.loop-loss.loss-index in
    let ls = c.args.losses.now in
    let x = c.loss-item.result in
    let rest : drop i ls ≡ x ∷ drop (suc i) ls = drop-cons ls i x c.loop-loss-test.true ∙ ap (λ y. y ∷ drop (suc i) ls) (sym c.loss-item.is) in
    (subst (λ xs. AreMarked (map marks_of xs) c.loop-loss.parts.now.tables) rest c.loop-loss.invariant.1).0

pub keep-requires-clause-each : goal.keep-requires-clause-each
keep-requires-clause-each c =
    let i = c.loop-loss.loss-index in
    let ls = c.args.losses.now in
    let x = c.loss-item.result in
    let rest : drop i ls ≡ x ∷ drop (suc i) ls = drop-cons ls i x c.loop-loss-test.true ∙ ap (λ y. y ∷ drop (suc i) ls) (sym c.loss-item.is) in
    let copy : c.in_ok-marks.marks.items ≡ x.marks.items = c.in_ok-marks.ensures ∙ c.deref.ensures.value in
    ap length copy ∙ (subst (λ xs. AreMarked (map marks_of xs) c.loop-loss.parts.now.tables) rest c.loop-loss.invariant.1).1

pub loop-loss-preserved : goal.loop-loss-preserved
loop-loss-preserved c =
    let i = c.loop-loss.loss-index in
    let ls = c.args.losses.now in
    let x = c.loss-item.result in
    let old = c.args.parts.now in
    let before = c.loop-loss.parts in
    let new = c.keep.new.self in
    let rest : drop i ls ≡ x ∷ drop (suc i) ls = drop-cons ls i x c.loop-loss-test.true ∙ ap (λ y. y ∷ drop (suc i) ls) (sym c.loss-item.is) in
    let copy : c.in_ok-marks.marks.items ≡ x.marks.items = c.in_ok-marks.ensures ∙ c.deref.ensures.value in
    let changes = rw copy at c.in_ok-keep.ensures.ok in
    let next : suc i ≡ i + 1 = omega arith in
    let thinner = subst (λ xs. with_thinned (map marks_of xs) before.now ≡ with_thinned (map marks_of ls) old.now) rest c.loop-loss.invariant.0 in
    let marked = subst (λ xs. AreMarked (map marks_of xs) before.now.tables) rest c.loop-loss.invariant.1 in
    subst (λ k. (with_thinned (map marks_of (drop k ls)) new.now ≡ with_thinned (map marks_of ls) old.now) × AreMarked (map marks_of (drop k ls)) new.now.tables × Continues old new) next
    (thin_step before new (marks_of x) (map marks_of (drop (suc i) ls)) changes ∙ thinner, marked_step before new (marks_of x) (map marks_of (drop (suc i) ls)) changes marked, subst (Continues old) (sym changes) (goes_one_further old before _ c.loop-loss.invariant.2))
