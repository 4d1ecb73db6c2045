use Rattle.std.proofs.Common.{ap, arith, ◌∙◌}
use Rattle.lq_cond.specs.Told.{told}
use Rattle.lq_cond.proofs.EachLemmas.{one_more, stops}
use Rattle.lq_cond.proofs.ToldLemmas.{and_told, not_told, or_told}
use Rattle.lq_cond.proofs.verdict.+told.Goals as goal

pub check-returns-in-And : goal.check-returns-in-And
check-returns-in-And g t c =
    rw (ap (λ cond. told c.args.dialect cond (g.K.Look.catalogue c.args.look.now) c.args.rows.now) c.in-And.is ∙ and_told _ _ _ _) (c.all_hold.ensures _ (rw (← c.as_slice.ensures) c.each_told.ensures))

pub check-returns-in-Or : goal.check-returns-in-Or
check-returns-in-Or g t c =
    rw (ap (λ cond. told c.args.dialect cond (g.K.Look.catalogue c.args.look.now) c.args.rows.now) c.in-Or.is ∙ or_told _ _ _ _) (c.one_holds.ensures _ (rw (← c.as_slice-in-Or.ensures) c.each_told-in-Or.ensures))

pub check-returns-in-Not : goal.check-returns-in-Not
check-returns-in-Not g t c =
    rw (ap (λ cond. told c.args.dialect cond (g.K.Look.catalogue c.args.look.now) c.args.rows.now) c.in-Not.is ∙ not_told _ _ _ _) (c.none_holds.ensures _ (rw (← c.as_slice-in-Not.ensures) c.each_told-in-Not.ensures))

pub each_told-returns-in-Err : goal.each_told-returns-in-Err
each_told-returns-in-Err g t c =
    stops (λ cond. told c.args.dialect cond (g.K.Look.catalogue c.args.look.now) c.args.rows.now) c.args.conds.now c.loop-cond.cond-index _ c.cond-item.result (omega arith) c.cond-item.is c.loop-cond.all _ c.loop-cond.invariant
    c.in-Err.fault (c.in-Err.ensures _ c.check.ensures)

pub each_told-loop-cond-preserved : goal.each_told-loop-cond-preserved
each_told-loop-cond-preserved g t c =
    one_more (λ cond. told c.args.dialect cond (g.K.Look.catalogue c.args.look.now) c.args.rows.now) c.args.conds.now c.loop-cond.cond-index _ c.cond-item.result (omega arith) c.cond-item.is c.loop-cond.all _ c.loop-cond.invariant
    c.in-Ok.more (c.in-Ok.ensures _ c.check.ensures)
