use Rattle.std.proofs.Common.{arith, subst, sym}
use Rattle.lq_sets.proofs.Gathered.{and_gathered, gathered_by, gathered_next, not_gathered, or_gathered}
use Rattle.lq_sets.specs.Counting.{Gathered, GatheredEach}
use Rattle.lq_sets.proofs.rows_asked.+asked.Goals as goal

pub add_asked-returns-in_ok-add_each-in-And : goal.add_asked-returns-in_ok-add_each-in-And
add_asked-returns-in_ok-add_each-in-And g t c = λ d database stands. subst (Gathered database.rows c.args.rows.now c.add_each.new.rows) (sym c.in-And.is)
    (and_gathered (subst (GatheredEach database.rows c.args.rows.now c.add_each.new.rows) c.as_slice.ensures (c.in_ok-add_each-in-And.ensures d database stands)))

pub add_asked-returns-in_ok-add_each-in-Or : goal.add_asked-returns-in_ok-add_each-in-Or
add_asked-returns-in_ok-add_each-in-Or g t c = λ d database stands. subst (Gathered database.rows c.args.rows.now c.add_each-in-Or.new.rows) (sym c.in-Or.is)
    (or_gathered (subst (GatheredEach database.rows c.args.rows.now c.add_each-in-Or.new.rows) c.as_slice-in-Or.ensures (c.in_ok-add_each-in-Or.ensures d database stands)))

pub add_asked-returns-in_ok-add_each-in-Not : goal.add_asked-returns-in_ok-add_each-in-Not
add_asked-returns-in_ok-add_each-in-Not g t c = λ d database stands. subst (Gathered database.rows c.args.rows.now c.add_each-in-Not.new.rows) (sym c.in-Not.is)
    (not_gathered (subst (GatheredEach database.rows c.args.rows.now c.add_each-in-Not.new.rows) c.as_slice-in-Not.ensures (c.in_ok-add_each-in-Not.ensures d database stands)))

pub add_asked-returns-in_ok-add_for-in-Is : goal.add_asked-returns-in_ok-add_for-in-Is
add_asked-returns-in_ok-add_for-in-Is g t c = λ d database stands. gathered_by database.rows c.args.rows.now c.add_for.new.rows _ c.args.asked.now c.in-Is.is (c.in_ok-add_for-in-Is.ensures d database stands)

pub add_each-loop-cond-preserved : goal.add_each-loop-cond-preserved
add_each-loop-cond-preserved g t c = λ d database stands. gathered_next c.loop-cond.cond-index _ c.cond-item.result (omega arith) c.cond-item.is (c.loop-cond.invariant d database stands) (c.in_ok-add_asked.ensures d database stands)
