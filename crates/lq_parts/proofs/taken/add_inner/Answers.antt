use Rattle.lq_parts.proofs.TakenLemmas.{inner_gained}
use Rattle.lq_parts.proofs.taken.add_inner.Goals as goal

pub returns : goal.returns
returns c = λ it is.
    inner_gained c.args.table.now c.args.shape.now it c.args.set.now c.add_key.new.set c.add_uniques.new.set c.add_indexes.new.set is c.in_ok-add_key.ensures
    (rw (c.as_slice.ensures) at c.in_ok-add_uniques.ensures) (rw (c.as_slice-2.ensures) at c.in_ok-add_indexes.ensures)
