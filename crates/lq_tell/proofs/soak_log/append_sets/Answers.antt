use Rattle.std.proofs.Common.{refl}
use Rattle.lq_tell.proofs.SoakTexts.{none_yet, one_more}
use Rattle.lq_tell.proofs.soak_log.append_sets.Goals as goal

pub loop-made-init : goal.loop-made-init
loop-made-init c = (none_yet c.args.number c.args.to.now, refl, refl)

pub loop-made-preserved : goal.loop-made-preserved
loop-made-preserved c =
    let l = c.loop-made in
    one_more c.args.number l.made c.args.to.now l.to c.append_set.new.to l.drawn l.table c.next_number-drawn.result c.kind_of-kind.result c.table_after-table.result l.invariant.0 l.invariant.1 l.invariant.2
    c.next_number-drawn.ensures c.kind_of-kind.ensures c.table_after-table.ensures c.in_ok-append_set.ensures
