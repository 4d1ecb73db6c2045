use Rattle.std.proofs.Common.{arith}
use Rattle.lq_soak.proofs.SoakTables.{one_more}
use Rattle.lq_soak.proofs.soaking.tables_in.Goals as goal

pub loop-place-preserved : goal.loop-place-preserved
loop-place-preserved g c =
    let l = c.loop-place in (
      omega (arith, l.invariant.0, c.one_if.ensures.most),
      one_more (g.K.Look.catalogue c.args.look.now) l.place l.count c.one_if.result c.in_ok-is_there.field-0 l.invariant.1 c.in_ok-is_there.ensures c.one_if.ensures.one,
    )
