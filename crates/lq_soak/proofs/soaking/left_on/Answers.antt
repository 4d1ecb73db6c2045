use Rattle.lq_soak.proofs.SoakRuns.{ok_both}
use Rattle.lq_soak.proofs.SoakTables.{is_left}
use Rattle.lq_soak.proofs.soaking.left_on.Goals as goal

pub returns-in-Ok : goal.returns-in-Ok
returns-in-Ok g c = ok_both c.counted.result _ _ _ c.counted.ensures.rows c.counted.ensures.tables (λ left rows tables database has.
    is_left c.args.dialect 1 (g.S.Store.state c.args.store.now) _ database has c.in-Ok.ensures.seen c.args.sets left.rows left.tables rows tables)
