use Rattle.std.proofs.Common.{rules}
use Rattle.lq_sources.proofs.Given.{one_more}
use Rattle.lq_sources.proofs.reading.given_props.Goals as goal

pub loop-entry-preserved : goal.loop-entry-preserved
loop-entry-preserved c =
    one_more _ _ _ c.args.given.now c.loop-entry.entry-index c.entry-item.result _ c.loop-entry-test.true c.entry-item.is (search rules) c.loop-entry.invariant
