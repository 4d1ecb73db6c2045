use Rattle.lq_sources.specs.Walk.{held}
use Rattle.lq_sources.proofs.Steps.{not_walked, walked_ok}
use Rattle.lq_sources.proofs.walking.walk.Goals as goal

pub returns-in-Ok-clause-reads : goal.returns-in-Ok-clause-reads
returns-in-Ok-clause-reads g c source known =
    walked_ok (g.G.Gather.means c.args.gather.now) source c.args.root.now c.args.given.now c.args.gathered.now _ (held c.read_root-result.new.reading c.read_root-result.new.gathered) c.in_ok-test_name.ensures c.in_ok-reading.ensures (c.in-Ok.ensures.reads source known)

pub returns-in-Err-clause-reads : goal.returns-in-Err-clause-reads
returns-in-Err-clause-reads g c =
    not_walked (g.G.Gather.means c.args.gather.now) _ c.args.root.now c.args.given.now c.args.gathered.now _ c.in-Err.fault c.in_ok-test_name.ensures c.in_ok-reading.ensures c.in-Err.ensures.reads
