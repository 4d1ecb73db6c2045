use Rattle.lq_soak.proofs.SoakRuns.{tells_soak}
use Rattle.lq_soak.proofs.soaking.soak.Goals as goal

pub returns-clause-tells : goal.returns-clause-tells
returns-clause-tells g c =
    let seed = c.args.seed in
    tells_soak c.args.dialect seed.number seed.sets c.args.who.now _ c.now-reading.result c.in_ok-text.text c.with.result c.with.ensures.status c.with.ensures.out c.with.ensures.own c.with.ensures.warned c.now-reading.ensures.last c.in_ok-text.ensures.soaks
