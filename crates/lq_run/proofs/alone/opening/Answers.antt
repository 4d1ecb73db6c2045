use Rattle.lq_run.proofs.Opens.{opening_writable, opens_on}
use Rattle.lq_run.proofs.alone.opening.Goals as goal

pub returns-clause-opens : goal.returns-clause-opens
returns-clause-opens g c = opens_on c.args.dialect c.args.stamp.now (g.K.Look.catalogue c.args.look.now) c.in_ok-there.there c.in_ok-deeds.deeds c.in_ok-there.ensures.log c.in_ok-there.ensures.lock c.in_ok-there.ensures.lock_row c.in_ok-deeds.ensures.deeds

pub returns-clause-writable : goal.returns-clause-writable
returns-clause-writable g c = opening_writable c.args.dialect c.args.stamp.now c.in_ok-there.there c.in_ok-deeds.deeds c.requires.moment c.in_ok-deeds.ensures.deeds
