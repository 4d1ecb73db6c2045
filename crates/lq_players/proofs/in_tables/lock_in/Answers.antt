use Rattle.lq_players.proofs.TablesSeen.{lock_seen}
use Rattle.lq_players.proofs.in_tables.lock_in.Goals as goal

pub returns-in-Ok : goal.returns-in-Ok
returns-in-Ok g c = lock_seen c.args.dialect (g.K.Look.catalogue c.args.look.now) c.in-Ok.lock c.in-Ok.ensures
