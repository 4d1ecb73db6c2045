use Rattle.lq_players.proofs.TablesSeen.{rows_seen}
use Rattle.lq_players.proofs.in_tables.rows_in.Goals as goal

pub returns-in-Ok : goal.returns-in-Ok
returns-in-Ok g c = rows_seen c.args.dialect (g.K.Look.catalogue c.args.look.now) c.in-Ok.rows c.in-Ok.ensures
