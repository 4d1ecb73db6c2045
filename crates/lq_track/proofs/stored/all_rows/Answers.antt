use Rattle.lq_track.proofs.AllRows.{all_rows_are, none_refused}
use Rattle.lq_track.proofs.stored.all_rows.Goals as goal

pub returns-in-Ok : goal.returns-in-Ok
returns-in-Ok g c = all_rows_are (g.K.Look.catalogue c.args.look.now) c.args.table _ c.in-Ok.ensures

pub returns-in-Err-Refused : goal.returns-in-Err-Refused
returns-in-Err-Refused g c = rw c.new.ensures (none_refused (g.K.Look.catalogue c.args.look.now) c.args.table _ (rw c.in-Err-Refused.field-0-is at c.in-Err-Refused.ensures))
