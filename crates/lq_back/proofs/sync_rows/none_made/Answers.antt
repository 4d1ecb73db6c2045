use Rattle.std.proofs.Common.{rules}
use Rattle.lq_back.proofs.Synced.{at_first}
use Rattle.lq_back.proofs.sync_rows.none_made.Goals as goal

pub returns-clause-at : goal.returns-clause-at
returns-clause-at c = at_first c.args.rows.now (record { rows = c.new.result; seen = c.new-2.result; last = c.greatest.result }) c.new.ensures (search rules) c.greatest.ensures
