use Rattle.std.proofs.Common.{subst}
use Rattle.lq_sets.proofs.Gathered.{suffices}
use Rattle.lq_sets.specs.Counting.{Gathered}
use Rattle.lq_sets.proofs.rows_asked.rows_asked.Goals as goal

pub returns : goal.returns
returns g c = λ d database stands. suffices d c.args.asked.now database c.add_asked.new.rows
    (subst (λ old. Gathered database.rows old c.add_asked.new.rows c.args.asked.now) c.new-rows.ensures (c.in_ok-add_asked.ensures d database stands))
