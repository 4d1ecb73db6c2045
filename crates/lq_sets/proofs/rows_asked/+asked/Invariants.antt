use Rattle.std.proofs.Common.{drop}
use Rattle.lq_base.specs.declared.dialect.Dialect.{Dialect}
use Rattle.lq_track.specs.Database.{Database}
use Rattle.lq_turns.specs.Schedule.{StandsFor}
use Rattle.lq_sets.proofs.Gathered.{IsGathering}
use Rattle.lq_sets.proofs.rows_asked.+asked.Given as goal

abbrev pub invariant-add_each-loop-cond : goal.invariant-add_each-loop-cond
invariant-add_each-loop-cond g l = (d : Dialect) (database : Database) → StandsFor d (g.K.Look.catalogue l.fn.look) database → IsGathering database.rows l.fn.rows l.rows l.fn.conds (drop l.cond-index l.conds)
