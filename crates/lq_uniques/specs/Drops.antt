-- What drops a unique constraint, and what is gone then: under PostgreSQL the table's constraint of that name, of whichever sort.
use Rattle.lq_base.specs.declared.dialect.Dialect.{Dialect}
use Rattle.lq_base.specs.declared.dialect.Dialect.TheVariants.{Mysql, Postgresql}
use Rattle.lq_base.specs.declared.name.Name.{Name}
use Rattle.lq_model.specs.Catalogue.{Table}
use Rattle.lq_model.specs.Constraints.{without_constraint, without_unique}
use Rattle.lq_model.specs.declared.statement.Statement.{Statement}
use Rattle.lq_model.specs.declared.statement.Statement.TheVariants.{DropConstraint, DropUnique}

abbrev pub drops_unique : Dialect → Name → Name → Statement
drops_unique Postgresql t n = DropConstraint t n
drops_unique Mysql t n = DropUnique t n

abbrev pub unique_dropped : Dialect → Name → Table → Table
unique_dropped Postgresql n it = without_constraint n it
unique_dropped Mysql n it = without_unique n it
