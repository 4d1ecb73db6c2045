-- What drops a primary key, and what is gone then: under PostgreSQL the table's constraint of that name, of whichever sort.
use Rattle.lq_base.specs.declared.dialect.Dialect.{Dialect}
use Rattle.lq_base.specs.declared.dialect.Dialect.TheVariants.{Mysql, Postgresql}
use Rattle.lq_base.specs.declared.name.Name.{Name}
use Rattle.lq_model.specs.Catalogue.{Table}
use Rattle.lq_model.specs.Constraints.{without_constraint, without_its_key}
use Rattle.lq_model.specs.declared.statement.Statement.{Statement}
use Rattle.lq_model.specs.declared.statement.Statement.TheVariants.{DropConstraint, DropPrimaryKey}

abbrev pub drops_key : Dialect → Name → Name → Statement
drops_key Postgresql t n = DropConstraint t n
drops_key Mysql t n = DropPrimaryKey t

abbrev pub key_dropped : Dialect → Name → Table → Table
key_dropped Postgresql n it = without_constraint n it
key_dropped Mysql n it = without_its_key it
