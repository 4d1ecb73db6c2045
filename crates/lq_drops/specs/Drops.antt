-- What drops a foreign key or an index: under PostgreSQL the table's constraint of that name, of whichever sort, and the index of that name, on whichever table of its schema.
use Rattle.std.specs.Prelude.{None, Some}
use Rattle.lq_base.specs.Name.{beside}
use Rattle.lq_base.specs.declared.dialect.Dialect.{Dialect}
use Rattle.lq_base.specs.declared.dialect.Dialect.TheVariants.{Mysql, Postgresql}
use Rattle.lq_base.specs.declared.name.Name.{Name}
use Rattle.lq_model.specs.declared.statement.Statement.{Statement}
use Rattle.lq_model.specs.declared.statement.Statement.TheVariants.{DropConstraint, DropForeignKey, DropIndex}

abbrev pub drops_foreign : Dialect → Name → Name → Statement
drops_foreign Postgresql t n = DropConstraint t n
drops_foreign Mysql t n = DropForeignKey t n

abbrev pub drops_index : Dialect → Name → Name → Statement
drops_index Postgresql n t = DropIndex (beside t n) None
drops_index Mysql n t = DropIndex n (Some t)
