-- What sets whether a column takes null: under MySQL the column's kind is stated with it.
use Rattle.std.specs.Option.{unwrap_or}
use Rattle.std.specs.Prelude.{Bool, Option, if◌then◌else◌, is_some, not, ◌&&◌, ◌||◌}
use Rattle.lq_base.specs.Kind.{is_kind}
use Rattle.lq_base.specs.Number.{if_there}
use Rattle.lq_base.specs.declared.dialect.Dialect.{Dialect}
use Rattle.lq_base.specs.declared.dialect.Dialect.TheVariants.{Mysql, Postgresql}
use Rattle.lq_base.specs.declared.kind.Kind.{Kind}
use Rattle.lq_base.specs.declared.kind.Kind.TheVariants as kind
use Rattle.lq_base.specs.declared.name.Name.{Name}
use Rattle.lq_model.specs.Rows.{stated}
use Rattle.lq_model.specs.Step.{is_pg}
use Rattle.lq_model.specs.Tables.{made_nullable, modified}
use Rattle.lq_model.specs.TakesBack.{is_plain_of}
use Rattle.lq_model.specs.declared.column.Column.{Column}
use Rattle.lq_model.specs.declared.statement.Statement.{Statement}
use Rattle.lq_model.specs.declared.statement.Statement.TheVariants.{DropNotNull, Modify, SetNotNull}

-- the kind is a kind, and under MySQL there is one
abbrev pub is_stated : Dialect → Option Kind → Bool
is_stated d stated = if_there is_kind stated && (is_pg d || is_some stated)

-- the stated kind, which under MySQL there is
abbrev pub kind_stated : Option Kind → Kind
kind_stated stated = unwrap_or stated kind.Text

abbrev pub allowing : Dialect → Name → Name → Kind → Bool → Statement
allowing Postgresql t n k nullable = if nullable then DropNotNull t n else SetNotNull t n
allowing Mysql t n k nullable = Modify t n k nullable

-- the column takes null or does not, and under MySQL is of the stated kind, without a default and not numbered
abbrev pub allowed : Dialect → Kind → Bool → Column → Column
allowed Postgresql k nullable column = made_nullable nullable column
allowed Mysql k nullable column = modified k nullable column

-- whether the column takes null is new
abbrev pub is_turned : Bool → Column → Bool
is_turned nullable column = if nullable then not column.nullable else column.nullable

-- and nothing else is: under MySQL the column is as it is stated
abbrev pub is_new : Dialect → Kind → Bool → Column → Bool
is_new Postgresql k nullable column = is_turned nullable column
is_new Mysql k nullable column = is_plain_of k column && is_turned nullable column
