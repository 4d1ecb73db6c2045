-- What a column's new name makes of what lists columns: `own` where the lists are of columns of the table that has the column.
use Rattle.std.specs.Prelude.{Bool}
use Rattle.lq_base.specs.Name.{is_named}
use Rattle.lq_base.specs.declared.name.Name.{Name}
use Rattle.lq_model.specs.Tables.{name_at, names_at}
use Rattle.lq_model.specs.declared.column.Column.{Column}
use Rattle.lq_model.specs.declared.constraint.ForeignKey.{ForeignKey}
use Rattle.lq_model.specs.declared.constraint.Key.{Key}
use Rattle.lq_model.specs.declared.constraint.Unique.{Unique}
use Rattle.lq_model.specs.declared.index.Index.{Index}

abbrev pub column_at : Bool → Name → Name → Column → Column
column_at own a b c = record c { name = name_at own a b c.name }

abbrev pub key_at : Bool → Name → Name → Key → Key
key_at own a b k = record k { columns = names_at own a b k.columns }

abbrev pub unique_at : Bool → Name → Name → Unique → Unique
unique_at own a b u = record u { columns = names_at own a b u.columns }

abbrev pub index_at : Bool → Name → Name → Index → Index
index_at own a b i = record i { columns = names_at own a b i.columns }

-- its targets have the new name where it aims at the table t
abbrev pub foreign_at : Name → Bool → Name → Name → ForeignKey → ForeignKey
foreign_at t own a b f = record f { columns = names_at own a b f.columns; targets = names_at (is_named t f.table) a b f.targets }
