-- The grammar of the constraints that stand apart from the columns.
use Rattle.std.specs.Prelude.{Bool, None, Option, Some, false, if◌then◌else◌, true}
use Rattle.lq_base.specs.declared.dialect.Dialect.{Dialect}
use Rattle.lq_base.specs.declared.dialect.Dialect.TheVariants.{Mysql, Postgresql}
use Rattle.lq_base.specs.declared.name.Name.{Name}
use Rattle.lq_model.specs.Sound.{foreign_name, key_name, unique_name}
use Rattle.lq_model.specs.SqlParser.{Parser, eat, enclosed, expect, given, peek, pure, refuse, skip, ◌>>=◌, ◌>>◌}
use Rattle.lq_model.specs.SqlPart.{name, name_of, object}
use Rattle.lq_model.specs.declared.constraint.ForeignKey.{ForeignKey}
use Rattle.lq_model.specs.declared.constraint.Key.{Key}
use Rattle.lq_model.specs.declared.constraint.Unique.{Unique}
use Rattle.lq_model.specs.declared.table_item.TableConstraint.{TableConstraint}
use Rattle.lq_model.specs.declared.table_item.TableConstraint.TheVariants as constraint
use Rattle.lq_model.specs.declared.word.WordKind.{WordKind}
use Rattle.lq_model.specs.declared.word.WordKind.TheVariants as word

-- the name that was stated, or else this one
abbrev pub name_or : Name → Option Name → Parser Name
name_or other (Some stated) = pure stated
name_or other None = given (name_of other)

-- in mysql a primary key has one name, whatever is stated
abbrev pub key_name_or : Dialect → Name → Option Name → Parser Name
key_name_or Postgresql table stated = name_or (key_name Postgresql table) stated
key_name_or Mysql table stated = name_or (key_name Mysql table) None

-- `PRIMARY KEY (c)`
unfoldable pub key : Dialect → Name → Option Name → Parser Key
key d table stated = do
  expect word.Primary
  expect word.Key
  columns ← enclosed name
  named ← key_name_or d table stated
  pure (record { name = named; columns = columns })

-- `UNIQUE (c)`
unfoldable pub unique : Name → Option Name → Parser Unique
unique table stated = do
  expect word.Unique
  columns ← enclosed name
  named ← name_or (unique_name table columns) stated
  pure (record { name = named; columns = columns })

abbrev pub on_delete_by : WordKind → Parser Bool
on_delete_by word.Cascade = skip >> pure true
on_delete_by word.Restrict = skip >> pure false
on_delete_by word.No = skip >> (expect word.Action >> pure false)
on_delete_by _ = refuse

-- whether a row goes with the one that it names: `ON DELETE CASCADE`, and not by `RESTRICT`, `NO ACTION` or without it
unfoldable pub on_delete : Parser Bool
on_delete = do
  stated ← eat word.On
  if stated then (do expect word.Delete; found ← peek; on_delete_by found) else pure false

-- `FOREIGN KEY (c) REFERENCES q (c)`
unfoldable pub foreign : Dialect → Name → Option Name → Parser ForeignKey
foreign d table stated = do
  expect word.Foreign
  expect word.Key
  columns ← enclosed name
  expect word.References
  target ← object d
  targets ← enclosed name
  cascade ← on_delete
  named ← name_or (foreign_name table columns) stated
  pure (record { name = named; columns = columns; table = target; targets = targets; cascade = cascade })

abbrev pub constraint_by : Dialect → Name → Option Name → WordKind → Parser TableConstraint
constraint_by d table stated word.Primary = do found ← key d table stated; pure (constraint.Key found)
constraint_by d table stated word.Unique = do found ← unique table stated; pure (constraint.Unique found)
constraint_by d table stated word.Foreign = do found ← foreign d table stated; pure (constraint.Foreign found)
constraint_by d table stated _ = refuse

abbrev pub begins_constraint : WordKind → Bool
begins_constraint word.Constraint = true
begins_constraint word.Primary = true
begins_constraint word.Unique = true
begins_constraint word.Foreign = true
begins_constraint _ = false

-- `CONSTRAINT q`, or nothing
unfoldable pub stated_name : Parser (Option Name)
stated_name = do
  stated ← eat word.Constraint
  if stated then (do found ← name; pure (Some found)) else pure None

unfoldable pub table_constraint : Dialect → Name → Parser TableConstraint
table_constraint d table = do
  stated ← stated_name
  found ← peek
  constraint_by d table stated found
