-- A column and one of its clauses.
use Rattle.std.specs.Option.{option_or}
use Rattle.std.specs.Prelude.{Err, List, None, Ok, Result, Some, ◌||◌, ◌≡◌}
use Rattle.lq_model.specs.SqlParser.{Parser}
use Rattle.lq_model.specs.SqlTable.{default_by, is_numbered, is_primary_key, is_unique, nullable_by, target_by}
use Rattle.lq_model.specs.declared.fault.ParseFault.{ParseFault}
use Rattle.lq_model.specs.declared.fault.ParseFault.TheVariants.{NotSql, OutOfMemory}
use Rattle.lq_model.specs.declared.table_item.ColumnClause.{ColumnClause}
use Rattle.lq_model.specs.declared.table_item.StatedColumn.{StatedColumn}
use Rattle.lq_model.specs.declared.word.Word.{Word}

-- the column with what a clause says of it, which goes before what it had
abbrev pub with_clause : ColumnClause → StatedColumn → StatedColumn
with_clause c column = record {
  name = column.name;
  kind = column.kind;
  nullable = option_or (nullable_by c) column.nullable;
  default = option_or (default_by c) column.default;
  numbered = is_numbered c || column.numbered;
  key = is_primary_key c || column.key;
  unique = is_unique c || column.unique;
  target = option_or (target_by c) column.target;
}

-- What a rule that takes no word gives.

-- before whatever words it is asked, and they are all left
abbrev pub Settles : {A : Type 0} → Parser A → Result A ParseFault → Type 0
Settles rule (Ok a) = (words : List Word) → rule words ≡ Some (a, words)
Settles rule (Err NotSql) = (words : List Word) → rule words ≡ None
Settles rule (Err OutOfMemory) = Unit {0}
