-- A column as a tracking table is made with it.
use Rattle.std.specs.Prelude.{List, None, Option, Some, [], codes, false, pos, true, ℕ, ℤ, ◌∷◌}
use Rattle.lq_base.specs.Moment.{moment_text}
use Rattle.lq_base.specs.declared.dialect.Dialect.{Dialect}
use Rattle.lq_base.specs.declared.dialect.Dialect.TheVariants.{Mysql, Postgresql}
use Rattle.lq_base.specs.declared.kind.Kind.{Kind}
use Rattle.lq_base.specs.declared.kind.Kind.TheVariants.{Boolean, Int, Moment, Text}
use Rattle.lq_base.specs.declared.literal.Literal.{Literal}
use Rattle.lq_base.specs.declared.literal.Literal.TheVariants as literal
use Rattle.lq_base.specs.declared.tracking.Lock.{Lock}
use Rattle.lq_model.specs.declared.column.ColumnDef.{ColumnDef}
use Rattle.lq_model.specs.declared.constraint.Key.{Key}
use Rattle.lq_track.specs.declared.lock_column.LockColumn.{LockColumn}
use Rattle.lq_track.specs.declared.lock_column.LockColumn.TheVariants.{Id, LockGranted, Locked, LockedBy}

abbrev pub not_null : List ℕ → Kind → ColumnDef
not_null name kind = record { name = name; kind = kind; nullable = false; default = None; numbered = false }

abbrev pub nullable : List ℕ → Kind → ColumnDef
nullable name kind = record { name = name; kind = kind; nullable = true; default = None; numbered = false }

-- the literal of a text that may be missing
abbrev pub text_or_null : Option (List ℕ) → Literal
text_or_null None = literal.Null
text_or_null (Some text) = literal.Text text

-- the literal of a moment that may be missing
abbrev pub moment_or_null : Option ℤ → Literal
moment_or_null None = literal.Null
moment_or_null (Some ms) = literal.Text (moment_text ms)

-- The table DATABASECHANGELOGLOCK: its columns, its key, and its one row.

unfoldable pub lock_table : List ℕ
lock_table = codes "DATABASECHANGELOGLOCK"

unfoldable pub lock_column : LockColumn → ColumnDef
lock_column Id = not_null (codes "ID") Int
lock_column Locked = not_null (codes "LOCKED") Boolean
lock_column LockGranted = nullable (codes "LOCKGRANTED") Moment
lock_column LockedBy = nullable (codes "LOCKEDBY") Text

-- the table's order
unfoldable pub lock_order : List LockColumn
lock_order = Id ∷ Locked ∷ LockGranted ∷ LockedBy ∷ []

abbrev pub lock_name : LockColumn → List ℕ
lock_name c = (lock_column c).name

unfoldable pub lock_key_name : Dialect → List ℕ
lock_key_name Postgresql = codes "pk_DATABASECHANGELOGLOCK"
lock_key_name Mysql = codes "PRIMARY"

abbrev pub lock_key : Dialect → Key
lock_key d = record { name = lock_key_name d; columns = lock_name Id ∷ [] }

-- what the row holds in the column
unfoldable pub lock_value : Lock → LockColumn → Literal
lock_value l Id = literal.Int (pos 1)
lock_value l Locked = literal.Bool l.locked
lock_value l LockGranted = moment_or_null l.granted
lock_value l LockedBy = text_or_null l.by

abbrev pub free : Lock
free = record { locked = false; granted = None; by = None }

abbrev pub taken : ℤ → List ℕ → Lock
taken at by = record { locked = true; granted = Some at; by = Some by }
