-- What the tracking tables of a catalogue hold: the rows in run order, and the lock.
use Rattle.std.specs.List.{list_all, list_any}
use Rattle.std.specs.Prelude.{Bool, Err, List, None, Ok, Option, Result, Some, [], codes, encode_utf8_all, false, if◌then◌else◌, is_none, is_some, map, nat_eq, nat_lt, negsuc, not, option_and_then, option_map, pos, take, true, ℕ, ℤ, ◌&&◌, ◌||◌, ◌∷◌, ◌≡◌}
use Rattle.std.specs.Str.{chars}
use Rattle.lq_base.specs.Name.{exec_text, is_named}
use Rattle.lq_base.specs.Number.{last_digits}
use Rattle.lq_base.specs.declared.dialect.Dialect.{Dialect}
use Rattle.lq_base.specs.declared.identity.Identity.{Identity}
use Rattle.lq_base.specs.declared.tracking.Exec.{Exec}
use Rattle.lq_base.specs.declared.tracking.Exec.TheVariants.{Executed, MarkRan, Reran}
use Rattle.lq_base.specs.declared.tracking.Lock.{Lock}
use Rattle.lq_base.specs.declared.tracking.Tracked.{Tracked}
use Rattle.lq_base.specs.declared.value.Value.{Value}
use Rattle.lq_base.specs.declared.value.Value.TheVariants.{Bool as Truth, Int, Moment, Null, Text}
use Rattle.lq_model.specs.Catalogue.{Catalogue, Table, is_empty, same_names, table_of, without_table}
use Rattle.lq_model.specs.Kinds.{equal_kinds}
use Rattle.lq_model.specs.Sound.{IsSound}
use Rattle.lq_model.specs.declared.column.Column.{Column}
use Rattle.lq_model.specs.declared.column.ColumnDef.{ColumnDef}
use Rattle.lq_model.specs.declared.constraint.Key.{Key}
use Rattle.lq_track.specs.Lock.{free, lock_column, lock_key, lock_order, lock_table}
use Rattle.lq_track.specs.Log.{identity_of, log_column, log_order, log_table}
use Rattle.lq_track.specs.declared.fault.TrackFault.{TrackFault}
use Rattle.lq_track.specs.declared.fault.TrackFault.TheVariants.{NotTables, OutOfMemory}
use Rattle.lq_track.specs.declared.row.Ran.{Ran}
use Rattle.lq_track.specs.declared.row_reading.Details.{Details}
use Rattle.lq_track.specs.declared.row_reading.Run.{Run}

-- a column is there as it is made
abbrev pub is_made : ColumnDef → Column → Bool
is_made def c =
    (is_named def.name c.name && equal_kinds def.kind c.kind)
    && ((if def.nullable then c.nullable else not c.nullable) && (is_none c.default && not c.numbered))

abbrev pub are_made : List ColumnDef → List Column → Bool
are_made [] [] = true
are_made (def ∷ defs) (c ∷ cs) = is_made def c && are_made defs cs
are_made [] (c ∷ cs) = false
are_made (def ∷ defs) [] = false

abbrev pub has_no_more : Table → Bool
has_no_more it = is_empty it.uniques && (is_empty it.foreign && is_empty it.indexes)

-- the table is DATABASECHANGELOG as it is made
abbrev pub is_log : Table → Bool
is_log it = are_made (map log_column log_order) it.columns && (is_none it.key && has_no_more it)

abbrev pub is_key : Key → Option Key → Bool
is_key key None = false
is_key key (Some k) = is_named key.name k.name && same_names key.columns k.columns

-- the table is DATABASECHANGELOGLOCK as it is made
abbrev pub is_lock : Dialect → Table → Bool
is_lock d it = are_made (map lock_column lock_order) it.columns && (is_key (lock_key d) it.key && has_no_more it)

-- what a value says, where it can be read

abbrev pub text_in : Value → Option (Option (List ℕ))
text_in Null = Some None
text_in (Text text) = Some (Some text)
text_in _ = None

abbrev pub moment_in : Value → Option (Option ℤ)
moment_in Null = Some None
moment_in (Moment ms) = Some (Some ms)
moment_in _ = None

abbrev pub order_in : ℤ → Option ℕ
order_in (pos n) = if nat_lt 0 n then Some n else None
order_in (negsuc n) = None

abbrev pub exec_in : List ℕ → Option Exec
exec_in text =
    if is_named text (exec_text Executed) then Some Executed
    else (if is_named text (exec_text Reran) then Some Reran
    else (if is_named text (exec_text MarkRan) then Some MarkRan else None))

-- a row of the table of rows: of its columns only MD5SUM and TAG may be null, and its order is at least 1
unfoldable pub row_in : List Value → Option Tracked
row_in (Text id ∷ Text author ∷ Text filename ∷ Moment date ∷ Int order ∷ Text exec ∷ md5sum ∷ Text description ∷ Text comments ∷ tag ∷ Text tool ∷ Text contexts ∷ Text labels ∷ Text deployment ∷ []) =
    option_and_then (λ order. option_and_then (λ exec. option_and_then (λ md5sum. option_map (λ tag. record {
      id = id;
      author = author;
      filename = filename;
      date = date;
      order = order;
      exec = exec;
      md5sum = md5sum;
      description = description;
      comments = comments;
      tag = tag;
      tool = tool;
      contexts = contexts;
      labels = labels;
      deployment = deployment;
    }) (text_in tag)) (text_in md5sum)) (exec_in exec)) (order_in order)
row_in _ = None

abbrev pub rows_in : List (List Value) → Option (List Tracked)
rows_in [] = Some []
rows_in (values ∷ more) = option_and_then (λ row. option_map (λ rows. row ∷ rows) (rows_in more)) (row_in values)

-- a row before the first that ran later
abbrev pub placed : Tracked → List Tracked → List Tracked
placed row [] = row ∷ []
placed row (r ∷ rs) = if nat_lt row.order r.order then row ∷ r ∷ rs else r ∷ placed row rs

abbrev pub in_run_order : List Tracked → List Tracked
in_run_order [] = []
in_run_order (r ∷ rs) = placed r (in_run_order rs)

-- the rows in run order: none where there is no table, and nothing where the table or a row of it cannot be read
abbrev pub rows_from : Option Table → Option (List Tracked)
rows_from None = Some []
rows_from (Some it) = if is_log it then option_map in_run_order (rows_in it.rows) else None

abbrev pub rows_of : Catalogue → Option (List Tracked)
rows_of c = rows_from (table_of c log_table)

-- the lock's row, whose ID is 1
unfoldable pub lock_in : List Value → Option Lock
lock_in (Int (pos id) ∷ Truth locked ∷ granted ∷ by ∷ []) =
    if nat_eq id 1
    then option_and_then (λ granted. option_map (λ by. record { locked = locked; granted = granted; by = by }) (text_in by)) (moment_in granted)
    else None
lock_in _ = None

-- the lock is free where it has no row
abbrev pub lock_in_rows : List (List Value) → Option Lock
lock_in_rows [] = Some free
lock_in_rows (values ∷ []) = lock_in values
lock_in_rows (values ∷ others ∷ more) = None

-- the lock: free where there is no table, and nothing where the table or its row cannot be read
abbrev pub lock_from : Dialect → Option Table → Option Lock
lock_from d None = Some free
lock_from d (Some it) = if is_lock d it then lock_in_rows it.rows else None

abbrev pub lock_of : Dialect → Catalogue → Option Lock
lock_of d c = lock_from d (table_of c lock_table)

abbrev pub has_rows : Option Table → Bool
has_rows None = false
has_rows (Some it) = not (is_empty it.rows)

-- the users' objects, the rows in run order, the lock, and what of the tracking tables was made
pub record Database : Type 0 where
  pub users : Catalogue
  pub rows : List Tracked
  pub lock : Lock
  pub has_log : Bool
  pub has_lock : Bool
  pub has_lock_row : Bool

-- the objects other than the tracking tables
abbrev pub users_of : Catalogue → Catalogue
users_of c = without_table (without_table c log_table) lock_table

-- the database that a catalogue is, or nothing where it holds tables of these names that are not the tracking tables
abbrev pub database_of : Dialect → Catalogue → Option Database
database_of d c = option_and_then (λ rows. option_map (λ lock. record {
  users = users_of c;
  rows = rows;
  lock = lock;
  has_log = is_some (table_of c log_table);
  has_lock = is_some (table_of c lock_table);
  has_lock_row = has_rows (table_of c lock_table);
}) (lock_of d c)) (rows_of c)

abbrev pub same_identity : Identity → Identity → Bool
same_identity a b = is_named a.file b.file && (is_named a.id b.id && is_named a.author b.author)

-- whether two rows have one identity or one order
abbrev pub has_twin_rows : List Tracked → Bool
has_twin_rows [] = false
has_twin_rows (r ∷ rs) =
    list_any (λ s. same_identity (identity_of r) (identity_of s) || nat_eq r.order s.order) rs || has_twin_rows rs

pub record IsDatabase (d : Dialect) (database : Database) : Type 0 where
  pub users : IsSound d database.users
  -- no two rows have one identity or one order
  pub differ : has_twin_rows database.rows ≡ false
  -- each order is at least 1
  pub ordered : list_all (λ r. nat_lt 0 r.order) database.rows ≡ true

-- the same but for which of the tracking tables were made
pub record SameDatabase (a b : Database) : Type 0 where
  pub users : a.users ≡ b.users
  pub rows : a.rows ≡ b.rows
  pub lock : a.lock ≡ b.lock

-- How what reads the tracking tables answers.

-- what there is, NotTables exactly where there is nothing, or want of memory
abbrev pub Gives : {A : Type 0} → Option A → Result A TrackFault → Type 0
Gives meant (Ok a) = meant ≡ Some a
Gives meant (Err NotTables) = meant ≡ None
Gives meant (Err OutOfMemory) = Unit {0}

-- the table is there and passes a test
abbrev pub passes : (Table → Bool) → Option Table → Bool
passes test None = false
passes test (Some it) = test it

-- The row of a changeset that was run or marked.

-- the first 255 characters
abbrev pub cut : List ℕ → List ℕ
cut text = encode_utf8_all (take 255 (chars text))

abbrev pub row_of : Ran → Tracked
row_of ran = record {
  id = ran.identity.now.id;
  author = ran.identity.now.author;
  filename = ran.identity.now.file;
  date = pos ran.reading;
  order = ran.order;
  exec = ran.exec;
  md5sum = Some ran.checksum.now;
  description = cut ran.description.now;
  comments = cut ran.comments.now;
  tag = ran.tag.now;
  tool = codes "profile-1";
  contexts = cut ran.contexts.now;
  labels = cut ran.labels.now;
  deployment = last_digits 10 ran.reading;
}

-- A row of the table of rows in two parts, as it is read.

-- the first six values: whose the row is, and how it ran
unfoldable pub run_in : List Value → Option Run
run_in (Text id ∷ Text author ∷ Text filename ∷ Moment date ∷ Int order ∷ Text exec ∷ []) =
    option_and_then (λ order. option_map (λ exec. record {
      id = id;
      author = author;
      filename = filename;
      date = date;
      order = order;
      exec = exec;
    }) (exec_in exec)) (order_in order)
run_in _ = None

-- the others
unfoldable pub details_in : List Value → Option Details
details_in (md5sum ∷ Text description ∷ Text comments ∷ tag ∷ Text tool ∷ Text contexts ∷ Text labels ∷ Text deployment ∷ []) =
    option_and_then (λ md5sum. option_map (λ tag. record {
      md5sum = md5sum;
      description = description;
      comments = comments;
      tag = tag;
      tool = tool;
      contexts = contexts;
      labels = labels;
      deployment = deployment;
    }) (text_in tag)) (text_in md5sum)
details_in _ = None

abbrev pub joined : Run → Details → Tracked
joined run details = record {
  id = run.id;
  author = run.author;
  filename = run.filename;
  date = run.date;
  order = run.order;
  exec = run.exec;
  md5sum = details.md5sum;
  description = details.description;
  comments = details.comments;
  tag = details.tag;
  tool = details.tool;
  contexts = details.contexts;
  labels = details.labels;
  deployment = details.deployment;
}
