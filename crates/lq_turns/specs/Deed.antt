-- The statements of a command, and what they change of a database.
use Rattle.std.specs.List.{filter}
use Rattle.std.specs.Prelude.{Bool, Err, List, None, Ok, Result, Some, [], if◌then◌else◌, length, map, nat_le, nat_lt, not, pos, true, ℕ, ◌++◌, ◌∷◌}
use Rattle.lq_base.specs.declared.dialect.Dialect.{Dialect}
use Rattle.lq_base.specs.declared.identity.Identity.{Identity}
use Rattle.lq_base.specs.declared.reason.Reason.{Reason}
use Rattle.lq_base.specs.declared.reason.Reason.TheVariants.{TooManyRows, TooWide}
use Rattle.lq_base.specs.declared.tracking.Tracked.{Tracked}
use Rattle.lq_model.specs.Catalogue.{Catalogue}
use Rattle.lq_model.specs.Script.{Made}
use Rattle.lq_model.specs.Step.{step}
use Rattle.lq_model.specs.declared.caller.By.TheVariants.{Program, User}
use Rattle.lq_model.specs.declared.statement.Statement.{Statement}
use Rattle.lq_track.specs.Database.{Database, same_identity}
use Rattle.lq_track.specs.Lock.{free, taken}
use Rattle.lq_track.specs.Log.{identity_of}
use Rattle.lq_track.specs.Statements.{lock_freed, lock_made, lock_marked, lock_row_made, lock_taken, log_made, row_again, row_deleted, row_inserted, sum_filled, sums_cleared, tag_set}
use Rattle.lq_turns.specs.declared.deed.Deed.{Deed}
use Rattle.lq_turns.specs.declared.deed.Deed.TheVariants.{Locks, Rows, Users}
use Rattle.lq_turns.specs.declared.deed.OnLock.{OnLock}
use Rattle.lq_turns.specs.declared.deed.OnLock.TheVariants.{Freed, LockMade, LockRowMade, LogMade, Marked, Taken}
use Rattle.lq_turns.specs.declared.deed.OnRows.{OnRows}
use Rattle.lq_turns.specs.declared.deed.OnRows.TheVariants.{Cleared, Deleted, Filled, Inserted, Renewed, Tagged}

-- What a turn sees and changes of a database.

-- the users' objects, and the rows in run order
pub record Contents : Type 0 where
  pub users : Catalogue
  pub rows : List Tracked

abbrev pub contents_of : Database → Contents
contents_of database = record { users = database.users; rows = database.rows }

abbrev pub with_contents : Database → Contents → Database
with_contents database contents = record database { users = contents.users; rows = contents.rows }

-- The statements of a command: a user's, and the program's own on the tracking tables; and what each makes of a database.

abbrev pub row_statement : OnRows → Statement
row_statement (Inserted row) = row_inserted row
row_statement (Renewed row) = row_again row
row_statement (Deleted of) = row_deleted of
row_statement (Filled of sum) = sum_filled of sum
row_statement (Tagged of tag) = tag_set of tag
row_statement Cleared = sums_cleared

abbrev pub lock_statement : Dialect → OnLock → Statement
lock_statement d LogMade = log_made
lock_statement d LockMade = lock_made d
lock_statement d LockRowMade = lock_row_made
lock_statement d (Taken at by) = lock_taken (pos at) by
lock_statement d (Marked by) = lock_marked by
lock_statement d Freed = lock_freed

-- its statement, and on whose behalf that runs
abbrev pub made_of : Dialect → Deed → Made
made_of d (Users s) = (User, s)
made_of d (Rows w) = (Program, row_statement w)
made_of d (Locks w) = (Program, lock_statement d w)

-- whose row it is
abbrev pub is_of : Identity → Tracked → Bool
is_of of row = same_identity (identity_of row) of

abbrev pub others : Identity → List Tracked → List Tracked
others of rows = filter (λ r. not (is_of of r)) rows

abbrev pub theirs : Identity → List Tracked → List Tracked
theirs of rows = filter (is_of of) rows

-- the row of a changeset that runs again, or is marked again: what was its row's, but for when it ran, its place, how, its sum and the deployment
abbrev pub renewed : Tracked → Tracked → Tracked
renewed new old = record old { date = new.date; order = new.order; exec = new.exec; md5sum = new.md5sum; deployment = new.deployment }

abbrev pub filled : Identity → List ℕ → Tracked → Tracked
filled of sum row = if is_of of row then record row { md5sum = Some sum } else row

abbrev pub tagged : Identity → List ℕ → Tracked → Tracked
tagged of tag row = if is_of of row then record row { tag = Some tag } else row

abbrev pub without_sum : Tracked → Tracked
without_sum row = record row { md5sum = None }

-- a place in run order has 31 bits
abbrev pub has_place : Tracked → Bool
has_place row = nat_le row.order 2147483647

-- The rows after it, or the reason against it. A new row, and one that is renewed, has a place after all others.
abbrev pub rows_after : OnRows → List Tracked → Result (List Tracked) Reason
rows_after (Inserted row) rows = if has_place row then (if nat_lt (length rows) 100000 then Ok (rows ++ row ∷ []) else Err TooManyRows) else Err TooWide
rows_after (Renewed row) rows = if has_place row then Ok (others (identity_of row) rows ++ map (renewed row) (theirs (identity_of row) rows)) else Err TooWide
rows_after (Deleted of) rows = Ok (others of rows)
rows_after (Filled of sum) rows = Ok (map (filled of sum) rows)
rows_after (Tagged of tag) rows = Ok (map (tagged of tag) rows)
rows_after Cleared rows = Ok (map without_sum rows)

abbrev pub lock_after : OnLock → Database → Database
lock_after LogMade database = record database { has_log = true }
lock_after LockMade database = record database { has_lock = true }
lock_after LockRowMade database = record database { has_lock_row = true }
lock_after (Taken at by) database = record database { lock = taken (pos at) by }
lock_after (Marked by) database = record database { lock = record (database.lock) { by = Some by } }
lock_after Freed database = record database { lock = free }

abbrev pub if_accepted : {A B : Type 0} → (A → B) → Result A Reason → Result B Reason
if_accepted f (Ok x) = Ok (f x)
if_accepted f (Err reason) = Err reason

-- the contents after it, or the reason against it
abbrev pub contents_after : Dialect → Deed → Contents → Result Contents Reason
contents_after d (Users s) c = if_accepted (λ r. record c { users = r.0 }) (step User d s c.users)
contents_after d (Rows w) c = if_accepted (λ rows. record c { rows = rows }) (rows_after w c.rows)
contents_after d (Locks w) c = Ok c

abbrev pub locked_after : Deed → Database → Database
locked_after (Users s) database = database
locked_after (Rows w) database = database
locked_after (Locks w) database = lock_after w database

-- the database after it, or the reason against it
abbrev pub done : Dialect → Deed → Database → Result Database Reason
done d deed database = if_accepted (with_contents (locked_after deed database)) (contents_after d deed (contents_of database))

-- deeds in order, or the first reason
abbrev pub all_done : Dialect → List Deed → Database → Result Database Reason
all_done d [] database = Ok database
all_done d (deed ∷ deeds) database = elim (done d deed database) [ Ok now ↦ all_done d deeds now | Err reason ↦ Err reason ]
