-- The writing calls of commands, and what they leave in the journal.
use Rattle.std.specs.Prelude.{List, None, Ok, Some, [], codes, false, length, pos, refl, ◌++◌, ◌∷◌, ◌≡◌}
use Rattle.lq_base.specs.Number.{whole_text}
use Rattle.lq_base.specs.Value.{into_kind}
use Rattle.lq_base.specs.declared.dialect.Dialect.{Dialect}
use Rattle.lq_base.specs.declared.dialect.Dialect.TheVariants.{Mysql, Postgresql}
use Rattle.lq_base.specs.declared.tracking.Exec.TheVariants.{Executed}
use Rattle.lq_base.specs.declared.tracking.Tracked.{Tracked}
use Rattle.lq_model.specs.Catalogue.{no_objects}
use Rattle.lq_model.specs.Plan.{decide}
use Rattle.lq_model.specs.declared.caller.Room.TheVariants.{Ordinary, Release}
use Rattle.lq_track.specs.Database.{Database}
use Rattle.lq_track.specs.Lock.{free, taken}
use Rattle.lq_turns.specs.Script.{clear_calls, release_calls, sync_calls, tag_calls, update_calls}
use Rattle.lq_turns.specs.Session.{all_called, session_on}
use Rattle.lq_turns.specs.Set.{Set}
use Rattle.lq_turns.specs.Settle.{row_for}
use Rattle.lq_turns.specs.declared.call.Call.TheVariants.{Abort, Alone, Begin, Commit, Execute}
use Rattle.lq_base.specs.declared.run.OnFail.TheVariants as on_fail
use Rattle.lq_turns.specs.declared.deed.Deed.{Deed}
use Rattle.lq_turns.specs.declared.deed.Deed.TheVariants.{Locks, Rows, Users}
use Rattle.lq_turns.specs.declared.deed.OnLock.TheVariants.{Freed, LockMade, LockRowMade, LogMade, Marked, Taken}
use Rattle.lq_turns.specs.declared.deed.OnRows.TheVariants.{Cleared, Filled, Inserted, Tagged}
use Rattle.lq_turns.proofs.Examples.Given.{Given, changelog, changeset, made_on, makes, meaning, named, nothing, row, row_into, stamp, table, told_so, with_rows}

-- the database in which nothing was made
abbrev empty : Database
empty = record { users = no_objects; rows = []; lock = free; has_log = false; has_lock = false; has_lock_row = false }

abbrev one : Set Given
one = changeset (codes "1") (makes (codes "t") ∷ [])

abbrev its_row : Tracked
its_row = row_for stamp.reading 1 Executed one

-- the first call makes what is missing and takes the lock, the last one frees it
pub update_on_nothing : update_calls Postgresql meaning stamp (changelog (one ∷ [])) empty
    ≡ Alone (Locks LogMade ∷ Locks LockMade ∷ Locks LockRowMade ∷ Locks (Taken 1000 (codes "ci")) ∷ []) Ordinary
    ∷ Begin ∷ Execute (Users (table (codes "t"))) ∷ Execute (Rows (Inserted its_row)) ∷ Commit
    ∷ Alone (Locks Freed ∷ []) Release ∷ []
unfolding decide into_kind
update_on_nothing = refl

abbrev written : Dialect → Set Given → Database → List (List Deed)
written d x database = (all_called d (update_calls d meaning stamp (changelog (x ∷ [])) database) (session_on database)).entries

-- one entry for each commit
pub written_postgresql : written Postgresql one empty
    ≡ (Locks LogMade ∷ Locks LockMade ∷ Locks LockRowMade ∷ Locks (Taken 1000 (codes "ci")) ∷ [])
    ∷ (Users (table (codes "t")) ∷ Rows (Inserted its_row) ∷ [])
    ∷ (Locks Freed ∷ []) ∷ []
unfolding decide into_kind
written_postgresql = refl

-- in mysql each DDL statement is one, after one of what was begun; the mark goes with the row
pub written_mysql : written Mysql one empty
    ≡ (Locks LogMade ∷ []) ∷ (Locks LockMade ∷ []) ∷ (Locks LockRowMade ∷ Locks (Taken 1000 (codes "ci")) ∷ [])
    ∷ (Locks (Marked (codes "ci|f::1::me|" ++ whole_text (pos 1))) ∷ []) ∷ (Users (table (codes "t")) ∷ []) ∷ (Rows (Inserted its_row) ∷ Locks (Marked (codes "ci")) ∷ [])
    ∷ (Locks Freed ∷ []) ∷ []
unfolding decide into_kind
written_mysql = refl

-- without one transaction each statement has its own with its mark, also one that is no DDL
abbrev parts : Set Given
parts = record one { changes = record (makes (codes "t")) { statements = table (codes "t") ∷ row_into (codes "t") ∷ [] } ∷ []; in_transaction = false }

pub written_parts : written Postgresql parts (made_on nothing)
    ≡ (Locks (Taken 1000 (codes "ci")) ∷ [])
    ∷ (Locks (Marked (codes "ci|f::1::me|" ++ whole_text (pos 1))) ∷ Users (table (codes "t")) ∷ []) ∷ (Locks (Marked (codes "ci|f::1::me|" ++ whole_text (pos 2))) ∷ Users (row_into (codes "t")) ∷ [])
    ∷ (Rows (Inserted (row_for stamp.reading 1 Executed parts)) ∷ Locks (Marked (codes "ci")) ∷ [])
    ∷ (Locks Freed ∷ []) ∷ []
unfolding decide into_kind
written_parts = refl

-- what is refused is taken back, and the lock is freed
pub refused_calls : update_calls Postgresql meaning stamp (changelog (record one { changes = makes (codes "t") ∷ makes (codes "t") ∷ [] } ∷ changeset (codes "2") [] ∷ [])) (made_on nothing)
    ≡ Alone (Locks (Taken 1000 (codes "ci")) ∷ []) Ordinary ∷ Begin ∷ Execute (Users (table (codes "t"))) ∷ Execute (Users (table (codes "t"))) ∷ Abort ∷ Alone (Locks Freed ∷ []) Release ∷ []
unfolding decide into_kind
refused_calls = refl

-- a sum that is filled in has its deed alone, as has the row of one that is marked
pub fill_calls : update_calls Postgresql meaning stamp (changelog (one ∷ [])) (made_on (with_rows (row (codes "1") 1 Executed None ∷ [])))
    ≡ Alone (Locks (Taken 1000 (codes "ci")) ∷ []) Ordinary ∷ Begin ∷ Execute (Rows (Filled (named (codes "1")) (codes "P2:new"))) ∷ Commit ∷ Alone (Locks Freed ∷ []) Release ∷ []
fill_calls = refl

-- one that is skipped makes no call, but the command has its lock
pub skip_calls : update_calls Postgresql meaning stamp (changelog (record one { condition = told_so (Ok false) on_fail.Continue on_fail.Halt } ∷ [])) (made_on nothing)
    ≡ Alone (Locks (Taken 1000 (codes "ci")) ∷ []) Ordinary ∷ Alone (Locks Freed ∷ []) Release ∷ []
skip_calls = refl

-- without a turn there is no call, nor where the changelog's own condition halts

pub idle_calls : update_calls Postgresql meaning stamp (changelog (one ∷ [])) (made_on (with_rows (row (codes "1") 1 Executed (Some (codes "P2:new")) ∷ []))) ≡ []
idle_calls = refl

pub halted_calls : update_calls Postgresql meaning stamp (record (changelog (one ∷ [])) { condition = told_so (Ok false) on_fail.Halt on_fail.Halt }) empty ≡ []
halted_calls = refl

-- three changesets of two, one and one statements: fifteen calls
pub fifteen : length (update_calls Postgresql meaning stamp (changelog (record one { changes = makes (codes "t") ∷ makes (codes "u") ∷ [] } ∷ changeset (codes "2") (makes (codes "v") ∷ []) ∷ changeset (codes "3") (makes (codes "w") ∷ []) ∷ [])) empty) ≡ 15
unfolding decide into_kind
fifteen = refl

-- changelog-sync: all rows in one transaction, and nothing runs

abbrev two : Set Given
two = changeset (codes "2") (makes (codes "u") ∷ [])

pub sync_on_one_row : sync_calls Postgresql stamp (changelog (one ∷ two ∷ changeset (codes "3") [] ∷ [])) (made_on (with_rows (row (codes "2") 5 Executed None ∷ [])))
    ≡ Alone (Locks (Taken 1000 (codes "ci")) ∷ []) Ordinary
    ∷ Begin ∷ Execute (Rows (Inserted (row_for stamp.reading 6 Executed one))) ∷ Execute (Rows (Inserted (row_for stamp.reading 7 Executed (changeset (codes "3") [])))) ∷ Commit
    ∷ Alone (Locks Freed ∷ []) Release ∷ []
sync_on_one_row = refl

pub sync_of_none : sync_calls Postgresql stamp (changelog (two ∷ [])) (made_on (with_rows (row (codes "2") 5 Executed None ∷ []))) ≡ []
sync_of_none = refl

-- the tag is that of the last row
pub tag_of_last : tag_calls (codes "v1") (made_on (with_rows (row (codes "2") 5 Executed None ∷ row (codes "1") 7 Executed None ∷ []))) ≡ Alone (Rows (Tagged (named (codes "1")) (codes "v1")) ∷ []) Ordinary ∷ []
tag_of_last = refl

pub tag_of_none : tag_calls (codes "v1") empty ≡ []
tag_of_none = refl

-- one call takes the sums of all rows
pub clear_of_rows : clear_calls (made_on (with_rows (row (codes "2") 5 Executed None ∷ row (codes "1") 7 Executed (Some (codes "P2:new")) ∷ []))) ≡ Alone (Rows Cleared ∷ []) Ordinary ∷ []
clear_of_rows = refl

pub clear_of_none : clear_calls empty ≡ []
clear_of_none = refl

pub release_of_held : release_calls (record empty { lock = taken (pos 1) (codes "ci") }) ≡ Alone (Locks Freed ∷ []) Release ∷ []
release_of_held = refl

pub release_of_free : release_calls empty ≡ []
release_of_free = refl
