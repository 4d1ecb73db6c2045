-- What the entries of a command's calls hold: the deeds in them, run one after another as statements on a catalogue.
use Rattle.std.specs.List.{flat_map, list_any}
use Rattle.std.specs.List.Sorted.{IsStrictlySortedBy}
use Rattle.std.specs.Map.{keys_of}
use Rattle.std.specs.Prelude.{Bool, Err, List, None, Ok, Option, Result, Some, [], false, if◌then◌else◌, length, map, nat_eq, nat_le, nat_lt, not, true, ℕ, ◌&&◌, ◌++◌, ◌∷◌, ◌≡◌}
use Rattle.lq_base.specs.Moment.{is_moment}
use Rattle.lq_base.specs.Name.{name_cmp}
use Rattle.lq_base.specs.Number.{char_count}
use Rattle.lq_base.specs.declared.dialect.Dialect.{Dialect}
use Rattle.lq_base.specs.declared.dialect.Dialect.TheVariants.{Mysql, Postgresql}
use Rattle.lq_base.specs.declared.name.Name.{Name}
use Rattle.lq_base.specs.declared.reason.Reason.{Reason}
use Rattle.lq_base.specs.declared.tracking.Lock.{Lock}
use Rattle.lq_base.specs.declared.tracking.Tracked.{Tracked}
use Rattle.lq_model.specs.Catalogue.{Catalogue}
use Rattle.lq_model.specs.NameSpaces.{is_taken}
use Rattle.lq_model.specs.Script.{Made}
use Rattle.lq_model.specs.Sound.{IsSound}
use Rattle.lq_model.specs.Step.{is_statement, step}
use Rattle.lq_track.specs.Database.{Database, database_of}
use Rattle.lq_track.specs.Lock.{lock_key_name, lock_table}
use Rattle.lq_track.specs.Log.{identity_of, log_table}
use Rattle.lq_turns.specs.Deed.{all_done, done, made_of, theirs}
use Rattle.lq_turns.specs.Session.{Session, all_called, called, left_by, session_on}
use Rattle.lq_turns.specs.Settle.{greatest}
use Rattle.lq_turns.specs.declared.call.Call.{Call}
use Rattle.lq_turns.specs.declared.deed.Deed.{Deed}
use Rattle.lq_turns.specs.declared.deed.Deed.TheVariants.{Locks, Rows, Users}
use Rattle.lq_turns.specs.declared.deed.OnLock.{OnLock}
use Rattle.lq_turns.specs.declared.deed.OnLock.TheVariants.{Freed, LockMade, LockRowMade, LogMade, Marked, Taken}
use Rattle.lq_turns.specs.declared.deed.OnRows.{OnRows}
use Rattle.lq_turns.specs.declared.deed.OnRows.TheVariants.{Cleared, Deleted, Filled, Inserted, Renewed, Tagged}

-- statements in order, each on behalf of its own caller, or the first reason
abbrev pub run_made : Dialect → List Made → Catalogue → Result Catalogue Reason
run_made d [] c = Ok c
run_made d (s ∷ ss) c = elim (step s.0 d s.1 c) [ Ok r ↦ run_made d ss r.0 | Err reason ↦ Err reason ]

-- the names that the tracking tables have, or will have: under PostgreSQL the lock's key is beside the tables
abbrev pub own_names : Dialect → List Name
own_names Postgresql = log_table ∷ lock_table ∷ lock_key_name Postgresql ∷ []
own_names Mysql = log_table ∷ lock_table ∷ []

-- the catalogue is the database, whose users' objects are sound and have no name of the tracking tables
pub record StandsFor (d : Dialect) (c : Catalogue) (database : Database) : Type 0 where
  pub ordered : IsStrictlySortedBy name_cmp (keys_of c.tables)
  pub is : database_of d c ≡ Some database
  pub sound : IsSound d database.users
  pub names : list_any (λ n. is_taken d n database.users) (own_names d) ≡ false
  pub few : nat_le (length database.rows) 100000 ≡ true

-- a text of at most so many characters, if there is one
abbrev pub is_within : ℕ → Option (List ℕ) → Bool
is_within most None = true
is_within most (Some text) = nat_le (char_count text) most

-- what is set where a row runs again goes into its columns, but for the place
abbrev pub is_stamped : Tracked → Bool
is_stamped row = is_moment row.date && (is_within 35 row.md5sum && nat_le (char_count row.deployment) 10)

-- all of it goes into its columns, so that only the place and the number of rows may refuse it
abbrev pub is_short : Tracked → Bool
is_short row = is_stamped row && (nat_le (char_count row.id) 255 && (nat_le (char_count row.author) 255 && (nat_le (char_count row.filename) 255 && (nat_le (char_count row.description) 255 && (nat_le (char_count row.comments) 255 && (nat_le (char_count row.contexts) 255 && (nat_le (char_count row.labels) 255 && (is_within 255 row.tag && nat_le (char_count row.tool) 20))))))))

-- a row that is renewed is the only one of its identity
abbrev pub fits_rows : OnRows → List Tracked → Bool
fits_rows (Inserted row) rows = is_short row && nat_lt (greatest rows) row.order
fits_rows (Renewed row) rows = is_stamped row && (nat_lt (greatest rows) row.order && nat_le (length (theirs (identity_of row) rows)) 1)
fits_rows (Deleted of) rows = true
fits_rows (Filled of sum) rows = nat_le (char_count sum) 35
fits_rows (Tagged of tag) rows = nat_le (char_count tag) 255
fits_rows Cleared rows = true

abbrev pub fits_lock : OnLock → Database → Bool
fits_lock LogMade database = not database.has_log
fits_lock LockMade database = not database.has_lock
fits_lock LockRowMade database = database.has_lock && not database.has_lock_row
fits_lock (Taken at by) database = database.has_lock_row && nat_le at 253402300799999
fits_lock (Marked by) database = database.has_lock_row
fits_lock Freed database = database.has_lock_row

-- a deed that a command may do there
abbrev pub fits : Dialect → Deed → Database → Bool
fits d (Users s) database = is_statement d s
fits d (Rows w) database = database.has_log && fits_rows w database.rows
fits d (Locks w) database = fits_lock w database

abbrev pub all_fit : Dialect → List Deed → Database → Bool
all_fit d [] database = true
all_fit d (deed ∷ deeds) database = fits d deed database && elim (done d deed database) [ Ok now ↦ all_fit d deeds now | Err reason ↦ true ]

-- the statement does on the catalogue what the deed does on the database
abbrev pub Agrees : Dialect → Result Database Reason → Result (Catalogue × ℕ) Reason → Type 0
Agrees d (Ok now) (Ok r) = StandsFor d r.0 now
Agrees d (Err reason) (Err other) = reason ≡ other
Agrees d _ _ = ⊥

-- each deed is told by its statement
abbrev pub StatementsTell : Dialect → Type 0
StatementsTell d = (deed : Deed) (c : Catalogue) (database : Database) → StandsFor d c database → fits d deed database ≡ true
    → Agrees d (done d deed database) (step (made_of d deed).0 d (made_of d deed).1 c)

-- the deeds in the entries that calls append
abbrev pub entry_deeds : Dialect → List Call → Database → List Deed
entry_deeds d calls database = flat_map (λ (deeds : List Deed). deeds) (all_called d calls (session_on database)).entries

-- the deeds that any calls leave in the journal lead to the database that they leave
abbrev pub JournalLeads : Type 0
JournalLeads = (d : Dialect) (calls : List Call) (database : Database) → all_done d (entry_deeds d calls database) database ≡ Ok (left_by d calls database)

-- and so do their statements, on each catalogue that is the database before
abbrev pub JournalHolds : Type 0
JournalHolds = (d : Dialect) (calls : List Call) (database : Database) (c : Catalogue) → StatementsTell d → StandsFor d c database → all_fit d (entry_deeds d calls database) database ≡ true
    → (e : Catalogue) × (run_made d (map (made_of d) (entry_deeds d calls database)) c ≡ Ok e) × StandsFor d e (left_by d calls database)

-- Several runners that take steps in turn over one database.

-- what a call appends to the journal
abbrev pub appended : Dialect → Call → Session → List (List Deed)
appended d call session = (called d call (record session { entries = [] })).entries

module _ (Answer : Type 0) (locked : Lock → Answer) (busy : ℕ → Answer) where
  -- a command as a runner takes it
  pub record Job : Type 0 where
    pub needs_lock : Bool
    -- what its checks refuse, on the database at its first step
    pub refuses : Database → Option Answer
    -- its script there, and what it answers after its last call
    pub script : Database → List Call
    pub answer : Database → Answer

  -- the lock's holder, with its calls to come
  pub record Holder : Type 0 where
    pub runner : ℕ
    pub session : Session
    pub rest : List Call
    pub answer : Answer

  pub record Machine : Type 0 where
    pub committed : Database
    pub holder : Option Holder
    -- the runners that have begun, and what is answered
    pub begun : List ℕ
    pub answers : List (ℕ × Answer)
    -- the journal entries that the calls appended
    pub entries : List (List Deed)

  abbrev pub start : Database → Machine
  start database = record { committed = database; holder = None; begun = []; answers = []; entries = [] }

  abbrev pub has_answered : ℕ → Machine → Bool
  has_answered n x = list_any (λ a. nat_eq a.0 n) x.answers

  abbrev pub has_begun : ℕ → Machine → Bool
  has_begun n x = list_any (nat_eq n) x.begun

  abbrev pub answers_with : ℕ → Answer → Machine → Machine
  answers_with n answer x = record x { answers = (n, answer) ∷ x.answers }

  -- after a call that its runner made; at the last one it answers, and has no lock
  abbrev pub after_call : ℕ → Session → List Call → Answer → Machine → Machine
  after_call n session [] answer x = answers_with n answer (record x { committed = session.committed; holder = None; begun = n ∷ x.begun })
  after_call n session (call ∷ rest) answer x = record x { committed = session.committed; holder = Some (record { runner = n; session = session; rest = call ∷ rest; answer = answer }); begun = n ∷ x.begun }

  module _ (d : Dialect) (jobs : ℕ → Job) where
    abbrev pub makes : ℕ → Session → List Call → Answer → Machine → Machine
    makes n session [] answer x = answers_with n answer x
    makes n session (call ∷ rest) answer x = after_call n (called d call session) rest answer (record x { entries = x.entries ++ appended d call session })

    abbrev pub begins : ℕ → Option Answer → Machine → Machine
    begins n (Some answer) x = answers_with n answer x
    begins n None x = makes n (session_on x.committed) ((jobs n).script x.committed) ((jobs n).answer x.committed) x

    abbrev pub first_step : ℕ → Machine → Machine
    first_step n x =
        if (jobs n).needs_lock && x.committed.lock.locked
        then answers_with n (locked x.committed.lock) x
        else elim x.holder [
          | None ↦ begins n ((jobs n).refuses x.committed) x
          | Some h ↦ if h.session.is_open then answers_with n (busy h.runner) x else begins n ((jobs n).refuses x.committed) x
        ]

    -- the holder makes its next call; one that lost its lock answers so
    abbrev pub later_step : ℕ → Machine → Machine
    later_step n x = elim x.holder [
      | None ↦ answers_with n (locked x.committed.lock) x
      | Some h ↦ if nat_eq h.runner n then makes n h.session h.rest h.answer x else answers_with n (locked x.committed.lock) x
    ]

    -- one number of a schedule
    abbrev pub moved : ℕ → Machine → Machine
    moved n x = if has_answered n x then x else if has_begun n x then later_step n x else first_step n x

    abbrev pub all_moved : List ℕ → Machine → Machine
    all_moved [] x = x
    all_moved (n ∷ ns) x = all_moved ns (moved n x)
