-- The program's deeds on the lock, and those that make the tracking tables, are told by their statements.
use Rattle.std.proofs.Common.{ap, subst, sym, ◌∙◌}
use Rattle.std.specs.List.{list_all, list_any}
use Rattle.std.specs.Prelude.{Bool, List, None, Ok, Option, Some, [], false, is_some, map, nat_le, not, option_map, pos, refl, true, ℕ, ℤ, ◌∷◌, ◌≡◌}
use Rattle.std.proofs.Common.{tests}
use Rattle.lq_base.proofs.MomentLemmas.{moment_of-moment_text}
use Rattle.lq_base.specs.Moment.{moment_text}
use Rattle.lq_base.specs.Name.{is_named}
use Rattle.lq_base.specs.Value.{into_kind, within_width}
use Rattle.lq_base.specs.declared.dialect.Dialect.{Dialect}
use Rattle.lq_base.specs.declared.dialect.Dialect.TheVariants.{Mysql, Postgresql}
use Rattle.lq_base.specs.declared.kind.Kind.TheVariants as kind
use Rattle.lq_base.specs.declared.literal.Literal.{Literal}
use Rattle.lq_base.specs.declared.literal.Literal.TheVariants as literal
use Rattle.lq_base.specs.declared.name.Name.{Name}
use Rattle.lq_base.specs.declared.tracking.Lock.{Lock}
use Rattle.lq_base.specs.declared.value.Value.{Value}
use Rattle.lq_base.specs.declared.value.Value.TheVariants as value
use Rattle.lq_model.proofs.Kept.{lookup_other}
use Rattle.lq_model.proofs.Lists.{and_left, and_right, and_true, or_false, true_false}
use Rattle.lq_model.proofs.Maps.{lookup-set_value, none_if, not_some, some_same}
use Rattle.lq_model.specs.Catalogue.{Catalogue, Table, table_of, with_table, is_empty, is_in}
use Rattle.lq_model.specs.NameSpaces.{is_taken, names_inside}
use Rattle.lq_model.proofs.Decide.{IsSettled}
use Rattle.lq_model.specs.Sound.{IsSound}
use Rattle.lq_model.specs.Step.{step}
use Rattle.lq_model.specs.declared.statement.Statement.TheVariants.{Update}
use Rattle.lq_model.specs.declared.caller.By.TheVariants.{Program}
use Rattle.lq_track.specs.Lock.{moment_or_null, text_or_null, free, lock_column, lock_key_name, lock_name, lock_order, lock_table, lock_value, taken}
use Rattle.lq_track.specs.Database.{Database, has_rows, is_lock, lock_from, lock_in, lock_in_rows, moment_in, rows_from, text_in}
use Rattle.lq_track.specs.Log.{log_column, log_order, log_table}
use Rattle.lq_track.specs.Statements.{lock_freed, lock_made, lock_marked, lock_row_made, lock_taken, lock_test, log_made}
use Rattle.lq_track.specs.declared.lock_column.LockColumn.TheVariants as lock
use Rattle.lq_turns.specs.declared.deed.Deed.TheVariants.{Locks}
use Rattle.lq_turns.specs.declared.deed.OnLock.{OnLock}
use Rattle.lq_turns.specs.declared.deed.OnLock.TheVariants.{Freed, LockMade, LockRowMade, LogMade, Marked, Taken}
use Rattle.lq_turns.specs.Deed.{done, lock_statement}
use Rattle.lq_turns.specs.Schedule.{Agrees, StandsFor, fits_lock, own_names}
use Rattle.lq_beside.specs.Beside.{IsBeside, is_harmless, users}
use Rattle.lq_beside.proofs.AsMade.{lock_at, lock_row, moment_or_none, text_value}
use Rattle.lq_beside.proofs.Made.{lock_bare, lock_beside, lock_run, lock_users, log_bare, log_beside, log_run, log_users, with_lock, with_log}
use Rattle.lq_beside.proofs.Moments.{is_moment}
use Rattle.lq_beside.proofs.Program.{Adds, Edits, database_is, inserts, read_as, set_tracker, set_users_same, stands_with, updates}
use Rattle.lq_beside.proofs.Settled.{settled_beside}
use Rattle.lq_beside.proofs.Stands.{beside_of, both_there, lock_harmless, lock_made_so, lock_read, log_made_so, rows_read, users_are, users_sound}
use Rattle.lq_beside.proofs.TablesRead.{lock_row_is}
use Rattle.lq_beside.proofs.TakesNone.{lock_tracker, log_free}

-- values are read back as they went in

moment_back : (moment : Option ℤ) → moment_in (moment_or_none moment) ≡ Some moment
moment_back None = refl
moment_back (Some ms) = refl

text_back : (text : Option (List ℕ)) → text_in (text_value text) ≡ Some text
text_back None = refl
text_back (Some text) = refl

pub lock_back : (l : Lock) → lock_in (lock_row l) ≡ Some l
unfolding lock_in
lock_back l = rw (moment_back l.granted, text_back l.by) refl

pub is_lock_so : (d : Dialect) (next : ℕ) (values : List (List Value)) → is_lock d (lock_at d next values) ≡ true
unfolding lock_column lock_order lock_key_name
is_lock_so Postgresql next values = refl
is_lock_so Mysql next values = refl

lock_from_so : (d : Dialect) (next : ℕ) (values : List (List Value)) → lock_from d (Some (lock_at d next values)) ≡ lock_in_rows values
lock_from_so d next values = rw (is_lock_so d next values) refl

-- what the lock's row is to hold

pub record GoesIn (l : Lock) : Type 0 where
  pub granted : into_kind (moment_or_null l.granted) kind.Moment ≡ Ok (moment_or_none l.granted)
  pub by : into_kind (text_or_null l.by) kind.Text ≡ Ok (text_value l.by)

abbrev lock_sets : Lock → List (Name × Literal)
lock_sets l = map (λ c. (lock_name c, lock_value l c)) (lock.Locked ∷ lock.LockGranted ∷ lock.LockedBy ∷ [])

lock_edits : (d : Dialect) (next : ℕ) (old new : Lock) → GoesIn new → Edits (lock_sets new) (Some lock_test) (lock_at d next (lock_row old ∷ [])) (lock_at d next (lock_row new ∷ []))
unfolding lock_column lock_order lock_value lock_key_name into_kind
lock_edits d next old new fits = record {
  is = rw (fits.granted, fits.by) refl;
  missing = refl;
  exists = refl;
  wrong = rw (fits.granted, fits.by) refl;
  wide = rw (fits.granted, fits.by) refl;
}

mark_edits : (d : Dialect) (next : ℕ) (old : Lock) (by : List ℕ) → Edits ((lock_name lock.LockedBy, literal.Text by) ∷ []) (Some lock_test) (lock_at d next (lock_row old ∷ [])) (lock_at d next (lock_row (record old { by = Some by }) ∷ []))
unfolding lock_column lock_order lock_value lock_key_name into_kind
mark_edits d next old by = record { is = refl; missing = refl; exists = refl; wrong = refl; wide = refl }

row_adds : (d : Dialect) (next : ℕ) → Adds d (map lock_name lock_order) (map (lock_value free) lock_order) (lock_at d next []) (lock_at d next (lock_row free ∷ []))
unfolding lock_column lock_order lock_value lock_key_name into_kind
row_adds d next = record { is = refl; missing = refl; exists = refl; wrong = refl; wide = refl }

moment_goes : (reading : ℕ) → nat_le reading 253402300799999 ≡ true → into_kind (literal.Text (moment_text (pos reading))) kind.Moment ≡ Ok (value.Moment (pos reading))
unfolding into_kind
moment_goes reading h = ap (λ o. within_width kind.Moment (option_map value.Moment o)) (moment_of-moment_text (pos reading) (is_moment reading (search (tests, h))))

text_goes : (text : List ℕ) → into_kind (literal.Text text) kind.Text ≡ Ok (value.Text text)
unfolding into_kind
text_goes text = refl

pub taken_goes : (at : ℕ) (by : List ℕ) → nat_le at 253402300799999 ≡ true → GoesIn (taken (pos at) by)
taken_goes at by h = record { granted = moment_goes at h; by = text_goes by }

free_goes : GoesIn free
unfolding into_kind
free_goes = record { granted = refl; by = refl }

-- the deeds

abbrev Entries : Type 0
Entries = List (Name × Table)

there_if : (o : Option Table) → is_some o ≡ true → (it : Table) × (o ≡ Some it)
there_if None h = true_false h refl
there_if (Some it) h = (it, refl)

not_so : (b : Bool) → not b ≡ true → b ≡ false
not_so true h = sym h
not_so false h = refl

no_values : (values : List (List Value)) → not (is_empty values) ≡ false → values ≡ []
no_values [] h = refl
no_values (v ∷ values) h = true_false refl h

one_row : (values : List (List Value)) (l : Lock) → not (is_empty values) ≡ true → lock_in_rows values ≡ Some l → values ≡ lock_row l ∷ []
one_row [] l some h = true_false some refl
one_row (v ∷ []) l some h = ap (λ x. x ∷ []) (lock_row_is v l h)
one_row (v ∷ w ∷ more) l some h = not_some (sym h)

swap_lock : (d : Dialect) (o : Option Table) (it : Table) → list_all (λ (e : Name × Table). is_harmless d e.1) (both_there o (Some it)) ≡ true → (new : Table) → is_harmless d new ≡ true → list_all (λ (e : Name × Table). is_harmless d e.1) (both_there o (Some new)) ≡ true
swap_lock d None it h new fine = and_true _ _ fine refl
swap_lock d (Some log) it h new fine = and_true _ _ (and_left (is_harmless d log) _ h) (and_true _ _ fine refl)

lock_apart : is_named lock_table log_table ≡ false
unfolding lock_table log_table
lock_apart = refl

module _ (d : Dialect) (c : Catalogue) (database : Database) (stands : StandsFor d c database) where
  abbrev log' : Option Table
  log' = table_of c log_table

  abbrev lock' : Option Table
  lock' = table_of c lock_table

  has_lock_is : database.has_lock ≡ is_some lock'
  has_lock_is = ap (λ (x : Database). x.has_lock) (database_is d c database stands)

  has_row_is : database.has_lock_row ≡ has_rows lock'
  has_row_is = ap (λ (x : Database). x.has_lock_row) (database_is d c database stands)

  so' : (it : Table) → lock' ≡ Some it → IsBeside d (both_there log' (Some it)) c
  so' it is = subst (λ o. IsBeside d (both_there log' o) c) is (beside_of d c database stands)

  -- another table of the lock in the place of the one that is there
  module _ (it : Table) (is : lock' ≡ Some it) (next : ℕ) (values : List (List Value)) (l : Lock) (read : lock_in_rows values ≡ Some l) where
    abbrev new : Table
    new = lock_at d next values

    after_beside : IsBeside d (both_there log' (Some new)) (with_table c lock_table new)
    after_beside = set_tracker d (both_there log' (Some it)) c (so' it is) lock_table new lock_tracker refl log' (Some new)
        (lookup_other lock_table log_table new c.tables lock_apart) (lookup-set_value (is_named lock_table) c.tables it new is)
        (swap_lock d log' it (so' it is).harmless new (lock_harmless d next values l read))

    after_users : users (with_table c lock_table new) ≡ users c
    after_users = set_users_same d (both_there log' (Some it)) c (so' it is) lock_table new lock_tracker refl

    after_settled : IsSettled (with_table c lock_table new)
    after_settled = settled_beside d (both_there log' (Some new)) (with_table c lock_table new) after_beside (subst (IsSound d) (sym after_users) (users_sound d c database stands))

    after_stands : StandsFor d (with_table c lock_table new) (read_as d c database stands log' (Some new) database.rows l)
    after_stands = stands_with d c database stands (with_table c lock_table new) log' (Some new) database.rows l after_beside after_users (rows_read d c database stands) (lock_from_so d next values ∙ read) stands.few

  -- the lock's table with its row
  row_there : database.has_lock_row ≡ true → (it : Table) × (lock' ≡ Some it) × (it ≡ lock_at d it.next (lock_row database.lock ∷ []))
  row_there fit = at lock' refl where
    at : (o : Option Table) → lock' ≡ o → (it : Table) × (lock' ≡ Some it) × (it ≡ lock_at d it.next (lock_row database.lock ∷ []))
    at None is = true_false refl (sym fit ∙ has_row_is ∙ ap has_rows is)
    at (Some it) is =
        let made = lock_made_so d it database.lock (ap (lock_from d) (sym is) ∙ lock_read d c database stands) in
        (it, is, made.0 ∙ ap (lock_at d it.next) (one_row it.rows database.lock (sym (ap has_rows is) ∙ sym has_row_is ∙ fit) made.1))

  -- a change of the lock's row
  changed : (sets : List (Name × Literal)) (l : Lock) → database.has_lock_row ≡ true → ((next : ℕ) → Edits sets (Some lock_test) (lock_at d next (lock_row database.lock ∷ [])) (lock_at d next (lock_row l ∷ [])))
      → Agrees d (Ok (record database { lock = l })) (step Program d (Update lock_table sets (Some lock_test)) c)
  changed sets l fit edits =
      let there = row_there fit in
      let it = there.0 in
      let ran = updates d c lock_table (lock_at d it.next (lock_row database.lock ∷ [])) (lock_at d it.next (lock_row l ∷ [])) (there.1 ∙ ap (λ x. Some x) there.2) (after_settled it there.1 it.next (lock_row l ∷ []) l (lock_back l)) sets (Some lock_test) (edits it.next) in
      subst (Agrees d (Ok (record database { lock = l }))) (sym ran.1)
      (subst (λ x. StandsFor d (with_table c lock_table (lock_at d it.next (lock_row l ∷ []))) x)
      (ap (λ (o : Option Table). record (read_as d c database stands log' o database.rows l) { has_lock_row = true }) (sym there.1) ∙ ap (λ b. record (read_as d c database stands log' lock' database.rows l) { has_lock_row = b }) (sym fit ∙ has_row_is) ∙ ap (λ (x : Database). record x { lock = l }) (sym (database_is d c database stands)))
      (after_stands it there.1 it.next (lock_row l ∷ []) l (lock_back l)))

  pub taken_told : (at : ℕ) (by : List ℕ) → fits_lock (Taken at by) database ≡ true → Agrees d (done d (Locks (Taken at by)) database) (step Program d (lock_taken (pos at) by) c)
  taken_told at by fit = changed (lock_sets (taken (pos at) by)) (taken (pos at) by) (and_left _ _ fit) (λ next. lock_edits d next database.lock (taken (pos at) by) (taken_goes at by (and_right database.has_lock_row _ fit)))

  pub freed_told : fits_lock Freed database ≡ true → Agrees d (done d (Locks Freed) database) (step Program d lock_freed c)
  freed_told fit = changed (lock_sets free) free fit (λ next. lock_edits d next database.lock free free_goes)

  pub marked_told : (by : List ℕ) → fits_lock (Marked by) database ≡ true → Agrees d (done d (Locks (Marked by)) database) (step Program d (lock_marked by) c)
  marked_told by fit = changed ((lock_name lock.LockedBy, literal.Text by) ∷ []) (record (database.lock) { by = Some by }) fit (λ next. mark_edits d next database.lock by)

  -- the lock's row goes into the table, which has none
  bare_there : database.has_lock ≡ true → database.has_lock_row ≡ false → (it : Table) × (lock' ≡ Some it) × (it ≡ lock_at d it.next []) × (database.lock ≡ free)
  bare_there has none = at lock' refl where
    at : (o : Option Table) → lock' ≡ o → (it : Table) × (lock' ≡ Some it) × (it ≡ lock_at d it.next []) × (database.lock ≡ free)
    at None is = true_false refl (sym has ∙ has_lock_is ∙ ap is_some is)
    at (Some it) is =
        let made = lock_made_so d it database.lock (ap (lock_from d) (sym is) ∙ lock_read d c database stands) in
        let empty = no_values it.rows (sym (ap has_rows is) ∙ sym has_row_is ∙ none) in
        (it, is, made.0 ∙ ap (lock_at d it.next) empty, some_same (sym made.1 ∙ ap lock_in_rows empty))

  pub row_told : fits_lock LockRowMade database ≡ true → Agrees d (done d (Locks LockRowMade) database) (step Program d lock_row_made c)
  row_told fit =
      let there = bare_there (and_left database.has_lock _ fit) (not_so _ (and_right database.has_lock _ fit)) in
      let it = there.0 in
      let next = it.next in
      let ran = inserts d c lock_table (lock_at d next []) (lock_at d next (lock_row free ∷ [])) (there.1 ∙ ap (λ x. Some x) there.2) (after_settled it there.1 next (lock_row free ∷ []) free (lock_back free)) (map lock_name lock_order) (map (lock_value free) lock_order) (row_adds d next) in
      subst (Agrees d (Ok (record database { has_lock_row = true }))) (sym ran.1)
      (subst (λ x. StandsFor d (with_table c lock_table (lock_at d next (lock_row free ∷ []))) x)
      (ap (λ (l : Lock). record (read_as d c database stands log' lock' database.rows l) { has_lock = true; has_lock_row = true }) (sym there.3)
      ∙ ap (λ b. record (read_as d c database stands log' lock' database.rows database.lock) { has_lock = b; has_lock_row = true }) (ap is_some (sym there.1))
      ∙ ap (λ (x : Database). record x { has_lock_row = true }) (sym (database_is d c database stands)))
      (after_stands it there.1 next (lock_row free ∷ []) free (lock_back free)))

  -- the tables are made

  users_named : list_any (λ m. is_taken d m (users c)) (own_names d) ≡ false
  users_named = ap (λ u. list_any (λ m. is_taken d m u) (own_names d)) (sym (users_are d c database stands)) ∙ stands.names

  has_log_is : database.has_log ≡ is_some log'
  has_log_is = ap (λ (x : Database). x.has_log) (database_is d c database stands)

  is_log_bare : rows_from (Some log_bare) ≡ Some []
  unfolding log_column log_order
  is_log_bare = refl

  pub log_told : fits_lock LogMade database ≡ true → Agrees d (done d (Locks LogMade) database) (step Program d log_made c)
  log_told fit =
      let none : log' ≡ None = none_if log' (sym has_log_is ∙ not_so _ fit) in
      let so = subst (λ o. IsBeside d (both_there o lock') c) none (beside_of d c database stands) in
      let read = lock_read d c database stands in
      let sound = users_sound d c database stands in
      let named = log_free d (users c) users_named in
      let rows : rows_from (Some log_bare) ≡ Some database.rows = is_log_bare ∙ sym (ap rows_from none) ∙ rows_read d c database stands in
      subst (Agrees d (Ok (record database { has_log = true }))) (sym (log_run d c lock' database.lock so sound read named))
      (subst (λ x. StandsFor d (with_log d c lock' database.lock so sound read named) x) (ap (λ (x : Database). record x { has_log = true }) (sym (database_is d c database stands)))
      (stands_with d c database stands (with_log d c lock' database.lock so sound read named) (Some log_bare) lock' database.rows database.lock (log_beside d c lock' database.lock so sound read named) (log_users d c lock' database.lock so sound read named) rows read stands.few))

  log_inner : (n : Name) → list_any (λ (e : Name × Table). is_in n (names_inside e)) (both_there log' None) ≡ false
  log_inner n = at log' refl where
    at : (o : Option Table) → log' ≡ o → list_any (λ (e : Name × Table). is_in n (names_inside e)) (both_there o None) ≡ false
    at None is = refl
    at (Some it) is = or_false _ _ (ap (λ (x : Table). is_in n (names_inside (log_table, x))) (log_made_so it database.rows (ap rows_from (sym is) ∙ rows_read d c database stands)).1) refl

  pub lock_told : fits_lock LockMade database ≡ true → Agrees d (done d (Locks LockMade) database) (step Program d (lock_made d) c)
  lock_told fit =
      let none : lock' ≡ None = none_if lock' (sym has_lock_is ∙ not_so _ fit) in
      let so = subst (λ o. IsBeside d (both_there log' o) c) none (beside_of d c database stands) in
      let sound = users_sound d c database stands in
      let l : Some free ≡ Some database.lock = sym (ap (lock_from d) none) ∙ lock_read d c database stands in
      let read : lock_from d (Some (lock_bare d)) ≡ Some database.lock = lock_from_so d 1 [] ∙ l in
      let no_row : false ≡ database.has_lock_row = sym (ap has_rows none) ∙ sym has_row_is in
      subst (Agrees d (Ok (record database { has_lock = true }))) (sym (lock_run d c log' so sound log_inner users_named))
      (subst (λ x. StandsFor d (with_lock d c log' so sound log_inner users_named) x)
      (ap (λ b. record (read_as d c database stands log' lock' database.rows database.lock) { has_lock = true; has_lock_row = b }) (sym (ap has_rows none)) ∙ ap (λ (x : Database). record x { has_lock = true }) (sym (database_is d c database stands)))
      (stands_with d c database stands (with_lock d c log' so sound log_inner users_named) log' (Some (lock_bare d)) database.rows database.lock (lock_beside d c log' so sound log_inner users_named) (lock_users d c log' so sound log_inner users_named) (rows_read d c database stands) read stands.few))

  pub locks_told : (w : OnLock) → fits_lock w database ≡ true → Agrees d (done d (Locks w) database) (step Program d (lock_statement d w) c)
  locks_told LogMade fit = log_told fit
  locks_told LockMade fit = lock_told fit
  locks_told LockRowMade fit = row_told fit
  locks_told (Taken at by) fit = taken_told at by fit
  locks_told (Marked by) fit = marked_told by fit
  locks_told Freed fit = freed_told fit
