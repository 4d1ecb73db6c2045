-- A sound and clean catalogue stands for the database that is read from it.
use Rattle.std.proofs.Common.{ap, subst, sym, ◌∙◌}
use Rattle.std.specs.FinMap.Entries.{is_sorted}
use Rattle.std.specs.List.{list_all, list_any}
use Rattle.std.specs.Prelude.{Bool, List, None, Option, Some, T, [], false, length, nat_le, nat_lt, not, refl, true, ◌∷◌, ◌≡◌}
use Rattle.lq_base.proofs.ValueLemmas.{and_then_some}
use Rattle.lq_base.specs.Name.{is_named, name_cmp}
use Rattle.lq_base.specs.declared.dialect.Dialect.{Dialect}
use Rattle.lq_base.specs.declared.name.Name.{Name}
use Rattle.lq_base.specs.declared.tracking.Tracked.{Tracked}
use Rattle.lq_model.proofs.Decide.{IsSettled}
use Rattle.lq_model.proofs.Dropped.{dropped}
use Rattle.lq_model.proofs.Lists.{all-append, and_left, and_right, and_true, any_none, not_false, true_false}
use Rattle.lq_model.proofs.Maps.{any_none-remove_entry, at_lookup, some_same, sorted_entries}
use Rattle.lq_model.proofs.Shaped.{IsShaped, shape_of, sound_of}
use Rattle.lq_model.specs.Catalogue.{Catalogue, Table, View, table_of, without_table}
use Rattle.lq_model.specs.Tables.{is_viewed}
use Rattle.lq_model.specs.Plan.{has_orphan, is_full}
use Rattle.lq_model.specs.Sound.{IsSound}
use Rattle.lq_track.specs.Database.{Database, IsDatabase, database_of, has_twin_rows, in_run_order, lock_from, lock_of, rows_from, rows_of, users_of}
use Rattle.lq_track.specs.Lock.{lock_table}
use Rattle.lq_track.specs.Log.{log_table}
use Rattle.lq_turns.specs.Schedule.{StandsFor}
use Rattle.lq_beside.specs.Beside.{IsBeside, is_harmless, is_tracker, is_users, targets_tracker, users}
use Rattle.lq_beside.proofs.Parts.{any_only}
use Rattle.lq_beside.proofs.RunOrder.{as_many, placed_all}
use Rattle.lq_beside.proofs.Stands.{both_there, lock_there_harmless, log_harmless, log_made_so, rows_length, there, trackers_are, users_same}
use Rattle.lq_beside.proofs.TablesRead.{map_some, not_is}
use Rattle.lq_beside.proofs.TakesNone.{lock_tracker, log_tracker}
use Rattle.lq_beside.proofs.Tests.{any_aimed, harmless_foreign, loose_same, no_orphan, none_in, not_users, null_same, orphan_same, overfull_same, twins_same}
use Rattle.lq_store.specs.Journal.{is_apart, names_tracking, takes_key}
use Rattle.lq_entries.specs.Load.{is_clean_database}
use Rattle.lq_stand.specs.Stays.{CleanStands}
use Rattle.lq_stand.proofs.Apart.{names_free, none_aimed, untargeted, unviewed}

-- what holds of rows holds of them in run order
pub all_placed : (p : Tracked → Bool) (rs : List Tracked) → list_all p rs ≡ true → list_all p (in_run_order rs) ≡ true
all_placed p [] h = refl
all_placed p (r ∷ rs) h = placed_all p r (in_run_order rs) (and_left (p r) _ h) (all_placed p rs (and_right (p r) _ h))

module _ (d : Dialect) (c : Catalogue) (sound : IsSound d c) (database : Database) (is : database_of d c ≡ Some database) (apart : is_apart d database.users ≡ true) where
  abbrev log : Option Table
  log = table_of c log_table

  abbrev lock : Option Table
  lock = table_of c lock_table

  sorted : T (is_sorted name_cmp c.tables)
  sorted = sorted_entries c.tables sound.ordered

  rows_read : rows_from log ≡ Some database.rows
  rows_read =
      let rows = and_then_some _ (rows_of c) database is in
      let l = map_some _ (lock_of d c) database rows.2 in
      rows.1 ∙ ap (λ (x : Database). Some x.rows) l.2

  lock_read : lock_from d lock ≡ Some database.lock
  lock_read =
      let rows = and_then_some _ (rows_of c) database is in
      let l = map_some _ (lock_of d c) database rows.2 in
      l.1 ∙ ap (λ (x : Database). Some x.lock) l.2

  users_are : users_of c ≡ database.users
  users_are =
      let rows = and_then_some _ (rows_of c) database is in
      let l = map_some _ (lock_of d c) database rows.2 in
      ap (λ (x : Database). x.users) l.2

  none_named : names_tracking database.users ≡ false
  none_named = not_is _ (and_left (not (names_tracking database.users)) _ apart)

  key_free : takes_key d database.users ≡ false
  key_free = not_is _ (and_right (not (names_tracking database.users)) _ apart)

  -- the rows are those of a sound table
  module _ (it : Table) (there_is : log ≡ Some it) (read : rows_from (Some it) ≡ Some database.rows) where
    abbrev stored : List Tracked
    stored = (log_made_so it database.rows read).0

    stored_few : nat_le (length stored) 100000 ≡ true
    stored_few = ap (λ n. nat_le n 100000) (sym (rows_length stored) ∙ ap (λ (x : Table). length x.rows) (sym (log_made_so it database.rows read).1)) ∙ not_false _ (at_lookup (is_named log_table) is_full c.tables it sound.small there_is)

    rows_few : nat_le (length database.rows) 100000 ≡ true
    rows_few = ap (λ (rs : List Tracked). nat_le (length rs) 100000) (sym (log_made_so it database.rows read).2) ∙ ap (λ n. nat_le n 100000) (as_many stored) ∙ stored_few

    rows_ordered : list_all (λ (r : Tracked). nat_lt 0 r.order) database.rows ≡ true
    rows_ordered = ap (list_all (λ (r : Tracked). nat_lt 0 r.order)) (sym (log_made_so it database.rows read).2) ∙ all_placed (λ r. nat_lt 0 r.order) stored (log_made_so it database.rows read).3

    it_harmless : is_harmless d it ≡ true
    it_harmless = ap (is_harmless d) (log_made_so it database.rows read).1 ∙ log_harmless d it.next stored stored_few

  few : nat_le (length database.rows) 100000 ≡ true
  few = by log refl rows_read where
    by : (o : Option Table) → log ≡ o → rows_from o ≡ Some database.rows → nat_le (length database.rows) 100000 ≡ true
    by None there_is read = ap (λ (rs : List Tracked). nat_le (length rs) 100000) (sym (some_same read))
    by (Some it) there_is read = rows_few it there_is read

  ordered : list_all (λ (r : Tracked). nat_lt 0 r.order) database.rows ≡ true
  ordered = by log refl rows_read where
    by : (o : Option Table) → log ≡ o → rows_from o ≡ Some database.rows → list_all (λ (r : Tracked). nat_lt 0 r.order) database.rows ≡ true
    by None there_is read = ap (list_all (λ (r : Tracked). nat_lt 0 r.order)) (sym (some_same read))
    by (Some it) there_is read = rows_ordered it there_is read

  -- the tracking tables stand beside the users' objects

  log_there_harmless : list_all (λ (e : Name × Table). is_harmless d e.1) (there log_table log) ≡ true
  log_there_harmless = by log refl rows_read where
    by : (o : Option Table) → log ≡ o → rows_from o ≡ Some database.rows → list_all (λ (e : Name × Table). is_harmless d e.1) (there log_table o) ≡ true
    by None there_is read = refl
    by (Some it) there_is read = and_true _ _ (it_harmless it there_is read) refl

  all_harmless : list_all (λ (e : Name × Table). is_harmless d e.1) (both_there log lock) ≡ true
  all_harmless = all-append _ (there log_table log) (there lock_table lock) log_there_harmless (lock_there_harmless d lock database.lock lock_read)

  users_aimed : list_any (λ (e : Name × Table). targets_tracker e.1) (users c).tables ≡ false
  users_aimed = ap (λ (u : Catalogue). list_any (λ (e : Name × Table). targets_tracker e.1) u.tables) (sym (users_same c sorted) ∙ users_are) ∙ none_aimed database.users none_named

  aimed : list_any (λ (e : Name × Table). targets_tracker e.1) c.tables ≡ false
  aimed = sym (any_only (λ e. is_users e.0) (λ e. targets_tracker e.1) c.tables
      (ap (list_any (λ e. targets_tracker e.1)) (not_users c.tables ∙ trackers_are c.tables sorted)
      ∙ any_none (λ e. targets_tracker e.1) (λ e. is_harmless d e.1) (both_there log lock) (λ e h. none_in _ e.1.foreign (harmless_foreign d e.1 h)) all_harmless))
      ∙ users_aimed

  beside : IsBeside d (both_there log lock) c
  beside = record { ordered = sorted; are = trackers_are c.tables sorted; harmless = all_harmless; aimed = aimed }

  -- without them the catalogue is sound

  unshown : (t : Name) → is_tracker t ≡ true → is_viewed c t ≡ false
  unshown t tracker = ap (λ (u : Catalogue). list_any (λ (e : Name × View). is_named t e.1.query.table) u.views) users_are ∙ unviewed database.users none_named t tracker

  logless_shaped : IsShaped d (without_table c log_table)
  logless_shaped = dropped d log_table c (shape_of d c sound) (unshown log_table log_tracker) (untargeted log_table c.tables log_tracker aimed)

  shaped : IsShaped d (users_of c)
  shaped = dropped d lock_table (without_table c log_table) logless_shaped (unshown lock_table lock_tracker)
      (untargeted lock_table (without_table c log_table).tables lock_tracker (any_none-remove_entry (is_named log_table) (λ e. targets_tracker e.1) c.tables aimed))

  settled : IsSettled (users c)
  settled = record {
    aimed = loose_same d (both_there log lock) c beside ∙ sound.aimed;
    no_null = null_same d (both_there log lock) c beside ∙ sound.no_null;
    no_twins = twins_same d (both_there log lock) c beside ∙ sound.no_twins;
    parents = any_aimed d (both_there log lock) c beside (λ e. has_orphan (users c) e.1) (λ e. has_orphan c e.1) (λ k it none. orphan_same d (both_there log lock) c beside it none) (λ k it h. no_orphan d (both_there log lock) c beside it h) ∙ sound.parents;
    small = overfull_same d (both_there log lock) c beside ∙ sound.small;
  }

  users_sound : IsSound d database.users
  users_sound = subst (IsSound d) users_are (sound_of d (users_of c) shaped (subst IsSettled (sym (users_same c sorted)) settled))

  stands : StandsFor d c database
  stands = record { ordered = sound.ordered; is = is; sound = users_sound; names = names_free database.users none_named d key_free; few = few }

  is_database : has_twin_rows database.rows ≡ false → IsDatabase d database
  is_database differ = record { users = users_sound; differ = differ; ordered = ordered }

pub clean_stands : CleanStands
clean_stands d c sound clean = by (database_of d c) refl clean where
  by : (o : Option Database) → database_of d c ≡ o → is_clean_database d o ≡ true → (database : Database) × StandsFor d c database × IsDatabase d database
  by None is h = true_false h refl
  by (Some database) is h =
      let apart = and_right (not (has_twin_rows database.rows)) _ h in
      (database, stands d c sound database is apart, is_database d c sound database is apart (not_is _ (and_left (not (has_twin_rows database.rows)) _ h)))
