-- A catalogue that stands for a database is the users' objects with the tracking tables put in.
use Rattle.std.proofs.Common.{ap, subst, sym, ◌∙◌}
use Rattle.std.specs.FinMap.Entries.{is_sorted}
use Rattle.std.specs.List.{list_all, list_any}
use Rattle.std.specs.Map.{lookup}
use Rattle.std.specs.Option.{unwrap_or}
use Rattle.std.specs.Prelude.{Bool, List, None, Option, Some, T, [], cond, false, is_some, length, nat_le, nat_lt, not, option_and_then, option_map, refl, true, suc, ℕ, ◌++◌, ◌||◌, ◌∷◌, ◌≡◌}
use Rattle.lq_base.proofs.ValueLemmas.{and_then_some}
use Rattle.lq_base.specs.Name.{is_named, name_cmp}
use Rattle.lq_base.specs.declared.dialect.Dialect.{Dialect}
use Rattle.lq_base.specs.declared.dialect.Dialect.TheVariants.{Mysql, Postgresql}
use Rattle.lq_base.specs.declared.name.Name.{Name}
use Rattle.lq_base.specs.declared.tracking.Lock.{Lock}
use Rattle.lq_base.specs.declared.tracking.Tracked.{Tracked}
use Rattle.lq_base.specs.declared.value.Value.{Value}
use Rattle.lq_model.proofs.Lists.{all-append, and_true, any_less, any_none, or_false, other_way, same_name, true_false}
use Rattle.lq_model.proofs.Maps.{lookup-remove_entry, not_some, same_maps, sorted-remove_entry, sorted_entries}
use Rattle.lq_model.specs.Catalogue.{Catalogue, Table, no_table, table_of, same_names, has_bad_null, inner_names, target_lists}
use Rattle.lq_model.specs.Plan.{misses_target}
use Rattle.lq_model.specs.NameSpaces.{lock_key}
use Rattle.lq_model.specs.Sound.{IsSound}
use Rattle.lq_model.specs.declared.constraint.ForeignKey.{ForeignKey}
use Rattle.lq_track.specs.Database.{Database, has_rows, in_run_order, is_lock, is_log, lock_from, lock_in_rows, lock_of, placed, rows_from, rows_in, rows_of, users_of}
use Rattle.lq_track.specs.Lock.{lock_column, lock_key_name, lock_order, lock_table}
use Rattle.lq_track.specs.Log.{log_column, log_order, log_table}
use Rattle.lq_turns.specs.Schedule.{StandsFor}
use Rattle.lq_beside.specs.Beside.{IsBeside, is_harmless, is_tracker, is_users, only, takes_no_name, targets_tracker, users}
use Rattle.lq_beside.proofs.AsMade.{lock_at, log_at, log_columns, log_rows}
use Rattle.lq_beside.proofs.Parts.{any_only, lookup_only, sorted_only}
use Rattle.lq_beside.proofs.TablesRead.{lock_is_made, lock_row_is, log_is_made, map_some, rows_are}
use Rattle.lq_beside.proofs.Tests.{harmless_foreign, none_in, not_users}

-- the tracking tables that are there, by their names

abbrev pub there : Name → Option Table → List (Name × Table)
there n None = []
there n (Some it) = (n, it) ∷ []

abbrev pub both_there : Option Table → Option Table → List (Name × Table)
both_there log lock = there log_table log ++ there lock_table lock

pub log_there : (log lock : Option Table) → lookup (is_named log_table) (both_there log lock) ≡ log
unfolding log_table lock_table
log_there None None = refl
log_there None (Some b) = refl
log_there (Some a) None = refl
log_there (Some a) (Some b) = refl

pub lock_there : (log lock : Option Table) → lookup (is_named lock_table) (both_there log lock) ≡ lock
unfolding log_table lock_table
lock_there None None = refl
lock_there None (Some b) = refl
lock_there (Some a) None = refl
lock_there (Some a) (Some b) = refl

other_there : (log lock : Option Table) (q : Name) → is_named q log_table ≡ false → is_named q lock_table ≡ false → lookup (is_named q) (both_there log lock) ≡ None
other_there None None q a b = refl
other_there None (Some y) q a b = rw (b) refl
other_there (Some x) None q a b = rw (a) refl
other_there (Some x) (Some y) q a b = rw (a, b) refl

both_sorted : (log lock : Option Table) → T (is_sorted name_cmp (both_there log lock))
unfolding log_table lock_table
both_sorted None None = tt
both_sorted None (Some b) = tt
both_sorted (Some a) None = tt
both_sorted (Some a) (Some b) = tt

pub trackers_are : (es : List (Name × Table)) → T (is_sorted name_cmp es) → only is_tracker es ≡ both_there (lookup (is_named log_table) es) (lookup (is_named lock_table) es)
trackers_are es h =
    let log = lookup (is_named log_table) es in
    let lock = lookup (is_named lock_table) es in
    same_maps (only is_tracker es) (both_there log lock) (sorted_only is_tracker es h) (both_sorted log lock)
    (λ q. lookup_only is_tracker es q ∙ at q (is_named log_table q) (is_named lock_table q) refl refl) where
      at : (q : Name) (a b : Bool) → is_named log_table q ≡ a → is_named lock_table q ≡ b → cond (is_tracker q) (lookup (is_named q) es) None ≡ lookup (is_named q) (both_there (lookup (is_named log_table) es) (lookup (is_named lock_table) es))
      at q true b p r = ap (λ x. cond (x || is_named lock_table q) (lookup (is_named q) es) None) p ∙ ap (λ n. lookup (is_named n) es) (sym (same_name log_table q p))
          ∙ sym (ap (λ n. lookup (is_named n) (both_there (lookup (is_named log_table) es) (lookup (is_named lock_table) es))) (sym (same_name log_table q p)) ∙ log_there _ _)
      at q false true p r = ap (λ x. cond (x || is_named lock_table q) (lookup (is_named q) es) None) p ∙ ap (λ x. cond x (lookup (is_named q) es) None) r ∙ ap (λ n. lookup (is_named n) es) (sym (same_name lock_table q r))
          ∙ sym (ap (λ n. lookup (is_named n) (both_there (lookup (is_named log_table) es) (lookup (is_named lock_table) es))) (sym (same_name lock_table q r)) ∙ lock_there _ _)
      at q false false p r = ap (λ x. cond (x || is_named lock_table q) (lookup (is_named q) es) None) p ∙ ap (λ x. cond x (lookup (is_named q) es) None) r
          ∙ sym (other_there _ _ q (other_way log_table q p) (other_way lock_table q r))

-- what is left when both are taken out
pub users_same : (c : Catalogue) → T (is_sorted name_cmp c.tables) → users_of c ≡ users c
users_same c h =
    let less = sorted-remove_entry log_table c.tables h in
    ap (λ es. record c { tables = es }) (same_maps _ _ (sorted-remove_entry lock_table _ less) (sorted_only is_users c.tables h)
    (λ q. lookup-remove_entry lock_table _ q less ∙ ap (cond (is_named lock_table q) None) (lookup-remove_entry log_table c.tables q h)
    ∙ two (is_named lock_table q) (is_named log_table q) (lookup (is_named q) c.tables) ∙ sym (lookup_only is_users c.tables q))) where
      two : (a b : Bool) (o : Option Table) → cond a None (cond b None o) ≡ cond (not (b || a)) o None
      two true true o = refl
      two true false o = refl
      two false true o = refl
      two false false o = refl

-- a table that can be read is harmless

placed_length : (r : Tracked) (rs : List Tracked) → length (placed r rs) ≡ length (r ∷ rs)
placed_length r [] = refl
placed_length r (s ∷ rs) = elim (nat_lt r.order s.order) as (λ b. length (cond b (r ∷ s ∷ rs) (s ∷ placed r rs)) ≡ length (r ∷ s ∷ rs)) [
  | true ↦ refl
  | false ↦ ap suc (placed_length r rs)
]

order_length : (rs : List Tracked) → length (in_run_order rs) ≡ length rs
order_length [] = refl
order_length (r ∷ rs) = placed_length r (in_run_order rs) ∙ ap suc (order_length rs)

pub no_bad_nulls : (rows : List Tracked) → list_any (has_bad_null log_columns) (log_rows rows) ≡ false
unfolding log_column log_order
no_bad_nulls [] = refl
no_bad_nulls (row ∷ rows) = or_false _ _ refl (no_bad_nulls rows)

pub rows_length : (rows : List Tracked) → length (log_rows rows) ≡ length rows
rows_length [] = refl
rows_length (row ∷ rows) = ap suc (rows_length rows)

takes_none : (d : Dialect) (it : Table) → inner_names it ≡ [] → takes_no_name d it ≡ true
takes_none Postgresql it is = ap (list_all (is_named lock_key)) is
takes_none Mysql it is = refl

pub log_harmless : (d : Dialect) (next : ℕ) (rows : List Tracked) → nat_le (length rows) 100000 ≡ true → is_harmless d (log_at next (log_rows rows)) ≡ true
log_harmless d next rows few = and_true _ _ (takes_none d (log_at next (log_rows rows)) refl) (and_true _ _ (ap not (no_bad_nulls rows)) (ap (λ n. not (not (nat_le n 100000))) (rows_length rows) ∙ ap (λ b. not (not b)) few))

pub lock_harmless : (d : Dialect) (next : ℕ) (values : List (List Value)) (l : Lock) → lock_in_rows values ≡ Some l → is_harmless d (lock_at d next values) ≡ true
unfolding lock_column lock_order lock_key_name
lock_harmless Postgresql next [] l is = refl
lock_harmless Mysql next [] l is = refl
lock_harmless Postgresql next (row ∷ []) l is = ap (λ v. is_harmless Postgresql (lock_at Postgresql next (v ∷ []))) (lock_row_is row l is)
lock_harmless Mysql next (row ∷ []) l is = ap (λ v. is_harmless Mysql (lock_at Mysql next (v ∷ []))) (lock_row_is row l is)
lock_harmless d next (row ∷ other ∷ more) l is = not_some (sym is)

-- a table of rows that can be read, and one of the lock
pub log_made_so : (it : Table) (rows : List Tracked) → rows_from (Some it) ≡ Some rows → (stored : List Tracked) × (it ≡ log_at it.next (log_rows stored)) × (in_run_order stored ≡ rows) × (list_all (λ r. nat_lt 0 r.order) stored ≡ true)
log_made_so it rows h = at (is_log it) refl h where
  at : (b : Bool) → is_log it ≡ b → cond b (option_map in_run_order (rows_in it.rows)) None ≡ Some rows → (stored : List Tracked) × (it ≡ log_at it.next (log_rows stored)) × (in_run_order stored ≡ rows) × (list_all (λ r. nat_lt 0 r.order) stored ≡ true)
  at false made e = not_some (sym e)
  at true made e =
      let stored = map_some in_run_order (rows_in it.rows) rows e in
      let are = rows_are it.rows stored.0 stored.1 in
      (stored.0, log_is_made it made ∙ ap (log_at it.next) are.0, stored.2, are.1)

pub lock_made_so : (d : Dialect) (it : Table) (l : Lock) → lock_from d (Some it) ≡ Some l → (it ≡ lock_at d it.next it.rows) × (lock_in_rows it.rows ≡ Some l)
lock_made_so d it l h = at (is_lock d it) refl h where
  at : (b : Bool) → is_lock d it ≡ b → cond b (lock_in_rows it.rows) None ≡ Some l → (it ≡ lock_at d it.next it.rows) × (lock_in_rows it.rows ≡ Some l)
  at false made e = not_some (sym e)
  at true made e = (lock_is_made d it made, e)

log_there_harmless : (d : Dialect) (log : Option Table) (rows : List Tracked) → rows_from log ≡ Some rows → nat_le (length rows) 100000 ≡ true → list_all (λ e. is_harmless d e.1) (there log_table log) ≡ true
log_there_harmless d None rows h few = refl
log_there_harmless d (Some it) rows h few =
    let so = log_made_so it rows h in
    and_true _ _ (ap (is_harmless d) so.1 ∙ log_harmless d it.next so.0 (ap (λ n. nat_le n 100000) (sym (order_length so.0) ∙ ap (λ (rs : List Tracked). length rs) so.2) ∙ few)) refl

pub lock_there_harmless : (d : Dialect) (lock : Option Table) (l : Lock) → lock_from d lock ≡ Some l → list_all (λ e. is_harmless d e.1) (there lock_table lock) ≡ true
lock_there_harmless d None l h = refl
lock_there_harmless d (Some it) l h = let so = lock_made_so d it l h in and_true _ _ (ap (is_harmless d) so.0 ∙ lock_harmless d it.next it.rows l so.1) refl

-- a foreign key of the users' objects targets no tracking table, since it targets one that is there

pub not_missed : (c : Catalogue) (f : ForeignKey) → misses_target (users c) f ≡ false → is_tracker f.table ≡ false
not_missed c f hits = at (is_tracker f.table) refl where
  at : (b : Bool) → is_tracker f.table ≡ b → b ≡ false
  at false is = refl
  at true is = true_false refl (sym (ap (λ o. not (list_any (same_names f.targets) (target_lists (unwrap_or o no_table)))) (lookup_only is_users c.tables f.table ∙ ap (λ b. cond (not b) (table_of c f.table) None) is)) ∙ hits)

-- the database that users' objects and tracking tables are
abbrev pub database_from : Dialect → Catalogue → Option Table → Option Table → Option Database
database_from d u log lock = option_and_then (λ rows. option_map (λ l. record {
  users = u;
  rows = rows;
  lock = l;
  has_log = is_some log;
  has_lock = is_some lock;
  has_lock_row = has_rows lock;
}) (lock_from d lock)) (rows_from log)

pub other_users : (d : Dialect) (u v : Catalogue) (log lock : Option Table) → option_map (λ (x : Database). record x { users = v }) (database_from d u log lock) ≡ database_from d v log lock
other_users d u v log lock = elim (rows_from log) as (λ o. option_map (λ (x : Database). record x { users = v }) (from_both o (lock_from d lock) u) ≡ from_both o (lock_from d lock) v) [
  | None ↦ refl
  | Some rows ↦ elim (lock_from d lock) as (λ p. option_map (λ (x : Database). record x { users = v }) (from_both (Some rows) p u) ≡ from_both (Some rows) p v) [
    | None ↦ refl
    | Some l ↦ refl
  ]
] where
  from_both : Option (List Tracked) → Option Lock → Catalogue → Option Database
  from_both o p w = option_and_then (λ rows. option_map (λ l. record { users = w; rows = rows; lock = l; has_log = is_some log; has_lock = is_some lock; has_lock_row = has_rows lock }) p) o

module _ (d : Dialect) (c : Catalogue) (database : Database) (stands : StandsFor d c database) where
  abbrev pub log_of : Option Table
  log_of = table_of c log_table

  abbrev pub lock_of' : Option Table
  lock_of' = table_of c lock_table

  pub sorted_tables : T (is_sorted name_cmp c.tables)
  sorted_tables = sorted_entries c.tables stands.ordered

  pub rows_read : rows_from log_of ≡ Some database.rows
  rows_read =
      let rows = and_then_some _ (rows_of c) database stands.is in
      let l = map_some _ (lock_of d c) database rows.2 in
      rows.1 ∙ ap (λ (x : Database). Some x.rows) l.2

  pub lock_read : lock_from d lock_of' ≡ Some database.lock
  lock_read =
      let rows = and_then_some _ (rows_of c) database stands.is in
      let l = map_some _ (lock_of d c) database rows.2 in
      l.1 ∙ ap (λ (x : Database). Some x.lock) l.2

  pub users_are : database.users ≡ users c
  users_are =
      let rows = and_then_some _ (rows_of c) database stands.is in
      let l = map_some _ (lock_of d c) database rows.2 in
      sym (ap (λ (x : Database). x.users) l.2) ∙ users_same c sorted_tables

  pub users_sound : IsSound d (users c)
  users_sound = subst (IsSound d) users_are stands.sound

  all_harmless : list_all (λ e. is_harmless d e.1) (both_there log_of lock_of') ≡ true
  all_harmless = all-append _ (there log_table log_of) (there lock_table lock_of') (log_there_harmless d log_of database.rows rows_read stands.few) (lock_there_harmless d lock_of' database.lock lock_read)

  none_aimed : list_any (λ e. targets_tracker e.1) c.tables ≡ false
  none_aimed = sym (any_only (λ e. is_users e.0) (λ e. targets_tracker e.1) c.tables
      (ap (list_any (λ e. targets_tracker e.1)) (not_users c.tables ∙ trackers_are c.tables sorted_tables)
      ∙ any_none (λ e. targets_tracker e.1) (λ e. is_harmless d e.1) (both_there log_of lock_of') (λ e h. none_in (λ (f : ForeignKey). is_tracker f.table) e.1.foreign (harmless_foreign d e.1 h)) all_harmless))
      ∙ any_less (λ e. targets_tracker e.1) (λ e. list_any (misses_target (users c)) e.1.foreign) (users c).tables (λ e none. any_less (λ (f : ForeignKey). is_tracker f.table) (misses_target (users c)) e.1.foreign (not_missed c) none) users_sound.aimed

  -- the catalogue is the users' objects and, beside them, what is there of the tracking tables
  pub beside_of : IsBeside d (both_there log_of lock_of') c
  beside_of = record { ordered = sorted_tables; are = trackers_are c.tables sorted_tables; harmless = all_harmless; aimed = none_aimed }
