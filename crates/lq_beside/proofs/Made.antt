-- The tracking tables are made, beside any sound objects of users that leave their names free.
use Rattle.std.proofs.Common.{ap, subst, sym, ◌∙◌}
use Rattle.std.specs.List.{flat_map, list_all, list_any}
use Rattle.std.specs.Prelude.{List, None, Ok, Option, Some, [], false, is_none, is_some, map, not, refl, true, ◌&&◌, ◌++◌, ◌||◌, ◌∷◌, ◌≡◌}
use Rattle.lq_base.specs.Name.{is_named}
use Rattle.lq_base.specs.Value.{into_kind}
use Rattle.lq_base.specs.declared.dialect.Dialect.{Dialect}
use Rattle.lq_base.specs.declared.dialect.Dialect.TheVariants.{Mysql, Postgresql}
use Rattle.lq_base.specs.declared.name.Name.{Name}
use Rattle.lq_base.specs.declared.tracking.Lock.{Lock}
use Rattle.lq_model.proofs.Decide.{IsFree, IsSettled, settles}
use Rattle.lq_model.proofs.Lists.{and_left, any-append, and_true, or_false, or_left, or_right}
use Rattle.lq_model.proofs.Maps.{any_none-insert_entry, found, lookup-insert_entry, sorted-insert_entry}
use Rattle.lq_model.specs.Catalogue.{Catalogue, Table, table_of, with_new, is_in, inner_names, placed}
use Rattle.lq_model.specs.Tables.{create_table, lists_twice}
use Rattle.lq_model.specs.NameSpaces.{are_clashing, is_taken, names_inside, object_names, shared_names, takes_lock_key}
use Rattle.lq_model.specs.Plan.{Plan}
use Rattle.lq_model.specs.Sound.{IsSound}
use Rattle.lq_model.specs.Step.{step}
use Rattle.lq_model.specs.declared.caller.By.TheVariants.{Program}
use Rattle.lq_track.specs.Database.{lock_from}
use Rattle.lq_track.specs.Lock.{lock_column, lock_key, lock_key_name, lock_order, lock_table}
use Rattle.lq_track.specs.Log.{log_column, log_order, log_table}
use Rattle.lq_track.specs.Statements.{lock_made, log_made}
use Rattle.lq_turns.specs.Schedule.{own_names}
use Rattle.lq_beside.specs.Beside.{IsBeside, is_harmless, is_tracker, is_users, targets_tracker, users}
use Rattle.lq_beside.proofs.AsMade.{lock_at, log_at}
use Rattle.lq_beside.proofs.Parts.{insert_out}
use Rattle.lq_beside.proofs.Settled.{free_in, settled_beside}
use Rattle.lq_beside.proofs.Stands.{both_there, lock_made_so, lock_there_harmless, log_harmless, trackers_are}
use Rattle.lq_beside.proofs.Tell.{lock_same, log_same}
use Rattle.lq_beside.proofs.Tests.{table_same}

abbrev pub log_bare : Table
log_bare = log_at 1 []

abbrev pub lock_bare : Dialect → Table
lock_bare d = lock_at d 1 []

lock_inner : (d : Dialect) (n : Name) → is_named n (lock_key_name d) ≡ false → (lock : Option Table) (l : Lock) → lock_from d lock ≡ Some l → list_any (λ (e : Name × Table). is_in n (names_inside e)) (both_there None lock) ≡ false
unfolding lock_table
lock_inner d n apart None l h = refl
lock_inner d n apart (Some it) l h = or_false _ _ (ap (λ (x : Table). is_in n (names_inside (lock_table, x))) (lock_made_so d it l h).0 ∙ or_false _ _ apart refl) refl

log_apart : (d : Dialect) → is_named log_table (lock_key_name d) ≡ false
unfolding log_table lock_key_name
log_apart Postgresql = refl
log_apart Mysql = refl

-- a new table beside the others
module _ (d : Dialect) (ts : List (Name × Table)) (c : Catalogue) (so : IsBeside d ts c) (t : Name) (it : Table) (is : is_tracker t ≡ true) where
  pub users_kept : users (with_new c t it) ≡ users c
  users_kept = ap (λ es. record c { tables = es }) (insert_out is_users c.tables so.ordered t it (ap not is))

  pub new_tracker : (log lock : Option Table) → (table_of (with_new c t it) log_table ≡ log) → (table_of (with_new c t it) lock_table ≡ lock) → list_all (λ e. is_harmless d e.1) (both_there log lock) ≡ true → targets_tracker it ≡ false → IsBeside d (both_there log lock) (with_new c t it)
  new_tracker log lock log_is lock_is harmless aimed = record {
    ordered = sorted-insert_entry c.tables t it so.ordered;
    are = trackers_are (with_new c t it).tables (sorted-insert_entry c.tables t it so.ordered) ∙ ap (λ x. both_there x (table_of (with_new c t it) lock_table)) log_is ∙ ap (both_there log) lock_is;
    harmless = harmless;
    aimed = any_none-insert_entry (λ e. targets_tracker e.1) c.tables t it (λ n. refl) aimed so.aimed;
  }

log_tracker : is_tracker log_table ≡ true
unfolding log_table
log_tracker = refl

lock_tracker : is_tracker lock_table ≡ true
unfolding log_table lock_table
lock_tracker = refl

module _ (d : Dialect) (c : Catalogue) (lock : Option Table) (l : Lock) (so : IsBeside d (both_there None lock) c) (sound : IsSound d (users c)) (read : lock_from d lock ≡ Some l) (free : is_taken d log_table (users c) ≡ false) where
  abbrev pub with_log : Catalogue
  with_log = with_new c log_table log_bare

  pub log_beside : IsBeside d (both_there (Some log_bare) lock) with_log
  unfolding log_table lock_table
  log_beside = new_tracker d (both_there None lock) c so log_table log_bare log_tracker (Some log_bare) lock
      (lookup-insert_entry c.tables log_table log_bare log_table)
      (lookup-insert_entry c.tables log_table log_bare lock_table ∙ lock_same d None lock c so)
      (and_true _ _ (log_harmless d 1 [] refl) (lock_there_harmless d lock l read)) refl

  pub log_users : users with_log ≡ users c
  log_users = users_kept d (both_there None lock) c so log_table log_bare log_tracker

  log_free : is_taken d log_table c ≡ false
  log_free = free_in d (both_there None lock) c so log_table (ap is_none (log_same d None lock c so)) (lock_inner d log_table (log_apart d) lock l read) free

  log_plan : Plan
  log_plan = create_table Program d log_table (map log_column log_order) None [] [] c

  log_result : log_plan.result ≡ with_log
  unfolding log_plan log_column log_order
  log_result = refl

  log_clash : (f : Dialect) → (are_clashing f log_table log_bare c || (takes_lock_key Program f (log_table ∷ []) || lists_twice log_bare)) ≡ false
  unfolding log_column log_order
  log_clash Postgresql = refl
  log_clash Mysql = refl

  log_unopposed : IsFree log_plan
  unfolding log_plan log_column log_order into_kind
  log_unopposed = record { reserved = refl; missing = refl; exists = or_false _ _ log_free (log_clash d); depends = refl; wrong = refl; wide = refl }

  pub log_run : step Program d log_made c ≡ Ok (with_log, 0)
  unfolding log_plan
  log_run = settles log_plan (subst IsSettled (sym log_result) (settled_beside d (both_there (Some log_bare) lock) with_log log_beside (subst (IsSound d) (sym log_users) sound))) log_unopposed ∙ ap (λ e. Ok (e, 0)) log_result

key_free : (c : Catalogue) (log : Option Table) → IsBeside Postgresql (both_there log None) c → ((n : Name) → list_any (λ (e : Name × Table). is_in n (names_inside e)) (both_there log None) ≡ false) → list_any (λ n. is_taken Postgresql n (users c)) (own_names Postgresql) ≡ false → is_in (lock_key_name Postgresql) (shared_names c) ≡ false
unfolding log_table lock_table lock_key_name
key_free c log so inner free =
    let key = lock_key_name Postgresql in
    let key_is : is_taken Postgresql key (users c) ≡ false = or_left _ _ (or_right (is_taken Postgresql lock_table (users c)) _ (or_right (is_taken Postgresql log_table (users c)) _ free)) in
    let objects = or_left _ _ (sym (any-append (is_named key) (object_names (users c)) (flat_map names_inside (users c).tables)) ∙ key_is) in
    let keys = or_left _ _ (sym (any-append (is_named key) (map (λ (e : Name × Table). e.0) (users c).tables) (map (λ e. e.0) c.views ++ map (λ e. e.0) c.sequences)) ∙ objects) in
    free_in Postgresql (both_there log None) c so key (none_is (table_of c key) (ap is_some (sym (table_same c key refl)) ∙ sym (found key (users c).tables) ∙ keys)) (inner key) key_is where
      none_is : (o : Option Table) → is_some o ≡ false → is_none o ≡ true
      none_is None h = refl
      none_is (Some it) h = sym h

lock_clash : (d : Dialect) (c : Catalogue) (log : Option Table) → IsBeside d (both_there log None) c → ((n : Name) → list_any (λ (e : Name × Table). is_in n (names_inside e)) (both_there log None) ≡ false) → list_any (λ n. is_taken d n (users c)) (own_names d) ≡ false
    → (are_clashing d lock_table (lock_bare d) c || (takes_lock_key Program d (lock_table ∷ placed lock_table (inner_names (lock_bare d))) || lists_twice (lock_bare d))) ≡ false
unfolding lock_table lock_column lock_order lock_key_name
lock_clash Postgresql c log so inner free = or_false _ _ (or_false _ _ refl (or_false _ _ (or_false _ _ refl (key_free c log so inner free)) refl)) refl
lock_clash Mysql c log so inner free = refl

module _ (d : Dialect) (c : Catalogue) (log : Option Table) (so : IsBeside d (both_there log None) c) (sound : IsSound d (users c))
    (log_inner : (n : Name) → list_any (λ (e : Name × Table). is_in n (names_inside e)) (both_there log None) ≡ false) (free : list_any (λ n. is_taken d n (users c)) (own_names d) ≡ false) where
  abbrev pub with_lock : Catalogue
  with_lock = with_new c lock_table (lock_bare d)

  log_harmless_there : list_all (λ e. is_harmless d e.1) (both_there log None) ≡ true
  log_harmless_there = so.harmless

  lock_bare_harmless : (f : Dialect) → is_harmless f (lock_bare f) ≡ true
  unfolding lock_column lock_order lock_key_name
  lock_bare_harmless Postgresql = refl
  lock_bare_harmless Mysql = refl

  with_both : (o : Option Table) → list_all (λ e. is_harmless d e.1) (both_there o None) ≡ true → list_all (λ e. is_harmless d e.1) (both_there o (Some (lock_bare d))) ≡ true
  with_both None h = and_true _ _ (lock_bare_harmless d) refl
  with_both (Some it) h = and_true _ _ (or_first h) (and_true _ _ (lock_bare_harmless d) refl) where
    or_first : (is_harmless d it && true) ≡ true → is_harmless d it ≡ true
    or_first k = and_left _ _ k

  pub lock_beside : IsBeside d (both_there log (Some (lock_bare d))) with_lock
  unfolding log_table lock_table
  lock_beside = new_tracker d (both_there log None) c so lock_table (lock_bare d) lock_tracker log (Some (lock_bare d))
      (lookup-insert_entry c.tables lock_table (lock_bare d) log_table ∙ log_same d log None c so)
      (lookup-insert_entry c.tables lock_table (lock_bare d) lock_table)
      (with_both log so.harmless) refl

  pub lock_users : users with_lock ≡ users c
  lock_users = users_kept d (both_there log None) c so lock_table (lock_bare d) lock_tracker

  table_free : (f : Dialect) → list_any (λ n. is_taken f n (users c)) (own_names f) ≡ false → is_taken f lock_table (users c) ≡ false
  table_free Postgresql h = or_left (is_taken Postgresql lock_table (users c)) _ (or_right (is_taken Postgresql log_table (users c)) _ h)
  table_free Mysql h = or_left (is_taken Mysql lock_table (users c)) _ (or_right (is_taken Mysql log_table (users c)) _ h)

  lock_free : is_taken d lock_table c ≡ false
  lock_free = free_in d (both_there log None) c so lock_table (ap is_none (lock_same d log None c so)) (log_inner lock_table) (table_free d free)

  lock_plan : Plan
  lock_plan = create_table Program d lock_table (map lock_column lock_order) (Some (lock_key d)) [] [] c

  lock_result : lock_plan.result ≡ with_lock
  unfolding lock_plan lock_column lock_order
  lock_result = refl

  lock_unopposed : IsFree lock_plan
  unfolding lock_plan lock_column lock_order into_kind
  lock_unopposed = record { reserved = refl; missing = refl; exists = or_false _ _ lock_free (lock_clash d c log so log_inner free); depends = refl; wrong = refl; wide = refl }

  pub lock_run : step Program d (lock_made d) c ≡ Ok (with_lock, 0)
  unfolding lock_plan
  lock_run = settles lock_plan (subst IsSettled (sym lock_result) (settled_beside d (both_there log (Some (lock_bare d))) with_lock lock_beside (subst (IsSound d) (sym lock_users) sound))) lock_unopposed ∙ ap (λ e. Ok (e, 0)) lock_result
