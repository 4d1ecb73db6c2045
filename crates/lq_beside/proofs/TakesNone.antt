-- A user's statement takes no name of the tracking tables: it would be taken, where both of them stood beside.
use Rattle.std.proofs.Common.{ap, arith, subst, sym, ◌∙◌}
use Rattle.std.specs.List.{filter, flat_map, list_any}
use Rattle.std.specs.Prelude.{Bool, Err, List, None, Ok, Result, Some, [], cond, false, is_some, map, not, refl, true, ℕ, ◌+◌, ◌++◌, ◌||◌, ◌∷◌, ◌≡◌, ◌≤◌}
use Rattle.lq_base.specs.Name.{is_named}
use Rattle.lq_base.specs.declared.dialect.Dialect.{Dialect}
use Rattle.lq_base.specs.declared.dialect.Dialect.TheVariants.{Mysql, Postgresql}
use Rattle.lq_base.specs.declared.name.Name.{Name}
use Rattle.lq_base.specs.declared.reason.Reason.{Reason}
use Rattle.lq_model.proofs.KeepsSound.{statement_keeps}
use Rattle.lq_model.proofs.Lists.{any-append, any_less, or_false, or_left, or_right}
use Rattle.lq_model.proofs.Maps.{found, none_if, sorted_entries}
use Rattle.lq_model.proofs.Times.{apart_right, none_times, times-append, times_some}
use Rattle.lq_model.specs.Catalogue.{Catalogue, Table, table_of, is_in, times}
use Rattle.lq_model.specs.NameSpaces.{AreApart, is_taken, names_inside, object_names}
use Rattle.lq_model.specs.Plan.{misses_target}
use Rattle.lq_model.specs.Sound.{IsSound}
use Rattle.lq_model.specs.declared.constraint.ForeignKey.{ForeignKey}
use Rattle.lq_model.specs.Step.{is_statement, step}
use Rattle.lq_model.specs.declared.caller.By.TheVariants.{Program, User}
use Rattle.lq_model.specs.declared.statement.Statement.{Statement}
use Rattle.lq_track.specs.Lock.{free, lock_column, lock_key_name, lock_order, lock_table}
use Rattle.lq_track.specs.Log.{log_column, log_order, log_table}
use Rattle.lq_track.specs.Statements.{lock_made, log_made}
use Rattle.lq_turns.specs.Schedule.{own_names}
use Rattle.lq_beside.specs.Beside.{IsBeside, SameAnswer, is_tracker, is_users, only, targets_tracker, trackers, users}
use Rattle.lq_beside.proofs.Made.{lock_bare, lock_beside, lock_run, lock_users, log_bare, log_beside, log_run, log_users, with_lock, with_log}
use Rattle.lq_beside.proofs.Parts.{lookup_only}
use Rattle.lq_beside.proofs.Stands.{both_there, not_missed, trackers_are}
use Rattle.lq_beside.proofs.Tell.{TakesNone, lock_same, log_same}
use Rattle.lq_beside.proofs.Tests.{not_users}
use Rattle.lq_beside.proofs.Words.{object_same}
use Rattle.lq_beside.proofs.Users.{users_beside}

ok_same : {A : Type 0} {x y : A} → (let r : Result A Reason = Ok x in r) ≡ Ok y → x ≡ y
ok_same e = Prim.cc

not_ok : {A : Type 0} {r : Reason} {y : A} → (let z : Result A Reason = Err r in z) ≡ Ok y → ⊥
not_ok e = Prim.cc

-- in a sound catalogue with both tables their names are taken once, and so by no object of the users

apart_left : (n : Name) (xs ys : List Name) → times n (xs ++ ys) ≤ 1 → is_in n ys ≡ true → is_in n xs ≡ false
apart_left n xs ys few there = none_times n xs (omega (arith, times-append n xs ys, few, times_some n ys there))

-- what is taken by entries, as what is taken by those that pass a test and by the others
parts_times : (r : Name → Bool) (n : Name) (es : List (Name × Table)) → times n (flat_map names_inside es) ≡ times n (flat_map names_inside (only r es)) + times n (flat_map names_inside (only (λ k. not (r k)) es))
parts_times r n [] = refl
parts_times r n (e ∷ es) = elim (r e.0) as (λ b. times n (names_inside e ++ flat_map names_inside es) ≡ times n (flat_map names_inside (cond b (e ∷ only r es) (only r es))) + times n (flat_map names_inside (cond (not b) (e ∷ only (λ k. not (r k)) es) (only (λ k. not (r k)) es)))) [
  | true ↦ omega (arith, times-append n (names_inside e) (flat_map names_inside es), times-append n (names_inside e) (flat_map names_inside (only r es)), parts_times r n es)
  | false ↦ omega (arith, times-append n (names_inside e) (flat_map names_inside es), times-append n (names_inside e) (flat_map names_inside (only (λ k. not (r k)) es)), parts_times r n es)
]

no_key : (c : Catalogue) (n : Name) → is_tracker n ≡ true → is_in n (map (λ (e : Name × Table). e.0) (users c).tables) ≡ false
no_key c n is = found n (users c).tables ∙ ap is_some (lookup_only is_users c.tables n ∙ ap (λ b. cond (not b) (table_of c n) None) is)

abbrev other_objects : Catalogue → List Name
other_objects c = map (λ e. e.0) c.views ++ map (λ e. e.0) c.sequences

abbrev keys : Catalogue → List Name
keys c = map (λ (e : Name × Table). e.0) c.tables

abbrev inners : List (Name × Table) → List Name
inners es = flat_map names_inside es

module _ (c : Catalogue) (n : Name) (is : is_tracker n ≡ true) (there : is_in n (keys c) ≡ true) where
  objects_free : times n (object_names c) ≤ 1 → is_in n (object_names (users c)) ≡ false
  objects_free few = any-append (is_named n) (keys (users c)) (other_objects c) ∙ or_false _ _ (no_key c n is) (apart_right n (keys c) (other_objects c) few there)

  object_there : is_in n (object_names c) ≡ true
  object_there = any-append (is_named n) (keys c) (other_objects c) ∙ ap (λ b. b || is_in n (other_objects c)) there

  table_name_free : (d : Dialect) → AreApart d c → is_taken d n (users c) ≡ false
  table_name_free Mysql apart = objects_free (apart.0 n)
  table_name_free Postgresql apart =
      let few = apart n in
      any-append (is_named n) (object_names (users c)) (inners (users c).tables)
      ∙ or_false _ _ (objects_free (omega (arith, times-append n (object_names c) (inners c.tables), few)))
      (none_times n (inners (users c).tables) (omega (arith, times-append n (object_names c) (inners c.tables), few, times_some n (object_names c) object_there, parts_times is_users n c.tables)))

abbrev key : Name
key = lock_key_name Postgresql

one_key : times key (inners (both_there (Some log_bare) (Some (lock_bare Postgresql)))) ≡ 1
unfolding lock_key_name lock_table
one_key = refl

key_is_free : is_tracker key ≡ false
unfolding log_table lock_table lock_key_name
key_is_free = refl

module _ (c : Catalogue) (so : IsBeside Postgresql (both_there (Some log_bare) (Some (lock_bare Postgresql))) c) where
  key_count : times key (inners c.tables) ≡ times key (inners (users c).tables) + 1
  key_count = parts_times is_users key c.tables ∙ ap (λ es. times key (inners (users c).tables) + times key (inners es)) (not_users c.tables ∙ so.are) ∙ ap (λ n. times key (inners (users c).tables) + n) one_key

  key_name_free : AreApart Postgresql c → is_taken Postgresql key (users c) ≡ false
  key_name_free apart =
      let few = apart key in
      let split = times-append key (object_names c) (inners c.tables) in
      any-append (is_named key) (object_names (users c)) (inners (users c).tables)
      ∙ or_false _ _ (object_same Postgresql _ c so key key_is_free ∙ none_times key (object_names c) (omega (arith, split, few, key_count)))
      (none_times key (inners (users c).tables) (omega (arith, split, few, key_count)))

key_there : (c : Catalogue) (n : Name) (it : Table) → table_of c n ≡ Some it → is_in n (keys c) ≡ true
key_there c n it is = found n c.tables ∙ ap is_some is

pub log_tracker : is_tracker log_table ≡ true
unfolding log_table
log_tracker = refl

pub lock_tracker : is_tracker lock_table ≡ true
unfolding log_table lock_table
lock_tracker = refl

names_free : (d : Dialect) (c : Catalogue) → IsBeside d (both_there (Some log_bare) (Some (lock_bare d))) c → AreApart d c → list_any (λ m. is_taken d m (users c)) (own_names d) ≡ false
names_free Postgresql c so apart = or_false _ _ (table_name_free c log_table log_tracker (key_there c log_table log_bare (log_same Postgresql (Some log_bare) (Some (lock_bare Postgresql)) c so)) Postgresql apart)
    (or_false _ _ (table_name_free c lock_table lock_tracker (key_there c lock_table (lock_bare Postgresql) (lock_same Postgresql (Some log_bare) (Some (lock_bare Postgresql)) c so)) Postgresql apart) (or_false _ _ (key_name_free c so apart) refl))
names_free Mysql c so apart = or_false _ _ (table_name_free c log_table log_tracker (key_there c log_table log_bare (log_same Mysql (Some log_bare) (Some (lock_bare Mysql)) c so)) Mysql apart)
    (or_false _ _ (table_name_free c lock_table lock_tracker (key_there c lock_table (lock_bare Mysql) (lock_same Mysql (Some log_bare) (Some (lock_bare Mysql)) c so)) Mysql apart) refl)

-- the users' objects alone, with neither table

some_list : {A : Type 0} (y : A) (ys : List A) → y ∷ ys ≡ [] → ⊥
some_list y ys e = Prim.cc

kept_all : {A : Type 0} (p : A → Bool) (xs : List A) → filter p xs ≡ [] → filter (λ x. not (p x)) xs ≡ xs
kept_all p [] h = refl
kept_all p (x ∷ xs) h = elim (p x) as (λ b. cond b (x ∷ filter p xs) (filter p xs) ≡ [] → cond (not b) (x ∷ filter (λ y. not (p y)) xs) (filter (λ y. not (p y)) xs) ≡ x ∷ xs) [
  | true ↦ λ q. absurd (some_list x (filter p xs) q)
  | false ↦ λ q. ap (λ ys. x ∷ ys) (kept_all p xs q)
] h

absent : (d : Dialect) (u : Catalogue) (n : Name) → is_taken d n u ≡ false → table_of u n ≡ None
absent d u n free = none_if (table_of u n) (sym (found n u.tables) ∙ or_left _ _ (sym (any-append (is_named n) (keys u) (other_objects u)) ∙ objects d free)) where
  objects : (f : Dialect) → is_taken f n u ≡ false → is_in n (object_names u) ≡ false
  objects Mysql h = h
  objects Postgresql h = or_left _ _ (sym (any-append (is_named n) (object_names u) (inners u.tables)) ∙ h)

pub log_free : (d : Dialect) (u : Catalogue) → list_any (λ m. is_taken d m u) (own_names d) ≡ false → is_taken d log_table u ≡ false
log_free Postgresql u h = or_left _ _ h
log_free Mysql u h = or_left _ _ h

lock_free : (d : Dialect) (u : Catalogue) → list_any (λ m. is_taken d m u) (own_names d) ≡ false → is_taken d lock_table u ≡ false
lock_free Postgresql u h = or_left (is_taken Postgresql lock_table u) _ (or_right (is_taken Postgresql log_table u) _ h)
lock_free Mysql u h = or_left (is_taken Mysql lock_table u) _ (or_right (is_taken Mysql log_table u) _ h)

module _ (d : Dialect) (u : Catalogue) (sound : IsSound d u) (names : list_any (λ m. is_taken d m u) (own_names d) ≡ false) where
  no_trackers : trackers u ≡ []
  no_trackers = trackers_are u.tables (sorted_entries u.tables sound.ordered)
      ∙ ap (λ x. both_there x (table_of u lock_table)) (absent d u log_table (log_free d u names)) ∙ ap (both_there None) (absent d u lock_table (lock_free d u names))

  pub all_users' : users u ≡ u
  all_users' = ap (λ es. record u { tables = es }) (kept_all (λ (e : Name × Table). is_tracker e.0) u.tables no_trackers)

  Alone : IsBeside d (both_there None None) u
  Alone = record {
    ordered = sorted_entries u.tables sound.ordered;
    are = no_trackers;
    harmless = refl;
    aimed = any_less (λ e. targets_tracker e.1) (λ e. list_any (misses_target u) e.1.foreign) u.tables
        (λ e none. any_less (λ (f : ForeignKey). is_tracker f.table) (misses_target u) e.1.foreign (λ f hits. not_missed u f (ap (λ v. misses_target v f) all_users' ∙ hits)) none) sound.aimed;
  }

  sound_users : IsSound d (users u)
  sound_users = subst (IsSound d) (sym all_users') sound

  free_users : list_any (λ m. is_taken d m (users u)) (own_names d) ≡ false
  free_users = ap (λ v. list_any (λ m. is_taken d m v) (own_names d)) all_users' ∙ names

  abbrev one : Catalogue
  one = with_log d u None free Alone sound_users refl (log_free d (users u) free_users)

  one_beside : IsBeside d (both_there (Some log_bare) None) one
  one_beside = log_beside d u None free Alone sound_users refl (log_free d (users u) free_users)

  one_users : users one ≡ users u
  one_users = log_users d u None free Alone sound_users refl (log_free d (users u) free_users)

  stated_log : (f : Dialect) → is_statement f log_made ≡ true
  unfolding log_table log_column log_order
  stated_log Postgresql = refl
  stated_log Mysql = refl

  stated_lock : (f : Dialect) → is_statement f (lock_made f) ≡ true
  unfolding lock_table lock_column lock_order lock_key_name
  stated_lock Postgresql = refl
  stated_lock Mysql = refl

  one_sound : IsSound d one
  one_sound = statement_keeps d log_made Program u one 0 (stated_log d) sound (log_run d u None free Alone sound_users refl (log_free d (users u) free_users))

  free_one : list_any (λ m. is_taken d m (users one)) (own_names d) ≡ false
  free_one = ap (λ v. list_any (λ m. is_taken d m v) (own_names d)) one_users ∙ free_users

  abbrev two : Catalogue
  two = with_lock d one (Some log_bare) one_beside (subst (IsSound d) (sym one_users) sound_users) (λ n. refl) free_one

  two_beside : IsBeside d (both_there (Some log_bare) (Some (lock_bare d))) two
  two_beside = lock_beside d one (Some log_bare) one_beside (subst (IsSound d) (sym one_users) sound_users) (λ n. refl) free_one

  two_users : users two ≡ u
  two_users = lock_users d one (Some log_bare) one_beside (subst (IsSound d) (sym one_users) sound_users) (λ n. refl) free_one ∙ one_users ∙ all_users'

  two_sound : IsSound d two
  two_sound = statement_keeps d (lock_made d) Program one two 0 (stated_lock d) one_sound (lock_run d one (Some log_bare) one_beside (subst (IsSound d) (sym one_users) sound_users) (λ n. refl) free_one)

  module _ (s : Statement) (fit : is_statement d s ≡ true) where
    by : (a b : Result (Catalogue × ℕ) Reason) (v : Catalogue) (n : ℕ) → step User d s two ≡ b → a ≡ Ok (v, n) → SameAnswer d (both_there (Some log_bare) (Some (lock_bare d))) a b → list_any (λ m. is_taken d m v) (own_names d) ≡ false
    by (Ok a) (Ok b) v n made is same = ap (λ w. list_any (λ m. is_taken d m w) (own_names d)) (sym (ap (λ (x : Catalogue × ℕ). x.0) (ok_same is)) ∙ same.0)
        ∙ names_free d b.0 same.2 (statement_keeps d s User two b.0 b.1 fit two_sound made).apart
    by (Err r) b v n made is same = absurd (not_ok is)
    by (Ok a) (Err r) v n made is same = absurd same

pub takes_none : (d : Dialect) → TakesNone d
takes_none d s u v n fit sound names made = by d u sound names s fit (step User d s u) (step User d s (two d u sound names)) v n refl made
    (subst (λ w. SameAnswer d (both_there (Some log_bare) (Some (lock_bare d))) (step User d s w) (step User d s (two d u sound names))) (two_users d u sound names)
    (users_beside d s (both_there (Some log_bare) (Some (lock_bare d))) (two d u sound names) (two_beside d u sound names)))
