-- What the users have apart from the tracking tables may be made by them.
use Rattle.std.proofs.Common.{ap, sym, ◌∙◌}
use Rattle.std.specs.List.{AllByRecursion, flat_map, list_any}
use Rattle.std.specs.Prelude.{Bool, List, None, Option, Some, [], false, map, not, refl, true, ℕ, ◌&&◌, ◌++◌, ◌||◌, ◌∷◌, ◌≡◌}
use Rattle.lq_base.specs.Name.{beside, is_named}
use Rattle.lq_base.specs.declared.dialect.Dialect.{Dialect}
use Rattle.lq_base.specs.declared.dialect.Dialect.TheVariants.{Mysql, Postgresql}
use Rattle.lq_base.specs.declared.name.Name.{Name}
use Rattle.lq_model.proofs.Lists.{and_left, and_right, any-append, any-map, append-nil, or_false, or_left, or_right}
use Rattle.lq_model.specs.Catalogue.{Catalogue, Sequence, Table, View, is_in, constraint_names, foreign_names, inner_names, key_list, placed}
use Rattle.lq_model.specs.NameSpaces.{names_inside, object_names, shared_names, is_reserved, is_tracking, lock_key, takes_lock_key}
use Rattle.lq_model.specs.declared.caller.By.TheVariants.{User}
use Rattle.lq_model.specs.declared.column.Column.{Column}
use Rattle.lq_model.specs.declared.constraint.ForeignKey.{ForeignKey}
use Rattle.lq_model.specs.declared.constraint.Key.{Key}
use Rattle.lq_model.specs.declared.constraint.Unique.{Unique}
use Rattle.lq_model.specs.declared.index.Index.{Index}
use Rattle.lq_store.specs.Journal.{is_apart, names_tracking, names_within, takes_key}
use Rattle.laws_made.specs.CreatedAs.{IsWritten}
use Rattle.laws_stages.proofs.Foreign.{in_any}
use Rattle.laws_made.proofs.Joined.{IsFreeTable}
use Rattle.laws_stages.proofs.Stages.{bare, tables_inner}
use Rattle.laws_stages.proofs.StageSound.{of_own}
use Rattle.laws_made.proofs.Whole.{IsSpelled, MayMake}
use Rattle.laws_stages.specs.Making.{AreFree, IsFreeName, own_key}

not_so : (b : Bool) → not b ≡ true → b ≡ false
not_so true h = absurd Prim.cc
not_so false h = refl

-- one in its place among the names
out : {A : Type 0} (p : Name → Bool) (f : A → Name) (all xs : List A) (x : A) (more : List A) → all ≡ xs ++ x ∷ more → list_any p (map f all) ≡ false → p (f x) ≡ false
out p f all xs x more is h = in_any (λ y. p (f y)) xs x more (ap (list_any (λ y. p (f y))) (sym is) ∙ sym (any-map p f all) ∙ h)

left : (p : Name → Bool) (xs ys : List Name) → list_any p (xs ++ ys) ≡ false → list_any p xs ≡ false
left p xs ys h = or_left (list_any p xs) (list_any p ys) (sym (any-append p xs ys) ∙ h)

right : (p : Name → Bool) (xs ys : List Name) → list_any p (xs ++ ys) ≡ false → list_any p ys ≡ false
right p xs ys h = or_right (list_any p xs) (list_any p ys) (sym (any-append p xs ys) ∙ h)

-- the names of the things in a table, one by one
module _ (p : Name → Bool) (it : Table) (h : list_any p (inner_names it) ≡ false) where
  keys_out : list_any p (map (λ (k : Key). k.name) (key_list it.key)) ≡ false
  keys_out = left p (map (λ (k : Key). k.name) (key_list it.key)) _ h

  key_out : (k : Key) → it.key ≡ Some k → p k.name ≡ false
  key_out k has = or_left (p k.name) _ (ap (λ key. list_any p (map (λ (k : Key). k.name) (key_list key))) (sym has) ∙ keys_out)

  others_out : list_any p (map (λ (u : Unique). u.name) it.uniques ++ map (λ (i : Index). i.name) it.indexes) ≡ false
  others_out = right p (map (λ (k : Key). k.name) (key_list it.key)) _ h

  unique_out : (us : List Unique) (u : Unique) (rest : List Unique) → it.uniques ≡ us ++ u ∷ rest → p u.name ≡ false
  unique_out us u rest is = out p (λ (u : Unique). u.name) it.uniques us u rest is (left p (map (λ (u : Unique). u.name) it.uniques) _ others_out)

  index_out : (xs : List Index) (x : Index) (rest : List Index) → it.indexes ≡ xs ++ x ∷ rest → p x.name ≡ false
  index_out xs x rest is = out p (λ (i : Index). i.name) it.indexes xs x rest is (right p (map (λ (u : Unique). u.name) it.uniques) _ others_out)

  own_out : list_any p (map (λ (k : Key). k.name) (key_list (own_key it)) ++ ([] ++ [])) ≡ false
  own_out = of_own (λ key. list_any p (map (λ (k : Key). k.name) (key_list key) ++ ([] ++ [])) ≡ false) it refl (ap (list_any p) (append-nil (map (λ (k : Key). k.name) (key_list it.key))) ∙ keys_out)

module _ (d : Dialect) (c : Catalogue) (apart : is_apart d c ≡ true) where
  untracked : names_tracking c ≡ false
  untracked = not_so _ (and_left (not (names_tracking c)) _ apart)

  unlocked : takes_key d c ≡ false
  unlocked = not_so _ (and_right (not (names_tracking c)) _ apart)

  objects : list_any is_tracking (object_names c) ≡ false
  objects = or_left (list_any is_tracking (object_names c)) _ untracked

  within : list_any (λ (x : Name × Table). list_any is_tracking (names_within x.1)) c.tables ≡ false
  within = or_left (list_any (λ (x : Name × Table). list_any is_tracking (names_within x.1)) c.tables) _ (or_right (list_any is_tracking (object_names c)) _ untracked)

  queried : list_any (λ (x : Name × View). is_tracking x.1.query.table) c.views ≡ false
  queried = or_right (list_any (λ (x : Name × Table). list_any is_tracking (names_within x.1)) c.tables) _ (or_right (list_any is_tracking (object_names c)) _ untracked)

  -- the names of tables, views and sequences

  table_names : (p : Name → Bool) → list_any p (object_names c) ≡ false → list_any p (map (λ (x : Name × Table). x.0) c.tables) ≡ false
  table_names p h = left p (map (λ (x : Name × Table). x.0) c.tables) _ h

  rest_names : (p : Name → Bool) → list_any p (object_names c) ≡ false → list_any p (map (λ (x : Name × View). x.0) c.views ++ map (λ (x : Name × Sequence). x.0) c.sequences) ≡ false
  rest_names p h = right p (map (λ (x : Name × Table). x.0) c.tables) _ h

  -- under PostgreSQL none is the lock's key

  abbrev lock : Name → Bool
  lock n = is_named lock_key n

  in_flat : (es : List (Name × Table)) (e : Name × Table) (more : List (Name × Table)) → list_any lock (tables_inner (es ++ e ∷ more)) ≡ false → list_any lock (names_inside e) ≡ false
  in_flat [] e more h = left lock (names_inside e) _ h
  in_flat (x ∷ es) e more h = in_flat es e more (right lock (names_inside x) (tables_inner (es ++ e ∷ more)) h)

  lock_inner : (e : Dialect) → takes_key e c ≡ false → (done : List (Name × Table)) (x : Name × Table) (more : List (Name × Table)) → c.tables ≡ done ++ x ∷ more → e ≡ Postgresql → list_any lock (names_inside x) ≡ false
  lock_inner Postgresql h done x more is pg = in_flat done x more (ap (λ ts. list_any lock (tables_inner ts)) (sym is) ∙ right lock (object_names c) (tables_inner c.tables) h)
  lock_inner Mysql h done x more is pg = absurd Prim.cc

  lock_objects : (e : Dialect) → takes_key e c ≡ false → e ≡ Postgresql → list_any lock (object_names c) ≡ false
  lock_objects Postgresql h pg = left lock (object_names c) (tables_inner c.tables) h
  lock_objects Mysql h pg = absurd Prim.cc

  -- what is not the lock's key where that counts
  unlocked_name : (n : Name) → (d ≡ Postgresql → lock n ≡ false) → takes_lock_key User d (n ∷ []) ≡ false
  unlocked_name n h = by d refl where
    by : (e : Dialect) → d ≡ e → takes_lock_key User e (n ∷ []) ≡ false
    by Postgresql is = or_false _ _ (h is) refl
    by Mysql is = refl

  unlocked_names : (ns : List Name) → (d ≡ Postgresql → list_any lock ns ≡ false) → takes_lock_key User d ns ≡ false
  unlocked_names ns h = by d refl where
    by : (e : Dialect) → d ≡ e → takes_lock_key User e ns ≡ false
    by Postgresql is = h is
    by Mysql is = refl

  module _ (done : List (Name × Table)) (x : Name × Table) (more : List (Name × Table)) (is : c.tables ≡ done ++ x ∷ more) where
    named : is_tracking x.0 ≡ false
    named = out is_tracking (λ (x : Name × Table). x.0) c.tables done x more is (table_names is_tracking objects)

    inside : list_any is_tracking (names_within x.1) ≡ false
    inside = in_any (λ (x : Name × Table). list_any is_tracking (names_within x.1)) done x more (ap (list_any (λ (x : Name × Table). list_any is_tracking (names_within x.1))) (sym is) ∙ within)

    inner : list_any is_tracking (inner_names x.1) ≡ false
    inner = left is_tracking (inner_names x.1) _ inside

    aims_out : list_any is_tracking (foreign_names x.1 ++ map (λ (f : ForeignKey). f.table) x.1.foreign) ≡ false
    aims_out = right is_tracking (inner_names x.1) _ inside

    -- whether what is inside the table counts as the lock's key
    abbrev lock_at : Name → Bool
    lock_at n = lock (beside x.0 n)

    inner_unlocked : d ≡ Postgresql → list_any lock_at (inner_names x.1) ≡ false
    inner_unlocked pg = sym (any-map lock (beside x.0) (inner_names x.1)) ∙ lock_inner d unlocked done x more is pg

    pair_free : (n : Name) → is_tracking n ≡ false → is_reserved User (x.0 ∷ n ∷ []) ≡ false
    pair_free n h = or_false _ _ named (or_false _ _ h refl)

    pub table_free : AllByRecursion (λ (c : Column). IsWritten c.default) x.1.columns → IsFreeTable d x
    table_free written = record {
      reserved = or_false _ _ named (ap (list_any is_tracking) (append-nil (constraint_names (bare x.1))) ∙ own_out is_tracking x.1 inner);
      lock = unlocked_names (x.0 ∷ placed x.0 (inner_names (bare x.1))) (λ pg. or_false _ _ (out lock (λ (x : Name × Table). x.0) c.tables done x more is (table_names lock (lock_objects d unlocked pg))) (any-map lock (beside x.0) (inner_names (bare x.1)) ∙ own_out lock_at x.1 (inner_unlocked pg)));
      written = written;
    }

    pub things_free : AreFree d x
    things_free = record {
      key = λ k has. (pair_free k.name (key_out is_tracking x.1 inner k has), unlocked_name (beside x.0 k.name) (λ pg. key_out lock_at x.1 (inner_unlocked pg) k has));
      uniques = λ us u rest has. (pair_free u.name (unique_out is_tracking x.1 inner us u rest has), unlocked_name (beside x.0 u.name) (λ pg. unique_out lock_at x.1 (inner_unlocked pg) us u rest has));
      indexes = λ xs i rest has. (pair_free i.name (index_out is_tracking x.1 inner xs i rest has), unlocked_name (beside x.0 i.name) (λ pg. index_out lock_at x.1 (inner_unlocked pg) xs i rest has));
      foreign = λ fs f rest has. or_false _ _ named (or_false _ _ (out is_tracking (λ (f : ForeignKey). f.name) x.1.foreign fs f rest has (left is_tracking (foreign_names x.1) _ aims_out))
          (or_false _ _ (out is_tracking (λ (f : ForeignKey). f.table) x.1.foreign fs f rest has (right is_tracking (foreign_names x.1) _ aims_out)) refl));
    }

  pub may_make : ((done : List (Name × Table)) (x : Name × Table) (more : List (Name × Table)) → c.tables ≡ done ++ x ∷ more → AllByRecursion (λ (c : Column). IsWritten c.default) x.1.columns) → AllByRecursion (IsSpelled d) c.views → MayMake d c
  may_make written spelled = record {
    sequences = λ ss s more is. (
      or_false _ _ (out is_tracking (λ (x : Name × Sequence). x.0) c.sequences ss s more is (right is_tracking (map (λ (x : Name × View). x.0) c.views) _ (rest_names is_tracking objects))) refl,
      unlocked_name s.0 (λ pg. out lock (λ (x : Name × Sequence). x.0) c.sequences ss s more is (right lock (map (λ (x : Name × View). x.0) c.views) _ (rest_names lock (lock_objects d unlocked pg)))),
    );
    tables = λ done x more is. table_free done x more is (written done x more is);
    others = things_free;
    views = λ vs v more is. (
      or_false _ _ (out is_tracking (λ (x : Name × View). x.0) c.views vs v more is (left is_tracking (map (λ (x : Name × View). x.0) c.views) _ (rest_names is_tracking objects)))
          (or_false _ _ (in_any (λ (x : Name × View). is_tracking x.1.query.table) vs v more (ap (list_any (λ (x : Name × View). is_tracking x.1.query.table)) (sym is) ∙ queried)) refl),
      unlocked_name v.0 (λ pg. out lock (λ (x : Name × View). x.0) c.views vs v more is (left lock (map (λ (x : Name × View). x.0) c.views) _ (rest_names lock (lock_objects d unlocked pg)))),
    );
    spelled = spelled;
  }
