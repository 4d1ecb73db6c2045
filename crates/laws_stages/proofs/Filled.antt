-- What a table gets after it is made is accepted, one thing after another: its key, its unique constraints, its indexes, its foreign keys.
use Rattle.std.proofs.Common.{ap, arith, subst, sym, ◌∙◌}
use Rattle.std.specs.List.{AllByRecursion, flat_map, list_all, list_any}
use Rattle.std.specs.List.Sorted.{IsStrictlySortedBy}
use Rattle.std.specs.Map.{keys_of}
use Rattle.std.specs.Prelude.{Bool, List, None, Ok, Option, Some, [], cond, false, is_none, is_some, map, not, refl, true, ℕ, ◌&&◌, ◌+◌, ◌++◌, ◌||◌, ◌∷◌, ◌≡◌, ◌≤◌}
use Rattle.lq_base.specs.Name.{beside, is_named, name_cmp}
use Rattle.lq_base.specs.declared.dialect.Dialect.{Dialect}
use Rattle.lq_base.specs.declared.dialect.Dialect.TheVariants.{Mysql, Postgresql}
use Rattle.lq_base.specs.declared.name.Name.{Name}
use Rattle.lq_model.proofs.Counts.{once}
use Rattle.lq_model.proofs.Decide.{IsFree, IsSettled, settles}
use Rattle.lq_model.proofs.Lists.{all-append_left, all-append_right, and_left, and_right, any-append, named_itself, or_false}
use Rattle.lq_model.proofs.NameCounts.{constraint_sum, foreign_at, index_sum, indexes_at, inner_sum, keys_at, last_count, uniques_at}
use Rattle.lq_model.proofs.Places.{times_beside}
use Rattle.lq_model.proofs.Times.{none_times, times-append}
use Rattle.lq_model.specs.Constraints.{add_foreign_key, add_primary_key, add_unique, create_index, with_foreign, with_index, with_key, with_unique}
use Rattle.lq_model.specs.Catalogue.{Catalogue, Table, table_of, the_table, with_table, is_empty, is_in, repeats, times, column_lists, column_missing, constraint_names, has_column, index_names, inner_names, key_list, placed, target_lists}
use Rattle.lq_model.specs.Tables.{key_column}
use Rattle.lq_model.specs.NameSpaces.{AreApart, AreApartWithin, all_foreign_names, index_taken, key_taken, shared_names, unique_taken, is_reserved, takes_lock_key}
use Rattle.lq_model.specs.Plan.{Plan, decide, is_loose, misses_target}
use Rattle.lq_model.specs.Sound.{IsSound, IsSoundTable, are_columns, is_not_null}
use Rattle.lq_model.specs.Step.{step}
use Rattle.lq_model.specs.declared.caller.By.TheVariants.{User}
use Rattle.lq_model.specs.declared.constraint.ForeignKey.{ForeignKey}
use Rattle.lq_model.specs.declared.constraint.Key.{Key}
use Rattle.lq_model.specs.declared.constraint.Unique.{Unique}
use Rattle.lq_model.specs.declared.index.Index.{Index}
use Rattle.lq_model.specs.declared.statement.Statement.TheVariants.{AddForeignKey, AddPrimaryKey, AddUnique, CreateIndex}
use Rattle.laws_stages.proofs.Accepted.{none_lacks, not_true}
use Rattle.laws_stages.proofs.SameTable.{all_done}
use Rattle.laws_stages.proofs.StageSound.{own_keys}
use Rattle.laws_stages.proofs.Woven.{IsPart, put, shared_woven, the_one, there, whole_there, woven, woven_settled}
use Rattle.laws_stages.specs.Making.{filled, keyed, made, on, own_key}

made_inner : (n : Name) (it : Table) → times n (inner_names (made it)) ≤ times n (inner_names it)
made_inner n it = let a = inner_sum n (made it) in let b = inner_sum n it in let k = own_keys n it in omega (arith, a, b, k)

pub made_part : (it : Table) → IsPart (made it) it
made_part it = record { columns = refl; rows = refl; inner = λ n. made_inner n it; foreign = λ n. omega arith }

pub keyed_part : (it : Table) → IsPart (keyed it) it
keyed_part it = record { columns = refl; rows = refl; inner = λ n. omega arith; foreign = λ n. omega arith }

-- one in the midst of a list

pub middle_fine : {A B : Type 0} (p : B → Bool) (f : A → B) (xs : List A) (x : A) (more : List A) → list_all p (map f (xs ++ x ∷ more)) ≡ true → p (f x) ≡ true
middle_fine p f [] x more h = and_left (p (f x)) _ h
middle_fine p f (y ∷ xs) x more h = middle_fine p f xs x more (and_right (p (f y)) _ h)

pub middle_count : {A : Type 0} (f : A → Name) (n : Name) (xs : List A) (x : A) (more : List A) → times n (map f (xs ++ x ∷ more)) ≡ times n (map f xs) + (once (is_named n (f x)) + times n (map f more))
middle_count f n [] x more = omega arith
middle_count f n (y ∷ xs) x more = let r = middle_count f n xs x more in omega (arith, r)

itself : (n : Name) → once (is_named n n) ≡ 1
itself n = ap once (named_itself n)

-- the columns of a list of a sound table are there, none twice

module _ (it : Table) (ns : List Name) (h : are_columns it ns ≡ true) where
  pub all_there : column_missing it ns ≡ false
  all_there = none_lacks (has_column it) ns (and_right (not (repeats ns)) _ (and_right (not (is_empty ns)) _ h))

  pub none_twice : repeats ns ≡ false
  none_twice = not_true _ (and_left (not (repeats ns)) _ (and_right (not (is_empty ns)) _ h))

-- what leads to a catalogue that passes the tests of results is accepted where nothing else is against it
pub accepted_as : (p : Plan) (after : Catalogue) → p.result ≡ after → IsSettled after → IsFree p → decide p ≡ Ok (after, p.count)
accepted_as p after is settled free = settles p (subst IsSettled (sym is) settled) free ∙ ap (λ x. Ok (x, p.count)) is

-- what has no foreign keys has no loose one
pub loose_none : (g : Catalogue) (F : Table → Table) → ((it : Table) → (F it).foreign ≡ []) → (es : List (Name × Table)) → list_any (λ (x : Name × Table). list_any (misses_target g) x.1.foreign) (map (on F) es) ≡ false
loose_none g F none [] = refl
loose_none g F none (x ∷ es) = or_false _ _ (ap (list_any (misses_target g)) (none x.1)) (loose_none g F none es)

module _ (d : Dialect) (c : Catalogue) (sound : IsSound d c) (done : List (Name × Table)) (e : Name × Table) (more : List (Name × Table)) (is : c.tables ≡ done ++ e ∷ more) where
  -- all tables are there; those before have all but their foreign keys
  abbrev pub weave : Table → Catalogue
  weave p = woven d c done e more is sound.ordered keyed made keyed_part made_part p

  abbrev it : Table
  it = e.1

  fine : IsSoundTable d it
  fine = sound.tables e.0 it (whole_there d c done e more is sound.ordered keyed made keyed_part made_part)

  the : (p : Table) → the_table (weave p) e.0 ≡ p
  the p = the_one d c done e more is sound.ordered keyed made keyed_part made_part p

  here : (p : Table) → is_none (table_of (weave p) e.0) ≡ false
  here p = ap is_none (there d c done e more is sound.ordered keyed made keyed_part made_part p)

  puts : (p q : Table) → with_table (weave p) e.0 q ≡ weave q
  puts p q = put d c done e more is sound.ordered keyed made keyed_part made_part p q

  -- a name inside the table, where it counts
  shared : (n : Name) (p : Table) → times (beside e.0 n) (shared_names (weave p)) + times n (inner_names it) ≤ times (beside e.0 n) (shared_names c) + times n (inner_names p)
  shared n p =
      let s = shared_woven d c done e more is sound.ordered keyed made keyed_part made_part (beside e.0 n) p in
      let a = times_beside e.0 n (inner_names it) in
      let b = times_beside e.0 n (inner_names p) in
      omega (arith, s, a, b)

  aimed : (q : Table) → q.foreign ≡ [] → is_loose (weave q) ≡ false
  aimed q none =
      let test = λ (x : Name × Table). list_any (misses_target (weave q)) x.1.foreign in
      any-append test (map (on keyed) done) ((e.0, q) ∷ map (on made) more)
      ∙ or_false _ _ (loose_none (weave q) keyed (λ it. refl) done) (or_false _ _ (ap (list_any (misses_target (weave q))) none) (loose_none (weave q) made (λ it. refl) more))

  settled_as : (q : Table) → q.rows ≡ [] → q.foreign ≡ [] → IsSettled (weave q)
  settled_as q h none = woven_settled d c done e more is sound.ordered keyed made keyed_part made_part q h (aimed q none)

  -- the lists of columns

  targets_fine : list_all (are_columns it) (target_lists it) ≡ true
  targets_fine = all-append_left (are_columns it) (target_lists it) (map (λ (i : Index). i.columns) it.indexes) fine.lists

  key_fine : (k : Key) → it.key ≡ Some k → are_columns it k.columns ≡ true
  key_fine k has = and_left (are_columns it k.columns) _ (ap (λ key. list_all (are_columns it) (map (λ (k : Key). k.columns) (key_list key))) (sym has)
      ∙ all-append_left (are_columns it) (map (λ (k : Key). k.columns) (key_list it.key)) (map (λ (u : Unique). u.columns) it.uniques) targets_fine)

  unique_fine : (us : List Unique) (u : Unique) (rest : List Unique) → it.uniques ≡ us ++ u ∷ rest → are_columns it u.columns ≡ true
  unique_fine us u rest has = middle_fine (are_columns it) (λ (u : Unique). u.columns) us u rest (ap (λ us. list_all (are_columns it) (map (λ (u : Unique). u.columns) us)) (sym has)
      ∙ all-append_right (are_columns it) (map (λ (k : Key). k.columns) (key_list it.key)) (map (λ (u : Unique). u.columns) it.uniques) targets_fine)

  index_fine : (xs : List Index) (x : Index) (rest : List Index) → it.indexes ≡ xs ++ x ∷ rest → are_columns it x.columns ≡ true
  index_fine xs x rest has = middle_fine (are_columns it) (λ (i : Index). i.columns) xs x rest (ap (λ xs. list_all (are_columns it) (map (λ (i : Index). i.columns) xs)) (sym has)
      ∙ all-append_right (are_columns it) (target_lists it) (map (λ (i : Index). i.columns) it.indexes) fine.lists)

  -- its key

  key_free : (e2 : Dialect) (k : Key) → it.key ≡ Some k → own_key it ≡ None → AreApart e2 c → key_taken e2 e.0 (made it) k.name (weave (made it)) ≡ false
  key_free Postgresql k has none apart =
      let n = k.name in
      let p = made it in
      let s = shared n p in
      let x = inner_sum n it in
      let y = inner_sum n p in
      let z = constraint_sum n p in
      let o = itself n in
      let u : keys_at n it ≡ once (is_named n n) + 0 = ap (λ key. times n (map (λ (k : Key). k.name) (key_list key))) has in
      let v : keys_at n p ≡ 0 = ap (λ key. times n (map (λ (k : Key). k.name) (key_list key))) none in
      let a = apart (beside e.0 n) in
      or_false _ _ (none_times (beside e.0 n) (shared_names (weave p)) (omega (arith, s, x, y, o, u, v, a))) (none_times n (constraint_names p) (omega (arith, z, v)))
  key_free Mysql k has none apart = refl

  pub key_step : (k : Key) → it.key ≡ Some k → own_key it ≡ None → is_reserved User (e.0 ∷ k.name ∷ []) ≡ false → takes_lock_key User d (placed e.0 (k.name ∷ [])) ≡ false
      → step User d (AddPrimaryKey e.0 k) (weave (made it)) ≡ Ok (weave (filled it it.key [] [] []), 0)
  key_step k has none reserved lock =
      let p = made it in
      let g = weave p in
      let q = filled it it.key [] [] [] in
      let firm : list_all (λ (x : Key). list_all (is_not_null it) x.columns) (key_list (Some k)) ≡ true = ap (λ key. list_all (λ (x : Key). list_all (is_not_null it) x.columns) (key_list key)) (sym has) ∙ fine.key in
      let same : with_key k p ≡ q = ap (λ cs. record (with_key k p) { columns = cs }) (all_done it (Some k) it.columns firm (λ n is. is)) ∙ ap (λ key. filled it key [] [] []) (sym has) in
      accepted_as (add_primary_key User d e.0 k g) (weave q)
      (ap (λ T. with_table g e.0 (with_key k T)) (the p) ∙ puts p (with_key k p) ∙ ap weave same)
      (settled_as q refl refl)
      (record {
        reserved = reserved;
        missing = or_false _ _ (here p) (ap (λ T. column_missing T k.columns) (the p) ∙ all_there it k.columns (key_fine k has));
        exists = or_false _ _ (ap (λ (T : Table). is_some T.key) (the p) ∙ ap is_some none) (or_false _ _ (ap (λ T. key_taken d e.0 T k.name g) (the p) ∙ key_free d k has none sound.apart) (or_false _ _ lock (none_twice it k.columns (key_fine k has))));
        depends = refl;
        wrong = refl;
        wide = refl;
      })

  -- a unique constraint

  unique_free : (e2 : Dialect) (us : List Unique) (u : Unique) (rest : List Unique) → it.uniques ≡ us ++ u ∷ rest → AreApart e2 c → AreApartWithin e2 it → unique_taken e2 e.0 (filled it it.key us [] []) u.name (weave (filled it it.key us [] [])) ≡ false
  unique_free Postgresql us u rest has apart within =
      let n = u.name in
      let p = filled it it.key us [] [] in
      let s = shared n p in
      let x = inner_sum n it in
      let y = inner_sum n p in
      let z = constraint_sum n p in
      let w = constraint_sum n it in
      let o = itself n in
      let v : uniques_at n it ≡ times n (map (λ (u : Unique). u.name) (us ++ u ∷ rest)) = ap (λ us. times n (map (λ (u : Unique). u.name) us)) has in
      let m = middle_count (λ (u : Unique). u.name) n us u rest in
      let a = apart (beside e.0 n) in
      let b = within n in
      or_false _ _ (none_times (beside e.0 n) (shared_names (weave p)) (omega (arith, s, x, y, o, v, m, a))) (none_times n (constraint_names p) (omega (arith, z, w, o, v, m, b)))
  unique_free Mysql us u rest has apart within =
      let n = u.name in
      let p = filled it it.key us [] [] in
      let x = index_sum n it in
      let y = index_sum n p in
      let o = itself n in
      let v : uniques_at n it ≡ times n (map (λ (u : Unique). u.name) (us ++ u ∷ rest)) = ap (λ us. times n (map (λ (u : Unique). u.name) us)) has in
      let m = middle_count (λ (u : Unique). u.name) n us u rest in
      let b = within n in
      none_times n (index_names p) (omega (arith, x, y, o, v, m, b))

  pub unique_step : (us : List Unique) (u : Unique) (rest : List Unique) → it.uniques ≡ us ++ u ∷ rest → is_reserved User (e.0 ∷ u.name ∷ []) ≡ false → takes_lock_key User d (placed e.0 (u.name ∷ [])) ≡ false
      → step User d (AddUnique e.0 u) (weave (filled it it.key us [] [])) ≡ Ok (weave (filled it it.key (us ++ u ∷ []) [] []), 0)
  unique_step us u rest has reserved lock =
      let p = filled it it.key us [] [] in
      let g = weave p in
      let q = filled it it.key (us ++ u ∷ []) [] [] in
      accepted_as (add_unique User d e.0 u g) (weave q)
      (ap (λ T. with_table g e.0 (with_unique u T)) (the p) ∙ puts p q)
      (settled_as q refl refl)
      (record {
        reserved = reserved;
        missing = or_false _ _ (here p) (ap (λ T. column_missing T u.columns) (the p) ∙ all_there it u.columns (unique_fine us u rest has));
        exists = or_false _ _ (ap (λ T. unique_taken d e.0 T u.name g) (the p) ∙ unique_free d us u rest has sound.apart fine.within) (or_false _ _ lock (none_twice it u.columns (unique_fine us u rest has)));
        depends = refl;
        wrong = refl;
        wide = refl;
      })

  -- an index

  index_free : (e2 : Dialect) (xs : List Index) (x : Index) (rest : List Index) → it.indexes ≡ xs ++ x ∷ rest → AreApart e2 c → AreApartWithin e2 it → index_taken e2 e.0 (filled it it.key it.uniques xs []) x.name (weave (filled it it.key it.uniques xs [])) ≡ false
  index_free Postgresql xs i rest has apart within =
      let n = i.name in
      let p = filled it it.key it.uniques xs [] in
      let s = shared n p in
      let x = inner_sum n it in
      let y = inner_sum n p in
      let o = itself n in
      let v : indexes_at n it ≡ times n (map (λ (i : Index). i.name) (xs ++ i ∷ rest)) = ap (λ xs. times n (map (λ (i : Index). i.name) xs)) has in
      let m = middle_count (λ (i : Index). i.name) n xs i rest in
      let a = apart (beside e.0 n) in
      none_times (beside e.0 n) (shared_names (weave p)) (omega (arith, s, x, y, o, v, m, a))
  index_free Mysql xs i rest has apart within =
      let n = i.name in
      let p = filled it it.key it.uniques xs [] in
      let x = index_sum n it in
      let y = index_sum n p in
      let o = itself n in
      let v : indexes_at n it ≡ times n (map (λ (i : Index). i.name) (xs ++ i ∷ rest)) = ap (λ xs. times n (map (λ (i : Index). i.name) xs)) has in
      let m = middle_count (λ (i : Index). i.name) n xs i rest in
      let b = within n in
      none_times n (index_names p) (omega (arith, x, y, o, v, m, b))

  pub index_step : (xs : List Index) (x : Index) (rest : List Index) → it.indexes ≡ xs ++ x ∷ rest → is_reserved User (e.0 ∷ x.name ∷ []) ≡ false → takes_lock_key User d (placed e.0 (x.name ∷ [])) ≡ false
      → step User d (CreateIndex e.0 x) (weave (filled it it.key it.uniques xs [])) ≡ Ok (weave (filled it it.key it.uniques (xs ++ x ∷ []) []), 0)
  index_step xs x rest has reserved lock =
      let p = filled it it.key it.uniques xs [] in
      let g = weave p in
      let q = filled it it.key it.uniques (xs ++ x ∷ []) [] in
      accepted_as (create_index User d e.0 x g) (weave q)
      (ap (λ T. with_table g e.0 (with_index x T)) (the p) ∙ puts p q)
      (settled_as q refl refl)
      (record {
        reserved = reserved;
        missing = or_false _ _ (here p) (ap (λ T. column_missing T x.columns) (the p) ∙ all_there it x.columns (index_fine xs x rest has));
        exists = or_false _ _ (ap (λ T. index_taken d e.0 T x.name g) (the p) ∙ index_free d xs x rest has sound.apart fine.within) (or_false _ _ lock (none_twice it x.columns (index_fine xs x rest has)));
        depends = refl;
        wrong = refl;
        wide = refl;
      })
