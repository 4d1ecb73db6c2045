-- How often a name stands in the spaces where a table's constraints and indexes change.
use Rattle.std.proofs.Common.{ap, arith, ◌∙◌}
use Rattle.std.proofs.lemmas.Map.{keys-set_value}
use Rattle.std.specs.List.{filter, flat_map}
use Rattle.std.specs.Prelude.{Bool, List, Some, [], cond, false, map, refl, true, ℕ, ◌++◌, ◌+◌, ◌∷◌, ◌≡◌, ◌≤◌}
use Rattle.lq_base.specs.Name.{is_named}
use Rattle.lq_base.specs.declared.dialect.Dialect.{Dialect}
use Rattle.lq_base.specs.declared.dialect.Dialect.TheVariants.{Mysql, Postgresql}
use Rattle.lq_base.specs.declared.name.Name.{Name}
use Rattle.lq_model.specs.Catalogue.{Catalogue, Table, table_of, the_table, with_table, is_in, times, constraint_names, foreign_names, index_names, inner_names, key_list, placed}
use Rattle.lq_model.specs.NameSpaces.{AreApart, all_foreign_names, names_inside, object_names, shared_names}
use Rattle.lq_model.specs.Step.{is_pg}
use Rattle.lq_model.specs.declared.constraint.ForeignKey.{ForeignKey}
use Rattle.lq_model.specs.declared.constraint.Key.{Key}
use Rattle.lq_model.specs.declared.constraint.Unique.{Unique}
use Rattle.lq_model.specs.declared.index.Index.{Index}
use Rattle.lq_model.proofs.Counts.{once}
use Rattle.lq_model.proofs.Lists.{map_append_one}
use Rattle.lq_model.proofs.Places.{placed_less}
use Rattle.lq_model.proofs.Times.{one_more, times-append, times-set_value}

module _ (n : Name) (it : Table) where
  abbrev pub keys_at : ℕ
  keys_at = times n (map (λ k. k.name) (key_list it.key))

  abbrev pub uniques_at : ℕ
  uniques_at = times n (map (λ u. u.name) it.uniques)

  abbrev pub indexes_at : ℕ
  indexes_at = times n (map (λ i. i.name) it.indexes)

  abbrev pub foreign_at : ℕ
  foreign_at = times n (map (λ f. f.name) it.foreign)

  pub inner_sum : times n (inner_names it) ≡ keys_at + (uniques_at + indexes_at)
  inner_sum =
      let us = map (λ (u : Unique). u.name) it.uniques in
      let is = map (λ (i : Index). i.name) it.indexes in
      let a = times-append n (map (λ (k : Key). k.name) (key_list it.key)) (us ++ is) in
      let b = times-append n us is in
      omega (arith, a, b)

  pub constraint_sum : times n (constraint_names it) ≡ keys_at + (uniques_at + foreign_at)
  constraint_sum =
      let us = map (λ (u : Unique). u.name) it.uniques in
      let fs = map (λ (f : ForeignKey). f.name) it.foreign in
      let a = times-append n (map (λ (k : Key). k.name) (key_list it.key)) (us ++ fs) in
      let b = times-append n us fs in
      omega (arith, a, b)

  pub index_sum : times n (index_names it) ≡ uniques_at + indexes_at
  index_sum = times-append n (map (λ (u : Unique). u.name) it.uniques) (map (λ (i : Index). i.name) it.indexes)

module _ (n : Name) (c : Catalogue) (t : Name) (it : Table) (there : table_of c t ≡ Some (the_table c t)) where
  pub objects_same : times n (object_names (with_table c t it)) ≡ times n (object_names c)
  objects_same = ap (λ ks. times n (ks ++ (map (λ e. e.0) c.views ++ map (λ e. e.0) c.sequences))) (keys-set_value (is_named t) c.tables it)

  pub shared_count : times n (shared_names (with_table c t it)) + times n (placed t (inner_names (the_table c t))) ≡ times n (shared_names c) + times n (placed t (inner_names it))
  shared_count =
      let a = times-set_value t names_inside n c.tables (the_table c t) it there in
      let o = objects_same in
      let p = times-append n (object_names (with_table c t it)) (flat_map names_inside (with_table c t it).tables) in
      let q = times-append n (object_names c) (flat_map names_inside c.tables) in
      omega (arith, a, o, p, q)

  pub foreign_count : times n (all_foreign_names (with_table c t it)) + foreign_at n (the_table c t) ≡ times n (all_foreign_names c) + foreign_at n it
  foreign_count = times-set_value t (λ (e : Name × Table). foreign_names e.1) n c.tables (the_table c t) it there

-- a name that is new stands there once
pub new_once : (n m : Name) (xs : List Name) → is_in m xs ≡ false → times n xs ≤ 1 → times n xs + once (is_named n m) ≤ 1
new_once n m xs out h = one_more n m (times n xs + once (is_named n m)) xs out h refl

-- the names are apart where the table has, in its space, no more names than before and those that fit
pub apart_by : (d : Dialect) (c : Catalogue) (t : Name) (it : Table) → table_of c t ≡ Some (the_table c t) → (is_pg d ≡ true → (n : Name) → times n (shared_names c) + times n (placed t (inner_names it)) ≤ 1 + times n (placed t (inner_names (the_table c t)))) → (is_pg d ≡ false → (n : Name) → times n (all_foreign_names c) + foreign_at n it ≤ 1 + foreign_at n (the_table c t)) → AreApart d c → AreApart d (with_table c t it)
apart_by Postgresql c t it there pg my h = λ n. let s = shared_count n c t it there in let p = pg refl n in omega (arith, s, p)
apart_by Mysql c t it there pg my h = (λ n. let o = objects_same n c t it there in let x = h.0 n in omega (arith, o, x), λ n. let s = foreign_count n c t it there in let p = my refl n in omega (arith, s, p))

pub apart_shared : (c : Catalogue) → AreApart Postgresql c → (n : Name) → times n (shared_names c) ≤ 1
apart_shared c h n = h n

-- with no more names than before
pub apart_less : (d : Dialect) (c : Catalogue) (t : Name) (it : Table) → table_of c t ≡ Some (the_table c t) → ((n : Name) → times n (inner_names it) ≤ times n (inner_names (the_table c t))) → ((n : Name) → foreign_at n it ≤ foreign_at n (the_table c t)) → AreApart d c → AreApart d (with_table c t it)
apart_less Postgresql c t it there inner foreign h = λ n. let s = shared_count n c t it there in let p = placed_less t (inner_names it) (inner_names (the_table c t)) inner n in let x = h n in omega (arith, s, p, x)
apart_less Mysql c t it there inner foreign h = (λ n. let o = objects_same n c t it there in let x = h.0 n in omega (arith, o, x), λ n. let s = foreign_count n c t it there in let p = foreign n in let x = h.1 n in omega (arith, s, p, x))

pub last_count : {A : Type 0} (f : A → Name) (n : Name) (xs : List A) (x : A) → times n (map f (xs ++ x ∷ [])) ≡ times n (map f xs) + once (is_named n (f x))
last_count f n xs x = ap (times n) (map_append_one f xs x) ∙ (let a = times-append n (map f xs) (f x ∷ []) in omega (arith, a))

pub fewer_count : {A : Type 0} (f : A → Name) (q : A → Bool) (n : Name) (xs : List A) → times n (map f (filter q xs)) ≤ times n (map f xs)
fewer_count f q n [] = omega arith
fewer_count f q n (x ∷ xs) = elim (q x) as (λ b. times n (map f (cond b (x ∷ filter q xs) (filter q xs))) ≤ times n (map f (x ∷ xs))) [
  | true ↦ let r = fewer_count f q n xs in omega (arith, r)
  | false ↦ let r = fewer_count f q n xs in omega (arith, r)
]
