-- What drops a key, a unique constraint, a foreign key or an index keeps a catalogue sound.
use Rattle.std.proofs.Common.{ap, arith, sym, ◌∙◌}
use Rattle.std.specs.List.{filter, list_all, list_any}
use Rattle.std.specs.Prelude.{Bool, List, None, Ok, Option, Some, [], cond, false, is_none, map, not, refl, true, ℕ, ◌&&◌, ◌++◌, ◌||◌, ◌∷◌, ◌≡◌, ◌≤◌}
use Rattle.lq_base.specs.Kind.{is_kind}
use Rattle.lq_base.specs.Name.{beside, is_named}
use Rattle.lq_base.specs.declared.dialect.Dialect.{Dialect}
use Rattle.lq_base.specs.declared.dialect.Dialect.TheVariants.{Mysql, Postgresql}
use Rattle.lq_base.specs.declared.name.Name.{Name}
use Rattle.lq_model.specs.Catalogue.{Catalogue, Table, table_of, the_table, with_table, is_empty, is_in, repeats, times, row_fits, column_lists, inner_names, key_list}
use Rattle.lq_model.specs.Constraints.{drop_constraint, drop_foreign_key, drop_index, drop_primary_key, drop_unique, uniques_without, without_constraint, without_foreign, without_index, without_index_in, without_its_key, without_key, without_unique}
use Rattle.lq_model.specs.Kinds.{is_number, kind_of, kinds_differ}
use Rattle.lq_model.specs.NameSpaces.{AreApartWithin}
use Rattle.lq_model.specs.Tables.{has_numbered}
use Rattle.lq_model.specs.Sound.{IsSound, IsSoundTable, are_columns, default_fits, is_key_name, is_key_of, is_not_null, is_numbered_well}
use Rattle.lq_model.specs.Step.{step}
use Rattle.lq_model.specs.declared.caller.By.{By}
use Rattle.lq_model.specs.declared.column.Column.{Column}
use Rattle.lq_model.specs.declared.constraint.ForeignKey.{ForeignKey}
use Rattle.lq_model.specs.declared.constraint.Key.{Key}
use Rattle.lq_model.specs.declared.constraint.Unique.{Unique}
use Rattle.lq_model.specs.declared.index.Index.{Index}
use Rattle.lq_model.specs.declared.statement.Statement.TheVariants.{DropConstraint, DropForeignKey, DropIndex, DropPrimaryKey, DropUnique}
use Rattle.lq_model.proofs.Decide.{accepted, here}
use Rattle.lq_model.proofs.Kept.{kept_columns, old_alike}
use Rattle.lq_model.proofs.Lists.{all-append, all-append_left, all-append_right, all-map, all_more, none_all, or_false, or_left, or_right}
use Rattle.lq_model.proofs.MappedTables.{mapped_shaped}
use Rattle.lq_model.proofs.NameCounts.{apart_less, constraint_sum, fewer_count, foreign_at, index_sum, indexes_at, inner_sum, keys_at, uniques_at}
use Rattle.lq_model.proofs.PublicNames.{columns_at, public_by}
use Rattle.lq_model.proofs.Rows.{all_filtered}
use Rattle.lq_model.proofs.Shaped.{IsShaped, keeps, shape_of}

pub any_filtered : {A : Type 0} (p q : A → Bool) (xs : List A) → list_any p xs ≡ false → list_any p (filter q xs) ≡ false
any_filtered p q [] h = refl
any_filtered p q (x ∷ xs) h = elim (q x) as (λ b. list_any p (cond b (x ∷ filter q xs) (filter q xs)) ≡ false) [
  | true ↦ or_false _ _ (or_left (p x) _ h) (any_filtered p q xs (or_right (p x) _ h))
  | false ↦ any_filtered p q xs (or_right (p x) _ h)
]

lists_filtered : {A : Type 0} (f : A → List Name) (p : List Name → Bool) (q : A → Bool) (xs : List A) → list_all p (map f xs) ≡ true → list_all p (map f (filter q xs)) ≡ true
lists_filtered f p q xs h = all-map p f (filter q xs) ∙ all_filtered (λ x. p (f x)) q xs (sym (all-map p f xs) ∙ h)

-- less of a table: its key or none, and some of its constraints and indexes
pub record IsLess (d : Dialect) (it less : Table) : Type 0 where
  pub columns : less.columns ≡ it.columns
  pub rows : less.rows ≡ it.rows
  pub lists : list_all (are_columns it) (column_lists less) ≡ true
  pub foreign : list_all (λ f. are_columns it f.columns) less.foreign ≡ true
  pub key : list_all (λ k. list_all (is_not_null it) k.columns) (key_list less.key) ≡ true
  pub key_named : list_all (λ k. is_key_name d k.name) (key_list less.key) ≡ true
  pub numbered : list_all (λ c. not c.numbered || (is_number c.kind && (is_none c.default && is_key_of less.key c.name))) it.columns ≡ true
  pub keys_fewer : (n : Name) → keys_at n less ≤ keys_at n it
  pub uniques_fewer : (n : Name) → uniques_at n less ≤ uniques_at n it
  pub indexes_fewer : (n : Name) → indexes_at n less ≤ indexes_at n it
  pub foreign_fewer : (n : Name) → foreign_at n less ≤ foreign_at n it

less_within : (d : Dialect) (it less : Table) → IsLess d it less → AreApartWithin d it → AreApartWithin d less
less_within Postgresql it less is h = λ n.
    let x = constraint_sum n it in
    let y = constraint_sum n less in
    let a = is.keys_fewer n in
    let b = is.uniques_fewer n in
    let c = is.foreign_fewer n in
    let z = h n in
    omega (arith, x, y, a, b, c, z)
less_within Mysql it less is h = λ n.
    let x = index_sum n it in
    let y = index_sum n less in
    let a = is.uniques_fewer n in
    let b = is.indexes_fewer n in
    let z = h n in
    omega (arith, x, y, a, b, z)

less_sound : (d : Dialect) (it less : Table) → IsSoundTable d it → IsLess d it less → IsSoundTable d less
less_sound d it less fine is = record {
  some = ap (λ cs. is_empty cs) is.columns ∙ fine.some;
  differ = ap (λ cs. repeats (map (λ c. c.name) cs)) is.columns ∙ fine.differ;
  kinds = ap (λ cs. list_all (λ c. is_kind c.kind) cs) is.columns ∙ fine.kinds;
  rows = ap (λ cs. list_all (row_fits cs) less.rows) is.columns ∙ ap (list_all (row_fits it.columns)) is.rows ∙ fine.rows;
  defaults = ap (list_all default_fits) is.columns ∙ fine.defaults;
  lists = ap (λ cs. list_all (λ ns. not (is_empty ns) && (not (repeats ns) && list_all (λ n. is_in n (map (λ c. c.name) cs)) ns)) (column_lists less)) is.columns ∙ is.lists;
  foreign = ap (λ cs. list_all (λ f. not (is_empty f.columns) && (not (repeats f.columns) && list_all (λ n. is_in n (map (λ c. c.name) cs)) f.columns)) less.foreign) is.columns ∙ is.foreign;
  key = ap (λ cs. list_all (λ k. list_all (λ n. list_all (λ c. not (is_named n c.name) || not c.nullable) cs) k.columns) (key_list less.key)) is.columns ∙ is.key;
  key_named = is.key_named;
  numbered = ap (λ cs. list_all (λ c. not c.numbered || (is_number c.kind && (is_none c.default && is_key_of less.key c.name))) cs) is.columns ∙ is.numbered;
  within = less_within d it less is fine.within;
  public = public_by it less [] refl (λ n.
      let a : columns_at n less ≡ columns_at n it = ap (λ cs. times n (map (λ (c : Column). c.name) cs)) is.columns in
      let b = is.keys_fewer n in
      let c = is.uniques_fewer n in
      let e = is.foreign_fewer n in
      let f = is.indexes_fewer n in
      omega (arith, a, b, c, e, f)) fine.public;
}

-- the catalogue with less of a table, whose foreign keys are some of those that were there
pub less_shaped : (d : Dialect) (c : Catalogue) (t : Name) (less : Table) → IsShaped d c → table_of c t ≡ Some (the_table c t) → IsLess d (the_table c t) less → ((p : ForeignKey → Bool) → list_any p (the_table c t).foreign ≡ false → list_any p less.foreign ≡ false) → IsShaped d (with_table c t less)
less_shaped d c t less shape there is some =
    let same : (m : Name) → kind_of m less.columns ≡ kind_of m (the_table c t).columns = λ m. ap (kind_of m) is.columns in
    kept_columns d c t less shape there same
    (apart_less d c t less there (λ n.
    let x = inner_sum n (the_table c t) in
    let y = inner_sum n less in
    let a = is.keys_fewer n in
    let b = is.uniques_fewer n in
    let e = is.indexes_fewer n in
    omega (arith, x, y, a, b, e)) is.foreign_fewer shape.apart)
    (less_sound d (the_table c t) less (shape.tables t (the_table c t) there) is)
    (some (kinds_differ (with_table c t less) less) (old_alike d c t less shape there same))

-- the key of a table that may have none

pub without_key_all : (n : Name) (p : Key → Bool) (o : Option Key) → list_all p (key_list o) ≡ true → list_all p (key_list (without_key n o)) ≡ true
without_key_all n p None h = refl
without_key_all n p (Some k) h = elim (is_named n k.name) as (λ b. list_all p (key_list (cond b None (Some k))) ≡ true) [ true ↦ refl | false ↦ h ]

without_key_fewer : (n m : Name) (o : Option Key) → times m (map (λ k. k.name) (key_list (without_key n o))) ≤ times m (map (λ k. k.name) (key_list o))
without_key_fewer n m None = omega arith
without_key_fewer n m (Some k) = elim (is_named n k.name) as (λ b. times m (map (λ (x : Key). x.name) (key_list (cond b None (Some k)))) ≤ times m (map (λ (x : Key). x.name) (key_list (Some k)))) [ true ↦ omega arith | false ↦ omega arith ]

not_numbered : (key : Option Key) (cs : List Column) → list_any (λ c. c.numbered) cs ≡ false → list_all (λ c. not c.numbered || (is_number c.kind && (is_none c.default && is_key_of key c.name))) cs ≡ true
not_numbered key cs none = all_more (λ c. not c.numbered) _ cs (λ c h. ap (λ b. b || (is_number c.kind && (is_none c.default && is_key_of key c.name))) h) (none_all (λ c. c.numbered) cs none)

numbered_without : (n : Name) (it : Table) (o : Option Key) → it.key ≡ o → list_all (is_numbered_well it) it.columns ≡ true → (list_any (λ k. is_named n k.name) (key_list o) && has_numbered it) ≡ false → list_all (λ c. not c.numbered || (is_number c.kind && (is_none c.default && is_key_of (without_key n o) c.name))) it.columns ≡ true
numbered_without n it None is h free = ap (λ o. list_all (λ c. not c.numbered || (is_number c.kind && (is_none c.default && is_key_of o c.name))) it.columns) (sym is) ∙ h
numbered_without n it (Some k) is h free = elim (is_named n k.name) as (λ b. ((b || false) && has_numbered it) ≡ false → list_all (λ c. not c.numbered || (is_number c.kind && (is_none c.default && is_key_of (cond b None (Some k)) c.name))) it.columns ≡ true) [
  | true ↦ λ q. not_numbered None it.columns q
  | false ↦ λ q. ap (λ o. list_all (λ c. not c.numbered || (is_number c.kind && (is_none c.default && is_key_of o c.name))) it.columns) (sym is) ∙ h
] free

-- the lists of a table, part by part
parts : (it : Table) → list_all (are_columns it) (column_lists it) ≡ true → (list_all (are_columns it) (map (λ k. k.columns) (key_list it.key)) ≡ true) × (list_all (are_columns it) (map (λ u. u.columns) it.uniques) ≡ true) × (list_all (are_columns it) (map (λ i. i.columns) it.indexes) ≡ true)
parts it h =
    let keys = map (λ (k : Key). k.columns) (key_list it.key) in
    let us = map (λ (u : Unique). u.columns) it.uniques in
    let targets = all-append_left (are_columns it) (keys ++ us) _ h in
    (all-append_left (are_columns it) keys us targets, all-append_right (are_columns it) keys us targets, all-append_right (are_columns it) (keys ++ us) _ h)

lists_of : (p : List Name → Bool) (a b c : List (List Name)) → list_all p a ≡ true → list_all p b ≡ true → list_all p c ≡ true → list_all p ((a ++ b) ++ c) ≡ true
lists_of p a b c x y z = all-append p (a ++ b) c (all-append p a b x y) z

constraint_less : (d : Dialect) (n : Name) (it : Table) → IsSoundTable d it → (list_any (λ k. is_named n k.name) (key_list it.key) && has_numbered it) ≡ false → IsLess d it (without_constraint n it)
constraint_less d n it fine free =
    let ps = parts it fine.lists in
    record {
      columns = refl;
      rows = refl;
      lists = lists_of (are_columns it) (map (λ (k : Key). k.columns) (key_list (without_key n it.key))) (map (λ (u : Unique). u.columns) (uniques_without n it.uniques)) _
          (all-map (are_columns it) (λ (k : Key). k.columns) (key_list (without_key n it.key)) ∙ without_key_all n (λ k. are_columns it k.columns) it.key (sym (all-map (are_columns it) (λ (k : Key). k.columns) (key_list it.key)) ∙ ps.0))
          (lists_filtered (λ (u : Unique). u.columns) (are_columns it) _ it.uniques ps.1) ps.2;
      foreign = all_filtered (λ f. are_columns it f.columns) _ it.foreign fine.foreign;
      key = without_key_all n (λ k. list_all (is_not_null it) k.columns) it.key fine.key;
      key_named = without_key_all n (λ k. is_key_name d k.name) it.key fine.key_named;
      numbered = numbered_without n it it.key refl fine.numbered free;
      keys_fewer = λ m. without_key_fewer n m it.key;
      uniques_fewer = λ m. fewer_count (λ (u : Unique). u.name) _ m it.uniques;
      indexes_fewer = λ m. omega arith;
      foreign_fewer = λ m. fewer_count (λ (f : ForeignKey). f.name) _ m it.foreign;
    }

pub drop_constraint_keeps : (by : By) (d : Dialect) (t n : Name) (c e : Catalogue) (k : ℕ) → IsSound d c → step by d (DropConstraint t n) c ≡ Ok (e, k) → IsSound d e
drop_constraint_keeps by d t n c e k sound made =
    let p = drop_constraint by d t n c in
    let ok = accepted p e k made in
    let there = here c t (or_left _ _ ok.missing) in
    keeps d p e k made (less_shaped d c t (without_constraint n (the_table c t)) (shape_of d c sound) there (constraint_less d n (the_table c t) (sound.tables t (the_table c t) there) ok.depends) (λ q h. any_filtered q _ (the_table c t).foreign h))

key_less : (d : Dialect) (it : Table) → IsSoundTable d it → has_numbered it ≡ false → IsLess d it (without_its_key it)
key_less d it fine free =
    let ps = parts it fine.lists in
    record {
      columns = refl;
      rows = refl;
      lists = lists_of (are_columns it) [] (map (λ (u : Unique). u.columns) it.uniques) _ refl ps.1 ps.2;
      foreign = fine.foreign;
      key = refl;
      key_named = refl;
      numbered = not_numbered None it.columns free;
      keys_fewer = λ m. omega arith;
      uniques_fewer = λ m. omega arith;
      indexes_fewer = λ m. omega arith;
      foreign_fewer = λ m. omega arith;
    }

pub drop_primary_key_keeps : (by : By) (d : Dialect) (t : Name) (c e : Catalogue) (k : ℕ) → IsSound d c → step by d (DropPrimaryKey t) c ≡ Ok (e, k) → IsSound d e
drop_primary_key_keeps by d t c e k sound made =
    let p = drop_primary_key by d t c in
    let ok = accepted p e k made in
    let there = here c t (or_left _ _ ok.missing) in
    keeps d p e k made (less_shaped d c t (without_its_key (the_table c t)) (shape_of d c sound) there (key_less d (the_table c t) (sound.tables t (the_table c t) there) ok.depends) (λ q h. h))

unique_less : (d : Dialect) (n : Name) (it : Table) → IsSoundTable d it → IsLess d it (without_unique n it)
unique_less d n it fine =
    let ps = parts it fine.lists in
    record {
      columns = refl;
      rows = refl;
      lists = lists_of (are_columns it) (map (λ (k : Key). k.columns) (key_list it.key)) (map (λ (u : Unique). u.columns) (uniques_without n it.uniques)) _ ps.0 (lists_filtered (λ (u : Unique). u.columns) (are_columns it) _ it.uniques ps.1) ps.2;
      foreign = fine.foreign;
      key = fine.key;
      key_named = fine.key_named;
      numbered = fine.numbered;
      keys_fewer = λ m. omega arith;
      uniques_fewer = λ m. fewer_count (λ (u : Unique). u.name) _ m it.uniques;
      indexes_fewer = λ m. omega arith;
      foreign_fewer = λ m. omega arith;
    }

pub drop_unique_keeps : (by : By) (d : Dialect) (t n : Name) (c e : Catalogue) (k : ℕ) → IsSound d c → step by d (DropUnique t n) c ≡ Ok (e, k) → IsSound d e
drop_unique_keeps by d t n c e k sound made =
    let p = drop_unique by d t n c in
    let ok = accepted p e k made in
    let there = here c t (or_left _ _ ok.missing) in
    keeps d p e k made (less_shaped d c t (without_unique n (the_table c t)) (shape_of d c sound) there (unique_less d n (the_table c t) (sound.tables t (the_table c t) there)) (λ q h. h))

foreign_less : (d : Dialect) (n : Name) (it : Table) → IsSoundTable d it → IsLess d it (without_foreign n it)
foreign_less d n it fine = record {
  columns = refl;
  rows = refl;
  lists = fine.lists;
  foreign = all_filtered (λ f. are_columns it f.columns) _ it.foreign fine.foreign;
  key = fine.key;
  key_named = fine.key_named;
  numbered = fine.numbered;
  keys_fewer = λ m. omega arith;
  uniques_fewer = λ m. omega arith;
  indexes_fewer = λ m. omega arith;
  foreign_fewer = λ m. fewer_count (λ (f : ForeignKey). f.name) _ m it.foreign;
}

pub drop_foreign_key_keeps : (by : By) (d : Dialect) (t n : Name) (c e : Catalogue) (k : ℕ) → IsSound d c → step by d (DropForeignKey t n) c ≡ Ok (e, k) → IsSound d e
drop_foreign_key_keeps by d t n c e k sound made =
    let p = drop_foreign_key by d t n c in
    let ok = accepted p e k made in
    let there = here c t (or_left _ _ ok.missing) in
    keeps d p e k made (less_shaped d c t (without_foreign n (the_table c t)) (shape_of d c sound) there (foreign_less d n (the_table c t) (sound.tables t (the_table c t) there)) (λ q h. any_filtered q _ (the_table c t).foreign h))

less_of_indexes : (d : Dialect) (q : Index → Bool) (it : Table) → IsSoundTable d it → IsLess d it (record it { indexes = filter q it.indexes })
less_of_indexes d q it fine =
    let ps = parts it fine.lists in
    record {
      columns = refl;
      rows = refl;
      lists = lists_of (are_columns it) (map (λ (k : Key). k.columns) (key_list it.key)) (map (λ (u : Unique). u.columns) it.uniques) _ ps.0 ps.1 (lists_filtered (λ (i : Index). i.columns) (are_columns it) q it.indexes ps.2);
      foreign = fine.foreign;
      key = fine.key;
      key_named = fine.key_named;
      numbered = fine.numbered;
      keys_fewer = λ m. omega arith;
      uniques_fewer = λ m. omega arith;
      indexes_fewer = λ m. fewer_count (λ (i : Index). i.name) q m it.indexes;
      foreign_fewer = λ m. omega arith;
    }

pub index_less : (d : Dialect) (n : Name) (it : Table) → IsSoundTable d it → IsLess d it (without_index n it)
index_less d n it fine = less_of_indexes d (λ i. not (is_named n i.name)) it fine

index_fewer : (n m t : Name) (it : Table) → times m (inner_names (without_index_in n t it)) ≤ times m (inner_names it)
index_fewer n m t it =
    let x = inner_sum m it in
    let y = inner_sum m (without_index_in n t it) in
    let a = fewer_count (λ (i : Index). i.name) (λ i. not (is_named n (beside t i.name))) m it.indexes in
    omega (arith, x, y, a)

pub drop_index_keeps : (by : By) (d : Dialect) (n : Name) (t : Option Name) (c e : Catalogue) (k : ℕ) → IsSound d c → step by d (DropIndex n t) c ≡ Ok (e, k) → IsSound d e
drop_index_keeps by d n None c e k sound made =
    keeps d (drop_index by d n None c) e k made (mapped_shaped d c (without_index_in n) (λ t x. refl) (λ t x. refl) (λ t x fine. less_sound d x (without_index_in n t x) fine (less_of_indexes d (λ i. not (is_named n (beside t i.name))) x fine)) (λ m t x. index_fewer n m t x) (shape_of d c sound))
drop_index_keeps by d n (Some t) c e k sound made =
    let p = drop_index by d n (Some t) c in
    let ok = accepted p e k made in
    let there = here c t (or_left _ _ ok.missing) in
    keeps d p e k made (less_shaped d c t (without_index n (the_table c t)) (shape_of d c sound) there (index_less d n (the_table c t) (sound.tables t (the_table c t) there)) (λ q h. h))
