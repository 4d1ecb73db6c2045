-- A new key, unique constraint, foreign key or index keeps a catalogue sound.
use Rattle.std.proofs.Common.{ap, arith, sym, ◌∙◌}
use Rattle.std.specs.List.{list_all, list_any}
use Rattle.std.specs.Option.{unwrap_or}
use Rattle.std.specs.Prelude.{List, None, Ok, Option, Some, [], cond, false, is_none, is_some, map, not, refl, true, ℕ, ◌&&◌, ◌++◌, ◌+◌, ◌||◌, ◌∷◌, ◌≡◌}
use Rattle.lq_base.specs.Kind.{is_kind}
use Rattle.lq_base.specs.Name.{beside, is_name, is_named}
use Rattle.lq_base.specs.Value.{is_value_of}
use Rattle.lq_base.specs.declared.dialect.Dialect.{Dialect}
use Rattle.lq_base.specs.declared.dialect.Dialect.TheVariants.{Mysql, Postgresql}
use Rattle.lq_base.specs.declared.name.Name.{Name}
use Rattle.lq_base.specs.declared.value.Value.{Value}
use Rattle.lq_base.specs.declared.value.Value.TheVariants as value
use Rattle.lq_model.specs.Constraints.{add_foreign_key, add_primary_key, add_unique, create_index, with_foreign, with_index, with_key, with_unique}
use Rattle.lq_model.specs.Catalogue.{Catalogue, Table, table_of, the_table, with_table, is_empty, is_in, repeats, times, row_fits, column_missing, constraint_names, foreign_names, has_column, index_names, inner_names, key_list, placed, target_lists}
use Rattle.lq_model.specs.Tables.{key_column}
use Rattle.lq_model.specs.Kinds.{is_number, kind_of, kinds_differ}
use Rattle.lq_model.specs.NameSpaces.{AreApart, AreApartWithin, all_foreign_names, foreign_taken, index_taken, key_taken, shared_names, unique_taken, takes_lock_key}
use Rattle.lq_model.specs.Sound.{IsSound, IsSoundTable, are_columns, is_key_name, is_key_of, is_numbered_well}
use Rattle.lq_model.specs.Step.{is_foreign, is_index, is_key, is_name_list, is_unique, step}
use Rattle.lq_model.specs.declared.caller.By.{By}
use Rattle.lq_model.specs.declared.column.Column.{Column}
use Rattle.lq_model.specs.declared.constraint.ForeignKey.{ForeignKey}
use Rattle.lq_model.specs.declared.constraint.Key.{Key}
use Rattle.lq_model.specs.declared.constraint.Unique.{Unique}
use Rattle.lq_model.specs.declared.index.Index.{Index}
use Rattle.lq_model.specs.declared.statement.Statement.TheVariants.{AddForeignKey, AddPrimaryKey, AddUnique, CreateIndex}
use Rattle.lq_model.proofs.Counts.{once}
use Rattle.lq_model.proofs.CreateKeeps.{key_all, key_columns_named, key_not_null, some_columns}
use Rattle.lq_model.proofs.Decide.{accepted, here}
use Rattle.lq_model.proofs.Kept.{kept_columns, kept_foreign, kept_rows, nothing_touched, old_alike, one_alike}
use Rattle.lq_model.proofs.Lists.{all-append, all-append_left, all-append_right, all_more, all_none, all_one_more, and_left, and_right, and_true, any-append, any_none, map_append_one, none_all, or_false, or_left, or_right, true_false}
use Rattle.lq_model.proofs.NameCounts.{apart_by, constraint_sum, foreign_at, index_sum, inner_sum, keys_at, last_count, new_once}
use Rattle.lq_model.proofs.Places.{placed_more}
use Rattle.lq_model.proofs.PublicNames.{columns_at, one_public, public_by}
use Rattle.lq_model.proofs.Shaped.{keeps, shape_of}

-- columns that are there, none twice and at least one
pub columns_fine : (it : Table) (ns : List Name) → is_name_list ns ≡ true → repeats ns ≡ false → column_missing it ns ≡ false → are_columns it ns ≡ true
columns_fine it ns some differ there = and_true _ _ (and_left (not (is_empty ns)) _ some) (and_true _ _ (ap not differ) (all_none (has_column it) ns there))

-- MySQL's space of foreign keys, where the table's are the same
same_foreign : (c : Catalogue) (t : Name) (it : Table) → table_of c t ≡ Some (the_table c t) → foreign_names it ≡ foreign_names (the_table c t) → AreApart Mysql c → AreApart Mysql (with_table c t it)
same_foreign c t it there same h = apart_by Mysql c t it there (λ p. true_false p refl) (λ p n.
    let x = h.1 n in
    let s : foreign_at n it ≡ foreign_at n (the_table c t) = ap (times n) same in
    omega (arith, x, s)) h

-- PostgreSQL's space, where the table has one name more that was not there
one_shared : (c : Catalogue) (t m : Name) (it : Table) → table_of c t ≡ Some (the_table c t) → is_in (beside t m) (shared_names c) ≡ false → ((n : Name) → times n (inner_names it) ≡ times n (inner_names (the_table c t)) + once (is_named n m)) → AreApart Postgresql c → AreApart Postgresql (with_table c t it)
one_shared c t m it there out more h = apart_by Postgresql c t it there (λ p n. let a = new_once n (beside t m) (shared_names c) out (h n) in let b = placed_more t m (inner_names it) (inner_names (the_table c t)) more n in omega (arith, a, b)) (λ p. true_false refl p) h

module _ (u : Unique) (it : Table) where
  unique_inner : (n : Name) → times n (inner_names (with_unique u it)) ≡ times n (inner_names it) + once (is_named n u.name)
  unique_inner n =
      let b = last_count (λ (x : Unique). x.name) n it.uniques u in
      let x = inner_sum n (with_unique u it) in
      let y = inner_sum n it in
      omega (arith, b, x, y)

  unique_within : (d : Dialect) (c : Catalogue) (t : Name) → unique_taken d t it u.name c ≡ false → AreApartWithin d it → AreApartWithin d (with_unique u it)
  unique_within Postgresql c t free h = λ n.
      let a = new_once n u.name (constraint_names it) (or_right (is_in (beside t u.name) (shared_names c)) _ free) (h n) in
      let b = last_count (λ (x : Unique). x.name) n it.uniques u in
      let x = constraint_sum n (with_unique u it) in
      let y = constraint_sum n it in
      omega (arith, a, b, x, y)
  unique_within Mysql c t free h = λ n.
      let a = new_once n u.name (index_names it) free (h n) in
      let b = last_count (λ (x : Unique). x.name) n it.uniques u in
      let x = index_sum n (with_unique u it) in
      let y = index_sum n it in
      omega (arith, a, b, x, y)

unique_apart : (d : Dialect) (c : Catalogue) (t : Name) (u : Unique) → table_of c t ≡ Some (the_table c t) → unique_taken d t (the_table c t) u.name c ≡ false → AreApart d c → AreApart d (with_table c t (with_unique u (the_table c t)))
unique_apart Postgresql c t u there free h = one_shared c t u.name (with_unique u (the_table c t)) there (or_left (is_in (beside t u.name) (shared_names c)) (is_in u.name (constraint_names (the_table c t))) free) (unique_inner u (the_table c t)) h
unique_apart Mysql c t u there free h = same_foreign c t (with_unique u (the_table c t)) there refl h

pub add_unique_keeps : (by : By) (d : Dialect) (t : Name) (u : Unique) (c e : Catalogue) (k : ℕ) → is_unique u ≡ true → IsSound d c → step by d (AddUnique t u) c ≡ Ok (e, k) → IsSound d e
add_unique_keeps by d t u c e k valid sound made =
    let it = the_table c t in
    let p = add_unique by d t u c in
    let ok = accepted p e k made in
    let there = here c t (or_left _ _ ok.missing) in
    let fine = sound.tables t it there in
    let new = with_unique u it in
    let free = or_left (unique_taken d t it u.name c) _ ok.exists in
    let are = columns_fine it u.columns (and_right (is_name u.name) _ valid) (or_right (takes_lock_key by d (placed t (u.name ∷ []))) _ (or_right (unique_taken d t it u.name c) _ ok.exists)) (or_right _ _ ok.missing) in
    let keys = map (λ (x : Key). x.columns) (key_list it.key) in
    let us = map (λ (x : Unique). x.columns) it.uniques in
    let targets = all-append_left (are_columns it) (target_lists it) _ fine.lists in
    keeps d p e k made (kept_rows d c t new (shape_of d c sound) there refl refl (unique_apart d c t u there free sound.apart)
    (record {
      some = fine.some;
      differ = fine.differ;
      kinds = fine.kinds;
      rows = fine.rows;
      defaults = fine.defaults;
      lists = all-append (are_columns it) (target_lists new) _ (all-append (are_columns it) keys _ (all-append_left (are_columns it) keys us targets)
          (ap (list_all (are_columns it)) (map_append_one (λ (x : Unique). x.columns) it.uniques u) ∙ all_one_more (are_columns it) us u.columns (all-append_right (are_columns it) keys us targets) are))
          (all-append_right (are_columns it) (target_lists it) _ fine.lists);
      foreign = fine.foreign;
      key = fine.key;
      key_named = fine.key_named;
      numbered = fine.numbered;
      within = unique_within u it d c t free fine.within;
      public = public_by it new (u.name ∷ []) (one_public u.name (and_left (is_name u.name) _ valid)) (λ n. let a = last_count (λ (x : Unique). x.name) n it.uniques u in omega (arith, a)) fine.public;
    }))

-- CREATE INDEX

module _ (i : Index) (it : Table) where
  index_inner : (n : Name) → times n (inner_names (with_index i it)) ≡ times n (inner_names it) + once (is_named n i.name)
  index_inner n =
      let b = last_count (λ (x : Index). x.name) n it.indexes i in
      let x = inner_sum n (with_index i it) in
      let y = inner_sum n it in
      omega (arith, b, x, y)

  index_within : (d : Dialect) (c : Catalogue) (t : Name) → index_taken d t it i.name c ≡ false → AreApartWithin d it → AreApartWithin d (with_index i it)
  index_within Postgresql c t free h = h
  index_within Mysql c t free h = λ n.
      let a = new_once n i.name (index_names it) free (h n) in
      let b = last_count (λ (x : Index). x.name) n it.indexes i in
      let x = index_sum n (with_index i it) in
      let y = index_sum n it in
      omega (arith, a, b, x, y)

index_apart : (d : Dialect) (c : Catalogue) (t : Name) (i : Index) → table_of c t ≡ Some (the_table c t) → index_taken d t (the_table c t) i.name c ≡ false → AreApart d c → AreApart d (with_table c t (with_index i (the_table c t)))
index_apart Postgresql c t i there free h = one_shared c t i.name (with_index i (the_table c t)) there free (index_inner i (the_table c t)) h
index_apart Mysql c t i there free h = same_foreign c t (with_index i (the_table c t)) there refl h

pub create_index_keeps : (by : By) (d : Dialect) (t : Name) (i : Index) (c e : Catalogue) (k : ℕ) → is_index i ≡ true → IsSound d c → step by d (CreateIndex t i) c ≡ Ok (e, k) → IsSound d e
create_index_keeps by d t i c e k valid sound made =
    let it = the_table c t in
    let p = create_index by d t i c in
    let ok = accepted p e k made in
    let there = here c t (or_left _ _ ok.missing) in
    let fine = sound.tables t it there in
    let new = with_index i it in
    let free = or_left (index_taken d t it i.name c) _ ok.exists in
    let are = columns_fine it i.columns (and_right (is_name i.name) _ valid) (or_right (takes_lock_key by d (placed t (i.name ∷ []))) _ (or_right (index_taken d t it i.name c) _ ok.exists)) (or_right _ _ ok.missing) in
    let is = map (λ (x : Index). x.columns) it.indexes in
    keeps d p e k made (kept_rows d c t new (shape_of d c sound) there refl refl (index_apart d c t i there free sound.apart)
    (record {
      some = fine.some;
      differ = fine.differ;
      kinds = fine.kinds;
      rows = fine.rows;
      defaults = fine.defaults;
      lists = all-append (are_columns it) (target_lists it) _ (all-append_left (are_columns it) (target_lists it) is fine.lists)
          (ap (list_all (are_columns it)) (map_append_one (λ (x : Index). x.columns) it.indexes i) ∙ all_one_more (are_columns it) is i.columns (all-append_right (are_columns it) (target_lists it) is fine.lists) are);
      foreign = fine.foreign;
      key = fine.key;
      key_named = fine.key_named;
      numbered = fine.numbered;
      within = index_within i it d c t free fine.within;
      public = public_by it new (i.name ∷ []) (one_public i.name (and_left (is_name i.name) _ valid)) (λ n. let a = last_count (λ (x : Index). x.name) n it.indexes i in omega (arith, a)) fine.public;
    }))

-- ADD FOREIGN KEY

module _ (f : ForeignKey) (it : Table) where
  foreign_within : (d : Dialect) (c : Catalogue) → foreign_taken d it f.name c ≡ false → AreApartWithin d it → AreApartWithin d (with_foreign f it)
  foreign_within Postgresql c free h = λ n.
      let a = new_once n f.name (constraint_names it) free (h n) in
      let b = last_count (λ (x : ForeignKey). x.name) n it.foreign f in
      let x = constraint_sum n (with_foreign f it) in
      let y = constraint_sum n it in
      omega (arith, a, b, x, y)
  foreign_within Mysql c free h = h

foreign_apart : (d : Dialect) (c : Catalogue) (t : Name) (f : ForeignKey) → table_of c t ≡ Some (the_table c t) → foreign_taken d (the_table c t) f.name c ≡ false → AreApart d c → AreApart d (with_table c t (with_foreign f (the_table c t)))
foreign_apart Postgresql c t f there free h = apart_by Postgresql c t (with_foreign f (the_table c t)) there (λ p n. let x = h n in omega (arith, x)) (λ p. true_false refl p) h
foreign_apart Mysql c t f there free h = apart_by Mysql c t (with_foreign f (the_table c t)) there (λ p. true_false p refl) (λ p n.
    let a = new_once n f.name (all_foreign_names c) free (h.1 n) in
    let b = last_count (λ (x : ForeignKey). x.name) n (the_table c t).foreign f in
    omega (arith, a, b)) h

pub add_foreign_key_keeps : (by : By) (d : Dialect) (t : Name) (f : ForeignKey) (c e : Catalogue) (k : ℕ) → is_foreign d f ≡ true → IsSound d c → step by d (AddForeignKey t f) c ≡ Ok (e, k) → IsSound d e
add_foreign_key_keeps by d t f c e k valid sound made =
    let it = the_table c t in
    let p = add_foreign_key by d t f c in
    let ok = accepted p e k made in
    let there = here c t (or_left _ _ ok.missing) in
    let fine = sound.tables t it there in
    let new = with_foreign f it in
    let shape = shape_of d c sound in
    let free = or_left (foreign_taken d it f.name c) _ ok.exists in
    let missing = or_right (is_none (table_of c t)) _ ok.missing in
    let are = columns_fine it f.columns (and_left (is_name_list f.columns) _ (and_right (is_name f.name) _ valid)) (or_left (repeats f.columns) _ (or_right (foreign_taken d it f.name c) _ ok.exists)) (or_left (column_missing it f.columns) _ missing) in
    let alike = any-append (kinds_differ (with_table c t new) new) it.foreign (f ∷ []) ∙ or_false _ _ (old_alike d c t new shape there (λ m. refl)) (or_false _ _ (one_alike d c t new shape there (λ m. refl) new f ∙ ok.wrong) refl) in
    keeps d p e k made (kept_columns d c t new shape there (λ m. refl) (foreign_apart d c t f there free sound.apart)
    (record {
      some = fine.some;
      differ = fine.differ;
      kinds = fine.kinds;
      rows = fine.rows;
      defaults = fine.defaults;
      lists = fine.lists;
      foreign = all_one_more (λ x. are_columns it x.columns) it.foreign f fine.foreign are;
      key = fine.key;
      key_named = fine.key_named;
      numbered = fine.numbered;
      within = foreign_within f it d c free fine.within;
      public = public_by it new (f.name ∷ []) (one_public f.name (and_left (is_name f.name) _ valid)) (λ n. let a = last_count (λ (x : ForeignKey). x.name) n it.foreign f in omega (arith, a)) fine.public;
    }) alike)

-- ADD PRIMARY KEY

key_kind : (key : Option Key) (m : Name) (cs : List Column) → kind_of m (map (key_column key) cs) ≡ kind_of m cs
key_kind key m [] = refl
key_kind key m (c ∷ cs) = elim (list_any (λ k. is_in c.name k.columns) (key_list key)) as (λ b. (let x = cond b (record c { nullable = false }) c in cond (is_named m x.name) (Some x.kind) (kind_of m (map (key_column key) cs))) ≡ kind_of m (c ∷ cs)) [
  | true ↦ ap (cond (is_named m c.name) (Some c.kind)) (key_kind key m cs)
  | false ↦ ap (cond (is_named m c.name) (Some c.kind)) (key_kind key m cs)
]

key_rows : (key : Option Key) (cs : List Column) (row : List Value) → row_fits (map (key_column key) cs) row ≡ row_fits cs row
key_rows key [] [] = refl
key_rows key [] (v ∷ vs) = refl
key_rows key (c ∷ cs) [] = refl
key_rows key (c ∷ cs) (v ∷ vs) = elim (list_any (λ k. is_in c.name k.columns) (key_list key)) as (λ b. (is_value_of (cond b (record c { nullable = false }) c).kind v && row_fits (map (key_column key) cs) vs) ≡ row_fits (c ∷ cs) (v ∷ vs)) [
  | true ↦ ap (λ b. is_value_of c.kind v && b) (key_rows key cs vs)
  | false ↦ ap (λ b. is_value_of c.kind v && b) (key_rows key cs vs)
]

pub no_number : (d : Dialect) (it : Table) → IsSoundTable d it → it.key ≡ None → list_any (λ c. c.numbered) it.columns ≡ false
no_number d it fine none = any_none _ (is_numbered_well it) it.columns (λ c h. elim c.numbered as (λ b. (not b || (is_number c.kind && (is_none c.default && is_key_of it.key c.name))) ≡ true → b ≡ false) [
  | true ↦ λ p. true_false (and_right (is_none c.default) _ (and_right (is_number c.kind) _ p)) (ap (λ o. is_key_of o c.name) none)
  | false ↦ λ p. refl
] h) fine.numbered

pub no_option : {A : Type 0} (o : Option A) → is_some o ≡ false → o ≡ None
no_option None h = refl
no_option (Some x) h = true_false refl h

module _ (k : Key) (it : Table) (none : it.key ≡ None) where
  key_inner : (n : Name) → times n (inner_names (with_key k it)) ≡ times n (inner_names it) + once (is_named n k.name)
  key_inner n =
      let x = inner_sum n (with_key k it) in
      let y = inner_sum n it in
      let z : keys_at n it ≡ 0 = ap (λ o. times n (map (λ (x : Key). x.name) (key_list o))) none in
      omega (arith, x, y, z)

  key_within : (d : Dialect) (c : Catalogue) (t : Name) → key_taken d t it k.name c ≡ false → AreApartWithin d it → AreApartWithin d (with_key k it)
  key_within Postgresql c t free h = λ n.
      let a = new_once n k.name (constraint_names it) (or_right (is_in (beside t k.name) (shared_names c)) _ free) (h n) in
      let x = constraint_sum n (with_key k it) in
      let y = constraint_sum n it in
      let z : keys_at n it ≡ 0 = ap (λ o. times n (map (λ (x : Key). x.name) (key_list o))) none in
      omega (arith, a, x, y, z)
  key_within Mysql c t free h = h

key_apart : (d : Dialect) (c : Catalogue) (t : Name) (k : Key) → table_of c t ≡ Some (the_table c t) → (the_table c t).key ≡ None → key_taken d t (the_table c t) k.name c ≡ false → AreApart d c → AreApart d (with_table c t (with_key k (the_table c t)))
key_apart Postgresql c t k there none free h = one_shared c t k.name (with_key k (the_table c t)) there (or_left (is_in (beside t k.name) (shared_names c)) (is_in k.name (constraint_names (the_table c t))) free) (key_inner k (the_table c t) none) h
key_apart Mysql c t k there none free h = same_foreign c t (with_key k (the_table c t)) there refl h

pub add_primary_key_keeps : (by : By) (d : Dialect) (t : Name) (k : Key) (c e : Catalogue) (n : ℕ) → is_key d k ≡ true → IsSound d c → step by d (AddPrimaryKey t k) c ≡ Ok (e, n) → IsSound d e
add_primary_key_keeps by d t k c e n valid sound made =
    let it = the_table c t in
    let p = add_primary_key by d t k c in
    let ok = accepted p e n made in
    let there = here c t (or_left _ _ ok.missing) in
    let fine = sound.tables t it there in
    let new = with_key k it in
    let none = no_option it.key (or_left _ _ ok.exists) in
    let more = or_right (is_some it.key) _ ok.exists in
    let free = or_left (key_taken d t it k.name c) _ more in
    let are = columns_fine it k.columns (and_right (is_key_name d k.name) _ (and_right (is_name k.name) _ valid)) (or_right (takes_lock_key by d (placed t (k.name ∷ []))) _ (or_right (key_taken d t it k.name c) _ more)) (or_right _ _ ok.missing) in
    let names = key_columns_named (Some k) it.columns in
    let still : (ns : List Name) → are_columns it ns ≡ true → are_columns new ns ≡ true = λ ns h. ap (λ ms. not (is_empty ns) && (not (repeats ns) && list_all (λ m. is_in m ms) ns)) names ∙ h in
    let old = ap (λ o. list_all (are_columns it) ((map (λ (x : Key). x.columns) (key_list o) ++ map (λ (u : Unique). u.columns) it.uniques) ++ map (λ (i : Index). i.columns) it.indexes)) (sym none) ∙ fine.lists in
    keeps d p e n made (kept_foreign d c t new (shape_of d c sound) there (λ m. false) (λ m q. key_kind (Some k) m it.columns) (nothing_touched c t) refl (key_apart d c t k there none free sound.apart)
    (record {
      some = some_columns (key_column (Some k)) it.columns fine.some;
      differ = ap repeats names ∙ fine.differ;
      kinds = key_all (λ m x v u. is_kind x) (Some k) it.columns fine.kinds;
      rows = all_more (row_fits it.columns) (row_fits new.columns) it.rows (λ r h. key_rows (Some k) it.columns r ∙ h) fine.rows;
      defaults = key_all (λ m x v u. is_value_of x (unwrap_or v value.Null)) (Some k) it.columns fine.defaults;
      lists = and_true _ _ (still k.columns are) (all_more (are_columns it) (are_columns new) (map (λ (u : Unique). u.columns) it.uniques ++ map (λ (i : Index). i.columns) it.indexes) still old);
      foreign = all_more (λ f. are_columns it f.columns) _ it.foreign (λ f h. still f.columns h) fine.foreign;
      key = key_not_null (Some k) new it.columns refl;
      key_named = and_true _ _ (and_left (is_key_name d k.name) _ (and_right (is_name k.name) _ valid)) refl;
      numbered = key_all (λ m x v u. not u || (is_number x && (is_none v && is_key_of (Some k) m))) (Some k) it.columns (all_more (λ x. not x.numbered) _ it.columns (λ x h. ap (λ b. b || (is_number x.kind && (is_none x.default && is_key_of (Some k) x.name))) h) (none_all (λ x. x.numbered) it.columns (no_number d it fine none)));
      within = key_within k it none d c t free fine.within;
      public = public_by it new (k.name ∷ []) (one_public k.name (and_left (is_name k.name) _ valid)) (λ m. let a : columns_at m new ≡ columns_at m it = ap (times m) names in omega (arith, a)) fine.public;
    }))
