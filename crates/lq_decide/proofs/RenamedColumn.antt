-- RENAME COLUMN.
use Rattle.std.proofs.Common.{ap, sym, unwrap_or, ◌∙◌}
use Rattle.std.specs.FinMap.Entries.{is_sorted}
use Rattle.std.specs.List.{filter, list_any}
use Rattle.std.specs.Map.{lookup}
use Rattle.std.specs.Option.{option_map}
use Rattle.std.specs.Prelude.{Bool, List, None, Option, Some, T, [], cond, false, map, not, refl, true, ◌&&◌, ◌++◌, ◌||◌, ◌∷◌, ◌≡◌}
use Rattle.lq_base.specs.Name.{is_named, name_cmp}
use Rattle.lq_base.specs.declared.dialect.Dialect.{Dialect}
use Rattle.lq_base.specs.declared.name.Name.{Name}
use Rattle.lq_base.specs.declared.value.Value.{Value}
use Rattle.lq_model.specs.Catalogue.{Catalogue, Table, no_table, table_of, the_table, is_in, renamed, same_names, by_name, has_bad_null, has_equals, is_null, picked, same_values, has_column, key_list, target_lists}
use Rattle.lq_model.specs.Plan.{decide, has_orphan, is_full, is_loose, lacks_parent, misses_target, table_has_null, table_has_twins, unique_lists}
use Rattle.lq_model.specs.Tables.{name_at, names_at, rename_column, with_column_renamed}
use Rattle.lq_model.specs.Sound.{IsSound, IsSoundTable, are_columns}
use Rattle.lq_model.specs.declared.caller.By.{By}
use Rattle.lq_model.specs.declared.column.Column.{Column}
use Rattle.lq_model.specs.declared.constraint.ForeignKey.{ForeignKey}
use Rattle.lq_model.specs.declared.constraint.Key.{Key}
use Rattle.lq_model.specs.declared.constraint.Unique.{Unique}
use Rattle.lq_model.specs.declared.index.Index.{Index}
use Rattle.lq_model.proofs.Decide.{here}
use Rattle.lq_model.proofs.Entries.{lookup-entries}
use Rattle.lq_model.proofs.Kept.{never}
use Rattle.lq_model.proofs.Lists.{and_true, any-map, any_less, any_less_both, any_none, any_same, map-map, map_same, named_itself, not_false, not_true, or_false, or_left, or_right, other_way, same_name, true_false, whether}
use Rattle.lq_model.proofs.Maps.{below_gone, not_some, sorted_entries}
use Rattle.lq_model.proofs.Untouched.{IsUntouched, aims, not_in_columns, not_in_lists, same_list, unused}
use Rattle.lq_decide.specs.Faults.{no_faults, judged}
use Rattle.lq_decide.proofs.Judge.{IsFound, judge, quiet_found}
use Rattle.lq_decide.proofs.Nulls.{nulls_less}
use Rattle.lq_decide.proofs.OneTable.{picks}
use Rattle.lq_decide.proofs.Tables.{lacks_at}
use Rattle.lq_decide.proofs.Touched.{in_no_unique}

-- names where a has become b, in the table that has the column
module _ (own : Bool) (a b : Name) where
  abbrev ρ : Name → Name
  ρ n = name_at own a b n

  abbrev as_renamed : Column → Column
  as_renamed c = record c { name = ρ c.name }

  named_too : (m n : Name) → is_named m n ≡ true → is_named (ρ m) (ρ n) ≡ true
  named_too m n h = ap (λ x. is_named (ρ m) (ρ x)) (sym (same_name m n h)) ∙ named_itself (ρ m)

  -- different names stay different, where neither is b
  apart_too : (m n : Name) → (own ≡ true → is_named b m ≡ false) → (own ≡ true → is_named b n ≡ false) → is_named m n ≡ false → is_named (ρ m) (ρ n) ≡ false
  apart_too m n p q h = elim own as (λ o. (o ≡ true → is_named b m ≡ false) → (o ≡ true → is_named b n ≡ false) → is_named (name_at o a b m) (name_at o a b n) ≡ false) [
    | false ↦ λ x y. h
    | true ↦ λ x y. elim (is_named a m) as (λ r. is_named a m ≡ r → is_named (cond r b m) (renamed a b n) ≡ false) [
      | true ↦ λ r. elim (is_named a n) as (λ s. is_named a n ≡ s → is_named b (cond s b n) ≡ false) [
        | true ↦ λ s. true_false (ap (λ k. is_named k n) (sym (same_name a m r)) ∙ s) h
        | false ↦ λ s. y refl
      ] refl
      | false ↦ λ r. elim (is_named a n) as (λ s. is_named m (cond s b n) ≡ false) [
        | true ↦ other_way b m (x refl)
        | false ↦ h
      ]
    ] refl
  ] p q

  value_too : (m : Name) (cs : List Column) (row : List Value) → (own ≡ true → is_named b m ≡ false) → (own ≡ true → is_in b (map (λ c. c.name) cs) ≡ false) → by_name (map as_renamed cs) row (ρ m) ≡ by_name cs row m
  value_too m [] row p q = refl
  value_too m (c ∷ cs) [] p q = refl
  value_too m (c ∷ cs) (v ∷ row) p q = elim (is_named m c.name) as (λ r. is_named m c.name ≡ r → cond (is_named (ρ m) (ρ c.name)) v (by_name (map as_renamed cs) row (ρ m)) ≡ cond r v (by_name cs row m)) [
    | true ↦ λ r. ap (λ x. cond x v (by_name (map as_renamed cs) row (ρ m))) (named_too m c.name r)
    | false ↦ λ r. ap (λ x. cond x v (by_name (map as_renamed cs) row (ρ m))) (apart_too m c.name p (λ o. or_left (is_named b c.name) _ (q o)) r) ∙ value_too m cs row p (λ o. or_right (is_named b c.name) _ (q o))
  ] refl

  pub picked_too : (ns : List Name) (cs : List Column) (row : List Value) → (own ≡ true → is_in b ns ≡ false) → (own ≡ true → is_in b (map (λ c. c.name) cs) ≡ false) → picked (map as_renamed cs) (map ρ ns) row ≡ picked cs ns row
  picked_too [] cs row p q = refl
  picked_too (n ∷ ns) cs row p q = ap (λ v. v ∷ picked (map as_renamed cs) (map ρ ns) row) (value_too n cs row (λ o. or_left (is_named b n) _ (p o)) q) ∙ ap (λ vs. by_name cs row n ∷ vs) (picked_too ns cs row (λ o. or_right (is_named b n) _ (p o)) q)

map_appended : {A B : Type 0} (f : A → B) (xs ys : List A) → map f (xs ++ ys) ≡ map f xs ++ map f ys
map_appended f [] ys = refl
map_appended f (x ∷ xs) ys = ap (λ zs. f x ∷ zs) (map_appended f xs ys)

names_same : (ns : List Name) → same_names ns ns ≡ true
names_same [] = refl
names_same (n ∷ ns) = and_true _ _ (named_itself n) (names_same ns)

-- a list is still found when it and all others are renamed
found_too : (r : List Name → List Name) (ns : List Name) (ls : List (List Name)) → list_any (same_names ns) ls ≡ true → list_any (same_names (r ns)) (map r ls) ≡ true
found_too r ns [] h = h
found_too r ns (ms ∷ ls) h = whether (same_names ns ms)
    (λ is. ap (λ ks. same_names (r ns) (r ks) || list_any (same_names (r ns)) (map r ls)) (sym (same_list ns ms is)) ∙ ap (λ x. x || list_any (same_names (r ns)) (map r ls)) (names_same (r ns)))
    (λ no. either (same_names (r ns) (r ms)) _ (found_too r ns ls (ap (λ x. x || list_any (same_names ns) ls) (sym no) ∙ h))) where
      either : (x y : Bool) → y ≡ true → (x || y) ≡ true
      either true y h = refl
      either false y h = h

-- the table with the column renamed
module _ (t : Name) (own : Bool) (a b : Name) (x : Table) where
  abbrev x' : Table
  x' = with_column_renamed t own a b x

  targets_too : target_lists x' ≡ map (names_at own a b) (target_lists x)
  targets_too =
      ap (λ ks. ks ++ map (λ (u : Unique). u.columns) x'.uniques) (of_key x.key)
      ∙ ap (λ us. map (names_at own a b) (map (λ (k : Key). k.columns) (key_list x.key)) ++ us) (map-map (λ (u : Unique). u.columns) (λ (u : Unique). record u { columns = names_at own a b u.columns }) x.uniques ∙ sym (map-map (names_at own a b) (λ (u : Unique). u.columns) x.uniques))
      ∙ sym (map_appended (names_at own a b) (map (λ (k : Key). k.columns) (key_list x.key)) (map (λ (u : Unique). u.columns) x.uniques)) where
        of_key : (o : Option Key) → map (λ (k : Key). k.columns) (key_list (option_map (λ (k : Key). record k { columns = names_at own a b k.columns }) o)) ≡ map (names_at own a b) (map (λ (k : Key). k.columns) (key_list o))
        of_key None = refl
        of_key (Some k) = refl

  uniques_too : unique_lists x' ≡ map (names_at own a b) (unique_lists x)
  uniques_too =
      ap (λ ts. ts ++ map (λ (i : Index). i.columns) (filter (λ i. i.unique) x'.indexes)) targets_too
      ∙ ap (λ is. map (names_at own a b) (target_lists x) ++ is) (of_indexes x.indexes)
      ∙ sym (map_appended (names_at own a b) (target_lists x) (map (λ (i : Index). i.columns) (filter (λ i. i.unique) x.indexes))) where
        of_indexes : (is : List Index) → map (λ (i : Index). i.columns) (filter (λ i. i.unique) (map (λ (i : Index). record i { columns = names_at own a b i.columns }) is)) ≡ map (names_at own a b) (map (λ (i : Index). i.columns) (filter (λ i. i.unique) is))
        of_indexes [] = refl
        of_indexes (i ∷ is) = elim i.unique as (λ u. map (λ (i : Index). i.columns) (cond u (record i { columns = names_at own a b i.columns } ∷ filter (λ i. i.unique) (map (λ (i : Index). record i { columns = names_at own a b i.columns }) is)) (filter (λ i. i.unique) (map (λ (i : Index). record i { columns = names_at own a b i.columns }) is))) ≡ map (names_at own a b) (map (λ (i : Index). i.columns) (cond u (i ∷ filter (λ i. i.unique) is) (filter (λ i. i.unique) is)))) [
          | true ↦ ap (λ ls. names_at own a b i.columns ∷ ls) (of_indexes is)
          | false ↦ of_indexes is
        ]

  nulls_too : table_has_null x ≡ false → table_has_null x' ≡ false
  nulls_too none = any_less (has_bad_null x'.columns) (has_bad_null x.columns) x.rows (λ r h. nulls_less (λ (c : Column). record c { name = name_at own a b c.name }) (λ c n. n) x.columns r h) none

  module _ (new : own ≡ true → has_column x b ≡ false) where
    picks_too : (ns : List Name) → (own ≡ true → is_in b ns ≡ false) → picks x' (names_at own a b ns) ≡ picks x ns
    picks_too ns out = map_same _ _ x.rows (λ r. picked_too own a b ns x.columns r out new)

    not_b : own ≡ true → (m : Name) → is_named b m ≡ true → has_column x m ≡ false
    not_b o m p = ap (λ n. has_column x n) (sym (same_name b m p)) ∙ new o

    when_own : (ns : List Name) → (own && is_in b ns) ≡ false → own ≡ true → is_in b ns ≡ false
    when_own ns h o = ap (λ z. z && is_in b ns) (sym o) ∙ h

    twins_too : (d : Dialect) → IsSoundTable d x → table_has_twins x ≡ false → table_has_twins x' ≡ false
    twins_too d fine none =
        ap (list_any (λ ns. has_equals (picks x' ns))) uniques_too
        ∙ any-map (λ ns. has_equals (picks x' ns)) (names_at own a b) (unique_lists x)
        ∙ any_less_both (λ ns. own && is_in b ns) (λ ns. has_equals (picks x ns)) _ (unique_lists x) (λ ns out h. ap has_equals (picks_too ns (when_own ns out)) ∙ h)
        (whether own
        (λ o. any_less (λ ns. own && is_in b ns) (is_in b) (unique_lists x) (λ ns h. ap (λ z. z && is_in b ns) o ∙ h) (in_no_unique (is_in b) x (not_in_lists (is_named b) x (not_b o) d fine)))
        (λ o. any_same (λ ns. own && is_in b ns) (λ ns. false) (unique_lists x) (λ ns. ap (λ z. z && is_in b ns) o) ∙ never (unique_lists x)))
        none

-- what holds of each entry of a map, by its look-up, in order
each_entry : (p q : Name × Table → Bool) (es : List (Name × Table)) → T (is_sorted name_cmp es) → ((n : Name) (x : Table) → lookup (is_named n) es ≡ Some x → p (n, x) ≡ false → q (n, x) ≡ false) → list_any p es ≡ false → list_any q es ≡ false
each_entry p q [] rise h none = refl
each_entry p q (e ∷ es) rise h none = or_false _ _
    (h e.0 e.1 (ap (λ b. cond b (Some e.1) (lookup (is_named e.0) es)) (named_itself e.0)) (or_left (p e) _ none))
    (each_entry p q es (later _ _ rise) (λ n x is. h n x (whether (is_named n e.0)
    (λ same. not_some (sym is ∙ ap (λ m. lookup (is_named m) es) (same_name n e.0 same) ∙ below_gone e.0 es (sooner _ _ rise)))
    (λ apart. ap (λ b. cond b (Some e.1) (lookup (is_named n) es)) apart ∙ is))) (or_right (p e) _ none))
  where
    sooner : (x y : Bool) → T (x && y) → T x
    sooner true y p = tt
    sooner false y p = p

    later : (x y : Bool) → T (x && y) → T y
    later true y p = p
    later false y p = absurd p

module _ (d : Dialect) (t a b : Name) (c : Catalogue) (sound : IsSound d c) (there : table_of c t ≡ Some (the_table c t)) (new : has_column (the_table c t) b ≡ false) where
  abbrev g : Name → Table → Table
  g n = with_column_renamed t (is_named t n) a b

  abbrev e : Catalogue
  e = record c { tables = map (λ x. (x.0, with_column_renamed t (is_named t x.0) a b x.1)) c.tables }

  looked : (q : Name) → the_table e q ≡ g q (the_table c q)
  looked q = ap (λ o. unwrap_or o no_table) (lookup-entries q g c.tables) ∙ at (table_of c q) where
    at : (o : Option Table) → unwrap_or (option_map (g q) o) no_table ≡ g q (unwrap_or o no_table)
    at None = refl
    at (Some x) = refl

  -- a table of the name t is the one that has no column b
  new_in : (q : Name) → is_named t q ≡ true → has_column (the_table c q) b ≡ false
  new_in q p = ap (λ k. has_column (the_table c k) b) (sym (same_name t q p)) ∙ new

  new_at : (q : Name) (x : Table) → table_of c q ≡ Some x → is_named t q ≡ true → has_column x b ≡ false
  new_at q x is p = ap (λ y. has_column y b) (sym (ap (λ o. unwrap_or o no_table) is)) ∙ new_in q p

  free : IsUntouched c t (is_named b)
  free = unused (is_named b) d c t sound there (λ m p. ap (has_column (the_table c t)) (sym (same_name b m p)) ∙ new)

  abbrev turned : Name → ForeignKey → ForeignKey
  turned q f = record f { columns = names_at (is_named t q) a b f.columns; targets = names_at (is_named t f.table) a b f.targets }

  -- what no table had, none has
  none_turned : (p q : Table → Bool) → ((n : Name) (x : Table) → table_of c n ≡ Some x → q x ≡ false → p (g n x) ≡ false) → list_any (λ x. q x.1) c.tables ≡ false → list_any (λ x. p x.1) e.tables ≡ false
  none_turned p q h none = any-map (λ (x : Name × Table). p x.1) (λ (x : Name × Table). (x.0, g x.0 x.1)) c.tables
      ∙ each_entry (λ (x : Name × Table). q x.1) (λ (x : Name × Table). p (g x.0 x.1)) c.tables (sorted_entries c.tables sound.ordered) (λ n x is none. h n x is none) none

  hits_too : (q : Name) (f : ForeignKey) → misses_target c f ≡ false → misses_target e (turned q f) ≡ false
  hits_too q f hits =
      let own = is_named t f.table in
      ap (λ y. not (list_any (same_names (names_at own a b f.targets)) (target_lists y))) (looked f.table)
      ∙ ap (λ ls. not (list_any (same_names (names_at own a b f.targets)) ls)) (targets_too t own a b (the_table c f.table))
      ∙ not_true _ (found_too (names_at own a b) f.targets (target_lists (the_table c f.table)) (not_false _ hits))

  aimed : is_loose e ≡ false
  aimed = none_turned (λ x. list_any (misses_target e) x.foreign) (λ x. list_any (misses_target c) x.foreign)
      (λ n x is none. any-map (misses_target e) (turned n) x.foreign ∙ any_less _ (misses_target c) x.foreign (λ f h. hits_too n f h) none) sound.aimed

  lacks_too : (q : Name) (x : Table) → table_of c q ≡ Some x → (f : ForeignKey) → aims (is_named b) t f ≡ false → (is_named t q ≡ true → is_in b f.columns ≡ false) → (r : List Value) → lacks_parent e (g q x).columns (turned q f) r ≡ lacks_parent c x.columns f r
  lacks_too q x is f out own_out r =
      let own = is_named t f.table in
      let y = the_table c f.table in
      ap (λ z. lacks_at z (turned q f) (picked (g q x).columns (turned q f).columns r)) (looked f.table)
      ∙ ap (λ vs. lacks_at (g f.table y) (turned q f) vs) (picked_too (is_named t q) a b f.columns x.columns r own_out (new_at q x is))
      ∙ ap (λ z. not (list_any is_null (picked x.columns f.columns r)) && not z)
      (any_same _ _ y.rows (λ s. ap (same_values (picked x.columns f.columns r)) (picked_too own a b f.targets y.columns s (λ o. ap (λ z. z && is_in b f.targets) (sym o) ∙ out) (λ o. new_in f.table o))))

  orphans_too : (q : Name) (x : Table) → table_of c q ≡ Some x → (list_any (aims (is_named b) t) x.foreign || has_orphan c x) ≡ false → has_orphan e (g q x) ≡ false
  orphans_too q x is none =
      any-map (λ f. list_any (lacks_parent e (g q x).columns f) x.rows) (turned q) x.foreign
      ∙ any_less_both (λ f. aims (is_named b) t f || list_any (lacks_parent c x.columns f) x.rows) (λ f. not (are_columns x f.columns)) _ x.foreign
      (λ f h k. any_same _ (lacks_parent c x.columns f) x.rows (λ r. lacks_too q x is f (or_left (aims (is_named b) t f) _ h) (λ o. not_in_columns (is_named b) x (λ m p. ap (has_column x) (sym (same_name b m p)) ∙ new_at q x is o) f.columns (not_false _ k)) r) ∙ or_right (aims (is_named b) t f) _ h)
      (any_less_both (aims (is_named b) t) (λ f. list_any (lacks_parent c x.columns f) x.rows) _ x.foreign (λ f h k. or_false _ _ h k) (or_left (list_any (aims (is_named b) t) x.foreign) _ none) (or_right (list_any (aims (is_named b) t) x.foreign) _ none))
      (any_none _ (λ f. are_columns x f.columns) x.foreign (λ f h. not_true _ h) (sound.tables q x is).foreign)

  turned_found : IsFound (t ∷ []) e no_faults
  turned_found = quiet_found false (t ∷ []) e
      (none_turned table_has_null table_has_null (λ n x is h. nulls_too t (is_named t n) a b x h) sound.no_null)
      (none_turned table_has_twins table_has_twins (λ n x is h. twins_too t (is_named t n) a b x (new_at n x is) d (sound.tables n x is) h) sound.no_twins)
      (none_turned (has_orphan e) (λ x. list_any (aims (is_named b) t) x.foreign || has_orphan c x) (λ n x is h. orphans_too n x is h)
      (any_less_both (λ x. list_any (aims (is_named b) t) x.1.foreign) (λ x. has_orphan c x.1) _ c.tables (λ x h k. or_false _ _ h k) free.aimed sound.parents))
      (none_turned is_full is_full (λ n x is h. h) sound.small)

pub rename_column_judged : (by : By) (d : Dialect) (t a b : Name) (c : Catalogue) → IsSound d c → decide (rename_column by d t a b c) ≡ judged (rename_column by d t a b c) no_faults
rename_column_judged by d t a b c sound =
    judge (rename_column by d t a b c) no_faults
    (λ first. aimed d t a b c sound (here c t (or_left _ _ first.missing)) first.exists)
    (λ all. turned_found d t a b c sound (here c t (or_left _ _ all.missing)) all.exists)
