-- What no fault is found in can be written: a catalogue that is sound, in which each name is a name.
use Rattle.std.proofs.Common.{append_assoc, arith, ap, subst, sym, tests, ◌<◌, ◌^◌, ◌∙◌}
use Rattle.std.proofs.Math.Nat.{min-le_right, pow-le-pow_right}
use Rattle.std.proofs.lemmas.Int.{ints}
use Rattle.std.proofs.lemmas.Bool.Decides.{nat_tests}
use Rattle.std.specs.List.{AllByRecursion, find, list_all, list_any}
use Rattle.std.specs.Option.{option_map, option_or, unwrap_or}
use Rattle.std.specs.Prelude.{Bool, List, None, Option, Some, [], cond, false, if◌then◌else◌, is_some, map, min, nat_le, nat_lt, negsuc, not, pos, refl, true, unsigned_abs, ℕ, ℤ, ◌&&◌, ◌++◌, ◌==◌, ◌∷◌, ◌≡◌, ◌||◌, ◌≤◌}
use Rattle.std.specs.Ordering.{int_eq}
use Rattle.lq_base.specs.Kind.{is_kind}
use Rattle.lq_base.specs.Moment.{IsMoment, is_moment}
use Rattle.lq_base.specs.Name.{is_elsewhere, is_name, is_name_key, is_object}
use Rattle.lq_base.specs.Number.{has_digits}
use Rattle.lq_base.specs.Value.{is_int32, is_int64, is_value_of}
use Rattle.lq_base.specs.declared.dialect.Dialect.{Dialect}
use Rattle.lq_base.specs.declared.dialect.Dialect.TheVariants.{Mysql, Postgresql}
use Rattle.lq_base.specs.declared.kind.Kind.{Kind}
use Rattle.lq_base.specs.declared.kind.Kind.TheVariants as kind
use Rattle.lq_base.specs.declared.name.Name.{Name}
use Rattle.lq_base.specs.declared.value.Value.{Value}
use Rattle.lq_base.specs.declared.value.Value.TheVariants as value
use Rattle.lq_generate.specs.Created.{key_name_of, named_in}
use Rattle.lq_generate.specs.Faults.{Place, added_fault, column_of, created_fault, first_fault, first_of, first_sequence, first_table, first_view, foreign_fault, foreign_faults, is_lost, is_out, is_unwritten, key_fault, listed_fault, may_be_listed, own_key_fault}
use Rattle.lq_model.proofs.Lists.{all-append_left, all-append_right, all_more, and_left, and_right, none_all, or_left, or_right}
use Rattle.lq_model.specs.Catalogue.{Catalogue, Sequence, Table, View, table_of, the_table, is_empty as has_none, column_lists, key_list, target_lists}
use Rattle.lq_model.specs.Kinds.{kinds_at, kinds_differ, same_kinds}
use Rattle.lq_model.specs.Sound.{IsSound, IsSoundTable, are_columns, default_fits}
use Rattle.lq_model.specs.SqlText.{query_in}
use Rattle.lq_model.specs.Step.{is_query}
use Rattle.lq_model.specs.TestText.{query_text}
use Rattle.lq_model.specs.declared.column.Column.{Column}
use Rattle.lq_model.specs.declared.constraint.ForeignKey.{ForeignKey}
use Rattle.lq_model.specs.declared.constraint.Key.{Key}
use Rattle.lq_model.specs.declared.constraint.Unique.{Unique}
use Rattle.lq_model.specs.declared.index.Index.{Index}
use Rattle.lq_model.specs.declared.query.Query.{Query}
use Rattle.lq_tree.specs.Items.{is_empty}
use Rattle.lq_views.specs.CreateSequence.{is_not_zero}
use Rattle.laws_made.specs.CreatedAs.{IsWritten}
use Rattle.laws_stages.proofs.Filled.{keyed_part, made_part}
use Rattle.laws_stages.proofs.Woven.{whole_there}
use Rattle.laws_generate.proofs.CreatedRead.{Fits, IsWritable}
use Rattle.laws_generate.proofs.NamesListed.{AreListed}
use Rattle.laws_generate.proofs.PlainNames.{columns_plain, each_object, foreign_plain, indexes_plain, keys_plain, list_plain, looked_object, looked_plain, may_front, objects_plain, own_public, tables_keyed, target_there, targets_plain, uniques_plain}
use Rattle.laws_generate.proofs.Queries.{queries_written}
use Rattle.lq_named.specs.Named.{HasNames, TableHasNames}
use Rattle.laws_stages.specs.Making.{keyed, made}

-- what can be written

pub record CanFill (d : Dialect) (e : Name × Table) : Type 0 where
  pub name : is_object d e.0 ≡ true
  pub key : (k : Key) → e.1.key ≡ Some k → list_any (λ (c : Column). c.numbered) e.1.columns ≡ false → AreListed k.columns × Fits is_name (named_in d (Some k))
  pub uniques : AllByRecursion (λ (u : Unique). AreListed u.columns × (is_name u.name ≡ true)) e.1.uniques
  pub indexes : AllByRecursion (λ (x : Index). (is_empty x.columns ≡ false) × (AllByRecursion (λ n. is_name n ≡ true) x.columns × (is_name x.name ≡ true))) e.1.indexes
  pub foreign : AllByRecursion (λ (f : ForeignKey). ((is_name f.name ≡ true) × (is_object d f.table ≡ true)) × (AreListed f.columns × AreListed f.targets)) e.1.foreign

pub record CanTable (d : Dialect) (e : Name × Table) : Type 0 where
  pub name : is_object d e.0 ≡ true
  pub some : is_empty e.1.columns ≡ false
  pub columns : AllByRecursion (IsWritable d e.1.key) e.1.columns

abbrev pub CanSequence : Name × Sequence → Type 0
CanSequence s = (is_name s.0 ≡ true) × (is_not_zero s.1.step ≡ true)

abbrev pub CanView : Dialect → Name × View → Type 0
CanView d v = (is_name v.0 ≡ true) × (query_in d (query_text d v.1.query) ≡ Some v.1.query)

pub record Can (d : Dialect) (c : Catalogue) : Type 0 where
  pub sequences : AllByRecursion CanSequence c.sequences
  pub tables : AllByRecursion (CanTable d) c.tables
  pub fillings : AllByRecursion (CanFill d) c.tables
  pub views : AllByRecursion (CanView d) c.views

-- lists

true_false : {A : Type 0} → (let b : Bool = true in b) ≡ false → A
true_false h = absurd Prim.cc

each_of : {A : Type 0} (p : A → Bool) (xs : List A) → list_all p xs ≡ true → AllByRecursion (λ x. p x ≡ true) xs
each_of p [] h = tt
each_of p (x ∷ xs) h = (and_left (p x) _ h, each_of p xs (and_right (p x) _ h))

each_map : {A B : Type 0} (p : B → Bool) (f : A → B) (xs : List A) → list_all p (map f xs) ≡ true → AllByRecursion (λ x. p (f x) ≡ true) xs
each_map p f [] h = tt
each_map p f (x ∷ xs) h = (and_left (p (f x)) _ h, each_map p f xs (and_right (p (f x)) _ h))

both : {A : Type 0} (P Q : A → Type 0) (xs : List A) → AllByRecursion P xs → AllByRecursion Q xs → AllByRecursion (λ x. P x × Q x) xs
both P Q [] h g = tt
both P Q (x ∷ xs) h g = ((h.0, g.0), both P Q xs h.1 g.1)

-- what holds of each in its place holds of all
gathered : {A : Type 0} (P : A → Type 0) (all done rest : List A) → all ≡ done ++ rest → ((done : List A) (x : A) (more : List A) → all ≡ done ++ x ∷ more → P x) → AllByRecursion P rest
gathered P all done [] is each = tt
gathered P all done (x ∷ more) is each = (each done x more is, gathered P all (done ++ x ∷ []) more (is ∙ sym (append_assoc done (x ∷ []) more)) each)

each_so : {A : Type 0} (P Q : A → Type 0) → ((x : A) → P x → Q x) → (xs : List A) → AllByRecursion P xs → AllByRecursion Q xs
each_so P Q f [] h = tt
each_so P Q f (x ∷ xs) h = (f x h.0, each_so P Q f xs h.1)

-- where nothing is found

or_none : {A : Type 0} (a b : Option A) → option_or a b ≡ None → (a ≡ None) × (b ≡ None)
or_none None b h = (refl, h)
or_none (Some x) b h = absurd Prim.cc

map_none : {A B : Type 0} (f : A → B) (o : Option A) → option_map f o ≡ None → o ≡ None
map_none f None h = refl
map_none f (Some x) h = absurd Prim.cc

first_none : {A : Type 0} (f : A → Option Place) (xs : List A) → first_of f xs ≡ None → AllByRecursion (λ x. f x ≡ None) xs
first_none f [] h = tt
first_none f (x ∷ xs) h = let e = or_none (f x) (first_of f xs) h in (e.0, first_none f xs e.1)

find_none : {A : Type 0} (p : A → Bool) (xs : List A) → find p xs ≡ None → list_all (λ x. not (p x)) xs ≡ true
find_none p [] h = refl
find_none p (x ∷ xs) h = by (p x) h (find_none p xs) where
  by : (b : Bool) → cond b (Some x) (find p xs) ≡ None → (find p xs ≡ None → list_all (λ x. not (p x)) xs ≡ true) → (not b && list_all (λ x. not (p x)) xs) ≡ true
  by true g more = absurd Prim.cc
  by false g more = more g

twice : (b : Bool) → not (not b) ≡ true → b ≡ true
twice true h = refl
twice false h = h

negated : (b : Bool) → not b ≡ true → b ≡ false
negated true h = absurd Prim.cc
negated false h = refl

listed_there : (t : Name) (ns : List Name) → listed_fault t ns ≡ None → list_all may_be_listed ns ≡ true
listed_there t ns h =
    all_more (λ n. not (not (may_be_listed n))) may_be_listed ns (λ n. twice (may_be_listed n))
    (find_none (λ n. not (may_be_listed n)) ns (map_none (λ (n : Name). n) _ (column_none (find (λ n. not (may_be_listed n)) ns) h))) where
      column_none : (o : Option Name) → column_of t o ≡ None → option_map (λ (n : Name). n) o ≡ None
      column_none None g = refl
      column_none (Some n) g = absurd Prim.cc

some_there : (it : Table) (ns : List Name) → are_columns it ns ≡ true → is_empty ns ≡ false
some_there it [] h = absurd Prim.cc
some_there it (n ∷ ns) h = refl

listed_names : (it : Table) (t : Name) (ns : List Name) → are_columns it ns ≡ true → listed_fault t ns ≡ None → list_all is_name ns ≡ true → AreListed ns
listed_names it t ns some none names = record { some = some_there it ns some; listed = listed_there t ns none; names = names }

-- defaults

small_32 : (n : ℤ) → is_int32 n ≡ true → unsigned_abs n < 10 ^ 38
small_32 n h = grind (arith, ints, tests, h)

small_64 : (n : ℤ) → is_int64 n ≡ true → unsigned_abs n < 10 ^ 38
small_64 n h = grind (arith, ints, tests, h)

moment_is : (ms : ℤ) → is_moment ms ≡ true → IsMoment ms
moment_is ms h = grind (arith, ints, tests)

not_wide : (scale : ℕ) → nat_le 38 scale ≡ false → scale < 38
not_wide scale h = grind (arith, tests, nat_tests, h)

few_digits : (digits n : ℕ) → has_digits digits n ≡ true → n < 10 ^ 38
few_digits digits n h = below n (10 ^ min digits 38) (10 ^ 38) h (pow-le-pow_right {n = 10} ten {i = min digits 38} {j = 38} (min-le_right digits 38)) where
  ten : 0 < 10
  ten = omega arith

  below : (n a b : ℕ) → nat_lt n a ≡ true → a ≤ b → n < b
  below n a b g le = grind (arith, tests, nat_tests, g, le)

written : (k : Kind) (o : Option Value) → is_kind k ≡ true → is_value_of k (unwrap_or o value.Null) ≡ true → is_unwritten o ≡ false → IsWritten o
unfolding is_value_of
written k None kinded fits there = tt
written k (Some value.Null) kinded fits there = true_false there
written k (Some (value.Text t)) kinded fits there = tt
written k (Some (value.Bool b)) kinded fits there = tt
written kind.Int (Some (value.Int n)) kinded fits there = small_32 n fits
written kind.BigInt (Some (value.Int n)) kinded fits there = small_64 n fits
written kind.Moment (Some (value.Moment ms)) kinded fits there = moment_is ms fits
written (kind.Decimal digits places) (Some (value.Fixed units scale)) kinded fits there =
    (few_digits digits (unsigned_abs units) (and_right (scale == places) _ fits), not_wide scale there)
written k (Some v) kinded fits there = true_false (sym fits)

-- a table

module _ (d : Dialect) (c : Catalogue) (e : Name × Table) (sound : IsSoundTable d e.1) (names : TableHasNames e) (alike : list_any (kinds_differ c e.1) e.1.foreign ≡ false)
    (object : is_object d e.0 ≡ true) (objects : AllByRecursion (λ (x : Name × Table). is_object d x.0 ≡ true) c.tables) (plain : AllByRecursion (λ (x : Name × Table). list_all (λ (y : Column). is_name y.name) x.1.columns ≡ true) c.tables)
    (created : created_fault e ≡ None) (added : added_fault e ≡ None) (aimed : foreign_faults e ≡ None) where
  abbrev it : Table
  it = e.1

  targets_there : list_all (are_columns it) (target_lists it) ≡ true
  targets_there = all-append_left (are_columns it) (target_lists it) (map (λ (x : Index). x.columns) it.indexes) sound.lists

  keys_there : AllByRecursion (λ (k : Key). are_columns it k.columns ≡ true) (key_list it.key)
  keys_there = each_map (are_columns it) (λ (k : Key). k.columns) (key_list it.key) (all-append_left (are_columns it) (map (λ (k : Key). k.columns) (key_list it.key)) (map (λ (u : Unique). u.columns) it.uniques) targets_there)

  uniques_there : AllByRecursion (λ (u : Unique). are_columns it u.columns ≡ true) it.uniques
  uniques_there = each_map (are_columns it) (λ (u : Unique). u.columns) it.uniques (all-append_right (are_columns it) (map (λ (k : Key). k.columns) (key_list it.key)) (map (λ (u : Unique). u.columns) it.uniques) targets_there)

  indexes_there : AllByRecursion (λ (x : Index). are_columns it x.columns ≡ true) it.indexes
  indexes_there = each_map (are_columns it) (λ (x : Index). x.columns) it.indexes (all-append_right (are_columns it) (target_lists it) (map (λ (x : Index). x.columns) it.indexes) sound.lists)

  -- the key

  key_named : (key : Option Key) → list_all (λ (k : Key). is_name k.name) (key_list key) ≡ true → Fits is_name (named_in d key)
  key_named key h = by d key h where
    by : (d : Dialect) (key : Option Key) → list_all (λ (k : Key). is_name k.name) (key_list key) ≡ true → Fits is_name (named_in d key)
    by Mysql key g = tt
    by Postgresql None g = tt
    by Postgresql (Some k) g = and_left (is_name k.name) _ g

  key_of_column : (x : Column) → Fits is_name (key_name_of d it.key x)
  key_of_column x = by x.numbered where
    by : (b : Bool) → Fits is_name (if b then named_in d it.key else None)
    by true = key_named it.key (keys_plain d e sound names)
    by false = tt

  own_key : (k : Key) → it.key ≡ Some k → list_any (λ (c : Column). c.numbered) it.columns ≡ false → AreListed k.columns × Fits is_name (named_in d (Some k))
  own_key k has unnumbered =
      let fault : key_fault e.0 it.key ≡ None = ap (λ b. cond b None (key_fault e.0 it.key)) (sym unnumbered) ∙ (or_none (own_key_fault e) _ added).0 in
      let named : list_all (λ (k : Key). is_name k.name) (key_list (Some k)) ≡ true = subst (λ key. list_all (λ (k : Key). is_name k.name) (key_list key) ≡ true) has (keys_plain d e sound names) in
      let there : AllByRecursion (λ (k : Key). are_columns it k.columns ≡ true) (key_list (Some k)) = subst (λ key. AllByRecursion (λ (k : Key). are_columns it k.columns ≡ true) (key_list key)) has keys_there in
      (listed_names it e.0 k.columns there.0 (subst (λ key. key_fault e.0 key ≡ None) has fault) (list_plain d e sound names k.columns there.0), key_named (Some k) named)

  -- unique constraints and indexes

  uniques_can : AllByRecursion (λ (u : Unique). AreListed u.columns × (is_name u.name ≡ true)) it.uniques
  uniques_can =
      each_so (λ (u : Unique). (is_name u.name ≡ true) × ((are_columns it u.columns ≡ true) × (listed_fault e.0 u.columns ≡ None))) (λ (u : Unique). AreListed u.columns × (is_name u.name ≡ true))
      (λ u h. (listed_names it e.0 u.columns h.1.0 h.1.1 (list_plain d e sound names u.columns h.1.0), h.0)) it.uniques
      (both _ _ it.uniques (each_of (λ (u : Unique). is_name u.name) it.uniques (uniques_plain d e sound names)) (both _ _ it.uniques uniques_there (first_none (λ (u : Unique). listed_fault e.0 u.columns) it.uniques (or_none (own_key_fault e) _ added).1)))

  indexes_can : AllByRecursion (λ (x : Index). (is_empty x.columns ≡ false) × (AllByRecursion (λ n. is_name n ≡ true) x.columns × (is_name x.name ≡ true))) it.indexes
  indexes_can =
      each_so (λ (x : Index). (is_name x.name ≡ true) × (are_columns it x.columns ≡ true)) (λ (x : Index). (is_empty x.columns ≡ false) × (AllByRecursion (λ n. is_name n ≡ true) x.columns × (is_name x.name ≡ true)))
      (λ x h. (some_there it x.columns h.1, (each_of is_name x.columns (list_plain d e sound names x.columns h.1), h.0))) it.indexes
      (both _ _ it.indexes (each_of (λ (x : Index). is_name x.name) it.indexes (indexes_plain d e sound names)) indexes_there)

  -- foreign keys: as many targets as columns

  some_targets : (f : ForeignKey) → are_columns it f.columns ≡ true → not (kinds_differ c it f) ≡ true → is_empty f.targets ≡ false
  some_targets f there alike = by f.columns f.targets there (twice (same_kinds (kinds_at it f.columns) (kinds_at (the_table c f.table) f.targets)) alike) where
    by : (ns ts : List Name) → are_columns it ns ≡ true → same_kinds (kinds_at it ns) (kinds_at (the_table c f.table) ts) ≡ true → is_empty ts ≡ false
    by [] ts there same = absurd Prim.cc
    by (n ∷ ns) [] there same = absurd Prim.cc
    by (n ∷ ns) (t ∷ ts) there same = refl

  there_with : (f : ForeignKey) → is_empty f.targets ≡ false → same_kinds (kinds_at it f.columns) (kinds_at (the_table c f.table) f.targets) ≡ true → is_some (table_of c f.table) ≡ true
  there_with f = by f.targets where
    by : (ts : List Name) → is_empty ts ≡ false → same_kinds (kinds_at it f.columns) (kinds_at (the_table c f.table) ts) ≡ true → is_some (table_of c f.table) ≡ true
    by [] some same = absurd Prim.cc
    by (t ∷ ts) some same = target_there f.table c.tables (kinds_at it f.columns) t ts same

  foreign_can : AllByRecursion (λ (f : ForeignKey). ((is_name f.name ≡ true) × (is_object d f.table ≡ true)) × (AreListed f.columns × AreListed f.targets)) it.foreign
  foreign_can =
      each_so (λ (f : ForeignKey). ((is_name f.name ≡ true) × (are_columns it f.columns ≡ true)) × ((not (kinds_differ c it f) ≡ true) × (foreign_fault e.0 f ≡ None)))
      (λ (f : ForeignKey). ((is_name f.name ≡ true) × (is_object d f.table ≡ true)) × (AreListed f.columns × AreListed f.targets)) one it.foreign
      (both _ _ it.foreign (both _ _ it.foreign (each_of (λ (f : ForeignKey). is_name f.name) it.foreign (foreign_plain d e sound names)) (each_of (λ (f : ForeignKey). are_columns it f.columns) it.foreign sound.foreign))
      (both _ _ it.foreign (each_of (λ (f : ForeignKey). not (kinds_differ c it f)) it.foreign (none_all (kinds_differ c it) it.foreign alike)) (first_none (foreign_fault e.0) it.foreign aimed))) where
        one : (f : ForeignKey) → ((is_name f.name ≡ true) × (are_columns it f.columns ≡ true)) × ((not (kinds_differ c it f) ≡ true) × (foreign_fault e.0 f ≡ None))
            → ((is_name f.name ≡ true) × (is_object d f.table ≡ true)) × (AreListed f.columns × AreListed f.targets)
        one f h =
            let faults = or_none (listed_fault e.0 f.columns) (listed_fault f.table f.targets) h.1.1 in
            let same = twice (same_kinds (kinds_at it f.columns) (kinds_at (the_table c f.table) f.targets)) h.1.0 in (
              (h.0.0, looked_object d f.table c.tables objects (there_with f (some_targets f h.0.1 h.1.0) same)),
              (
                listed_names it e.0 f.columns h.0.1 faults.0 (list_plain d e sound names f.columns h.0.1),
                record {
                  some = some_targets f h.0.1 h.1.0;
                  listed = listed_there f.table f.targets faults.1;
                  names = targets_plain (the_table c f.table).columns (looked_plain f.table c.tables plain) (kinds_at it f.columns) f.targets same;
                },
              ),
            )

  pub filling_can : CanFill d e
  filling_can = record { name = object; key = own_key; uniques = uniques_can; indexes = indexes_can; foreign = foreign_can }

  -- its columns

  columns_written : list_all (λ (x : Column). not (is_lost x)) it.columns ≡ true
  columns_written = find_none is_lost it.columns (name_none (find is_lost it.columns) created) where
    name_none : (o : Option Column) → column_of e.0 (option_map (λ (x : Column). x.name) o) ≡ None → o ≡ None
    name_none None g = refl
    name_none (Some x) g = absurd Prim.cc

  columns_can : AllByRecursion (IsWritable d it.key) it.columns
  columns_can =
      each_so (λ (x : Column). ((is_name x.name ≡ true) × (is_kind x.kind ≡ true)) × ((default_fits x ≡ true) × (not (is_lost x) ≡ true))) (IsWritable d it.key)
      (λ x h. record { name = h.0.0; kind = h.0.1; default = written x.kind x.default h.0.1 h.1.0 (or_left (is_unwritten x.default) _ (negated (is_lost x) h.1.1)); key_named = key_of_column x }) it.columns
      (both _ _ it.columns (both _ _ it.columns (each_of (λ (x : Column). is_name x.name) it.columns (columns_plain d e sound names)) (each_of (λ (x : Column). is_kind x.kind) it.columns sound.kinds))
      (both _ _ it.columns (each_of default_fits it.columns sound.defaults) (each_of (λ (x : Column). not (is_lost x)) it.columns columns_written)))

  some_columns : (cs : List Column) → has_none cs ≡ false → is_empty cs ≡ false
  some_columns [] h = h
  some_columns (x ∷ xs) h = refl

  pub table_can : CanTable d e
  table_can = record { name = object; some = some_columns it.columns sound.some; columns = columns_can }

-- all

module _ (d : Dialect) (c : Catalogue) (sound : IsSound d c) (names : HasNames c) (fine : first_fault c ≡ None) where
  in_order : (first_sequence c.sequences ≡ None) × ((first_table c.tables ≡ None) × (first_view c.views ≡ None))
  in_order =
      let a = or_none (first_sequence c.sequences) (option_or (first_table c.tables) (first_view c.views)) fine in
      (a.0, or_none (first_table c.tables) (first_view c.views) a.1)

  tables_fine : (first_of created_fault c.tables ≡ None) × ((first_of added_fault c.tables ≡ None) × (first_of foreign_faults c.tables ≡ None))
  tables_fine =
      let a = or_none (first_of created_fault c.tables) (option_or (first_of added_fault c.tables) (first_of foreign_faults c.tables)) in_order.1.0 in
      (a.0, or_none (first_of added_fault c.tables) (first_of foreign_faults c.tables) a.1)

  pub table_sound : (done : List (Name × Table)) (e : Name × Table) (more : List (Name × Table)) → c.tables ≡ done ++ e ∷ more → IsSoundTable d e.1
  table_sound done e more is = sound.tables e.0 e.1 (whole_there d c done e more is sound.ordered keyed made keyed_part made_part)

  objects : AllByRecursion (λ (e : Name × Table). is_object d e.0 ≡ true) c.tables
  objects =
      each_object d c.tables
      (objects_plain d (map (λ (e : Name × Table). e.0) c.tables) (tables_keyed c.tables names.tables) (may_front d (map (λ (e : Name × Table). e.0) c.tables) _ sound.schemas))

  all_sound : AllByRecursion (λ (e : Name × Table). IsSoundTable d e.1) c.tables
  all_sound = gathered (λ e. IsSoundTable d e.1) c.tables [] c.tables refl table_sound

  plain : AllByRecursion (λ (e : Name × Table). list_all (λ (x : Column). is_name x.name) e.1.columns ≡ true) c.tables
  plain =
      each_so (λ (e : Name × Table). IsSoundTable d e.1 × TableHasNames e) (λ (e : Name × Table). list_all (λ (x : Column). is_name x.name) e.1.columns ≡ true) (λ e h. columns_plain d e h.0 h.1) c.tables
      (both _ _ c.tables all_sound names.tables)

  abbrev Fine : Name × Table → Type 0
  Fine e = ((IsSoundTable d e.1 × (TableHasNames e × (is_object d e.0 ≡ true))) × (not (list_any (kinds_differ c e.1) e.1.foreign) ≡ true)) × ((created_fault e ≡ None) × ((added_fault e ≡ None) × (foreign_faults e ≡ None)))

  tables_all : AllByRecursion Fine c.tables
  tables_all =
      both _ _ c.tables
      (both _ _ c.tables (both _ _ c.tables all_sound (both _ _ c.tables names.tables objects))
      (each_of (λ (e : Name × Table). not (list_any (kinds_differ c e.1) e.1.foreign)) c.tables (none_all (λ (e : Name × Table). list_any (kinds_differ c e.1) e.1.foreign) c.tables sound.alike)))
      (both _ _ c.tables (first_none created_fault c.tables tables_fine.0)
      (both _ _ c.tables (first_none added_fault c.tables tables_fine.1.0) (first_none foreign_faults c.tables tables_fine.1.1)))

  sequence_can : (s : Name × Sequence) → (is_name s.0 ≡ true) × (not (int_eq s.1.step (pos 0)) ≡ true) → CanSequence s
  sequence_can s h = h

  pub tables_can : AllByRecursion (CanTable d) c.tables
  tables_can = each_so Fine (CanTable d) (λ e h. table_can d c e h.0.0.0 h.0.0.1.0 (negated (list_any (kinds_differ c e.1) e.1.foreign) h.0.1) h.0.0.1.1 objects plain h.1.0 h.1.1.0 h.1.1.1) c.tables tables_all

  pub tables_fit : AllByRecursion (λ (e : Name × Table). list_all default_fits e.1.columns ≡ true) c.tables
  tables_fit = each_so Fine (λ (e : Name × Table). list_all default_fits e.1.columns ≡ true) (λ e h. h.0.0.0.defaults) c.tables tables_all

  sequences_in : AllByRecursion (λ (s : Name × Sequence). (is_out s.1 || is_elsewhere s.0) ≡ false) c.sequences
  sequences_in =
      each_so (λ (s : Name × Sequence). not (is_out s.1 || is_elsewhere s.0) ≡ true) (λ (s : Name × Sequence). (is_out s.1 || is_elsewhere s.0) ≡ false) (λ s h. negated (is_out s.1 || is_elsewhere s.0) h) c.sequences
      (each_of (λ (s : Name × Sequence). not (is_out s.1 || is_elsewhere s.0)) c.sequences
      (find_none (λ (s : Name × Sequence). is_out s.1 || is_elsewhere s.0) c.sequences (place_none (find (λ (s : Name × Sequence). is_out s.1 || is_elsewhere s.0) c.sequences) in_order.0))) where
        place_none : (o : Option (Name × Sequence)) → (let p : Option Place = option_map (λ (s : Name × Sequence). (s.0, None)) o in p) ≡ None → o ≡ None
        place_none None g = refl
        place_none (Some s) g = absurd Prim.cc

  pub sequences_fit : AllByRecursion (λ (s : Name × Sequence). is_out s.1 ≡ false) c.sequences
  sequences_fit = each_so (λ (s : Name × Sequence). (is_out s.1 || is_elsewhere s.0) ≡ false) (λ (s : Name × Sequence). is_out s.1 ≡ false) (λ s h. or_left (is_out s.1) _ h) c.sequences sequences_in

  sequences_named : AllByRecursion (λ (s : Name × Sequence). is_name s.0 ≡ true) c.sequences
  sequences_named =
      each_so (λ (s : Name × Sequence). (is_name_key s.0 ≡ true) × ((is_out s.1 || is_elsewhere s.0) ≡ false)) (λ (s : Name × Sequence). is_name s.0 ≡ true) (λ s h. own_public s.0 h.0 (or_right (is_out s.1) _ h.1)) c.sequences
      (both _ _ c.sequences (each_of (λ (s : Name × Sequence). is_name_key s.0) c.sequences names.sequences) sequences_in)

  views_in : AllByRecursion (λ (v : Name × View). not (is_elsewhere v.0) ≡ true) c.views
  views_in =
      each_of (λ (v : Name × View). not (is_elsewhere v.0)) c.views
      (find_none (λ (v : Name × View). is_elsewhere v.0) c.views (place_none (find (λ (v : Name × View). is_elsewhere v.0) c.views) in_order.1.1)) where
        place_none : (o : Option (Name × View)) → (let p : Option Place = option_map (λ (v : Name × View). (v.0, None)) o in p) ≡ None → o ≡ None
        place_none None g = refl
        place_none (Some v) g = absurd Prim.cc

  views_named : AllByRecursion (λ (v : Name × View). is_name v.0 ≡ true) c.views
  views_named =
      each_so (λ (v : Name × View). (is_name_key v.0 ≡ true) × (not (is_elsewhere v.0) ≡ true)) (λ (v : Name × View). is_name v.0 ≡ true) (λ v h. own_public v.0 h.0 (negated (is_elsewhere v.0) h.1)) c.views
      (both _ _ c.views (each_of (λ (v : Name × View). is_name_key v.0) c.views names.views) views_in)

  -- each text of a view's query is read as that query
  pub can_write : AllByRecursion (λ (v : Name × View). query_in d (query_text d v.1.query) ≡ Some v.1.query) c.views → Can d c
  can_write spelled = record {
    sequences = each_so (λ (s : Name × Sequence). (is_name s.0 ≡ true) × (not (int_eq s.1.step (pos 0)) ≡ true)) CanSequence sequence_can c.sequences
        (both _ _ c.sequences sequences_named
        (each_of (λ (s : Name × Sequence). not (int_eq s.1.step (pos 0))) c.sequences (none_all (λ (s : Name × Sequence). int_eq s.1.step (pos 0)) c.sequences sound.steps)));
    tables = tables_can;
    fillings = each_so Fine (CanFill d) (λ e h. filling_can d c e h.0.0.0 h.0.0.1.0 (negated (list_any (kinds_differ c e.1) e.1.foreign) h.0.1) h.0.0.1.1 objects plain h.1.0 h.1.1.0 h.1.1.1) c.tables tables_all;
    views = both _ _ c.views views_named spelled;
  }

-- the text of each view's query is read as that query
pub queries_spelled : (d : Dialect) → ((q : Query) → is_query d q ≡ true → query_in d (query_text d q) ≡ Some q) → (c : Catalogue) → IsSound d c → HasNames c → first_fault c ≡ None → AllByRecursion (λ (v : Name × View). query_in d (query_text d v.1.query) ≡ Some v.1.query) c.views
queries_spelled d back c sound names fine =
    each_so (λ (v : Name × View). is_query d v.1.query ≡ true) (λ v. query_in d (query_text d v.1.query) ≡ Some v.1.query) (λ v h. back v.1.query h) c.views
    (each_of (λ (v : Name × View). is_query d v.1.query) c.views (queries_written d c sound (objects d c sound names fine) (plain d c sound names fine)))

-- and its defaults can be written
pub defaults_written : (d : Dialect) (c : Catalogue) → IsSound d c → HasNames c → first_fault c ≡ None → (done : List (Name × Table)) (e : Name × Table) (more : List (Name × Table)) → c.tables ≡ done ++ e ∷ more
    → AllByRecursion (λ (x : Column). IsWritten x.default) e.1.columns
defaults_written d c sound names fine done e more is =
    each_so (IsWritable d e.1.key) (λ (x : Column). IsWritten x.default) (λ x h. h.default) e.1.columns (at_place c.tables (tables_can d c sound names fine) done e more is).columns where
      at_place : (all : List (Name × Table)) → AllByRecursion (CanTable d) all → (done : List (Name × Table)) (e : Name × Table) (more : List (Name × Table)) → all ≡ done ++ e ∷ more → CanTable d e
      at_place all h [] e more same = (subst (AllByRecursion (CanTable d)) same h).0
      at_place all h (x ∷ done) e more same = at_place (done ++ e ∷ more) (subst (AllByRecursion (CanTable d)) same h).1 done e more refl
