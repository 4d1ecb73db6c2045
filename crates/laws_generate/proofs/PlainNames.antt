-- The names in a sound catalogue: what stands in a table has names in `public`, and objects have names of the profile.
use Rattle.std.proofs.Common.{ap, sym, ◌∙◌}
use Rattle.std.specs.List.{AllByRecursion, list_all, list_any}
use Rattle.std.specs.Map.{lookup}
use Rattle.std.specs.Option.{unwrap_or}
use Rattle.std.specs.Prelude.{Bool, List, None, Option, Some, [], cond, false, is_some, map, not, refl, true, ℕ, ◌&&◌, ◌++◌, ◌||◌, ◌∷◌, ◌≡◌}
use Rattle.lq_base.specs.Name.{is_elsewhere, is_key_in, is_name, is_name_key, is_named, is_object, parts_of}
use Rattle.lq_base.specs.declared.dialect.Dialect.{Dialect}
use Rattle.lq_base.specs.declared.dialect.Dialect.TheVariants.{Mysql, Postgresql}
use Rattle.lq_base.specs.declared.kind.Kind.{Kind}
use Rattle.lq_base.specs.declared.name.Name.{Name}
use Rattle.lq_model.proofs.Lists.{all-map, all_more, and_left, and_right, and_true, any-append, or_left, or_right, same_name}
use Rattle.lq_model.specs.Catalogue.{Catalogue, Table, no_table, is_empty, is_in, repeats, column_names, constraint_names, key_list}
use Rattle.lq_model.specs.Kinds.{kind_of, same_kind, same_kinds}
use Rattle.lq_model.specs.Sound.{IsSoundTable, are_columns, may_name}
use Rattle.lq_model.specs.declared.column.Column.{Column}
use Rattle.lq_model.specs.declared.constraint.ForeignKey.{ForeignKey}
use Rattle.lq_model.specs.declared.constraint.Key.{Key}
use Rattle.lq_model.specs.declared.constraint.Unique.{Unique}
use Rattle.lq_model.specs.declared.index.Index.{Index}
use Rattle.lq_named.specs.Named.{TableHasNames, are_names, has_names}

-- the key of a name in `public` is its text
pub own_public : (n : Name) → is_name_key n ≡ true → is_elsewhere n ≡ false → is_name n ≡ true
own_public n key out = by (parts_of n) key out where
  by : (o : Option (List ℕ × List ℕ)) → is_key_in n o ≡ true → is_some o ≡ false → is_name n ≡ true
  by None h g = h
  by (Some parts) h g = absurd Prim.cc

each_plain : {A : Type 0} (f : A → Name) (xs : List A) → list_all (λ x. is_name_key (f x)) xs ≡ true → list_any is_elsewhere (map f xs) ≡ false → list_all (λ x. is_name (f x)) xs ≡ true
each_plain f [] keys out = refl
each_plain f (x ∷ xs) keys out =
    and_true (is_name (f x)) _ (own_public (f x) (and_left (is_name_key (f x)) _ keys) (or_left (is_elsewhere (f x)) _ out))
    (each_plain f xs (and_right (is_name_key (f x)) _ keys) (or_right (is_elsewhere (f x)) _ out))

-- ---- what stands in a table

in_all : (n : Name) (ns : List Name) → list_all is_name ns ≡ true → is_in n ns ≡ true → is_name n ≡ true
in_all n [] h is = absurd Prim.cc
in_all n (m ∷ ns) h is = elim (is_named n m) as (λ b. is_named n m ≡ b → (b || is_in n ns) ≡ true → is_name n ≡ true) [
  | true ↦ λ p q. ap is_name (same_name n m p) ∙ and_left (is_name m) _ h
  | false ↦ λ p q. in_all n ns (and_right (is_name m) _ h) q
] refl is

pub among : (ns ms : List Name) → list_all is_name ms ≡ true → list_all (λ n. is_in n ms) ns ≡ true → list_all is_name ns ≡ true
among ns ms named there = all_more (λ n. is_in n ms) is_name ns (λ n is. in_all n ms named is) there

module _ (d : Dialect) (e : Name × Table) (sound : IsSoundTable d e.1) (names : TableHasNames e) where
  abbrev held : Table
  held = e.1

  inner_out : list_any is_elsewhere (constraint_names held ++ map (λ (i : Index). i.name) held.indexes) ≡ false
  inner_out = or_right (list_any is_elsewhere (column_names held)) _ (sym (any-append is_elsewhere (column_names held) _) ∙ sound.public)

  constraints_out : list_any is_elsewhere (constraint_names held) ≡ false
  constraints_out = or_left (list_any is_elsewhere (constraint_names held)) _ (sym (any-append is_elsewhere (constraint_names held) _) ∙ inner_out)

  more_out : list_any is_elsewhere (map (λ (u : Unique). u.name) held.uniques ++ map (λ (f : ForeignKey). f.name) held.foreign) ≡ false
  more_out = or_right (list_any is_elsewhere (map (λ (k : Key). k.name) (key_list held.key))) _ (sym (any-append is_elsewhere (map (λ (k : Key). k.name) (key_list held.key)) _) ∙ constraints_out)

  pub columns_plain : list_all (λ (c : Column). is_name c.name) held.columns ≡ true
  columns_plain =
      each_plain (λ (c : Column). c.name) held.columns names.columns
      (or_left (list_any is_elsewhere (column_names held)) _ (sym (any-append is_elsewhere (column_names held) _) ∙ sound.public))

  pub keys_plain : list_all (λ (k : Key). is_name k.name) (key_list held.key) ≡ true
  keys_plain =
      each_plain (λ (k : Key). k.name) (key_list held.key)
      (all_more (λ (k : Key). is_name_key k.name && are_names k.columns) (λ (k : Key). is_name_key k.name) (key_list held.key) (λ k h. and_left (is_name_key k.name) _ h) names.key)
      (or_left (list_any is_elsewhere (map (λ (k : Key). k.name) (key_list held.key))) _ (sym (any-append is_elsewhere (map (λ (k : Key). k.name) (key_list held.key)) _) ∙ constraints_out))

  pub uniques_plain : list_all (λ (u : Unique). is_name u.name) held.uniques ≡ true
  uniques_plain =
      each_plain (λ (u : Unique). u.name) held.uniques
      (all_more (λ (u : Unique). is_name_key u.name && are_names u.columns) (λ (u : Unique). is_name_key u.name) held.uniques (λ u h. and_left (is_name_key u.name) _ h) names.uniques)
      (or_left (list_any is_elsewhere (map (λ (u : Unique). u.name) held.uniques)) _ (sym (any-append is_elsewhere (map (λ (u : Unique). u.name) held.uniques) _) ∙ more_out))

  pub foreign_plain : list_all (λ (f : ForeignKey). is_name f.name) held.foreign ≡ true
  foreign_plain =
      each_plain (λ (f : ForeignKey). f.name) held.foreign
      (all_more has_names (λ (f : ForeignKey). is_name_key f.name) held.foreign (λ f h. and_left (is_name_key f.name) _ (and_left (is_name_key f.name && is_name_key f.table) _ h)) names.foreign)
      (or_right (list_any is_elsewhere (map (λ (u : Unique). u.name) held.uniques)) _ (sym (any-append is_elsewhere (map (λ (u : Unique). u.name) held.uniques) _) ∙ more_out))

  pub indexes_plain : list_all (λ (x : Index). is_name x.name) held.indexes ≡ true
  indexes_plain =
      each_plain (λ (x : Index). x.name) held.indexes
      (all_more (λ (x : Index). is_name_key x.name && are_names x.columns) (λ (x : Index). is_name_key x.name) held.indexes (λ x h. and_left (is_name_key x.name) _ h) names.indexes)
      (or_right (list_any is_elsewhere (constraint_names held)) _ (sym (any-append is_elsewhere (constraint_names held) _) ∙ inner_out))

  -- a list of its columns
  pub list_plain : (ns : List Name) → are_columns held ns ≡ true → list_all is_name ns ≡ true
  list_plain ns there =
      among ns (column_names held) (all-map is_name (λ (c : Column). c.name) held.columns ∙ columns_plain)
      (and_right (not (repeats ns)) _ (and_right (not (is_empty ns)) _ there))

-- ---- the targets of a foreign key

abbrev pub HasPlainColumns : Name × Table → Type 0
HasPlainColumns e = list_all (λ (c : Column). is_name c.name) e.1.columns ≡ true

-- the columns of a table that is looked up
pub looked_plain : (t : Name) (es : List (Name × Table)) → AllByRecursion HasPlainColumns es → list_all (λ (c : Column). is_name c.name) (unwrap_or (lookup (is_named t) es) no_table).columns ≡ true
looked_plain t [] all = refl
looked_plain t (e ∷ es) all = elim (is_named t e.0) as (λ b. list_all (λ (c : Column). is_name c.name) (unwrap_or (cond b (Some e.1) (lookup (is_named t) es)) no_table).columns ≡ true) [
  | true ↦ all.0
  | false ↦ looked_plain t es all.1
]

target_plain : (cs : List Column) → list_all (λ (c : Column). is_name c.name) cs ≡ true → (t : Name) (o : Option Kind) → same_kind o (kind_of t cs) ≡ true → is_name t ≡ true
target_plain [] named t None same = absurd Prim.cc
target_plain [] named t (Some k) same = absurd Prim.cc
target_plain (c ∷ cs) named t o same = elim (is_named t c.name) as (λ b. is_named t c.name ≡ b → same_kind o (cond b (Some c.kind) (kind_of t cs)) ≡ true → is_name t ≡ true) [
  | true ↦ λ p q. ap is_name (same_name t c.name p) ∙ and_left (is_name c.name) _ named
  | false ↦ λ p q. target_plain cs (and_right (is_name c.name) _ named) t o q
] refl same

-- names whose kinds are known are names of columns
pub targets_plain : (cs : List Column) → list_all (λ (c : Column). is_name c.name) cs ≡ true → (os : List (Option Kind)) (ts : List Name) → same_kinds os (map (λ n. kind_of n cs) ts) ≡ true → list_all is_name ts ≡ true
targets_plain cs named os [] same = refl
targets_plain cs named [] (t ∷ ts) same = absurd Prim.cc
targets_plain cs named (o ∷ os) (t ∷ ts) same =
    and_true (is_name t) _ (target_plain cs named t o (and_left (same_kind o (kind_of t cs)) _ same))
    (targets_plain cs named os ts (and_right (same_kind o (kind_of t cs)) _ same))

-- and where there is one, its table is there
pub target_there : (t : Name) (es : List (Name × Table)) (os : List (Option Kind)) (n : Name) (ts : List Name) → same_kinds os (map (λ m. kind_of m (unwrap_or (lookup (is_named t) es) no_table).columns) (n ∷ ts)) ≡ true → is_some (lookup (is_named t) es) ≡ true
target_there t es [] n ts same = absurd Prim.cc
target_there t es (o ∷ os) n ts same = by (lookup (is_named t) es) o same where
  by : (found : Option Table) (o : Option Kind) → same_kinds (o ∷ os) (map (λ m. kind_of m (unwrap_or found no_table).columns) (n ∷ ts)) ≡ true → is_some found ≡ true
  by (Some it) o h = refl
  by None None h = absurd Prim.cc
  by None (Some k) h = absurd Prim.cc

-- ---- the names of objects

out_of : (b : Bool) → not b ≡ true → b ≡ false
out_of true h = absurd Prim.cc
out_of false h = refl

pub objects_plain : (d : Dialect) (ns : List Name) → list_all is_name_key ns ≡ true → may_name d ns ≡ true → list_all (is_object d) ns ≡ true
objects_plain Postgresql ns keys may = all_more is_name_key (is_object Postgresql) ns (λ n is. is) keys
objects_plain Mysql [] keys may = refl
objects_plain Mysql (n ∷ ns) keys may =
    let out = out_of (list_any is_elsewhere (n ∷ ns)) may in
    and_true (is_object Mysql n) _ (own_public n (and_left (is_name_key n) _ keys) (or_left (is_elsewhere n) _ out))
    (objects_plain Mysql ns (and_right (is_name_key n) _ keys) (ap not (or_right (is_elsewhere n) _ out)))

pub may_front : (d : Dialect) (ns ms : List Name) → may_name d (ns ++ ms) ≡ true → may_name d ns ≡ true
may_front Postgresql ns ms may = refl
may_front Mysql ns ms may = ap not (or_left (list_any is_elsewhere ns) _ (sym (any-append is_elsewhere ns ms) ∙ out_of (list_any is_elsewhere (ns ++ ms)) may))

pub tables_keyed : (es : List (Name × Table)) → AllByRecursion TableHasNames es → list_all is_name_key (map (λ (e : Name × Table). e.0) es) ≡ true
tables_keyed [] names = refl
tables_keyed (e ∷ es) names = and_true (is_name_key e.0) _ names.0.table (tables_keyed es names.1)

pub each_object : (d : Dialect) (es : List (Name × Table)) → list_all (is_object d) (map (λ (e : Name × Table). e.0) es) ≡ true → AllByRecursion (λ (e : Name × Table). is_object d e.0 ≡ true) es
each_object d [] all = tt
each_object d (e ∷ es) all = (and_left (is_object d e.0) _ all, each_object d es (and_right (is_object d e.0) _ all))

-- a table that is there has such a name
pub looked_object : (d : Dialect) (t : Name) (es : List (Name × Table)) → AllByRecursion (λ (e : Name × Table). is_object d e.0 ≡ true) es → is_some (lookup (is_named t) es) ≡ true → is_object d t ≡ true
looked_object d t [] all is = absurd Prim.cc
looked_object d t (e ∷ es) all is = elim (is_named t e.0) as (λ b. is_named t e.0 ≡ b → is_some (cond b (Some e.1) (lookup (is_named t) es)) ≡ true → is_object d t ≡ true) [
  | true ↦ λ p q. ap (is_object d) (same_name t e.0 p) ∙ all.0
  | false ↦ λ p q. looked_object d t es all.1 q
] refl is
