-- A new table keeps a catalogue sound.
use Rattle.std.proofs.Common.{ap, arith, sym, ◌∙◌}
use Rattle.std.proofs.Math.Path.{subst}
use Rattle.std.specs.List.{flat_map, list_all, list_any}
use Rattle.std.specs.Option.{option_map, unwrap_or}
use Rattle.std.specs.Prelude.{Bool, List, None, Ok, Option, Some, [], cond, false, is_none, is_some, map, not, refl, true, ℕ, ◌&&◌, ◌++◌, ◌+◌, ◌||◌, ◌∷◌, ◌≡◌, ◌≤◌}
use Rattle.lq_base.specs.Kind.{is_kind}
use Rattle.lq_base.specs.Name.{is_elsewhere, is_name, is_named, is_object}
use Rattle.lq_base.specs.Value.{into_kind, is_value_of}
use Rattle.lq_base.specs.declared.dialect.Dialect.{Dialect}
use Rattle.lq_base.specs.declared.dialect.Dialect.TheVariants.{Mysql, Postgresql}
use Rattle.lq_base.specs.declared.kind.Kind.{Kind}
use Rattle.lq_base.specs.declared.literal.Literal.{Literal}
use Rattle.lq_base.specs.declared.name.Name.{Name}
use Rattle.lq_base.specs.declared.value.Value.{Value}
use Rattle.lq_base.specs.declared.value.Value.TheVariants as value
use Rattle.lq_model.specs.Catalogue.{Catalogue, Sequence, Table, View, no_table, table_of, with_new, is_empty, is_in, repeats, times, column_lists, column_missing, column_names, constraint_names, foreign_names, has_column, index_names, inner_names, key_list, placed, target_lists}
use Rattle.lq_model.specs.Tables.{create_table, depends_in, key_column, lacks_own, lists_twice, new_table, numbers_wrongly, repeats_number, targets_table}
use Rattle.lq_model.specs.Kinds.{is_number, kinds_at, kinds_differ, same_kinds, column_of, is_wide, is_wrong, literal_of, value_in}
use Rattle.lq_model.specs.NameSpaces.{AreApart, AreApartWithin, all_foreign_names, are_clashing, is_taken, names_inside, object_names, shared_names, takes_lock_key}
use Rattle.lq_model.specs.Plan.{Plan}
use Rattle.lq_model.specs.Sound.{IsSound, IsSoundTable, are_columns, default_fits, is_key_name, is_key_of, is_not_null, is_view}
use Rattle.lq_model.specs.Step.{is_column_def, is_foreign, is_key, is_name_list, is_pg, is_statement, is_unique, step}
use Rattle.lq_model.specs.declared.caller.By.{By}
use Rattle.lq_model.specs.declared.column.Column.{Column}
use Rattle.lq_model.specs.declared.column.ColumnDef.{ColumnDef}
use Rattle.lq_model.specs.declared.constraint.ForeignKey.{ForeignKey}
use Rattle.lq_model.specs.declared.constraint.Key.{Key}
use Rattle.lq_model.specs.declared.constraint.Unique.{Unique}
use Rattle.lq_model.specs.declared.index.Index.{Index}
use Rattle.lq_model.specs.declared.statement.Statement.TheVariants.{CreateTable}
use Rattle.lq_model.proofs.Absent.{free_of, untargeted, unviewed}
use Rattle.lq_model.proofs.Counts.{inner-insert, keys-insert, once}
use Rattle.lq_model.proofs.Decide.{IsAccepted, accepted}
use Rattle.lq_model.proofs.IntoKind.{default_into}
use Rattle.lq_model.proofs.Kept.{not_so_true}
use Rattle.lq_model.proofs.Lists.{all-append, all-map, all_kept, all_more, all_none, and_left, and_right, and_true, any-append, any_less, any_less_both, map-map, named_itself, not_false, or_false, or_left, or_right, other_way, same_name, true_false, whether}
use Rattle.lq_model.proofs.Maps.{any_none-insert_entry, lookup-insert_entry, some_same, sorted-insert_entry, sorted_entries, sorted_keys}
use Rattle.lq_model.proofs.PublicNames.{names_public, schemas_more}
use Rattle.lq_model.proofs.Shaped.{IsShaped, keeps}
use Rattle.lq_model.proofs.Times.{one_more, times-append, times_none}
use Rattle.lq_model.proofs.ViewAt.{view_at, view_is}
use Rattle.lq_model.proofs.Places.{placed_once}

-- names that do not repeat stand there at most once
pub once_if : (ns : List Name) (n : Name) → repeats ns ≡ false → times n ns ≤ 1
once_if [] n h = omega arith
once_if (m ∷ ns) n h = elim (is_named n m) as (λ b. is_named n m ≡ b → once b + times n ns ≤ 1) [
  | true ↦ λ p. let z : times n ns ≡ 0 = ap (λ x. times x ns) (same_name n m p) ∙ times_none m ns (or_left (is_in m ns) _ h) in omega (arith, z)
  | false ↦ λ p. let r = once_if ns n (or_right (is_in m ns) _ h) in omega (arith, r)
] refl

-- names that are apart from others stand, with them, at most once
pub apart_from : (ns ms : List Name) (n : Name) → times n ns ≤ 1 → times n ms ≤ 1 → list_any (λ x. is_in x ms) ns ≡ false → times n ns + times n ms ≤ 1
apart_from ns ms n a b none = elim (is_in n ns) as (λ r. is_in n ns ≡ r → times n ns + times n ms ≤ 1) [
  | true ↦ λ p. let z = times_none n ms (in_none n ns ms p none) in omega (arith, a, z)
  | false ↦ λ p. let z = times_none n ns p in omega (arith, b, z)
] refl
  where
    in_none : (n : Name) (ns ms : List Name) → is_in n ns ≡ true → list_any (λ x. is_in x ms) ns ≡ false → is_in n ms ≡ false
    in_none n [] ms h none = true_false refl (sym h)
    in_none n (x ∷ ns) ms h none = elim (is_named n x) as (λ r. is_named n x ≡ r → (r || is_in n ns) ≡ true → is_in n ms ≡ false) [
      | true ↦ λ p q. ap (λ y. is_in y ms) (same_name n x p) ∙ or_left (is_in x ms) _ none
      | false ↦ λ p q. in_none n ns ms q (or_right (is_in x ms) _ none)
    ] refl h

clash_first : (t : Name) (shared ns : List Name) → list_any (λ m. is_named t m || is_in m shared) ns ≡ false → is_in t ns ≡ false
clash_first t shared ns h = any_less (is_named t) (λ m. is_named t m || is_in m shared) ns (λ m r. or_left (is_named t m) (is_in m shared) r) h

clash_second : (t : Name) (shared ns : List Name) → list_any (λ m. is_named t m || is_in m shared) ns ≡ false → list_any (λ m. is_in m shared) ns ≡ false
clash_second t shared ns h = any_less (λ m. is_in m shared) (λ m. is_named t m || is_in m shared) ns (λ m r. or_right (is_named t m) (is_in m shared) r) h

-- lists that are not empty, have no column twice and lack none are lists of columns
pub lists_fine : (it : Table) (ls : List (List Name)) → list_all (λ ns. not (is_empty ns)) ls ≡ true → list_any repeats ls ≡ false → list_any (column_missing it) ls ≡ false → list_all (are_columns it) ls ≡ true
lists_fine it [] some differ there = refl
lists_fine it (ns ∷ ls) some differ there = and_true _ _
    (and_true _ _ (and_left (not (is_empty ns)) _ some) (and_true _ _ (ap not (or_left (repeats ns) _ differ)) (all_none (has_column it) ns (or_left (column_missing it ns) _ there))))
    (lists_fine it ls (and_right (not (is_empty ns)) _ some) (or_right (repeats ns) _ differ) (or_right (column_missing it ns) _ there))

module _ (d : Dialect) (t : Name) (c : Catalogue) (it : Table) (sound : IsSound d c) (none : table_of c t ≡ None) where
  abbrev pub after : Catalogue
  after = with_new c t it

  new_looked : (q : Name) → table_of after q ≡ cond (is_named q t) (Some it) (table_of c q)
  new_looked q = lookup-insert_entry c.tables t it q

  other_looked : (q : Name) → is_named t q ≡ false → table_of after q ≡ table_of c q
  other_looked q apart = new_looked q ∙ ap (λ b. cond b (Some it) (table_of c q)) (other_way t q apart)

  new_view : (v : View) → is_named t v.query.table ≡ false → is_view c v ≡ true → is_view after v ≡ true
  new_view v apart is = view_is after v ∙ ap (λ o. view_at o v) (other_looked v.query.table apart) ∙ sym (view_is c v) ∙ is

  differ_still : (x : Table) (f : ForeignKey) → is_named t f.table ≡ false → kinds_differ after x f ≡ kinds_differ c x f
  differ_still x f apart = ap (λ o. not (same_kinds (kinds_at x f.columns) (kinds_at (unwrap_or o no_table) f.targets))) (other_looked f.table apart)

  others_alike : list_any (λ (x : Name × Table). list_any (kinds_differ after x.1) x.1.foreign) c.tables ≡ false
  others_alike = any_less_both (λ (x : Name × Table). targets_table t x.1) (λ (x : Name × Table). list_any (kinds_differ c x.1) x.1.foreign) _ c.tables
      (λ x free alike. any_less_both (λ f. is_named t f.table) (kinds_differ c x.1) _ x.1.foreign (λ f apart is. differ_still x.1 f apart ∙ is) free alike)
      (untargeted d c t sound none) sound.alike

  objects_more : (n : Name) → times n (object_names after) ≡ times n (object_names c) + once (is_named n t)
  objects_more n =
      let others = map (λ (x : Name × View). x.0) c.views ++ map (λ (x : Name × Sequence). x.0) c.sequences in
      let k = keys-insert names_inside n c.tables t it none in
      let p = times-append n (map (λ (x : Name × Table). x.0) after.tables) others in
      let q = times-append n (map (λ (x : Name × Table). x.0) c.tables) others in
      omega (arith, k, p, q)

  -- the catalogue with a new table
  pub new_shaped : is_object d t ≡ true → AreApart d after → IsSoundTable d it → list_any (kinds_differ after it) it.foreign ≡ false → IsShaped d after
  new_shaped object apart fine alike = record {
    ordered = sorted_keys after.tables (sorted-insert_entry c.tables t it (sorted_entries c.tables sound.ordered));
    ordered_views = sound.ordered_views;
    ordered_sequences = sound.ordered_sequences;
    tables = λ q x is. elim (is_named q t) as (λ b. cond b (Some it) (table_of c q) ≡ Some x → IsSoundTable d x) [
      | true ↦ λ h. subst (IsSoundTable d) (some_same h) fine
      | false ↦ λ h. sound.tables q x h
    ] (sym (new_looked q) ∙ is);
    views = all_kept (λ (v : Name × View). is_named t v.1.query.table) (λ (v : Name × View). is_view c v.1) _ c.views (λ v apart is. new_view v.1 apart is) (unviewed d c t sound none) sound.views;
    apart = apart;
    schemas = schemas_more d t (object_names c) (object_names after) object (λ n. let m = objects_more n in omega (arith, m)) sound.schemas;
    steps = sound.steps;
    sequences = sound.sequences;
    alike = any_none-insert_entry (λ (x : Name × Table). list_any (kinds_differ after x.1) x.1.foreign) c.tables t it (λ n. refl) alike others_alike;
  }

  -- its names are apart from those that were there
  pub new_apart : (k : Dialect) → ((n : Name) → is_pg k ≡ true → times n (placed t (inner_names it)) ≤ 1) → is_taken k t c ≡ false → are_clashing k t it c ≡ false → AreApart k c → AreApart k after
  new_apart Postgresql own free clash h = λ n.
      let shared = shared_names c in
      let o = objects_more n in
      let i = inner-insert names_inside n c.tables t it none in
      let p = times-append n (object_names after) (flat_map names_inside after.tables) in
      let q = times-append n (object_names c) (flat_map names_inside c.tables) in
      let mine : is_in t (placed t (inner_names it)) ≡ false = clash_first t shared (placed t (inner_names it)) (or_right (repeats (constraint_names it)) _ clash) in
      let theirs : list_any (λ m. is_in m shared) (placed t (inner_names it)) ≡ false = clash_second t shared (placed t (inner_names it)) (or_right (repeats (constraint_names it)) _ clash) in
      let both : times n (placed t (inner_names it)) + times n shared ≤ 1 = apart_from (placed t (inner_names it)) shared n (own n refl) (h n) theirs in
      elim (is_named n t) as (λ b. is_named n t ≡ b → times n (shared_names after) ≡ (times n shared + once b) + times n (placed t (inner_names it)) → times n (shared_names after) ≤ 1) [
        | true ↦ λ r is.
            let x : times n shared ≡ 0 = ap (λ m. times m shared) (same_name n t r) ∙ times_none t shared free in
            let y : times n (placed t (inner_names it)) ≡ 0 = ap (λ m. times m (placed t (inner_names it))) (same_name n t r) ∙ times_none t (placed t (inner_names it)) mine in
            omega (arith, is, x, y)
        | false ↦ λ r is. omega (arith, is, both)
      ] refl (omega (arith, o, i, p, q))
  new_apart Mysql own free clash h = (
    λ n. one_more n t (times n (object_names after)) (object_names c) free (h.0 n) (objects_more n),
    λ n.
        let i = inner-insert (λ (x : Name × Table). foreign_names x.1) n c.tables t it none in
        let b : times n (foreign_names it) + times n (all_foreign_names c) ≤ 1 = apart_from (foreign_names it) (all_foreign_names c) n (once_if (foreign_names it) n (or_left (repeats (foreign_names it)) _ (or_right (repeats (index_names it)) _ clash))) (h.1 n) (or_right (repeats (foreign_names it)) _ (or_right (repeats (index_names it)) _ clash)) in
        omega (arith, i, b),
  )

-- the table that CREATE TABLE makes

pub key_columns_named : (key : Option Key) (cs : List Column) → map (λ c. c.name) (map (key_column key) cs) ≡ map (λ c. c.name) cs
key_columns_named key [] = refl
key_columns_named key (c ∷ cs) = ap (λ n. n ∷ map (λ c. c.name) (map (key_column key) cs)) (at (list_any (λ k. is_in c.name k.columns) (key_list key))) ∙ ap (λ ns. c.name ∷ ns) (key_columns_named key cs) where
  at : (b : Bool) → (cond b (record c { nullable = false }) c).name ≡ c.name
  at true = refl
  at false = refl

-- what a key's columns have in common with the columns before
pub key_all : (f : Name → Kind → Option Value → Bool → Bool) (key : Option Key) (cs : List Column) → list_all (λ c. f c.name c.kind c.default c.numbered) cs ≡ true → list_all (λ c. f c.name c.kind c.default c.numbered) (map (key_column key) cs) ≡ true
key_all f key [] h = refl
key_all f key (c ∷ cs) h = and_true _ _ (at (list_any (λ k. is_in c.name k.columns) (key_list key)) ∙ and_left (f c.name c.kind c.default c.numbered) _ h) (key_all f key cs (and_right (f c.name c.kind c.default c.numbered) _ h)) where
  at : (b : Bool) → (let x = cond b (record c { nullable = false }) c in f x.name x.kind x.default x.numbered) ≡ f c.name c.kind c.default c.numbered
  at true = refl
  at false = refl

pub some_columns : {A B : Type 0} (f : A → B) (xs : List A) → is_empty xs ≡ false → is_empty (map f xs) ≡ false
some_columns f [] h = true_false refl h
some_columns f (x ∷ xs) h = refl

-- a key's columns are NOT NULL
pub key_firm : (k : Key) (cs : List Column) (n : Name) → is_in n k.columns ≡ true → list_all (λ c. not (is_named n c.name) || not c.nullable) (map (key_column (Some k)) cs) ≡ true
key_firm k [] n h = refl
key_firm k (c ∷ cs) n h = and_true _ _ (elim (is_in c.name k.columns) as (λ b. is_in c.name k.columns ≡ b → (let x = cond (b || false) (record c { nullable = false }) c in not (is_named n x.name) || not x.nullable) ≡ true) [
  | true ↦ λ p. or_true (not (is_named n c.name))
  | false ↦ λ p. ap (λ b. not b || not c.nullable) (whether (is_named n c.name) (λ q. true_false (ap (λ m. is_in m k.columns) (sym (same_name n c.name q)) ∙ h) p) (λ q. q))
] refl) (key_firm k cs n h)
  where
    or_true : (b : Bool) → (b || true) ≡ true
    or_true true = refl
    or_true false = refl

all_in : (ns : List Name) (k : Key) (it : Table) → ((n : Name) → is_in n k.columns ≡ true → is_not_null it n ≡ true) → list_all (λ n. is_in n k.columns) ns ≡ true → list_all (is_not_null it) ns ≡ true
all_in ns k it h all = all_more (λ n. is_in n k.columns) (is_not_null it) ns (λ n is. h n is) all

in_itself : (ns ms : List Name) → ((n : Name) → is_in n ns ≡ true → is_in n ms ≡ true) → list_all (λ n. is_in n ms) ns ≡ true
in_itself [] ms h = refl
in_itself (n ∷ ns) ms h = and_true _ _ (h n (ap (λ b. b || is_in n ns) (named_itself n))) (in_itself ns ms (λ m is. h m (after_one m is))) where
  after_one : (m : Name) → is_in m ns ≡ true → (is_named m n || is_in m ns) ≡ true
  after_one m is = elim (is_named m n) as (λ b. (b || is_in m ns) ≡ true) [ true ↦ refl | false ↦ is ]

pub key_not_null : (key : Option Key) (it : Table) (cs : List Column) → it.columns ≡ map (key_column key) cs → list_all (λ k. list_all (is_not_null it) k.columns) (key_list key) ≡ true
key_not_null None it cs is = refl
key_not_null (Some k) it cs is = and_true _ _ (all_in k.columns k it (λ n h. ap (list_all (λ c. not (is_named n c.name) || not c.nullable)) is ∙ key_firm k cs n h) (in_itself k.columns k.columns (λ n h. h))) refl

defaults_fit : (defs : List ColumnDef) → list_any (λ e. is_wrong (into_kind (literal_of e) e.kind)) defs ≡ false → list_any (λ e. is_wide (into_kind (literal_of e) e.kind)) defs ≡ false → list_all default_fits (map column_of defs) ≡ true
defaults_fit [] p q = refl
defaults_fit (e ∷ defs) p q = and_true _ _ (default_into e (or_left (is_wrong (into_kind (literal_of e) e.kind)) _ p) (or_left (is_wide (into_kind (literal_of e) e.kind)) _ q))
    (defaults_fit defs (or_right (is_wrong (into_kind (literal_of e) e.kind)) _ p) (or_right (is_wide (into_kind (literal_of e) e.kind)) _ q))

numbered_one : (key : Option Key) (e : ColumnDef) → depends_in key e ≡ false → numbers_wrongly e ≡ false → (not e.numbered || (is_number e.kind && (is_none (column_of e).default && is_key_of key e.name))) ≡ true
numbered_one key e p q = elim e.numbered as (λ b. (b && (is_some e.default || not (is_key_of key e.name))) ≡ false → (b && not (is_number e.kind)) ≡ false → (not b || (is_number e.kind && (is_none (column_of e).default && is_key_of key e.name))) ≡ true) [
  | true ↦ λ x y. and_true _ _ (not_false _ y) (and_true _ _ (no_default e.default (or_left (is_some e.default) _ x)) (not_false _ (or_right (is_some e.default) _ x)))
  | false ↦ λ x y. refl
] p q
  where
    no_default : (o : Option Literal) → is_some o ≡ false → is_none (option_map (λ l. value_in (into_kind l e.kind)) o) ≡ true
    no_default None h = refl
    no_default (Some l) h = true_false refl h

numbered_all : (key : Option Key) (defs : List ColumnDef) → list_any (depends_in key) defs ≡ false → list_any numbers_wrongly defs ≡ false → list_all (λ c. not c.numbered || (is_number c.kind && (is_none c.default && is_key_of key c.name))) (map column_of defs) ≡ true
numbered_all key [] p q = refl
numbered_all key (e ∷ defs) p q = and_true _ _ (numbered_one key e (or_left (depends_in key e) _ p) (or_left (numbers_wrongly e) _ q)) (numbered_all key defs (or_right (depends_in key e) _ p) (or_right (numbers_wrongly e) _ q))

new_within : (d : Dialect) (t : Name) (it : Table) (c : Catalogue) → are_clashing d t it c ≡ false → AreApartWithin d it
new_within Postgresql t it c clash = λ n. once_if (constraint_names it) n (or_left _ _ clash)
new_within Mysql t it c clash = λ n. once_if (index_names it) n (or_left _ _ clash)

new_inner : (d : Dialect) (t : Name) (it : Table) (c : Catalogue) → it.indexes ≡ [] → are_clashing d t it c ≡ false → (n : Name) → is_pg d ≡ true → times n (inner_names it) ≤ 1
new_inner Postgresql t it c none clash n pg =
    let keys = map (λ (x : Key). x.name) (key_list it.key) in
    let us = map (λ (u : Unique). u.name) it.uniques in
    let whole = once_if (constraint_names it) n (or_left _ _ clash) in
    let a = times-append n keys (us ++ map (λ (f : ForeignKey). f.name) it.foreign) in
    let b = times-append n us (map (λ (f : ForeignKey). f.name) it.foreign) in
    let x = times-append n keys (us ++ map (λ (i : Index). i.name) it.indexes) in
    let y = times-append n us (map (λ (i : Index). i.name) it.indexes) in
    let z : times n (map (λ (i : Index). i.name) it.indexes) ≡ 0 = ap (λ is. times n (map (λ (i : Index). i.name) is)) none in
    omega (arith, whole, a, b, x, y, z)
new_inner Mysql t it c none clash n pg = true_false pg refl

some_lists : {A : Type 0} (f : A → List Name) (p : A → Bool) (xs : List A) → ((x : A) → p x ≡ true → not (is_empty (f x)) ≡ true) → list_all p xs ≡ true → list_all (λ ns. not (is_empty ns)) (map f xs) ≡ true
some_lists f p xs h all = all-map (λ ns. not (is_empty ns)) f xs ∙ all_more p _ xs h all

foreign_fine : (d : Dialect) (it : Table) (fs : List ForeignKey) → list_all (is_foreign d) fs ≡ true → list_any (λ f. repeats f.columns || repeats f.targets) fs ≡ false → list_any (λ f. column_missing it f.columns) fs ≡ false → list_all (λ f. are_columns it f.columns) fs ≡ true
foreign_fine d it [] some differ there = refl
foreign_fine d it (f ∷ fs) some differ there = and_true _ _
    (and_true _ _ (and_left (not (is_empty f.columns)) _ (and_left (is_name_list f.columns) _ (and_right (is_name f.name) _ (and_left (is_foreign d f) _ some))))
    (and_true _ _ (ap not (or_left (repeats f.columns) _ (or_left (repeats f.columns || repeats f.targets) _ differ))) (all_none (has_column it) f.columns (or_left (column_missing it f.columns) _ there))))
    (foreign_fine d it fs (and_right (is_foreign d f) _ some) (or_right (repeats f.columns || repeats f.targets) _ differ) (or_right (column_missing it f.columns) _ there))

module _ (by : By) (d : Dialect) (t : Name) (defs : List ColumnDef) (key : Option Key) (uniques : List Unique) (foreign : List ForeignKey) (c e : Catalogue) (k : ℕ) (valid : is_statement d (CreateTable t defs key uniques foreign) ≡ true) (made : step by d (CreateTable t defs key uniques foreign) c ≡ Ok (e, k)) where
  abbrev it' : Table
  it' = new_table defs key uniques foreign

  abbrev p' : Plan
  p' = create_table by d t defs key uniques foreign c

  ok : IsAccepted p' e
  ok = accepted p' e k made

  rest : (not (is_empty defs) && (list_all is_column_def defs && (list_all (is_key d) (key_list key) && (list_all is_unique uniques && list_all (is_foreign d) foreign)))) ≡ true
  rest = and_right (is_object d t) _ valid

  defs_fine : list_all is_column_def defs ≡ true
  defs_fine = and_left _ _ (and_right (not (is_empty defs)) _ rest)

  keys_fine : list_all (is_key d) (key_list key) ≡ true
  keys_fine = and_left _ _ (and_right (list_all is_column_def defs) _ (and_right (not (is_empty defs)) _ rest))

  uniques_fine : list_all is_unique uniques ≡ true
  uniques_fine = and_left _ _ (and_right (list_all (is_key d) (key_list key)) _ (and_right (list_all is_column_def defs) _ (and_right (not (is_empty defs)) _ rest)))

  foreigns_fine : list_all (is_foreign d) foreign ≡ true
  foreigns_fine = and_right (list_all is_unique uniques) _ (and_right (list_all (is_key d) (key_list key)) _ (and_right (list_all is_column_def defs) _ (and_right (not (is_empty defs)) _ rest)))

  free : is_taken d t c ≡ false
  free = or_left _ _ ok.exists

  clash : are_clashing d t it' c ≡ false
  clash = or_left _ _ (or_right _ _ ok.exists)

  twice : lists_twice it' ≡ false
  twice = or_right (takes_lock_key by d (t ∷ placed t (inner_names it'))) _ (or_right (are_clashing d t it' c) _ (or_right (is_taken d t c) _ ok.exists))

  own : lacks_own it' ≡ false
  own = or_left _ _ ok.missing

  wrongs : (list_any (kinds_differ (with_new c t it') it') foreign || (list_any numbers_wrongly defs || repeats_number defs)) ≡ false
  wrongs = or_right _ _ ok.wrong

  some_columns_each : list_all (λ ns. not (is_empty ns)) (column_lists it') ≡ true
  some_columns_each = all-append _ (target_lists it') _ (all-append _ (map (λ (x : Key). x.columns) (key_list key)) _
      (some_lists (λ (x : Key). x.columns) (is_key d) (key_list key) (λ x h. and_left (not (is_empty x.columns)) _ (and_right (is_key_name d x.name) _ (and_right (is_name x.name) _ h))) keys_fine)
      (some_lists (λ (u : Unique). u.columns) is_unique uniques (λ u h. and_left (not (is_empty u.columns)) _ (and_right (is_name u.name) _ h)) uniques_fine)) refl

  table_fine : IsSoundTable d it'
  table_fine = record {
    some = some_columns (key_column key) (map column_of defs) (some_columns column_of defs (not_so_true _ (and_left (not (is_empty defs)) _ rest)));
    differ = or_left _ _ twice;
    kinds = key_all (λ m k v u. is_kind k) key (map column_of defs) (all-map (λ x. is_kind x.kind) column_of defs ∙ all_more is_column_def _ defs (λ x h. and_left (is_kind x.kind) _ (and_right (is_name x.name) _ h)) defs_fine);
    rows = refl;
    defaults = key_all (λ m k v u. is_value_of k (unwrap_or v value.Null)) key (map column_of defs) (defaults_fit defs (or_left _ _ ok.wrong) ok.wide);
    lists = lists_fine it' (column_lists it') some_columns_each (or_left _ _ (or_right _ _ twice)) (or_left _ _ own);
    foreign = foreign_fine d it' foreign foreigns_fine (or_right _ _ (or_right _ _ twice)) (or_right _ _ own);
    key = key_not_null key it' (map column_of defs) refl;
    key_named = all_more (is_key d) (λ x. is_key_name d x.name) (key_list key) (λ x h. and_left (is_key_name d x.name) _ (and_right (is_name x.name) _ h)) keys_fine;
    numbered = key_all (λ m k v u. not u || (is_number k && (is_none v && is_key_of key m))) key (map column_of defs) (numbered_all key defs ok.depends (or_left _ _ (or_right _ _ wrongs)));
    within = new_within d t it' c clash;
    public = any-append is_elsewhere (column_names it') _ ∙ or_false _ _
        (ap (list_any is_elsewhere) (key_columns_named key (map column_of defs) ∙ map-map (λ (x : Column). x.name) column_of defs) ∙ names_public (λ (x : ColumnDef). x.name) is_column_def defs (λ x h. and_left (is_name x.name) _ h) defs_fine)
        (any-append is_elsewhere (constraint_names it') [] ∙ or_false _ _ (any-append is_elsewhere (map (λ (x : Key). x.name) (key_list key)) _ ∙ or_false _ _
        (names_public (λ (x : Key). x.name) (is_key d) (key_list key) (λ x h. and_left (is_name x.name) _ h) keys_fine)
        (any-append is_elsewhere (map (λ (x : Unique). x.name) uniques) _ ∙ or_false _ _
        (names_public (λ (x : Unique). x.name) is_unique uniques (λ x h. and_left (is_name x.name) _ h) uniques_fine)
        (names_public (λ (x : ForeignKey). x.name) (is_foreign d) foreign (λ x h. and_left (is_name x.name) _ h) foreigns_fine))) refl);
  }

  pub create_table_keeps : IsSound d c → IsSound d e
  create_table_keeps sound =
      let none = free_of d t c free in
      keeps d p' e k made (new_shaped d t c it' sound none (and_left (is_object d t) _ valid) (new_apart d t c it' sound none d (λ n pg. placed_once t (inner_names it') (λ m. new_inner d t it' c refl clash m pg) n) free clash sound.apart) table_fine (or_left _ _ wrongs))
