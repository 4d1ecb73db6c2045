-- A stage of a sound catalogue is sound.
use Rattle.std.proofs.Common.{ap, arith, subst, sym, ◌∙◌}
use Rattle.std.specs.List.{AllByRecursion, flat_map, list_all, list_any}
use Rattle.std.specs.List.Sorted.{IsStrictlySortedBy}
use Rattle.std.specs.Map.{keys_of, lookup}
use Rattle.std.specs.Option.{option_map}
use Rattle.std.specs.Prelude.{Bool, List, None, Option, Some, [], cond, false, is_none, map, not, refl, true, ℕ, ◌&&◌, ◌+◌, ◌++◌, ◌||◌, ◌∷◌, ◌≡◌, ◌≤◌}
use Rattle.std.specs.declared.cmp.Ordering.TheVariants.{Less}
use Rattle.lq_base.specs.Name.{is_named, name_cmp}
use Rattle.lq_base.specs.declared.dialect.Dialect.{Dialect}
use Rattle.lq_base.specs.declared.dialect.Dialect.TheVariants.{Mysql, Postgresql}
use Rattle.lq_base.specs.declared.name.Name.{Name}
use Rattle.lq_model.proofs.Lists.{all-append_left, and_left, and_right, and_true, or_false, true_false}
use Rattle.lq_model.proofs.Maps.{not_some, some_same}
use Rattle.lq_model.proofs.NameCounts.{constraint_sum, inner_sum, keys_at}
use Rattle.lq_model.proofs.PublicNames.{public_by, schemas_fewer}
use Rattle.lq_model.proofs.Times.{times-append}
use Rattle.lq_model.specs.Catalogue.{Catalogue, Sequence, Table, View, table_of, is_empty, times, column_lists, constraint_names, inner_names, key_list, target_lists}
use Rattle.lq_model.specs.Kinds.{is_number, kinds_differ}
use Rattle.lq_model.specs.NameSpaces.{AreApart, AreApartWithin, all_foreign_names, object_names, shared_names}
use Rattle.lq_model.specs.Plan.{has_null, has_orphan, has_orphans, has_twins, is_full, is_loose, is_overfull, misses_target, table_has_null, table_has_twins, unique_lists}
use Rattle.lq_model.specs.Sound.{IsSound, IsSoundTable, are_columns, is_key_name, is_key_of, is_not_null, is_numbered_well, is_unlike}
use Rattle.lq_model.specs.declared.column.Column.{Column}
use Rattle.lq_model.specs.declared.constraint.Key.{Key}
use Rattle.lq_model.specs.declared.constraint.Unique.{Unique}
use Rattle.lq_model.specs.declared.index.Index.{Index}
use Rattle.laws_stages.proofs.Stages.{bare, bare_entry, stage}
use Rattle.laws_stages.specs.Making.{own_key}

-- ---- a table with its columns and the key of a numbered one

abbrev has_number : Table → Bool
has_number it = list_any (λ (c : Column). c.numbered) it.columns

key_lists : (it : Table) → list_all (are_columns it) (column_lists it) ≡ true → list_all (are_columns it) (map (λ (k : Key). k.columns) (key_list it.key)) ≡ true
key_lists it h =
    let keys = map (λ (k : Key). k.columns) (key_list it.key) in
    all-append_left (are_columns it) keys (map (λ (u : Unique). u.columns) it.uniques) (all-append_left (are_columns it) (target_lists it) (map (λ (i : Index). i.columns) it.indexes) h)

-- what holds of the key, or of none
pub of_own : (P : Option Key → Type 0) (it : Table) → P None → P it.key → P (own_key it)
of_own P it none key = by (has_number it) where
  by : (b : Bool) → P (cond b it.key None)
  by true = key
  by false = none

with_nothing : {A : Type 0} (p : A → Bool) (xs : List A) → list_all p xs ≡ true → list_all p ((xs ++ []) ++ []) ≡ true
with_nothing p [] h = refl
with_nothing p (x ∷ xs) h = and_true (p x) _ (and_left (p x) _ h) (with_nothing p xs (and_right (p x) _ h))

-- a numbered column among these has the table's own key
numbered_still : (it : Table) (key : Option Key) (cs : List Column) → (list_any (λ (c : Column). c.numbered) cs ≡ true → key ≡ it.key) → list_all (is_numbered_well it) cs ≡ true
    → list_all (λ (c : Column). not c.numbered || (is_number c.kind && (is_none c.default && is_key_of key c.name))) cs ≡ true
numbered_still it key [] same h = refl
numbered_still it key (c ∷ cs) same h = and_true _ _ (by c.numbered refl (and_left (is_numbered_well it c) _ h)) (numbered_still it key cs (λ more. same (later c.numbered more)) (and_right (is_numbered_well it c) _ h)) where
  later : (b : Bool) → list_any (λ (c : Column). c.numbered) cs ≡ true → (b || list_any (λ (c : Column). c.numbered) cs) ≡ true
  later true m = refl
  later false m = m

  first : c.numbered ≡ true → (c.numbered || list_any (λ (c : Column). c.numbered) cs) ≡ true
  first is = ap (λ b. b || list_any (λ (c : Column). c.numbered) cs) is

  by : (b : Bool) → c.numbered ≡ b → (not c.numbered || (is_number c.kind && (is_none c.default && is_key_of it.key c.name))) ≡ true → (not c.numbered || (is_number c.kind && (is_none c.default && is_key_of key c.name))) ≡ true
  by true is g = ap (λ k. not c.numbered || (is_number c.kind && (is_none c.default && is_key_of k c.name))) (same (first is)) ∙ g
  by false is g = ap (λ b. not b || (is_number c.kind && (is_none c.default && is_key_of key c.name))) is

own_is : (it : Table) → has_number it ≡ true → own_key it ≡ it.key
own_is it h = ap (λ b. cond b it.key None) h

pub own_keys : (n : Name) (it : Table) → keys_at n (bare it) ≤ keys_at n it
own_keys n it = of_own (λ k. times n (map (λ (x : Key). x.name) (key_list k)) ≤ keys_at n it) it (omega arith) (omega arith)

bare_within : (d : Dialect) (it : Table) → AreApartWithin d it → AreApartWithin d (bare it)
bare_within Postgresql it h = λ n. let a = constraint_sum n (bare it) in let b = constraint_sum n it in let c = own_keys n it in let z = h n in omega (arith, a, b, c, z)
bare_within Mysql it h = λ n. omega arith

pub bare_sound : (d : Dialect) (it : Table) → IsSoundTable d it → IsSoundTable d (bare it)
bare_sound d it h = record {
  some = h.some;
  differ = h.differ;
  kinds = h.kinds;
  rows = refl;
  defaults = h.defaults;
  lists = of_own (λ k. list_all (are_columns it) ((map (λ (x : Key). x.columns) (key_list k) ++ []) ++ []) ≡ true) it refl (with_nothing (are_columns it) (map (λ (x : Key). x.columns) (key_list it.key)) (key_lists it h.lists));
  foreign = refl;
  key = of_own (λ k. list_all (λ (x : Key). list_all (is_not_null it) x.columns) (key_list k) ≡ true) it refl h.key;
  key_named = of_own (λ k. list_all (λ (x : Key). is_key_name d x.name) (key_list k) ≡ true) it refl h.key_named;
  numbered = numbered_still it (own_key it) it.columns (own_is it) h.numbered;
  within = bare_within d it h.within;
  public = public_by it (bare it) [] refl (λ n. let k = own_keys n it in omega (arith, k)) h.public;
}

-- ---- the catalogue

looked : (q : Name) (done : List (Name × Table)) → lookup (is_named q) (map bare_entry done) ≡ option_map bare (lookup (is_named q) done)
looked q [] = refl
looked q (e ∷ es) = by (is_named q e.0) (looked q es) where
  by : (b : Bool) → lookup (is_named q) (map bare_entry es) ≡ option_map bare (lookup (is_named q) es) → cond b (Some (bare e.1)) (lookup (is_named q) (map bare_entry es)) ≡ option_map bare (cond b (Some e.1) (lookup (is_named q) es))
  by true rest = refl
  by false rest = rest

-- what stands in the front stands in the whole
in_front : (q : Name) (done more : List (Name × Table)) (it : Table) → lookup (is_named q) done ≡ Some it → lookup (is_named q) (done ++ more) ≡ Some it
in_front q [] more it h = not_some (sym h)
in_front q (e ∷ es) more it h = by (is_named q e.0) h (in_front q es more it) where
  by : (b : Bool) → cond b (Some e.1) (lookup (is_named q) es) ≡ Some it → (lookup (is_named q) es ≡ Some it → lookup (is_named q) (es ++ more) ≡ Some it) → cond b (Some e.1) (lookup (is_named q) (es ++ more)) ≡ Some it
  by true g rest = g
  by false g rest = rest g

no_twins_bare : (it : Table) → table_has_twins (bare it) ≡ false
no_twins_bare it = of_own (λ k. list_any (λ ns. false) ((map (λ (x : Key). x.columns) (key_list k) ++ []) ++ []) ≡ false) it refl (none ((map (λ (x : Key). x.columns) (key_list it.key) ++ []) ++ [])) where
  none : (xs : List (List Name)) → list_any (λ ns. false) xs ≡ false
  none [] = refl
  none (x ∷ xs) = none xs

none_of : (p : Name × Table → Bool) (done : List (Name × Table)) → ((e : Name × Table) → p (bare_entry e) ≡ false) → list_any p (map bare_entry done) ≡ false
none_of p [] each = refl
none_of p (e ∷ es) each = or_false _ _ (each e) (none_of p es each)

below_front : (k : Name) (ks ls : List Name) → AllByRecursion (λ m. name_cmp k m ≡ Less) (ks ++ ls) → AllByRecursion (λ m. name_cmp k m ≡ Less) ks
below_front k [] ls h = tt
below_front k (x ∷ ks) ls h = (h.0, below_front k ks ls h.1)

keys_front : (done more : List (Name × Table)) → keys_of (done ++ more) ≡ keys_of (map bare_entry done) ++ keys_of more
keys_front [] more = refl
keys_front (e ∷ es) more = ap (λ ks. e.0 ∷ ks) (keys_front es more)

sorted_front : (ks ls : List Name) → IsStrictlySortedBy name_cmp (ks ++ ls) → IsStrictlySortedBy name_cmp ks
unfolding IsStrictlySortedBy
sorted_front [] ls h = tt
sorted_front (k ∷ ks) ls h = (below_front k ks ls h.0, sorted_front ks ls h.1)

no_views : IsStrictlySortedBy name_cmp (let ks : List Name = [] in ks)
unfolding IsStrictlySortedBy
no_views = tt

abbrev named : {X : Type 0} → List (Name × X) → List Name
named es = map (λ e. e.0) es

module _ (d : Dialect) (c : Catalogue) (sound : IsSound d c) (done more : List (Name × Table)) (is : c.tables ≡ done ++ more) (apart : AreApart d (stage c.sequences done)) where
  pub stage_sound : IsSound d (stage c.sequences done)
  stage_sound = record {
    ordered = sorted_front (keys_of (map bare_entry done)) (keys_of more) (subst (IsStrictlySortedBy name_cmp) (ap keys_of is ∙ keys_front done more) sound.ordered);
    ordered_views = no_views;
    ordered_sequences = sound.ordered_sequences;
    tables = λ q it there. table_sound q it (sym (looked q done) ∙ there);
    views = refl;
    apart = apart;
    schemas = schemas_fewer d (object_names c) (object_names (stage c.sequences done)) fewer sound.schemas;
    steps = sound.steps;
    sequences = sound.sequences;
    no_null = none_of (λ e. table_has_null e.1) done (λ e. refl);
    no_twins = none_of (λ e. table_has_twins e.1) done (λ e. no_twins_bare e.1);
    aimed = none_of (λ e. list_any (misses_target (stage c.sequences done)) e.1.foreign) done (λ e. refl);
    alike = none_of (λ e. list_any (kinds_differ (stage c.sequences done) e.1) e.1.foreign) done (λ e. refl);
    parents = none_of (λ e. has_orphan (stage c.sequences done) e.1) done (λ e. refl);
    small = none_of (λ e. is_full e.1) done (λ e. refl);
  } where
    fewer : (n : Name) → times n (object_names (stage c.sequences done)) ≤ times n (object_names c)
    fewer n =
        let front = named (map bare_entry done) in
        let a : times n (named c.tables) ≡ times n (front ++ named more) = ap (λ ts. times n (named ts)) is ∙ ap (times n) (keys_front done more) in
        let b = times-append n front (named more) in
        let p = times-append n (named c.tables) (named c.views ++ named c.sequences) in
        let q = times-append n (named c.views) (named c.sequences) in
        let r = times-append n front (named c.sequences) in
        omega (arith, a, b, p, q, r)

    table_sound : (q : Name) (it : Table) → option_map bare (lookup (is_named q) done) ≡ Some it → IsSoundTable d it
    table_sound q it there = by (lookup (is_named q) done) refl there where
      by : (o : Option Table) → lookup (is_named q) done ≡ o → option_map bare o ≡ Some it → IsSoundTable d it
      by None found e = not_some (sym e)
      by (Some old) found e = subst (IsSoundTable d) (some_same e) (bare_sound d old (sound.tables q old (ap (lookup (is_named q)) is ∙ in_front q done more old found)))
