-- Lemmas on what is known of the names inside tables.
use Rattle.std.proofs.Common.{Bool, List, None, Option, Some, [], ap, cond, drop, false, get_or, length, map, refl, subst, suc, sym, true, unwrap_or, ℕ, ◌+◌, ◌++◌, ◌<◌, ◌∙◌, ◌||◌, ◌∷◌, ◌≡◌, add-one}
use Rattle.std.proofs.Math.Seq.{drop-cons}
use Rattle.std.specs.BTreeMap.{insert_entry}
use Rattle.std.specs.BTreeSet.{BTreeSet, Updates, contains}
use Rattle.std.specs.List.{flat_map, list_any}
use Rattle.std.specs.Map.{lookup, remove_entry, set_value}
use Rattle.std.specs.Ordering.{is_eq, match_ordering}
use Rattle.std.specs.declared.cmp.Ordering.TheVariants.{Equal, Greater, Less}
use Rattle.lq_base.specs.Name.{beside, is_named, name_cmp}
use Rattle.lq_base.specs.declared.name.Name.{Name}
use Rattle.lq_chain.specs.History.{History, changed}
use Rattle.lq_model.specs.Catalogue.{Table, no_table, is_in, foreign_names, inner_names, key_list, placed}
use Rattle.lq_model.specs.NameSpaces.{names_inside}
use Rattle.lq_model.specs.declared.constraint.ForeignKey.{ForeignKey}
use Rattle.lq_model.specs.declared.constraint.Key.{Key}
use Rattle.lq_model.specs.declared.constraint.Unique.{Unique}
use Rattle.lq_model.specs.declared.index.Index.{Index}
use Rattle.lq_model.proofs.Lists.{and_left, and_right, any-append, map-map, named_itself, other_way, same_name, true_false, whether}
use Rattle.lq_model.proofs.Maps.{not_some, some_same}
use Rattle.lq_model.proofs.Places.{in_placed}
use Rattle.lq_parts.specs.Steps.{Entries, tables_of}
use Rattle.lq_parts.specs.Taken.{AreCounts, AreKnown, Gains, HasJust, IsTrueOf, TableMap, begins, foreign_inside, foreign_stay, inner_stay, names_in, targets_inside}
use Rattle.lq_parts.specs.declared.taken.TakenNames.{TakenNames}
use Rattle.lq_rows.specs.Stored.{Stored, shape_of, table_as}
use Rattle.lq_rows.specs.declared.shape.Shape.{Shape}

nothing_more : (b : Bool) → (b || false) ≡ b
nothing_more true = refl
nothing_more false = refl

or_back : (a b : Bool) → (a || b) ≡ (b || a)
or_back true true = refl
or_back true false = refl
or_back false true = refl
or_back false false = refl

second_first : (a b c : Bool) → (a || (b || c)) ≡ ((b || a) || c)
second_first true true c = refl
second_first true false c = refl
second_first false true c = refl
second_first false false c = refl

pub either_way : (a b : Name) → is_named a b ≡ is_named b a
either_way a b = whether (is_named a b)
    (λ is. let e : a ≡ b = same_name a b is in rw (e) refl)
    (λ no. no ∙ sym (other_way a b no))

-- names that come into a set

-- what a set says of itself after a name came in
pub gained : (old new : BTreeSet Name) (k : Name) → Updates name_cmp old new k true → Gains (k ∷ []) old new
gained old new k up = record { members = λ n. up.0 n ∙ ap (λ b. cond b true (contains name_cmp old n)) (either_way k n) ∙ as_or (is_named n k) (contains name_cmp old n) } where
  as_or : (a b : Bool) → cond a true b ≡ ((a || false) || b)
  as_or true b = refl
  as_or false b = refl

pub gains_none : (set : BTreeSet Name) → Gains [] set set
gains_none set = record { members = λ n. refl }

gains_both : (ns ms : List Name) (a b c : BTreeSet Name) → Gains ns a b → Gains ms b c → Gains (ns ++ ms) a c
gains_both ns ms a b c first next = record {
  members = λ n.
      next.members n ∙ ap (λ x. is_in n ms || x) (first.members n) ∙ second_first (is_in n ms) (is_in n ns) (contains name_cmp a n)
      ∙ ap (λ x. x || contains name_cmp a n) (sym (any-append (is_named n) ns ms));
}

map_joined : {A : Type 0} (f : A → Name) (t : Name) (xs : List A) (rest : List Name) → map (beside t) (map f xs ++ rest) ≡ map (λ x. beside t (f x)) xs ++ map (beside t) rest
map_joined f t [] rest = refl
map_joined f t (x ∷ xs) rest = ap (λ ns. beside t (f x) ∷ ns) (map_joined f t xs rest)

-- the names of a table's key, unique constraints and indexes, where they count
pub inner_gained : (t : Name) (shape : Shape) (it : Table) (a b c d : BTreeSet Name) → shape ≡ shape_of it → Gains (map (λ (k : Key). beside t k.name) (key_list shape.key)) a b → Gains (map (λ (u : Unique). beside t u.name) shape.uniques) b c → Gains (map (λ (i : Index). beside t i.name) shape.indexes) c d → Gains (names_inside (t, it)) a d
inner_gained t shape it a b c d is keys uniques indexes =
    let ks = map (λ (k : Key). beside t k.name) (key_list shape.key) in
    let us = map (λ (u : Unique). beside t u.name) shape.uniques in
    let ns = map (λ (i : Index). beside t i.name) shape.indexes in
    let plain = map (λ (i : Index). i.name) shape.indexes in
    let parts : names_inside (t, table_as shape 1 []) ≡ ks ++ (us ++ ns)
    = map_joined (λ (k : Key). k.name) t (key_list shape.key) (map (λ (u : Unique). u.name) shape.uniques ++ plain)
    ∙ ap (λ x. ks ++ x) (map_joined (λ (u : Unique). u.name) t shape.uniques plain ∙ ap (λ x. us ++ x) (map-map (beside t) (λ (i : Index). i.name) shape.indexes)) in
    subst (λ (s : Shape). Gains (names_inside (t, table_as s 1 [])) a d) is
    (subst (λ x. Gains x a d) (sym parts) (gains_both ks (us ++ ns) a b d keys (gains_both us ns b c d uniques indexes)))

pub foreign_gained : (shape : Shape) (it : Table) (a b : BTreeSet Name) → shape ≡ shape_of it → Gains (map (λ (f : ForeignKey). f.name) shape.foreign) a b → Gains (foreign_names it) a b
foreign_gained shape it a b is keys = subst (λ (s : Shape). Gains (foreign_names (table_as s 1 [])) a b) is keys

-- a name is in the set, or still to come
pub record Gathers (X : Type 0) (name : X → Name) (before : BTreeSet Name) (all : List X) (set : BTreeSet Name) (rest : List X) : Type 0 where
  pub members : (n : Name) → (contains name_cmp set n || is_in n (map name rest)) ≡ (is_in n (map name all) || contains name_cmp before n)

pub gathers_none : {X : Type 0} (name : X → Name) (set : BTreeSet Name) (all : List X) → Gathers X name set all set (drop 0 all)
gathers_none name set all = record { members = λ n. or_back (contains name_cmp set n) (is_in n (map name all)) }

pub gathers_more : {X : Type 0} (name : X → Name) (before : BTreeSet Name) (all : List X) (i : ℕ) (d x : X) (old new : BTreeSet Name) → i < length all → x ≡ get_or all i d → Gathers X name before all old (drop i all) → Gains (name x ∷ []) old new → Gathers X name before all new (drop (i + 1) all)
gathers_more name before all i d x old new within is so more = record {
  members = λ n.
      rw add-one (ap (λ b. b || is_in n (map name (drop (suc i) all))) (more.members n)
      ∙ turned (is_named n (name x)) (contains name_cmp old n) (is_in n (map name (drop (suc i) all)))
      ∙ rw (drop-cons all i d, ← is) at (so.members n));
} where
  turned : (a b c : Bool) → (((a || false) || b) || c) ≡ (b || (a || c))
  turned true true c = refl
  turned true false c = refl
  turned false b c = refl

all_gathered : {X : Type 0} (name : X → Name) (before : BTreeSet Name) (all : List X) (set : BTreeSet Name) → Gathers X name before all set [] → Gains (map name all) before set
all_gathered name before all set so = record { members = λ n. sym (nothing_more (contains name_cmp set n)) ∙ so.members n }

-- when all came in
pub gathers_all : {X : Type 0} (name : X → Name) (before : BTreeSet Name) (all : List X) (i : ℕ) (set : BTreeSet Name) → drop i all ≡ [] → Gathers X name before all set (drop i all) → Gains (map name all) before set
gathers_all name before all i set none so = all_gathered name before all set (rw none at so)

-- a name of a table is in the set, or still to come
pub record Sees (names : Name × Table → List Name) (all : Entries) (set : BTreeSet Name) (rest : Entries) : Type 0 where
  pub members : (n : Name) → is_in n (names_in names (tables_of all)) ≡ (contains name_cmp set n || is_in n (names_in names (tables_of rest)))

pub sees_none : (names : Name × Table → List Name) (set : BTreeSet Name) (all : Entries) → set.keys ≡ [] → Sees names all set (drop 0 all)
sees_none names set all is = record { members = λ n. rw (is) refl }

pub sees_more : (names : Name × Table → List Name) (all : Entries) (i : ℕ) (d e : Name × Stored) (old new : BTreeSet Name) → i < length all → e ≡ get_or all i d → Sees names all old (drop i all) → Gains (names (e.0, e.1.now)) old new → Sees names all new (drop (i + 1) all)
sees_more names all i d e old new within is so more = record {
  members = λ n.
      rw add-one (rw (drop-cons all i d, ← is) at (so.members n)
      ∙ ap (λ b. contains name_cmp old n || b) (any-append (is_named n) (names (e.0, e.1.now)) (names_in names (tables_of (drop (suc i) all))))
      ∙ second_first (contains name_cmp old n) (is_in n (names (e.0, e.1.now))) (is_in n (names_in names (tables_of (drop (suc i) all))))
      ∙ ap (λ b. b || is_in n (names_in names (tables_of (drop (suc i) all)))) (sym (more.members n)));
}

all_seen : (names : Name × Table → List Name) (all : Entries) (set : BTreeSet Name) → Sees names all set [] → HasJust (names_in names (tables_of all)) set
all_seen names all set so = record { members = λ n. sym (so.members n ∙ nothing_more (contains name_cmp set n)) }

-- when all tables were seen
pub sees_all : (names : Name × Table → List Name) (all : Entries) (i : ℕ) (set : BTreeSet Name) → drop i all ≡ [] → Sees names all set (drop i all) → HasJust (names_in names (tables_of all)) set
sees_all names all i set none so = all_seen names all set (rw none at so)

-- names that stay

abbrev pub AreAmong : List Name → List Name → Type 0
AreAmong ns ms = (n : Name) → is_in n ns ≡ true → is_in n ms ≡ true

or_true : (a b : Bool) → b ≡ true → (a || b) ≡ true
or_true true b h = refl
or_true false b h = h

begins_among : (ns ms : List Name) → begins ns ms ≡ true → AreAmong ns ms
begins_among [] ms so n here = true_false refl (sym here)
begins_among (x ∷ ns) [] so n here = true_false refl (sym so)
begins_among (x ∷ ns) (m ∷ ms) so n here = whether (is_named n x)
    (λ is. ap (λ b. b || is_in n ms) (subst (λ y. is_named n y ≡ true) (same_name x m (and_left (is_named x m) _ so)) is))
    (λ no. or_true (is_named n m) (is_in n ms) (begins_among ns ms (and_right (is_named x m) _ so) n (subst (λ b. (b || is_in n ns) ≡ true) no here)))

both_among : (ks ns xs ys : List Name) → AreAmong ks xs → AreAmong ns ys → AreAmong (ks ++ ns) (xs ++ ys)
both_among ks ns xs ys first next n here =
    let either : (is_in n ks || is_in n ns) ≡ true = sym (any-append (is_named n) ks ns) ∙ here in
    any-append (is_named n) xs ys ∙ whether (is_in n ks)
    (λ is. ap (λ b. b || is_in n ys) (first n is))
    (λ no. or_true (is_in n xs) (is_in n ys) (next n (subst (λ b. (b || is_in n ns) ≡ true) no either)))

-- of shapes, and so of the tables that have them
pub inner_among : (old new : Shape) (was it : Table) → old ≡ shape_of was → new ≡ shape_of it → inner_stay old new ≡ true → AreAmong (inner_names was) (inner_names it)
inner_among old new was it a b stay =
    let keys = map (λ (k : Key). k.name) in
    let uniques = map (λ (u : Unique). u.name) in
    let indexes = map (λ (i : Index). i.name) in
    let rest = and_right (begins (keys (key_list old.key)) (keys (key_list new.key))) _ stay in
    subst (λ (s : Shape). AreAmong (inner_names was) (inner_names (table_as s 1 []))) b (subst (λ (s : Shape). AreAmong (inner_names (table_as s 1 [])) (inner_names (table_as new 1 []))) a
    (both_among (keys (key_list old.key)) (uniques old.uniques ++ indexes old.indexes) (keys (key_list new.key)) (uniques new.uniques ++ indexes new.indexes)
    (begins_among (keys (key_list old.key)) (keys (key_list new.key)) (and_left (begins (keys (key_list old.key)) (keys (key_list new.key))) _ stay))
    (both_among (uniques old.uniques) (indexes old.indexes) (uniques new.uniques) (indexes new.indexes)
    (begins_among (uniques old.uniques) (uniques new.uniques) (and_left (begins (uniques old.uniques) (uniques new.uniques)) _ rest))
    (begins_among (indexes old.indexes) (indexes new.indexes) (and_right (begins (uniques old.uniques) (uniques new.uniques)) _ rest)))))

-- where they count too
pub among_placed : (t : Name) (xs ys : List Name) → AreAmong xs ys → AreAmong (placed t xs) (placed t ys)
among_placed t [] ys among n here = true_false refl (sym here)
among_placed t (x ∷ xs) ys among n here = whether (is_named n (beside t x))
    (λ is. ap (λ m. is_in m (placed t ys)) (same_name n (beside t x) is) ∙ in_placed t x ys ∙ among x (ap (λ b. b || is_in x xs) (named_itself x)))
    (λ no. among_placed t xs ys (λ m k. among m (or_true (is_named m x) (is_in m xs) k)) n (subst (λ b. (b || is_in n (placed t xs)) ≡ true) no here))

pub foreign_among : (old new : Shape) (was it : Table) → old ≡ shape_of was → new ≡ shape_of it → foreign_stay old new ≡ true → AreAmong (foreign_names was) (foreign_names it)
foreign_among old new was it a b stay =
    subst (λ (s : Shape). AreAmong (foreign_names was) (foreign_names (table_as s 1 []))) b (subst (λ (s : Shape). AreAmong (foreign_names (table_as s 1 [])) (foreign_names (table_as new 1 []))) a
    (begins_among (map (λ (f : ForeignKey). f.name) old.foreign) (map (λ (f : ForeignKey). f.name) new.foreign) stay))

-- what stays known

pub none_known : (names : TakenNames) → names.inner ≡ None → names.foreign ≡ None → names.targets ≡ None → (ts : TableMap) → AreKnown ts names
none_known names inner foreign targets ts = record {
  inner = subst (IsTrueOf (names_in names_inside ts)) (sym inner) tt;
  foreign = subst (IsTrueOf (names_in foreign_inside ts)) (sym foreign) tt;
  targets = subst (AreCounts (names_in targets_inside ts)) (sym targets) tt;
}

any_flat : {X : Type 0} (p : Name → Bool) (f : X → List Name) (xs : List X) → list_any p (flat_map f xs) ≡ list_any (λ x. list_any p (f x)) xs
any_flat p f [] = refl
any_flat p f (x ∷ xs) = any-append p (f x) (flat_map f xs) ∙ ap (λ b. list_any p (f x) || b) (any_flat p f xs)

swapped : (a b c : Bool) → (a || (b || c)) ≡ (b || (a || c))
swapped true true c = refl
swapped true false c = refl
swapped false b c = refl

any_put : (p : Name × Table → Bool) (ts : TableMap) (k : Name) (it : Table) → lookup (is_named k) ts ≡ None → list_any p (insert_entry name_cmp ts k it) ≡ (p (k, it) || list_any p ts)
any_put p [] k it none = refl
any_put p (e ∷ ts) k it none =
    elim (name_cmp k e.0) as (λ r. cond (is_eq r) (Some e.1) (lookup (is_named k) ts) ≡ None → list_any p (match_ordering r ((k, it) ∷ e ∷ ts) ((e.0, it) ∷ ts) (e ∷ insert_entry name_cmp ts k it)) ≡ (p (k, it) || list_any p (e ∷ ts))) [
      | Less ↦ λ q. refl
      | Equal ↦ λ q. not_some q
      | Greater ↦ λ q. ap (λ b. p e || b) (any_put p ts k it q) ∙ swapped (p e) (p (k, it)) (list_any p ts)
    ] none

any_set : (p : Name × Table → Bool) (ts : TableMap) (k : Name) (it : Table) → p (k, it) ≡ p (k, unwrap_or (lookup (is_named k) ts) no_table) → list_any p (set_value (is_named k) ts it) ≡ list_any p ts
any_set p [] k it same = refl
any_set p (e ∷ ts) k it same =
    elim (is_named k e.0) as (λ b. is_named k e.0 ≡ b → p (k, it) ≡ p (k, unwrap_or (cond b (Some e.1) (lookup (is_named k) ts)) no_table) → list_any p (cond b ((e.0, it) ∷ ts) (e ∷ set_value (is_named k) ts it)) ≡ list_any p (e ∷ ts)) [
      | true ↦ λ is q. ap (λ b. b || list_any p ts) (subst (λ (m : Name). p (m, it) ≡ p (m, e.1)) (same_name k e.0 is) q)
      | false ↦ λ no q. ap (λ b. p e || b) (any_set p ts k it q)
    ] refl same

-- a table in the place of one whose names it has
any_set_more : (p : Name × Table → Bool) (ts : TableMap) (k : Name) (was it : Table) → lookup (is_named k) ts ≡ Some was → (p (k, was) ≡ true → p (k, it) ≡ true) → list_any p (set_value (is_named k) ts it) ≡ (p (k, it) || list_any p ts)
any_set_more p [] k was it there stays = not_some (sym there)
any_set_more p (e ∷ ts) k was it there stays =
    elim (is_named k e.0) as (λ b. is_named k e.0 ≡ b → cond b (Some e.1) (lookup (is_named k) ts) ≡ Some was → list_any p (cond b ((e.0, it) ∷ ts) (e ∷ set_value (is_named k) ts it)) ≡ (p (k, it) || list_any p (e ∷ ts))) [
      | true ↦ λ is q. subst (λ (m : Name). (p (m, it) || list_any p ts) ≡ (p (k, it) || (p (m, e.1) || list_any p ts))) (same_name k e.0 is)
          (absorbed (p (k, it)) (p (k, e.1)) (list_any p ts) (subst (λ t. p (k, t) ≡ true → p (k, it) ≡ true) (sym (some_same q)) stays))
      | false ↦ λ no q. ap (λ b. p e || b) (any_set_more p ts k was it q stays) ∙ swapped (p e) (p (k, it)) (list_any p ts)
    ] refl there
  where
    absorbed : (a b c : Bool) → (b ≡ true → a ≡ true) → (a || c) ≡ (a || (b || c))
    absorbed true b c h = refl
    absorbed false true c h = true_false (h refl) refl
    absorbed false false c h = refl

pub just_more : (ns ms : List Name) (old new : BTreeSet Name) → Gains ns old new → HasJust ms old → HasJust (ns ++ ms) new
just_more ns ms old new gains has = record { members = λ n. gains.members n ∙ ap (λ b. is_in n ns || b) (has.members n) ∙ sym (any-append (is_named n) ns ms) }

-- other names, of which each is among the known ones
alike : (ns ms : List Name) (known : Option (BTreeSet Name)) → ((n : Name) → is_in n ns ≡ is_in n ms) → IsTrueOf ns known → IsTrueOf ms known
alike ns ms None same is = tt
alike ns ms (Some set) same is = record { members = λ n. is.members n ∙ same n }

pub put_more : (names : Name × Table → List Name) (ts : TableMap) (k : Name) (it : Table) (known : Option (BTreeSet Name)) → lookup (is_named k) ts ≡ None → IsTrueOf (names (k, it) ++ names_in names ts) known → IsTrueOf (names_in names (insert_entry name_cmp ts k it)) known
put_more names ts k it known none is = alike (names (k, it) ++ names_in names ts) (names_in names (insert_entry name_cmp ts k it)) known (λ n.
    any-append (is_named n) (names (k, it)) (names_in names ts) ∙ ap (λ b. is_in n (names (k, it)) || b) (any_flat (is_named n) names ts)
    ∙ sym (any_flat (is_named n) names (insert_entry name_cmp ts k it) ∙ any_put (λ e. is_in n (names e)) ts k it none)) is

pub set_more : (names : Name × Table → List Name) (ts : TableMap) (k : Name) (was it : Table) (known : Option (BTreeSet Name)) → lookup (is_named k) ts ≡ Some was → AreAmong (names (k, was)) (names (k, it)) → IsTrueOf (names (k, it) ++ names_in names ts) known → IsTrueOf (names_in names (set_value (is_named k) ts it)) known
set_more names ts k was it known there among is = alike (names (k, it) ++ names_in names ts) (names_in names (set_value (is_named k) ts it)) known (λ n.
    any-append (is_named n) (names (k, it)) (names_in names ts) ∙ ap (λ b. is_in n (names (k, it)) || b) (any_flat (is_named n) names ts)
    ∙ sym (any_flat (is_named n) names (set_value (is_named k) ts it) ∙ any_set_more (λ e. is_in n (names e)) ts k was it there (among n))) is

set_known : (names : Name × Table → List Name) (ts : TableMap) (k : Name) (it : Table) (known : Option (BTreeSet Name)) → names (k, it) ≡ names (k, unwrap_or (lookup (is_named k) ts) no_table) → IsTrueOf (names_in names ts) known → IsTrueOf (names_in names (set_value (is_named k) ts it)) known
set_known names ts k it None same is = tt
set_known names ts k it (Some set) same is = record {
  members = λ n.
      is.members n ∙ any_flat (is_named n) names ts
      ∙ sym (any_flat (is_named n) names (set_value (is_named k) ts it) ∙ any_set (λ e. is_in n (names e)) ts k it (ap (is_in n) same));
}

-- a table in the place of one with the same foreign keys
targets_stay : (ts : TableMap) (k : Name) (it : Table) → it.foreign ≡ (unwrap_or (lookup (is_named k) ts) no_table).foreign → names_in targets_inside (set_value (is_named k) ts it) ≡ names_in targets_inside ts
targets_stay [] k it same = refl
targets_stay (e ∷ ts) k it same =
    elim (is_named k e.0) as (λ b. it.foreign ≡ (unwrap_or (cond b (Some e.1) (lookup (is_named k) ts)) no_table).foreign → names_in targets_inside (cond b ((e.0, it) ∷ ts) (e ∷ set_value (is_named k) ts it)) ≡ names_in targets_inside (e ∷ ts)) [
      | true ↦ λ q. ap (λ fs. map (λ (f : ForeignKey). f.table) fs ++ names_in targets_inside ts) q
      | false ↦ λ q. ap (λ ns. targets_inside e ++ ns) (targets_stay ts k it q)
    ] same

-- a table in the place of another that has the same names inside
pub rows_known : (before after : History TableMap) (k : Name) (it : Table) (names : TakenNames) → after ≡ changed before (set_value (is_named k) before.now it)
    → inner_names it ≡ inner_names (unwrap_or (lookup (is_named k) before.now) no_table) → it.foreign ≡ (unwrap_or (lookup (is_named k) before.now) no_table).foreign → AreKnown before.now names → AreKnown after.now names
rows_known before after k it names is inner foreign known = subst (λ (h : History TableMap). AreKnown h.now names) (sym is) (record {
  inner = set_known names_inside before.now k it names.inner (ap (placed k) inner) known.inner;
  foreign = set_known foreign_inside before.now k it names.foreign (ap (map (λ (f : ForeignKey). f.name)) foreign) known.foreign;
  targets = subst (λ ns. AreCounts ns names.targets) (sym (targets_stay before.now k it foreign)) known.targets;
})

-- a new table whose names were added
pub put_known : (before after : History TableMap) (k : Name) (it : Table) (names : TakenNames) → after ≡ changed before (insert_entry name_cmp before.now k it) → AreKnown (insert_entry name_cmp before.now k it) names → AreKnown after.now names
put_known before after k it names is known = subst (λ (h : History TableMap). AreKnown h.now names) (sym is) known

-- a table of another shape
pub shaped_known : (before after : History TableMap) (k : Name) (it : Table) (names : TakenNames) → after ≡ changed before (set_value (is_named k) before.now it) → AreKnown (set_value (is_named k) before.now it) names → AreKnown after.now names
shaped_known before after k it names is known = subst (λ (h : History TableMap). AreKnown h.now names) (sym is) known

-- a table that was taken away
pub taken_known : (before after : History TableMap) (k : Name) (names : TakenNames) → after ≡ changed before (remove_entry (is_named k) before.now) → AreKnown (remove_entry (is_named k) before.now) names → AreKnown after.now names
taken_known before after k names is known = subst (λ (h : History TableMap). AreKnown h.now names) (sym is) known
