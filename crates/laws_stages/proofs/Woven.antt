-- A catalogue in the midst of being made again: the tables before one as far as F goes, the one, and those behind it as far as B goes, without rows and views.
use Rattle.std.proofs.Common.{ap, arith, subst, sym, ◌∙◌}
use Rattle.std.specs.List.{AllByRecursion, flat_map, list_all, list_any}
use Rattle.std.specs.List.Sorted.{IsStrictlySortedBy}
use Rattle.std.specs.Map.{keys_of, lookup, set_value}
use Rattle.std.specs.Option.{option_map, unwrap_or}
use Rattle.std.specs.Ordering.{is_eq, ordering_reverse}
use Rattle.std.specs.Cmp.Lexicographic.{nat_list_cmp_total}
use Rattle.std.specs.Prelude.{Bool, List, None, Option, Some, [], cond, false, is_none, map, not, refl, true, ℕ, ◌&&◌, ◌+◌, ◌++◌, ◌||◌, ◌∷◌, ◌≡◌, ◌≤◌}
use Rattle.std.specs.declared.cmp.Ordering.TheVariants.{Equal, Greater, Less}
use Rattle.lq_base.specs.Name.{is_named, name_cmp}
use Rattle.lq_base.specs.declared.dialect.Dialect.{Dialect}
use Rattle.lq_base.specs.declared.name.Name.{Name}
use Rattle.lq_base.specs.declared.value.Value.{Value}
use Rattle.lq_model.proofs.Counts.{once}
use Rattle.lq_model.proofs.Decide.{IsSettled}
use Rattle.lq_model.proofs.Lists.{and_left, and_right, any-append, named_itself, or_false}
use Rattle.lq_model.proofs.Places.{placed_less}
use Rattle.lq_model.proofs.Times.{times-append}
use Rattle.lq_model.specs.Catalogue.{Catalogue, Sequence, Table, View, no_table, table_of, the_table, with_table, times, has_bad_null, has_equals, picked, foreign_names, inner_names}
use Rattle.lq_model.specs.NameSpaces.{AreApart, all_foreign_names, names_inside, object_names, shared_names}
use Rattle.lq_model.specs.Plan.{has_null, has_orphan, has_orphans, has_twins, is_full, is_loose, is_overfull, lacks_parent, misses_target, table_has_null, table_has_twins, unique_lists}
use Rattle.lq_model.specs.declared.constraint.ForeignKey.{ForeignKey}
use Rattle.laws_stages.proofs.Stages.{above, below, inner_split, keys_split, tables_inner}
use Rattle.laws_stages.specs.Making.{on}

-- what is made of a table so far: its columns, some of what else it has, and no rows
pub record IsPart (p it : Table) : Type 0 where
  pub columns : p.columns ≡ it.columns
  pub rows : p.rows ≡ []
  pub inner : (n : Name) → times n (inner_names p) ≤ times n (inner_names it)
  pub foreign : (n : Name) → times n (foreign_names p) ≤ times n (foreign_names it)

-- entries at a name

not_it : (a b : Name) → name_cmp a b ≡ Less → is_named b a ≡ false
not_it a b h = ap is_eq (above a b h)

pub lookup_at : {A : Type 0} (es : List (Name × A)) (e : Name × A) (rest : List (Name × A)) → AllByRecursion (λ (x : Name × A). name_cmp x.0 e.0 ≡ Less) es → lookup (is_named e.0) (es ++ e ∷ rest) ≡ Some e.1
lookup_at [] e rest h = ap (λ b. cond b (Some e.1) (lookup (is_named e.0) rest)) (named_itself e.0)
lookup_at (x ∷ es) e rest h = ap (λ b. cond b (Some x.1) (lookup (is_named e.0) (es ++ e ∷ rest))) (not_it x.0 e.0 h.0) ∙ lookup_at es e rest h.1

pub set_at : {A : Type 0} (es : List (Name × A)) (e : Name × A) (y : A) (rest : List (Name × A)) → AllByRecursion (λ (x : Name × A). name_cmp x.0 e.0 ≡ Less) es → set_value (is_named e.0) (es ++ e ∷ rest) y ≡ es ++ (e.0, y) ∷ rest
set_at [] e y rest h = ap (λ b. cond b ((e.0, y) ∷ rest) (e ∷ set_value (is_named e.0) rest y)) (named_itself e.0)
set_at (x ∷ es) e y rest h = ap (λ b. cond b ((x.0, y) ∷ (es ++ e ∷ rest)) (x ∷ set_value (is_named e.0) (es ++ e ∷ rest) y)) (not_it x.0 e.0 h.0) ∙ ap (λ fs. x ∷ fs) (set_at es e y rest h.1)

on_below : (F : Table → Table) (es : List (Name × Table)) (k : Name) → AllByRecursion (λ (x : Name × Table). name_cmp x.0 k ≡ Less) es → AllByRecursion (λ (x : Name × Table). name_cmp x.0 k ≡ Less) (map (on F) es)
on_below F [] k h = tt
on_below F (x ∷ es) k h = (h.0, on_below F es k h.1)

pub looked_on : (F : Table → Table) (q : Name) (es : List (Name × Table)) → lookup (is_named q) (map (on F) es) ≡ option_map F (lookup (is_named q) es)
looked_on F q [] = refl
looked_on F q (e ∷ es) = by (is_named q e.0) (looked_on F q es) where
  by : (b : Bool) → lookup (is_named q) (map (on F) es) ≡ option_map F (lookup (is_named q) es) → cond b (Some (F e.1)) (lookup (is_named q) (map (on F) es)) ≡ option_map F (cond b (Some e.1) (lookup (is_named q) es))
  by true rest = refl
  by false rest = rest

-- names

pub keys_on : (F : Table → Table) (es : List (Name × Table)) → map (λ (x : Name × Table). x.0) (map (on F) es) ≡ map (λ (x : Name × Table). x.0) es
keys_on F [] = refl
keys_on F (x ∷ es) = ap (λ ns. x.0 ∷ ns) (keys_on F es)

abbrev pub tables_foreign : List (Name × Table) → List Name
tables_foreign es = flat_map (λ (x : Name × Table). foreign_names x.1) es

module _ (F : Table → Table) (part : (it : Table) → IsPart (F it) it) (n : Name) where
  pub inner_on : (es : List (Name × Table)) → times n (tables_inner (map (on F) es)) ≤ times n (tables_inner es)
  inner_on [] = omega arith
  inner_on (x ∷ es) =
      let a = times-append n (names_inside (x.0, F x.1)) (tables_inner (map (on F) es)) in
      let b = times-append n (names_inside x) (tables_inner es) in
      let c = placed_less x.0 (inner_names (F x.1)) (inner_names x.1) (part x.1).inner n in
      let r = inner_on es in
      omega (arith, a, b, c, r)

  foreign_on : (es : List (Name × Table)) → times n (tables_foreign (map (on F) es)) ≤ times n (tables_foreign es)
  foreign_on [] = omega arith
  foreign_on (x ∷ es) =
      let a = times-append n (foreign_names (F x.1)) (tables_foreign (map (on F) es)) in
      let b = times-append n (foreign_names x.1) (tables_foreign es) in
      let c = (part x.1).foreign n in
      let r = foreign_on es in
      omega (arith, a, b, c, r)

foreign_split : (n : Name) (es fs : List (Name × Table)) → times n (tables_foreign (es ++ fs)) ≡ times n (tables_foreign es) + times n (tables_foreign fs)
foreign_split n [] fs = omega arith
foreign_split n (x ∷ es) fs =
    let a = times-append n (foreign_names x.1) (tables_foreign (es ++ fs)) in
    let b = times-append n (foreign_names x.1) (tables_foreign es) in
    let r = foreign_split n es fs in
    omega (arith, a, b, r)

-- a table without rows passes what asks for its rows

pub no_equals : (it : Table) (ls : List (List Name)) → it.rows ≡ [] → list_any (λ ns. has_equals (map (picked it.columns ns) it.rows)) ls ≡ false
no_equals it [] h = refl
no_equals it (ns ∷ ls) h = or_false _ _ (ap (λ rs. has_equals (map (picked it.columns ns) rs)) h) (no_equals it ls h)

pub no_orphan : (c : Catalogue) (it : Table) (fs : List ForeignKey) → it.rows ≡ [] → list_any (λ f. list_any (lacks_parent c it.columns f) it.rows) fs ≡ false
no_orphan c it [] h = refl
no_orphan c it (f ∷ fs) h = or_false _ _ (ap (list_any (lacks_parent c it.columns f)) h) (no_orphan c it fs h)

pub none_on : (p : Table → Bool) (F : Table → Table) → ((it : Table) → IsPart (F it) it) → ((it : Table) → it.rows ≡ [] → p it ≡ false) → (es : List (Name × Table)) → list_any (λ (e : Name × Table). p e.1) (map (on F) es) ≡ false
none_on p F part passes [] = refl
none_on p F part passes (e ∷ es) = or_false _ _ (passes (F e.1) (part e.1).rows) (none_on p F part passes es)

module _ (d : Dialect) (c : Catalogue) (done : List (Name × Table)) (e : Name × Table) (more : List (Name × Table)) (is : c.tables ≡ done ++ e ∷ more) (ordered : IsStrictlySortedBy name_cmp (keys_of c.tables))
    (F B : Table → Table) (front : (it : Table) → IsPart (F it) it) (back : (it : Table) → IsPart (B it) it) where
  abbrev pub woven : Table → Catalogue
  woven p = record { tables = map (on F) done ++ (e.0, p) ∷ map (on B) more; views = []; sequences = c.sequences }

  before : AllByRecursion (λ (x : Name × Table). name_cmp x.0 e.0 ≡ Less) done
  before = below done e more (subst (λ ts. IsStrictlySortedBy name_cmp (keys_of ts)) is ordered)

  -- the table itself

  pub whole_there : table_of c e.0 ≡ Some e.1
  whole_there = ap (lookup (is_named e.0)) is ∙ lookup_at done e more before

  pub there : (p : Table) → table_of (woven p) e.0 ≡ Some p
  there p = lookup_at (map (on F) done) (e.0, p) (map (on B) more) (on_below F done e.0 before)

  pub the_one : (p : Table) → the_table (woven p) e.0 ≡ p
  the_one p = ap (λ o. unwrap_or o no_table) (there p)

  pub put : (p q : Table) → with_table (woven p) e.0 q ≡ woven q
  put p q = ap (λ ts. record { tables = ts; views = []; sequences = c.sequences }) (set_at (map (on F) done) (e.0, p) q (map (on B) more) (on_below F done e.0 before))

  -- no name stands there more often than in the whole, as far as the one table goes

  module _ (n : Name) (p : Table) where
    pub shared_woven : times n (shared_names (woven p)) + times n (names_inside e) ≤ times n (shared_names c) + times n (names_inside (e.0, p))
    shared_woven =
        let own = map (λ (x : Name × Table). x.0) (map (on F) done ++ (e.0, p) ∷ map (on B) more) in
        let vs = map (λ (x : Name × View). x.0) c.views in
        let ss = map (λ (x : Name × Sequence). x.0) c.sequences in
        let all = map (λ (x : Name × Table). x.0) c.tables in
        let ts = map (on F) done ++ (e.0, p) ∷ map (on B) more in
        let a = times-append n (own ++ ([] ++ ss)) (tables_inner ts) in
        let b = times-append n own ([] ++ ss) in
        let g = times-append n (all ++ (vs ++ ss)) (tables_inner c.tables) in
        let h = times-append n all (vs ++ ss) in
        let r = times-append n vs ss in
        let u : times n all ≡ times n (map (λ (x : Name × Table). x.0) (done ++ e ∷ more)) = ap (λ es. times n (map (λ (x : Name × Table). x.0) es)) is in
        let v = keys_split n done (e ∷ more) in
        let v2 = keys_split n (map (on F) done) ((e.0, p) ∷ map (on B) more) in
        let k1 = ap (times n) (keys_on F done) in
        let k2 = ap (times n) (keys_on B more) in
        let w : times n (tables_inner c.tables) ≡ times n (tables_inner (done ++ e ∷ more)) = ap (λ es. times n (tables_inner es)) is in
        let z = inner_split n done (e ∷ more) in
        let z2 = inner_split n (map (on F) done) ((e.0, p) ∷ map (on B) more) in
        let m = times-append n (names_inside e) (tables_inner more) in
        let m2 = times-append n (names_inside (e.0, p)) (tables_inner (map (on B) more)) in
        let i1 = inner_on F front n done in
        let i2 = inner_on B back n more in
        omega (arith, a, b, g, h, r, u, v, v2, k1, k2, w, z, z2, m, m2, i1, i2)

    pub foreign_woven : times n (all_foreign_names (woven p)) + times n (foreign_names e.1) ≤ times n (all_foreign_names c) + times n (foreign_names p)
    foreign_woven =
        let w : times n (tables_foreign c.tables) ≡ times n (tables_foreign (done ++ e ∷ more)) = ap (λ es. times n (tables_foreign es)) is in
        let z = foreign_split n done (e ∷ more) in
        let z2 = foreign_split n (map (on F) done) ((e.0, p) ∷ map (on B) more) in
        let m = times-append n (foreign_names e.1) (tables_foreign more) in
        let m2 = times-append n (foreign_names p) (tables_foreign (map (on B) more)) in
        let i1 = foreign_on F front n done in
        let i2 = foreign_on B back n more in
        omega (arith, w, z, z2, m, m2, i1, i2)

  -- what is asked of a result but for its foreign keys

  none : (test : Table → Bool) → ((it : Table) → it.rows ≡ [] → test it ≡ false) → (q : Table) → q.rows ≡ [] → list_any (λ (x : Name × Table). test x.1) (woven q).tables ≡ false
  none test passes q h = any-append (λ (x : Name × Table). test x.1) (map (on F) done) ((e.0, q) ∷ map (on B) more) ∙ or_false _ _ (none_on test F front passes done) (or_false _ _ (passes q h) (none_on test B back passes more))

  pub woven_settled : (q : Table) → q.rows ≡ [] → is_loose (woven q) ≡ false → IsSettled (woven q)
  woven_settled q h aimed = record {
    aimed = aimed;
    no_null = none table_has_null (λ it r. ap (list_any (has_bad_null it.columns)) r) q h;
    no_twins = none table_has_twins (λ it r. no_equals it (unique_lists it) r) q h;
    parents = none (has_orphan (woven q)) (λ it r. no_orphan (woven q) it it.foreign r) q h;
    small = none is_full (λ it r. ap (λ (rs : List (List Value)). is_full (record it { rows = rs })) r) q h;
  }
