-- A catalogue in which one table is another.
use Rattle.std.proofs.Common.{ap, sym, ◌∙◌}
use Rattle.std.proofs.Math.Path.{subst}
use Rattle.std.proofs.lemmas.Map.{keys-set_value}
use Rattle.std.specs.List.{flat_map, list_any}
use Rattle.std.specs.List.Sorted.{IsStrictlySortedBy}
use Rattle.std.specs.Map.{lookup, set_value}
use Rattle.std.specs.Option.{unwrap_or}
use Rattle.std.specs.Prelude.{Bool, List, Some, [], cond, false, map, not, refl, true, ◌&&◌, ◌++◌, ◌||◌, ◌∷◌, ◌≡◌, ◌≤◌}
use Rattle.lq_base.specs.Name.{is_named, name_cmp}
use Rattle.lq_base.specs.declared.dialect.Dialect.{Dialect}
use Rattle.lq_base.specs.declared.dialect.Dialect.TheVariants.{Mysql, Postgresql}
use Rattle.lq_base.specs.declared.name.Name.{Name}
use Rattle.lq_model.specs.Catalogue.{Catalogue, Table, View, no_table, table_of, the_table, with_table, times, foreign_names, has_column, inner_names, placed}
use Rattle.lq_model.specs.Kinds.{kind_of, kinds_at, kinds_differ, same_kinds}
use Rattle.lq_model.specs.NameSpaces.{AreApart, names_inside, object_names}
use Rattle.lq_model.specs.Sound.{IsSound, IsSoundTable, is_view, may_name}
use Rattle.lq_model.specs.Truth.{names_in}
use Rattle.lq_model.specs.declared.constraint.ForeignKey.{ForeignKey}
use Rattle.lq_model.proofs.KeptKinds.{kinds_same, view_still}
use Rattle.lq_model.proofs.Lists.{all_kept, any_less_both, any_same, not_false, or_false, or_left, or_right, same_name, true_false}
use Rattle.lq_model.proofs.Maps.{any_none-set_value, at_lookup, lookup-set_value, set_value-itself, set_value-set_value, some_same}
use Rattle.lq_model.proofs.Shaped.{IsShaped, shape_of}
use Rattle.lq_model.proofs.Untouched.{IsUntouched, aims, shows, unused}
use Rattle.lq_model.proofs.ViewAt.{view_at, view_is}

pub lookup_other : {X : Type 0} (t q : Name) (x : X) (es : List (Name × X)) → is_named t q ≡ false → lookup (is_named q) (set_value (is_named t) es x) ≡ lookup (is_named q) es
lookup_other t q x [] apart = refl
lookup_other t q x (e ∷ es) apart =
    elim (is_named t e.0) as (λ b. is_named t e.0 ≡ b → lookup (is_named q) (cond b ((e.0, x) ∷ es) (e ∷ set_value (is_named t) es x)) ≡ lookup (is_named q) (e ∷ es)) [
      | true ↦ λ p. elim (is_named q e.0) as (λ b. is_named q e.0 ≡ b → cond b (Some x) (lookup (is_named q) es) ≡ cond b (Some e.1) (lookup (is_named q) es)) [
        | true ↦ λ r. true_false (ap (is_named t) (same_name q e.0 r) ∙ p) apart
        | false ↦ λ r. refl
      ] refl
      | false ↦ λ p. ap (cond (is_named q e.0) (Some e.1)) (lookup_other t q x es apart)
    ] refl

flat-set_value : {X : Type 0} (t : Name) (f : Name × X → List Name) (es : List (Name × X)) (x y : X) → lookup (is_named t) es ≡ Some x → f (t, y) ≡ f (t, x) → flat_map f (set_value (is_named t) es y) ≡ flat_map f es
flat-set_value t f [] x y h same = refl
flat-set_value t f (e ∷ es) x y h same =
    elim (is_named t e.0) as (λ b. is_named t e.0 ≡ b → cond b (Some e.1) (lookup (is_named t) es) ≡ Some x → flat_map f (cond b ((e.0, y) ∷ es) (e ∷ set_value (is_named t) es y)) ≡ flat_map f (e ∷ es)) [
      | true ↦ λ p q. ap (λ ns. ns ++ flat_map f es) (ap (λ z. f (z, y)) (sym (same_name t e.0 p)) ∙ same ∙ ap (λ z. f (z, x)) (same_name t e.0 p) ∙ ap (λ z. f (e.0, z)) (some_same (sym q)))
      | false ↦ λ p q. ap (λ ns. f e ++ ns) (flat-set_value t f es x y q same)
    ] refl h

-- the names in the spaces stay where the table's do
pub same_apart : (d : Dialect) (c : Catalogue) (t : Name) (it : Table) → table_of c t ≡ Some (the_table c t) → inner_names it ≡ inner_names (the_table c t) → foreign_names it ≡ foreign_names (the_table c t) → AreApart d c → AreApart d (with_table c t it)
same_apart Postgresql c t it there same also h = λ n. subst (λ ns. times n ns ≤ 1) (sym (
    ap (λ ks. (ks ++ (map (λ e. e.0) c.views ++ map (λ e. e.0) c.sequences)) ++ flat_map names_inside (with_table c t it).tables) (keys-set_value (is_named t) c.tables it)
    ∙ ap (λ ns. object_names c ++ ns) (flat-set_value t names_inside c.tables (the_table c t) it there (ap (placed t) same)))) (h n)
same_apart Mysql c t it there same also h = (
  λ n. subst (λ ks. times n (ks ++ (map (λ e. e.0) c.views ++ map (λ e. e.0) c.sequences)) ≤ 1) (sym (keys-set_value (is_named t) c.tables it)) (h.0 n),
  λ n. subst (λ ns. times n ns ≤ 1) (sym (flat-set_value t (λ (e : Name × Table). foreign_names e.1) c.tables (the_table c t) it there also)) (h.1 n),
)

pub the_table-with_table : (c : Catalogue) (t : Name) (it : Table) → table_of c t ≡ Some (the_table c t) → the_table (with_table c t it) t ≡ it
the_table-with_table c t it there = ap (λ o. unwrap_or o no_table) (lookup-set_value (is_named t) c.tables (the_table c t) it there)

pub with_table-with_table : (c : Catalogue) (t : Name) (a b : Table) → with_table (with_table c t a) t b ≡ with_table c t b
with_table-with_table c t a b = ap (λ ts. record c { tables = ts }) (set_value-set_value (is_named t) c.tables a b)

pub with_table-itself : (c : Catalogue) (t : Name) → table_of c t ≡ Some (the_table c t) → with_table c t (the_table c t) ≡ c
with_table-itself c t there = ap (λ ts. record c { tables = ts }) (set_value-itself (is_named t) c.tables (the_table c t) there)

-- the new table differs from the old one in the kinds of the columns q alone, which nothing else names
module _ (d : Dialect) (c : Catalogue) (t : Name) (it : Table) (sound : IsShaped d c) (there : table_of c t ≡ Some (the_table c t)) (q : Name → Bool) (same : (m : Name) → q m ≡ false → kind_of m it.columns ≡ kind_of m (the_table c t).columns) (untouched : IsUntouched c t q) where
  abbrev e' : Catalogue
  e' = with_table c t it

  targets_same : (f : ForeignKey) → aims q t f ≡ false → kinds_at (the_table e' f.table) f.targets ≡ kinds_at (the_table c f.table) f.targets
  targets_same f out = elim (is_named t f.table) as (λ b. is_named t f.table ≡ b → (b && list_any q f.targets) ≡ false → kinds_at (the_table e' f.table) f.targets ≡ kinds_at (the_table c f.table) f.targets) [
    | true ↦ λ p none.
        let at = same_name t f.table p in
        ap (λ n. kinds_at (the_table e' n) f.targets) (sym at) ∙ ap (λ x. kinds_at x f.targets) (the_table-with_table c t it there)
        ∙ kinds_same q (the_table c t).columns it.columns same f.targets none ∙ ap (λ n. kinds_at (the_table c n) f.targets) at
    | false ↦ λ p none. ap (λ o. kinds_at (unwrap_or o no_table) f.targets) (lookup_other t f.table it c.tables p)
  ] refl out

  pub differ_same : (x : Table) (f : ForeignKey) → aims q t f ≡ false → kinds_differ e' x f ≡ kinds_differ c x f
  differ_same x f out = ap (λ ks. not (same_kinds (kinds_at x f.columns) ks)) (targets_same f out)

  others_alike : list_any (λ x. list_any (kinds_differ e' x.1) x.1.foreign) c.tables ≡ false
  others_alike = any_less_both (λ x. list_any (aims q t) x.1.foreign) (λ x. list_any (kinds_differ c x.1) x.1.foreign) _ c.tables
      (λ x none alike. any_less_both (aims q t) (kinds_differ c x.1) _ x.1.foreign (λ f out is. differ_same x.1 f out ∙ is) none alike)
      untouched.aimed sound.alike

  -- foreign keys that stay are still of their targets' kinds
  pub own_alike : list_any (kinds_differ e' it) (the_table c t).foreign ≡ false
  own_alike =
      let old = the_table c t in
      let none = at_lookup (is_named t) (λ x. list_any (aims q t) x.foreign) c.tables old untouched.aimed there in
      let alike = at_lookup (is_named t) (λ x. list_any (kinds_differ c x) x.foreign) c.tables old sound.alike there in
      any_less_both (λ f. list_any q f.columns) (λ f. aims q t f || kinds_differ c old f) _ old.foreign
      (λ f out is. ap (λ ks. not (same_kinds ks (kinds_at (the_table e' f.table) f.targets))) (kinds_same q old.columns it.columns same f.columns out) ∙ differ_same old f (or_left _ _ is) ∙ or_right _ _ is)
      untouched.own (any_less_both (aims q t) (kinds_differ c old) _ old.foreign (λ f a b. or_false _ _ a b) none alike)

  view_kept : (v : View) → shows q t v ≡ false → view_at (table_of c v.query.table) v ≡ true → view_at (table_of e' v.query.table) v ≡ true
  view_kept v none h = elim (is_named t v.query.table) as (λ b. is_named t v.query.table ≡ b → (b && (list_any q v.columns || list_any q (names_in v.query.test))) ≡ false → view_at (table_of e' v.query.table) v ≡ true) [
    | true ↦ λ p out.
        let at = sym (same_name t v.query.table p) in
        ap (λ o. view_at o v) (ap (table_of e') at ∙ lookup-set_value (is_named t) c.tables (the_table c t) it there)
        ∙ view_still q (the_table c t) it same v out (ap (λ o. view_at o v) (sym (ap (table_of c) at ∙ there)) ∙ h)
    | false ↦ λ p out. ap (λ o. view_at o v) (lookup_other t v.query.table it c.tables p) ∙ h
  ] refl none

  -- it is shaped where the new table is sound, the names are apart, and its foreign keys are alike
  pub kept : AreApart d e' → IsSoundTable d it → list_any (kinds_differ e' it) it.foreign ≡ false → IsShaped d e'
  kept apart fine alike = record {
    ordered = subst (IsStrictlySortedBy name_cmp) (sym (keys-set_value (is_named t) c.tables it)) sound.ordered;
    ordered_views = sound.ordered_views;
    ordered_sequences = sound.ordered_sequences;
    tables = λ k x is. elim (is_named t k) as (λ b. is_named t k ≡ b → IsSoundTable d x) [
      | true ↦ λ p. subst (IsSoundTable d) (some_same (sym (lookup-set_value (is_named t) c.tables (the_table c t) it there) ∙ ap (table_of e') (same_name t k p) ∙ is)) fine
      | false ↦ λ p. sound.tables k x (sym (lookup_other t k it c.tables p) ∙ is)
    ] refl;
    views = all_kept (λ e. shows q t e.1) (λ e. is_view c e.1) _ c.views (λ e none is. view_is e' e.1 ∙ view_kept e.1 none (sym (view_is c e.1) ∙ is)) untouched.shown sound.views;
    apart = apart;
    schemas = ap (λ ks. may_name d (ks ++ (map (λ e. e.0) c.views ++ map (λ e. e.0) c.sequences))) (keys-set_value (is_named t) c.tables it) ∙ sound.schemas;
    steps = sound.steps;
    sequences = sound.sequences;
    alike = any_none-set_value (is_named t) (λ x. list_any (kinds_differ e' x.1) x.1.foreign) c.tables it others_alike (λ k p. alike);
  }

  -- the same where its foreign keys are those that were there
  pub kept_foreign : it.foreign ≡ (the_table c t).foreign → AreApart d e' → IsSoundTable d it → IsShaped d e'
  kept_foreign foreign apart fine = kept apart fine (ap (list_any (kinds_differ e' it)) foreign ∙ own_alike)

pub never : {A : Type 0} (xs : List A) → list_any (λ x. false) xs ≡ false
never [] = refl
never (x ∷ xs) = never xs

pub and_never : (b : Bool) → (b && false) ≡ false
and_never true = refl
and_never false = refl

-- no column is touched
pub nothing_touched : (c : Catalogue) (t : Name) → IsUntouched c t (λ m. false)
nothing_touched c t = record {
  shown = any_same _ (λ x. false) c.views (λ e. ap (λ b. is_named t e.1.query.table && (b || list_any (λ m. false) (names_in e.1.query.test))) (never e.1.columns) ∙ ap (λ b. is_named t e.1.query.table && b) (never (names_in e.1.query.test)) ∙ and_never (is_named t e.1.query.table)) ∙ never c.views;
  aimed = any_same _ (λ x. false) c.tables (λ e. any_same _ (λ f. false) e.1.foreign (λ f. ap (λ b. is_named t f.table && b) (never f.targets) ∙ and_never (is_named t f.table)) ∙ never e.1.foreign) ∙ never c.tables;
  own = any_same _ (λ f. false) (the_table c t).foreign (λ f. never f.columns) ∙ never (the_table c t).foreign;
}

pub not_so_true : (b : Bool) → not b ≡ true → b ≡ false
not_so_true true h = sym h
not_so_true false h = refl

-- a new table with the columns that were there, of the same kinds, and maybe more
pub kept_more : (d : Dialect) (c : Catalogue) (t : Name) (it : Table) → IsSound d c → table_of c t ≡ Some (the_table c t) → ((m : Name) → has_column (the_table c t) m ≡ true → kind_of m it.columns ≡ kind_of m (the_table c t).columns) → it.foreign ≡ (the_table c t).foreign → AreApart d (with_table c t it) → IsSoundTable d it → IsShaped d (with_table c t it)
kept_more d c t it sound there more =
    let q : Name → Bool = λ m. not (has_column (the_table c t) m) in
    kept_foreign d c t it (shape_of d c sound) there q (λ m p. more m (not_false _ p)) (unused q d c t sound there (λ m p. not_so_true _ p))

-- a new table with other rows, or another next number, and the same columns
pub kept_rows : (d : Dialect) (c : Catalogue) (t : Name) (it : Table) → IsShaped d c → table_of c t ≡ Some (the_table c t) → it.columns ≡ (the_table c t).columns → it.foreign ≡ (the_table c t).foreign → AreApart d (with_table c t it) → IsSoundTable d it → IsShaped d (with_table c t it)
kept_rows d c t it shape there columns foreign =
    kept_foreign d c t it shape there (λ m. false) (λ m p. ap (kind_of m) columns) (nothing_touched c t) foreign

-- a new table with the same columns, whose foreign keys are alike
pub kept_columns : (d : Dialect) (c : Catalogue) (t : Name) (it : Table) → IsShaped d c → table_of c t ≡ Some (the_table c t) → ((m : Name) → kind_of m it.columns ≡ kind_of m (the_table c t).columns) → AreApart d (with_table c t it) → IsSoundTable d it → list_any (kinds_differ (with_table c t it) it) it.foreign ≡ false → IsShaped d (with_table c t it)
kept_columns d c t it shape there same = kept d c t it shape there (λ m. false) (λ m p. same m) (nothing_touched c t)

pub old_alike : (d : Dialect) (c : Catalogue) (t : Name) (it : Table) → IsShaped d c → table_of c t ≡ Some (the_table c t) → ((m : Name) → kind_of m it.columns ≡ kind_of m (the_table c t).columns) → list_any (kinds_differ (with_table c t it) it) (the_table c t).foreign ≡ false
old_alike d c t it shape there same = own_alike d c t it shape there (λ m. false) (λ m p. same m) (nothing_touched c t)

pub one_alike : (d : Dialect) (c : Catalogue) (t : Name) (it : Table) → IsShaped d c → table_of c t ≡ Some (the_table c t) → ((m : Name) → kind_of m it.columns ≡ kind_of m (the_table c t).columns) → (x : Table) (f : ForeignKey) → kinds_differ (with_table c t it) x f ≡ kinds_differ c x f
one_alike d c t it shape there same x f = differ_same d c t it shape there (λ m. false) (λ m p. same m) (nothing_touched c t) x f (ap (λ b. is_named t f.table && b) (never f.targets) ∙ and_never (is_named t f.table))
