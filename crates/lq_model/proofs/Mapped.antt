-- A catalogue in which every table has other rows.
use Rattle.std.proofs.Common.{ap, sym, ◌∙◌}
use Rattle.std.proofs.Math.Path.{subst}
use Rattle.std.specs.List.{flat_map, list_all, list_any}
use Rattle.std.specs.List.Sorted.{IsStrictlySortedBy}
use Rattle.std.specs.Option.{option_map, unwrap_or}
use Rattle.std.specs.Prelude.{List, None, Option, Some, [], map, not, refl, true, ℕ, ◌++◌, ◌∷◌, ◌≡◌, ◌≤◌}
use Rattle.lq_base.specs.Name.{is_named, name_cmp}
use Rattle.lq_base.specs.declared.dialect.Dialect.{Dialect}
use Rattle.lq_base.specs.declared.dialect.Dialect.TheVariants.{Mysql, Postgresql}
use Rattle.lq_base.specs.declared.name.Name.{Name}
use Rattle.lq_base.specs.declared.value.Value.{Value}
use Rattle.lq_model.specs.Catalogue.{Catalogue, Table, View, no_table, table_of, times, row_fits, foreign_names, inner_names, placed}
use Rattle.lq_model.specs.Kinds.{kinds_at, kinds_differ, same_kinds}
use Rattle.lq_model.specs.NameSpaces.{AreApart, AreApartWithin, names_inside, object_names}
use Rattle.lq_model.specs.Sound.{IsSoundTable, is_view, may_name}
use Rattle.lq_model.specs.declared.constraint.ForeignKey.{ForeignKey}
use Rattle.lq_model.proofs.Lists.{all_more, any-map, any_same}
use Rattle.lq_model.proofs.Maps.{lookup-values, not_some, some_same}
use Rattle.lq_model.proofs.Shaped.{IsShaped}
use Rattle.lq_model.proofs.ViewAt.{view_at, view_is}

pub with_rows : (d : Dialect) (it : Table) (rows : List (List Value)) (next : ℕ) → IsSoundTable d it → list_all (row_fits it.columns) rows ≡ true → IsSoundTable d (record it { rows = rows; next = next })
with_rows d it rows next fine fit = record {
  some = fine.some;
  differ = fine.differ;
  kinds = fine.kinds;
  rows = fit;
  defaults = fine.defaults;
  lists = fine.lists;
  foreign = fine.foreign;
  key = fine.key;
  key_named = fine.key_named;
  numbered = fine.numbered;
  within = same_within d it rows next fine.within;
  public = fine.public;
} where
  same_within : (d : Dialect) (it : Table) (rows : List (List Value)) (next : ℕ) → AreApartWithin d it → AreApartWithin d (record it { rows = rows; next = next })
  same_within Postgresql it rows next h = h
  same_within Mysql it rows next h = h

pub mapped_some : {X Y : Type 0} (f : X → Y) (o : Option X) (y : Y) → option_map f o ≡ Some y → (x : X) × (o ≡ Some x) × (f x ≡ y)
mapped_some f None y h = not_some (sym h)
mapped_some f (Some x) y h = (x, refl, some_same h)

pub keys_of_values : {X : Type 0} (g : X → X) (es : List (Name × X)) → map (λ (e : Name × X). e.0) (map (λ e. (e.0, g e.1)) es) ≡ map (λ e. e.0) es
keys_of_values g [] = refl
keys_of_values g (e ∷ es) = ap (λ ks. e.0 ∷ ks) (keys_of_values g es)

pub flat-values : {X : Type 0} (f : Name × X → List Name) (g : X → X) (es : List (Name × X)) → ((e : Name × X) → f (e.0, g e.1) ≡ f e) → flat_map f (map (λ e. (e.0, g e.1)) es) ≡ flat_map f es
flat-values f g [] same = refl
flat-values f g (e ∷ es) same = ap (λ ns. ns ++ flat_map f (map (λ x. (x.0, g x.1)) es)) (same e) ∙ ap (λ ns. f e ++ ns) (flat-values f g es same)

-- other tables whose names are the same
pub mapped_apart : (d : Dialect) (c : Catalogue) (g : Table → Table) → ((x : Table) → inner_names (g x) ≡ inner_names x) → ((x : Table) → foreign_names (g x) ≡ foreign_names x) → AreApart d c → AreApart d (record c { tables = map (λ e. (e.0, g e.1)) c.tables })
mapped_apart Postgresql c g inner foreign h = λ n. subst (λ ns. times n ns ≤ 1) (sym (
    ap (λ ks. (ks ++ (map (λ e. e.0) c.views ++ map (λ e. e.0) c.sequences)) ++ flat_map names_inside (map (λ e. (e.0, g e.1)) c.tables)) (keys_of_values g c.tables)
    ∙ ap (λ ns. object_names c ++ ns) (flat-values names_inside g c.tables (λ e. ap (placed e.0) (inner e.1))))) (h n)
mapped_apart Mysql c g inner foreign h = (
  λ n. subst (λ ks. times n (ks ++ (map (λ e. e.0) c.views ++ map (λ e. e.0) c.sequences)) ≤ 1) (sym (keys_of_values g c.tables)) (h.0 n),
  λ n. subst (λ ns. times n ns ≤ 1) (sym (flat-values (λ (e : Name × Table). foreign_names e.1) g c.tables (λ e. foreign e.1))) (h.1 n),
)

module _ (d : Dialect) (c : Catalogue) (r : Table → List (List Value)) (fit : (it : Table) → list_all (row_fits it.columns) it.rows ≡ true → list_all (row_fits it.columns) (r it) ≡ true) where
  abbrev g : Table → Table
  g x = record x { rows = r x }

  abbrev e' : Catalogue
  e' = record c { tables = map (λ x. (x.0, g x.1)) c.tables }

  looked : (q : Name) → table_of e' q ≡ option_map g (table_of c q)
  looked q = lookup-values (is_named q) g c.tables

  same_view : (v : View) (o : Option Table) → view_at (option_map g o) v ≡ view_at o v
  unfolding view_at
  same_view v None = refl
  same_view v (Some x) = refl

  same_target : (o : Option Table) (ns : List Name) → kinds_at (unwrap_or (option_map g o) no_table) ns ≡ kinds_at (unwrap_or o no_table) ns
  same_target None ns = refl
  same_target (Some x) ns = refl

  differ_same : (x : Table) (f : ForeignKey) → kinds_differ e' x f ≡ kinds_differ c x f
  differ_same x f = ap (λ ks. not (same_kinds (kinds_at x f.columns) ks)) (ap (λ o. kinds_at (unwrap_or o no_table) f.targets) (looked f.table) ∙ same_target (table_of c f.table) f.targets)

  pub mapped_rows : IsShaped d c → IsShaped d e'
  mapped_rows shape = record {
    ordered = subst (IsStrictlySortedBy name_cmp) (sym (keys_of_values g c.tables)) shape.ordered;
    ordered_views = shape.ordered_views;
    ordered_sequences = shape.ordered_sequences;
    tables = λ t x is.
        let y = mapped_some g (table_of c t) x (sym (looked t) ∙ is) in
        let fine = shape.tables t y.0 y.1 in
        subst (IsSoundTable d) y.2 (with_rows d y.0 (r y.0) y.0.next fine (fit y.0 fine.rows));
    views = all_more (λ e. is_view c e.1) _ c.views (λ e is. view_is e' e.1 ∙ ap (λ o. view_at o e.1) (looked e.1.query.table) ∙ same_view e.1 (table_of c e.1.query.table) ∙ sym (view_is c e.1) ∙ is) shape.views;
    apart = mapped_apart d c g (λ x. refl) (λ x. refl) shape.apart;
    schemas = ap (λ ks. may_name d (ks ++ (map (λ x. x.0) c.views ++ map (λ x. x.0) c.sequences))) (keys_of_values g c.tables) ∙ shape.schemas;
    steps = shape.steps;
    sequences = shape.sequences;
    alike = any-map (λ (x : Name × Table). list_any (kinds_differ e' x.1) x.1.foreign) (λ (x : Name × Table). (x.0, g x.1)) c.tables
        ∙ any_same _ _ c.tables (λ x. any_same _ _ x.1.foreign (λ f. differ_same x.1 f)) ∙ shape.alike;
  }
