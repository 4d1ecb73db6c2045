-- A catalogue in which every table is changed in the same way, with its columns and foreign keys as they were.
use Rattle.std.proofs.Common.{ap, arith, sym, ◌∙◌}
use Rattle.std.proofs.Math.Path.{subst}
use Rattle.std.specs.List.{flat_map, list_any}
use Rattle.std.specs.List.Sorted.{IsStrictlySortedBy}
use Rattle.std.specs.Option.{option_map, unwrap_or}
use Rattle.std.specs.Prelude.{List, None, Option, Some, [], map, not, refl, ◌++◌, ◌∷◌, ◌≡◌, ◌≤◌}
use Rattle.lq_base.specs.Name.{name_cmp}
use Rattle.lq_base.specs.declared.dialect.Dialect.{Dialect}
use Rattle.lq_base.specs.declared.dialect.Dialect.TheVariants.{Mysql, Postgresql}
use Rattle.lq_base.specs.declared.name.Name.{Name}
use Rattle.lq_model.specs.Catalogue.{Catalogue, Sequence, Table, View, no_table, table_of, the_table, times, foreign_names, inner_names}
use Rattle.lq_model.specs.Kinds.{kind_of, kinds_at, kinds_differ, same_kinds}
use Rattle.lq_model.specs.NameSpaces.{AreApart, names_inside, object_names}
use Rattle.lq_model.specs.Sound.{IsSoundTable, is_view, may_name}
use Rattle.lq_model.specs.declared.constraint.ForeignKey.{ForeignKey}
use Rattle.lq_model.proofs.Lists.{all_more, any-map, any_same}
use Rattle.lq_model.proofs.Mapped.{mapped_some}
use Rattle.lq_model.proofs.Entries.{flat-entries, keys-entries, lookup-entries}
use Rattle.lq_model.proofs.Places.{placed_less}
use Rattle.lq_model.proofs.Shaped.{IsShaped}
use Rattle.lq_model.proofs.Times.{times-append}
use Rattle.lq_model.proofs.ViewAt.{view_at, view_is}

times-values : {X : Type 0} (f : Name × X → List Name) (g : Name → X → X) (n : Name) (es : List (Name × X)) → ((e : Name × X) → times n (f (e.0, g e.0 e.1)) ≤ times n (f e)) → times n (flat_map f (map (λ e. (e.0, g e.0 e.1)) es)) ≤ times n (flat_map f es)
times-values f g n [] h = omega arith
times-values f g n (e ∷ es) h =
    let r = times-values f g n es h in
    let a = times-append n (f (e.0, g e.0 e.1)) (flat_map f (map (λ x. (x.0, g x.0 x.1)) es)) in
    let b = times-append n (f e) (flat_map f es) in
    let c = h e in
    omega (arith, r, a, b, c)

module _ (d : Dialect) (c : Catalogue) (g : Name → Table → Table) (columns : (t : Name) (x : Table) → (g t x).columns ≡ x.columns) (foreign : (t : Name) (x : Table) → (g t x).foreign ≡ x.foreign) (fine : (t : Name) (x : Table) → IsSoundTable d x → IsSoundTable d (g t x)) (fewer : (n t : Name) (x : Table) → times n (inner_names (g t x)) ≤ times n (inner_names x)) where
  abbrev e' : Catalogue
  e' = record c { tables = map (λ x. (x.0, g x.0 x.1)) c.tables }

  looked : (q : Name) → table_of e' q ≡ option_map (g q) (table_of c q)
  looked q = lookup-entries q g c.tables

  same_view : (t : Name) (v : View) (o : Option Table) → view_at (option_map (g t) o) v ≡ view_at o v
  unfolding view_at
  same_view t v None = refl
  same_view t v (Some x) = ap (λ cs. view_at (Some (record x { columns = cs })) v) (columns t x)

  same_target : (t : Name) (o : Option Table) (ns : List Name) → kinds_at (unwrap_or (option_map (g t) o) no_table) ns ≡ kinds_at (unwrap_or o no_table) ns
  same_target t None ns = refl
  same_target t (Some x) ns = ap (λ cs. map (λ n. kind_of n cs) ns) (columns t x)

  differ_same : (t : Name) (x : Table) (f : ForeignKey) → kinds_differ e' (g t x) f ≡ kinds_differ c x f
  differ_same t x f =
      ap (λ cs. not (same_kinds (map (λ n. kind_of n cs) f.columns) (kinds_at (the_table e' f.table) f.targets))) (columns t x)
      ∙ ap (λ ks. not (same_kinds (kinds_at x f.columns) ks)) (ap (λ o. kinds_at (unwrap_or o no_table) f.targets) (looked f.table) ∙ same_target f.table (table_of c f.table) f.targets)

  differs_same : (t : Name) (x : Table) → list_any (kinds_differ e' (g t x)) (g t x).foreign ≡ list_any (kinds_differ c x) x.foreign
  differs_same t x = ap (list_any (kinds_differ e' (g t x))) (foreign t x) ∙ any_same _ _ x.foreign (λ f. differ_same t x f)

  fewer_apart : (k : Dialect) → AreApart k c → AreApart k e'
  fewer_apart Postgresql h = λ n.
      let others = map (λ (x : Name × View). x.0) c.views ++ map (λ (x : Name × Sequence). x.0) c.sequences in
      let o : times n (object_names e') ≡ times n (object_names c) = ap (λ ks. times n (ks ++ others)) (keys-entries g c.tables) in
      let i = times-values names_inside g n c.tables (λ e. placed_less e.0 (inner_names (g e.0 e.1)) (inner_names e.1) (λ m. fewer m e.0 e.1) n) in
      let p = times-append n (object_names e') (flat_map names_inside e'.tables) in
      let q = times-append n (object_names c) (flat_map names_inside c.tables) in
      let m = h n in
      omega (arith, o, i, p, q, m)
  fewer_apart Mysql h = (
    λ n. subst (λ ks. times n (ks ++ (map (λ e. e.0) c.views ++ map (λ e. e.0) c.sequences)) ≤ 1) (sym (keys-entries g c.tables)) (h.0 n),
    λ n. subst (λ ns. times n ns ≤ 1) (sym (flat-entries (λ (e : Name × Table). foreign_names e.1) g c.tables (λ e. ap (λ fs. map (λ (f : ForeignKey). f.name) fs) (foreign e.0 e.1)))) (h.1 n),
  )

  pub mapped_shaped : IsShaped d c → IsShaped d e'
  mapped_shaped shape = record {
    ordered = subst (IsStrictlySortedBy name_cmp) (sym (keys-entries g c.tables)) shape.ordered;
    ordered_views = shape.ordered_views;
    ordered_sequences = shape.ordered_sequences;
    tables = λ t x is. let y = mapped_some (g t) (table_of c t) x (sym (looked t) ∙ is) in subst (IsSoundTable d) y.2 (fine t y.0 (shape.tables t y.0 y.1));
    views = all_more (λ e. is_view c e.1) _ c.views (λ e is. view_is e' e.1 ∙ ap (λ o. view_at o e.1) (looked e.1.query.table) ∙ same_view e.1.query.table e.1 (table_of c e.1.query.table) ∙ sym (view_is c e.1) ∙ is) shape.views;
    apart = fewer_apart d shape.apart;
    schemas = ap (λ ks. may_name d (ks ++ (map (λ (x : Name × View). x.0) c.views ++ map (λ (x : Name × Sequence). x.0) c.sequences))) (keys-entries g c.tables) ∙ shape.schemas;
    steps = shape.steps;
    sequences = shape.sequences;
    alike = any-map (λ (x : Name × Table). list_any (kinds_differ e' x.1) x.1.foreign) (λ (x : Name × Table). (x.0, g x.0 x.1)) c.tables ∙ any_same _ _ c.tables (λ x. differs_same x.0 x.1) ∙ shape.alike;
  }
