-- A catalogue without one of its tables.
use Rattle.std.proofs.Common.{ap, arith, sym, ◌∙◌}
use Rattle.std.specs.List.{flat_map, list_any}
use Rattle.std.specs.List.Sorted.{IsStrictlySortedBy}
use Rattle.std.specs.Map.{keys_of, remove_entry}
use Rattle.std.specs.Option.{unwrap_or}
use Rattle.std.specs.Prelude.{List, None, Ok, Some, [], cond, false, is_some, map, not, true, ℕ, ◌&&◌, ◌++◌, ◌∷◌, ◌≡◌, ◌≤◌}
use Rattle.lq_base.specs.Name.{is_named, name_cmp}
use Rattle.lq_base.specs.declared.dialect.Dialect.{Dialect}
use Rattle.lq_base.specs.declared.dialect.Dialect.TheVariants.{Mysql, Postgresql}
use Rattle.lq_base.specs.declared.name.Name.{Name}
use Rattle.lq_model.specs.Catalogue.{Catalogue, Sequence, Table, View, no_table, table_of, without_table, times, foreign_names}
use Rattle.lq_model.specs.Tables.{drop_table, is_targeted, is_viewed, targets_table}
use Rattle.lq_model.specs.Kinds.{kinds_at, kinds_differ, same_kinds}
use Rattle.lq_model.specs.NameSpaces.{AreApart, names_inside, object_names}
use Rattle.lq_model.specs.Sound.{IsSound, IsSoundTable, is_view}
use Rattle.lq_model.specs.Step.{step}
use Rattle.lq_model.specs.declared.caller.By.{By}
use Rattle.lq_model.specs.declared.constraint.ForeignKey.{ForeignKey}
use Rattle.lq_model.specs.declared.statement.Statement.TheVariants.{DropTable}
use Rattle.lq_model.proofs.Decide.{accepted}
use Rattle.lq_model.proofs.Lists.{all_kept, any-map, any_less_both, named_itself, or_left, or_right}
use Rattle.lq_model.proofs.Maps.{any_none-remove_entry, found, lookup-remove_entry, not_some, sorted-remove_entry, sorted_entries, sorted_keys}
use Rattle.lq_model.proofs.PublicNames.{schemas_fewer}
use Rattle.lq_model.proofs.Shaped.{IsShaped, keeps, shape_of}
use Rattle.lq_model.proofs.Times.{times-append}
use Rattle.lq_model.proofs.ViewAt.{view_at, view_is}

pub times-remove_entry : {X : Type 0} (f : Name × X → List Name) (n k : Name) (es : List (Name × X)) → times n (flat_map f (remove_entry (is_named k) es)) ≤ times n (flat_map f es)
times-remove_entry f n k [] = omega arith
times-remove_entry f n k (e ∷ es) = elim (is_named k e.0) as (λ b. times n (flat_map f (cond b es (e ∷ remove_entry (is_named k) es))) ≤ times n (flat_map f (e ∷ es))) [
  | true ↦ let a = times-append n (f e) (flat_map f es) in omega (arith, a)
  | false ↦
      let r = times-remove_entry f n k es in
      let a = times-append n (f e) (flat_map f es) in
      let b = times-append n (f e) (flat_map f (remove_entry (is_named k) es)) in
      omega (arith, r, a, b)
]

pub times-keys-remove_entry : {X : Type 0} (n k : Name) (es : List (Name × X)) → times n (map (λ (e : Name × X). e.0) (remove_entry (is_named k) es)) ≤ times n (map (λ (e : Name × X). e.0) es)
times-keys-remove_entry n k [] = omega arith
times-keys-remove_entry {X = X} n k (e ∷ es) = elim (is_named k e.0) as (λ b. times n (map (λ (x : Name × X). x.0) (cond b es (e ∷ remove_entry (is_named k) es))) ≤ times n (map (λ (x : Name × X). x.0) (e ∷ es))) [
  | true ↦ omega arith
  | false ↦ let r = times-keys-remove_entry n k es in omega (arith, r)
]

pub removed_keys : {X : Type 0} (t : Name) (es : List (Name × X)) → IsStrictlySortedBy name_cmp (keys_of es) → IsStrictlySortedBy name_cmp (keys_of (remove_entry (is_named t) es))
removed_keys t es h = sorted_keys (remove_entry (is_named t) es) (sorted-remove_entry t es (sorted_entries es h))

module _ (d : Dialect) (t : Name) (c : Catalogue) (shape : IsShaped d c) (unviewed : is_viewed c t ≡ false) (untargeted : is_targeted c t ≡ false) where
  abbrev e' : Catalogue
  e' = without_table c t

  looked : (q : Name) → table_of e' q ≡ cond (is_named t q) None (table_of c q)
  looked q = lookup-remove_entry t c.tables q (sorted_entries c.tables shape.ordered)

  looked_other : (q : Name) → is_named t q ≡ false → table_of e' q ≡ table_of c q
  looked_other q apart = looked q ∙ ap (λ b. cond b None (table_of c q)) apart

  -- no table of that name is left
  gone : list_any (λ (x : Name × Table). is_named t x.0) e'.tables ≡ false
  gone = sym (any-map (is_named t) (λ (x : Name × Table). x.0) e'.tables) ∙ found t e'.tables ∙ ap (λ o. is_some o) (looked t ∙ ap (λ b. cond b None (table_of c t)) (named_itself t))

  untargeted_rest : list_any (λ (x : Name × Table). targets_table t x.1) e'.tables ≡ false
  untargeted_rest = any_less_both (λ (x : Name × Table). is_named t x.0) (λ (x : Name × Table). not (is_named t x.0) && targets_table t x.1) _ e'.tables
      (λ x named free. sym (ap (λ b. not b && targets_table t x.1) named) ∙ free) gone
      (any_none-remove_entry (is_named t) (λ (x : Name × Table). not (is_named t x.0) && targets_table t x.1) c.tables untargeted)

  differ_same : (x : Table) (f : ForeignKey) → is_named t f.table ≡ false → kinds_differ e' x f ≡ kinds_differ c x f
  differ_same x f apart = ap (λ o. not (same_kinds (kinds_at x f.columns) (kinds_at (unwrap_or o no_table) f.targets))) (looked_other f.table apart)

  objects_fewer : (n : Name) → times n (object_names e') ≤ times n (object_names c)
  objects_fewer n =
      let others = map (λ (x : Name × View). x.0) c.views ++ map (λ (x : Name × Sequence). x.0) c.sequences in
      let k = times-keys-remove_entry n t c.tables in
      let p = times-append n (map (λ (x : Name × Table). x.0) e'.tables) others in
      let q = times-append n (map (λ (x : Name × Table). x.0) c.tables) others in
      omega (arith, k, p, q)

  apart_less : (k : Dialect) → AreApart k c → AreApart k e'
  apart_less Postgresql h = λ n.
      let o = objects_fewer n in
      let i = times-remove_entry names_inside n t c.tables in
      let p = times-append n (object_names e') (flat_map names_inside e'.tables) in
      let q = times-append n (object_names c) (flat_map names_inside c.tables) in
      let m = h n in
      omega (arith, o, i, p, q, m)
  apart_less Mysql h = (λ n. let o = objects_fewer n in let m = h.0 n in omega (arith, o, m), λ n. let i = times-remove_entry (λ (x : Name × Table). foreign_names x.1) n t c.tables in let m = h.1 n in omega (arith, i, m))

  pub dropped : IsShaped d e'
  dropped = record {
    ordered = removed_keys t c.tables shape.ordered;
    ordered_views = shape.ordered_views;
    ordered_sequences = shape.ordered_sequences;
    tables = λ q x is. elim (is_named t q) as (λ b. cond b None (table_of c q) ≡ Some x → IsSoundTable d x) [
      | true ↦ λ h. not_some (sym h)
      | false ↦ λ h. shape.tables q x h
    ] (sym (looked q) ∙ is);
    views = all_kept (λ (v : Name × View). is_named t v.1.query.table) (λ (v : Name × View). is_view c v.1) _ c.views
        (λ v apart is. view_is e' v.1 ∙ ap (λ o. view_at o v.1) (looked_other v.1.query.table apart) ∙ sym (view_is c v.1) ∙ is) unviewed shape.views;
    apart = apart_less d shape.apart;
    schemas = schemas_fewer d (object_names c) (object_names e') objects_fewer shape.schemas;
    steps = shape.steps;
    sequences = shape.sequences;
    alike = any_less_both (λ (x : Name × Table). targets_table t x.1) (λ (x : Name × Table). list_any (kinds_differ c x.1) x.1.foreign) _ e'.tables
        (λ x free alike. any_less_both (λ f. is_named t f.table) (kinds_differ c x.1) _ x.1.foreign (λ f apart is. differ_same x.1 f apart ∙ is) free alike)
        untargeted_rest (any_none-remove_entry (is_named t) (λ (x : Name × Table). list_any (kinds_differ c x.1) x.1.foreign) c.tables shape.alike);
  }

pub drop_table_keeps : (by : By) (d : Dialect) (t : Name) (c e : Catalogue) (k : ℕ) → IsSound d c → step by d (DropTable t) c ≡ Ok (e, k) → IsSound d e
drop_table_keeps by d t c e k sound made =
    let p = drop_table by d t c in
    let ok = accepted p e k made in
    keeps d p e k made (dropped d t c (shape_of d c sound) (or_left _ _ ok.depends) (or_right _ _ ok.depends))
