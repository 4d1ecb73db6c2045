-- A table that is renamed can be renamed back, and keeps a catalogue sound.
use Rattle.std.proofs.Common.{ap, arith, sym, ◌∙◌}
use Rattle.std.proofs.Math.Path.{subst}
use Rattle.std.specs.BTreeMap.{insert_entry}
use Rattle.std.specs.FinMap.Entries.{is_sorted}
use Rattle.std.specs.List.{flat_map, list_any}
use Rattle.std.specs.Map.{lookup, remove_entry}
use Rattle.std.specs.Option.{option_map, unwrap_or}
use Rattle.std.specs.Prelude.{List, None, Ok, Option, Some, T, [], cond, false, is_none, is_some, map, not, refl, true, ◌&&◌, ◌++◌, ◌+◌, ◌||◌, ◌∷◌, ◌≡◌, ◌≤◌}
use Rattle.lq_base.specs.Name.{is_beside, is_elsewhere, is_named, is_object, name_cmp}
use Rattle.lq_base.specs.declared.dialect.Dialect.{Dialect}
use Rattle.lq_base.specs.declared.dialect.Dialect.TheVariants.{Mysql, Postgresql}
use Rattle.lq_base.specs.declared.name.Name.{Name}
use Rattle.lq_model.specs.Catalogue.{Catalogue, Sequence, Table, View, no_table, table_of, the_table, view_of, renamed, times, column_names, foreign_names, inner_names, key_list}
use Rattle.lq_model.specs.Kinds.{kinds_at, kinds_differ, same_kinds}
use Rattle.lq_model.specs.NameSpaces.{AreApartWithin, is_taken, names_inside, is_reserved, takes_lock_key}
use Rattle.lq_model.specs.Tables.{is_viewed, targets_table, rename_table, retarget, retargeted, table_renamed, view_renamed}
use Rattle.lq_model.specs.Sound.{IsSound, IsSoundTable, are_columns, is_unlike, is_view}
use Rattle.lq_model.specs.Step.{step}
use Rattle.lq_model.specs.declared.caller.By.{By}
use Rattle.lq_model.specs.declared.constraint.ForeignKey.{ForeignKey}
use Rattle.lq_model.specs.declared.constraint.Key.{Key}
use Rattle.lq_model.specs.declared.constraint.Unique.{Unique}
use Rattle.lq_model.specs.declared.index.Index.{Index}
use Rattle.lq_model.specs.declared.statement.Statement.TheVariants.{RenameTable}
use Rattle.lq_model.proofs.Absent.{untargeted, unviewed}
use Rattle.lq_model.proofs.Counts.{inner-insert, inner-remove, inner-values, keys-insert, keys-remove, keys-values, once}
use Rattle.lq_model.proofs.Decide.{accepts}
use Rattle.lq_model.proofs.Lists.{all-map, all_kept, any-map, any_less, any_less_both, map-map, named_itself, or_false, or_left, or_right, other_way, same_name}
use Rattle.lq_model.proofs.Mapped.{mapped_some}
use Rattle.lq_model.proofs.Maps.{any_none-insert_entry, any_none-remove_entry, at_lookup, lookup-insert_entry, lookup-remove_entry, lookup-values, not_some, same_maps, some_same, sorted-insert_entry, sorted-remove_entry, sorted-values, sorted_entries, sorted_keys}
use Rattle.lq_model.proofs.PublicNames.{schemas_new}
use Rattle.lq_model.proofs.Shaped.{IsShaped}
use Rattle.lq_model.proofs.Spaces.{IsNamed, moved_apart, old_free}
use Rattle.lq_model.proofs.Times.{times-append}
use Rattle.lq_model.proofs.UndoRenameColumn.{renamed_back, turn}
use Rattle.lq_model.proofs.ViewAt.{view_at, view_is}
use Rattle.lq_model.proofs.Places.{placed_along}

targets_back : (a b : Name) (fs : List ForeignKey) → list_any (λ f. is_named b f.table) fs ≡ false → map (retarget b a) (map (retarget a b) fs) ≡ fs
targets_back a b [] h = refl
targets_back a b (f ∷ fs) h =
    ap (λ n. record f { table = n } ∷ map (retarget b a) (map (retarget a b) fs)) (renamed_back a b f.table (or_left (is_named b f.table) _ h))
    ∙ ap (λ gs. f ∷ gs) (targets_back a b fs (or_right (is_named b f.table) _ h))

retargeted_back : (a b : Name) (it : Table) → targets_table b it ≡ false → retargeted b a (retargeted a b it) ≡ it
retargeted_back a b it h = ap (λ fs. record it { foreign = fs }) (targets_back a b it.foreign h)

module _ (d : Dialect) (a b : Name) (c : Catalogue) (sound : IsSound d c) (there : table_of c a ≡ Some (the_table c a)) (gone : table_of c b ≡ None) (near : is_beside a b ≡ true) where
  abbrev pub it : Table
  it = the_table c a

  abbrev pub e : Catalogue
  e = table_renamed a b c

  sorted : T (is_sorted name_cmp c.tables)
  sorted = sorted_entries c.tables sound.ordered

  sorted-e : T (is_sorted name_cmp e.tables)
  sorted-e = sorted-values (retargeted a b) (insert_entry name_cmp (remove_entry (is_named a) c.tables) b it) (sorted-insert_entry (remove_entry (is_named a) c.tables) b it (sorted-remove_entry a c.tables sorted))

  apart : is_named a b ≡ false
  apart = elim (is_named a b) as (λ r. is_named a b ≡ r → r ≡ false) [
    | true ↦ λ p. not_some (sym there ∙ ap (table_of c) (same_name a b p) ∙ gone)
    | false ↦ λ p. refl
  ] refl

  looked : (q : Name) → table_of e q ≡ option_map (retargeted a b) (cond (is_named q b) (Some it) (cond (is_named a q) None (table_of c q)))
  looked q =
      lookup-values (is_named q) (retargeted a b) _
      ∙ ap (option_map (retargeted a b)) (lookup-insert_entry _ b it q ∙ ap (cond (is_named q b) (Some it)) (lookup-remove_entry a c.tables q sorted))

  looked_b : table_of e b ≡ Some (retargeted a b it)
  looked_b = looked b ∙ ap (λ r. option_map (retargeted a b) (cond r (Some it) (cond (is_named a b) None (table_of c b)))) (named_itself b)

  looked_a : table_of e a ≡ None
  looked_a = looked a
      ∙ ap (λ r. option_map (retargeted a b) (cond r (Some it) (cond (is_named a a) None (table_of c a)))) apart
      ∙ ap (λ r. option_map (retargeted a b) (cond r None (table_of c a))) (named_itself a)

  back_at : (x : Table) (q : Name) → table_of c q ≡ Some x → retargeted b a (retargeted a b x) ≡ x
  back_at x q is = retargeted_back a b x (at_lookup (is_named q) (targets_table b) c.tables x (untargeted d c b sound gone) is)

  looked_back : (q : Name) → table_of (table_renamed b a e) q ≡ table_of c q
  looked_back q =
      lookup-values (is_named q) (retargeted b a) _
      ∙ ap (option_map (retargeted b a)) (lookup-insert_entry _ a (the_table e b) q ∙ ap (cond (is_named q a) (Some (the_table e b))) (lookup-remove_entry b e.tables q sorted-e))
      ∙ elim (is_named q a) as (λ r. is_named q a ≡ r → option_map (retargeted b a) (cond r (Some (the_table e b)) (cond (is_named b q) None (table_of e q))) ≡ table_of c q) [
        | true ↦ λ p.
            ap (λ o. Some (retargeted b a (unwrap_or o no_table))) looked_b
            ∙ ap Some (back_at it a there) ∙ sym there ∙ ap (table_of c) (sym (same_name q a p))
        | false ↦ λ p. elim (is_named b q) as (λ r. is_named b q ≡ r → option_map (retargeted b a) (cond r None (table_of e q)) ≡ table_of c q) [
          | true ↦ λ r. sym gone ∙ ap (table_of c) (same_name b q r)
          | false ↦ λ r.
              ap (option_map (retargeted b a)) (looked q
              ∙ ap (λ x. option_map (retargeted a b) (cond x (Some it) (cond (is_named a q) None (table_of c q)))) (other_way b q r)
              ∙ ap (λ x. option_map (retargeted a b) (cond x None (table_of c q))) (other_way q a p))
              ∙ turn (retargeted a b) (retargeted b a) (table_of c q) (λ x is. back_at x q is)
        ] refl
      ] refl

  renamed_again : table_renamed b a e ≡ c
  renamed_again = ap (λ ts. record c { tables = ts }) (same_maps (table_renamed b a e).tables c.tables
      (sorted-values (retargeted b a) (insert_entry name_cmp (remove_entry (is_named b) e.tables) a (the_table e b)) (sorted-insert_entry (remove_entry (is_named b) e.tables) a (the_table e b) (sorted-remove_entry b e.tables sorted-e))) sorted looked_back)

  gone_before : lookup (is_named b) (remove_entry (is_named a) c.tables) ≡ None
  gone_before = lookup-remove_entry a c.tables b sorted ∙ ap (λ r. cond r None (table_of c b)) apart ∙ gone

  keys_now : (n : Name) → times n (map (λ (x : Name × Table). x.0) e.tables) + once (is_named n a) ≡ times n (map (λ (x : Name × Table). x.0) c.tables) + once (is_named n b)
  keys_now n =
      let rest = remove_entry (is_named a) c.tables in
      let p = keys-values names_inside n (retargeted a b) (insert_entry name_cmp rest b it) in
      let q = keys-insert names_inside n rest b it gone_before in
      let r = keys-remove names_inside n c.tables a it there in
      omega (arith, p, q, r)

  values_now : (f : Name × Table → List Name) → ((m : Name) (x : Table) → f (m, retargeted a b x) ≡ f (m, x)) → f (b, it) ≡ f (a, it) → (n : Name) → times n (flat_map f e.tables) ≡ times n (flat_map f c.tables)
  values_now f same along n =
      let rest = remove_entry (is_named a) c.tables in
      let p = inner-values f n (retargeted a b) (insert_entry name_cmp rest b it) (λ x. same x.0 x.1) in
      let q = inner-insert f n rest b it gone_before in
      let r = inner-remove f n c.tables a it there in
      let s : times n (f (b, it)) ≡ times n (f (a, it)) = ap (times n) along in
      omega (arith, p, q, r, s)

  named : IsNamed c e (λ n. once (is_named n a)) (λ n. once (is_named n b))
  named = record {
    objects = λ n.
        let others = map (λ (x : Name × View). x.0) c.views ++ map (λ (x : Name × Sequence). x.0) c.sequences in
        let k = keys_now n in
        let p = times-append n (map (λ (x : Name × Table). x.0) e.tables) others in
        let q = times-append n (map (λ (x : Name × Table). x.0) c.tables) others in
        omega (arith, k, p, q);
    inner = values_now names_inside (λ m x. refl) (sym (placed_along a b (inner_names it) near));
    foreign = values_now (λ (x : Name × Table). foreign_names x.1) (λ m x. map-map (λ (f : ForeignKey). f.name) (retarget a b) x.foreign) refl;
  }

  pub renames_back : (by : By) → is_reserved by (b ∷ a ∷ []) ≡ false → takes_lock_key by d (b ∷ a ∷ []) ≡ false → step by d (RenameTable b a) e ≡ Ok (c, 0)
  renames_back by reserved lock = accepts d (rename_table by d b a e) c sound
      (ap (λ o. cond (is_some o) (table_renamed b a e) (view_renamed b a e)) looked_b ∙ renamed_again)
      (record {
        reserved = reserved;
        missing = ap (λ o. is_none o && is_none (view_of e b)) looked_b;
        exists = or_false _ _ (old_free d c e a b apart named sound.apart) lock;
        depends = unviewed d c b sound gone;
        wrong = refl;
        wide = refl;
      })

  -- soundness

  fine_still : (x : Table) → IsSoundTable d x → IsSoundTable d (retargeted a b x)
  fine_still x fine = record {
    some = fine.some;
    differ = fine.differ;
    kinds = fine.kinds;
    rows = fine.rows;
    defaults = fine.defaults;
    lists = fine.lists;
    foreign = all-map (λ f. are_columns x f.columns) (retarget a b) x.foreign ∙ fine.foreign;
    key = fine.key;
    key_named = fine.key_named;
    numbered = fine.numbered;
    within = within_still d x fine.within;
    public = ap (λ fs. list_any is_elsewhere (column_names x ++ ((map (λ (k : Key). k.name) (key_list x.key) ++ (map (λ (u : Unique). u.name) x.uniques ++ fs)) ++ map (λ (i : Index). i.name) x.indexes))) (map-map (λ (f : ForeignKey). f.name) (retarget a b) x.foreign) ∙ fine.public;
  } where
    within_still : (k : Dialect) (x : Table) → AreApartWithin k x → AreApartWithin k (retargeted a b x)
    within_still Postgresql x h = λ n. subst (λ fs. times n (map (λ (k : Key). k.name) (key_list x.key) ++ (map (λ (u : Unique). u.name) x.uniques ++ fs)) ≤ 1) (sym (map-map (λ (f : ForeignKey). f.name) (retarget a b) x.foreign)) (h n)
    within_still Mysql x h = h

  table_fine : (q : Name) (x : Table) → table_of e q ≡ Some x → IsSoundTable d x
  table_fine q x is =
      elim (is_named q b) as (λ r. option_map (retargeted a b) (cond r (Some it) (cond (is_named a q) None (table_of c q))) ≡ Some x → IsSoundTable d x) [
        | true ↦ λ h. subst (IsSoundTable d) (some_same h) (fine_still it (sound.tables a it there))
        | false ↦ λ h. elim (is_named a q) as (λ r. option_map (retargeted a b) (cond r None (table_of c q)) ≡ Some x → IsSoundTable d x) [
          | true ↦ λ k. not_some (sym k)
          | false ↦ λ k. let y = mapped_some (retargeted a b) (table_of c q) x k in subst (IsSoundTable d) y.2 (fine_still y.0 (sound.tables q y.0 y.1))
        ] h
      ] (sym (looked q) ∙ is)

  same_view : (v : View) (o : Option Table) → view_at (option_map (retargeted a b) o) v ≡ view_at o v
  unfolding view_at
  same_view v None = refl
  same_view v (Some x) = refl

  looked_other : (q : Name) → is_named a q ≡ false → is_named b q ≡ false → table_of e q ≡ option_map (retargeted a b) (table_of c q)
  looked_other q p r = looked q
      ∙ ap (λ y. option_map (retargeted a b) (cond y (Some it) (cond (is_named a q) None (table_of c q)))) (other_way b q r)
      ∙ ap (λ y. option_map (retargeted a b) (cond y None (table_of c q))) p

  view_same : (v : View) → is_named a v.query.table ≡ false → is_named b v.query.table ≡ false → is_view c v ≡ true → is_view e v ≡ true
  view_same v p r is = view_is e v ∙ ap (λ o. view_at o v) (looked_other v.query.table p r) ∙ same_view v (table_of c v.query.table) ∙ sym (view_is c v) ∙ is

  same_kinds_in : (o : Option Table) (ns : List Name) → kinds_at (unwrap_or (option_map (retargeted a b) o) no_table) ns ≡ kinds_at (unwrap_or o no_table) ns
  same_kinds_in None ns = refl
  same_kinds_in (Some x) ns = refl

  target_still : (t : Name) (ns : List Name) → is_named b t ≡ false → kinds_at (the_table e (renamed a b t)) ns ≡ kinds_at (the_table c t) ns
  target_still t ns r = elim (is_named a t) as (λ y. is_named a t ≡ y → kinds_at (the_table e (cond y b t)) ns ≡ kinds_at (the_table c t) ns) [
    | true ↦ λ p. ap (λ o. kinds_at (unwrap_or o no_table) ns) looked_b ∙ ap (λ n. kinds_at (the_table c n) ns) (same_name a t p)
    | false ↦ λ p. ap (λ o. kinds_at (unwrap_or o no_table) ns) (looked_other t p r) ∙ same_kinds_in (table_of c t) ns
  ] refl

  alike_in : (x : Table) → targets_table b x ≡ false → list_any (kinds_differ c x) x.foreign ≡ false → list_any (kinds_differ e (retargeted a b x)) (retargeted a b x).foreign ≡ false
  alike_in x free alike = any-map (kinds_differ e (retargeted a b x)) (retarget a b) x.foreign
      ∙ any_less_both (λ f. is_named b f.table) (kinds_differ c x) _ x.foreign (λ f out is. ap (λ ks. not (same_kinds (kinds_at x f.columns) ks)) (target_still f.table f.targets out) ∙ is) free alike

  alike_e : is_unlike e ≡ false
  alike_e =
      let free = untargeted d c b sound gone in
      let at = λ (x : Table). targets_table b x || list_any (kinds_differ c x) x.foreign in
      let all = any_less_both (λ (x : Name × Table). targets_table b x.1) (λ (x : Name × Table). list_any (kinds_differ c x.1) x.1.foreign) (λ x. at x.1) c.tables (λ x p q. or_false _ _ p q) free sound.alike in
      any-map (λ (x : Name × Table). list_any (kinds_differ e x.1) x.1.foreign) (λ (x : Name × Table). (x.0, retargeted a b x.1)) (insert_entry name_cmp (remove_entry (is_named a) c.tables) b it)
      ∙ any_less _ (λ (x : Name × Table). at x.1) (insert_entry name_cmp (remove_entry (is_named a) c.tables) b it) (λ x h. alike_in x.1 (or_left (targets_table b x.1) _ h) (or_right (targets_table b x.1) _ h))
      (any_none-insert_entry (λ (x : Name × Table). at x.1) (remove_entry (is_named a) c.tables) b it (λ n. refl) (at_lookup (is_named a) at c.tables it all there) (any_none-remove_entry (is_named a) (λ (x : Name × Table). at x.1) c.tables all))

  pub table_shaped : is_object d b ≡ true → is_taken d b c ≡ false → is_viewed c a ≡ false → IsShaped d e
  table_shaped object free unseen = record {
    ordered = sorted_keys e.tables sorted-e;
    ordered_views = sound.ordered_views;
    ordered_sequences = sound.ordered_sequences;
    tables = table_fine;
    views = all_kept (λ (x : Name × View). is_named a x.1.query.table || is_named b x.1.query.table) (λ (x : Name × View). is_view c x.1) _ c.views
        (λ x out is. view_same x.1 (or_left (is_named a x.1.query.table) _ out) (or_right (is_named a x.1.query.table) _ out) is)
        (any_less_both (λ (x : Name × View). is_named a x.1.query.table) (λ (x : Name × View). is_named b x.1.query.table) _ c.views (λ x p q. or_false _ _ p q) unseen (unviewed d c b sound gone)) sound.views;
    apart = moved_apart d c e a b apart named free sound.apart;
    schemas = schemas_new d c e (λ n. once (is_named n a)) b object named sound.schemas;
    steps = sound.steps;
    sequences = sound.sequences;
    alike = alike_e;
  }
