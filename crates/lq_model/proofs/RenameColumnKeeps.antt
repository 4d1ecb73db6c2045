-- A renamed column keeps a catalogue sound.
use Rattle.std.proofs.Common.{ap, arith, sym, ◌∙◌}
use Rattle.std.proofs.Math.Path.{subst}
use Rattle.std.specs.FinMap.Entries.{is_sorted}
use Rattle.std.specs.List.{list_all, list_any}
use Rattle.std.specs.List.Sorted.{IsStrictlySortedBy}
use Rattle.std.specs.Map.{lookup}
use Rattle.std.specs.Option.{option_map, unwrap_or}
use Rattle.std.specs.Prelude.{Bool, List, None, Ok, Option, Some, T, [], cond, false, is_none, map, not, refl, true, ℕ, ◌&&◌, ◌++◌, ◌||◌, ◌∷◌, ◌≡◌, ◌≤◌}
use Rattle.lq_base.specs.Kind.{is_kind}
use Rattle.lq_base.specs.Name.{is_elsewhere, is_name, is_named, name_cmp}
use Rattle.lq_base.specs.Value.{is_value_of}
use Rattle.lq_base.specs.declared.dialect.Dialect.{Dialect}
use Rattle.lq_base.specs.declared.dialect.Dialect.TheVariants.{Mysql, Postgresql}
use Rattle.lq_base.specs.declared.kind.Kind.{Kind}
use Rattle.lq_base.specs.declared.name.Name.{Name}
use Rattle.lq_base.specs.declared.value.Value.{Value}
use Rattle.lq_base.proofs.BesideLemmas.{not_elsewhere}
use Rattle.lq_model.specs.Catalogue.{Catalogue, Sequence, Table, View, no_table, table_of, the_table, is_empty, is_in, renamed, repeats, same_names, times, row_fits, column_lists, column_names, constraint_names, foreign_names, has_column, inner_names, key_list, own_names, placed, target_lists}
use Rattle.lq_model.specs.Kinds.{is_number, kind_of, kinds_at, kinds_differ, same_kinds}
use Rattle.lq_model.specs.NameSpaces.{AreApartWithin, names_inside, object_names}
use Rattle.lq_model.specs.Tables.{aims_at, is_shown, name_at, names_at, rename_column, with_column_renamed}
use Rattle.lq_model.specs.Sound.{IsSound, IsSoundTable, are_columns, default_fits, is_key_name, is_key_of, is_not_null, is_numbered_well, is_unlike, is_view, may_name}
use Rattle.lq_model.specs.Step.{step}
use Rattle.lq_model.specs.Truth.{names_in}
use Rattle.lq_model.specs.declared.caller.By.{By}
use Rattle.lq_model.specs.declared.column.Column.{Column}
use Rattle.lq_model.specs.declared.constraint.ForeignKey.{ForeignKey}
use Rattle.lq_model.specs.declared.constraint.Key.{Key}
use Rattle.lq_model.specs.declared.constraint.Unique.{Unique}
use Rattle.lq_model.specs.declared.index.Index.{Index}
use Rattle.lq_model.specs.declared.statement.Statement.TheVariants.{RenameColumn}
use Rattle.lq_model.proofs.AddDropColumn.{nowhere}
use Rattle.lq_model.proofs.CreateKeeps.{some_columns}
use Rattle.lq_model.proofs.Decide.{accepted, here}
use Rattle.lq_model.proofs.Kept.{never, not_so_true}
use Rattle.lq_model.proofs.KeptKinds.{view_still}
use Rattle.lq_model.proofs.Entries.{flat-entries, keys-entries, lookup-entries}
use Rattle.lq_model.proofs.Lists.{all-append, all-append_left, all-append_right, all-map, all_kept, all_more, and_left, and_right, and_true, any-append, any-map, any_less_both, any_none, map-map, named_itself, not_false, not_true, or_false, or_left, or_right, other_way, same_name, true_false, whether}
use Rattle.lq_model.proofs.Mapped.{mapped_some}
use Rattle.lq_model.proofs.Maps.{below_gone, not_some, some_same, sorted_entries}
use Rattle.lq_model.proofs.Shaped.{IsShaped, keeps}
use Rattle.lq_model.proofs.Spaces.{moved_same}
use Rattle.lq_model.proofs.Untouched.{IsUntouched, not_in_columns, same_list, shows}
use Rattle.lq_model.proofs.ViewAt.{view_at, view_is}

-- names where a has become b, in the table that has the column
module _ (own : Bool) (a b : Name) where
  abbrev pub ρ : Name → Name
  ρ n = name_at own a b n

  named_too : (m n : Name) → is_named m n ≡ true → is_named (ρ m) (ρ n) ≡ true
  named_too m n h = ap (λ x. is_named (ρ m) (ρ x)) (sym (same_name m n h)) ∙ named_itself (ρ m)

  -- different names stay different, where neither is b
  apart_too : (m n : Name) → (own ≡ true → is_named b m ≡ false) → (own ≡ true → is_named b n ≡ false) → is_named m n ≡ false → is_named (ρ m) (ρ n) ≡ false
  apart_too m n p q h = elim own as (λ o. (o ≡ true → is_named b m ≡ false) → (o ≡ true → is_named b n ≡ false) → is_named (name_at o a b m) (name_at o a b n) ≡ false) [
    | false ↦ λ x y. h
    | true ↦ λ x y. elim (is_named a m) as (λ r. is_named a m ≡ r → is_named (cond r b m) (renamed a b n) ≡ false) [
      | true ↦ λ r. elim (is_named a n) as (λ s. is_named a n ≡ s → is_named b (cond s b n) ≡ false) [
        | true ↦ λ s. true_false (ap (λ k. is_named k n) (sym (same_name a m r)) ∙ s) h
        | false ↦ λ s. y refl
      ] refl
      | false ↦ λ r. elim (is_named a n) as (λ s. is_named m (cond s b n) ≡ false) [
        | true ↦ other_way b m (x refl)
        | false ↦ h
      ]
    ] refl
  ] p q

  in_too : (m : Name) (ns : List Name) → is_in m ns ≡ true → is_in (ρ m) (map ρ ns) ≡ true
  in_too m [] h = h
  in_too m (n ∷ ns) h = elim (is_named m n) as (λ r. is_named m n ≡ r → (r || is_in m ns) ≡ true → (is_named (ρ m) (ρ n) || is_in (ρ m) (map ρ ns)) ≡ true) [
    | true ↦ λ p q. ap (λ x. x || is_in (ρ m) (map ρ ns)) (named_too m n p)
    | false ↦ λ p q. elim (is_named (ρ m) (ρ n)) as (λ x. (x || is_in (ρ m) (map ρ ns)) ≡ true) [ true ↦ refl | false ↦ in_too m ns q ]
  ] refl h

  not_in_too : (m : Name) (ns : List Name) → (own ≡ true → is_named b m ≡ false) → (own ≡ true → is_in b ns ≡ false) → is_in m ns ≡ false → is_in (ρ m) (map ρ ns) ≡ false
  not_in_too m [] p q h = refl
  not_in_too m (n ∷ ns) p q h = or_false _ _ (apart_too m n p (λ o. or_left (is_named b n) _ (q o)) (or_left (is_named m n) _ h)) (not_in_too m ns p (λ o. or_right (is_named b n) _ (q o)) (or_right (is_named m n) _ h))

  differ_too : (ns : List Name) → (own ≡ true → is_in b ns ≡ false) → repeats ns ≡ false → repeats (map ρ ns) ≡ false
  differ_too [] q h = refl
  differ_too (n ∷ ns) q h = or_false _ _ (not_in_too n ns (λ o. or_left (is_named b n) _ (q o)) (λ o. or_right (is_named b n) _ (q o)) (or_left (is_in n ns) _ h)) (differ_too ns (λ o. or_right (is_named b n) _ (q o)) (or_right (is_in n ns) _ h))

  abbrev pub as_renamed : Column → Column
  as_renamed c = record c { name = ρ c.name }

  names_too : (cs : List Column) → map (λ c. c.name) (map as_renamed cs) ≡ map ρ (map (λ c. c.name) cs)
  names_too cs = map-map (λ (c : Column). c.name) as_renamed cs ∙ sym (map-map ρ (λ (c : Column). c.name) cs)

  kind_too : (m : Name) (cs : List Column) → (own ≡ true → is_named b m ≡ false) → (own ≡ true → is_in b (map (λ c. c.name) cs) ≡ false) → kind_of (ρ m) (map as_renamed cs) ≡ kind_of m cs
  kind_too m [] p q = refl
  kind_too m (c ∷ cs) p q = elim (is_named m c.name) as (λ r. is_named m c.name ≡ r → cond (is_named (ρ m) (ρ c.name)) (Some c.kind) (kind_of (ρ m) (map as_renamed cs)) ≡ cond r (Some c.kind) (kind_of m cs)) [
    | true ↦ λ r. ap (λ x. cond x (Some c.kind) (kind_of (ρ m) (map as_renamed cs))) (named_too m c.name r)
    | false ↦ λ r. ap (λ x. cond x (Some c.kind) (kind_of (ρ m) (map as_renamed cs))) (apart_too m c.name p (λ o. or_left (is_named b c.name) _ (q o)) r) ∙ kind_too m cs p (λ o. or_right (is_named b c.name) _ (q o))
  ] refl

  pub kinds_too : (ns : List Name) (cs : List Column) → (own ≡ true → is_in b ns ≡ false) → (own ≡ true → is_in b (map (λ c. c.name) cs) ≡ false) → map (λ n. kind_of n (map as_renamed cs)) (map ρ ns) ≡ map (λ n. kind_of n cs) ns
  kinds_too [] cs p q = refl
  kinds_too (n ∷ ns) cs p q = ap (λ k. k ∷ map (λ n. kind_of n (map as_renamed cs)) (map ρ ns)) (kind_too n cs (λ o. or_left (is_named b n) _ (p o)) q) ∙ ap (λ ks. kind_of n cs ∷ ks) (kinds_too ns cs (λ o. or_right (is_named b n) _ (p o)) q)

  rows_too : (cs : List Column) (row : List Value) → row_fits (map as_renamed cs) row ≡ row_fits cs row
  rows_too [] [] = refl
  rows_too [] (v ∷ vs) = refl
  rows_too (c ∷ cs) [] = refl
  rows_too (c ∷ cs) (v ∷ vs) = ap (λ x. is_value_of c.kind v && x) (rows_too cs vs)

  firm_too : (m : Name) (cs : List Column) → (own ≡ true → is_named b m ≡ false) → (own ≡ true → is_in b (map (λ c. c.name) cs) ≡ false) → list_all (λ c. not (is_named m c.name) || not c.nullable) cs ≡ true → list_all (λ c. not (is_named (ρ m) c.name) || not c.nullable) (map as_renamed cs) ≡ true
  firm_too m [] p q h = refl
  firm_too m (c ∷ cs) p q h = and_true _ _
      (elim (is_named m c.name) as (λ r. is_named m c.name ≡ r → (not r || not c.nullable) ≡ true → (not (is_named (ρ m) (ρ c.name)) || not c.nullable) ≡ true) [
        | true ↦ λ r s. ap (λ x. not x || not c.nullable) (named_too m c.name r) ∙ s
        | false ↦ λ r s. ap (λ x. not x || not c.nullable) (apart_too m c.name p (λ o. or_left (is_named b c.name) _ (q o)) r)
      ] refl (and_left (not (is_named m c.name) || not c.nullable) _ h))
      (firm_too m cs p (λ o. or_right (is_named b c.name) _ (q o)) (and_right (not (is_named m c.name) || not c.nullable) _ h))

  same_too : (ns ms : List Name) → same_names ns ms ≡ true → same_names (map ρ ns) (map ρ ms) ≡ true
  same_too ns ms h = ap (λ x. same_names (map ρ ns) (map ρ x)) (sym (same_list ns ms h)) ∙ itself (map ρ ns) where
    itself : (ns : List Name) → same_names ns ns ≡ true
    itself [] = refl
    itself (n ∷ ns) = and_true _ _ (named_itself n) (itself ns)

-- the table t, or another, with a column renamed
module _ (t : Name) (own : Bool) (a b : Name) (d : Dialect) (it : Table) (fine : IsSoundTable d it) (new : own ≡ true → has_column it b ≡ false) where
  abbrev r' : Name → Name
  r' = ρ own a b

  abbrev it' : Table
  it' = with_column_renamed t own a b it

  -- columns of the table do not have the new name
  none_of : (ns : List Name) → are_columns it ns ≡ true → own ≡ true → is_in b ns ≡ false
  none_of ns are o = not_in_columns (is_named b) it (λ m p. ap (has_column it) (sym (same_name b m p)) ∙ new o) ns are

  in_all : (ns ms : List Name) → list_all (λ n. is_in n ms) ns ≡ true → list_all (λ n. is_in n (map r' ms)) (map r' ns) ≡ true
  in_all ns ms h = all-map (λ n. is_in n (map r' ms)) r' ns ∙ all_more (λ n. is_in n ms) _ ns (λ n p. in_too own a b n ms p) h

  some_too : (ns : List Name) → not (is_empty ns) ≡ true → not (is_empty (map r' ns)) ≡ true
  some_too [] h = h
  some_too (n ∷ ns) h = refl

  pub are_too : (ns : List Name) → are_columns it ns ≡ true → are_columns it' (map r' ns) ≡ true
  are_too ns are =
      let rest = and_right (not (is_empty ns)) _ are in
      and_true _ _ (some_too ns (and_left (not (is_empty ns)) _ are)) (and_true _ _ (ap not (differ_too own a b ns (none_of ns are) (not_so_true _ (and_left (not (repeats ns)) _ rest))))
      (ap (λ ms. list_all (λ n. is_in n ms) (map r' ns)) (names_too own a b it.columns) ∙ in_all ns (column_names it) (and_right (not (repeats ns)) _ rest)))

  lists_are : (ls : List (List Name)) → list_all (are_columns it) ls ≡ true → list_all (are_columns it') (map (map r') ls) ≡ true
  lists_are ls h = all-map (are_columns it') (map r') ls ∙ all_more (are_columns it) _ ls are_too h

  key_is : (o : Option Key) → map (λ (k : Key). k.columns) (key_list (option_map (λ (k : Key). record k { columns = map r' k.columns }) o)) ≡ map (map r') (map (λ (k : Key). k.columns) (key_list o))
  key_is None = refl
  key_is (Some k) = refl

  key_names : (o : Option Key) → map (λ (k : Key). k.name) (key_list (option_map (λ (k : Key). record k { columns = map r' k.columns }) o)) ≡ map (λ (k : Key). k.name) (key_list o)
  key_names None = refl
  key_names (Some k) = refl

  lists_fine_too : list_all (are_columns it') (column_lists it') ≡ true
  lists_fine_too =
      let us = map (λ (u : Unique). u.columns) it.uniques in
      let keys = map (λ (k : Key). k.columns) (key_list it.key) in
      let targets = all-append_left (are_columns it) (keys ++ us) _ fine.lists in
      all-append (are_columns it') (target_lists it') _
      (all-append (are_columns it') (map (λ (k : Key). k.columns) (key_list it'.key)) (map (λ (u : Unique). u.columns) it'.uniques) (ap (list_all (are_columns it')) (key_is it.key) ∙ lists_are keys (all-append_left (are_columns it) keys us targets))
      (ap (list_all (are_columns it')) (map-map (λ (u : Unique). u.columns) (λ (u : Unique). record u { columns = map r' u.columns }) it.uniques ∙ sym (map-map (map r') (λ (u : Unique). u.columns) it.uniques)) ∙ lists_are us (all-append_right (are_columns it) keys us targets)))
      (ap (list_all (are_columns it')) (map-map (λ (i : Index). i.columns) (λ (i : Index). record i { columns = map r' i.columns }) it.indexes ∙ sym (map-map (map r') (λ (i : Index). i.columns) it.indexes)) ∙ lists_are (map (λ (i : Index). i.columns) it.indexes) (all-append_right (are_columns it) (keys ++ us) _ fine.lists))

  firm_list : (ns : List Name) → are_columns it ns ≡ true → list_all (is_not_null it) ns ≡ true → list_all (is_not_null it') (map r' ns) ≡ true
  firm_list ns are h = all-map (is_not_null it') r' ns ∙ firm_each ns (none_of ns are) h where
    firm_each : (ns : List Name) → (own ≡ true → is_in b ns ≡ false) → list_all (is_not_null it) ns ≡ true → list_all (λ n. is_not_null it' (r' n)) ns ≡ true
    firm_each [] out h = refl
    firm_each (n ∷ ns) out h = and_true _ _ (firm_too own a b n it.columns (λ o. or_left (is_named b n) _ (out o)) new (and_left (is_not_null it n) _ h)) (firm_each ns (λ o. or_right (is_named b n) _ (out o)) (and_right (is_not_null it n) _ h))

  key_firm_too : (o : Option Key) → list_all (are_columns it) (map (λ (k : Key). k.columns) (key_list o)) ≡ true → list_all (λ k. list_all (is_not_null it) k.columns) (key_list o) ≡ true → list_all (λ k. list_all (is_not_null it') k.columns) (key_list (option_map (λ (k : Key). record k { columns = map r' k.columns }) o)) ≡ true
  key_firm_too None are h = refl
  key_firm_too (Some k) are h = and_true _ _ (firm_list k.columns (and_left (are_columns it k.columns) _ are) (and_left (list_all (is_not_null it) k.columns) _ h)) refl

  key_named_too : (o : Option Key) → list_all (λ k. is_key_name d k.name) (key_list o) ≡ true → list_all (λ k. is_key_name d k.name) (key_list (option_map (λ (k : Key). record k { columns = map r' k.columns }) o)) ≡ true
  key_named_too None h = refl
  key_named_too (Some k) h = h

  key_of_too : (o : Option Key) (n : Name) → is_key_of o n ≡ true → is_key_of (option_map (λ (k : Key). record k { columns = map r' k.columns }) o) (r' n) ≡ true
  key_of_too None n h = h
  key_of_too (Some k) n h = ap (λ x. x || false) (same_too own a b k.columns (n ∷ []) (at (same_names k.columns (n ∷ [])) h)) where
    at : (x : Bool) → (x || false) ≡ true → x ≡ true
    at true h = refl
    at false h = h

  numbered_too : (c : Column) → is_numbered_well it c ≡ true → is_numbered_well it' (as_renamed own a b c) ≡ true
  numbered_too c h = elim (not c.numbered) as (λ x. (x || (is_number c.kind && (is_none c.default && is_key_of it.key c.name))) ≡ true → (x || (is_number c.kind && (is_none c.default && is_key_of it'.key (r' c.name)))) ≡ true) [
    | true ↦ λ p. refl
    | false ↦ λ p.
        let rest = and_right (is_number c.kind) _ p in
        and_true _ _ (and_left (is_number c.kind) _ p) (and_true _ _ (and_left (is_none c.default) _ rest) (key_of_too it.key c.name (and_right (is_none c.default) _ rest)))
  ] h

  uniques_named : map (λ (u : Unique). u.name) it'.uniques ≡ map (λ (u : Unique). u.name) it.uniques
  uniques_named = map-map (λ (u : Unique). u.name) (λ (u : Unique). record u { columns = map r' u.columns }) it.uniques

  indexes_named : map (λ (i : Index). i.name) it'.indexes ≡ map (λ (i : Index). i.name) it.indexes
  indexes_named = map-map (λ (i : Index). i.name) (λ (i : Index). record i { columns = map r' i.columns }) it.indexes

  pub foreign_named : foreign_names it' ≡ foreign_names it
  foreign_named = map-map (λ (f : ForeignKey). f.name) (λ (f : ForeignKey). record f { columns = map r' f.columns; targets = names_at (is_named t f.table) a b f.targets }) it.foreign

  pub inner_named : inner_names it' ≡ inner_names it
  inner_named = ap (λ ks. ks ++ (map (λ (u : Unique). u.name) it'.uniques ++ map (λ (i : Index). i.name) it'.indexes)) (key_names it.key)
      ∙ ap (λ us. map (λ (k : Key). k.name) (key_list it.key) ++ (us ++ map (λ (i : Index). i.name) it'.indexes)) uniques_named
      ∙ ap (λ is. map (λ (k : Key). k.name) (key_list it.key) ++ (map (λ (u : Unique). u.name) it.uniques ++ is)) indexes_named

  constraints_named : constraint_names it' ≡ constraint_names it
  constraints_named = ap (λ ks. ks ++ (map (λ (u : Unique). u.name) it'.uniques ++ foreign_names it')) (key_names it.key)
      ∙ ap (λ us. map (λ (k : Key). k.name) (key_list it.key) ++ (us ++ foreign_names it')) uniques_named
      ∙ ap (λ fs. map (λ (k : Key). k.name) (key_list it.key) ++ (map (λ (u : Unique). u.name) it.uniques ++ fs)) foreign_named

  within_too : (k : Dialect) → AreApartWithin k it → AreApartWithin k it'
  within_too Postgresql h = λ n. subst (λ ns. times n ns ≤ 1) (sym constraints_named) (h n)
  within_too Mysql h = λ n. subst (λ ns. times n ns ≤ 1) (sym (ap (λ us. us ++ map (λ (i : Index). i.name) it'.indexes) uniques_named ∙ ap (λ is. map (λ (u : Unique). u.name) it.uniques ++ is) indexes_named)) (h n)

  own_public : is_elsewhere b ≡ false → list_any is_elsewhere (own_names it') ≡ false
  own_public plain =
      let names = column_names it in
      let others = constraint_names it ++ map (λ (i : Index). i.name) it.indexes in
      let none = sym (any-append is_elsewhere names others) ∙ fine.public in
      any-append is_elsewhere (column_names it') (constraint_names it' ++ map (λ (i : Index). i.name) it'.indexes)
      ∙ or_false _ _ (ap (list_any is_elsewhere) (names_too own a b it.columns) ∙ all_public names (or_left _ _ none))
      (ap (λ ns. list_any is_elsewhere (ns ++ map (λ (i : Index). i.name) it'.indexes)) constraints_named ∙ ap (λ ns. list_any is_elsewhere (constraint_names it ++ ns)) indexes_named ∙ or_right (list_any is_elsewhere names) _ none)
    where
      one_public : (o : Bool) (n : Name) → is_elsewhere n ≡ false → is_elsewhere (name_at o a b n) ≡ false
      one_public false n h = h
      one_public true n h = elim (is_named a n) as (λ x. is_elsewhere (cond x b n) ≡ false) [ true ↦ plain | false ↦ h ]

      all_public : (ns : List Name) → list_any is_elsewhere ns ≡ false → list_any is_elsewhere (map r' ns) ≡ false
      all_public [] h = refl
      all_public (n ∷ ns) h = or_false _ _ (one_public own n (or_left (is_elsewhere n) _ h)) (all_public ns (or_right (is_elsewhere n) _ h))

  pub renamed_fine : is_elsewhere b ≡ false → IsSoundTable d it'
  renamed_fine plain = record {
    some = some_columns (as_renamed own a b) it.columns fine.some;
    differ = ap repeats (names_too own a b it.columns) ∙ differ_too own a b (column_names it) new fine.differ;
    kinds = all-map (λ c. is_kind c.kind) (as_renamed own a b) it.columns ∙ fine.kinds;
    rows = all_more (row_fits it.columns) (row_fits it'.columns) it.rows (λ r h. rows_too own a b it.columns r ∙ h) fine.rows;
    defaults = all-map default_fits (as_renamed own a b) it.columns ∙ fine.defaults;
    lists = lists_fine_too;
    foreign = all-map (λ f. are_columns it' f.columns) (λ (f : ForeignKey). record f { columns = map r' f.columns; targets = names_at (is_named t f.table) a b f.targets }) it.foreign ∙ all_more (λ f. are_columns it f.columns) _ it.foreign (λ f h. are_too f.columns h) fine.foreign;
    key = key_firm_too it.key (all-append_left (are_columns it) (map (λ (k : Key). k.columns) (key_list it.key)) _ (all-append_left (are_columns it) (target_lists it) _ fine.lists)) fine.key;
    key_named = key_named_too it.key fine.key_named;
    numbered = all-map (is_numbered_well it') (as_renamed own a b) it.columns ∙ all_more (is_numbered_well it) _ it.columns numbered_too fine.numbered;
    within = within_too d fine.within;
    public = own_public plain;
  }

-- the names in the spaces stay
inner_as : (t : Name) (own : Bool) (a b : Name) (x : Table) → inner_names (with_column_renamed t own a b x) ≡ inner_names x
inner_as t own a b x = ap (λ ks. ks ++ (map (λ (u : Unique). u.name) (with_column_renamed t own a b x).uniques ++ map (λ (i : Index). i.name) (with_column_renamed t own a b x).indexes)) (key_names x.key)
    ∙ ap (λ us. map (λ (k : Key). k.name) (key_list x.key) ++ (us ++ map (λ (i : Index). i.name) (with_column_renamed t own a b x).indexes)) (map-map (λ (u : Unique). u.name) (λ (u : Unique). record u { columns = names_at own a b u.columns }) x.uniques)
    ∙ ap (λ is. map (λ (k : Key). k.name) (key_list x.key) ++ (map (λ (u : Unique). u.name) x.uniques ++ is)) (map-map (λ (i : Index). i.name) (λ (i : Index). record i { columns = names_at own a b i.columns }) x.indexes)
  where
    key_names : (o : Option Key) → map (λ (k : Key). k.name) (key_list (option_map (λ (k : Key). record k { columns = names_at own a b k.columns }) o)) ≡ map (λ (k : Key). k.name) (key_list o)
    key_names None = refl
    key_names (Some k) = refl

-- with no new name there, a name stays where it is neither the old nor the new one
plain_name : (own : Bool) (a b m : Name) → is_named a m ≡ false → name_at own a b m ≡ m
plain_name own a b m h = elim own as (λ o. name_at o a b m ≡ m) [ true ↦ ap (λ x. cond x b m) h | false ↦ refl ]

other_name : (a b : Name) (ns : List Name) → map (name_at false a b) ns ≡ ns
other_name a b [] = refl
other_name a b (n ∷ ns) = ap (λ ms. n ∷ ms) (other_name a b ns)

-- what holds of each entry of a map, by its look-up, in order
each_entry : (t : Name) (p q : Name × Table → Bool) (es : List (Name × Table)) → T (is_sorted name_cmp es) → ((n : Name) (x : Table) → lookup (is_named n) es ≡ Some x → p (n, x) ≡ false → q (n, x) ≡ false) → list_any p es ≡ false → list_any q es ≡ false
each_entry t p q [] rise h none = refl
each_entry t p q (e ∷ es) rise h none = or_false _ _
    (h e.0 e.1 (ap (λ b. cond b (Some e.1) (lookup (is_named e.0) es)) (named_itself e.0)) (or_left (p e) _ none))
    (each_entry t p q es (later _ _ rise) (λ n x is. h n x (whether (is_named n e.0)
    (λ same. not_some (sym is ∙ ap (λ m. lookup (is_named m) es) (same_name n e.0 same) ∙ below_gone e.0 es (sooner _ _ rise)))
    (λ apart. ap (λ b. cond b (Some e.1) (lookup (is_named n) es)) apart ∙ is))) (or_right (p e) _ none))
  where
    sooner : (x y : Bool) → T (x && y) → T x
    sooner true y p = tt
    sooner false y p = p

    later : (x y : Bool) → T (x && y) → T y
    later true y p = p
    later false y p = absurd p

module _ (d : Dialect) (t a b : Name) (c : Catalogue) (sound : IsSound d c) (there : table_of c t ≡ Some (the_table c t)) (new : has_column (the_table c t) b ≡ false) (unseen : is_shown c t a ≡ false) where
  abbrev g' : Name → Table → Table
  g' n = with_column_renamed t (is_named t n) a b

  abbrev e' : Catalogue
  e' = record c { tables = map (λ x. (x.0, with_column_renamed t (is_named t x.0) a b x.1)) c.tables }

  looked : (q : Name) → table_of e' q ≡ option_map (g' q) (table_of c q)
  looked q = lookup-entries q g' c.tables

  -- a table of the name t is the one that has no column b
  new_in : (q : Name) (x : Table) → table_of c q ≡ Some x → is_named t q ≡ true → has_column x b ≡ false
  new_in q x is p = ap (λ y. has_column y b) (some_same (sym is ∙ ap (table_of c) (sym (same_name t q p)) ∙ there)) ∙ new

  free : IsUntouched c t (is_named b)
  free = nowhere d c t b sound there new

  table_fine : is_elsewhere b ≡ false → (q : Name) (x : Table) → table_of e' q ≡ Some x → IsSoundTable d x
  table_fine plain q x is =
      let y = mapped_some (g' q) (table_of c q) x (sym (looked q) ∙ is) in
      subst (IsSoundTable d) y.2 (renamed_fine t (is_named t q) a b d y.0 (sound.tables q y.0 y.1) (new_in q y.0 y.1) plain)

  target_same : (f : ForeignKey) → aims_at t b f ≡ false → kinds_at (the_table e' f.table) (names_at (is_named t f.table) a b f.targets) ≡ kinds_at (the_table c f.table) f.targets
  target_same f out = ap (λ o. kinds_at (unwrap_or o no_table) (names_at (is_named t f.table) a b f.targets)) (looked f.table) ∙ at (table_of c f.table) refl where
    at : (o : Option Table) → table_of c f.table ≡ o → kinds_at (unwrap_or (option_map (g' f.table) o) no_table) (names_at (is_named t f.table) a b f.targets) ≡ kinds_at (unwrap_or o no_table) f.targets
    at None is = none_kinds f.targets where
      none_kinds : (ns : List Name) → map (λ n. kind_of n []) (names_at (is_named t f.table) a b ns) ≡ map (λ n. kind_of n []) ns
      none_kinds [] = refl
      none_kinds (n ∷ ns) = ap (λ ks. (let o : Option Kind = None in o) ∷ ks) (none_kinds ns)
    at (Some x) is = kinds_too (is_named t f.table) a b f.targets x.columns (λ p. ap (λ r. r && is_in b f.targets) (sym p) ∙ out) (new_in f.table x is)

  alike_at : (q : Name) (x : Table) → table_of c q ≡ Some x → (list_any (kinds_differ c x) x.foreign || list_any (aims_at t b) x.foreign) ≡ false → list_any (kinds_differ e' (g' q x)) (g' q x).foreign ≡ false
  alike_at q x is none =
      any-map (kinds_differ e' (g' q x)) (λ (f : ForeignKey). record f { columns = names_at (is_named t q) a b f.columns; targets = names_at (is_named t f.table) a b f.targets }) x.foreign
      ∙ any_less_both (λ f. kinds_differ c x f || aims_at t b f) (λ f. not (are_columns x f.columns)) _ x.foreign
      (λ f h k.
      let out = none_of t (is_named t q) a b d x (sound.tables q x is) (new_in q x is) f.columns (not_false _ k) in
      ap (λ ks. not (same_kinds ks (kinds_at (the_table e' f.table) (names_at (is_named t f.table) a b f.targets)))) (kinds_too (is_named t q) a b f.columns x.columns out (new_in q x is))
      ∙ ap (λ ks. not (same_kinds (kinds_at x f.columns) ks)) (target_same f (or_right (kinds_differ c x f) _ h)) ∙ or_left (kinds_differ c x f) _ h)
      (any_less_both (kinds_differ c x) (aims_at t b) _ x.foreign (λ f h k. or_false _ _ h k) (or_left (list_any (kinds_differ c x) x.foreign) _ none) (or_right (list_any (kinds_differ c x) x.foreign) _ none))
      (any_none _ (λ f. are_columns x f.columns) x.foreign (λ f h. not_true _ h) (sound.tables q x is).foreign)

  alike_e : is_unlike e' ≡ false
  alike_e = any-map (λ (x : Name × Table). list_any (kinds_differ e' x.1) x.1.foreign) (λ (x : Name × Table). (x.0, g' x.0 x.1)) c.tables
      ∙ each_entry t (λ (x : Name × Table). list_any (kinds_differ c x.1) x.1.foreign || list_any (aims_at t b) x.1.foreign) _ c.tables (sorted_entries c.tables sound.ordered) (λ n x is h. alike_at n x is h)
      (any_less_both (λ (x : Name × Table). list_any (kinds_differ c x.1) x.1.foreign) (λ (x : Name × Table). list_any (aims_at t b) x.1.foreign) _ c.tables (λ x h k. or_false _ _ h k) sound.alike free.aimed)

  -- a view of the table names neither the old nor the new name
  view_table : (v : View) (x : Table) → table_of c v.query.table ≡ Some x → (shows (is_named a) t v || shows (is_named b) t v) ≡ false → view_at (Some x) v ≡ true → view_at (Some (g' v.query.table x)) v ≡ true
  view_table v x is none h = whether (is_named t v.query.table)
      (λ own.
      let out_a = ap (λ r. r && (list_any (is_named a) v.columns || list_any (is_named a) (names_in v.query.test))) (sym own) ∙ or_left (shows (is_named a) t v) (shows (is_named b) t v) none in
      let out_b = ap (λ r. r && (list_any (is_named b) v.columns || list_any (is_named b) (names_in v.query.test))) (sym own) ∙ or_right (shows (is_named a) t v) (shows (is_named b) t v) none in
      subst (λ o. view_at (Some (with_column_renamed t o a b x)) v ≡ true) (sym own)
      (view_still (λ m. is_named a m || is_named b m) x (with_column_renamed t true a b x)
      (λ m out. ap (λ k. kind_of k (map (as_renamed true a b) x.columns)) (sym (plain_name true a b m (or_left (is_named a m) _ out)))
      ∙ kind_too true a b m x.columns (λ o. or_right (is_named a m) _ out) (λ o. new_in v.query.table x is own))
      v (or_false _ _ (either v.columns (or_left _ _ out_a) (or_left _ _ out_b)) (either (names_in v.query.test) (or_right (list_any (is_named a) v.columns) _ out_a) (or_right (list_any (is_named b) v.columns) _ out_b))) h))
      (λ other. subst (λ o. view_at (Some (with_column_renamed t o a b x)) v ≡ true) (sym other)
      (view_still (λ m. false) x (with_column_renamed t false a b x) (λ m out. kind_too false a b m x.columns (λ o. true_false o refl) (λ o. true_false o refl)) v (or_false _ _ (never v.columns) (never (names_in v.query.test))) h))
    where
      either : (ns : List Name) → list_any (is_named a) ns ≡ false → list_any (is_named b) ns ≡ false → list_any (λ m. is_named a m || is_named b m) ns ≡ false
      either ns x y = any_less_both (is_named a) (is_named b) _ ns (λ m p q. or_false _ _ p q) x y

  view_kept : (v : View) → (shows (is_named a) t v || shows (is_named b) t v) ≡ false → is_view c v ≡ true → is_view e' v ≡ true
  view_kept v none h = view_is e' v ∙ ap (λ o. view_at o v) (looked v.query.table) ∙ at (table_of c v.query.table) refl where
    at : (o : Option Table) → table_of c v.query.table ≡ o → view_at (option_map (g' v.query.table) o) v ≡ true
    at None is = ap (λ o. view_at o v) (sym is) ∙ sym (view_is c v) ∙ h
    at (Some x) is = view_table v x is none (ap (λ o. view_at o v) (sym is) ∙ sym (view_is c v) ∙ h)

  inner_same : (n : Name) (x : Table) → inner_names (g' n x) ≡ inner_names x
  inner_same n x = inner_as t (is_named t n) a b x

  foreign_same : (n : Name) (x : Table) → foreign_names (g' n x) ≡ foreign_names x
  foreign_same n x = map-map (λ (f : ForeignKey). f.name) (λ (f : ForeignKey). record f { columns = names_at (is_named t n) a b f.columns; targets = names_at (is_named t f.table) a b f.targets }) x.foreign

  pub column_renamed_shaped : is_elsewhere b ≡ false → IsShaped d e'
  column_renamed_shaped plain = record {
    ordered = subst (IsStrictlySortedBy name_cmp) (sym (keys-entries g' c.tables)) sound.ordered;
    ordered_views = sound.ordered_views;
    ordered_sequences = sound.ordered_sequences;
    tables = table_fine plain;
    views = all_kept (λ (v : Name × View). shows (is_named a) t v.1 || shows (is_named b) t v.1) (λ (v : Name × View). is_view c v.1) _ c.views (λ v none is. view_kept v.1 none is)
        (any_less_both (λ (v : Name × View). shows (is_named a) t v.1) (λ (v : Name × View). shows (is_named b) t v.1) _ c.views (λ v p q. or_false _ _ p q) unseen free.shown) sound.views;
    apart = moved_same d c e' (record {
      objects = λ n.
          let s : times n (object_names e') ≡ times n (object_names c) = ap (λ ks. times n (ks ++ (map (λ (x : Name × View). x.0) c.views ++ map (λ (x : Name × Sequence). x.0) c.sequences))) (keys-entries g' c.tables) in
          omega (arith, s);
      inner = λ n. ap (times n) (flat-entries names_inside g' c.tables (λ x. ap (placed x.0) (inner_same x.0 x.1)));
      foreign = λ n. ap (times n) (flat-entries (λ (x : Name × Table). foreign_names x.1) g' c.tables (λ x. foreign_same x.0 x.1));
    }) sound.apart;
    schemas = ap (λ ks. may_name d (ks ++ (map (λ (x : Name × View). x.0) c.views ++ map (λ (x : Name × Sequence). x.0) c.sequences))) (keys-entries g' c.tables) ∙ sound.schemas;
    steps = sound.steps;
    sequences = sound.sequences;
    alike = alike_e;
  }

pub rename_column_keeps : (by : By) (d : Dialect) (t a b : Name) (c e : Catalogue) (k : ℕ) → is_name b ≡ true → IsSound d c → step by d (RenameColumn t a b) c ≡ Ok (e, k) → IsSound d e
rename_column_keeps by d t a b c e k name sound made =
    let p = rename_column by d t a b c in
    let ok = accepted p e k made in
    let there = here c t (or_left _ _ ok.missing) in
    keeps d p e k made (column_renamed_shaped d t a b c sound there ok.exists ok.depends (not_elsewhere b name))
