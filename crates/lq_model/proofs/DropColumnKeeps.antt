-- DROP COLUMN keeps a catalogue sound.
use Rattle.std.proofs.Common.{ap, sym, ◌∙◌}
use Rattle.std.specs.List.{list_all, list_any}
use Rattle.std.specs.Prelude.{Bool, List, Ok, Some, [], cond, false, map, not, refl, true, ℕ, ◌++◌, ◌||◌, ◌∷◌, ◌≡◌}
use Rattle.lq_base.specs.Kind.{is_kind}
use Rattle.lq_base.specs.Name.{is_elsewhere, is_named}
use Rattle.lq_base.specs.Value.{is_value_of}
use Rattle.lq_base.specs.declared.dialect.Dialect.{Dialect}
use Rattle.lq_base.specs.declared.dialect.Dialect.TheVariants.{Mysql, Postgresql}
use Rattle.lq_base.specs.declared.name.Name.{Name}
use Rattle.lq_base.specs.declared.value.Value.{Value}
use Rattle.lq_model.specs.Catalogue.{Catalogue, Table, the_table, is_empty, is_in, repeats, row_fits, column_lists, column_names, constraint_names, key_list}
use Rattle.lq_model.specs.Tables.{columns_without, drop_column, is_only, row_without, without_column, is_aimed, is_bound, is_in_foreign, is_shown}
use Rattle.lq_model.specs.Kinds.{kind_of}
use Rattle.lq_model.specs.NameSpaces.{AreApartWithin}
use Rattle.lq_model.specs.Sound.{IsSound, are_columns, default_fits, is_not_null, is_numbered_well}
use Rattle.lq_model.specs.Step.{step}
use Rattle.lq_model.specs.declared.caller.By.{By}
use Rattle.lq_model.specs.declared.column.Column.{Column}
use Rattle.lq_model.specs.declared.index.Index.{Index}
use Rattle.lq_model.specs.declared.statement.Statement.TheVariants.{DropColumn}
use Rattle.lq_model.proofs.Decide.{accepted, here}
use Rattle.lq_model.proofs.Kept.{kept_foreign, same_apart}
use Rattle.lq_model.proofs.KeptKinds.{are_columns_still}
use Rattle.lq_model.proofs.Lists.{all-map, all_kept, all_more, and_left, and_right, and_true, any-append, or_false, or_left, or_right, other_way, same_name, true_false}
use Rattle.lq_model.proofs.Shaped.{keeps, shape_of}

module _ (n : Name) where
  other_kinds : (cs : List Column) (m : Name) → is_named n m ≡ false → kind_of m (columns_without n cs) ≡ kind_of m cs
  other_kinds [] m apart = refl
  other_kinds (c ∷ cs) m apart = elim (is_named n c.name) as (λ b. is_named n c.name ≡ b → kind_of m (cond b cs (c ∷ columns_without n cs)) ≡ kind_of m (c ∷ cs)) [
    | true ↦ λ p. sym (ap (λ b. cond b (Some c.kind) (kind_of m cs)) (ap (λ x. is_named m x) (sym (same_name n c.name p)) ∙ other_way n m apart))
    | false ↦ λ p. ap (cond (is_named m c.name) (Some c.kind)) (other_kinds cs m apart)
  ] refl

  all_without : (p : Column → Bool) (cs : List Column) → list_all p cs ≡ true → list_all p (columns_without n cs) ≡ true
  all_without p [] h = refl
  all_without p (c ∷ cs) h = elim (is_named n c.name) as (λ b. list_all p (cond b cs (c ∷ columns_without n cs)) ≡ true) [
    | true ↦ and_right (p c) _ h
    | false ↦ and_true _ _ (and_left (p c) _ h) (all_without p cs (and_right (p c) _ h))
  ]

  none_without : (p : Name → Bool) (cs : List Column) → list_any p (map (λ c. c.name) cs) ≡ false → list_any p (map (λ c. c.name) (columns_without n cs)) ≡ false
  none_without p [] h = refl
  none_without p (c ∷ cs) h = elim (is_named n c.name) as (λ b. list_any p (map (λ c. c.name) (cond b cs (c ∷ columns_without n cs))) ≡ false) [
    | true ↦ or_right (p c.name) _ h
    | false ↦ or_false _ _ (or_left (p c.name) _ h) (none_without p cs (or_right (p c.name) _ h))
  ]

  differ_without : (cs : List Column) → repeats (map (λ c. c.name) cs) ≡ false → repeats (map (λ c. c.name) (columns_without n cs)) ≡ false
  differ_without [] h = refl
  differ_without (c ∷ cs) h = elim (is_named n c.name) as (λ b. repeats (map (λ c. c.name) (cond b cs (c ∷ columns_without n cs))) ≡ false) [
    | true ↦ or_right (is_in c.name (map (λ c. c.name) cs)) _ h
    | false ↦ or_false _ _ (none_without (is_named c.name) cs (or_left (is_in c.name (map (λ c. c.name) cs)) _ h)) (differ_without cs (or_right (is_in c.name (map (λ c. c.name) cs)) _ h))
  ]

  row_less : (cs : List Column) (row : List Value) → row_fits cs row ≡ true → row_fits (columns_without n cs) (row_without n cs row) ≡ true
  row_less [] row h = h
  row_less (c ∷ cs) [] h = true_false h refl
  row_less (c ∷ cs) (v ∷ row) h = elim (is_named n c.name) as (λ b. row_fits (cond b cs (c ∷ columns_without n cs)) (cond b row (v ∷ row_without n cs row)) ≡ true) [
    | true ↦ and_right (is_value_of c.kind v) _ h
    | false ↦ and_true _ _ (and_left (is_value_of c.kind v) _ h) (row_less cs row (and_right (is_value_of c.kind v) _ h))
  ]

  some_left : (cs : List Column) → is_empty cs ≡ false → is_only cs ≡ false → is_empty (columns_without n cs) ≡ false
  some_left [] h only = true_false refl h
  some_left (c ∷ []) h only = true_false refl only
  some_left (c ∷ x ∷ cs) h only = elim (is_named n c.name) as (λ b. is_empty (cond b (x ∷ cs) (c ∷ columns_without n (x ∷ cs))) ≡ false) [ true ↦ refl | false ↦ refl ]

pub drop_column_keeps : (by : By) (d : Dialect) (t n : Name) (c e : Catalogue) (k : ℕ) → IsSound d c → step by d (DropColumn t n) c ≡ Ok (e, k) → IsSound d e
drop_column_keeps by d t n c e k sound made =
    let it = the_table c t in
    let p = drop_column by d t n c in
    let ok = accepted p e k made in
    let there = here c t (or_left _ _ ok.missing) in
    let fine = sound.tables t it there in
    let new = without_column n it in
    let bound : is_bound it n ≡ false = or_left (is_bound it n) _ (or_right (is_shown c t n) _ ok.depends) in
    let rest = or_right (is_bound it n) (is_aimed c t n || is_only it.columns) (or_right (is_shown c t n) _ ok.depends) in
    let same : (m : Name) → is_named n m ≡ false → kind_of m new.columns ≡ kind_of m it.columns = λ m apart. other_kinds n it.columns m apart in
    let lists = or_left (list_any (is_in n) (column_lists it)) (is_in_foreign it n) bound in
    let foreign = or_right (list_any (is_in n) (column_lists it)) (is_in_foreign it n) bound in
    keeps d p e k made (kept_foreign d c t new (shape_of d c sound) there (is_named n) same
    (record { shown = or_left (is_shown c t n) _ ok.depends; aimed = or_left (is_aimed c t n) _ rest; own = foreign })
    refl (same_apart d c t new there refl refl sound.apart)
    (record {
      some = some_left n it.columns fine.some (or_right (is_aimed c t n) _ rest);
      differ = differ_without n it.columns fine.differ;
      kinds = all_without n (λ x. is_kind x.kind) it.columns fine.kinds;
      rows = all-map (row_fits new.columns) (row_without n it.columns) it.rows ∙ all_more (row_fits it.columns) _ it.rows (λ r h. row_less n it.columns r h) fine.rows;
      defaults = all_without n default_fits it.columns fine.defaults;
      lists = all_kept (is_in n) (are_columns it) (are_columns new) (column_lists it) (λ ns out are. are_columns_still (is_named n) it new same ns out are) lists fine.lists;
      foreign = all_kept (λ f. is_in n f.columns) (λ f. are_columns it f.columns) (λ f. are_columns new f.columns) it.foreign (λ f out are. are_columns_still (is_named n) it new same f.columns out are) foreign fine.foreign;
      key = all_more (λ x. list_all (is_not_null it) x.columns) _ (key_list it.key) (λ x h. all_more (is_not_null it) (is_not_null new) x.columns (λ m g. all_without n (λ y. not (is_named m y.name) || not y.nullable) it.columns g) h) fine.key;
      key_named = fine.key_named;
      numbered = all_without n (is_numbered_well it) it.columns fine.numbered;
      within = within_same d it n fine.within;
      public =
          let others = constraint_names it ++ map (λ (i : Index). i.name) it.indexes in
          let none = sym (any-append is_elsewhere (column_names it) others) ∙ fine.public in
          any-append is_elsewhere (column_names new) others ∙ or_false _ _ (none_without n is_elsewhere it.columns (or_left _ _ none)) (or_right (list_any is_elsewhere (column_names it)) _ none);
    }))
  where
    within_same : (d : Dialect) (it : Table) (n : Name) → AreApartWithin d it → AreApartWithin d (without_column n it)
    within_same Postgresql it n h = h
    within_same Mysql it n h = h
