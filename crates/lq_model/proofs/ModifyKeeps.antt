-- MODIFY keeps a catalogue sound.
use Rattle.std.proofs.Common.{ap, sym, ◌∙◌}
use Rattle.std.specs.List.{list_all}
use Rattle.std.specs.Prelude.{Bool, List, None, Ok, Option, Some, [], cond, false, map, not, refl, true, ℕ, ◌&&◌, ◌||◌, ◌∷◌, ◌≡◌}
use Rattle.lq_base.specs.Kind.{is_kind}
use Rattle.lq_base.specs.Name.{is_named}
use Rattle.lq_base.specs.Value.{is_value_of}
use Rattle.lq_base.specs.declared.dialect.Dialect.{Dialect}
use Rattle.lq_base.specs.declared.kind.Kind.{Kind}
use Rattle.lq_base.specs.declared.name.Name.{Name}
use Rattle.lq_base.specs.declared.value.Value.{Value}
use Rattle.lq_model.specs.Catalogue.{Catalogue, Table, table_of, the_table, with_table, is_in, repeats, by_name, row_fits}
use Rattle.lq_model.specs.Tables.{changed_at, kind_needed, modified, modify, with_changed, is_aimed, is_in_foreign, is_in_key, is_shown}
use Rattle.lq_model.specs.Kinds.{kind_of, same_kind}
use Rattle.lq_model.specs.Plan.{Plan}
use Rattle.lq_model.specs.Sound.{IsSound, IsSoundTable, default_fits, is_numbered_well}
use Rattle.lq_model.specs.Step.{step}
use Rattle.lq_model.specs.declared.caller.By.{By}
use Rattle.lq_model.specs.declared.column.Column.{Column}
use Rattle.lq_model.specs.declared.statement.Statement.TheVariants.{Modify}
use Rattle.lq_model.proofs.Between.{name_kept}
use Rattle.lq_model.proofs.ChangeKeeps.{all_changed, change_sound, key_stays_firm, unchanged}
use Rattle.lq_model.proofs.Decide.{IsAccepted, accepted, here}
use Rattle.lq_model.proofs.EqualKinds.{equal_kind}
use Rattle.lq_model.proofs.IntoKind.{null_fits}
use Rattle.lq_model.proofs.Kept.{kept_foreign, kept_more, same_apart}
use Rattle.lq_model.proofs.Lists.{all_both, all_more, all_none, and_left, and_right, and_true, or_left, or_right, same_name, true_false, whether}
use Rattle.lq_model.proofs.Shaped.{IsShaped, keeps, shape_of}

row_modified : (n : Name) (k : Kind) (b : Bool) (cs : List Column) (row : List Value) → repeats (map (λ x. x.name) cs) ≡ false → is_value_of k (by_name cs row n) ≡ true → row_fits cs row ≡ true → row_fits (map (changed_at n (modified k b)) cs) row ≡ true
row_modified n k b [] row differ fit h = h
row_modified n k b (c ∷ cs) [] differ fit h = true_false refl (sym h)
row_modified n k b (c ∷ cs) (v ∷ row) differ fit h =
    elim (is_named n c.name) as (λ x. is_named n c.name ≡ x → is_value_of k (cond x v (by_name cs row n)) ≡ true → row_fits (cond x (modified k b c) c ∷ map (changed_at n (modified k b)) cs) (v ∷ row) ≡ true) [
      | true ↦ λ q g. and_true _ _ g (ap (λ xs. row_fits xs row) (unchanged n (modified k b) cs (ap (λ m. is_in m (map (λ x. x.name) cs)) (same_name n c.name q) ∙ or_left (is_in c.name (map (λ x. x.name) cs)) _ differ)) ∙ and_right (is_value_of c.kind v) _ h)
      | false ↦ λ q g. and_true _ _ (and_left (is_value_of c.kind v) _ h) (row_modified n k b cs row (or_right (is_in c.name (map (λ x. x.name) cs)) _ differ) g (and_right (is_value_of c.kind v) _ h))
    ] refl fit

-- columns of another name keep their kind
other_kind : (n : Name) (f : Column → Column) (same : (c : Column) → (f c).name ≡ c.name) (m : Name) (cs : List Column) → is_named n m ≡ false → kind_of m (map (changed_at n f) cs) ≡ kind_of m cs
other_kind n f same m [] apart = refl
other_kind n f same m (c ∷ cs) apart =
    ap (λ x. cond (is_named m x) (Some (changed_at n f c).kind) (kind_of m (map (changed_at n f) cs))) (name_kept n f same c)
    ∙ elim (is_named m c.name) as (λ b. is_named m c.name ≡ b → cond b (Some (changed_at n f c).kind) (kind_of m (map (changed_at n f) cs)) ≡ cond b (Some c.kind) (kind_of m cs)) [
      | true ↦ λ p. ap (λ b. Some (cond b (f c) c).kind) (ap (is_named n) (sym (same_name m c.name p)) ∙ apart)
      | false ↦ λ p. other_kind n f same m cs apart
    ] refl

same_kind_is : (o : Option Kind) (k : Kind) → same_kind o (Some k) ≡ true → o ≡ Some k
same_kind_is None k h = true_false h refl
same_kind_is (Some a) k h = ap Some (equal_kind a k h)

-- a column of the same kind keeps it
same_kind_stays : (n : Name) (k : Kind) (b : Bool) (cs : List Column) → repeats (map (λ x. x.name) cs) ≡ false → kind_of n cs ≡ Some k → (m : Name) → kind_of m (map (changed_at n (modified k b)) cs) ≡ kind_of m cs
same_kind_stays n k b [] differ is m = refl
same_kind_stays n k b (c ∷ cs) differ is m =
    elim (is_named n c.name) as (λ x. is_named n c.name ≡ x → cond x (Some c.kind) (kind_of n cs) ≡ Some k → kind_of m (cond x (modified k b c) c ∷ map (changed_at n (modified k b)) cs) ≡ kind_of m (c ∷ cs)) [
      | true ↦ λ q h. ap (λ z. cond (is_named m c.name) z (kind_of m (map (changed_at n (modified k b)) cs))) (sym h)
          ∙ ap (λ xs. cond (is_named m c.name) (Some c.kind) (kind_of m xs)) (unchanged n (modified k b) cs (ap (λ y. is_in y (map (λ x. x.name) cs)) (same_name n c.name q) ∙ or_left (is_in c.name (map (λ x. x.name) cs)) _ differ))
      | false ↦ λ q h. ap (cond (is_named m c.name) (Some c.kind)) (same_kind_stays n k b cs (or_right (is_in c.name (map (λ x. x.name) cs)) _ differ) h m)
    ] refl is

module _ (by : By) (d : Dialect) (t n : Name) (k : Kind) (b : Bool) (c e : Catalogue) (count : ℕ) (known : is_kind k ≡ true) (sound : IsSound d c) (made : step by d (Modify t n k b) c ≡ Ok (e, count)) where
  abbrev old : Table
  old = the_table c t

  abbrev f' : Column → Column
  f' = modified k b

  abbrev new' : Table
  new' = with_changed n f' old

  abbrev p' : Plan
  p' = modify by d t n k b c

  ok : IsAccepted p' e
  ok = accepted p' e count made

  there : table_of c t ≡ Some old
  there = here c t (or_left _ _ ok.missing)

  fine : IsSoundTable d old
  fine = sound.tables t old there

  values_fit : list_all (λ r. is_value_of k (by_name old.columns r n)) old.rows ≡ true
  values_fit = all_none (λ r. is_value_of k (by_name old.columns r n)) old.rows ok.wide

  rows_fit : list_all (row_fits new'.columns) old.rows ≡ true
  rows_fit = all_more (λ r. is_value_of k (by_name old.columns r n) && row_fits old.columns r) _ old.rows
      (λ r h. row_modified n k b old.columns r fine.differ (and_left (is_value_of k (by_name old.columns r n)) _ h) (and_right (is_value_of k (by_name old.columns r n)) _ h))
      (all_both (λ r. is_value_of k (by_name old.columns r n)) (row_fits old.columns) old.rows values_fit fine.rows)

  -- null is allowed in no column of the key
  no_null_in_key : (m : Name) → is_named n m ≡ true → is_in_key old m ≡ true → (x : Column) → not x.nullable ≡ true → not b ≡ true
  no_null_in_key m q is x h = elim b as (λ y. (y && is_in_key old n) ≡ false → not y ≡ true) [
    | true ↦ λ p. true_false is (ap (is_in_key old) (sym (same_name n m q)) ∙ p)
    | false ↦ λ p. refl
  ] (or_left (b && is_in_key old n) (kind_needed c t n k) ok.depends)

  table_fine : IsSoundTable d new'
  table_fine = change_sound n f' (λ x. refl) d old fine
      (all_changed n f' (λ x. is_kind x.kind) old.columns (λ x q h. known) fine.kinds) rows_fit
      (all_changed n f' default_fits old.columns (λ x q h. null_fits k) fine.defaults)
      (key_stays_firm n f' (λ x. refl) d old fine no_null_in_key)
      (all_changed n f' (is_numbered_well old) old.columns (λ x q h. refl) fine.numbered)

  shaped_if : (not (same_kind (kind_of n old.columns) (Some k)) && (is_shown c t n || (is_in_foreign old n || is_aimed c t n))) ≡ false → IsShaped d (with_table c t new')
  shaped_if free = whether (same_kind (kind_of n old.columns) (Some k))
      (λ same. kept_more d c t new' sound there (λ m h. same_kind_stays n k b old.columns fine.differ (same_kind_is (kind_of n old.columns) k same) m) refl (same_apart d c t new' there refl refl sound.apart) table_fine)
      (λ other.
      let none = ap (λ x. not x && (is_shown c t n || (is_in_foreign old n || is_aimed c t n))) (sym other) ∙ free in
      kept_foreign d c t new' (shape_of d c sound) there (is_named n) (λ m apart. other_kind n f' (λ x. refl) m old.columns apart)
      (record { shown = or_left _ _ none; own = or_left _ _ (or_right _ _ none); aimed = or_right _ _ (or_right _ _ none) })
      refl (same_apart d c t new' there refl refl sound.apart) table_fine)

  pub modify_keeps : IsSound d e
  modify_keeps = keeps d p' e count made (shaped_if (or_right (b && is_in_key old n) (kind_needed c t n k) ok.depends))
