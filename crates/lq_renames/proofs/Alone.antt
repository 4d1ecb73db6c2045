-- Tables that a column's new name leaves alone.
use Rattle.std.proofs.Common.{List, None, Option, Some, [], ap, false, map, refl, ◌∙◌, ◌∷◌, ◌≡◌}
use Rattle.std.specs.List.{list_any}
use Rattle.std.specs.Option.{option_map}
use Rattle.lq_base.specs.Name.{is_named}
use Rattle.lq_base.specs.declared.name.Name.{Name}
use Rattle.lq_model.specs.Catalogue.{Table}
use Rattle.lq_model.specs.Tables.{targets_table, name_at, names_at, with_column_renamed}
use Rattle.lq_model.specs.declared.constraint.ForeignKey.{ForeignKey}
use Rattle.lq_model.specs.declared.constraint.Key.{Key}
use Rattle.lq_model.proofs.Lists.{or_left, or_right}
use Rattle.lq_renames.specs.Listed.{column_at, foreign_at, index_at, key_at, unique_at}

kept_all : {A : Type 0} (f : A → A) (xs : List A) → ((x : A) → f x ≡ x) → map f xs ≡ xs
kept_all f [] same = refl
kept_all f (x ∷ xs) same = ap (λ y. y ∷ map f xs) (same x) ∙ ap (λ ys. x ∷ ys) (kept_all f xs same)

module _ (t a b : Name) where
  names_alone : (ns : List Name) → names_at false a b ns ≡ ns
  names_alone ns = kept_all (name_at false a b) ns (λ n. refl)

  key_alone : (key : Option Key) → option_map (key_at false a b) key ≡ key
  key_alone None = refl
  key_alone (Some k) = ap (λ ns. Some (record k { columns = ns })) (names_alone k.columns)

  foreign_alone : (fs : List ForeignKey) → list_any (λ (f : ForeignKey). is_named t f.table) fs ≡ false → map (foreign_at t false a b) fs ≡ fs
  foreign_alone [] none = refl
  foreign_alone (f ∷ fs) none =
      ap (λ ns. record f { columns = ns; targets = names_at (is_named t f.table) a b f.targets } ∷ map (foreign_at t false a b) fs) (names_alone f.columns)
      ∙ ap (λ own. record f { targets = names_at own a b f.targets } ∷ map (foreign_at t false a b) fs) (or_left (is_named t f.table) _ none)
      ∙ ap (λ ns. record f { targets = ns } ∷ map (foreign_at t false a b) fs) (names_alone f.targets)
      ∙ ap (λ gs. f ∷ gs) (foreign_alone fs (or_right (is_named t f.table) _ none))

  pub left_alone : (it : Table) → targets_table t it ≡ false → with_column_renamed t false a b it ≡ it
  left_alone it none =
      let cs = kept_all (column_at false a b) it.columns (λ c. refl) in
      let us = kept_all (unique_at false a b) it.uniques (λ u. ap (λ ns. record u { columns = ns }) (names_alone u.columns)) in
      let is = kept_all (index_at false a b) it.indexes (λ i. ap (λ ns. record i { columns = ns }) (names_alone i.columns)) in
      ap (λ x. record it { columns = x; key = option_map (key_at false a b) it.key; uniques = map (unique_at false a b) it.uniques; foreign = map (foreign_at t false a b) it.foreign; indexes = map (index_at false a b) it.indexes }) cs
      ∙ ap (λ x. record it { key = x; uniques = map (unique_at false a b) it.uniques; foreign = map (foreign_at t false a b) it.foreign; indexes = map (index_at false a b) it.indexes }) (key_alone it.key)
      ∙ ap (λ x. record it { uniques = x; foreign = map (foreign_at t false a b) it.foreign; indexes = map (index_at false a b) it.indexes }) us
      ∙ ap (λ x. record it { foreign = x; indexes = map (index_at false a b) it.indexes }) (foreign_alone it.foreign none)
      ∙ ap (λ x. record it { indexes = x }) is
