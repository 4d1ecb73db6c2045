-- What no foreign key targets, where each targets a key or a unique constraint.
use Rattle.std.proofs.Common.{Bool, List, None, Option, Some, [], false, is_some, map, not, refl, subst, sym, true, ◌&&◌, ◌++◌, ◌||◌, ◌∷◌, ◌≡◌}
use Rattle.std.specs.List.{list_any}
use Rattle.lq_base.specs.Name.{is_named}
use Rattle.lq_base.specs.declared.name.Name.{Name}
use Rattle.lq_model.proofs.Lists.{and_no_right, any_less, not_false, same_name, true_false, whether}
use Rattle.lq_model.specs.Catalogue.{Catalogue, the_table, is_empty, same_names, key_list, target_lists}
use Rattle.lq_model.specs.Tables.{is_targeted, targets_table}
use Rattle.lq_model.specs.Plan.{is_loose, misses_target}
use Rattle.lq_model.specs.declared.constraint.ForeignKey.{ForeignKey}
use Rattle.lq_model.specs.declared.constraint.Key.{Key}
use Rattle.lq_model.specs.declared.constraint.Unique.{Unique}

-- one of them is there
has_one : (p : List Name → Bool) (key : Option Key) (uniques : List Unique) → list_any p (map (λ k. k.columns) (key_list key) ++ map (λ u. u.columns) uniques) ≡ true → (is_some key || not (is_empty uniques)) ≡ true
has_one p (Some key) uniques hit = refl
has_one p None (u ∷ uniques) hit = refl
has_one p None [] hit = true_false hit refl

module _ (t : Name) (c : Catalogue) (aimed : is_loose c ≡ false) (bare : (is_some (the_table c t).key || not (is_empty (the_table c t).uniques)) ≡ false) where
  elsewhere : (f : ForeignKey) → misses_target c f ≡ false → is_named t f.table ≡ false
  elsewhere f hits = whether (is_named t f.table)
      (λ is. true_false (has_one (same_names f.targets) (the_table c t).key (the_table c t).uniques
      (subst (λ n. list_any (same_names f.targets) (target_lists (the_table c n)) ≡ true) (sym (same_name t f.table is)) (not_false _ hits))) bare)
      (λ other. other)

  pub untargeted : is_targeted c t ≡ false
  untargeted = any_less (λ e. not (is_named t e.0) && targets_table t e.1) (λ e. list_any (misses_target c) e.1.foreign) c.tables
      (λ e hit. and_no_right (not (is_named t e.0)) _ (any_less (λ f. is_named t f.table) (misses_target c) e.1.foreign elsewhere hit)) aimed

pub turned : (a b : Bool) → (a && b) ≡ (b && a)
turned true true = refl
turned true false = refl
turned false true = refl
turned false false = refl
