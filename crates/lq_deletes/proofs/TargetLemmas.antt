-- Lemmas on what foreign keys aim at, where none is loose.
use Rattle.std.proofs.Common.{Bool, List, None, Option, Some, [], false, is_some, map, not, refl, subst, sym, true, ◌&&◌, ◌++◌, ◌||◌, ◌∷◌, ◌≡◌}
use Rattle.std.specs.List.{list_any}
use Rattle.lq_base.specs.Name.{is_named}
use Rattle.lq_base.specs.declared.name.Name.{Name}
use Rattle.lq_model.proofs.Lists.{and_no_right, any_less, not_false, same_name, true_false, whether}
use Rattle.lq_model.specs.Catalogue.{Catalogue, Table, the_table, is_empty, same_names, key_list, target_lists}
use Rattle.lq_model.specs.Plan.{is_loose, misses_target}
use Rattle.lq_model.specs.declared.constraint.ForeignKey.{ForeignKey}
use Rattle.lq_model.specs.declared.constraint.Key.{Key}
use Rattle.lq_model.specs.declared.constraint.Unique.{Unique}
use Rattle.lq_deletes.specs.Places.{cascades_at, has_targets, is_aimed_at}

-- one of them is there
has_one : (p : List Name → Bool) (key : Option Key) (uniques : List Unique) → list_any p (map (λ k. k.columns) (key_list key) ++ map (λ u. u.columns) uniques) ≡ true → (is_some key || not (is_empty uniques)) ≡ true
has_one p (Some key) uniques hit = refl
has_one p None (u ∷ uniques) hit = refl
has_one p None [] hit = true_false hit refl

-- a key that does not aim at the table does not cascade from it
pub uncascaded : (t : Name) (c : Catalogue) → is_aimed_at t c ≡ false → cascades_at t c ≡ false
uncascaded t c apart = any_less (λ (e : Name × Table). list_any (λ f. f.cascade && is_named t f.table) e.1.foreign) (λ e. list_any (λ f. is_named t f.table) e.1.foreign) c.tables (λ e h. any_less (λ f. f.cascade && is_named t f.table) (λ f. is_named t f.table) e.1.foreign (λ f other. and_no_right f.cascade _ other) h) apart

module _ (t : Name) (c : Catalogue) (aimed : is_loose c ≡ false) (bare : has_targets (the_table c t) ≡ false) where
  elsewhere : (f : ForeignKey) → misses_target c f ≡ false → is_named t f.table ≡ false
  elsewhere f hits = whether (is_named t f.table)
      (λ is. true_false (has_one (same_names f.targets) (the_table c t).key (the_table c t).uniques
      (subst (λ n. list_any (same_names f.targets) (target_lists (the_table c n)) ≡ true) (sym (same_name t f.table is)) (not_false _ hits))) bare)
      (λ other. other)

  -- at a table without a key and without a unique constraint no foreign key aims
  pub unaimed : is_aimed_at t c ≡ false
  unaimed = any_less (λ e. list_any (λ f. is_named t f.table) e.1.foreign) (λ e. list_any (misses_target c) e.1.foreign) c.tables
      (λ e hit. any_less (λ f. is_named t f.table) (misses_target c) e.1.foreign elsewhere hit) aimed
