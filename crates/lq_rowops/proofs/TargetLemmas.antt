-- Lemmas on what foreign keys aim at, where none is loose.
use Rattle.std.proofs.Common.{Bool, List, Option, Some, [], ap, false, refl, subst, sym, true, ◌&&◌, ◌++◌, ◌||◌, ◌∷◌, ◌≡◌}
use Rattle.std.specs.List.{list_any}
use Rattle.lq_base.specs.Name.{is_named}
use Rattle.lq_base.specs.declared.dialect.Dialect.{Dialect}
use Rattle.lq_base.specs.declared.literal.Literal.{Literal}
use Rattle.lq_base.specs.declared.name.Name.{Name}
use Rattle.lq_chain.specs.History.{History, changed}
use Rattle.lq_decide.proofs.OneTable.{none_loose}
use Rattle.lq_decide.specs.Faults.{meets, names_set, set_child}
use Rattle.lq_model.proofs.Lists.{and_no_right, any-append, any_less, not_false, or_left, or_right, same_name, true_false, whether}
use Rattle.lq_model.proofs.Untouched.{same_list}
use Rattle.lq_model.specs.Catalogue.{Catalogue, table_of, the_table, with_table, same_names, target_lists}
use Rattle.lq_model.specs.Plan.{is_loose, lacks_parent, misses_target}
use Rattle.lq_model.specs.Sound.{IsSound}
use Rattle.lq_model.specs.Rows.{edited}
use Rattle.lq_model.specs.declared.constraint.ForeignKey.{ForeignKey}
use Rattle.lq_model.specs.declared.test.Test.{Test}
use Rattle.lq_rowops.specs.InsertTests.{sets_target}

-- a test of two lists, one after another
pub any_two : {A : Type 0} (p : A → Bool) (a b : List A) → list_any p (a ++ b) ≡ (list_any p a || list_any p b)
any_two p a b = any-append p a b

-- none of the names is in one of the lists, where none is in any
unmet : (ns ms : List Name) (lists : List (List Name)) → list_any (same_names ms) lists ≡ true → list_any (meets ns) lists ≡ false → meets ns ms ≡ false
unmet ns ms [] there none = true_false there refl
unmet ns ms (l ∷ ls) there none = whether (same_names ms l)
    (λ is. subst (λ x. meets ns x ≡ false) (sym (same_list ms l is)) (or_left (meets ns l) _ none))
    (λ other. unmet ns ms ls (subst (λ b. (b || list_any (same_names ms) ls) ≡ true) other there) (or_right (meets ns l) _ none))

module _ (t : Name) (sets : List (Name × Literal)) (c : Catalogue) (unset : sets_target sets (the_table c t) ≡ false) where
  unaimed : (f : ForeignKey) → misses_target c f ≡ false → (is_named t f.table && meets (names_set sets) f.targets) ≡ false
  unaimed f hits = whether (is_named t f.table)
      (λ is. and_no_right (is_named t f.table) _ (unmet (names_set sets) f.targets (target_lists (the_table c t))
      (subst (λ n. list_any (same_names f.targets) (target_lists (the_table c n)) ≡ true) (sym (same_name t f.table is)) (not_false _ hits)) unset))
      (λ other. ap (λ b. b && meets (names_set sets) f.targets) other)

  -- where no list that may be targeted has a set column, no child loses its parent
  pub no_child : is_loose c ≡ false → list_any (set_child t sets c c) c.tables ≡ false
  no_child aimed = any_less (set_child t sets c c) (λ e. list_any (misses_target c) e.1.foreign) c.tables
      (λ e hit. and_no_right _ _ (any_less (λ f. (is_named t f.table && meets (names_set sets) f.targets) && list_any (lacks_parent c e.1.columns f) e.1.rows) (misses_target c) e.1.foreign
      (λ f hits. ap (λ b. b && list_any (lacks_parent c e.1.columns f) e.1.rows) (unaimed f hits)) hit)) aimed

-- new rows leave each foreign key its targets
pub aimed_still : (d : Dialect) (t : Name) (c : Catalogue) (h e : History Catalogue) (sets : List (Name × Literal)) (test : Option Test) → IsSound d c → table_of c t ≡ Some (the_table c t)
    → e ≡ changed h (with_table c t (edited sets test (the_table c t))) → is_loose e.now ≡ false
aimed_still d t c h e sets test sound there is =
    subst (λ (x : History Catalogue). is_loose x.now ≡ false) (sym is) (none_loose d c t sound there (edited sets test (the_table c t)) (λ ns k. k) (λ p k. k))
