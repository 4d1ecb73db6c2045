-- RENAME TABLE.
use Rattle.std.proofs.Common.{ap, subst, sym, unwrap_or, ◌∙◌}
use Rattle.std.specs.BTreeMap.{insert_entry}
use Rattle.std.specs.List.{list_any}
use Rattle.std.specs.Map.{remove_entry}
use Rattle.std.specs.Option.{option_map}
use Rattle.std.specs.Prelude.{Bool, None, Option, Some, [], cond, false, is_some, not, refl, ◌||◌, ◌∷◌, ◌≡◌}
use Rattle.lq_base.specs.Name.{is_named, name_cmp}
use Rattle.lq_base.specs.declared.dialect.Dialect.{Dialect}
use Rattle.lq_base.specs.declared.name.Name.{Name}
use Rattle.lq_model.specs.Catalogue.{Catalogue, Table, no_table, table_of, the_table, renamed, same_names, picked, target_lists}
use Rattle.lq_model.specs.Tables.{targets_table, rename_table, retarget, retargeted, table_renamed, view_renamed}
use Rattle.lq_model.specs.Plan.{decide, is_full, is_loose, lacks_parent, misses_target, table_has_null, table_has_twins}
use Rattle.lq_model.specs.Sound.{IsSound}
use Rattle.lq_model.specs.declared.caller.By.{By}
use Rattle.lq_model.specs.declared.constraint.ForeignKey.{ForeignKey}
use Rattle.lq_model.proofs.Absent.{free_of, untargeted}
use Rattle.lq_model.proofs.Lists.{any-map, any_less, any_less_both, any_same, named_itself, or_false, or_left, or_right, other_way, same_name, whether}
use Rattle.lq_model.proofs.Maps.{any_none-remove_entry, at_lookup, lookup-insert_entry, lookup-remove_entry, lookup-values, sorted_entries}
use Rattle.lq_decide.specs.Faults.{no_faults, judged}
use Rattle.lq_decide.proofs.Judge.{IsFound, judge, quiet_found}
use Rattle.lq_decide.proofs.Tables.{any_inserted, lacks_at}
use Rattle.lq_decide.proofs.Views.{same_aimed, same_found, view_moved}

module _ (d : Dialect) (a b : Name) (c : Catalogue) (sound : IsSound d c) (there : table_of c a ≡ Some (the_table c a)) (gone : table_of c b ≡ None) where
  abbrev it : Table
  it = the_table c a

  abbrev e : Catalogue
  e = table_renamed a b c

  looked : (q : Name) → table_of e q ≡ option_map (retargeted a b) (cond (is_named q b) (Some it) (cond (is_named a q) None (table_of c q)))
  looked q =
      lookup-values (is_named q) (retargeted a b) _
      ∙ ap (option_map (retargeted a b)) (lookup-insert_entry _ b it q ∙ ap (cond (is_named q b) (Some it)) (lookup-remove_entry a c.tables q (sorted_entries c.tables sound.ordered)))

  looked_b : the_table e b ≡ retargeted a b it
  looked_b = ap (λ o. unwrap_or o no_table) (looked b ∙ ap (λ r. option_map (retargeted a b) (cond r (Some it) (cond (is_named a b) None (table_of c b)))) (named_itself b))

  -- by its new name a table is what it was, its foreign keys retargeted
  same_table : (q : Name) → is_named b q ≡ false → the_table e (renamed a b q) ≡ retargeted a b (the_table c q)
  same_table q out = whether (is_named a q)
      (λ is. ap (λ x. the_table e (cond x b q)) is ∙ looked_b ∙ ap (λ n. retargeted a b (the_table c n)) (same_name a q is))
      (λ no. ap (λ x. the_table e (cond x b q)) no
      ∙ ap (λ o. unwrap_or o no_table) (looked q
      ∙ ap (λ x. option_map (retargeted a b) (cond x (Some it) (cond (is_named a q) None (table_of c q)))) (other_way b q out)
      ∙ ap (λ x. option_map (retargeted a b) (cond x None (table_of c q))) no)
      ∙ at (table_of c q)) where
        at : (o : Option Table) → unwrap_or (option_map (retargeted a b) o) no_table ≡ retargeted a b (unwrap_or o no_table)
        at None = refl
        at (Some x) = refl

  -- what no table had, none has
  none_renamed : (p q : Table → Bool) → ((x : Table) → q x ≡ false → p (retargeted a b x) ≡ false) → list_any (λ x. q x.1) c.tables ≡ false → list_any (λ x. p x.1) e.tables ≡ false
  none_renamed p q h none =
      let rest = remove_entry (is_named a) c.tables in
      any-map (λ (x : Name × Table). p x.1) (λ (x : Name × Table). (x.0, retargeted a b x.1)) (insert_entry name_cmp rest b it)
      ∙ any_inserted (λ x. p (retargeted a b x)) rest b it (any_less (λ (x : Name × Table). p (retargeted a b x.1)) (λ x. q x.1) rest (λ x. h x.1) (any_none-remove_entry (is_named a) (λ (x : Name × Table). q x.1) c.tables none))
      ∙ h it (at_lookup (is_named a) q c.tables it none there)

  free : list_any (λ x. targets_table b x.1) c.tables ≡ false
  free = untargeted d c b sound gone

  -- of each foreign key, which does not target b
  none_targeted : (p q : Table → ForeignKey → Bool) → ((x : Table) (f : ForeignKey) → is_named b f.table ≡ false → q x f ≡ false → p x (retarget a b f) ≡ false) → list_any (λ x. list_any (q x.1) x.1.foreign) c.tables ≡ false → ((x : Table) → (f : ForeignKey) → p (retargeted a b x) f ≡ p x f) → list_any (λ x. list_any (p x.1) x.1.foreign) e.tables ≡ false
  none_targeted p q h none same = none_renamed (λ x. list_any (p x) x.foreign) (λ x. targets_table b x || list_any (q x) x.foreign)
      (λ x no. any-map (p (retargeted a b x)) (retarget a b) x.foreign ∙ any_less_both (λ f. is_named b f.table) (q x) _ x.foreign (λ f out is. same x (retarget a b f) ∙ h x f out is) (or_left (targets_table b x) _ no) (or_right (targets_table b x) _ no))
      (any_less_both (λ x. targets_table b x.1) (λ x. list_any (q x.1) x.1.foreign) _ c.tables (λ x out is. or_false _ _ out is) free none)

  aimed : is_loose e ≡ false
  aimed = none_targeted (λ x f. misses_target e f) (λ x f. misses_target c f) (λ x f out is. ap (λ y. not (list_any (same_names f.targets) (target_lists y))) (same_table f.table out) ∙ is) sound.aimed (λ x f. refl)

  renamed_found : IsFound (b ∷ []) e no_faults
  renamed_found = quiet_found false (b ∷ []) e
      (none_renamed table_has_null table_has_null (λ x h. h) sound.no_null)
      (none_renamed table_has_twins table_has_twins (λ x h. h) sound.no_twins)
      (none_targeted (λ x f. list_any (lacks_parent e x.columns f) x.rows) (λ x f. list_any (lacks_parent c x.columns f) x.rows)
      (λ x f out is. any_same (lacks_parent e x.columns (retarget a b f)) (lacks_parent c x.columns f) x.rows (λ r. ap (λ y. lacks_at y f (picked x.columns f.columns r)) (same_table f.table out)) ∙ is) sound.parents (λ x f. refl))
      (none_renamed is_full is_full (λ x h. h) sound.small)

pub rename_table_judged : (by : By) (d : Dialect) (t to : Name) (c : Catalogue) → IsSound d c → decide (rename_table by d t to c) ≡ judged (rename_table by d t to c) no_faults
rename_table_judged by d t to c sound = at (table_of c t) refl where
  at : (o : Option Table) → table_of c t ≡ o → decide (rename_table by d t to c) ≡ judged (rename_table by d t to c) no_faults
  at None is =
      let e = view_renamed t to c in
      judge (rename_table by d t to c) no_faults
      (λ first. ap (λ o. is_loose (cond (is_some o) (table_renamed t to c) e)) is ∙ same_aimed d e c sound (view_moved t to c))
      (λ all. subst (λ o. IsFound (to ∷ []) (cond (is_some o) (table_renamed t to c) e) no_faults) (sym is) (same_found d (to ∷ []) e c sound (view_moved t to c)))
  at (Some x) is =
      let e = table_renamed t to c in
      let there : table_of c t ≡ Some (the_table c t) = is ∙ ap Some (sym (ap (λ o. unwrap_or o no_table) is)) in
      judge (rename_table by d t to c) no_faults
      (λ first. ap (λ o. is_loose (cond (is_some o) e (view_renamed t to c))) is ∙ aimed d t to c sound there (free_of d to c (or_left _ _ first.exists)))
      (λ all. subst (λ o. IsFound (to ∷ []) (cond (is_some o) e (view_renamed t to c)) no_faults) (sym is) (renamed_found d t to c sound there (free_of d to c (or_left _ _ all.exists))))
