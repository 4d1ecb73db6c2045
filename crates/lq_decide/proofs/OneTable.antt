-- A sound catalogue in which one table is another: what its tests come to.
use Rattle.std.proofs.Common.{ap, subst, sym, unwrap_or, ◌∙◌}
use Rattle.std.specs.List.{list_any}
use Rattle.std.specs.Prelude.{Bool, List, Some, [], false, length, map, nat_le, not, refl, true, ◌&&◌, ◌||◌, ◌∷◌, ◌≡◌}
use Rattle.lq_base.specs.Name.{is_named}
use Rattle.lq_base.specs.declared.dialect.Dialect.{Dialect}
use Rattle.lq_base.specs.declared.name.Name.{Name}
use Rattle.lq_base.specs.declared.value.Value.{Value}
use Rattle.lq_model.specs.Catalogue.{Catalogue, Table, no_table, table_of, the_table, with_table, same_names, is_null, picked, same_values, target_lists}
use Rattle.lq_model.specs.Plan.{lacks_parents, leaves_children, has_null, has_orphan, has_twins, is_full, is_loose, is_overfull, lacks_parent, misses_target, most_rows, table_has_null, table_has_twins}
use Rattle.lq_model.specs.Sound.{IsSound}
use Rattle.lq_model.specs.declared.constraint.ForeignKey.{ForeignKey}
use Rattle.lq_model.proofs.Kept.{lookup_other, the_table-with_table}
use Rattle.lq_model.proofs.Lists.{any-map, any_less, any_less_both, any_same, not_false, not_true, or_false, or_left, or_right, same_name, whether}
use Rattle.lq_model.proofs.Maps.{any_local, any_none-set_value, at_lookup, sorted_entries}
use Rattle.lq_model.proofs.Untouched.{IsUntouched, aims}
use Rattle.lq_decide.specs.Faults.{loses_target}
use Rattle.lq_decide.proofs.Lists.{any_agree, at_each, at_key, at_others}

-- the values of all rows in these columns
abbrev pub picks : Table → List Name → List (List Value)
picks it ns = map (picked it.columns ns) it.rows

-- whether these values, as those of a foreign key, have no parent
abbrev pub parentless : Catalogue → ForeignKey → List Value → Bool
parentless c f own =
    let target = the_table c f.table in
    not (list_any is_null own) && not (list_any (λ r. same_values own (picked target.columns f.targets r)) target.rows)

module _ (d : Dialect) (c : Catalogue) (t : Name) (sound : IsSound d c) (there : table_of c t ≡ Some (the_table c t)) (new : Table) where
  abbrev it : Table
  it = the_table c t

  abbrev after : Catalogue
  after = with_table c t new

  pub other_table : (k : Name) → is_named t k ≡ false → the_table after k ≡ the_table c k
  other_table k other = ap (λ o. unwrap_or o no_table) (lookup_other t k new c.tables other)

  pub this_table : (k : Name) → is_named t k ≡ true → the_table after k ≡ new
  this_table k is = subst (λ n. the_table after n ≡ new) (same_name t k is) (the_table-with_table c t new there)

  pub old_table : (k : Name) → is_named t k ≡ true → the_table c k ≡ it
  old_table k is = subst (λ n. the_table c n ≡ it) (same_name t k is) refl

  -- nulls, twins and size are asked of the new table alone

  pub nulls_are : has_null after ≡ table_has_null new
  nulls_are = any_local (is_named t) table_has_null c.tables it new there sound.no_null

  pub twins_are : has_twins after ≡ table_has_twins new
  twins_are = any_local (is_named t) table_has_twins c.tables it new there sound.no_twins

  pub full_is : is_overfull after ≡ is_full new
  full_is = any_local (is_named t) is_full c.tables it new there sound.small

  pub old_nulls : table_has_null it ≡ false
  old_nulls = at_lookup (is_named t) table_has_null c.tables it sound.no_null there

  pub old_twins : table_has_twins it ≡ false
  old_twins = at_lookup (is_named t) table_has_twins c.tables it sound.no_twins there

  pub old_size : is_full it ≡ false
  old_size = at_lookup (is_named t) is_full c.tables it sound.small there

  pub same_size : length new.rows ≡ length it.rows → is_overfull after ≡ false
  same_size same = full_is ∙ ap (λ n. not (nat_le n most_rows)) same ∙ old_size

  pub old_aimed : list_any (misses_target c) it.foreign ≡ false
  old_aimed = at_lookup (is_named t) (λ x. list_any (misses_target c) x.foreign) c.tables it sound.aimed there

  -- where it keeps its targets, only its own foreign keys can miss theirs
  module _ (kept : (ns : List Name) → list_any (same_names ns) (target_lists it) ≡ true → list_any (same_names ns) (target_lists new) ≡ true) where
    pub hits_still : (f : ForeignKey) → misses_target c f ≡ false → misses_target after f ≡ false
    hits_still f hits = whether (is_named t f.table)
        (λ is. ap (λ x. not (list_any (same_names f.targets) (target_lists x))) (this_table f.table is) ∙ not_true _ (kept f.targets (not_false _ (ap (λ x. not (list_any (same_names f.targets) (target_lists x))) (sym (old_table f.table is)) ∙ hits))))
        (λ other. ap (λ x. not (list_any (same_names f.targets) (target_lists x))) (other_table f.table other) ∙ hits)

    pub loose_is : is_loose after ≡ list_any (misses_target after) new.foreign
    loose_is = any_local (is_named t) (λ x. list_any (misses_target after) x.foreign) c.tables it new there
        (any_less _ (λ e. list_any (misses_target c) e.1.foreign) c.tables (λ e h. any_less (misses_target after) (misses_target c) e.1.foreign hits_still h) sound.aimed)

    pub none_loose : ((p : ForeignKey → Bool) → list_any p it.foreign ≡ false → list_any p new.foreign ≡ false) → is_loose after ≡ false
    none_loose fewer = loose_is ∙ fewer (misses_target after) (any_less (misses_target after) (misses_target c) it.foreign hits_still old_aimed)

  -- where it may lose a target, those that aim at it are asked
  pub loses : ((p : ForeignKey → Bool) → list_any p it.foreign ≡ false → list_any p new.foreign ≡ false) → is_loose after ≡ loses_target t new c
  loses fewer =
      any_agree _ (λ e. list_any aims_lost e.1.foreign) (λ e. list_any (misses_target c) e.1.foreign) after.tables
      (λ e h. any_agree (misses_target after) aims_lost (misses_target c) e.1.foreign missed h)
      (any_none-set_value (is_named t) (λ e. list_any (misses_target c) e.1.foreign) c.tables new sound.aimed (λ k p. fewer (misses_target c) old_aimed))
      ∙ at_each t (λ x. list_any aims_lost x.foreign) c.tables it new (sorted_entries c.tables sound.ordered) there where
        aims_lost : ForeignKey → Bool
        aims_lost f = is_named t f.table && not (list_any (same_names f.targets) (target_lists new))

        missed : (f : ForeignKey) → misses_target c f ≡ false → misses_target after f ≡ aims_lost f
        missed f hits = whether (is_named t f.table)
            (λ is. ap (λ x. not (list_any (same_names f.targets) (target_lists x))) (this_table f.table is) ∙ ap (λ b. b && not (list_any (same_names f.targets) (target_lists new))) (sym is))
            (λ other. ap (λ x. not (list_any (same_names f.targets) (target_lists x))) (other_table f.table other) ∙ hits ∙ ap (λ b. b && not (list_any (same_names f.targets) (target_lists new))) (sym other))

  -- where its rows have their values in all columns but q, a foreign key that does not aim at those finds its parents as before
  module _ (q : Name → Bool) (same : (ns : List Name) → list_any q ns ≡ false → picks new ns ≡ picks it ns) where
    pub parents_stay : (f : ForeignKey) → aims q t f ≡ false → (own : List Value) → parentless after f own ≡ parentless c f own
    parents_stay f out own = ap (λ b. not (list_any is_null own) && not b) (whether (is_named t f.table)
        (λ is. ap found (this_table f.table is) ∙ sym (any-map (same_values own) (picked new.columns f.targets) new.rows) ∙ ap (list_any (same_values own)) (same f.targets (ap (λ b. b && list_any q f.targets) (sym is) ∙ out)) ∙ any-map (same_values own) (picked it.columns f.targets) it.rows ∙ ap found (sym (old_table f.table is)))
        (λ other. ap found (other_table f.table other))) where
          found : Table → Bool
          found x = list_any (λ r. same_values own (picked x.columns f.targets r)) x.rows

  -- and where no foreign key names the columns q
  module _ (q : Name → Bool) (untouched : IsUntouched c t q) (same : (ns : List Name) → list_any q ns ≡ false → picks new ns ≡ picks it ns) where
    pub all_parents : list_any (λ e. has_orphan after e.1) c.tables ≡ false
    all_parents = any_less_both (λ e. list_any (aims q t) e.1.foreign) (λ e. has_orphan c e.1) _ c.tables
        (λ e none parents. any_less_both (aims q t) (λ f. list_any (lacks_parent c e.1.columns f) e.1.rows) _ e.1.foreign
        (λ f out is. any_same (lacks_parent after e.1.columns f) (lacks_parent c e.1.columns f) e.1.rows (λ r. parents_stay q same f out (picked e.1.columns f.columns r)) ∙ is) none parents)
        untouched.aimed sound.parents

    pub orphans_are : lacks_parents (t ∷ []) after ≡ has_orphan after new
    orphans_are = at_key t (has_orphan after) c.tables it new there all_parents

    pub no_children : leaves_children (t ∷ []) after ≡ false
    no_children = at_others t (has_orphan after) c.tables new all_parents

    abbrev lacks : ForeignKey → Bool
    lacks f = list_any (lacks_parent after new.columns f) new.rows

    pub lacks_still : (f : ForeignKey) → aims q t f ≡ false → list_any q f.columns ≡ false → lacks f ≡ list_any (lacks_parent c it.columns f) it.rows
    lacks_still f out own =
        sym (any-map (parentless after f) (picked new.columns f.columns) new.rows)
        ∙ ap (list_any (parentless after f)) (same f.columns own)
        ∙ any-map (parentless after f) (picked it.columns f.columns) it.rows
        ∙ any_same (lacks_parent after it.columns f) (lacks_parent c it.columns f) it.rows (λ r. parents_stay q same f out (picked it.columns f.columns r))

    -- none of the foreign keys that were there
    pub old_orphans : list_any lacks it.foreign ≡ false
    old_orphans = any_less_both (λ f. list_any q f.columns) (λ f. aims q t f || list_any (lacks_parent c it.columns f) it.rows) lacks it.foreign
        (λ f own is. lacks_still f (or_left _ _ is) own ∙ or_right (aims q t f) _ is) untouched.own
        (any_less_both (aims q t) (λ f. list_any (lacks_parent c it.columns f) it.rows) _ it.foreign (λ f a b. or_false _ _ a b)
        (at_lookup (is_named t) (λ x. list_any (aims q t) x.foreign) c.tables it untouched.aimed there)
        (at_lookup (is_named t) (has_orphan c) c.tables it sound.parents there))

    pub no_orphans : ((p : ForeignKey → Bool) → list_any p it.foreign ≡ false → list_any p new.foreign ≡ false) → lacks_parents (t ∷ []) after ≡ false
    no_orphans fewer = orphans_are ∙ fewer lacks old_orphans
