-- CREATE TABLE, DROP TABLE, and an index dropped wherever it is.
use Rattle.std.proofs.Common.{ap, sym, unwrap_or, ◌∙◌}
use Rattle.std.specs.BTreeMap.{insert_entry}
use Rattle.std.specs.List.{list_any}
use Rattle.std.specs.Option.{option_map}
use Rattle.std.specs.Ordering.{match_ordering}
use Rattle.std.specs.Prelude.{Bool, List, None, Option, Some, [], cond, false, is_some, map, not, refl, ◌&&◌, ◌||◌, ◌∷◌, ◌≡◌}
use Rattle.std.specs.declared.cmp.Ordering.TheVariants.{Equal, Greater, Less}
use Rattle.lq_base.specs.Name.{beside, is_named, name_cmp}
use Rattle.lq_base.specs.declared.dialect.Dialect.{Dialect}
use Rattle.lq_base.specs.declared.name.Name.{Name}
use Rattle.lq_base.specs.declared.value.Value.{Value}
use Rattle.lq_model.specs.Catalogue.{Catalogue, Table, no_table, table_of, the_table, with_new, without_table, same_names, has_bad_null, has_equals, is_null, picked, same_values, key_list, target_lists}
use Rattle.lq_model.specs.Tables.{create_table, new_table, drop_table, is_targeted, is_viewed, targets_table}
use Rattle.lq_model.specs.Constraints.{drop_index, without_index_in}
use Rattle.lq_model.specs.Plan.{decide, has_orphan, is_full, is_loose, lacks_parent, misses_target, table_has_null, table_has_twins, unique_lists}
use Rattle.lq_model.specs.Sound.{IsSound}
use Rattle.lq_model.specs.declared.caller.By.{By}
use Rattle.lq_model.specs.declared.column.ColumnDef.{ColumnDef}
use Rattle.lq_model.specs.declared.constraint.ForeignKey.{ForeignKey}
use Rattle.lq_model.specs.declared.constraint.Key.{Key}
use Rattle.lq_model.specs.declared.constraint.Unique.{Unique}
use Rattle.lq_model.proofs.Absent.{free_of, untargeted}
use Rattle.lq_model.proofs.Entries.{lookup-entries}
use Rattle.lq_model.proofs.Kept.{never}
use Rattle.lq_model.proofs.Lists.{any-map, any_less, any_less_both, any_same, named_itself, or_left, or_right, other_way, same_name, whether}
use Rattle.lq_model.proofs.Maps.{any_none-remove_entry, found, lookup-insert_entry, lookup-remove_entry, sorted_entries}
use Rattle.lq_decide.specs.Faults.{create_table_faults, misses_new, no_faults, judged}
use Rattle.lq_decide.proofs.Judge.{IsFound, judge, quiet_found}
use Rattle.lq_decide.proofs.Keys.{index_less, lists_less}
use Rattle.lq_decide.proofs.Lists.{or-false}

pub any_inserted : {X : Type 0} (p : X → Bool) (es : List (Name × X)) (k : Name) (x : X) → list_any (λ e. p e.1) es ≡ false → list_any (λ e. p e.1) (insert_entry name_cmp es k x) ≡ p x
any_inserted p [] k x none = or-false (p x)
any_inserted p (e ∷ es) k x none =
    elim (name_cmp k e.0) as (λ r. list_any (λ f. p f.1) (match_ordering r ((k, x) ∷ e ∷ es) ((e.0, x) ∷ es) (e ∷ insert_entry name_cmp es k x)) ≡ p x) [
      | Less ↦ ap (λ b. p x || b) none ∙ or-false (p x)
      | Equal ↦ ap (λ b. p x || b) (or_right (p e.1) _ none) ∙ or-false (p x)
      | Greater ↦ ap (λ b. b || list_any (λ f. p f.1) (insert_entry name_cmp es k x)) (or_left (p e.1) _ none) ∙ any_inserted p es k x (or_right (p e.1) _ none)
    ]

-- whether these values of a foreign key have no parent in a table
abbrev pub lacks_at : Table → ForeignKey → List Value → Bool
lacks_at y f own = not (list_any is_null own) && not (list_any (λ r. same_values own (picked y.columns f.targets r)) y.rows)

-- two catalogues whose tables are the same but at t: what does not target t is as it was
module _ (c e : Catalogue) (t : Name) (other : (k : Name) → is_named t k ≡ false → the_table e k ≡ the_table c k) (es : List (Name × Table)) (free : list_any (λ x. targets_table t x.1) es ≡ false) where
  pub others_aimed : list_any (λ x. list_any (misses_target c) x.1.foreign) es ≡ false → list_any (λ x. list_any (misses_target e) x.1.foreign) es ≡ false
  others_aimed aimed = any_less_both (λ x. targets_table t x.1) (λ x. list_any (misses_target c) x.1.foreign) _ es
      (λ x out h. any_less_both (λ f. is_named t f.table) (misses_target c) (misses_target e) x.1.foreign (λ f apart is. ap (λ y. not (list_any (same_names f.targets) (target_lists y))) (other f.table apart) ∙ is) out h)
      free aimed

  pub others_parents : list_any (λ x. has_orphan c x.1) es ≡ false → list_any (λ x. has_orphan e x.1) es ≡ false
  others_parents parents = any_less_both (λ x. targets_table t x.1) (λ x. has_orphan c x.1) _ es
      (λ x out h. any_less_both (λ f. is_named t f.table) (λ f. list_any (lacks_parent c x.1.columns f) x.1.rows) (λ f. list_any (lacks_parent e x.1.columns f) x.1.rows) x.1.foreign
      (λ f apart is. any_same (lacks_parent e x.1.columns f) (lacks_parent c x.1.columns f) x.1.rows (λ r. ap (λ y. lacks_at y f (picked x.1.columns f.columns r)) (other f.table apart)) ∙ is) out h)
      free parents

-- CREATE TABLE
module _ (d : Dialect) (c : Catalogue) (t : Name) (it : Table) (sound : IsSound d c) (gone : table_of c t ≡ None) (empty : it.rows ≡ []) where
  abbrev after : Catalogue
  after = with_new c t it

  -- a table by its name, where the new one is there
  pub the_new : (k : Name) → the_table after k ≡ cond (is_named t k) it (the_table c k)
  the_new k = ap (λ o. unwrap_or o no_table) (lookup-insert_entry c.tables t it k) ∙ whether (is_named t k)
      (λ is. ap (λ n. unwrap_or (cond (is_named n t) (Some it) (table_of c k)) no_table) (sym (same_name t k is)) ∙ ap (λ b. unwrap_or (cond b (Some it) (table_of c k)) no_table) (named_itself t) ∙ ap (λ b. cond b it (the_table c k)) (sym is))
      (λ no. ap (λ b. unwrap_or (cond b (Some it) (table_of c k)) no_table) (other_way t k no) ∙ ap (λ b. cond b it (the_table c k)) (sym no))

  other_new : (k : Name) → is_named t k ≡ false → the_table after k ≡ the_table c k
  other_new k apart = the_new k ∙ ap (λ b. cond b it (the_table c k)) apart

  new_loose : is_loose after ≡ list_any (misses_new t it c) it.foreign
  new_loose =
      any_inserted (λ x. list_any (misses_target after) x.foreign) c.tables t it (others_aimed c after t other_new c.tables (untargeted d c t sound gone) sound.aimed)
      ∙ any_same (misses_target after) (misses_new t it c) it.foreign (λ f. ap (λ x. not (list_any (same_names f.targets) (target_lists x))) (the_new f.table))

  new_found : (loose : Bool) → IsFound (t ∷ []) after (record no_faults { loose = loose })
  new_found loose = quiet_found loose (t ∷ []) after
      (any_inserted table_has_null c.tables t it sound.no_null ∙ ap (λ rs. list_any (has_bad_null it.columns) rs) empty)
      (any_inserted table_has_twins c.tables t it sound.no_twins ∙ ap (λ rs. list_any (λ ns. has_equals (map (picked it.columns ns) rs)) (unique_lists it)) empty ∙ never (unique_lists it))
      (any_inserted (has_orphan after) c.tables t it (others_parents c after t other_new c.tables (untargeted d c t sound gone) sound.parents) ∙ ap (λ rs. list_any (λ f. list_any (lacks_parent after it.columns f) rs) it.foreign) empty ∙ never it.foreign)
      (any_inserted is_full c.tables t it sound.small ∙ ap (λ rs. is_full (record it { rows = rs })) empty)

pub create_table_judged : (by : By) (d : Dialect) (t : Name) (defs : List ColumnDef) (key : Option Key) (uniques : List Unique) (foreign : List ForeignKey) (c : Catalogue) → IsSound d c → decide (create_table by d t defs key uniques foreign c) ≡ judged (create_table by d t defs key uniques foreign c) (create_table_faults t defs key uniques foreign c)
create_table_judged by d t defs key uniques foreign c sound =
    let it = new_table defs key uniques foreign in
    judge (create_table by d t defs key uniques foreign c) (create_table_faults t defs key uniques foreign c)
    (λ first. new_loose d c t it sound (free_of d t c (or_left _ _ first.exists)) refl)
    (λ free. new_found d c t it sound (free_of d t c (or_left _ _ free.exists)) refl _)

-- DROP TABLE
module _ (d : Dialect) (c : Catalogue) (t : Name) (sound : IsSound d c) (apart : is_targeted c t ≡ false) where
  abbrev rest : Catalogue
  rest = without_table c t

  rest_looked : (k : Name) → table_of rest k ≡ cond (is_named t k) None (table_of c k)
  rest_looked k = lookup-remove_entry t c.tables k (sorted_entries c.tables sound.ordered)

  other_left : (k : Name) → is_named t k ≡ false → the_table rest k ≡ the_table c k
  other_left k other = ap (λ o. unwrap_or o no_table) (rest_looked k ∙ ap (λ b. cond b None (table_of c k)) other)

  left_free : list_any (λ x. targets_table t x.1) rest.tables ≡ false
  left_free = any_less_both (λ (x : Name × Table). is_named t x.0) (λ (x : Name × Table). not (is_named t x.0) && targets_table t x.1) _ rest.tables
      (λ x other free. sym (ap (λ b. not b && targets_table t x.1) other) ∙ free)
      (sym (any-map (is_named t) (λ (x : Name × Table). x.0) rest.tables) ∙ found t rest.tables ∙ ap (λ o. is_some o) (rest_looked t ∙ ap (λ b. cond b None (table_of c t)) (named_itself t)))
      (any_none-remove_entry (is_named t) (λ (x : Name × Table). not (is_named t x.0) && targets_table t x.1) c.tables apart)

  left_aimed : is_loose rest ≡ false
  left_aimed = others_aimed c rest t other_left rest.tables left_free (any_none-remove_entry (is_named t) (λ (x : Name × Table). list_any (misses_target c) x.1.foreign) c.tables sound.aimed)

  left_found : IsFound (t ∷ []) rest no_faults
  left_found = quiet_found false (t ∷ []) rest
      (any_none-remove_entry (is_named t) (λ (x : Name × Table). table_has_null x.1) c.tables sound.no_null)
      (any_none-remove_entry (is_named t) (λ (x : Name × Table). table_has_twins x.1) c.tables sound.no_twins)
      (others_parents c rest t other_left rest.tables left_free (any_none-remove_entry (is_named t) (λ (x : Name × Table). has_orphan c x.1) c.tables sound.parents))
      (any_none-remove_entry (is_named t) (λ (x : Name × Table). is_full x.1) c.tables sound.small)

pub drop_table_judged : (by : By) (d : Dialect) (t : Name) (c : Catalogue) → IsSound d c → decide (drop_table by d t c) ≡ judged (drop_table by d t c) no_faults
drop_table_judged by d t c sound = judge (drop_table by d t c) no_faults
    (λ first. left_aimed d c t sound (or_right (is_viewed c t) _ first.depends))
    (λ free. left_found d c t sound (or_right (is_viewed c t) _ free.depends))

-- an index, wherever it is
module _ (d : Dialect) (c : Catalogue) (n : Name) (sound : IsSound d c) where
  abbrev less : Catalogue
  less = record c { tables = map (λ x. (x.0, without_index_in n x.0 x.1)) c.tables }

  less_looked : (k : Name) → the_table less k ≡ without_index_in n k (the_table c k)
  less_looked k = ap (λ o. unwrap_or o no_table) (lookup-entries k (without_index_in n) c.tables) ∙ at (table_of c k) where
    at : (o : Option Table) → unwrap_or (option_map (without_index_in n k) o) no_table ≡ without_index_in n k (unwrap_or o no_table)
    at None = refl
    at (Some x) = refl

  less_aimed : is_loose less ≡ false
  less_aimed = any-map (λ (x : Name × Table). list_any (misses_target less) x.1.foreign) (λ (x : Name × Table). (x.0, without_index_in n x.0 x.1)) c.tables
      ∙ any_same _ _ c.tables (λ x. any_same (misses_target less) (misses_target c) x.1.foreign (λ f. ap (λ y. not (list_any (same_names f.targets) (target_lists y))) (less_looked f.table))) ∙ sound.aimed

  less_twins : (t : Name) (x : Table) → table_has_twins x ≡ false → table_has_twins (without_index_in n t x) ≡ false
  less_twins t x h = lists_less (λ ns. has_equals (map (picked x.columns ns) x.rows)) (map (λ (k : Key). k.columns) (key_list x.key)) (map (λ (u : Unique). u.columns) x.uniques) _ _ _ _ (λ e. e) (λ e. e) (index_less (λ i. is_named n (beside t i.name)) _ x.indexes) h

  less_found : IsFound [] less no_faults
  less_found = quiet_found false [] less
      (any-map (λ (x : Name × Table). table_has_null x.1) (λ (x : Name × Table). (x.0, without_index_in n x.0 x.1)) c.tables ∙ sound.no_null)
      (any-map (λ (x : Name × Table). table_has_twins x.1) (λ (x : Name × Table). (x.0, without_index_in n x.0 x.1)) c.tables ∙ any_less _ (λ (x : Name × Table). table_has_twins x.1) c.tables (λ x h. less_twins x.0 x.1 h) sound.no_twins)
      (any-map (λ (x : Name × Table). has_orphan less x.1) (λ (x : Name × Table). (x.0, without_index_in n x.0 x.1)) c.tables
      ∙ any_same _ _ c.tables (λ x. any_same _ _ x.1.foreign (λ f. any_same (lacks_parent less x.1.columns f) (lacks_parent c x.1.columns f) x.1.rows (λ r. ap (λ y. lacks_at y f (picked x.1.columns f.columns r)) (less_looked f.table)))) ∙ sound.parents)
      (any-map (λ (x : Name × Table). is_full x.1) (λ (x : Name × Table). (x.0, without_index_in n x.0 x.1)) c.tables ∙ sound.small)

pub drop_any_index_judged : (by : By) (d : Dialect) (n : Name) (c : Catalogue) → IsSound d c → decide (drop_index by d n None c) ≡ judged (drop_index by d n None c) no_faults
drop_any_index_judged by d n c sound = judge (drop_index by d n None c) no_faults (λ first. less_aimed d c n sound) (λ free. less_found d c n sound)
