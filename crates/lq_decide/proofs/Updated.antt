-- UPDATE.
use Rattle.std.proofs.Common.{ap, subst, sym, ◌∙◌}
use Rattle.std.specs.FinMap.Entries.{is_sorted}
use Rattle.std.specs.List.{list_any}
use Rattle.std.specs.Map.{lookup, set_value}
use Rattle.std.specs.Prelude.{Bool, List, Option, Some, T, [], cond, false, is_some, not, refl, true, ◌&&◌, ◌||◌, ◌∷◌, ◌≡◌}
use Rattle.lq_base.specs.Name.{is_named, name_cmp}
use Rattle.lq_base.specs.declared.dialect.Dialect.{Dialect}
use Rattle.lq_base.specs.declared.literal.Literal.{Literal}
use Rattle.lq_base.specs.declared.name.Name.{Name}
use Rattle.lq_base.specs.declared.value.Value.{Value}
use Rattle.lq_model.specs.Catalogue.{Catalogue, Table, table_of, the_table, with_table, is_in, by_name, has_bad_null, has_equals, picked}
use Rattle.lq_model.specs.Kinds.{value_in}
use Rattle.lq_model.specs.Plan.{decide, lacks_parents, leaves_children, has_orphan, lacks_parent, table_has_twins, unique_lists}
use Rattle.lq_model.specs.Sound.{IsSound}
use Rattle.lq_model.specs.Truth.{takes}
use Rattle.lq_model.specs.Rows.{edited, set_all, set_in, set_value_of, update}
use Rattle.lq_model.specs.declared.caller.By.{By}
use Rattle.lq_model.specs.declared.column.Column.{Column}
use Rattle.lq_model.specs.declared.constraint.ForeignKey.{ForeignKey}
use Rattle.lq_model.specs.declared.test.Test.{Test}
use Rattle.lq_model.proofs.Decide.{here}
use Rattle.lq_model.proofs.Lists.{and_no_right, any-map, any_less, any_same, map-map, map_same, named_itself, or_left, or_right, other_way, same_name, whether}
use Rattle.lq_model.proofs.Maps.{at_lookup, below_gone, found, not_some, sorted_entries}
use Rattle.lq_model.proofs.Untouched.{aims}
use Rattle.lq_decide.specs.Faults.{are_twins, meets, names_set, set_child, set_orphan, update_faults, judged}
use Rattle.lq_decide.proofs.Judge.{judge}
use Rattle.lq_decide.proofs.Lists.{any_agree, or-false}
use Rattle.lq_decide.proofs.OneTable.{none_loose, nulls_are, old_nulls, old_twins, parentless, parents_stay, picks, same_size, twins_are}
use Rattle.lq_decide.proofs.Touched.{length_mapped}

-- what is set leaves the other columns

value_unset : (n m : Name) (v : Value) (cs : List Column) (row : List Value) → is_named n m ≡ false → by_name cs (set_in n v cs row) m ≡ by_name cs row m
value_unset n m v [] row apart = refl
value_unset n m v (c ∷ cs) [] apart = refl
value_unset n m v (c ∷ cs) (x ∷ row) apart = elim (is_named n c.name) as (λ b. is_named n c.name ≡ b → by_name (c ∷ cs) (cond b (v ∷ row) (x ∷ set_in n v cs row)) m ≡ by_name (c ∷ cs) (x ∷ row) m) [
  | true ↦ λ p.
      let other = ap (λ k. is_named m k) (sym (same_name n c.name p)) ∙ other_way n m apart in
      ap (λ b. cond b v (by_name cs row m)) other ∙ sym (ap (λ b. cond b x (by_name cs row m)) other)
  | false ↦ λ p. ap (cond (is_named m c.name) x) (value_unset n m v cs row apart)
] refl

value_kept : (sets : List (Name × Literal)) (m : Name) (cs : List Column) (row : List Value) → is_in m (names_set sets) ≡ false → by_name cs (set_all sets cs row) m ≡ by_name cs row m
value_kept [] m cs row out = refl
value_kept (s ∷ ss) m cs row out =
    value_kept ss m cs (set_in s.0 (value_in (set_value_of cs s)) cs row) (or_right (is_named m s.0) _ out)
    ∙ value_unset s.0 m (value_in (set_value_of cs s)) cs row (other_way m s.0 (or_left (is_named m s.0) _ out))

values_kept : (sets : List (Name × Literal)) (ns : List Name) (cs : List Column) (row : List Value) → meets (names_set sets) ns ≡ false → picked cs ns (set_all sets cs row) ≡ picked cs ns row
values_kept sets [] cs row out = refl
values_kept sets (n ∷ ns) cs row out =
    ap (λ v. v ∷ picked cs ns (set_all sets cs row)) (value_kept sets n cs row (or_left (is_in n (names_set sets)) _ out))
    ∙ ap (λ vs. by_name cs row n ∷ vs) (values_kept sets ns cs row (or_right (is_in n (names_set sets)) _ out))

-- the entry of a name, of which there is one
at_only : {X : Type 0} (t : Name) (p : X → Bool) (es : List (Name × X)) (x y : X) → T (is_sorted name_cmp es) → lookup (is_named t) es ≡ Some x → list_any (λ e. is_in e.0 (t ∷ []) && p e.1) (set_value (is_named t) es y) ≡ p y
at_only t p [] x y rise there = not_some (sym there)
at_only t p (e ∷ es) x y rise there = whether (is_named t e.0)
    (λ is. rw (
      is,
      subst (λ n. is_named e.0 n ≡ true) (sym (same_name t e.0 is)) (named_itself e.0),
      any_less (λ f. is_in f.0 (t ∷ []) && p f.1) (λ f. is_named t f.0) es (λ f no. ap (λ b. (b || false) && p f.1) (other_way t f.0 no))
          (sym (any-map (is_named t) (λ f. f.0) es) ∙ found t es ∙ ap (λ o. is_some o) (ap (λ n. lookup (is_named n) es) (same_name t e.0 is) ∙ below_gone e.0 es (sooner _ _ rise))),
    ) (or-false (p y)))
    (λ other. rw (other, other_way t e.0 other) (at_only t p es x y (later _ _ rise) (subst (λ b. cond b (Some e.1) (lookup (is_named t) es) ≡ Some x) other there)))
  where
    sooner : (x y : Bool) → T (x && y) → T x
    sooner true y p = tt
    sooner false y p = p

    later : (x y : Bool) → T (x && y) → T y
    later true y p = p
    later false y p = absurd p

-- entries of other names do not see what is set at a name
at_rest : {X : Type 0} (t : Name) (p : X → Bool) (es : List (Name × X)) (x y : X) → lookup (is_named t) es ≡ Some x → list_any (λ e. not (is_in e.0 (t ∷ [])) && p e.1) (set_value (is_named t) es y) ≡ list_any (λ e. not (is_in e.0 (t ∷ [])) && p e.1) es
at_rest t p [] x y there = refl
at_rest t p (e ∷ es) x y there = whether (is_named t e.0)
    (λ is. rw (is, subst (λ n. is_named e.0 n ≡ true) (sym (same_name t e.0 is)) (named_itself e.0)) refl)
    (λ other. rw (other, other_way t e.0 other) (ap (λ b. p e.1 || b) (at_rest t p es x y (subst (λ b. cond b (Some e.1) (lookup (is_named t) es) ≡ Some x) other there))))

module _ (d : Dialect) (t : Name) (sets : List (Name × Literal)) (test : Option Test) (c : Catalogue) (sound : IsSound d c) (there : table_of c t ≡ Some (the_table c t)) where
  abbrev it : Table
  it = the_table c t

  abbrev new : Table
  new = edited sets test it

  abbrev after : Catalogue
  after = with_table c t new

  abbrev q : Name → Bool
  q m = is_in m (names_set sets)

  abbrev row_after : List Value → List Value
  row_after r = cond (takes test it.columns r) (set_all sets it.columns r) r

  same : (ns : List Name) → list_any q ns ≡ false → picks new ns ≡ picks it ns
  same ns out = map-map (picked it.columns ns) row_after it.rows ∙ map_same _ _ it.rows (λ r. elim (takes test it.columns r) as (λ b. picked it.columns ns (cond b (set_all sets it.columns r) r) ≡ picked it.columns ns r) [
    | true ↦ values_kept sets ns it.columns r out
    | false ↦ refl
  ])

  -- a test that no row failed is asked of those that are set
  set_rows : (p : List Value → Bool) → list_any p it.rows ≡ false → list_any p new.rows ≡ list_any (λ r. takes test it.columns r && p (set_all sets it.columns r)) it.rows
  set_rows p none = any-map p row_after it.rows ∙ any_agree _ _ p it.rows (λ r h. elim (takes test it.columns r) as (λ b. p (cond b (set_all sets it.columns r) r) ≡ (b && p (set_all sets it.columns r))) [ true ↦ refl | false ↦ h ]) none

  twins : table_has_twins new ≡ list_any (λ ns. meets (names_set sets) ns && are_twins new ns) (unique_lists it)
  twins = any_agree _ _ (λ ns. has_equals (picks it ns)) (unique_lists it)
      (λ ns h. whether (meets (names_set sets) ns)
      (λ is. ap (λ b. b && are_twins new ns) (sym is))
      (λ out. ap has_equals (same ns out) ∙ h ∙ ap (λ b. b && are_twins new ns) (sym out)))
      (old_twins d c t sound there new)

  orphan_of : (f : ForeignKey) → list_any (lacks_parent c it.columns f) it.rows ≡ false → list_any (lacks_parent after it.columns f) new.rows ≡ set_orphan t sets test c f
  orphan_of f none = whether (aims q t f)
      (λ is. ap (λ b. cond b (list_any (lacks_parent after it.columns f) new.rows) rest) (sym is))
      (λ out. any_same (lacks_parent after it.columns f) (lacks_parent c it.columns f) new.rows (λ r. parents_stay d c t sound there new q same f out (picked it.columns f.columns r))
      ∙ set_rows (lacks_parent c it.columns f) none
      ∙ whether (meets (names_set sets) f.columns)
      (λ is. ap (λ b. b && list_any asked it.rows) (sym is))
      (λ off. any_less asked (lacks_parent c it.columns f) it.rows (λ r h. and_no_right (takes test it.columns r) _ (kept off r ∙ h)) none ∙ ap (λ b. b && list_any asked it.rows) (sym off))
      ∙ ap (λ b. cond b (list_any (lacks_parent after it.columns f) new.rows) rest) (sym out)) where
        asked : List Value → Bool
        asked r = takes test it.columns r && lacks_parent c it.columns f (set_all sets it.columns r)

        rest : Bool
        rest = meets (names_set sets) f.columns && list_any asked it.rows

        kept : meets (names_set sets) f.columns ≡ false → (r : List Value) → lacks_parent c it.columns f (set_all sets it.columns r) ≡ lacks_parent c it.columns f r
        kept off r = ap (parentless c f) (values_kept sets f.columns it.columns r off)

  orphans : lacks_parents (t ∷ []) after ≡ list_any (set_orphan t sets test c) it.foreign
  orphans = at_only t (has_orphan after) c.tables it new (sorted_entries c.tables sound.ordered) there
      ∙ any_agree _ _ (λ f. list_any (lacks_parent c it.columns f) it.rows) it.foreign orphan_of (at_lookup (is_named t) (has_orphan c) c.tables it sound.parents there)

  child_of : (e : Name × Table) → has_orphan c e.1 ≡ false → (not (is_in e.0 (t ∷ [])) && has_orphan after e.1) ≡ set_child t sets c after e
  child_of e none = ap (λ b. not (is_in e.0 (t ∷ [])) && b) (any_agree _ _ (λ f. list_any (lacks_parent c e.1.columns f) e.1.rows) e.1.foreign
      (λ f h. whether (aims q t f)
      (λ is. ap (λ b. b && list_any (lacks_parent after e.1.columns f) e.1.rows) (sym is))
      (λ out. any_same (lacks_parent after e.1.columns f) (lacks_parent c e.1.columns f) e.1.rows (λ r. parents_stay d c t sound there new q same f out (picked e.1.columns f.columns r)) ∙ h ∙ ap (λ b. b && list_any (lacks_parent after e.1.columns f) e.1.rows) (sym out)))
      none)

  children : leaves_children (t ∷ []) after ≡ list_any (set_child t sets c after) c.tables
  children = at_rest t (has_orphan after) c.tables it new there ∙ any_agree _ _ (λ e. has_orphan c e.1) c.tables child_of sound.parents

pub update_judged : (by : By) (d : Dialect) (t : Name) (sets : List (Name × Literal)) (test : Option Test) (c : Catalogue) → IsSound d c → decide (update by d t sets test c) ≡ judged (update by d t sets test c) (update_faults t sets test c)
update_judged by d t sets test c sound =
    let new = edited sets test (the_table c t) in
    judge (update by d t sets test c) (update_faults t sets test c)
    (λ first. none_loose d c t sound (here c t (or_left _ _ first.missing)) new (λ ns h. h) (λ p h. h))
    (λ all.
    let there = here c t (or_left _ _ all.missing) in
    record {
      nulls = nulls_are d c t sound there new ∙ set_rows d t sets test c sound there (has_bad_null (the_table c t).columns) (old_nulls d c t sound there new);
      twins = twins_are d c t sound there new ∙ twins d t sets test c sound there;
      orphans = orphans d t sets test c sound there;
      children = children d t sets test c sound there;
      full = same_size d c t sound there new (length_mapped _ (the_table c t).rows);
    })
