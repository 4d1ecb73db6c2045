-- What adds or drops a key, a unique constraint, a foreign key or an index.
use Rattle.std.proofs.Common.{ap, sym, ◌∙◌}
use Rattle.std.specs.List.{filter, list_any}
use Rattle.std.specs.Prelude.{Bool, List, None, Option, Some, [], cond, false, is_some, map, not, refl, true, ◌&&◌, ◌++◌, ◌||◌, ◌∷◌, ◌≡◌}
use Rattle.lq_base.specs.Name.{is_named}
use Rattle.lq_base.specs.declared.dialect.Dialect.{Dialect}
use Rattle.lq_base.specs.declared.name.Name.{Name}
use Rattle.lq_model.specs.Constraints.{add_foreign_key, add_primary_key, add_unique, create_index, with_foreign, with_index, with_key, with_unique, drop_constraint, drop_foreign_key, drop_index, drop_primary_key, drop_unique, uniques_without, without_constraint, without_foreign, without_index, without_its_key, without_key, without_unique}
use Rattle.lq_model.specs.Catalogue.{Catalogue, Table, table_of, the_table, with_table, is_in, same_names, picked, has_column, key_list, target_lists}
use Rattle.lq_model.specs.Tables.{key_column}
use Rattle.lq_model.specs.Plan.{decide, lacks_parent, misses_target, table_has_twins, unique_lists}
use Rattle.lq_model.specs.Sound.{IsSound}
use Rattle.lq_model.specs.declared.caller.By.{By}
use Rattle.lq_model.specs.declared.column.Column.{Column}
use Rattle.lq_model.specs.declared.constraint.ForeignKey.{ForeignKey}
use Rattle.lq_model.specs.declared.constraint.Key.{Key}
use Rattle.lq_model.specs.declared.constraint.Unique.{Unique}
use Rattle.lq_model.specs.declared.index.Index.{Index}
use Rattle.lq_model.proofs.AddKeeps.{no_option}
use Rattle.lq_model.proofs.Decide.{here}
use Rattle.lq_model.proofs.DropKeeps.{any_filtered}
use Rattle.lq_model.proofs.Kept.{and_never, never, nothing_touched}
use Rattle.lq_model.proofs.Lists.{all_none, any-append, any-map, any_less, append-nil, filter-append, map_append_one, map_same, or_false, or_left, or_right, true_false, whether}
use Rattle.lq_decide.specs.Faults.{add_foreign_key_faults, add_primary_key_faults, add_unique_faults, are_twins, create_index_faults, less_faults, no_faults, judged}
use Rattle.lq_decide.proofs.Judge.{judge}
use Rattle.lq_decide.proofs.Lists.{any_last, or-false}
use Rattle.lq_decide.proofs.Nulls.{by_name_stays, rows_null}
use Rattle.lq_decide.proofs.OneTable.{hits_still, lacks_still, loose_is, loses, no_children, none_loose, nulls_are, old_aimed, old_nulls, old_orphans, old_table, old_twins, orphans_are, other_table, picks, same_size, this_table, twins_are}
use Rattle.lq_decide.proofs.SameRows.{one_twin, same_found, same_twins}

at_end : {A : Type 0} (p : A → Bool) (xs ys : List A) (y : A) → list_any p (xs ++ ys) ≡ false → list_any p (xs ++ (ys ++ y ∷ [])) ≡ p y
at_end p xs ys y none =
    let both = sym (any-append p xs ys) ∙ none in
    any-append p xs (ys ++ y ∷ []) ∙ ap (λ b. b || list_any p (ys ++ y ∷ [])) (or_left (list_any p xs) _ both) ∙ any_last p ys y (or_right (list_any p xs) _ both)

or_true_right : (a b : Bool) → b ≡ true → (a || b) ≡ true
or_true_right true b h = refl
or_true_right false b h = h

key_name : (k : Key) (x : Column) → (key_column (Some k) x).name ≡ x.name
key_name k x = elim (is_in x.name k.columns) as (λ b. (let y : Column = cond (b || false) (record x { nullable = false }) x in y).name ≡ x.name) [ true ↦ refl | false ↦ refl ]

key_firm : (k : Key) (x : Column) → is_in x.name k.columns ≡ true → (key_column (Some k) x).nullable ≡ false
key_firm k x h = ap (λ b. (let y : Column = cond (b || false) (record x { nullable = false }) x in y).nullable) h

key_other : (k : Key) (x : Column) → is_in x.name k.columns ≡ false → (key_column (Some k) x).nullable ≡ x.nullable
key_other k x h = ap (λ b. (let y : Column = cond (b || false) (record x { nullable = false }) x in y).nullable) h

or_more : (a b e : Bool) → (a || b) ≡ true → (a || (b || e)) ≡ true
or_more true b e h = refl
or_more false true e h = refl
or_more false false e h = true_false refl (sym h)

-- one list at the end of the key's and the unique constraints' lists, before those of the indexes
module _ (p : List Name → Bool) (keys us : List (List Name)) (u : List Name) where
  list_more : list_any p (keys ++ us) ≡ true → list_any p (keys ++ (us ++ u ∷ [])) ≡ true
  list_more h = any-append p keys (us ++ u ∷ []) ∙ ap (λ b. list_any p keys || b) (any-append p us (u ∷ [])) ∙ or_more (list_any p keys) (list_any p us) (p u || false) (sym (any-append p keys us) ∙ h)

  list_last : (is : List (List Name)) → list_any p ((keys ++ us) ++ is) ≡ false → list_any p ((keys ++ (us ++ u ∷ [])) ++ is) ≡ p u
  list_last is none =
      let all = sym (any-append p (keys ++ us) is) ∙ none in
      let lists = sym (any-append p keys us) ∙ or_left (list_any p (keys ++ us)) _ all in
      any-append p (keys ++ (us ++ u ∷ [])) is
      ∙ ap (λ b. b || list_any p is) (any-append p keys (us ++ u ∷ []) ∙ ap (λ b. b || list_any p (us ++ u ∷ [])) (or_left (list_any p keys) _ lists) ∙ any_last p us u (or_right (list_any p keys) _ lists))
      ∙ ap (λ b. p u || b) (or_right (list_any p (keys ++ us)) _ all) ∙ or-false (p u)

-- what is found nowhere is found in no less
pub index_less : (named : Index → Bool) (p : List Name → Bool) (is : List Index) → list_any p (map (λ i. i.columns) (filter (λ i. i.unique) is)) ≡ false → list_any p (map (λ i. i.columns) (filter (λ i. i.unique) (filter (λ i. not (named i)) is))) ≡ false
index_less named p [] h = refl
index_less named p (i ∷ is) h = whether i.unique
    (λ u. let g = ap (λ b. list_any p (map (λ i. i.columns) (cond b (i ∷ filter (λ i. i.unique) is) (filter (λ i. i.unique) is)))) (sym u) ∙ h in
    elim (named i) as (λ b. list_any p (map (λ i. i.columns) (filter (λ i. i.unique) (cond (not b) (i ∷ filter (λ i. not (named i)) is) (filter (λ i. not (named i)) is)))) ≡ false) [
      | true ↦ index_less named p is (or_right (p i.columns) _ g)
      | false ↦ rw (u) (or_false _ _ (or_left (p i.columns) _ g) (index_less named p is (or_right (p i.columns) _ g)))
    ])
    (λ u. let g = ap (λ b. list_any p (map (λ i. i.columns) (cond b (i ∷ filter (λ i. i.unique) is) (filter (λ i. i.unique) is)))) (sym u) ∙ h in
    elim (named i) as (λ b. list_any p (map (λ i. i.columns) (filter (λ i. i.unique) (cond (not b) (i ∷ filter (λ i. not (named i)) is) (filter (λ i. not (named i)) is)))) ≡ false) [
      | true ↦ index_less named p is g
      | false ↦ rw (u) (index_less named p is g)
    ])

-- the lists of a table in three parts, of which the first two become less
pub lists_less : (p : List Name → Bool) (a b e x y z : List (List Name)) → (list_any p a ≡ false → list_any p x ≡ false) → (list_any p b ≡ false → list_any p y ≡ false) → (list_any p e ≡ false → list_any p z ≡ false) → list_any p ((a ++ b) ++ e) ≡ false → list_any p ((x ++ y) ++ z) ≡ false
lists_less p a b e x y z f g h none =
    let all = sym (any-append p (a ++ b) e) ∙ none in
    let two = sym (any-append p a b) ∙ or_left (list_any p (a ++ b)) _ all in
    any-append p (x ++ y) z ∙ or_false _ _ (any-append p x y ∙ or_false _ _ (f (or_left (list_any p a) _ two)) (g (or_right (list_any p a) _ two))) (h (or_right (list_any p (a ++ b)) _ all))

uniques_less : (n : Name) (p : List Name → Bool) (us : List Unique) → list_any p (map (λ u. u.columns) us) ≡ false → list_any p (map (λ u. u.columns) (uniques_without n us)) ≡ false
uniques_less n p us h = any-map p (λ (u : Unique). u.columns) (uniques_without n us) ∙ any_filtered (λ u. p u.columns) _ us (sym (any-map p (λ (u : Unique). u.columns) us) ∙ h)

key_less : (n : Name) (p : List Name → Bool) (o : Option Key) → list_any p (map (λ k. k.columns) (key_list o)) ≡ false → list_any p (map (λ k. k.columns) (key_list (without_key n o))) ≡ false
key_less n p None h = refl
key_less n p (Some k) h = elim (is_named n k.name) as (λ b. list_any p (map (λ (k : Key). k.columns) (key_list (cond b None (Some k)))) ≡ false) [ true ↦ refl | false ↦ h ]

module _ (by : By) (d : Dialect) (t : Name) (c : Catalogue) (sound : IsSound d c) where
  abbrev it : Table
  it = the_table c t

  abbrev keys : List (List Name)
  keys = map (λ k. k.columns) (key_list it.key)

  abbrev uniques : List (List Name)
  uniques = map (λ u. u.columns) it.uniques

  abbrev indexes : List (List Name)
  indexes = map (λ i. i.columns) (filter (λ i. i.unique) it.indexes)

  pub add_unique_judged : (u : Unique) → decide (add_unique by d t u c) ≡ judged (add_unique by d t u c) (add_unique_faults t u c)
  add_unique_judged u =
      let new = with_unique u it in
      let lists = map_append_one (λ (x : Unique). x.columns) it.uniques u in
      judge (add_unique by d t u c) (add_unique_faults t u c)
      (λ first. none_loose d c t sound (here c t (or_left _ _ first.missing)) new (λ ns h. ap (λ us. list_any (same_names ns) (keys ++ us)) lists ∙ list_more (same_names ns) keys uniques u.columns h) (λ p h. h))
      (λ free.
      let there = here c t (or_left _ _ free.missing) in
      same_found d c t sound there new (λ ns. refl) refl _ _ _ (old_nulls d c t sound there new)
      (one_twin d c t sound there new (λ ns. refl) refl u.columns (λ p none. ap (λ us. list_any p ((keys ++ us) ++ indexes)) lists ∙ list_last p keys uniques u.columns indexes none)) (λ p h. h))

  pub create_index_judged : (i : Index) → decide (create_index by d t i c) ≡ judged (create_index by d t i c) (create_index_faults t i c)
  create_index_judged i =
      let new = with_index i it in
      judge (create_index by d t i c) (create_index_faults t i c)
      (λ first. none_loose d c t sound (here c t (or_left _ _ first.missing)) new (λ ns h. h) (λ p h. h))
      (λ free.
      let there = here c t (or_left _ _ free.missing) in
      same_found d c t sound there new (λ ns. refl) refl _ _ _ (old_nulls d c t sound there new) (twins there) (λ p h. h)) where
        twins : (there : table_of c t ≡ Some it) → table_has_twins (with_index i it) ≡ (i.unique && are_twins it i.columns)
        twins there = whether i.unique
            (λ u. one_twin d c t sound there (with_index i it) (λ ns. refl) refl i.columns (λ p none.
            ap (λ is. list_any p (target_lists it ++ map (λ i. i.columns) is)) (filter-append (λ i. i.unique) it.indexes (i ∷ []) ∙ ap (λ b. filter (λ i. i.unique) it.indexes ++ cond b (i ∷ []) []) u)
            ∙ ap (λ is. list_any p (target_lists it ++ is)) (map_append_one (λ i. i.columns) (filter (λ i. i.unique) it.indexes) i)
            ∙ at_end p (target_lists it) indexes i.columns none) ∙ ap (λ b. b && are_twins it i.columns) (sym u))
            (λ u. same_twins d c t sound there (with_index i it) (λ ns. refl) refl (λ p none.
            ap (λ is. list_any p (target_lists it ++ map (λ i. i.columns) is)) (filter-append (λ i. i.unique) it.indexes (i ∷ []) ∙ ap (λ b. filter (λ i. i.unique) it.indexes ++ cond b (i ∷ []) []) u ∙ append-nil (filter (λ i. i.unique) it.indexes)) ∙ none) ∙ ap (λ b. b && are_twins it i.columns) (sym u))

  pub add_foreign_key_judged : (f : ForeignKey) → decide (add_foreign_key by d t f c) ≡ judged (add_foreign_key by d t f c) (add_foreign_key_faults t f c)
  add_foreign_key_judged f =
      let new = with_foreign f it in
      let none : Name → Bool = λ m. false in
      judge (add_foreign_key by d t f c) (add_foreign_key_faults t f c)
      (λ first.
      let there = here c t (or_left _ _ first.missing) in
      let still = hits_still d c t sound there new (λ ns h. h) in
      loose_is d c t sound there new (λ ns h. h)
      ∙ any_last (misses_target (with_table c t new)) it.foreign f (any_less (misses_target (with_table c t new)) (misses_target c) it.foreign still (old_aimed d c t sound there new))
      ∙ same_target there f)
      (λ free.
      let there = here c t (or_left _ _ free.missing) in
      let quiet = nothing_touched c t in
      record {
        nulls = nulls_are d c t sound there new ∙ old_nulls d c t sound there new;
        twins = twins_are d c t sound there new ∙ old_twins d c t sound there new;
        orphans = orphans_are d c t sound there new none quiet (λ ns h. refl)
            ∙ any_last (λ g. list_any (lacks_parent (with_table c t new) it.columns g) it.rows) it.foreign f (old_orphans d c t sound there new none quiet (λ ns h. refl))
            ∙ lacks_still d c t sound there new none quiet (λ ns h. refl) f (ap (λ b. is_named t f.table && b) (never f.targets) ∙ and_never (is_named t f.table)) (never f.columns);
        children = no_children d c t sound there new none quiet (λ ns h. refl);
        full = same_size d c t sound there new refl;
      }) where
        same_target : (there : table_of c t ≡ Some it) (f : ForeignKey) → misses_target (with_table c t (with_foreign f it)) f ≡ misses_target c f
        same_target there f = whether (is_named t f.table)
            (λ is. ap (λ x. not (list_any (same_names f.targets) (target_lists x))) (this_table d c t sound there (with_foreign f it) f.table is) ∙ ap (λ x. not (list_any (same_names f.targets) (target_lists x))) (sym (old_table d c t sound there (with_foreign f it) f.table is)))
            (λ other. ap (λ x. not (list_any (same_names f.targets) (target_lists x))) (other_table d c t sound there (with_foreign f it) f.table other))

  pub drop_constraint_judged : (n : Name) → decide (drop_constraint by d t n c) ≡ judged (drop_constraint by d t n c) (less_faults t (without_constraint n it) c)
  drop_constraint_judged n =
      let new = without_constraint n it in
      judge (drop_constraint by d t n c) (less_faults t new c)
      (λ first. loses d c t sound (here c t (or_left _ _ first.missing)) new (λ p h. any_filtered p _ it.foreign h))
      (λ free.
      let there = here c t (or_left _ _ free.missing) in
      same_found d c t sound there new (λ ns. refl) refl _ _ _ (old_nulls d c t sound there new)
      (same_twins d c t sound there new (λ ns. refl) refl (λ p h. lists_less p keys uniques indexes _ _ _ (key_less n p it.key) (uniques_less n p it.uniques) (λ e. e) h)) (λ p h. any_filtered p _ it.foreign h))

  pub drop_primary_key_judged : decide (drop_primary_key by d t c) ≡ judged (drop_primary_key by d t c) (less_faults t (without_its_key it) c)
  drop_primary_key_judged =
      let new = without_its_key it in
      judge (drop_primary_key by d t c) (less_faults t new c)
      (λ first. loses d c t sound (here c t (or_left _ _ first.missing)) new (λ p h. h))
      (λ free.
      let there = here c t (or_left _ _ free.missing) in
      same_found d c t sound there new (λ ns. refl) refl _ _ _ (old_nulls d c t sound there new)
      (same_twins d c t sound there new (λ ns. refl) refl (λ p h. lists_less p keys uniques indexes [] uniques indexes (λ e. refl) (λ e. e) (λ e. e) h)) (λ p h. h))

  pub drop_unique_judged : (n : Name) → decide (drop_unique by d t n c) ≡ judged (drop_unique by d t n c) (less_faults t (without_unique n it) c)
  drop_unique_judged n =
      let new = without_unique n it in
      judge (drop_unique by d t n c) (less_faults t new c)
      (λ first. loses d c t sound (here c t (or_left _ _ first.missing)) new (λ p h. h))
      (λ free.
      let there = here c t (or_left _ _ free.missing) in
      same_found d c t sound there new (λ ns. refl) refl _ _ _ (old_nulls d c t sound there new)
      (same_twins d c t sound there new (λ ns. refl) refl (λ p h. lists_less p keys uniques indexes keys _ indexes (λ e. e) (uniques_less n p it.uniques) (λ e. e) h)) (λ p h. h))

  pub drop_foreign_key_judged : (n : Name) → decide (drop_foreign_key by d t n c) ≡ judged (drop_foreign_key by d t n c) no_faults
  drop_foreign_key_judged n =
      let new = without_foreign n it in
      let fewer : (p : ForeignKey → Bool) → list_any p it.foreign ≡ false → list_any p new.foreign ≡ false = λ p h. any_filtered p _ it.foreign h in
      judge (drop_foreign_key by d t n c) no_faults
      (λ first. none_loose d c t sound (here c t (or_left _ _ first.missing)) new (λ ns h. h) fewer)
      (λ free.
      let there = here c t (or_left _ _ free.missing) in
      same_found d c t sound there new (λ ns. refl) refl _ _ _ (old_nulls d c t sound there new) (old_twins d c t sound there new) fewer)

  pub drop_index_judged : (n : Name) → decide (drop_index by d n (Some t) c) ≡ judged (drop_index by d n (Some t) c) no_faults
  drop_index_judged n =
      let new = without_index n it in
      judge (drop_index by d n (Some t) c) no_faults
      (λ first. none_loose d c t sound (here c t (or_left _ _ first.missing)) new (λ ns h. h) (λ p h. h))
      (λ free.
      let there = here c t (or_left _ _ free.missing) in
      same_found d c t sound there new (λ ns. refl) refl _ _ _ (old_nulls d c t sound there new)
      (same_twins d c t sound there new (λ ns. refl) refl (λ p h. lists_less p keys uniques indexes keys uniques _ (λ e. e) (λ e. e) (index_less (λ i. is_named n i.name) p it.indexes) h)) (λ p h. h))

  pub add_primary_key_judged : (k : Key) → decide (add_primary_key by d t k c) ≡ judged (add_primary_key by d t k c) (add_primary_key_faults t k c)
  add_primary_key_judged k =
      let new = with_key k it in
      let stays : (x : Column) → (key_column (Some k) x).name ≡ x.name = λ x. key_name k x in
      let same : (ns : List Name) → picks new ns ≡ picks it ns = λ ns. map_same (picked new.columns ns) (picked it.columns ns) it.rows (λ r. map_same _ _ ns (λ n. by_name_stays (key_column (Some k)) stays it.columns r n)) in
      judge (add_primary_key by d t k c) (add_primary_key_faults t k c)
      (λ first. none_loose d c t sound (here c t (or_left _ _ first.missing)) new (λ ns h. with_front (same_names ns) k.columns (key_gone it.key (or_left _ _ first.exists)) h) (λ p h. h))
      (λ free.
      let there = here c t (or_left _ _ free.missing) in
      let fine = sound.tables t it there in
      let gone = key_gone it.key (or_left _ _ free.exists) in
      same_found d c t sound there new same refl _ _ _
      (rows_null (key_column (Some k)) k.columns (λ x h. key_firm k x h) (λ x h. key_other k x h) it.columns it.rows fine.differ (all_none (has_column it) k.columns (or_right _ _ free.missing)) fine.rows (old_nulls d c t sound there new))
      (one_twin d c t sound there new same refl k.columns (λ p none. front_is p k.columns gone none)) (λ p h. h)) where
        key_gone : (o : Option Key) → is_some o ≡ false → o ≡ None
        key_gone = no_option

        with_front : (p : List Name → Bool) (ns : List Name) → it.key ≡ None → list_any p (target_lists it) ≡ true → (p ns || list_any p uniques) ≡ true
        with_front p ns gone h = or_true_right (p ns) _ (ap (λ o. list_any p (map (λ (k : Key). k.columns) (key_list o) ++ uniques)) (sym gone) ∙ h)

        front_is : (p : List Name → Bool) (ns : List Name) → it.key ≡ None → list_any p (unique_lists it) ≡ false → (p ns || list_any p (uniques ++ indexes)) ≡ p ns
        front_is p ns gone none = ap (λ b. p ns || b) (ap (λ o. list_any p ((map (λ (k : Key). k.columns) (key_list o) ++ uniques) ++ indexes)) (sym gone) ∙ none) ∙ or-false (p ns)
