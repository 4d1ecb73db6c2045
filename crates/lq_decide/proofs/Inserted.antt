-- INSERT.
use Rattle.std.proofs.Common.{◌∙◌, ap, arith, subst, sym, unwrap_or}
use Rattle.std.proofs.lemmas.List.{length-append}
use Rattle.std.specs.List.{list_any}
use Rattle.std.specs.Prelude.{Bool, List, Some, [], false, length, map, nat_le, not, refl, suc, true, ℕ, ◌&&◌, ◌++◌, ◌||◌, ◌∷◌, ◌≡◌}
use Rattle.lq_base.specs.Name.{is_named}
use Rattle.lq_base.specs.declared.dialect.Dialect.{Dialect}
use Rattle.lq_base.specs.declared.literal.Literal.{Literal}
use Rattle.lq_base.specs.declared.name.Name.{Name}
use Rattle.lq_base.specs.declared.value.Value.{Value}
use Rattle.lq_model.specs.Catalogue.{Catalogue, Table, no_table, table_of, the_table, with_table, same_names, target_lists, has_bad_null, has_equals, is_null, picked, same_values}
use Rattle.lq_model.specs.Rows.{insert, next_of, stated, row_of}
use Rattle.lq_model.specs.Kinds.{value_in}
use Rattle.lq_model.specs.Plan.{decide, lacks_parents, leaves_children, has_null, has_orphan, has_twins, is_full, is_loose, is_overfull, lacks_parent, misses_target, most_rows, table_has_null, table_has_twins, unique_lists, is_twin}
use Rattle.lq_model.specs.Sound.{IsSound}
use Rattle.lq_model.specs.declared.column.Column.{Column}
use Rattle.lq_model.specs.declared.constraint.ForeignKey.{ForeignKey}
use Rattle.lq_model.proofs.Decide.{here}
use Rattle.lq_model.proofs.Kept.{lookup_other, the_table-with_table}
use Rattle.lq_model.proofs.Lists.{or_left, same_name, any-append, any_less, any_same, map_append_one, whether}
use Rattle.lq_model.proofs.Maps.{any-set_value, any_local, at_lookup}
use Rattle.lq_model.specs.declared.caller.By.{By}
use Rattle.lq_decide.specs.Faults.{insert_faults, is_orphan, lacks_parent_of, judged}
use Rattle.lq_decide.proofs.Judge.{judge}
use Rattle.lq_decide.proofs.Lists.{any_last, at_key, at_others, or-false}

any_or : {A : Type 0} (p q : A → Bool) (xs : List A) → list_any p xs ≡ false → list_any (λ x. p x || q x) xs ≡ list_any q xs
any_or p q [] none = refl
any_or p q (x ∷ xs) none = at (p x) none (any_or p q xs) where
  at : (b : Bool) → (b || list_any p xs) ≡ false → (list_any p xs ≡ false → list_any (λ y. p y || q y) xs ≡ list_any q xs) → ((b || q x) || list_any (λ y. p y || q y) xs) ≡ (q x || list_any q xs)
  at true none more = absurd (Prim.cc none)
  at false none more = ap (λ b. q x || b) (more none)

-- rows with one more at the end are equal where they were before, or one is equal to the last
equals_last : (rows : List (List Value)) (row : List Value) → has_equals (rows ++ row ∷ []) ≡ (has_equals rows || list_any (λ r. same_values r row) rows)
equals_last [] row = refl
equals_last (r ∷ rows) row = rw (any-append (same_values r) rows (row ∷ []), equals_last rows row, or-false (same_values r row)) (turned (list_any (same_values r) rows) (same_values r row) (has_equals rows) _) where
  turned : (a b c e : Bool) → ((a || b) || (c || e)) ≡ ((a || c) || (b || e))
  turned true b c e = refl
  turned false true true e = refl
  turned false true false e = refl
  turned false false c e = refl

module _ (it : Table) (row : List Value) where
  grown : ℕ → Table
  grown next = record it { rows = it.rows ++ row ∷ []; next = next }

  twins_in : (lists : List (List Name)) → list_any (λ ns. has_equals (map (picked it.columns ns) it.rows)) lists ≡ false
      → list_any (λ ns. has_equals (map (picked it.columns ns) (it.rows ++ row ∷ []))) lists ≡ list_any (λ ns. list_any (λ r. same_values (picked it.columns ns r) (picked it.columns ns row)) it.rows) lists
  twins_in lists none =
      any_same _ _ lists (λ ns. ap has_equals (map_append_one (picked it.columns ns) it.rows row) ∙ equals_last (map (picked it.columns ns) it.rows) (picked it.columns ns row) ∙ ap (λ b. has_equals (map (picked it.columns ns) it.rows) || b) (any-mapped ns))
      ∙ any_or (λ ns. has_equals (map (picked it.columns ns) it.rows)) _ lists none where
        any-mapped : (ns : List Name) → list_any (λ r. same_values r (picked it.columns ns row)) (map (picked it.columns ns) it.rows) ≡ list_any (λ r. same_values (picked it.columns ns r) (picked it.columns ns row)) it.rows
        any-mapped ns = go it.rows where
          go : (rs : List (List Value)) → list_any (λ r. same_values r (picked it.columns ns row)) (map (picked it.columns ns) rs) ≡ list_any (λ r. same_values (picked it.columns ns r) (picked it.columns ns row)) rs
          go [] = refl
          go (r ∷ rs) = ap (λ b. same_values (picked it.columns ns r) (picked it.columns ns row) || b) (go rs)

module _ (d : Dialect) (c : Catalogue) (t : Name) (sound : IsSound d c) (there : table_of c t ≡ Some (the_table c t)) (row : List Value) (next : ℕ) where
  abbrev it : Table
  it = the_table c t

  abbrev new : Table
  new = record it { rows = it.rows ++ row ∷ []; next = next }

  abbrev after : Catalogue
  after = with_table c t new

  other_table : (q : Name) → is_named t q ≡ false → the_table after q ≡ the_table c q
  other_table q other = ap (λ o. unwrap_or o no_table) (lookup_other t q new c.tables other)

  this_table : (q : Name) → is_named t q ≡ true → the_table after q ≡ new
  this_table q is = subst (λ n. the_table after n ≡ new) (same_name t q is) (the_table-with_table c t new there)

  old_table : (q : Name) → is_named t q ≡ true → the_table c q ≡ it
  old_table q is = subst (λ n. the_table c n ≡ it) (same_name t q is) refl

  -- the tables have the targets that they had
  targets_stay : (q : Name) → target_lists (the_table after q) ≡ target_lists (the_table c q)
  targets_stay q = whether (is_named t q) (λ is. ap target_lists (this_table q is) ∙ ap target_lists (sym (old_table q is))) (λ other. ap target_lists (other_table q other))

  loose : is_loose after ≡ false
  loose =
      any-set_value (is_named t) (λ (e : Name × Table). list_any (misses_target after) e.1.foreign) c.tables it new there (λ k. refl)
      ∙ any_same (λ (e : Name × Table). list_any (misses_target after) e.1.foreign) (λ e. list_any (misses_target c) e.1.foreign) c.tables (λ e. any_same (misses_target after) (misses_target c) e.1.foreign (λ f. ap (λ ls. not (list_any (same_names f.targets) ls)) (targets_stay f.table)))
      ∙ sound.aimed

  nulls : has_null after ≡ has_bad_null it.columns row
  nulls = any_local (is_named t) table_has_null c.tables it new there sound.no_null ∙ any_last (has_bad_null it.columns) it.rows row (at_lookup (is_named t) table_has_null c.tables it sound.no_null there)

  twins : has_twins after ≡ is_twin it row
  twins = any_local (is_named t) table_has_twins c.tables it new there sound.no_twins ∙ twins_in it row (unique_lists it) (at_lookup (is_named t) table_has_twins c.tables it sound.no_twins there)

  full : is_overfull after ≡ not (nat_le (suc (length it.rows)) most_rows)
  full = any_local (is_named t) is_full c.tables it new there sound.small ∙ ap (λ n. not (nat_le n most_rows)) (omega (arith, length-append it.rows (row ∷ [])))

  -- a row's parent may be the new row too

  parents_grow : (q : Name) (own : List Value) (ns : List Name) → list_any (λ r. same_values own (picked (the_table after q).columns ns r)) (the_table after q).rows
      ≡ (list_any (λ r. same_values own (picked (the_table c q).columns ns r)) (the_table c q).rows || (is_named t q && same_values own (picked it.columns ns row)))
  parents_grow q own ns = whether (is_named t q)
      (λ is. rw (this_table q is, old_table q is, is) (any-append (λ r. same_values own (picked it.columns ns r)) it.rows (row ∷ []) ∙ ap (λ b. list_any (λ r. same_values own (picked it.columns ns r)) it.rows || b) (or-false _)))
      (λ other. rw (other_table q other, other) (sym (or-false _)))

  lacks_of : (f : ForeignKey) → lacks_parent after it.columns f row ≡ lacks_parent_of c t it row f
  lacks_of f = ap (λ b. not (list_any is_null (picked it.columns f.columns row)) && not b) (parents_grow f.table (picked it.columns f.columns row) f.targets)

  still : (cs : List Column) (f : ForeignKey) (r : List Value) → lacks_parent c cs f r ≡ false → lacks_parent after cs f r ≡ false
  still cs f r none = ap (λ b. not (list_any is_null (picked cs f.columns r)) && not b) (parents_grow f.table (picked cs f.columns r) f.targets) ∙ less (not (list_any is_null (picked cs f.columns r))) _ _ none where
    less : (n a b : Bool) → (n && not a) ≡ false → (n && not (a || b)) ≡ false
    less n true b h = h
    less n false b h = rw (h2 n h) refl where
      h2 : (n : Bool) → (n && true) ≡ false → n ≡ false
      h2 false h = refl
      h2 true h = h

  still_all : (x : Table) → has_orphan c x ≡ false → has_orphan after x ≡ false
  still_all x none = any_less (λ f. list_any (lacks_parent after x.columns f) x.rows) (λ f. list_any (lacks_parent c x.columns f) x.rows) x.foreign (λ f no_f. any_less (lacks_parent after x.columns f) (lacks_parent c x.columns f) x.rows (λ r. still x.columns f r) no_f) none

  none_left : list_any (λ (e : Name × Table). has_orphan after e.1) c.tables ≡ false
  none_left = any_less (λ (e : Name × Table). has_orphan after e.1) (λ e. has_orphan c e.1) c.tables (λ e. still_all e.1) sound.parents

  own_orphan : has_orphan after new ≡ is_orphan c t it row
  own_orphan =
      any_same (λ f. list_any (lacks_parent after it.columns f) (it.rows ++ row ∷ [])) (λ f. list_any (lacks_parent after it.columns f) it.rows || lacks_parent after it.columns f row) it.foreign (λ f. any-append (lacks_parent after it.columns f) it.rows (row ∷ []) ∙ ap (λ b. list_any (lacks_parent after it.columns f) it.rows || b) (or-false _))
      ∙ any_or (λ f. list_any (lacks_parent after it.columns f) it.rows) (λ f. lacks_parent after it.columns f row) it.foreign (still_all it (at_lookup (is_named t) (has_orphan c) c.tables it sound.parents there))
      ∙ any_same (λ f. lacks_parent after it.columns f row) (lacks_parent_of c t it row) it.foreign lacks_of

  parents : lacks_parents (t ∷ []) after ≡ is_orphan c t it row
  parents = at_key t (has_orphan after) c.tables it new there none_left ∙ own_orphan

  children : leaves_children (t ∷ []) after ≡ false
  children = at_others t (has_orphan after) c.tables new none_left

pub insert_judged : (by : By) (d : Dialect) (t : Name) (ns : List Name) (ls : List Literal) (c : Catalogue) → IsSound d c → decide (insert by d t ns ls c) ≡ judged (insert by d t ns ls c) (insert_faults t ns ls c)
insert_judged by d t ns ls c sound =
    let it = the_table c t in
    let row = map value_in (row_of (stated it ns) ls it) in
    let next = next_of d (stated it ns) it.columns row it.next in
    judge (insert by d t ns ls c) (insert_faults t ns ls c)
    (λ first. loose d c t sound (here c t (or_left _ _ first.missing)) row next)
    (λ all.
    let there = here c t (or_left _ _ all.missing) in
    record {
      nulls = nulls d c t sound there row next;
      twins = twins d c t sound there row next;
      orphans = parents d c t sound there row next;
      children = children d c t sound there row next;
      full = full d c t sound there row next;
    })
