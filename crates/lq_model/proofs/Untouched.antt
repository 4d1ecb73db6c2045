-- Columns of a table that nothing else names.
use Rattle.std.proofs.Common.{ap, sym, ◌∙◌}
use Rattle.std.specs.List.{list_all, list_any}
use Rattle.std.specs.Prelude.{Bool, List, Some, [], false, not, refl, true, ◌&&◌, ◌||◌, ◌∷◌, ◌≡◌}
use Rattle.lq_base.specs.Name.{is_named}
use Rattle.lq_base.specs.declared.dialect.Dialect.{Dialect}
use Rattle.lq_base.specs.declared.name.Name.{Name}
use Rattle.lq_model.specs.Catalogue.{Catalogue, Table, View, table_of, the_table, is_empty, is_in, repeats, same_names, column_lists, column_names, has_column, target_lists}
use Rattle.lq_model.specs.Plan.{misses_target}
use Rattle.lq_model.specs.Sound.{IsSound, IsSoundTable, are_columns, is_view}
use Rattle.lq_model.specs.Truth.{names_in}
use Rattle.lq_model.specs.declared.constraint.ForeignKey.{ForeignKey}
use Rattle.lq_model.proofs.Lists.{and_left, and_right, any-append, any_less, any_none, not_false, or_false, or_left, or_right, same_name, true_false, whether}
use Rattle.lq_model.proofs.ViewAt.{view_at}

-- whether a view, or a foreign key, names one of these columns of the table t

abbrev pub shows : (Name → Bool) → Name → View → Bool
shows q t v = is_named t v.query.table && (list_any q v.columns || list_any q (names_in v.query.test))

abbrev pub aims : (Name → Bool) → Name → ForeignKey → Bool
aims q t f = is_named t f.table && list_any q f.targets

pub record IsUntouched (c : Catalogue) (t : Name) (q : Name → Bool) : Type 0 where
  pub shown : list_any (λ e. shows q t e.1) c.views ≡ false
  pub aimed : list_any (λ e. list_any (aims q t) e.1.foreign) c.tables ≡ false
  pub own : list_any (λ f. list_any q f.columns) (the_table c t).foreign ≡ false

-- none of them among columns that are there
none_touched : (q : Name → Bool) (ns ms : List Name) → ((m : Name) → q m ≡ true → is_in m ns ≡ false) → list_all (λ m. is_in m ns) ms ≡ true → list_any q ms ≡ false
none_touched q ns ms out all = any_none q (λ m. is_in m ns) ms (λ m there. whether (q m) (λ p. true_false there (out m p)) (λ p. p)) all

pub same_list : (ns ms : List Name) → same_names ns ms ≡ true → ns ≡ ms
same_list [] [] h = refl
same_list [] (m ∷ ms) h = true_false h refl
same_list (n ∷ ns) [] h = true_false h refl
same_list (n ∷ ns) (m ∷ ms) h = ap (λ k. k ∷ ns) (same_name n m (and_left (is_named n m) _ h)) ∙ ap (λ ks. m ∷ ks) (same_list ns ms (and_right (is_named n m) _ h))

module _ (q : Name → Bool) (it : Table) (out : (m : Name) → q m ≡ true → has_column it m ≡ false) where
  pub not_in_columns : (ns : List Name) → are_columns it ns ≡ true → list_any q ns ≡ false
  not_in_columns ns are = none_touched q (column_names it) ns out (and_right (not (repeats ns)) _ (and_right (not (is_empty ns)) _ are))

  pub not_in_lists : (d : Dialect) → IsSoundTable d it → list_any (list_any q) (column_lists it) ≡ false
  not_in_lists d sound = any_none (list_any q) (are_columns it) (column_lists it) not_in_columns sound.lists

  pub not_in_foreign : (d : Dialect) → IsSoundTable d it → list_any (λ f. list_any q f.columns) it.foreign ≡ false
  not_in_foreign d sound = any_none (λ f. list_any q f.columns) (λ f. are_columns it f.columns) it.foreign (λ f. not_in_columns f.columns) sound.foreign

  not_in_view : (v : View) → view_at (Some it) v ≡ true → (list_any q v.columns || list_any q (names_in v.query.test)) ≡ false
  unfolding view_at
  not_in_view v is =
      or_false _ _ (not_in_columns v.columns (and_left (are_columns it v.columns) _ is))
      (none_touched q (column_names it) (names_in v.query.test) out (and_left _ _ (and_right (are_columns it v.columns) _ is)))

found_among : (q : Name → Bool) (ns : List Name) (lists : List (List Name)) → list_any (same_names ns) lists ≡ true → list_any (list_any q) lists ≡ false → list_any q ns ≡ false
found_among q ns [] found none = true_false found refl
found_among q ns (ms ∷ lists) found none =
    elim (same_names ns ms) as (λ b. same_names ns ms ≡ b → (b || list_any (same_names ns) lists) ≡ true → list_any q ns ≡ false) [
      | true ↦ λ p r. ap (list_any q) (same_list ns ms p) ∙ or_left (list_any q ms) _ none
      | false ↦ λ p r. found_among q ns lists r (or_right (list_any q ms) _ none)
    ] refl found

module _ (q : Name → Bool) (d : Dialect) (c : Catalogue) (t : Name) (sound : IsSound d c) (there : table_of c t ≡ Some (the_table c t)) (out : (m : Name) → q m ≡ true → has_column (the_table c t) m ≡ false) where
  abbrev it' : Table
  it' = the_table c t

  aimed_not : (f : ForeignKey) → misses_target c f ≡ false → aims q t f ≡ false
  aimed_not f hits = elim (is_named t f.table) as (λ b. is_named t f.table ≡ b → (b && list_any q f.targets) ≡ false) [
    | true ↦ λ p. found_among q f.targets (target_lists it') (ap (λ k. list_any (same_names f.targets) (target_lists (the_table c k))) (same_name t f.table p) ∙ not_false _ hits)
        (or_left _ _ (sym (any-append (list_any q) (target_lists it') _) ∙ not_in_lists q it' out d (sound.tables t it' there)))
    | false ↦ λ p. refl
  ] refl

  shown_not : (v : View) → is_view c v ≡ true → shows q t v ≡ false
  unfolding view_at
  shown_not v is = elim (is_named t v.query.table) as (λ b. is_named t v.query.table ≡ b → (b && (list_any q v.columns || list_any q (names_in v.query.test))) ≡ false) [
    | true ↦ λ p. not_in_view q it' out v (ap (λ o. view_at o v) (sym (ap (table_of c) (sym (same_name t v.query.table p)) ∙ there)) ∙ is)
    | false ↦ λ p. refl
  ] refl

  -- columns that are not there are named by nothing
  pub unused : IsUntouched c t q
  unused = record {
    shown = any_none _ (λ e. is_view c e.1) c.views (λ e is. shown_not e.1 is) sound.views;
    aimed = any_less _ (λ e. list_any (misses_target c) e.1.foreign) c.tables (λ e h. any_less (aims q t) (misses_target c) e.1.foreign aimed_not h) sound.aimed;
    own = not_in_foreign q it' out d (sound.tables t it' there);
  }
