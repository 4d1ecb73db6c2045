-- The edges by all foreign keys are those to the rows that go with a row.
use Rattle.std.proofs.Common.{ap, arith, subst, sym, unwrap_or, ◌∙◌}
use Rattle.std.proofs.lemmas.Bool.{eqb-true}
use Rattle.std.specs.FinMap.Entries.{below_all, is_sorted}
use Rattle.std.specs.List.{flat_map, list_all, list_any}
use Rattle.std.specs.Map.{lookup}
use Rattle.std.specs.Prelude.{Bool, List, None, Option, Some, T, [], cond, false, length, map, refl, slice_get, true, ℕ, ◌&&◌, ◌+◌, ◌++◌, ◌<◌, ◌==◌, ◌||◌, ◌∷◌, ◌≡◌}
use Rattle.lq_base.specs.Name.{is_named, name_cmp}
use Rattle.lq_base.specs.declared.name.Name.{Name}
use Rattle.lq_base.specs.declared.value.Value.{Value}
use Rattle.lq_model.specs.Catalogue.{Catalogue, Table, no_table, the_table, has_equals, picked, same_values}
use Rattle.lq_model.specs.Plan.{misses_target}
use Rattle.lq_model.specs.Truth.{takes}
use Rattle.lq_model.specs.declared.column.Column.{Column}
use Rattle.lq_model.specs.declared.constraint.ForeignKey.{ForeignKey}
use Rattle.lq_model.specs.declared.test.Test.{Test}
use Rattle.lq_model.proofs.Kept.{never}
use Rattle.lq_model.proofs.Lists.{and_no_right, any-append, any_less, map-map, or_false, or_left, or_right, same_name, true_false, whether}
use Rattle.lq_model.proofs.Maps.{below_gone, not_some, sorted_entries}
use Rattle.std.proofs.lemmas.List.{length-append, map-append}
use Rattle.lq_deletes.specs.Places.{MarkRows, taken_in, Gains, is_place, key_linked, keys_linked, last_with, linked, or_else, parent_in, tables_linked, Named, all_rows, row_total, rows_in, are_below, is_marked, IsLinked, is_taken}
use Rattle.lq_deletes.proofs.Among.{alike}
use Rattle.lq_deletes.proofs.Descent.{AreCascades, at_table, cascades_to, has_twin_targets, named_rows, unique}
use Rattle.lq_deletes.proofs.Numbered.{edges_below, get_within, item_at, item_before, item_get, marked_by, numbered_at, or_none, passes, passes_append, passes_both, passes_map, passes_none, passes_same}
use Rattle.lq_deletes.proofs.Staying.{Found, all_found, back, front}
use Rattle.lq_deletes.proofs.Thinned.{as_many}

abbrev named : Name → List Value → Named
named n row = (n, row)

many : (n k : ℕ) (m : Name) (rows : List (List Value)) → k ≡ n + length rows → k ≡ n + length (named_rows m rows)
many n k m rows is = is ∙ ap (λ l. n + l) (sym (as_many (named m) rows))

same_sum : (n : ℕ) (rows : List (List Value)) → n + length rows ≡ n + length rows
same_sum n rows = refl

pub total_is : (es : List (Name × Table)) → length (rows_in es) ≡ row_total es
total_is [] = refl
total_is (e ∷ es) =
    let a = length-append (named_rows e.0 e.1.rows) (rows_in es) in
    let b = as_many (named e.0) e.1.rows in
    let d = total_is es in
    a ∙ ap (λ n. n + length (rows_in es)) b ∙ ap (λ n. length e.1.rows + n) d

-- the rows that the statement takes

taken_rows : (t : Name) (test : Option Test) (cs : List Column) (es : List (Name × Table)) → flat_map (taken_in t test cs) es ≡ map (λ a. is_named t a.0 && takes test cs a.1) (rows_in es)
taken_rows t test cs [] = refl
taken_rows t test cs (e ∷ es) =
    ap (λ ms. ms ++ flat_map (taken_in t test cs) es) (sym (map-map (λ (a : Named). is_named t a.0 && takes test cs a.1) (named e.0) e.1.rows))
    ∙ ap (λ ms. map (λ (a : Named). is_named t a.0 && takes test cs a.1) (named_rows e.0 e.1.rows) ++ ms) (taken_rows t test cs es)
    ∙ sym (map-append (λ (a : Named). is_named t a.0 && takes test cs a.1) (named_rows e.0 e.1.rows) (rows_in es))

pub taken_marks : (t : Name) (test : Option Test) (c : Catalogue) (marks : List Bool) → marks ≡ flat_map (taken_in t test (the_table c t).columns) c.tables → MarkRows c marks (is_taken t test c)
taken_marks t test c marks are x a at = ap (λ ms. is_marked ms x) (are ∙ taken_rows t test (the_table c t).columns c.tables) ∙ marked_by (is_taken t test c) (all_rows c) x a at

pub taken_total : (t : Name) (test : Option Test) (cs : List Column) (es : List (Name × Table)) → length (flat_map (taken_in t test cs) es) ≡ row_total es
taken_total t test cs es = ap length (taken_rows t test cs es) ∙ as_many (λ (a : Named). is_named t a.0 && takes test cs a.1) (rows_in es) ∙ total_is es

-- the number of the row with some values, where there is one such row

none_with : (n : ℕ) (v : List Value) (ks : List (List Value)) → list_any (same_values v) ks ≡ false → last_with n v ks ≡ None
none_with n v [] none = refl
none_with n v (k ∷ ks) none =
    ap (λ o. or_else o (cond (same_values v k) (Some n) None)) (none_with (n + 1) v ks (or_right (same_values v k) _ none))
    ∙ ap (λ b. or_else None (cond b (Some n) None)) (or_left (same_values v k) _ none)

or_nothing : (o : Option ℕ) → or_else o None ≡ o
or_nothing None = refl
or_nothing (Some n) = refl

last_alone : (n : ℕ) (v : List Value) (ks : List (List Value)) (x : ℕ) → has_equals ks ≡ false → is_place (last_with n v ks) x ≡ passes (same_values v) (item_at n ks x)
last_alone n v [] x apart = refl
last_alone n v (k ∷ ks) x apart = whether (same_values v k)
    (λ same.
    let gone = any_less (same_values v) (same_values k) ks (λ j no_twin. whether (same_values v j) (λ twin. true_false (alike v k j same twin) no_twin) (λ other. other)) (or_left (list_any (same_values k) ks) _ apart) in
    let none = none_with (n + 1) v ks gone in
    let later = sym (last_alone (n + 1) v ks x (or_right (list_any (same_values k) ks) _ apart)) ∙ ap (λ o. is_place o x) none in
    ap (λ o. is_place (or_else o (cond (same_values v k) (Some n) None)) x) none
    ∙ ap (λ b. is_place (or_else None (cond b (Some n) None)) x) same
    ∙ here (x == n) same later)
    (λ other.
    ap (λ b. is_place (or_else (last_with (n + 1) v ks) (cond b (Some n) None)) x) other
    ∙ ap (λ o. is_place o x) (or_nothing (last_with (n + 1) v ks))
    ∙ last_alone (n + 1) v ks x (or_right (list_any (same_values k) ks) _ apart)
    ∙ past (x == n) refl other) where
      here : (b : Bool) → same_values v k ≡ true → passes (same_values v) (item_at (n + 1) ks x) ≡ false → b ≡ passes (same_values v) (cond b (Some k) (item_at (n + 1) ks x))
      here true same later = sym same
      here false same later = sym later

      past : (b : Bool) → (x == n) ≡ b → same_values v k ≡ false → passes (same_values v) (item_at (n + 1) ks x) ≡ passes (same_values v) (cond b (Some k) (item_at (n + 1) ks x))
      past true is other = ap (passes (same_values v)) (item_before (n + 1) ks x (let same = eqb-true x n is in omega (arith, same))) ∙ sym other
      past false is other = refl

module _ (c : Catalogue) where
  -- the row is the one that the foreign key aims at with the values
  abbrev aims : ForeignKey → List Value → Named → Bool
  aims f v a = is_named f.table a.0 && same_values v (picked (the_table c f.table).columns f.targets a.1)

  first_none : (f : ForeignKey) (v : List Value) (n : ℕ) (e : Name × Table) (x : ℕ) → is_named f.table e.0 ≡ false → passes (aims f v) (item_at n (named_rows e.0 e.1.rows) x) ≡ false
  first_none f v n e x other =
      passes_map (aims f v) (named e.0) n e.1.rows x
      ∙ passes_same (λ r. aims f v (named e.0 r)) (λ r. false) (item_at n e.1.rows x) (λ r. ap (λ b. b && same_values v (picked (the_table c f.table).columns f.targets r)) other)
      ∙ passes_none (item_at n e.1.rows x)

  parted : (p : Named → Bool) (n : ℕ) (e : Name × Table) (es : List (Name × Table)) (x : ℕ) → passes p (item_at n (rows_in (e ∷ es)) x) ≡ (passes p (item_at n (named_rows e.0 e.1.rows) x) || passes p (item_at (n + length e.1.rows) (rows_in es) x))
  parted p n e es x = passes_append p n (named_rows e.0 e.1.rows) (rows_in es) (n + length e.1.rows) x (many n (n + length e.1.rows) e.0 e.1.rows (same_sum n e.1.rows))

  none_aimed : (f : ForeignKey) (v : List Value) (n : ℕ) (es : List (Name × Table)) (x : ℕ) → lookup (is_named f.table) es ≡ None → passes (aims f v) (item_at n (rows_in es) x) ≡ false
  none_aimed f v n [] x gone = refl
  none_aimed f v n (e ∷ es) x gone = whether (is_named f.table e.0)
      (λ is. not_some (sym (ap (λ b. cond b (Some e.1) (lookup (is_named f.table) es)) is) ∙ gone))
      (λ other. parted (aims f v) n e es x ∙ or_false _ _ (first_none f v n e x other) (none_aimed f v (n + length e.1.rows) es x (sym (ap (λ b. cond b (Some e.1) (lookup (is_named f.table) es)) other) ∙ gone)))

  -- the row that a foreign key aims at is found by its values
  parent_at : (f : ForeignKey) (v : List Value) (n : ℕ) (es : List (Name × Table)) (x : ℕ) → T (is_sorted name_cmp es) → Found c.tables es → has_twin_targets c f ≡ false → is_place (parent_in f n es v) x ≡ passes (aims f v) (item_at n (rows_in es) x)
  parent_at f v n [] x rise found apart = refl
  parent_at f v n (e ∷ es) x rise found apart = whether (is_named f.table e.0)
      (λ is.
      let its : the_table c f.table ≡ e.1 = ap (λ m. the_table c m) (same_name f.table e.0 is) ∙ ap (λ o. unwrap_or o no_table) found.0 in
      let alone = subst (λ (t : Table). has_equals (map (picked t.columns f.targets) t.rows) ≡ false) its apart in
      let gone = subst (λ m. lookup (is_named m) es ≡ None) (sym (same_name f.table e.0 is)) (below_gone e.0 es (front _ _ rise)) in
      ap (λ b. is_place (cond b (last_with n v (map (picked e.1.columns f.targets) e.1.rows)) (parent_in f (n + length e.1.rows) es v)) x) is
      ∙ last_alone n v (map (picked e.1.columns f.targets) e.1.rows) x alone
      ∙ passes_map (same_values v) (picked e.1.columns f.targets) n e.1.rows x
      ∙ passes_same (λ r. same_values v (picked e.1.columns f.targets r)) (λ r. aims f v (named e.0 r)) (item_at n e.1.rows x) (λ r. ap (λ (t : Table). same_values v (picked t.columns f.targets r)) (sym its) ∙ ap (λ b. b && same_values v (picked (the_table c f.table).columns f.targets r)) (sym is))
      ∙ sym (passes_map (aims f v) (named e.0) n e.1.rows x)
      ∙ sym (or_none (passes (aims f v) (item_at n (named_rows e.0 e.1.rows) x)))
      ∙ ap (λ b. passes (aims f v) (item_at n (named_rows e.0 e.1.rows) x) || b) (sym (none_aimed f v (n + length e.1.rows) es x gone))
      ∙ sym (parted (aims f v) n e es x))
      (λ other.
      ap (λ b. is_place (cond b (last_with n v (map (picked e.1.columns f.targets) e.1.rows)) (parent_in f (n + length e.1.rows) es v)) x) other
      ∙ parent_at f v (n + length e.1.rows) es x (back (below_all name_cmp e.0 es) _ rise) found.1 apart
      ∙ ap (λ b. b || passes (aims f v) (item_at (n + length e.1.rows) (rows_in es) x)) (sym (first_none f v n e x other))
      ∙ sym (parted (aims f v) n e es x))

  -- the row goes with the row x by one of the foreign keys
  abbrev goes_by : List ForeignKey → List Column → ℕ → List Value → Bool
  goes_by fs cs x row = list_any (λ f. f.cascade && is_place (parent_in f 0 c.tables (picked cs f.columns row)) x) fs

  abbrev goes : ℕ → Named → Bool
  goes x a = goes_by (the_table c a.0).foreign (the_table c a.0).columns x a.1

  key_at : (n : ℕ) (it : Table) (f : ForeignKey) (x y : ℕ) → list_any (λ z. y == z) (key_linked c.tables n it f x) ≡ passes (λ r. f.cascade && is_place (parent_in f 0 c.tables (picked it.columns f.columns r)) x) (item_at n it.rows y)
  unfolding key_linked
  key_at n it f x y = at f.cascade where
    at : (b : Bool) → list_any (λ z. y == z) (cond b (linked (parent_in f 0 c.tables) n (map (picked it.columns f.columns) it.rows) x) []) ≡ passes (λ r. b && is_place (parent_in f 0 c.tables (picked it.columns f.columns r)) x) (item_at n it.rows y)
    at true = numbered_at (λ k. is_place (parent_in f 0 c.tables k) x) n (map (picked it.columns f.columns) it.rows) y ∙ passes_map (λ k. is_place (parent_in f 0 c.tables k) x) (picked it.columns f.columns) n it.rows y
    at false = sym (passes_none (item_at n it.rows y))

  keys_at : (n : ℕ) (it : Table) (fs : List ForeignKey) (x y : ℕ) → list_any (λ z. y == z) (keys_linked c.tables n it fs x) ≡ passes (goes_by fs it.columns x) (item_at n it.rows y)
  unfolding keys_linked
  keys_at n it [] x y = sym (passes_none (item_at n it.rows y))
  keys_at n it (f ∷ fs) x y =
      any-append (λ z. y == z) (key_linked c.tables n it f x) (keys_linked c.tables n it fs x)
      ∙ ap (λ b. b || list_any (λ z. y == z) (keys_linked c.tables n it fs x)) (key_at n it f x y)
      ∙ ap (λ b. passes (λ r. f.cascade && is_place (parent_in f 0 c.tables (picked it.columns f.columns r)) x) (item_at n it.rows y) || b) (keys_at n it fs x y)
      ∙ passes_both (λ r. f.cascade && is_place (parent_in f 0 c.tables (picked it.columns f.columns r)) x) (goes_by fs it.columns x) (item_at n it.rows y)

  tables_at : (n : ℕ) (es : List (Name × Table)) (x y : ℕ) → Found c.tables es → list_any (λ z. y == z) (tables_linked c.tables n es x) ≡ passes (goes x) (item_at n (rows_in es) y)
  unfolding tables_linked
  tables_at n [] x y found = refl
  tables_at n (e ∷ es) x y found =
      any-append (λ z. y == z) (keys_linked c.tables n e.1 e.1.foreign x) (tables_linked c.tables (n + length e.1.rows) es x)
      ∙ ap (λ b. b || list_any (λ z. y == z) (tables_linked c.tables (n + length e.1.rows) es x)) (
      keys_at n e.1 e.1.foreign x y
      ∙ sym (passes_map (goes x) (named e.0) n e.1.rows y ∙ passes_same (λ r. goes x (named e.0 r)) (goes_by e.1.foreign e.1.columns x) (item_at n e.1.rows y) (λ r. ap (λ o. goes_by (unwrap_or o no_table).foreign (unwrap_or o no_table).columns x r) found.0)))
      ∙ ap (λ b. passes (goes x) (item_at n (named_rows e.0 e.1.rows) y) || b) (tables_at (n + length e.1.rows) es x y found.1)
      ∙ sym (parted (goes x) n e es y)

  any_alike : (p q r : ForeignKey → Bool) (fs : List ForeignKey) → ((f : ForeignKey) → q f ≡ false → p f ≡ r f) → list_any q fs ≡ false → list_any p fs ≡ list_any r fs
  any_alike p q r [] same none = refl
  any_alike p q r (f ∷ fs) same none = ap (λ b. b || list_any p fs) (same f (or_left (q f) _ none)) ∙ ap (λ b. r f || b) (any_alike p q r fs same (or_right (q f) _ none))

  module _ (sound : IsLinked c) where
    rise : T (is_sorted name_cmp c.tables)
    rise = sorted_entries c.tables sound.ordered

    by_itself : (x : ℕ) → x ≡ 0 + x
    by_itself x = omega arith

    goes_is : (x : ℕ) (o : Option Named) → passes (goes x) o ≡ cascades_to c (slice_get (all_rows c) x) o
    goes_is x None = none (slice_get (all_rows c) x) where
      none : (p : Option Named) → false ≡ cascades_to c p None
      none None = refl
      none (Some a) = refl
    goes_is x (Some b) =
        any_alike (λ f. f.cascade && is_place (parent_in f 0 c.tables (picked (the_table c b.0).columns f.columns b.1)) x) (misses_target c) (λ f. f.cascade && passes (aims f (picked (the_table c b.0).columns f.columns b.1)) (item_at 0 (all_rows c) x)) (the_table c b.0).foreign
        (λ f aimed. ap (λ k. f.cascade && k) (parent_at f (picked (the_table c b.0).columns f.columns b.1) 0 c.tables x rise (all_found c.tables rise) (unique c sound f aimed)))
        (at_table c (λ t. list_any (misses_target c) t.foreign) refl sound.aimed b.0)
        ∙ ap (λ o. list_any (λ f. f.cascade && passes (aims f (picked (the_table c b.0).columns f.columns b.1)) o) (the_table c b.0).foreign) (item_get 0 (all_rows c) x x (by_itself x))
        ∙ at (slice_get (all_rows c) x) where
          at : (o : Option Named) → list_any (λ f. f.cascade && passes (aims f (picked (the_table c b.0).columns f.columns b.1)) o) (the_table c b.0).foreign ≡ cascades_to c o (Some b)
          at None = any_less (λ f. f.cascade && false) (λ f. false) (the_table c b.0).foreign (λ f h. and_no_right f.cascade false refl) (never (the_table c b.0).foreign)
          at (Some a) = refl

    module _ (edges : List (List ℕ)) (gains : Gains (tables_linked c.tables 0 c.tables) [] edges) where
      pub are_cascades : AreCascades c edges
      are_cascades x y =
          ap (list_any (λ z. y == z)) (gains.has x)
          ∙ tables_at 0 c.tables x y (all_found c.tables rise)
          ∙ ap (passes (goes x)) (item_get 0 (all_rows c) y y (by_itself y))
          ∙ goes_is x (slice_get (all_rows c) y)

      pub cascades_below : list_all (are_below (row_total c.tables)) edges ≡ true
      cascades_below = edges_below (row_total c.tables) edges (λ x y h. within y (slice_get (all_rows c) x) (slice_get (all_rows c) y) refl (sym (are_cascades x y) ∙ h)) where
        within : (y : ℕ) (o p : Option Named) → slice_get (all_rows c) y ≡ p → cascades_to c o p ≡ true → y < row_total c.tables
        within y None p is h = absurd (Prim.cc h)
        within y (Some a) None is h = absurd (Prim.cc h)
        within y (Some a) (Some b) is h = let less = get_within (all_rows c) y b is in let total = total_is c.tables in omega (arith, less, total)
