-- Marks that are spread along the cascades are those of the rows that go.
use Rattle.std.proofs.Common.{ap, sym, ◌∙◌, subst, unwrap_or}
use Rattle.std.proofs.lemmas.Bool.{eqb-true}
use Rattle.std.specs.FinMap.Entries.{below_all, is_sorted}
use Rattle.std.specs.List.{filter, list_all, list_any}
use Rattle.std.specs.Map.{lookup}
use Rattle.std.specs.Option.{option_map}
use Rattle.std.specs.Prelude.{Bool, List, None, Option, Some, T, [], cond, false, map, not, refl, slice_get, suc, true, zero, ℕ, ◌&&◌, ◌++◌, ◌==◌, ◌||◌, ◌∷◌, ◌≡◌}
use Rattle.lq_base.specs.Name.{is_named, name_cmp}
use Rattle.lq_base.specs.declared.name.Name.{Name}
use Rattle.lq_base.specs.declared.value.Value.{Value}
use Rattle.lq_model.specs.Catalogue.{Catalogue, Table, no_table, table_of, the_table, with_table, same_names, has_equals, is_null, picked, same_values, target_lists}
use Rattle.lq_model.specs.Rows.{is_lost, row_count, without_lost, without_lost_in, without_taken}
use Rattle.lq_model.specs.Plan.{has_orphan, lacks_parent, misses_target, table_has_twins}
use Rattle.lq_model.specs.Truth.{takes}
use Rattle.lq_model.specs.declared.constraint.ForeignKey.{ForeignKey}
use Rattle.lq_model.specs.declared.test.Test.{Test}
use Rattle.lq_model.proofs.Kept.{lookup_other, the_table-with_table}
use Rattle.lq_model.proofs.Lists.{and_left, and_right, and_true, any-append, named_itself, not_false, or_left, same_name, true_false, whether}
use Rattle.lq_model.proofs.Maps.{at_lookup, lookup-values, not_some, some_same, sorted_entries}
use Rattle.lq_model.proofs.Untouched.{same_list}
use Rattle.lq_deletes.specs.Places.{MarkRows, Named, all_rows, rows_in, Spread, children_of, is_marked, Choice, IsLinked, has_lost, is_taken, kept_at, kept_by, outlives, stays}
use Rattle.lq_deletes.proofs.Among.{Among, all_false, among_filter, among_first, among_later, among_some, any_filter, at_among, no_nulls, one_row}
use Rattle.lq_deletes.proofs.Numbered.{all_of}
use Rattle.lq_deletes.proofs.Rounds.{cascades_end, fewer_set, kept_lookup, kept_table, lengths}
use Rattle.lq_deletes.proofs.Staying.{front, back, leaves_staying, or_other}

-- the first row is a child of the second by a foreign key that cascades
abbrev pub goes_with : Catalogue → Named → Named → Bool
goes_with c child parent =
    let it = the_table c child.0 in
    list_any (λ f. f.cascade && (is_named f.table parent.0 && same_values (picked it.columns f.columns child.1) (picked (the_table c f.table).columns f.targets parent.1))) it.foreign

-- whether the row that stands at the second place goes with the one at the first
abbrev pub cascades_to : Catalogue → Option Named → Option Named → Bool
cascades_to c (Some parent) (Some child) = goes_with c child parent
cascades_to c (Some parent) None = false
cascades_to c None child = false

-- each row's children are those that go with it
abbrev pub AreCascades : Catalogue → List (List ℕ) → Type 0
AreCascades c edges = (x y : ℕ) → list_any (λ z. y == z) (children_of edges x) ≡ cascades_to c (slice_get (all_rows c) x) (slice_get (all_rows c) y)

-- places

abbrev pub named_rows : Name → List (List Value) → List Named
named_rows n rows = map (λ row. (n, row)) rows

get_left : {A : Type 0} (xs ys : List A) (x : ℕ) (a : A) → slice_get xs x ≡ Some a → slice_get (xs ++ ys) x ≡ Some a
get_left [] ys x a h = not_some (sym h)
get_left (z ∷ xs) ys zero a h = h
get_left (z ∷ xs) ys (suc x) a h = get_left xs ys x a h

get_right : {A : Type 0} (xs ys : List A) (x : ℕ) (a : A) → slice_get ys x ≡ Some a → (y : ℕ) × (slice_get (xs ++ ys) y ≡ Some a)
get_right [] ys x a h = (x, h)
get_right (z ∷ xs) ys x a h = let more = get_right xs ys x a h in (suc more.0, more.1)

get_either : {A C : Type 0} (xs ys : List A) (x : ℕ) (a : A) → slice_get (xs ++ ys) x ≡ Some a → (slice_get xs x ≡ Some a → C) → ((y : ℕ) → slice_get ys y ≡ Some a → C) → C
get_either [] ys x a h left right = right x h
get_either (z ∷ xs) ys zero a h left right = left h
get_either (z ∷ xs) ys (suc x) a h left right = get_either xs ys x a h left right

in_table : (n : Name) (p : List Value → Bool) (rows : List (List Value)) → list_any p rows ≡ true → (x : ℕ) × (r : List Value) × (slice_get (named_rows n rows) x ≡ Some (n, r)) × (p r ≡ true)
in_table n p [] h = absurd (Prim.cc h)
in_table n p (r ∷ rows) h = whether (p r)
    (λ is. (zero, r, refl, is))
    (λ other. let more = in_table n p rows (sym (ap (λ b. b || list_any p rows) other) ∙ h) in (suc more.0, more.1, more.2, more.3))

of_table : (n : Name) (rows : List (List Value)) (x : ℕ) (a : Named) → slice_get (named_rows n rows) x ≡ Some a → (n ≡ a.0) × Among a.1 rows
of_table n [] x a h = not_some (sym h)
of_table n (r ∷ rows) zero a h = let is = some_same h in (ap (λ b. b.0) is, subst (λ b. Among b.1 (r ∷ rows)) is (among_first r rows))
of_table n (r ∷ rows) (suc x) a h = let more = of_table n rows x a h in (more.0, among_later a.1 r rows more.1)

pub row_found : (n : Name) (it : Table) (p : List Value → Bool) (es : List (Name × Table)) → lookup (is_named n) es ≡ Some it → list_any p it.rows ≡ true → (x : ℕ) × (r : List Value) × (slice_get (rows_in es) x ≡ Some (n, r)) × (p r ≡ true)
row_found n it p [] there some = not_some (sym there)
row_found n it p (e ∷ es) there some = whether (is_named n e.0)
    (λ is.
    let its = some_same (sym (ap (λ b. cond b (Some e.1) (lookup (is_named n) es)) is) ∙ there) in
    let at = in_table e.0 p e.1.rows (ap (λ x. list_any p x.rows) its ∙ some) in
    (at.0, at.1, get_left (named_rows e.0 e.1.rows) (rows_in es) at.0 (n, at.1) (subst (λ m. slice_get (named_rows e.0 e.1.rows) at.0 ≡ Some (m, at.1)) (sym (same_name n e.0 is)) at.2), at.3))
    (λ other.
    let more = row_found n it p es (sym (ap (λ b. cond b (Some e.1) (lookup (is_named n) es)) other) ∙ there) some in
    let at = get_right (named_rows e.0 e.1.rows) (rows_in es) more.0 (n, more.1) more.2 in
    (at.0, more.1, at.1, more.3))

pub row_there : (es : List (Name × Table)) → T (is_sorted name_cmp es) → (x : ℕ) (a : Named) → slice_get (rows_in es) x ≡ Some a → (it : Table) × (lookup (is_named a.0) es ≡ Some it) × Among a.1 it.rows
row_there [] sorted x a h = not_some (sym h)
row_there (e ∷ es) sorted x a h = get_either (named_rows e.0 e.1.rows) (rows_in es) x a h
    (λ here.
    let at = of_table e.0 e.1.rows x a here in
    (e.1, ap (λ b. cond b (Some e.1) (lookup (is_named a.0) es)) (subst (λ n. is_named n e.0 ≡ true) at.0 (named_itself e.0)), at.1))
    (λ y later.
    let more = row_there es (back (below_all name_cmp e.0 es) _ sorted) y a later in
    (more.0, or_other a.0 e.0 more.0 e.1 es (front _ _ sorted) more.1, more.2))

-- tests

of_all : (holds : ℕ → Bool) (xs : List ℕ) (y : ℕ) → list_all holds xs ≡ true → list_any (λ z. y == z) xs ≡ true → holds y ≡ true
of_all holds [] y all h = absurd (Prim.cc h)
of_all holds (x ∷ xs) y all h = whether (y == x)
    (λ is. ap holds (eqb-true y x is) ∙ and_left (holds x) _ all)
    (λ other. of_all holds xs y (and_right (holds x) _ all) (sym (ap (λ b. b || list_any (λ z. y == z) xs) other) ∙ h))

-- a test of all tables at the one of a name
pub at_table : (c : Catalogue) (p : Table → Bool) → p no_table ≡ false → list_any (λ e. p e.1) c.tables ≡ false → (q : Name) → p (the_table c q) ≡ false
at_table c p nothing none q = at (table_of c q) refl where
  at : (o : Option Table) → table_of c q ≡ o → p (unwrap_or o no_table) ≡ false
  at None is = nothing
  at (Some it) is = at_lookup (is_named q) p c.tables it none is

-- a foreign key's targets are not twice the same
abbrev pub has_twin_targets : Catalogue → ForeignKey → Bool
has_twin_targets c f = has_equals (map (picked (the_table c f.table).columns f.targets) (the_table c f.table).rows)

pub unique : (c : Catalogue) → IsLinked c → (f : ForeignKey) → misses_target c f ≡ false → has_twin_targets c f ≡ false
unique c sound f aims =
    let u = the_table c f.table in
    let hit = among_some (same_names f.targets) (target_lists u) (not_false _ aims) in
    let lists = at_table c table_has_twins refl sound.no_twins f.table in
    subst (λ ns. has_equals (map (picked u.columns ns) u.rows) ≡ false) (sym (same_list f.targets hit.0 hit.2))
    (at_among (λ ns. has_equals (map (picked u.columns ns) u.rows)) hit.0 (target_lists u) hit.1 (or_left _ _ (sym (any-append (λ ns. has_equals (map (picked u.columns ns) u.rows)) (target_lists u) _) ∙ lists)))

unique_of : (c : Catalogue) → IsLinked c → (q : Name) (f : ForeignKey) → Among f (the_table c q).foreign → has_twin_targets c f ≡ false
unique_of c sound q f here = unique c sound f (at_among (misses_target c) f (the_table c q).foreign here (at_table c (λ it. list_any (misses_target c) it.foreign) refl sound.aimed q))

pick : (a b : Bool) → (a ≡ true → b ≡ false) → (a && b) ≡ false
pick true b h = h refl
pick false b h = refl

module _ (t : Name) (test : Option Test) (c : Catalogue) (sound : IsLinked c) (there : table_of c t ≡ Some (the_table c t)) where
  abbrev it : Table
  it = the_table c t

  abbrev begun : Catalogue
  begun = with_table c t (without_taken test it)

  abbrev pub stay : Choice
  stay = stays t test c

  abbrev pub kept : Catalogue
  kept = kept_by stay c

  pub sorted : T (is_sorted name_cmp c.tables)
  sorted = sorted_entries c.tables sound.ordered

  pub table_there : (x : ℕ) (a : Named) → slice_get (all_rows c) x ≡ Some a → (table_of c a.0 ≡ Some (the_table c a.0)) × Among a.1 (the_table c a.0).rows
  table_there x a h =
      let at = row_there c.tables sorted x a h in
      let is = ap (λ o. unwrap_or o no_table) at.1 in
      (at.1 ∙ ap (λ u. Some u) (sym is), subst (λ u. Among a.1 u.rows) (sym is) at.2)

  closed : has_lost kept ≡ false
  closed =
      let le = fewer_set (is_named t) c.tables it (without_taken test it) there (lengths (λ r. not (takes test it.columns r)) it.rows) in
      ap has_lost (sym (leaves_staying t test c sound there)) ∙ cascades_end begun (row_count c) le

  -- a row that stays has not lost its parent
  pub unlost : (x : ℕ) (a : Named) → slice_get (all_rows c) x ≡ Some a → stay a.0 a.1 ≡ true → is_lost kept (the_table c a.0) a.1 ≡ false
  unlost x a h is =
      let at = table_there x a h in
      let found = kept_lookup stay a.0 c.tables ∙ ap (option_map (kept_at stay a.0)) at.0 in
      at_among (is_lost kept (the_table c a.0)) a.1 (filter (stay a.0) (the_table c a.0).rows) (among_filter (stay a.0) a.1 (the_table c a.0).rows is at.1)
      (at_lookup (is_named a.0) (λ u. list_any (is_lost kept u) u.rows) kept.tables (kept_at stay a.0 (the_table c a.0)) closed found)

  -- where the parent goes the child goes
  pub goes_down : (x y : ℕ) (a b : Named) → slice_get (all_rows c) x ≡ Some a → slice_get (all_rows c) y ≡ Some b → stay a.0 a.1 ≡ false → goes_with c b a ≡ true → stay b.0 b.1 ≡ false
  goes_down x y a b at_x at_y gone with_it = whether (stay b.0 b.1) (λ is.
      let u = the_table c b.0 in
      let hit = among_some (λ f. f.cascade && (is_named f.table a.0 && same_values (picked u.columns f.columns b.1) (picked (the_table c f.table).columns f.targets a.1))) u.foreign with_it in
      let f = hit.0 in
      let own = picked u.columns f.columns b.1 in
      let v = the_table c f.table in
      let cascade = and_left f.cascade _ hit.2 in
      let more = and_right f.cascade _ hit.2 in
      let name = same_name f.table a.0 (and_left (is_named f.table a.0) _ more) in
      let same = and_right (is_named f.table a.0) _ more in
      let lacks = sym (ap (λ k. k && lacks_parent kept u.columns f b.1) cascade) ∙ at_among (λ g. g.cascade && lacks_parent kept u.columns g b.1) f u.foreign hit.1 (unlost y b at_y is) in
      let lacks' = sym (ap (λ (w : Table). not (list_any is_null own) && not (list_any (λ r. same_values own (picked w.columns f.targets r)) w.rows)) (kept_table stay c f.table)) ∙ lacks in
      let parent = not_false _ (sym (ap (λ k. not k && not (list_any (λ r. same_values own (picked v.columns f.targets r)) (filter (stay f.table) v.rows))) (no_nulls own _ same)) ∙ lacks') in
      let some = sym (any_filter (λ r. same_values own (picked v.columns f.targets r)) (stay f.table) v.rows) ∙ parent in
      true_false some (one_row (picked v.columns f.targets) own (stay f.table) a.1 v.rows (unique_of c sound b.0 f hit.1) (subst (λ n. Among a.1 (the_table c n).rows) (sym name) (table_there x a at_x).1) same (subst (λ n. stay n a.1 ≡ false) (sym name) gone)))
      (λ other. other)

  abbrev gone_at : Option Named → Bool
  gone_at None = true
  gone_at (Some a) = not (stay a.0 a.1)

  module _ (edges : List (List ℕ)) (old new : List Bool) (cascades : AreCascades c edges) (begin : MarkRows c old (is_taken t test c)) (spread : Spread edges old new) where
    rows : List Named
    rows = all_rows c

    begins : (x : ℕ) (o : Option Named) → slice_get (all_rows c) x ≡ o → is_marked old x ≡ true → gone_at o ≡ true
    begins x None at h = refl
    begins x (Some a) at h = ap (λ b. not (not b && outlives (row_count c) begun a.0 a.1)) (sym (begin x a at) ∙ h)

    steps : (x y : ℕ) (o p : Option Named) → slice_get (all_rows c) x ≡ o → slice_get (all_rows c) y ≡ p → gone_at o ≡ true → cascades_to c o p ≡ true → gone_at p ≡ true
    steps x y o None at_x at_y gone h = refl
    steps x y None (Some b) at_x at_y gone h = absurd (Prim.cc h)
    steps x y (Some a) (Some b) at_x at_y gone h = ap not (goes_down x y a b at_x at_y (negated (stay a.0 a.1) gone) h) where
      negated : (k : Bool) → not k ≡ true → k ≡ false
      negated true e = sym e
      negated false e = refl

    -- what is marked goes
    marked_goes : (x : ℕ) → is_marked new x ≡ true → gone_at (slice_get (all_rows c) x) ≡ true
    marked_goes x h = spread.follow (λ y. gone_at (slice_get (all_rows c) y)) (λ y k. begins y (slice_get (all_rows c) y) refl k)
        (λ y k. all_of (λ z. gone_at (slice_get (all_rows c) z)) (children_of edges y) (λ z child. steps y z _ _ refl refl k (sym (cascades y z) ∙ child))) x h

    -- the catalogue has the columns and keys, and the rows that are not marked
    record HasUnmarked (e : Catalogue) : Type 0 where
      columns : (q : Name) → (the_table e q).columns ≡ (the_table c q).columns
      foreign : (q : Name) → (the_table e q).foreign ≡ (the_table c q).foreign
      has : (x : ℕ) (a : Named) → slice_get (all_rows c) x ≡ Some a → is_marked new x ≡ false → Among a.1 (the_table e a.0).rows

    -- the parent of a row that is not marked is not marked
    parent_unmarked : (x y : ℕ) (a b : Named) → slice_get (all_rows c) x ≡ Some a → slice_get (all_rows c) y ≡ Some b → is_marked new x ≡ false → goes_with c a b ≡ true → is_marked new y ≡ false
    parent_unmarked x y a b at_x at_y un with_it = whether (is_marked new y)
        (λ is. true_false (of_all (is_marked new) (children_of edges y) x (spread.spread y is refl) (cascades y x ∙ ap (λ o. cascades_to c o (slice_get (all_rows c) x)) at_y ∙ ap (cascades_to c (Some b)) at_x ∙ with_it)) un)
        (λ other. other)

    not_lost : (e : Catalogue) → HasUnmarked e → (x : ℕ) (a : Named) → slice_get (all_rows c) x ≡ Some a → is_marked new x ≡ false → is_lost e (the_table e a.0) a.1 ≡ false
    not_lost e has x a at un =
        let u = the_table c a.0 in
        ap (λ cs. list_any (λ f. f.cascade && lacks_parent e cs f a.1) (the_table e a.0).foreign) (has.columns a.0)
        ∙ ap (list_any (λ f. f.cascade && lacks_parent e u.columns f a.1)) (has.foreign a.0)
        ∙ all_false _ u.foreign (λ f here. pick f.cascade _ (λ cascade. pick (not (list_any is_null (picked u.columns f.columns a.1))) _ (λ free.
        let own = picked u.columns f.columns a.1 in
        let v = the_table c f.table in
        let lacks = at_among (lacks_parent c u.columns f) a.1 u.rows (table_there x a at).1 (at_among (λ g. list_any (lacks_parent c u.columns g) u.rows) f u.foreign here (at_table c (has_orphan c) refl sound.parents a.0)) in
        let some = not_false _ (sym (ap (λ k. k && not (list_any (λ r. same_values own (picked v.columns f.targets r)) v.rows)) free) ∙ lacks) in
        let hit = found f.table (λ r. same_values own (picked v.columns f.targets r)) (table_of c f.table) refl some in
        let goes = here (λ g. g.cascade && (is_named g.table f.table && same_values (picked u.columns g.columns a.1) (picked (the_table c g.table).columns g.targets hit.1))) (and_true _ _ cascade (and_true _ _ (named_itself f.table) hit.3)) in
        let parent = has.has hit.0 (f.table, hit.1) hit.2 (parent_unmarked x hit.0 a (f.table, hit.1) at hit.2 un goes) in
        ap not (ap (λ cs. list_any (λ r. same_values own (picked cs f.targets r)) (the_table e f.table).rows) (has.columns f.table) ∙ parent (λ r. same_values own (picked v.columns f.targets r)) hit.3)))) where
          found : (n : Name) (p : List Value → Bool) (o : Option Table) → table_of c n ≡ o → list_any p (unwrap_or o no_table).rows ≡ true → (y : ℕ) × (r : List Value) × (slice_get (all_rows c) y ≡ Some (n, r)) × (p r ≡ true)
          found n p None is some = absurd (Prim.cc some)
          found n p (Some w) is some = row_found n w p c.tables is some

    round_table : (e : Catalogue) (q : Name) → the_table (without_lost e) q ≡ without_lost_in e (the_table e q)
    round_table e q = ap (λ o. unwrap_or o no_table) (lookup-values (is_named q) (without_lost_in e) e.tables) ∙ at (table_of e q) where
      at : (o : Option Table) → unwrap_or (option_map (without_lost_in e) o) no_table ≡ without_lost_in e (unwrap_or o no_table)
      at None = refl
      at (Some w) = refl

    next : (e : Catalogue) → HasUnmarked e → HasUnmarked (without_lost e)
    next e has = record {
      columns = λ q. ap (λ w. w.columns) (round_table e q) ∙ has.columns q;
      foreign = λ q. ap (λ w. w.foreign) (round_table e q) ∙ has.foreign q;
      has = λ x a at un. subst (λ w. Among a.1 w.rows) (sym (round_table e a.0)) (among_filter (λ r. not (is_lost e (the_table e a.0) r)) a.1 (the_table e a.0).rows (ap not (not_lost e has x a at un)) (has.has x a at un));
    }

    lasts : (k : ℕ) (e : Catalogue) → HasUnmarked e → (x : ℕ) (a : Named) → slice_get (all_rows c) x ≡ Some a → is_marked new x ≡ false → outlives k e a.0 a.1 ≡ true
    lasts zero e has x a at un = refl
    lasts (suc k) e has x a at un = and_true _ _ (ap not (not_lost e has x a at un)) (lasts k (without_lost e) (next e has) x a at un)

    untaken : (x : ℕ) (a : Named) → slice_get (all_rows c) x ≡ Some a → is_marked new x ≡ false → is_taken t test c a ≡ false
    untaken x a at un = whether (is_taken t test c a) (λ is. true_false (spread.more x (begin x a at ∙ is)) un) (λ other. other)

    begun_table : (q : Name) → is_named t q ≡ true → the_table begun q ≡ without_taken test (the_table c q)
    begun_table q is = subst (λ n. the_table begun n ≡ without_taken test (the_table c n)) (same_name t q is) (the_table-with_table c t (without_taken test it) there)

    begun_other : (q : Name) → is_named t q ≡ false → the_table begun q ≡ the_table c q
    begun_other q other = ap (λ o. unwrap_or o no_table) (lookup_other t q (without_taken test it) c.tables other)

    first_has : HasUnmarked begun
    first_has = record {
      columns = λ q. whether (is_named t q) (λ is. ap (λ w. w.columns) (begun_table q is)) (λ other. ap (λ w. w.columns) (begun_other q other));
      foreign = λ q. whether (is_named t q) (λ is. ap (λ w. w.foreign) (begun_table q is)) (λ other. ap (λ w. w.foreign) (begun_other q other));
      has = λ x a at un. whether (is_named t a.0)
          (λ is.
          let not_taken = sym (ap (λ b. b && takes test it.columns a.1) is) ∙ untaken x a at un in
          let here = subst (λ n. takes test (the_table c n).columns a.1 ≡ false) (same_name t a.0 is) not_taken in
          subst (λ w. Among a.1 w.rows) (sym (begun_table a.0 is)) (among_filter (λ r. not (takes test (the_table c a.0).columns r)) a.1 (the_table c a.0).rows (ap not here) (table_there x a at).1))
          (λ other. subst (λ w. Among a.1 w.rows) (sym (begun_other a.0 other)) (table_there x a at).1);
    }

    unmarked_stays : (x : ℕ) (a : Named) → slice_get (all_rows c) x ≡ Some a → is_marked new x ≡ false → stay a.0 a.1 ≡ true
    unmarked_stays x a at un = and_true _ _ (ap not (untaken x a at un)) (lasts (row_count c) begun first_has x a at un)

    pub marks_gone : MarkRows c new (λ a. not (stay a.0 a.1))
    marks_gone x a at = whether (is_marked new x)
        (λ is. is ∙ sym (ap gone_at (sym at) ∙ marked_goes x is))
        (λ un. un ∙ sym (ap not (unmarked_stays x a at un)))
