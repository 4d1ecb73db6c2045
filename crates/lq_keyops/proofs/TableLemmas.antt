-- Lemmas on the indexes of a name, table after table.
use Rattle.std.proofs.Common.{Bool, List, None, Option, Some, T, [], ap, arith, cond, false, get_or, is_none, length, map, not, refl, subst, suc, sym, true, unwrap_or, zero, ℕ, ◌&&◌, ◌+◌, ◌<◌, ◌||◌, ◌∙◌, ◌∷◌, ◌≡◌}
use Rattle.std.specs.FinMap.Entries.{below_all, is_sorted}
use Rattle.std.specs.List.{filter, list_any}
use Rattle.std.proofs.lemmas.Map.{keys-set_value}
use Rattle.std.specs.List.Sorted.{IsStrictlySortedBy}
use Rattle.std.specs.Map.{keys_of, lookup, set_value}
use Rattle.lq_base.specs.Name.{beside, is_named, name_cmp}
use Rattle.lq_base.specs.declared.name.Name.{Name}
use Rattle.lq_arm.proofs.NameLemmas.{tables_in}
use Rattle.lq_chain.specs.History.{History, changed}
use Rattle.lq_model.specs.Catalogue.{Catalogue, Table, no_table, table_of, the_table, with_table}
use Rattle.lq_model.specs.Constraints.{has_index_in, without_index_in}
use Rattle.lq_model.specs.declared.index.Index.{Index}
use Rattle.lq_model.proofs.Lists.{any-map, filter_kept, or_false, or_left, or_right, same_name, true_false, whether}
use Rattle.lq_model.proofs.Maps.{below_gone, not_some, some_same, sorted_entries}
use Rattle.lq_rows.specs.Stored.{Continues, Stored}
use Rattle.lq_rows.proofs.Continued.{goes_one_further, stays}
use Rattle.lq_keyops.specs.Targets.{Finds, all_without}

filter_again : {A : Type 0} (p : A → Bool) (xs : List A) → filter p (filter p xs) ≡ filter p xs
filter_again p [] = refl
filter_again p (x ∷ xs) = whether (p x) (λ is. rw (is, is) (ap (λ ys. x ∷ ys) (filter_again p xs))) (λ no. rw (no) (filter_again p xs))

-- once without them, a table stays so
pub without_again : (n t : Name) (it : Table) → without_index_in n t (without_index_in n t it) ≡ without_index_in n t it
without_again n t it = ap (λ is. record it { indexes = is }) (filter_again (λ i. not (is_named n (beside t i.name))) it.indexes)

twice_not : (b : Bool) → not (not b) ≡ b
twice_not true = refl
twice_not false = refl

unnamed : (p : Index → Bool) (is : List Index) → list_any p is ≡ false → list_any (λ i. not (not (p i))) is ≡ false
unnamed p [] none = refl
unnamed p (i ∷ is) none = or_false _ _ (twice_not (p i) ∙ or_left (p i) _ none) (unnamed p is (or_right (p i) _ none))

-- a table that has none is without them
pub none_here : (n t : Name) (it : Table) → has_index_in n t it ≡ false → without_index_in n t it ≡ it
none_here n t it none = ap (λ is. record it { indexes = is }) (filter_kept (λ i. not (is_named n (beside t i.name))) it.indexes (unnamed (λ i. is_named n (beside t i.name)) it.indexes (sym (any-map (is_named n) (λ (i : Index). beside t i.name) it.indexes) ∙ none)))

named_kept : (p : Index → Bool) (is : List Index) → list_any p (filter (λ i. not (p i)) is) ≡ false
named_kept p [] = refl
named_kept p (i ∷ is) = whether (p i) (λ is_so. rw (is_so) (named_kept p is)) (λ other. rw (other, other) (named_kept p is))

-- and none is left in it
pub none_left : (n t : Name) (it : Table) → has_index_in n t (without_index_in n t it) ≡ false
none_left n t it = any-map (is_named n) (λ (i : Index). beside t i.name) (filter (λ i. not (is_named n (beside t i.name))) it.indexes) ∙ named_kept (λ i. is_named n (beside t i.name)) it.indexes

module _ (n : Name) where
  abbrev without : List (Name × Table) → List (Name × Table)
  without es = map (λ e. (e.0, without_index_in n e.0 e.1)) es

  -- where no table has one, all are without them
  pub none_anywhere : (es : List (Name × Table)) → list_any (λ e. has_index_in n e.0 e.1) es ≡ false → without es ≡ es
  none_anywhere [] none = refl
  none_anywhere (e ∷ es) none = ap (λ x. (e.0, x) ∷ without es) (none_here n e.0 e.1 (or_left (has_index_in n e.0 e.1) _ none)) ∙ ap (λ fs. e ∷ fs) (none_anywhere es (or_right (has_index_in n e.0 e.1) _ none))

  -- a table may be without them before
  pub one_before : (t : Name) (es : List (Name × Table)) (x : Table) → lookup (is_named t) es ≡ Some x → without (set_value (is_named t) es (without_index_in n t x)) ≡ without es
  one_before t [] x here = not_some (sym here)
  one_before t (e ∷ es) x here =
      elim (is_named t e.0) as (λ b. is_named t e.0 ≡ b → cond b (Some e.1) (lookup (is_named t) es) ≡ Some x → without (cond b ((e.0, without_index_in n t x) ∷ es) (e ∷ set_value (is_named t) es (without_index_in n t x))) ≡ without (e ∷ es)) [
        | true ↦ λ p q. ap (λ y. (e.0, y) ∷ without es) (ap (λ m. without_index_in n e.0 (without_index_in n m x)) (same_name t e.0 p) ∙ without_again n e.0 x ∙ ap (without_index_in n e.0) (some_same (sym q)))
        | false ↦ λ p q. ap (λ fs. (e.0, without_index_in n e.0 e.1) ∷ fs) (one_before t es x q)
      ] refl here

  -- how many have one
  abbrev pub count : List (Name × Table) → ℕ
  count [] = 0
  count (e ∷ es) = cond (has_index_in n e.0 e.1) 1 0 + count es

  less_here : (a b : Bool) (k : ℕ) → a ≡ false → b ≡ true → cond a 1 0 + k < cond b 1 0 + k
  less_here a b k none has = rw (none, has) (omega arith)

  less_later : (a : ℕ) (k m : ℕ) → k < m → a + k < a + m
  less_later a k m less = omega arith

  -- then fewer have one
  pub fewer : (t : Name) (es : List (Name × Table)) (x : Table) → lookup (is_named t) es ≡ Some x → has_index_in n t x ≡ true → count (set_value (is_named t) es (without_index_in n t x)) < count es
  fewer t [] x here has = not_some (sym here)
  fewer t (e ∷ es) x here has =
      elim (is_named t e.0) as (λ b. is_named t e.0 ≡ b → cond b (Some e.1) (lookup (is_named t) es) ≡ Some x → count (cond b ((e.0, without_index_in n t x) ∷ es) (e ∷ set_value (is_named t) es (without_index_in n t x))) < count (e ∷ es)) [
        | true ↦ λ p q. less_here (has_index_in n e.0 (without_index_in n t x)) (has_index_in n e.0 e.1) (count es)
            (ap (λ m. has_index_in n e.0 (without_index_in n m x)) (same_name t e.0 p) ∙ none_left n e.0 x)
            (ap (has_index_in n e.0) (some_same q) ∙ ap (λ m. has_index_in n m x) (sym (same_name t e.0 p)) ∙ has)
        | false ↦ λ p q. less_later (cond (has_index_in n e.0 e.1) 1 0) _ _ (fewer t es x q has)
      ] refl here

first : (a b : Bool) → T (a && b) → T a
first true b h = tt
first false b h = absurd h

second : (a b : Bool) → T (a && b) → T b
second true b h = h
second false b h = absurd h

none_named : {X : Type 0} (t : Name) (p : Name → X → Bool) (es : List (Name × X)) → lookup (is_named t) es ≡ None → list_any (λ e. is_named t e.0 && p e.0 e.1) es ≡ false
none_named t p [] none = refl
none_named t p (e ∷ es) none =
    elim (is_named t e.0) as (λ b. cond b (Some e.1) (lookup (is_named t) es) ≡ None → ((b && p e.0 e.1) || list_any (λ e. is_named t e.0 && p e.0 e.1) es) ≡ false) [
      | true ↦ λ q. not_some q
      | false ↦ λ q. none_named t p es q
    ] none

-- what stands at a name, and passes a test
pub record Standing {X : Type 0} (t : Name) (p : X → Bool) (es : List (Name × X)) : Type 0 where
  pub it : X
  pub here : lookup (is_named t) es ≡ Some it
  pub has : p it ≡ true

-- in a sorted map, what is found at a name stands there
pub stands : {X : Type 0} (t : Name) (p : Name → X → Bool) (es : List (Name × X)) → T (is_sorted name_cmp es) → list_any (λ e. is_named t e.0 && p e.0 e.1) es ≡ true → Standing t (p t) es
stands t p [] rise has = true_false has refl
stands t p (e ∷ es) rise has = whether (is_named t e.0)
    (λ is. record { it = e.1; here = rw (is) refl; has = ap (λ m. p m e.1) (same_name t e.0 is) ∙ here (p e.0 e.1) (rw (is, gone is) at has) })
    (λ other. let x : Standing t (p t) es = stands t p es (second (below_all name_cmp e.0 es) (is_sorted name_cmp es) rise) (rw (other) at has) in record { it = x.it; here = rw (other) x.here; has = x.has }) where
      gone : is_named t e.0 ≡ true → list_any (λ f. is_named t f.0 && p f.0 f.1) es ≡ false
      gone is = none_named t p es (ap (λ m. lookup (is_named m) es) (same_name t e.0 is) ∙ below_gone e.0 es (first _ _ rise))

      here : (b : Bool) → (b || false) ≡ true → b ≡ true
      here true h = refl
      here false h = h

-- an entry that passes a test
pub any_at : {A : Type 0} (p : A → Bool) (xs : List A) (i : ℕ) (d x : A) → i < length xs → x ≡ get_or xs i d → p x ≡ true → list_any p xs ≡ true
any_at p [] i d x within is pass = absurd (omega arith)
any_at p (y ∷ xs) zero d x within is pass = ap (λ b. b || list_any p xs) (ap p (sym is) ∙ pass)
any_at p (y ∷ xs) (suc i) d x within is pass = behind (p y) _ (any_at p xs i d x (omega arith) is pass) where
  behind : (a b : Bool) → b ≡ true → (a || b) ≡ true
  behind true b h = refl
  behind false b h = h

-- what a look at the tables that are kept finds
pub there : (n t : Name) (es : List (Name × Stored)) (c : Catalogue) → tables_in es ≡ c.tables → IsStrictlySortedBy name_cmp (keys_of c.tables) → Finds n es (Some t) → Standing t (has_index_in n t) c.tables
there n t es c is rise found =
    stands t (has_index_in n) c.tables (sorted_entries c.tables rise)
    (ap (list_any (λ e. is_named t e.0 && has_index_in n e.0 e.1)) (sym is) ∙ any-map (λ e. is_named t e.0 && has_index_in n e.0 e.1) (λ (e : Name × Stored). (e.0, e.1.now)) es ∙ found)

pub nowhere : (n : Name) (es : List (Name × Stored)) (c : Catalogue) → tables_in es ≡ c.tables → Finds n es None → all_without n c ≡ c
nowhere n es c is none =
    ap (λ ts. record c { tables = ts }) (none_anywhere n c.tables (ap (list_any (λ e. has_index_in n e.0 e.1)) (sym is) ∙ any-map (λ e. has_index_in n e.0 e.1) (λ (e : Name × Stored). (e.0, e.1.now)) es ∙ none))

-- one table is without them, and so are all afterwards
pub one_done : (n t : Name) (c : Catalogue) (x : Table) → table_of c t ≡ Some x → all_without n (with_table c t (without_index_in n t (the_table c t))) ≡ all_without n c
one_done n t c x here =
    ap (λ y. all_without n (with_table c t (without_index_in n t y))) (ap (λ o. unwrap_or o no_table) here) ∙ ap (λ ts. record c { tables = ts }) (one_before n t c.tables x here)

pub still_ordered : (t : Name) (c : Catalogue) (x : Table) → IsStrictlySortedBy name_cmp (keys_of c.tables) → IsStrictlySortedBy name_cmp (keys_of (with_table c t x).tables)
still_ordered t c x rise = subst (IsStrictlySortedBy name_cmp) (sym (keys-set_value (is_named t) c.tables x)) rise

pub fewer_left : (n t : Name) (c : Catalogue) (x : Table) → table_of c t ≡ Some x → has_index_in n t x ≡ true → count n (with_table c t (without_index_in n t (the_table c t))).tables < count n c.tables
fewer_left n t c x here has = subst (λ y. count n (set_value (is_named t) c.tables (without_index_in n t y)) < count n c.tables) (sym (ap (λ o. unwrap_or o no_table) here)) (fewer n t c.tables x here has)

pub found_any : (n : Name) (es : List (Name × Stored)) (c : Catalogue) (o : Option Name) → tables_in es ≡ c.tables → Finds n es o → is_none o ≡ not (list_any (λ e. has_index_in n e.0 e.1) c.tables)
found_any n es c None is none = ap not (sym (ap (list_any (λ e. has_index_in n e.0 e.1)) (sym is) ∙ any-map (λ e. has_index_in n e.0 e.1) (λ (e : Name × Stored). (e.0, e.1.now)) es ∙ none))
found_any n es c (Some t) is found = ap not (sym (ap (list_any (λ e. has_index_in n e.0 e.1)) (sym is) ∙ any-map (λ e. has_index_in n e.0 e.1) (λ (e : Name × Stored). (e.0, e.1.now)) es ∙ one es found)) where
  one : (fs : List (Name × Stored)) → list_any (λ e. is_named t e.0 && has_index_in n e.0 e.1.now) fs ≡ true → list_any (λ e. has_index_in n e.0 e.1.now) fs ≡ true
  one [] h = h
  one (e ∷ fs) h = either (is_named t e.0) (has_index_in n e.0 e.1.now) _ _ h (one fs) where
    either : (a b x y : Bool) → ((a && b) || x) ≡ true → (x ≡ true → y ≡ true) → (b || y) ≡ true
    either true true x y h f = refl
    either true false x y h f = f h
    either false true x y h f = refl
    either false false x y h f = f h

-- what holds while one table after the other loses its indexes of the name
pub record Dropping (n : Name) (old now : History Catalogue) : Type 0 where
  pub rest : all_without n now.now ≡ all_without n old.now
  pub ordered : IsStrictlySortedBy name_cmp (keys_of now.now.tables)
  pub goes : Continues old now

pub starts : (n : Name) (h : History Catalogue) → IsStrictlySortedBy name_cmp (keys_of h.now.tables) → Dropping n h h
starts n h rise = record { rest = refl; ordered = rise; goes = stays h }

pub drops : (n t : Name) (old now : History Catalogue) (x : Table) → Dropping n old now → table_of now.now t ≡ Some x → Dropping n old (changed now (with_table now.now t (without_index_in n t (the_table now.now t))))
drops n t old now x so here = record {
  rest = one_done n t now.now x here ∙ so.rest;
  ordered = still_ordered t now.now _ so.ordered;
  goes = goes_one_further old now _ so.goes;
}

pub ends : (n : Name) (old now : History Catalogue) (es : List (Name × Stored)) → Dropping n old now → tables_in es ≡ now.now.tables → Finds n es None → now.now ≡ all_without n old.now
ends n old now es so is none = sym (nowhere n es now.now is none) ∙ so.rest

-- one turn: all still holds, and fewer tables have one
pub after : (n t : Name) (old now new : History Catalogue) (es : List (Name × Stored)) → Dropping n old now → tables_in es ≡ now.now.tables → Finds n es (Some t) → new ≡ changed now (with_table now.now t (without_index_in n t (the_table now.now t)))
    → Dropping n old new × (count n new.now.tables < count n now.now.tables)
after n t old now new es so is found made =
    let x = there n t es now.now is so.ordered found in
    (subst (Dropping n old) (sym made) (drops n t old now x.it so x.here), subst (λ (h : History Catalogue). count n h.now.tables < count n now.now.tables) (sym made) (fewer_left n t now.now x.it x.here x.has))
