-- Lemmas on where values stand.
use Rattle.std.proofs.Common.{ap, append_assoc, arith, get_or, sym, take, ◌∙◌, ◌≤◌}
use Rattle.std.specs.BTreeMap.{BTreeMap, Updates, get}
use Rattle.std.specs.List.{list_any}
use Rattle.std.specs.Prelude.{Bool, IfSome, List, None, Option, Some, [], cond, false, length, map, refl, suc, true, zero, ℕ, ◌+◌, ◌++◌, ◌<◌, ◌∷◌, ◌≡◌}
use Rattle.lq_base.specs.Name.{is_named}
use Rattle.lq_base.specs.declared.name.Name.{Name}
use Rattle.lq_base.specs.declared.value.Value.{Value}
use Rattle.lq_model.specs.Catalogue.{Table, is_null, picked, same_values}
use Rattle.lq_model.specs.declared.column.Column.{Column}
use Rattle.lq_model.specs.declared.constraint.ForeignKey.{ForeignKey}
use Rattle.lq_model.proofs.Lists.{append-nil}
use Rattle.lq_model.proofs.Maps.{not_some, some_same}
use Rattle.lq_parts.specs.Steps.{tables_of}
use Rattle.lq_rows.specs.Stored.{values_cmp, Stored}
use Rattle.lq_rows.proofs.SeenLemmas.{null_differs, same_values_back}
use Rattle.lq_deletes.specs.Places.{AreBare, ArePlaces, Gains, ShowsParents, is_place, key_linked, keys_linked, last_with, linked, or_else, parent_in, tables_linked, row_total, children_of}
use Rattle.lq_deletes.proofs.Keyed.{values_equal}

-- some numbers are noted, and the others are still to come
abbrev pub Noted : List Column → List Name → ℕ → List (List Value) → BTreeMap (List Value) ℕ → ℕ → List (List Value) → Type 0
Noted cs ns first rows places at rest = (v : List Value) → or_else (last_with at v (map (picked cs ns) rest)) (get values_cmp places v) ≡ last_with first v (map (picked cs ns) rows)

pub null_placed : (row : List Value) (places : BTreeMap (List Value) ℕ) (at : ℕ) → list_any is_null row ≡ true → (v : List Value) → get values_cmp places v ≡ cond (same_values v row) (Some at) (get values_cmp places v)
null_placed row places at h v = ap (λ b. cond b (Some at) (get values_cmp places v)) (sym (null_differs v row h))

pub placed : (row : List Value) (old new : BTreeMap (List Value) ℕ) (at : ℕ) → list_any is_null row ≡ false → Updates values_cmp old new row (Some at) → (v : List Value) → get values_cmp new v ≡ cond (same_values v row) (Some at) (get values_cmp old v)
placed row old new at h up v = up.0 v ∙ ap (λ b. cond b (Some at) (get values_cmp old v)) (values_equal row v h ∙ same_values_back row v)

-- the row that a foreign key aims at is still to come
abbrev pub Sought : ForeignKey → List (Name × Table) → ℕ → List (Name × Table) → Type 0
Sought f all at rest = (v : List Value) → parent_in f at rest v ≡ parent_in f 0 all v

-- places are below the end

last_below : (n : ℕ) (v : List Value) (ks : List (List Value)) (p : ℕ) → last_with n v ks ≡ Some p → p < n + length ks
last_below n v [] p h = not_some (sym h)
last_below n v (k ∷ ks) p h = at (last_with (n + 1) v ks) (same_values v k) refl h (λ m is. last_below (n + 1) v ks m is) where
  at : (o : Option ℕ) (b : Bool) → last_with (n + 1) v ks ≡ o → or_else o (cond b (Some n) None) ≡ Some p → ((m : ℕ) → last_with (n + 1) v ks ≡ Some m → m < n + 1 + length ks) → p < n + length (k ∷ ks)
  at (Some m) b is e later = let less = later m is in let same : m ≡ p = some_same e in omega (arith, less, same)
  at None true is e later = let same : n ≡ p = some_same e in omega (arith, same)
  at None false is e later = not_some (sym e)

parent_below : (f : ForeignKey) (n : ℕ) (es : List (Name × Table)) (v : List Value) (p : ℕ) → parent_in f n es v ≡ Some p → p < n + row_total es
parent_below f n [] v p h = not_some (sym h)
parent_below f n (e ∷ es) v p h = at (is_named f.table e.0) h (λ k. parent_below f (n + length e.1.rows) es v p k) where
  many : (rows : List (List Value)) → length (map (picked e.1.columns f.targets) rows) ≡ length rows
  many [] = refl
  many (r ∷ rows) = ap suc (many rows)

  at : (b : Bool) → cond b (last_with n v (map (picked e.1.columns f.targets) e.1.rows)) (parent_in f (n + length e.1.rows) es v) ≡ Some p → (parent_in f (n + length e.1.rows) es v ≡ Some p → p < n + length e.1.rows + row_total es) → p < n + (length e.1.rows + row_total es)
  at true k later = let less = last_below n v (map (picked e.1.columns f.targets) e.1.rows) p k in let same = many e.1.rows in omega (arith, less, same)
  at false k later = let less = later k in omega (arith, less)

pub parents_below : (f : ForeignKey) (all : List (Name × Table)) (places : BTreeMap (List Value) ℕ) (end : ℕ) → row_total all ≡ end → ShowsParents f 0 all places → ArePlaces end places
parents_below f all places end total shows v = at (get values_cmp places v) (sym (shows v)) where
  at : (o : Option ℕ) → parent_in f 0 all v ≡ o → IfSome o (λ p. p < end)
  at None is = tt
  at (Some p) is = let less = parent_below f 0 all v p is in omega (arith, less, total)

-- some rows are linked, and the others are still to come
abbrev pub Linked : (List Value → Option ℕ) → ℕ → List (List Value) → List (List ℕ) → List (List ℕ) → ℕ → List (List Value) → Type 0
Linked place first all old new at rest = (x : ℕ) → children_of new x ++ linked place at rest x ≡ children_of old x ++ linked place first all x

pub linked_one : (place : List Value → Option ℕ) (first : ℕ) (all : List (List Value)) (old mid new : List (List ℕ)) (at : ℕ) (k : List Value) (rest : List (List Value)) (p : Option ℕ) → p ≡ place k
    → ((x : ℕ) → children_of new x ≡ cond (is_place p x) (children_of mid x ++ at ∷ []) (children_of mid x)) → Linked place first all old mid at (k ∷ rest) → Linked place first all old new (at + 1) rest
linked_one place first all old mid new at k rest p its more is x =
    ap (λ xs. xs ++ linked place (at + 1) rest x) (more x ∙ ap (λ o. cond (is_place o x) (children_of mid x ++ at ∷ []) (children_of mid x)) its)
    ∙ by (is_place (place k) x)
    ∙ is x where
      by : (b : Bool) → cond b (children_of mid x ++ at ∷ []) (children_of mid x) ++ linked place (at + 1) rest x ≡ children_of mid x ++ cond b (at ∷ linked place (at + 1) rest x) (linked place (at + 1) rest x)
      by true = append_assoc (children_of mid x) (at ∷ []) (linked place (at + 1) rest x)
      by false = refl

pub linked_all : (place : List Value → Option ℕ) (first : ℕ) (all : List (List Value)) (old new : List (List ℕ)) (at : ℕ) → Linked place first all old new at [] → Gains (linked place first all) old new
linked_all place first all old new at is = record { has = λ x. sym (append-nil (children_of new x)) ∙ is x }

-- what several gain

pub gains_none : (more : ℕ → List ℕ) (edges : List (List ℕ)) → ((x : ℕ) → more x ≡ []) → Gains more edges edges
gains_none more edges none = record { has = λ x. sym (append-nil (children_of edges x)) ∙ ap (λ xs. children_of edges x ++ xs) (sym (none x)) }

pub gains_more : (f g h : ℕ → List ℕ) (old mid new : List (List ℕ)) → Gains f old mid → Gains g mid new → ((x : ℕ) → h x ≡ f x ++ g x) → Gains h old new
gains_more f g h old mid new first next both = record {
  has = λ x. next.has x ∙ ap (λ xs. xs ++ g x) (first.has x) ∙ append_assoc (children_of old x) (f x) (g x) ∙ ap (λ xs. children_of old x ++ xs) (sym (both x));
}

linked_same : (p q : List Value → Option ℕ) (n : ℕ) (ks : List (List Value)) (x : ℕ) → ((v : List Value) → p v ≡ q v) → linked p n ks x ≡ linked q n ks x
linked_same p q n [] x same = refl
linked_same p q n (k ∷ ks) x same = λ i. cond (is_place (same k i) x) (n ∷ linked_same p q (n + 1) ks x same i) (linked_same p q (n + 1) ks x same i)

module _ (all : List (Name × Table)) where
  pub key_none : (n : ℕ) (it : Table) (f : ForeignKey) (edges : List (List ℕ)) → f.cascade ≡ false → Gains (key_linked all n it f) edges edges
  unfolding key_linked
  key_none n it f edges none = gains_none (key_linked all n it f) edges (λ x. ap (λ b. cond b (linked (parent_in f 0 all) n (map (picked it.columns f.columns) it.rows) x) []) none)

  pub key_some : (n : ℕ) (it : Table) (f : ForeignKey) (places : BTreeMap (List Value) ℕ) (old new : List (List ℕ)) → f.cascade ≡ true → ShowsParents f 0 all places
      → Gains (linked (get values_cmp places) n (map (picked it.columns f.columns) it.rows)) old new → Gains (key_linked all n it f) old new
  unfolding key_linked
  key_some n it f places old new is shows gains = record {
    has = λ x. gains.has x ∙ ap (λ xs. children_of old x ++ xs) (
        linked_same (get values_cmp places) (parent_in f 0 all) n (map (picked it.columns f.columns) it.rows) x shows
        ∙ sym (ap (λ b. cond b (linked (parent_in f 0 all) n (map (picked it.columns f.columns) it.rows) x) []) is));
  }

  pub keys_none : (n : ℕ) (it : Table) (edges : List (List ℕ)) → Gains (keys_linked all n it []) edges edges
  unfolding keys_linked
  keys_none n it edges = gains_none (keys_linked all n it []) edges (λ x. refl)

  keys_more : (n : ℕ) (it : Table) (fs : List ForeignKey) (f : ForeignKey) (x : ℕ) → keys_linked all n it (fs ++ f ∷ []) x ≡ keys_linked all n it fs x ++ key_linked all n it f x
  unfolding keys_linked
  keys_more n it [] f x = append-nil (key_linked all n it f x)
  keys_more n it (g ∷ fs) f x = ap (λ xs. key_linked all n it g x ++ xs) (keys_more n it fs f x) ∙ sym (append_assoc (key_linked all n it g x) (keys_linked all n it fs x) (key_linked all n it f x))

  pub keys_one : (n : ℕ) (it : Table) (fs : List ForeignKey) (f : ForeignKey) (old mid new : List (List ℕ)) → Gains (keys_linked all n it fs) old mid → Gains (key_linked all n it f) mid new → Gains (keys_linked all n it (fs ++ f ∷ [])) old new
  keys_one n it fs f old mid new first next = gains_more (keys_linked all n it fs) (key_linked all n it f) (keys_linked all n it (fs ++ f ∷ [])) old mid new first next (keys_more n it fs f)

  pub tables_none : (edges : List (List ℕ)) → AreBare edges → Gains (tables_linked all 0 []) [] edges
  unfolding tables_linked
  tables_none edges bare = record { has = λ x. bare.none x }

  tables_more : (n : ℕ) (es : List (Name × Table)) (e : Name × Table) (m x : ℕ) → m ≡ n + row_total es → tables_linked all n (es ++ e ∷ []) x ≡ tables_linked all n es x ++ keys_linked all m e.1 e.1.foreign x
  unfolding tables_linked
  tables_more n [] e m x is = append-nil (keys_linked all n e.1 e.1.foreign x) ∙ ap (λ k. keys_linked all k e.1 e.1.foreign x) (let same : n ≡ m = omega (arith, is) in same)
  tables_more n (d ∷ es) e m x is =
      ap (λ xs. keys_linked all n d.1 d.1.foreign x ++ xs) (tables_more (n + length d.1.rows) es e m x (omega (arith, is)))
      ∙ sym (append_assoc (keys_linked all n d.1 d.1.foreign x) (tables_linked all (n + length d.1.rows) es x) (keys_linked all m e.1 e.1.foreign x))

  pub tables_one : (es : List (Name × Table)) (e : Name × Table) (n : ℕ) (mid new : List (List ℕ)) → n ≡ row_total es → Gains (tables_linked all 0 es) [] mid → Gains (keys_linked all n e.1 e.1.foreign) mid new → Gains (tables_linked all 0 (es ++ e ∷ [])) [] new
  tables_one es e n mid new is first next = gains_more (tables_linked all 0 es) (keys_linked all n e.1 e.1.foreign) (tables_linked all 0 (es ++ e ∷ [])) [] mid new first next (λ x. tables_more 0 es e n x (let same : n ≡ 0 + row_total es = omega (arith, is) in same))

-- the number of rows of several tables and of one more
pub total_more : (es : List (Name × Table)) (e : Name × Table) → row_total (es ++ e ∷ []) ≡ row_total es + length e.1.rows
total_more [] e = omega arith
total_more (d ∷ es) e = let more = total_more es e in omega (arith, more)

-- the first tables and one more have no more rows than all
pub total_within : (es : List (Name × Stored)) (i : ℕ) (e : Name × Stored) → i < length es → e ≡ get_or es i e → row_total (tables_of (take i es)) + length e.1.now.rows ≤ row_total (tables_of es)
total_within [] i e le is = absurd (omega (arith, le))
total_within (d ∷ es) zero e le is = let same = ap (λ (x : Name × Stored). length x.1.now.rows) is in omega (arith, same)
total_within (d ∷ es) (suc i) e le is = let more = total_within es i e (omega (arith, le)) is in omega (arith, more)
