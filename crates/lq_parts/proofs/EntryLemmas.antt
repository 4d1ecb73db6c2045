-- Lemmas on entries in the order of their names.
use Rattle.std.proofs.Common.{Bool, List, None, Some, [], ap, arith, cond, false, is_eq, is_le, is_some, length, length-append, not, refl, slice_index_or, slice_set, subst, suc, sym, true, true≢false, zero, ℕ, ◌+◌, ◌++◌, ◌∙◌, ◌∷◌, ◌≡◌, ◌≤◌, ◌<◌, ◌&&◌}
use Rattle.std.proofs.Math.Seq.{get_or-append_seam}
use Rattle.std.proofs.lemmas.List.Sums.{prefix_len-le-length}
use Rattle.std.specs.BTreeMap.{insert_entry}
use Rattle.std.specs.Cmp.Lexicographic.{nat_list_cmp_total}
use Rattle.std.specs.FinMap.Entries.{below_all, is_sorted}
use Rattle.std.specs.List.{AllWithin, insert, position_or_len, remove}
use Rattle.std.specs.List.Sorted.{IsPartitionedBy}
use Rattle.std.specs.Map.{lookup, remove_entry, set_value}
use Rattle.std.specs.Ordering.{is_lt, match_ordering, ordering_reverse}
use Rattle.std.specs.Prelude.{T}
use Rattle.std.specs.declared.cmp.Ordering.{Ordering}
use Rattle.std.specs.declared.cmp.Ordering.TheVariants.{Equal, Greater, Less}
use Rattle.lq_base.specs.Name.{is_named, name_cmp}
use Rattle.lq_base.specs.declared.name.Name.{Name}
use Rattle.lq_model.proofs.Maps.{below_gone, not_some, sorted-insert_entry, sorted-remove_entry}
use Rattle.lq_parts.specs.Taken.{IsOrdered, place_of, position_of, values_by}

both : (a b : Bool) → T a → T b → T (a && b)
both true b p q = q
both false b p q = absurd p

first : (a b : Bool) → T (a && b) → T a
first true b p = tt
first false b p = p

second : (a b : Bool) → T (a && b) → T b
second true b p = p
second false b p = absurd p

is_less : (r : Ordering) → T (is_lt r) → r ≡ Less
is_less Less h = refl
is_less Equal h = absurd h
is_less Greater h = absurd h

less_is : (r : Ordering) → is_lt r ≡ true → r ≡ Less
less_is Less h = refl
less_is Equal h = absurd (true≢false (sym h))
less_is Greater h = absurd (true≢false (sym h))

at_most : (r : Ordering) → is_le (ordering_reverse r) ≡ not (is_lt r)
at_most Less = refl
at_most Equal = refl
at_most Greater = refl

-- at most is not greater
pub le_is : (a b : Name) → is_le (name_cmp a b) ≡ not (is_lt (name_cmp b a))
le_is a b = ap is_le (nat_list_cmp_total.antisymm a b) ∙ at_most (name_cmp b a)

-- an item put in, taken out, or put in the place of another

pub remove-insert : {A : Type 0} (xs : List A) (at : ℕ) (x : A) → at ≤ length xs → remove (insert xs at x) at ≡ xs
remove-insert xs zero x le = refl
remove-insert [] (suc at) x le = absurd (omega (arith, le))
remove-insert (y ∷ xs) (suc at) x le = ap (λ ys. y ∷ ys) (remove-insert xs at x (omega (arith, le)))

pub insert-remove : {A : Type 0} (xs : List A) (at : ℕ) (x : A) → at < length xs → x ≡ slice_index_or xs at x → insert (remove xs at) at x ≡ xs
insert-remove [] at x less e = absurd (omega (arith, less))
insert-remove (y ∷ xs) zero x less e = ap (λ z. z ∷ xs) e
insert-remove (y ∷ xs) (suc at) x less e = ap (λ ys. y ∷ ys) (insert-remove xs at x (omega (arith, less)) e)

pub longer : {A : Type 0} (xs : List A) (at : ℕ) (x : A) → at ≤ length xs → length (insert xs at x) ≡ suc (length xs)
longer xs zero x le = refl
longer [] (suc at) x le = absurd (omega (arith, le))
longer (y ∷ xs) (suc at) x le = ap suc (longer xs at x (omega (arith, le)))

pub shorter : {A : Type 0} (xs : List A) (at : ℕ) → at < length xs → suc (length (remove xs at)) ≡ length xs
shorter [] at less = absurd (omega (arith, less))
shorter (y ∷ xs) zero less = refl
shorter (y ∷ xs) (suc at) less = ap suc (shorter xs at (omega (arith, less)))

pub within : {A : Type 0} (p : A → Bool) (xs : List A) → position_or_len p xs ≤ length xs
within p xs = prefix_len-le-length _ xs

module _ {X : Type 0} where
  -- the binary search

  below_less : (x y : Name) (es : List (Name × X)) → name_cmp x y ≡ Less → T (below_all name_cmp y es) → T (below_all name_cmp x es)
  below_less x y [] less h = tt
  below_less x y (e ∷ es) less h =
      both _ _ (subst (λ r. T (is_lt r)) (sym (nat_list_cmp_total.trans x y e.0 less (is_less _ (first _ _ h)))) tt) (below_less x y es less (second _ _ h))

  below_at : (x : Name) (es : List (Name × X)) (at : ℕ) (d : Name × X) → T (below_all name_cmp x es) → at < length es → name_cmp x (slice_index_or es at d).0 ≡ Less
  below_at x [] at d h less = absurd (omega (arith, less))
  below_at x (e ∷ es) zero d h less = is_less _ (first _ _ h)
  below_at x (e ∷ es) (suc at) d h less = below_at x es at d (second _ _ h) (omega (arith, less))

  -- the entries below a name come first
  pub parted : (n : Name) (es : List (Name × X)) → IsOrdered es → IsPartitionedBy (λ e. is_lt (name_cmp e.0 n)) es
  parted n [] h i j d le less p = absurd (omega (arith, less))
  parted n (e ∷ es) h zero zero d le less p = p
  parted n (e ∷ es) h zero (suc j) d le less p =
      ap is_lt (nat_list_cmp_total.trans e.0 (slice_index_or es j d).0 n (below_at e.0 es j d (first _ _ h) (omega (arith, less))) (less_is _ p))
  parted n (e ∷ es) h (suc i) zero d le less p = absurd (omega (arith, le))
  parted n (e ∷ es) h (suc i) (suc j) d le less p = parted n es (second (below_all name_cmp e.0 es) _ h) i j d (omega (arith, le)) (omega (arith, less)) p

  pub place_is : (n : Name) (es : List (Name × X)) (i : ℕ) → i ≤ length es → AllWithin (λ e. is_lt (name_cmp e.0 n) ≡ true) es 0 i → AllWithin (λ e. is_lt (name_cmp e.0 n) ≡ false) es i (length es) → i ≡ place_of n es
  place_is n [] i le low high = omega (arith, le)
  place_is n (e ∷ es) zero le low high =
      let some : 0 < suc (length es) = omega arith in
      let none : 0 ≤ 0 = omega arith in
      let stops : is_le (name_cmp n e.0) ≡ true = le_is n e.0 ∙ ap not (high 0 e none some) in
      sym (ap (λ b. cond (not b) (1 + place_of n es) 0) stops)
  place_is n (e ∷ es) (suc i) le low high =
      let some : 0 < suc i = omega arith in
      let none : 0 ≤ 0 = omega arith in
      let goes : is_le (name_cmp n e.0) ≡ false = le_is n e.0 ∙ ap not (low 0 e none some) in
      let rest : i ≡ place_of n es = place_is n es i (omega (arith, le)) (λ k d a b. low (suc k) d (omega arith) (omega (arith, b))) (λ k d a b. high (suc k) d (omega (arith, a)) (omega (arith, b))) in
      let one : suc (place_of n es) ≡ 1 + place_of n es = omega arith in
      ap suc rest ∙ one ∙ sym (ap (λ b. cond (not b) (1 + place_of n es) 0) goes)

  -- a name behind all entries
  pub place_end : (n : Name) (es front : List (Name × X)) (last : Name × X) → IsOrdered es → es ≡ front ++ last ∷ [] → is_lt (name_cmp last.0 n) ≡ true → length es ≡ place_of n es
  place_end n es front last ordered is less =
      let count : length es ≡ length front + 1 = ap length is ∙ length-append front (last ∷ []) in
      let within : length front < length es = omega (arith, count) in
      let last_less : (d : Name × X) → is_lt (name_cmp (slice_index_or es (length front) d).0 n) ≡ true = λ d.
      ap (λ (xs : List (Name × X)). is_lt (name_cmp (slice_index_or xs (length front) d).0 n)) is ∙ (ap (λ (e : Name × X). is_lt (name_cmp e.0 n)) (get_or-append_seam front last [] d) ∙ less)
      in
      place_is n es (length es) (omega arith) (λ k d a b. parted n es ordered k (length front) d (omega (arith, b, count)) within (last_less d)) (λ k d a b. absurd (omega (arith, a, b)))

  -- what stands there

  pub found_end : (k : Name) (es : List (Name × X)) → place_of k es ≡ length es → lookup (is_named k) es ≡ None
  found_end k [] is = refl
  found_end k (e ∷ es) is = at (λ i. found_end k es i) (name_cmp k e.0) is where
    at : (place_of k es ≡ length es → lookup (is_named k) es ≡ None) → (o : Ordering) → cond (not (is_le o)) (1 + place_of k es) 0 ≡ suc (length es) → cond (is_eq o) (Some e.1) (lookup (is_named k) es) ≡ None
    at more Less is = absurd (omega (arith, is))
    at more Equal is = absurd (omega (arith, is))
    at more Greater is = more (omega (arith, is))

  pub found_at : (k : Name) (es : List (Name × X)) (x : Name × X) → IsOrdered es → place_of k es < length es → x ≡ slice_index_or es (place_of k es) x → lookup (is_named k) es ≡ cond (is_named k x.0) (Some x.1) None
  found_at k [] x h less is = absurd (omega (arith, less))
  found_at k (e ∷ es) x h less is = at (λ l i. found_at k es x (second (below_all name_cmp e.0 es) _ h) l i) (name_cmp k e.0) refl less is where
    at : (place_of k es < length es → x ≡ slice_index_or es (place_of k es) x → lookup (is_named k) es ≡ cond (is_named k x.0) (Some x.1) None) → (o : Ordering) → name_cmp k e.0 ≡ o
        → cond (not (is_le o)) (1 + place_of k es) 0 < suc (length es) → x ≡ slice_index_or (e ∷ es) (cond (not (is_le o)) (1 + place_of k es) 0) x → cond (is_eq o) (Some e.1) (lookup (is_named k) es) ≡ cond (is_named k x.0) (Some x.1) None
    at more Less o less is =
        below_gone k es (below_less k e.0 es o (first _ _ h))
        ∙ sym (ap (λ (z : Name × X). cond (is_named k z.0) (Some z.1) None) is ∙ ap (λ r. cond (is_eq r) (Some e.1) None) o)
    at more Equal o less is = sym (ap (λ (z : Name × X). cond (is_named k z.0) (Some z.1) None) is ∙ ap (λ r. cond (is_eq r) (Some e.1) None) o)
    at more Greater o less is = let one : 1 + place_of k es ≡ suc (place_of k es) = omega arith in
        more (omega (arith, less)) (subst (λ n. x ≡ slice_index_or (e ∷ es) n x) one is)

  pub place_is_position : (k : Name) (es : List (Name × X)) → IsOrdered es → is_some (lookup (is_named k) es) ≡ true → place_of k es ≡ position_of k es
  place_is_position k [] h some = refl
  place_is_position k (e ∷ es) h some = at (λ s. place_is_position k es (second (below_all name_cmp e.0 es) _ h) s) (name_cmp k e.0) refl some where
    at : (is_some (lookup (is_named k) es) ≡ true → place_of k es ≡ position_of k es) → (o : Ordering) → name_cmp k e.0 ≡ o → is_some (cond (is_eq o) (Some e.1) (lookup (is_named k) es)) ≡ true
        → cond (not (is_le o)) (1 + place_of k es) 0 ≡ cond (not (is_eq o)) (1 + position_of k es) 0
    at more Less o some = absurd (true≢false (sym some ∙ ap is_some (below_gone k es (below_less k e.0 es o (first _ _ h)))))
    at more Equal o some = refl
    at more Greater o some = ap (λ n. 1 + n) (more some)

  pub stands : (k : Name) (es : List (Name × X)) → is_some (lookup (is_named k) es) ≡ true → position_of k es < length es
  stands k [] some = absurd (true≢false (sym some))
  stands k (e ∷ es) some = at (λ s. stands k es s) (is_named k e.0) some where
    at : (is_some (lookup (is_named k) es) ≡ true → position_of k es < length es) → (b : Bool) → is_some (cond b (Some e.1) (lookup (is_named k) es)) ≡ true → cond (not b) (1 + position_of k es) 0 < suc (length es)
    at more true some = omega arith
    at more false some = let less = more some in omega (arith, less)

  -- an entry put in its place, taken away, changed

  pub insert_at_place : (k : Name) (x : X) (es : List (Name × X)) → lookup (is_named k) es ≡ None → insert es (place_of k es) (k, x) ≡ insert_entry name_cmp es k x
  insert_at_place k x [] none = refl
  insert_at_place k x (e ∷ es) none = at (λ n. insert_at_place k x es n) (name_cmp k e.0) none where
    at : (lookup (is_named k) es ≡ None → insert es (place_of k es) (k, x) ≡ insert_entry name_cmp es k x) → (o : Ordering) → cond (is_eq o) (Some e.1) (lookup (is_named k) es) ≡ None
        → insert (e ∷ es) (cond (not (is_le o)) (1 + place_of k es) 0) (k, x) ≡ match_ordering o ((k, x) ∷ e ∷ es) ((e.0, x) ∷ es) (e ∷ insert_entry name_cmp es k x)
    at more Less none = refl
    at more Equal none = not_some none
    at more Greater none = let one : suc (place_of k es) ≡ 1 + place_of k es = omega arith in
        subst (λ n. insert (e ∷ es) n (k, x) ≡ e ∷ insert_entry name_cmp es k x) one (ap (λ fs. e ∷ fs) (more none))

  pub remove_at : (k : Name) (es : List (Name × X)) → remove es (position_of k es) ≡ remove_entry (is_named k) es
  remove_at k [] = refl
  remove_at k (e ∷ es) = at (remove_at k es) (is_named k e.0) where
    at : remove es (position_of k es) ≡ remove_entry (is_named k) es → (b : Bool) → remove (e ∷ es) (cond (not b) (1 + position_of k es) 0) ≡ cond b es (e ∷ remove_entry (is_named k) es)
    at more true = refl
    at more false = let one : suc (position_of k es) ≡ 1 + position_of k es = omega arith in
        subst (λ n. remove (e ∷ es) n ≡ e ∷ remove_entry (is_named k) es) one (ap (λ fs. e ∷ fs) more)

  pub set_at : (k : Name) (es : List (Name × X)) (x : Name × X) (y : X) → x ≡ slice_index_or es (position_of k es) x → slice_set es (position_of k es) (x.0, y) ≡ set_value (is_named k) es y
  set_at k [] x y is = refl
  set_at k (e ∷ es) x y is = at (λ i. set_at k es x y i) (is_named k e.0) is where
    at : (x ≡ slice_index_or es (position_of k es) x → slice_set es (position_of k es) (x.0, y) ≡ set_value (is_named k) es y) → (b : Bool)
        → x ≡ slice_index_or (e ∷ es) (cond (not b) (1 + position_of k es) 0) x → slice_set (e ∷ es) (cond (not b) (1 + position_of k es) 0) (x.0, y) ≡ cond b ((e.0, y) ∷ es) (e ∷ set_value (is_named k) es y)
    at more true is = ap (λ (z : Name × X). (z.0, y) ∷ es) is
    at more false is = let one : suc (position_of k es) ≡ 1 + position_of k es = omega arith in
        subst (λ n. x ≡ slice_index_or (e ∷ es) n x → slice_set (e ∷ es) n (x.0, y) ≡ e ∷ set_value (is_named k) es y) one (λ i. ap (λ fs. e ∷ fs) (more i)) is

  pub at_position : (k : Name) (es : List (Name × X)) (x : Name × X) → is_some (lookup (is_named k) es) ≡ true → x ≡ slice_index_or es (position_of k es) x → lookup (is_named k) es ≡ Some x.1
  at_position k [] x some is = absurd (true≢false (sym some))
  at_position k (e ∷ es) x some is = at (λ s i. at_position k es x s i) (is_named k e.0) some is where
    at : (is_some (lookup (is_named k) es) ≡ true → x ≡ slice_index_or es (position_of k es) x → lookup (is_named k) es ≡ Some x.1) → (b : Bool)
        → is_some (cond b (Some e.1) (lookup (is_named k) es)) ≡ true → x ≡ slice_index_or (e ∷ es) (cond (not b) (1 + position_of k es) 0) x → cond b (Some e.1) (lookup (is_named k) es) ≡ Some x.1
    at more true some is = ap (λ (y : Name × X). Some y.1) (sym is)
    at more false some is = let one : 1 + position_of k es ≡ suc (position_of k es) = omega arith in
        more some (subst (λ n. x ≡ slice_index_or (e ∷ es) n x) one is)

  -- they stay in order

  pub ordered_put : (k : Name) (x : X) (es : List (Name × X)) → lookup (is_named k) es ≡ None → IsOrdered es → IsOrdered (insert es (place_of k es) (k, x))
  ordered_put k x es none h = subst IsOrdered (sym (insert_at_place k x es none)) (sorted-insert_entry es k x h)

  pub ordered_less : (k : Name) (es : List (Name × X)) → IsOrdered es → IsOrdered (remove es (position_of k es))
  ordered_less k es h = subst IsOrdered (sym (remove_at k es)) (sorted-remove_entry k es h)

  below_set : (n : Name) (es : List (Name × X)) (at : ℕ) (x : Name × X) (y : X) → x ≡ slice_index_or es at x → below_all name_cmp n (slice_set es at (x.0, y)) ≡ below_all name_cmp n es
  below_set n [] at x y is = refl
  below_set n (e ∷ es) zero x y is = ap (λ (z : Name × X). is_lt (name_cmp n z.0) && below_all name_cmp n es) is
  below_set n (e ∷ es) (suc at) x y is = ap (λ b. is_lt (name_cmp n e.0) && b) (below_set n es at x y is)

  sorted_set : (es : List (Name × X)) (at : ℕ) (x : Name × X) (y : X) → x ≡ slice_index_or es at x → is_sorted name_cmp (slice_set es at (x.0, y)) ≡ is_sorted name_cmp es
  sorted_set [] at x y is = refl
  sorted_set (e ∷ es) zero x y is = ap (λ (z : Name × X). below_all name_cmp z.0 es && is_sorted name_cmp es) is
  sorted_set (e ∷ es) (suc at) x y is = ap (λ b. b && is_sorted name_cmp (slice_set es at (x.0, y))) (below_set e.0 es at x y is) ∙ ap (λ b. below_all name_cmp e.0 es && b) (sorted_set es at x y is)

  pub ordered_set : (es : List (Name × X)) (at : ℕ) (x : Name × X) (y : X) → x ≡ slice_index_or es at x → IsOrdered es → IsOrdered (slice_set es at (x.0, y))
  ordered_set es at x y is h = subst T (sym (sorted_set es at x y is)) h

module _ {X Y : Type 0} (f : X → Y) where
  -- the same of the entries with other values

  pub insert_values : (es : List (Name × X)) (k : Name) (x : X) → values_by f (insert_entry name_cmp es k x) ≡ insert_entry name_cmp (values_by f es) k (f x)
  insert_values [] k x = refl
  insert_values (e ∷ es) k x =
      elim (name_cmp k e.0) as (λ r. values_by f (match_ordering r ((k, x) ∷ e ∷ es) ((e.0, x) ∷ es) (e ∷ insert_entry name_cmp es k x)) ≡ match_ordering r ((k, f x) ∷ values_by f (e ∷ es)) ((e.0, f x) ∷ values_by f es) ((e.0, f e.1) ∷ insert_entry name_cmp (values_by f es) k (f x))) [
        | Less ↦ refl
        | Equal ↦ refl
        | Greater ↦ ap (λ fs. (e.0, f e.1) ∷ fs) (insert_values es k x)
      ]

  pub remove_values : (es : List (Name × X)) (k : Name) → values_by f (remove_entry (is_named k) es) ≡ remove_entry (is_named k) (values_by f es)
  remove_values [] k = refl
  remove_values (e ∷ es) k =
      elim (is_named k e.0) as (λ b. values_by f (cond b es (e ∷ remove_entry (is_named k) es)) ≡ cond b (values_by f es) ((e.0, f e.1) ∷ remove_entry (is_named k) (values_by f es))) [
        | true ↦ refl
        | false ↦ ap (λ fs. (e.0, f e.1) ∷ fs) (remove_values es k)
      ]

  pub set_values : (es : List (Name × X)) (k : Name) (x : X) → values_by f (set_value (is_named k) es x) ≡ set_value (is_named k) (values_by f es) (f x)
  set_values [] k x = refl
  set_values (e ∷ es) k x =
      elim (is_named k e.0) as (λ b. values_by f (cond b ((e.0, x) ∷ es) (e ∷ set_value (is_named k) es x)) ≡ cond b ((e.0, f x) ∷ values_by f es) ((e.0, f e.1) ∷ set_value (is_named k) (values_by f es) (f x))) [
        | true ↦ refl
        | false ↦ ap (λ fs. (e.0, f e.1) ∷ fs) (set_values es k x)
      ]
