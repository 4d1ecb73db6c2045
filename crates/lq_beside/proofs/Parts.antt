-- The entries of a map whose names pass a test.
use Rattle.std.proofs.Common.{ap, sym, ◌∙◌}
use Rattle.std.specs.BTreeMap.{insert_entry}
use Rattle.std.specs.FinMap.Entries.{below_all, is_sorted}
use Rattle.std.specs.List.{filter, list_any}
use Rattle.std.specs.Map.{lookup, remove_entry, set_value}
use Rattle.std.specs.Ordering.{is_lt}
use Rattle.std.specs.Prelude.{Bool, List, None, Option, Some, T, [], cond, false, map, not, refl, true, ◌&&◌, ◌||◌, ◌∷◌, ◌≡◌}
use Rattle.lq_base.specs.Name.{is_named, name_cmp}
use Rattle.lq_base.specs.declared.name.Name.{Name}
use Rattle.lq_model.proofs.Lists.{or_false, or_left, or_right, same_name, true_false}
use Rattle.lq_model.proofs.Maps.{lookup-insert_entry, same_maps, sorted-insert_entry}
use Rattle.lq_beside.specs.Beside.{only}

-- a test that fails for what is left out
pub any_only : {A : Type 0} (r g : A → Bool) (xs : List A) → list_any g (filter (λ x. not (r x)) xs) ≡ false → list_any g (filter r xs) ≡ list_any g xs
any_only r g [] h = refl
any_only r g (x ∷ xs) h =
    elim (r x) as (λ b. list_any g (cond (not b) (x ∷ filter (λ y. not (r y)) xs) (filter (λ y. not (r y)) xs)) ≡ false → list_any g (cond b (x ∷ filter r xs) (filter r xs)) ≡ list_any g (x ∷ xs)) [
      | true ↦ λ k. ap (λ b. g x || b) (any_only r g xs k)
      | false ↦ λ k. any_only r g xs (or_right (g x) _ k) ∙ ap (λ b. b || list_any g xs) (sym (or_left (g x) _ k))
    ] h

pub any_filtered : {A : Type 0} (r g : A → Bool) (xs : List A) → list_any g xs ≡ false → list_any g (filter r xs) ≡ false
any_filtered r g [] h = refl
any_filtered r g (x ∷ xs) h =
    elim (r x) as (λ b. list_any g (cond b (x ∷ filter r xs) (filter r xs)) ≡ false) [
      | true ↦ or_false _ _ (or_left (g x) _ h) (any_filtered r g xs (or_right (g x) _ h))
      | false ↦ any_filtered r g xs (or_right (g x) _ h)
    ]

-- two tests that are the same wherever a third fails
pub any_alike : {A : Type 0} (q f g : A → Bool) (xs : List A) → ((x : A) → q x ≡ false → f x ≡ g x) → list_any q xs ≡ false → list_any f xs ≡ list_any g xs
any_alike q f g [] h none = refl
any_alike q f g (x ∷ xs) h none = ap (λ b. b || list_any f xs) (h x (or_left (q x) _ none)) ∙ ap (λ b. g x || b) (any_alike q f g xs h (or_right (q x) _ none))

module _ {X : Type 0} (test r : Name → Bool) where
  -- what passes the first test passes the second
  module _ (inside : (k : Name) → test k ≡ true → r k ≡ true) where
    pub lookup_in : (es : List (Name × X)) → lookup test (only r es) ≡ lookup test es
    lookup_in [] = refl
    lookup_in (e ∷ es) =
        elim (r e.0) as (λ b. (test e.0 ≡ true → b ≡ true) → lookup test (cond b (e ∷ only r es) (only r es)) ≡ lookup test (e ∷ es)) [
          | true ↦ λ i. ap (cond (test e.0) (Some e.1)) (lookup_in es)
          | false ↦ λ i. elim (test e.0) as (λ t. (t ≡ true → false ≡ true) → lookup test (only r es) ≡ cond t (Some e.1) (lookup test es)) [
            | true ↦ λ j. true_false (j refl) refl
            | false ↦ λ j. lookup_in es
          ] i
        ] (inside e.0)

    pub set_in : (es : List (Name × X)) (v : X) → only r (set_value test es v) ≡ set_value test (only r es) v
    set_in [] v = refl
    set_in (e ∷ es) v =
        elim (test e.0) as (λ t. test e.0 ≡ t → only r (cond t ((e.0, v) ∷ es) (e ∷ set_value test es v)) ≡ set_value test (only r (e ∷ es)) v) [
          | true ↦ λ p. rw (inside e.0 p, p) refl
          | false ↦ λ p. elim (r e.0) as (λ b. cond b (e ∷ only r (set_value test es v)) (only r (set_value test es v)) ≡ set_value test (cond b (e ∷ only r es) (only r es)) v) [
            | true ↦ rw (p, set_in es v) refl
            | false ↦ set_in es v
          ]
        ] refl

    pub remove_in : (es : List (Name × X)) → only r (remove_entry test es) ≡ remove_entry test (only r es)
    remove_in [] = refl
    remove_in (e ∷ es) =
        elim (test e.0) as (λ t. test e.0 ≡ t → only r (cond t es (e ∷ remove_entry test es)) ≡ remove_entry test (only r (e ∷ es))) [
          | true ↦ λ p. rw (inside e.0 p, p) refl
          | false ↦ λ p. elim (r e.0) as (λ b. cond b (e ∷ only r (remove_entry test es)) (only r (remove_entry test es)) ≡ remove_entry test (cond b (e ∷ only r es) (only r es))) [
            | true ↦ rw (p, remove_in es) refl
            | false ↦ remove_in es
          ]
        ] refl

  -- what passes the first test fails the second
  module _ (outside : (k : Name) → test k ≡ true → r k ≡ false) where
    pub set_out : (es : List (Name × X)) (v : X) → only r (set_value test es v) ≡ only r es
    set_out [] v = refl
    set_out (e ∷ es) v =
        elim (test e.0) as (λ t. test e.0 ≡ t → only r (cond t ((e.0, v) ∷ es) (e ∷ set_value test es v)) ≡ only r (e ∷ es)) [
          | true ↦ λ p. rw (outside e.0 p) refl
          | false ↦ λ p. ap (λ fs. cond (r e.0) (e ∷ fs) fs) (set_out es v)
        ] refl

    pub remove_out : (es : List (Name × X)) → only r (remove_entry test es) ≡ only r es
    remove_out [] = refl
    remove_out (e ∷ es) =
        elim (test e.0) as (λ t. test e.0 ≡ t → only r (cond t es (e ∷ remove_entry test es)) ≡ only r (e ∷ es)) [
          | true ↦ λ p. rw (outside e.0 p) refl
          | false ↦ λ p. ap (λ fs. cond (r e.0) (e ∷ fs) fs) (remove_out es)
        ] refl

both : (a b : Bool) → T a → T b → T (a && b)
both true b p q = q
both false b p q = absurd p

first : (a b : Bool) → T (a && b) → T a
first true b p = tt
first false b p = p

second : (a b : Bool) → T (a && b) → T b
second true b p = p
second false b p = absurd p

module _ {X : Type 0} (r : Name → Bool) where
  below_only : (k : Name) (es : List (Name × X)) → T (below_all name_cmp k es) → T (below_all name_cmp k (only r es))
  below_only k [] h = tt
  below_only k (e ∷ es) h =
      elim (r e.0) as (λ b. T (below_all name_cmp k (cond b (e ∷ only r es) (only r es)))) [
        | true ↦ both _ _ (first _ _ h) (below_only k es (second (is_lt (name_cmp k e.0)) _ h))
        | false ↦ below_only k es (second (is_lt (name_cmp k e.0)) _ h)
      ]

  pub sorted_only : (es : List (Name × X)) → T (is_sorted name_cmp es) → T (is_sorted name_cmp (only r es))
  sorted_only [] h = tt
  sorted_only (e ∷ es) h =
      elim (r e.0) as (λ b. T (is_sorted name_cmp (cond b (e ∷ only r es) (only r es)))) [
        | true ↦ both _ _ (below_only e.0 es (first _ _ h)) (sorted_only es (second (below_all name_cmp e.0 es) _ h))
        | false ↦ sorted_only es (second (below_all name_cmp e.0 es) _ h)
      ]

  pub lookup_only : (es : List (Name × X)) (q : Name) → lookup (is_named q) (only r es) ≡ cond (r q) (lookup (is_named q) es) None
  lookup_only [] q = elim (r q) as (λ b. (let o : Option X = None in o) ≡ cond b None None) [ true ↦ refl | false ↦ refl ]
  lookup_only (e ∷ es) q =
      elim (is_named q e.0) as (λ t. is_named q e.0 ≡ t → lookup (is_named q) (only r (e ∷ es)) ≡ cond (r q) (cond t (Some e.1) (lookup (is_named q) es)) None) [
        | true ↦ λ p. elim (r q) as (λ b. r q ≡ b → lookup (is_named q) (only r (e ∷ es)) ≡ cond b (Some e.1) None) [
          | true ↦ λ i. rw (sym (ap r (same_name q e.0 p)) ∙ i, p) refl
          | false ↦ λ i. rw (sym (ap r (same_name q e.0 p)) ∙ i) (lookup_only es q ∙ ap (λ b. cond b (lookup (is_named q) es) None) i)
        ] refl
        | false ↦ λ p. elim (r e.0) as (λ b. lookup (is_named q) (cond b (e ∷ only r es) (only r es)) ≡ cond (r q) (lookup (is_named q) es) None) [
          | true ↦ ap (λ b. cond b (Some e.1) (lookup (is_named q) (only r es))) p ∙ lookup_only es q
          | false ↦ lookup_only es q
        ]
      ] refl

  module _ (es : List (Name × X)) (h : T (is_sorted name_cmp es)) (k : Name) (v : X) where
    pub insert_in : r k ≡ true → only r (insert_entry name_cmp es k v) ≡ insert_entry name_cmp (only r es) k v
    insert_in i =
        same_maps (only r (insert_entry name_cmp es k v)) (insert_entry name_cmp (only r es) k v)
        (sorted_only _ (sorted-insert_entry es k v h)) (sorted-insert_entry _ k v (sorted_only es h))
        (λ q.
        lookup_only (insert_entry name_cmp es k v) q
        ∙ ap (λ o. cond (r q) o None) (lookup-insert_entry es k v q)
        ∙ swapped q
        ∙ ap (cond (is_named q k) (Some v)) (sym (lookup_only es q))
        ∙ sym (lookup-insert_entry (only r es) k v q)) where
          swapped : (q : Name) → cond (r q) (cond (is_named q k) (Some v) (lookup (is_named q) es)) None ≡ cond (is_named q k) (Some v) (cond (r q) (lookup (is_named q) es) None)
          swapped q = elim (is_named q k) as (λ t. is_named q k ≡ t → cond (r q) (cond t (Some v) (lookup (is_named q) es)) None ≡ cond t (Some v) (cond (r q) (lookup (is_named q) es) None)) [
            | true ↦ λ p. ap (λ b. cond b (Some v) None) (ap r (same_name q k p) ∙ i)
            | false ↦ λ p. refl
          ] refl

    pub insert_out : r k ≡ false → only r (insert_entry name_cmp es k v) ≡ only r es
    insert_out o =
        same_maps (only r (insert_entry name_cmp es k v)) (only r es)
        (sorted_only _ (sorted-insert_entry es k v h)) (sorted_only es h)
        (λ q.
        lookup_only (insert_entry name_cmp es k v) q
        ∙ ap (λ x. cond (r q) x None) (lookup-insert_entry es k v q)
        ∙ dropped q
        ∙ sym (lookup_only es q)) where
          dropped : (q : Name) → cond (r q) (cond (is_named q k) (Some v) (lookup (is_named q) es)) None ≡ cond (r q) (lookup (is_named q) es) None
          dropped q = elim (is_named q k) as (λ t. is_named q k ≡ t → cond (r q) (cond t (Some v) (lookup (is_named q) es)) None ≡ cond (r q) (lookup (is_named q) es) None) [
            | true ↦ λ p. ap (λ b. cond b (Some v) None) (ap r (same_name q k p) ∙ o) ∙ ap (λ b. cond b (lookup (is_named q) es) None) (sym (ap r (same_name q k p) ∙ o))
            | false ↦ λ p. refl
          ] refl

  -- a change of the values
  pub map_only : (f : Name × X → X) (es : List (Name × X)) → only r (map (λ e. (e.0, f e)) es) ≡ map (λ e. (e.0, f e)) (only r es)
  map_only f [] = refl
  map_only f (e ∷ es) =
      elim (r e.0) as (λ b. cond b ((e.0, f e) ∷ only r (map (λ y. (y.0, f y)) es)) (only r (map (λ y. (y.0, f y)) es)) ≡ map (λ y. (y.0, f y)) (cond b (e ∷ only r es) (only r es))) [
        | true ↦ ap (λ fs. (e.0, f e) ∷ fs) (map_only f es)
        | false ↦ map_only f es
      ]
