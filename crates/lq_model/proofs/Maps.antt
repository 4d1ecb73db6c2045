-- Finite maps from names, as lists of entries.
use Rattle.std.proofs.Common.{ap, sym, ◌∙◌}
use Rattle.std.specs.BTreeMap.{insert_entry}
use Rattle.std.specs.Cmp.Lexicographic.{nat_list_cmp_total}
use Rattle.std.specs.FinMap.{nat_cmp-IsAntisymmetric, slice_cmp-IsAntisymmetric}
use Rattle.std.specs.FinMap.Entries.{below_all, by_order, find, find-put, is_sorted, is_sorted-put, put, same_entries}
use Rattle.std.specs.List.{AllByRecursion, list_any}
use Rattle.std.specs.List.Sorted.{IsStrictlySortedBy}
use Rattle.std.specs.Map.{keys_of, lookup, remove_entry, set_value}
use Rattle.std.specs.Option.{option_map, unwrap_or}
use Rattle.std.specs.Ordering.{is_eq, is_lt, match_ordering}
use Rattle.std.specs.Prelude.{Bool, List, None, Option, Some, T, [], cond, false, is_some, map, refl, true, ◌&&◌, ◌||◌, ◌∷◌, ◌≡◌}
use Rattle.std.specs.declared.cmp.Ordering.{Ordering}
use Rattle.std.specs.declared.cmp.Ordering.TheVariants.{Equal, Greater, Less}
use Rattle.lq_base.specs.Name.{is_named, name_cmp}
use Rattle.lq_base.specs.declared.name.Name.{Name}
use Rattle.lq_model.specs.Catalogue.{is_in}
use Rattle.lq_model.proofs.Lists.{or_false, or_left, or_right, other_way, same_name, true_false}

pub not_some : {A X : Type 0} {x : X} → (let o : Option X = Some x in o) ≡ None → A
not_some e = absurd (clash e) where
  clash : {X : Type 0} {x : X} → (let o : Option X = Some x in o) ≡ None → ⊥
  clash e = Prim.cc

pub some_same : {X : Type 0} {x y : X} → (let o : Option X = Some x in o) ≡ Some y → x ≡ y
some_same e = Prim.cc

module _ {K X : Type 0} (test : K → Bool) where
  pub lookup-set_value : (es : List (K × X)) (x y : X) → lookup test es ≡ Some x → lookup test (set_value test es y) ≡ Some y
  lookup-set_value [] x y h = not_some (sym h)
  lookup-set_value (e ∷ es) x y h =
      elim (test e.0) as (λ b. test e.0 ≡ b → cond b (Some e.1) (lookup test es) ≡ Some x → lookup test (cond b ((e.0, y) ∷ es) (e ∷ set_value test es y)) ≡ Some y) [
        | true ↦ λ t q. ap (λ b. cond b (Some y) (lookup test es)) t
        | false ↦ λ t q. ap (λ b. cond b (Some e.1) (lookup test (set_value test es y))) t ∙ lookup-set_value es x y q
      ] refl h

  pub set_value-itself : (es : List (K × X)) (x : X) → lookup test es ≡ Some x → set_value test es x ≡ es
  set_value-itself [] x h = refl
  set_value-itself (e ∷ es) x h =
      elim (test e.0) as (λ b. cond b (Some e.1) (lookup test es) ≡ Some x → cond b ((e.0, x) ∷ es) (e ∷ set_value test es x) ≡ e ∷ es) [
        | true ↦ λ q. ap (λ y. (e.0, y) ∷ es) (ap (λ o. unwrap_or o x) (sym q))
        | false ↦ λ q. ap (λ fs. e ∷ fs) (set_value-itself es x q)
      ] h

  pub set_value-set_value : (es : List (K × X)) (x y : X) → set_value test (set_value test es x) y ≡ set_value test es y
  set_value-set_value [] x y = refl
  set_value-set_value (e ∷ es) x y =
      elim (test e.0) as (λ b. test e.0 ≡ b → set_value test (cond b ((e.0, x) ∷ es) (e ∷ set_value test es x)) y ≡ cond b ((e.0, y) ∷ es) (e ∷ set_value test es y)) [
        | true ↦ λ t. ap (λ b. cond b ((e.0, y) ∷ es) ((e.0, x) ∷ set_value test es y)) t
        | false ↦ λ t. ap (λ b. cond b ((e.0, y) ∷ set_value test es x) (e ∷ set_value test (set_value test es x) y)) t ∙ ap (λ fs. e ∷ fs) (set_value-set_value es x y)
      ] refl

  -- a test of the values that does not tell the new one from the old
  pub any-set_value : (p : K × X → Bool) (es : List (K × X)) (x y : X) → lookup test es ≡ Some x → ((k : K) → p (k, y) ≡ p (k, x)) → list_any p (set_value test es y) ≡ list_any p es
  any-set_value p [] x y h same = refl
  any-set_value p (e ∷ es) x y h same =
      elim (test e.0) as (λ b. cond b (Some e.1) (lookup test es) ≡ Some x → list_any p (cond b ((e.0, y) ∷ es) (e ∷ set_value test es y)) ≡ list_any p (e ∷ es)) [
        | true ↦ λ q. ap (λ b. b || list_any p es) (same e.0 ∙ ap (λ z. p (e.0, z)) (some_same (sym q)))
        | false ↦ λ q. ap (λ b. p e || b) (any-set_value p es x y q same)
      ] h

-- a test of the values at what is found
pub at_lookup : {K X : Type 0} (test : K → Bool) (p : X → Bool) (es : List (K × X)) (x : X) → list_any (λ e. p e.1) es ≡ false → lookup test es ≡ Some x → p x ≡ false
at_lookup test p [] x none h = not_some (sym h)
at_lookup test p (e ∷ es) x none h =
    elim (test e.0) as (λ b. cond b (Some e.1) (lookup test es) ≡ Some x → p x ≡ false) [
      | true ↦ λ q. ap p (some_same (sym q)) ∙ or_left (p e.1) _ none
      | false ↦ λ q. at_lookup test p es x (or_right (p e.1) _ none) q
    ] h

pub any_none-remove_entry : {K X : Type 0} (test : K → Bool) (p : K × X → Bool) (es : List (K × X)) → list_any p es ≡ false → list_any p (remove_entry test es) ≡ false
any_none-remove_entry test p [] none = refl
any_none-remove_entry test p (e ∷ es) none =
    elim (test e.0) as (λ b. list_any p (cond b es (e ∷ remove_entry test es)) ≡ false) [
      | true ↦ or_right (p e) _ none
      | false ↦ or_false _ _ (or_left (p e) _ none) (any_none-remove_entry test p es (or_right (p e) _ none))
    ]

pub lookup-values : {K X Y : Type 0} (test : K → Bool) (f : X → Y) (es : List (K × X)) → lookup test (map (λ e. (e.0, f e.1)) es) ≡ option_map f (lookup test es)
lookup-values test f [] = refl
lookup-values test f (e ∷ es) =
    elim (test e.0) as (λ b. cond b (Some (f e.1)) (lookup test (map (λ e. (e.0, f e.1)) es)) ≡ option_map f (cond b (Some e.1) (lookup test es))) [
      | true ↦ refl
      | false ↦ lookup-values test f es
    ]

pub found : {X : Type 0} (n : Name) (es : List (Name × X)) → is_in n (map (λ e. e.0) es) ≡ is_some (lookup (is_named n) es)
found n [] = refl
found n (e ∷ es) =
    elim (is_named n e.0) as (λ b. (b || is_in n (map (λ e. e.0) es)) ≡ is_some (cond b (Some e.1) (lookup (is_named n) es))) [
      | true ↦ refl
      | false ↦ found n es
    ]

pub none_if : {X : Type 0} (o : Option X) → is_some o ≡ false → o ≡ None
none_if None h = refl
none_if (Some x) h = true_false refl h

-- maps in the order of their names

less_apart : (r : Ordering) → T (is_lt r) → is_eq r ≡ false
less_apart Less h = refl
less_apart Equal h = absurd h
less_apart Greater h = refl

both : (a b : Bool) → T a → T b → T (a && b)
both true b p q = q
both false b p q = absurd p

first : (a b : Bool) → T (a && b) → T a
first true b p = tt
first false b p = p

second : (a b : Bool) → T (a && b) → T b
second true b p = p
second false b p = absurd p

module _ {X : Type 0} where
  pub any_none-insert_entry : (p : Name × X → Bool) (es : List (Name × X)) (k : Name) (x : X) → ((n : Name) → p (n, x) ≡ p (k, x)) → p (k, x) ≡ false → list_any p es ≡ false → list_any p (insert_entry name_cmp es k x) ≡ false
  any_none-insert_entry p [] k x same new none = or_false _ _ new refl
  any_none-insert_entry p (e ∷ es) k x same new none =
      elim (name_cmp k e.0) as (λ r. list_any p (match_ordering r ((k, x) ∷ e ∷ es) ((e.0, x) ∷ es) (e ∷ insert_entry name_cmp es k x)) ≡ false) [
        | Less ↦ or_false _ _ new none
        | Equal ↦ or_false _ _ (same e.0 ∙ new) (or_right (p e) _ none)
        | Greater ↦ or_false _ _ (or_left (p e) _ none) (any_none-insert_entry p es k x same new (or_right (p e) _ none))
      ]

  insert_is_put : (es : List (Name × X)) (k : Name) (x : X) → insert_entry name_cmp es k x ≡ put name_cmp k x es
  insert_is_put [] k x = refl
  insert_is_put (e ∷ es) k x =
      elim (name_cmp k e.0) as (λ r. match_ordering r ((k, x) ∷ e ∷ es) ((e.0, x) ∷ es) (e ∷ insert_entry name_cmp es k x) ≡ by_order r ((k, x) ∷ e ∷ es) ((e.0, x) ∷ es) (e ∷ put name_cmp k x es)) [
        | Less ↦ refl
        | Equal ↦ refl
        | Greater ↦ ap (λ fs. e ∷ fs) (insert_is_put es k x)
      ]

  find_is_lookup : (q : Name) (es : List (Name × X)) → find name_cmp q es ≡ lookup (is_named q) es
  find_is_lookup q [] = refl
  find_is_lookup q (e ∷ es) = ap (cond (is_named q e.0) (Some e.1)) (find_is_lookup q es)

  below_keys : (k : Name) (es : List (Name × X)) → AllByRecursion (λ y. name_cmp k y ≡ Less) (keys_of es) → T (below_all name_cmp k es)
  below_keys k [] h = tt
  below_keys k (e ∷ es) h = both _ _ (rw h.0 tt) (below_keys k es h.1)

  pub sorted_entries : (es : List (Name × X)) → IsStrictlySortedBy name_cmp (keys_of es) → T (is_sorted name_cmp es)
  unfolding IsStrictlySortedBy
  sorted_entries [] h = tt
  sorted_entries (e ∷ es) h = both _ _ (below_keys e.0 es h.0) (sorted_entries es h.1)

  pub sorted-insert_entry : (es : List (Name × X)) (k : Name) (x : X) → T (is_sorted name_cmp es) → T (is_sorted name_cmp (insert_entry name_cmp es k x))
  sorted-insert_entry es k x h = rw (insert_is_put es k x) (is_sorted-put name_cmp nat_list_cmp_total k x es h)

  below-remove_entry : (k a : Name) (es : List (Name × X)) → T (below_all name_cmp k es) → T (below_all name_cmp k (remove_entry (is_named a) es))
  below-remove_entry k a [] h = tt
  below-remove_entry k a (e ∷ es) h =
      elim (is_named a e.0) as (λ b. T (below_all name_cmp k (cond b es (e ∷ remove_entry (is_named a) es)))) [
        | true ↦ second _ _ h
        | false ↦ both _ _ (first _ _ h) (below-remove_entry k a es (second _ _ h))
      ]

  pub sorted-remove_entry : (a : Name) (es : List (Name × X)) → T (is_sorted name_cmp es) → T (is_sorted name_cmp (remove_entry (is_named a) es))
  sorted-remove_entry a [] h = tt
  sorted-remove_entry a (e ∷ es) h =
      elim (is_named a e.0) as (λ b. T (is_sorted name_cmp (cond b es (e ∷ remove_entry (is_named a) es)))) [
        | true ↦ second _ _ h
        | false ↦ both _ _ (below-remove_entry e.0 a es (first _ _ h)) (sorted-remove_entry a es (second _ _ h))
      ]

  below-values : (f : X → X) (k : Name) (es : List (Name × X)) → T (below_all name_cmp k es) → T (below_all name_cmp k (map (λ e. (e.0, f e.1)) es))
  below-values f k [] h = tt
  below-values f k (e ∷ es) h = both _ _ (first _ _ h) (below-values f k es (second _ _ h))

  pub sorted-values : (f : X → X) (es : List (Name × X)) → T (is_sorted name_cmp es) → T (is_sorted name_cmp (map (λ e. (e.0, f e.1)) es))
  sorted-values f [] h = tt
  sorted-values f (e ∷ es) h = both _ _ (below-values f e.0 es (first _ _ h)) (sorted-values f es (second _ _ h))

  pub lookup-insert_entry : (es : List (Name × X)) (k : Name) (x : X) (q : Name) → lookup (is_named q) (insert_entry name_cmp es k x) ≡ cond (is_named q k) (Some x) (lookup (is_named q) es)
  lookup-insert_entry es k x q =
      ap (lookup (is_named q)) (insert_is_put es k x)
      ∙ sym (find_is_lookup q (put name_cmp k x es))
      ∙ find-put name_cmp nat_list_cmp_total q k x es
      ∙ ap (cond (is_named q k) (Some x)) (find_is_lookup q es)

  pub below_gone : (k : Name) (es : List (Name × X)) → T (below_all name_cmp k es) → lookup (is_named k) es ≡ None
  below_gone k [] h = refl
  below_gone k (e ∷ es) h = ap (λ b. cond b (Some e.1) (lookup (is_named k) es)) (less_apart (name_cmp k e.0) (first _ _ h)) ∙ below_gone k es (second _ _ h)

  pub lookup-remove_entry : (a : Name) (es : List (Name × X)) (q : Name) → T (is_sorted name_cmp es) → lookup (is_named q) (remove_entry (is_named a) es) ≡ cond (is_named a q) None (lookup (is_named q) es)
  lookup-remove_entry a [] q h = elim (is_named a q) as (λ b. (let o : Option X = None in o) ≡ cond b None None) [ true ↦ refl | false ↦ refl ]
  lookup-remove_entry a (e ∷ es) q h =
      elim (is_named a e.0) as (λ b. is_named a e.0 ≡ b → lookup (is_named q) (cond b es (e ∷ remove_entry (is_named a) es)) ≡ cond (is_named a q) None (cond (is_named q e.0) (Some e.1) (lookup (is_named q) es))) [
        | true ↦ λ p. elim (is_named a q) as (λ b. is_named a q ≡ b → lookup (is_named q) es ≡ cond b None (cond (is_named q e.0) (Some e.1) (lookup (is_named q) es))) [
          | true ↦ λ r. ap (λ n. lookup (is_named n) es) (sym (same_name a q r) ∙ same_name a e.0 p) ∙ below_gone e.0 es (first _ _ h)
          | false ↦ λ r. ap (λ b. cond b (Some e.1) (lookup (is_named q) es)) (sym (ap (is_named q) (sym (same_name a e.0 p)) ∙ other_way a q r))
        ] refl
        | false ↦ λ p. elim (is_named q e.0) as (λ b. is_named q e.0 ≡ b → cond b (Some e.1) (lookup (is_named q) (remove_entry (is_named a) es)) ≡ cond (is_named a q) None (cond b (Some e.1) (lookup (is_named q) es))) [
          | true ↦ λ r. ap (λ b. cond b None (Some e.1)) (sym (ap (is_named a) (same_name q e.0 r) ∙ p))
          | false ↦ λ r. lookup-remove_entry a es q (second _ _ h)
        ] refl
      ] refl

  pub same_maps : (es fs : List (Name × X)) → T (is_sorted name_cmp es) → T (is_sorted name_cmp fs) → ((q : Name) → lookup (is_named q) es ≡ lookup (is_named q) fs) → es ≡ fs
  same_maps es fs g h same =
      same_entries name_cmp nat_list_cmp_total (slice_cmp-IsAntisymmetric nat_cmp-IsAntisymmetric) es fs g h (λ q. find_is_lookup q es ∙ same q ∙ sym (find_is_lookup q fs))

-- a test that fails for all, and for the new value
pub any_none-set_value : {K X : Type 0} (test : K → Bool) (p : K × X → Bool) (es : List (K × X)) (y : X) → list_any p es ≡ false → ((k : K) → test k ≡ true → p (k, y) ≡ false) → list_any p (set_value test es y) ≡ false
any_none-set_value test p [] y none h = refl
any_none-set_value test p (e ∷ es) y none h =
    elim (test e.0) as (λ b. test e.0 ≡ b → list_any p (cond b ((e.0, y) ∷ es) (e ∷ set_value test es y)) ≡ false) [
      | true ↦ λ t. or_false _ _ (h e.0 t) (or_right (p e) _ none)
      | false ↦ λ t. or_false _ _ (or_left (p e) _ none) (any_none-set_value test p es y (or_right (p e) _ none) h)
    ] refl

-- a test that no table but the new one can fail
pub any_local : {K X : Type 0} (test : K → Bool) (p : X → Bool) (es : List (K × X)) (x y : X) → lookup test es ≡ Some x → list_any (λ e. p e.1) es ≡ false → list_any (λ e. p e.1) (set_value test es y) ≡ p y
any_local test p [] x y h none = not_some (sym h)
any_local test p (e ∷ es) x y h none =
    elim (test e.0) as (λ b. cond b (Some e.1) (lookup test es) ≡ Some x → list_any (λ z. p z.1) (cond b ((e.0, y) ∷ es) (e ∷ set_value test es y)) ≡ p y) [
      | true ↦ λ q. ap (λ b. p y || b) (or_right (p e.1) _ none) ∙ or_nothing (p y)
      | false ↦ λ q. ap (λ b. b || list_any (λ z. p z.1) (set_value test es y)) (or_left (p e.1) _ none) ∙ any_local test p es x y q (or_right (p e.1) _ none)
    ] h
  where
    or_nothing : (b : Bool) → (b || false) ≡ b
    or_nothing true = refl
    or_nothing false = refl

-- the names of sorted entries rise

is_less : (r : Ordering) → T (is_lt r) → r ≡ Less
is_less Less h = refl
is_less Equal h = absurd h
is_less Greater h = absurd h

keys_below : {X : Type 0} (k : Name) (es : List (Name × X)) → T (below_all name_cmp k es) → AllByRecursion (λ y. name_cmp k y ≡ Less) (keys_of es)
keys_below k [] h = tt
keys_below k (e ∷ es) h = (is_less _ (first _ _ h), keys_below k es (second (is_lt (name_cmp k e.0)) _ h))

pub sorted_keys : {X : Type 0} (es : List (Name × X)) → T (is_sorted name_cmp es) → IsStrictlySortedBy name_cmp (keys_of es)
unfolding IsStrictlySortedBy
sorted_keys [] h = tt
sorted_keys (e ∷ es) h = (keys_below e.0 es (first _ _ h), sorted_keys es (second (below_all name_cmp e.0 es) _ h))
