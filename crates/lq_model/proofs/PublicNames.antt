-- Names in `public`, by how often names stand in lists.
use Rattle.std.proofs.Common.{ap, arith, sym, ◌∙◌}
use Rattle.std.specs.List.{list_all, list_any}
use Rattle.std.specs.Prelude.{Bool, List, [], false, map, not, refl, true, ℕ, ◌&&◌, ◌++◌, ◌+◌, ◌||◌, ◌∷◌, ◌≡◌, ◌≤◌}
use Rattle.lq_base.specs.Name.{beside, is_elsewhere, is_name, is_named, is_object}
use Rattle.lq_base.specs.declared.dialect.Dialect.{Dialect}
use Rattle.lq_base.specs.declared.dialect.Dialect.TheVariants.{Mysql, Postgresql}
use Rattle.lq_base.specs.declared.name.Name.{Name}
use Rattle.lq_base.proofs.BesideLemmas.{not_elsewhere, place_here, public_there}
use Rattle.lq_model.specs.Catalogue.{Catalogue, Sequence, Table, is_empty, is_in, times, column_names, constraint_names, own_names, placed}
use Rattle.lq_model.specs.NameSpaces.{object_names, lock_key}
use Rattle.lq_model.specs.Sound.{may_have, may_name}
use Rattle.lq_model.specs.declared.index.Index.{Index}
use Rattle.lq_model.proofs.Counts.{once}
use Rattle.lq_model.proofs.Kept.{not_so_true}
use Rattle.lq_model.proofs.Lists.{and_left, and_right, any-append, named_itself, or_false, or_left, or_right, same_name, true_false, whether}
use Rattle.lq_model.proofs.NameCounts.{constraint_sum, foreign_at, indexes_at, keys_at, uniques_at}
use Rattle.lq_model.proofs.Spaces.{IsNamed}
use Rattle.lq_model.proofs.Times.{times-append}

there_out : (p : Name → Bool) (y : Name) (xs : List Name) → list_any p xs ≡ false → 1 ≤ times y xs → p y ≡ false
there_out p y [] none h = absurd (omega (arith, h))
there_out p y (x ∷ xs) none h = whether (is_named y x)
    (λ is. ap p (same_name y x is) ∙ or_left (p x) _ none)
    (λ apart. let e : once (is_named y x) ≡ 0 = ap once apart in there_out p y xs (or_right (p x) _ none) (omega (arith, h, e)))

-- what no name of a list has, no name has that stands there
pub counted_out : (p : Name → Bool) (xs ys : List Name) → list_any p xs ≡ false → ((n : Name) → times n ys ≤ times n xs) → list_any p ys ≡ false
counted_out p xs [] none fewer = refl
counted_out p xs (y ∷ ys) none fewer = or_false _ _
    (there_out p y xs none (let f = fewer y in let e : once (is_named y y) ≡ 1 = ap once (named_itself y) in omega (arith, f, e)))
    (counted_out p xs ys none (λ n. let f = fewer n in omega (arith, f)))

-- ---- the names in a table

abbrev pub columns_at : Name → Table → ℕ
columns_at n it = times n (column_names it)

pub own_sum : (n : Name) (it : Table) → times n (own_names it) ≡ columns_at n it + (keys_at n it + (uniques_at n it + (foreign_at n it + indexes_at n it)))
own_sum n it =
    let is = map (λ (i : Index). i.name) it.indexes in
    let a = times-append n (column_names it) (constraint_names it ++ is) in
    let b = times-append n (constraint_names it) is in
    let c = constraint_sum n it in
    omega (arith, a, b, c)

-- a table with no names but those of another, and some more, has names in `public`
pub public_by : (it new : Table) (more : List Name) → list_any is_elsewhere more ≡ false
    → ((n : Name) → columns_at n new + (keys_at n new + (uniques_at n new + (foreign_at n new + indexes_at n new))) ≤ times n more + (columns_at n it + (keys_at n it + (uniques_at n it + (foreign_at n it + indexes_at n it)))))
    → list_any is_elsewhere (own_names it) ≡ false → list_any is_elsewhere (own_names new) ≡ false
public_by it new more out fewer old = counted_out is_elsewhere (more ++ own_names it) (own_names new)
    (any-append is_elsewhere more (own_names it) ∙ or_false _ _ out old)
    (λ n. let f = fewer n in let a = times-append n more (own_names it) in let x = own_sum n it in let y = own_sum n new in omega (arith, f, a, x, y))

-- one name is in `public`
pub one_public : (n : Name) → is_name n ≡ true → list_any is_elsewhere (n ∷ []) ≡ false
one_public n is = or_false _ _ (not_elsewhere n is) refl

-- names of what passes a test for names are in `public`
pub names_public : {A : Type 0} (f : A → Name) (p : A → Bool) (xs : List A) → ((x : A) → p x ≡ true → is_name (f x) ≡ true) → list_all p xs ≡ true → list_any is_elsewhere (map f xs) ≡ false
names_public f p [] h all = refl
names_public f p (x ∷ xs) h all = or_false _ _ (not_elsewhere (f x) (h x (and_left (p x) _ all))) (names_public f p xs h (and_right (p x) _ all))

-- ---- the names of objects

pub schemas_fewer : (d : Dialect) (xs ys : List Name) → ((n : Name) → times n ys ≤ times n xs) → may_name d xs ≡ true → may_name d ys ≡ true
schemas_fewer Postgresql xs ys fewer h = refl
schemas_fewer Mysql xs ys fewer h = ap not (counted_out is_elsewhere xs ys (not_so_true _ h) fewer)

one_more : (d : Dialect) (b : Name) (xs : List Name) → is_object d b ≡ true → may_name d xs ≡ true → may_name d (b ∷ xs) ≡ true
one_more Postgresql b xs is h = refl
one_more Mysql b xs is h = ap not (or_false _ _ (not_elsewhere b is) (not_so_true _ h))

pub schemas_more : (d : Dialect) (b : Name) (xs ys : List Name) → is_object d b ≡ true → ((n : Name) → times n ys ≤ times n xs + once (is_named n b)) → may_name d xs ≡ true → may_name d ys ≡ true
schemas_more d b xs ys is fewer h = schemas_fewer d (b ∷ xs) ys (λ n. let f = fewer n in omega (arith, f)) (one_more d b xs is h)

pub schemas_less : (d : Dialect) (c e : Catalogue) (less : Name → ℕ) → IsNamed c e less (λ n. 0) → may_name d (object_names c) ≡ true → may_name d (object_names e) ≡ true
schemas_less d c e less named = schemas_fewer d (object_names c) (object_names e) (λ n. let o = named.objects n in omega (arith, o))

pub schemas_new : (d : Dialect) (c e : Catalogue) (less : Name → ℕ) (b : Name) → is_object d b ≡ true → IsNamed c e less (λ n. once (is_named n b)) → may_name d (object_names c) ≡ true → may_name d (object_names e) ≡ true
schemas_new d c e less b is named = schemas_more d b (object_names c) (object_names e) is (λ n. let o = named.objects n in omega (arith, o))

-- other sequences
pub schemas_sequences : (d : Dialect) (c : Catalogue) (ss : List (Name × Sequence)) → may_have d c.sequences ≡ true → may_have d ss ≡ true → may_name d (object_names c) ≡ true → may_name d (object_names (record c { sequences = ss })) ≡ true
schemas_sequences Postgresql c ss old new h = refl
schemas_sequences Mysql c ss old new h =
    ap (λ (xs : List (Name × Sequence)). may_name Mysql (map (λ e. e.0) c.tables ++ (map (λ e. e.0) c.views ++ map (λ e. e.0) xs))) (empty_is ss new ∙ sym (empty_is c.sequences old)) ∙ h
  where
    empty_is : (xs : List (Name × Sequence)) → is_empty xs ≡ true → xs ≡ []
    empty_is [] e = refl
    empty_is (x ∷ xs) e = true_false e refl

-- ---- names inside a table

pub public_here : (n t m : Name) → is_elsewhere t ≡ false → is_named n m ≡ is_named n (beside t m)
public_here n t m is = ap (λ p. is_named n (p ++ m)) (sym (place_here t is))

-- inside a table of `public` names count as they are
pub placed_public : (t : Name) (ns : List Name) → is_elsewhere t ≡ false → placed t ns ≡ ns
placed_public t [] is = refl
placed_public t (n ∷ ns) is = ap (λ p. (p ++ n) ∷ placed t ns) (place_here t is) ∙ ap (λ ms. n ∷ ms) (placed_public t ns is)

-- a name in `public` is that of what is inside a table of `public`
pub public_placed : (n t : Name) (ns : List Name) → is_elsewhere n ≡ false → (not (is_elsewhere t) && is_in n ns) ≡ is_in n (placed t ns)
public_placed n t ns free = whether (is_elsewhere t) (λ is. rw (is) (none ns is)) (λ here. rw (here) (all ns here)) where
  none : (ms : List Name) → is_elsewhere t ≡ true → false ≡ is_in n (placed t ms)
  none [] is = refl
  none (m ∷ ms) is = sym (or_false _ _ (public_there n t m free is) (sym (none ms is)))

  all : (ms : List Name) → is_elsewhere t ≡ false → is_in n ms ≡ is_in n (placed t ms)
  all [] here = refl
  all (m ∷ ms) here = ap (λ b. b || is_in n ms) (public_here n t m here) ∙ ap (λ b. is_named n (beside t m) || b) (all ms here)

pub none_placed : (n t : Name) (ns : List Name) → is_elsewhere n ≡ false → is_in n ns ≡ false → is_in n (placed t ns) ≡ false
none_placed n t ns free none = sym (public_placed n t ns free) ∙ ap (λ b. not (is_elsewhere t) && b) none ∙ never (not (is_elsewhere t)) where
  never : (b : Bool) → (b && false) ≡ false
  never true = refl
  never false = refl

-- the lock table's key is in `public`

pub lock_key_there : (t n : Name) → is_elsewhere t ≡ true → false ≡ is_named lock_key (beside t n)
lock_key_there t n is = sym (public_there lock_key t n refl is)

pub lock_key_here : (t n : Name) → is_elsewhere t ≡ false → is_named lock_key n ≡ is_named lock_key (beside t n)
lock_key_here t n is = public_here lock_key t n is

pub lock_key_placed : (t : Name) (ns : List Name) → (not (is_elsewhere t) && list_any (is_named lock_key) ns) ≡ list_any (is_named lock_key) (placed t ns)
lock_key_placed t ns = public_placed lock_key t ns refl
