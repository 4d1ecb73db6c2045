-- How often names stand in lists.
use Rattle.std.proofs.Common.{ap, arith, sym, ◌∙◌}
use Rattle.std.specs.List.{flat_map}
use Rattle.std.specs.Map.{lookup, set_value}
use Rattle.std.specs.Prelude.{List, Some, [], cond, false, refl, true, ℕ, ◌++◌, ◌+◌, ◌||◌, ◌∷◌, ◌≡◌, ◌≤◌}
use Rattle.lq_base.specs.Name.{is_named}
use Rattle.lq_base.specs.declared.name.Name.{Name}
use Rattle.lq_model.specs.Catalogue.{is_in, times}
use Rattle.lq_model.proofs.Lists.{same_name, true_false}
use Rattle.lq_model.proofs.Maps.{not_some, some_same}

pub times-append : (n : Name) (xs ys : List Name) → times n (xs ++ ys) ≡ times n xs + times n ys
times-append n [] ys = omega arith
times-append n (x ∷ xs) ys = let h = times-append n xs ys in omega (arith, h)

pub times_none : (n : Name) (xs : List Name) → is_in n xs ≡ false → times n xs ≡ 0
times_none n [] h = refl
times_none n (x ∷ xs) h = elim (is_named n x) as (λ b. (b || is_in n xs) ≡ false → cond b 1 0 + times n xs ≡ 0) [
  | true ↦ λ p. true_false refl p
  | false ↦ λ p. let r = times_none n xs p in omega (arith, r)
] h

pub none_times : (n : Name) (xs : List Name) → times n xs ≡ 0 → is_in n xs ≡ false
none_times n [] h = refl
none_times n (x ∷ xs) h = elim (is_named n x) as (λ b. cond b 1 0 + times n xs ≡ 0 → (b || is_in n xs) ≡ false) [
  | true ↦ λ p. absurd (omega (arith, p))
  | false ↦ λ p. none_times n xs (omega (arith, p))
] h

pub times_some : (n : Name) (xs : List Name) → is_in n xs ≡ true → 1 ≤ times n xs
times_some n [] h = true_false refl (sym h)
times_some n (x ∷ xs) h = elim (is_named n x) as (λ b. (b || is_in n xs) ≡ true → 1 ≤ cond b 1 0 + times n xs) [
  | true ↦ λ p. omega arith
  | false ↦ λ p. let r = times_some n xs p in omega (arith, r)
] h

pub times_left : (n : Name) (xs ys : List Name) → times n (xs ++ ys) ≤ 1 → times n xs ≤ 1
times_left n xs ys h = let s = times-append n xs ys in omega (arith, h, s)

pub apart_right : (n : Name) (xs ys : List Name) → times n (xs ++ ys) ≤ 1 → is_in n xs ≡ true → is_in n ys ≡ false
apart_right n xs ys h is = let s = times-append n xs ys in let o = times_some n xs is in none_times n ys (omega (arith, h, s, o))

-- another table has other names
pub times-set_value : {X : Type 0} (t : Name) (f : Name × X → List Name) (n : Name) (es : List (Name × X)) (x y : X) → lookup (is_named t) es ≡ Some x → times n (flat_map f (set_value (is_named t) es y)) + times n (f (t, x)) ≡ times n (flat_map f es) + times n (f (t, y))
times-set_value t f n [] x y h = not_some (sym h)
times-set_value t f n (e ∷ es) x y h =
    elim (is_named t e.0) as (λ b. is_named t e.0 ≡ b → cond b (Some e.1) (lookup (is_named t) es) ≡ Some x → times n (flat_map f (cond b ((e.0, y) ∷ es) (e ∷ set_value (is_named t) es y))) + times n (f (t, x)) ≡ times n (flat_map f (e ∷ es)) + times n (f (t, y))) [
      | true ↦ λ p q.
          let a = times-append n (f (e.0, y)) (flat_map f es) in
          let b = times-append n (f e) (flat_map f es) in
          let s : times n (f e) ≡ times n (f (t, x)) = ap (λ z. times n (f (e.0, z))) (some_same q) ∙ ap (λ z. times n (f (z, x))) (sym (same_name t e.0 p)) in
          let u : times n (f (e.0, y)) ≡ times n (f (t, y)) = ap (λ z. times n (f (z, y))) (sym (same_name t e.0 p)) in
          omega (arith, a, b, s, u)
      | false ↦ λ p q.
          let r = times-set_value t f n es x y q in
          let a = times-append n (f e) (flat_map f (set_value (is_named t) es y)) in
          let b = times-append n (f e) (flat_map f es) in
          omega (arith, r, a, b)
    ] refl h

-- one name more, which was not there
pub one_more : (n m : Name) (k : ℕ) (xs : List Name) → is_in m xs ≡ false → times n xs ≤ 1 → k ≡ times n xs + cond (is_named n m) 1 0 → k ≤ 1
one_more n m k xs out h is = elim (is_named n m) as (λ b. is_named n m ≡ b → k ≡ times n xs + cond b 1 0 → k ≤ 1) [
  | true ↦ λ p q. let z : times n xs ≡ 0 = ap (λ a. times a xs) (same_name n m p) ∙ times_none m xs out in omega (arith, q, z)
  | false ↦ λ p q. omega (arith, q, h)
] refl is
