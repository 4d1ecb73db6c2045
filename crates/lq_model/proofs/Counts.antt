-- How often a name stands among the names of entries, and among those of their values.
use Rattle.std.proofs.Common.{ap, arith, sym, ◌∙◌}
use Rattle.std.specs.BTreeMap.{insert_entry}
use Rattle.std.specs.List.{flat_map}
use Rattle.std.specs.Map.{lookup, remove_entry}
use Rattle.std.specs.Ordering.{is_eq, match_ordering}
use Rattle.std.specs.Prelude.{Bool, List, None, Some, [], cond, false, map, refl, true, ℕ, ◌+◌, ◌∷◌, ◌≡◌, ◌≤◌}
use Rattle.std.specs.declared.cmp.Ordering.TheVariants.{Equal, Greater, Less}
use Rattle.lq_base.specs.Name.{is_named, name_cmp}
use Rattle.lq_base.specs.declared.name.Name.{Name}
use Rattle.lq_model.specs.Catalogue.{times}
use Rattle.lq_model.proofs.Lists.{same_name}
use Rattle.lq_model.proofs.Maps.{not_some, some_same}
use Rattle.lq_model.proofs.Times.{times-append}

abbrev pub once : Bool → ℕ
once b = cond b 1 0

-- how often a name stands among the names of entries, and among those of their values

module _ {X : Type 0} (f : Name × X → List Name) (n : Name) where
  abbrev pub keys_count : List (Name × X) → ℕ
  keys_count es = times n (map (λ e. e.0) es)

  abbrev pub inner_count : List (Name × X) → ℕ
  inner_count es = times n (flat_map f es)

  pub keys-insert : (es : List (Name × X)) (k : Name) (x : X) → lookup (is_named k) es ≡ None → keys_count (insert_entry name_cmp es k x) ≡ keys_count es + cond (is_named n k) 1 0
  keys-insert [] k x none = omega arith
  keys-insert (e ∷ es) k x none =
      elim (name_cmp k e.0) as (λ r. cond (is_eq r) (Some e.1) (lookup (is_named k) es) ≡ None → keys_count (match_ordering r ((k, x) ∷ e ∷ es) ((e.0, x) ∷ es) (e ∷ insert_entry name_cmp es k x)) ≡ keys_count (e ∷ es) + cond (is_named n k) 1 0) [
        | Less ↦ λ h. omega arith
        | Equal ↦ λ h. not_some h
        | Greater ↦ λ h. let r = keys-insert es k x h in omega (arith, r)
      ] none

  pub inner-insert : (es : List (Name × X)) (k : Name) (x : X) → lookup (is_named k) es ≡ None → inner_count (insert_entry name_cmp es k x) ≡ inner_count es + times n (f (k, x))
  inner-insert [] k x none = let a = times-append n (f (k, x)) [] in omega (arith, a)
  inner-insert (e ∷ es) k x none =
      elim (name_cmp k e.0) as (λ r. cond (is_eq r) (Some e.1) (lookup (is_named k) es) ≡ None → inner_count (match_ordering r ((k, x) ∷ e ∷ es) ((e.0, x) ∷ es) (e ∷ insert_entry name_cmp es k x)) ≡ inner_count (e ∷ es) + times n (f (k, x))) [
        | Less ↦ λ h. let a = times-append n (f (k, x)) (flat_map f (e ∷ es)) in omega (arith, a)
        | Equal ↦ λ h. not_some h
        | Greater ↦ λ h.
            let r = inner-insert es k x h in
            let a = times-append n (f e) (flat_map f es) in
            let b = times-append n (f e) (flat_map f (insert_entry name_cmp es k x)) in
            omega (arith, r, a, b)
      ] none

  pub keys-remove : (es : List (Name × X)) (k : Name) (x : X) → lookup (is_named k) es ≡ Some x → keys_count (remove_entry (is_named k) es) + cond (is_named n k) 1 0 ≡ keys_count es
  keys-remove [] k x h = not_some (sym h)
  keys-remove (e ∷ es) k x h =
      elim (is_named k e.0) as (λ b. is_named k e.0 ≡ b → cond b (Some e.1) (lookup (is_named k) es) ≡ Some x → keys_count (cond b es (e ∷ remove_entry (is_named k) es)) + cond (is_named n k) 1 0 ≡ keys_count (e ∷ es)) [
        | true ↦ λ p q. let s : once (is_named n k) ≡ once (is_named n e.0) = ap (λ m. once (is_named n m)) (same_name k e.0 p) in omega (arith, s)
        | false ↦ λ p q. let r = keys-remove es k x q in omega (arith, r)
      ] refl h

  pub inner-remove : (es : List (Name × X)) (k : Name) (x : X) → lookup (is_named k) es ≡ Some x → inner_count (remove_entry (is_named k) es) + times n (f (k, x)) ≡ inner_count es
  inner-remove [] k x h = not_some (sym h)
  inner-remove (e ∷ es) k x h =
      elim (is_named k e.0) as (λ b. is_named k e.0 ≡ b → cond b (Some e.1) (lookup (is_named k) es) ≡ Some x → inner_count (cond b es (e ∷ remove_entry (is_named k) es)) + times n (f (k, x)) ≡ inner_count (e ∷ es)) [
        | true ↦ λ p q.
            let s : times n (f e) ≡ times n (f (k, x)) = ap (λ z. times n (f (e.0, z))) (some_same q) ∙ ap (λ z. times n (f (z, x))) (sym (same_name k e.0 p)) in
            let a = times-append n (f e) (flat_map f es) in
            omega (arith, s, a)
        | false ↦ λ p q.
            let r = inner-remove es k x q in
            let a = times-append n (f e) (flat_map f es) in
            let b = times-append n (f e) (flat_map f (remove_entry (is_named k) es)) in
            omega (arith, r, a, b)
      ] refl h

  pub keys-values : (g : X → X) (es : List (Name × X)) → keys_count (map (λ e. (e.0, g e.1)) es) ≡ keys_count es
  keys-values g [] = refl
  keys-values g (e ∷ es) = ap (λ k. cond (is_named n e.0) 1 0 + k) (keys-values g es)

  pub inner-values : (g : X → X) (es : List (Name × X)) → ((e : Name × X) → f (e.0, g e.1) ≡ f e) → inner_count (map (λ e. (e.0, g e.1)) es) ≡ inner_count es
  inner-values g [] same = refl
  inner-values g (e ∷ es) same = times-append n (f (e.0, g e.1)) _ ∙ ap (λ ns. times n ns + inner_count (map (λ z. (z.0, g z.1)) es)) (same e) ∙ ap (λ k. times n (f e) + k) (inner-values g es same) ∙ sym (times-append n (f e) _)

-- one name for another that was there once
pub swapped : (n a b : Name) (was now : ℕ) → was ≤ 1 → is_named a b ≡ false → (is_named n b ≡ true → was ≡ 0) → now + once (is_named n a) ≡ was + once (is_named n b) → now ≤ 1
swapped n a b was now h apart free is = elim (is_named n b) as (λ r. is_named n b ≡ r → now + once (is_named n a) ≡ was + once r → now ≤ 1) [
  | true ↦ λ p q. let z = free p in omega (arith, q, z)
  | false ↦ λ p q. omega (arith, q, h)
] refl is
